-- The line on which a stop is listed: each listed stop stands on the line before which the lines of its path stand.
use Rattle.std.specs.Prelude.{◌≡◌, refl, ℕ, suc, ◌+◌, ◌<◌, Bool, true, false, ◌&&◌, nat_eq, if◌then◌else◌, List, [], ◌∷◌, ◌++◌, length, map, flat_map, All, Option, Some, None, IsSomeAnd, is_some}
use Rattle.std.specs.List.{range_with_len}
use Rattle.std.specs.Option.{option_eq, option_map_or}
use Rattle.std.specs.Str.{bytes_eq}
use Rattle.std.proofs.Common.{ap, sym, ◌∙◌, arith}
use Rattle.std.proofs.lemmas.Bool.{false≢true}
use Rattle.std.proofs.lemmas.Bool.Decides.{Decides-eqb}
use Rattle.std.proofs.lemmas.List.Elements.{All-append, All-cons, All-head, All-map, All-nil, All-same, All-tail, All-weaker}
use Rattle.std.proofs.lemmas.Slice.Eq.{bytes_eq-Decides}
use Rattle.plcs_grammar.specs.Template.{PlainSection, row_of, program_sections}
use Rattle.template_tree.specs.Programs.PlainTree.{Forest, Label, PlainNode}
use Rattle.template_tree.specs.Programs.Program.{sort_of}
use Rattle.template_tree.specs.Listings.Section.{left_for, left_after, next_lead}
use Rattle.template_tree.specs.Listings.Line.{fixed_line, lines}
use Rattle.template_tree.specs.Positions.Stop.{IsStop, MayStand, PlainStop, VisibleNode, VisibleStop, inside, line_at, listed_stop, part_stops, same_stop, stops_of, visible_at, visible_nodes}
use Rattle.unparse_layout.specs.Bones.{Bone, PlainLayout, bones_of}
use Rattle.unparse_layout.specs.Private.PlainNodeLayout.{node_layout_of}
use Rattle.unparse_layout.specs.Private.Height.{height, heights}
use Rattle.unparse_layout.specs.Private.ItemLines.{lines_before}
use Rattle.unparse_layout.proofs.StopLines.{fixed_length, lines_before_next, plain_length, stop_line}

-- ---- two stops are one

part_itself : (part : Option ℕ) → option_eq nat_eq part part ≡ true
part_itself None = refl
part_itself (Some n) = (Decides-eqb n n).1 refl

stop_itself : (stop : PlainStop) → same_stop stop stop ≡ true
stop_itself stop = rw ((bytes_eq-Decides stop.path stop.path).1 refl) (part_itself stop.part)

same_part : (one other : Option ℕ) → option_eq nat_eq one other ≡ true → one ≡ other
same_part None None e = refl
same_part None (Some n) e = absurd (false≢true e)
same_part (Some m) None e = absurd (false≢true e)
same_part (Some m) (Some n) e = ap Some ((Decides-eqb m n).0 e)

both : (a b : Bool) → (a && b) ≡ true → (a ≡ true) × (b ≡ true)
both true b e = (refl, e)
both false b e = absurd (false≢true e)

stops_same : (one other : PlainStop) → same_stop one other ≡ true → one ≡ other
stops_same one other e =
    let halves = both (bytes_eq one.path other.path) (option_eq nat_eq one.part other.part) e in
    let paths = (bytes_eq-Decides one.path other.path).0 halves.0 in
    let parts = same_part one.part other.part halves.1 in
    λ i. record { path = paths i; part = parts i }

-- ---- each visible node stands on the line of its path

-- the path of a node begins with a number from this one on, and so many lines stand before it
record StandsAt (k line : ℕ) (items : PlainLayout) (node : VisibleNode) : Type 0 where
  number : ℕ
  path : List ℕ
  path_is : node.path ≡ (k + number) ∷ path
  line_is : node.line ≡ line + lines_before items number path

-- what is kept of a node for which these sections are left
abbrev bone_of : List PlainSection → Label → Bone
bone_of left label =
    record { slot = label.slot; kind = label.kind; elided = label.elided; led = is_some (next_lead (left_for (sort_of label.kind) left)) }

-- the first line of the first node
abbrev first_of : List PlainSection → ℕ → Label → ℕ
first_of left line label = line + length (fixed_line 0 (next_lead (left_for (sort_of label.kind) left)))

own_stands : (left : List PlainSection) (k line : ℕ) (label : Label) (inner rest : Forest)
    → StandsAt k line (bones_of left (Forest.cons label inner rest)) record { path = k ∷ []; line = first_of left line label; parts = part_stops label.kind }
own_stands left k line label inner rest = record {
  number = 0;
  path = [];
  path_is = ap (λ n. n ∷ []) (omega arith);
  line_is = omega (arith, fixed_length 0 (next_lead (left_for (sort_of label.kind) left)));
}

inner_stands : (left : List PlainSection) (k line : ℕ) (label : Label) (inner rest : Forest) (node : VisibleNode)
    → StandsAt 0 (first_of left line label + 1) (bones_of (row_of label.kind).sections inner) node
    → StandsAt k line (bones_of left (Forest.cons label inner rest)) (inside k node)
inner_stands left k line label inner rest node h =
    let number : 0 + h.number ≡ h.number = omega arith in
    let front : k ≡ k + 0 = omega arith in
    record {
      number = 0;
      path = h.number ∷ h.path;
      path_is = ap (λ path. k ∷ path) (h.path_is ∙ ap (λ n. n ∷ h.path) number) ∙ ap (λ n. n ∷ (h.number ∷ h.path)) front;
      line_is = omega (arith, h.line_is, fixed_length 0 (next_lead (left_for (sort_of label.kind) left)));
    }

later_stands : (left : List PlainSection) (k line : ℕ) (label : Label) (inner rest : Forest) (node : VisibleNode)
    → StandsAt (k + 1) (line + length (lines true 0 left (Forest.cons label inner Forest.nil)))
    (bones_of (left_after (left_for (sort_of label.kind) left)) rest) node
    → StandsAt k line (bones_of left (Forest.cons label inner rest)) node
later_stands left k line label inner rest node h =
    let own : PlainNode = record { label = label; inner = inner } in
    let here = left_for (sort_of label.kind) left in
    let long : height (node_layout_of (is_some (next_lead here)) own) + 0 ≡ length (lines true 0 left (Forest.cons label inner Forest.nil)) =
    plain_length 0 left (Forest.cons label inner Forest.nil) in
    let next = lines_before_next (bone_of left label) (bones_of (row_of label.kind).sections inner) (bones_of (left_after here) rest) h.number h.path in
    let number : k + 1 + h.number ≡ k + suc h.number = omega arith in
    record {
      number = suc h.number;
      path = h.path;
      path_is = h.path_is ∙ ap (λ n. n ∷ h.path) number;
      line_is = omega (arith, h.line_is, long, next);
    }

-- those inside a node, where they are visible
inside_stand : (k line : ℕ) (items inner : PlainLayout) (elided : Bool) (below : List VisibleNode) (before : ℕ)
    → ((node : VisibleNode) → StandsAt 0 before inner node → StandsAt k line items (inside k node)) → All (StandsAt 0 before inner) below
    → All (λ node. StandsAt k line items (inside k node)) (if elided then [] else below)
inside_stand k line items inner true below before law h = All-nil _
inside_stand k line items inner false below before law h =
    All-weaker (StandsAt 0 before inner) (λ node. StandsAt k line items (inside k node)) law below h

all_stand : (left : List PlainSection) (k line : ℕ) (items : Forest) → All (StandsAt k line (bones_of left items)) (visible_nodes left k line items)
all_stand left k line Forest.nil = All-nil _
all_stand left k line (Forest.cons label inner rest) =
    let here = left_for (sort_of label.kind) left in
    let first = first_of left line label in
    let own : VisibleNode = record { path = []; line = first; parts = part_stops label.kind } in
    let below = visible_nodes (row_of label.kind).sections 0 (first + 1) inner in
    let shown = if label.elided then [] else below in
    let later = line + length (lines true 0 left (Forest.cons label inner Forest.nil)) in
    let others = visible_nodes (left_after here) (k + 1) later rest in
    let Stands : VisibleNode → Type 0 = StandsAt k line (bones_of left (Forest.cons label inner rest)) in
    All-append Stands (map (inside k) (own ∷ shown)) others
    (All-map Stands (inside k) (own ∷ shown)
    (All-cons (λ node. Stands (inside k node)) own shown (own_stands left k line label inner rest)
    (inside_stand k line (bones_of left (Forest.cons label inner rest)) (bones_of (row_of label.kind).sections inner) label.elided below (first + 1)
    (inner_stands left k line label inner rest) (all_stand (row_of label.kind).sections 0 (first + 1) inner))))
    (All-weaker (StandsAt (k + 1) later (bones_of (left_after here) rest)) Stands (later_stands left k line label inner rest) others
    (all_stand (left_after here) (k + 1) later rest))

-- ---- and so does each stop

-- where it is this stop, it stands on this line
abbrev StandsThere : PlainStop → ℕ → VisibleStop → Type 0
StandsThere stop line listed = listed.stop ≡ stop → listed.line ≡ line

node_line : (items : PlainLayout) (node : VisibleNode) (stop : PlainStop) (k : ℕ) (rest : List ℕ) → stop.path ≡ k ∷ rest → StandsAt 0 0 items node
    → (part : Option ℕ) → record { path = node.path; part = part } ≡ stop → node.line ≡ lines_before items k rest
node_line items node stop k rest way h part same =
    let path : (0 + h.number) ∷ h.path ≡ k ∷ rest = sym h.path_is ∙ ap (λ (s : PlainStop). s.path) same ∙ way in
    let front : 0 + h.number ≡ k = cc in
    let behind : h.path ≡ rest = cc in
    let number : h.number ≡ k = omega (arith, front) in
    let line : lines_before items h.number h.path ≡ lines_before items k rest = λ i. lines_before items (number i) (behind i) in
    omega (arith, h.line_is, line)

own_stops_stand : (items : PlainLayout) (stop : PlainStop) (k : ℕ) (rest : List ℕ) → stop.path ≡ k ∷ rest → (node : VisibleNode) → StandsAt 0 0 items node
    → All (StandsThere stop (lines_before items k rest)) (stops_of node)
own_stops_stand items stop k rest way node h =
    let There : VisibleStop → Type 0 = StandsThere stop (lines_before items k rest) in
    let of_part : Option ℕ → VisibleStop = λ part. record { stop = record { path = node.path; part = part }; line = node.line } in
    let numbers = range_with_len 0 node.parts in
    All-cons There (of_part None) (map (λ n. of_part (Some n)) numbers) (node_line items node stop k rest way h None)
    (All-map There (λ n. of_part (Some n)) numbers (λ j d below. node_line items node stop k rest way h (Some _)))

stops_stand : (items : PlainLayout) (stop : PlainStop) (k : ℕ) (rest : List ℕ) → stop.path ≡ k ∷ rest → (nodes : List VisibleNode) → All (StandsAt 0 0 items) nodes
    → All (StandsThere stop (lines_before items k rest)) (flat_map stops_of nodes)
stops_stand items stop k rest way [] h = All-nil _
stops_stand items stop k rest way (node ∷ nodes) h =
    All-append (StandsThere stop (lines_before items k rest)) (stops_of node) (flat_map stops_of nodes)
    (own_stops_stand items stop k rest way node (All-head (StandsAt 0 0 items) node nodes h))
    (stops_stand items stop k rest way nodes (All-tail (StandsAt 0 0 items) node nodes h))

-- ---- the stop that is found first

-- the line on which the stop stands that is found first
abbrev first_line : List VisibleStop → PlainStop → ℕ
first_line stops stop = option_map_or (λ listed. listed.line) (listed_stop stops stop) 0

found_line : (before behind : List VisibleStop) (stop : PlainStop) (line : ℕ)
    → All (StandsThere stop line) (before ++ (record { stop = stop; line = line } ∷ behind))
    → first_line (before ++ (record { stop = stop; line = line } ∷ behind)) stop ≡ line
found_line [] behind stop line h = rw (stop_itself stop) refl
found_line (listed ∷ before) behind stop line h =
    let others = before ++ (record { stop = stop; line = line } ∷ behind) in
    by_test (same_stop listed.stop stop) refl others (All-head (StandsThere stop line) listed others h)
    (found_line before behind stop line (All-tail (StandsThere stop line) listed others h))
  where
    by_test : (b : Bool) → same_stop listed.stop stop ≡ b → (others : List VisibleStop) → StandsThere stop line listed → first_line others stop ≡ line
        → first_line (listed ∷ others) stop ≡ line
    by_test true e others here later = rw e (here (stops_same listed.stop stop e))
    by_test false e others here later = rw e later

-- ---- the line of a stop

-- a stop stands on the line before which the lines of its path stand, which is one of the lines
pub record IsLineOf (items : Forest) (stop : PlainStop) (line : ℕ) : Type 0 where
  pub is : line ≡ line_at items stop
  pub within : line < heights (bones_of program_sections items)

-- a stop has a path
pub path_of_stop : (items : Forest) (stop : PlainStop) → length stop.path ≡ 0 → IsStop items stop → ⊥
path_of_stop items stop = by_path stop.path
  where
    by_path : (path : List ℕ) → length path ≡ 0 → IsSomeAnd (visible_at items path) (λ node. MayStand stop.part node.label.kind) → ⊥
    by_path [] empty is = is
    by_path (k ∷ rest) empty is = absurd (omega (arith, empty))

pub line_of_stop : (items : Forest) (stop : PlainStop) (k : ℕ) (rest : List ℕ) → stop.path ≡ k ∷ rest → IsStop items stop
    → IsLineOf items stop (lines_before (bones_of program_sections items) k rest)
line_of_stop items stop k rest way is =
    let line = lines_before (bones_of program_sections items) k rest in
    let has = stop_line items stop k rest way is in
    let all = stops_stand (bones_of program_sections items) stop k rest way (visible_nodes program_sections 0 0 items) (all_stand program_sections 0 0 items) in
    record {
      is =
          sym (ap (λ stops. first_line stops stop) has.stands.among
          ∙ found_line has.stands.before has.stands.behind stop line (All-same (StandsThere stop line) _ _ (sym has.stands.among) all));
      within = has.within;
    }
