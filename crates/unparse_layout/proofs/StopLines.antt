-- The line of a stop.
use Rattle.std.specs.Prelude.{◌≡◌, refl, ℕ, zero, suc, ◌+◌, ◌*◌, ◌<◌, ◌≤◌, Bool, true, false, if◌then◌else◌, List, [], ◌∷◌, ◌++◌, length, map, flat_map, sum, take, drop, get_or, Option, Some, None, IsSomeAnd, is_some, option_and_then, slice_get}
use Rattle.std.specs.List.{range_with_len}
use Rattle.std.proofs.Common.{ap, sym, ◌∙◌, arith, append_assoc, subst}
use Rattle.std.proofs.lemmas.List.{length-map, map-append, append-nil}
use Rattle.std.proofs.lemmas.List.Concat.{flat_map-cons}
use Rattle.std.proofs.lemmas.Grind.{flat_map-append}
use Rattle.std.proofs.lemmas.List.Sums.{sum_by-cons, sum_by-take-le}
use Rattle.std.proofs.lemmas.List.FromFn.{get_or-range_with_len, length-range_with_len}
use Rattle.plcs_grammar.specs.declared.node_kind.NodeKind.{NodeKind}
use Rattle.plcs_grammar.specs.Template.{PlainSection, row_of, program_sections}
use Rattle.template_tree.specs.Programs.PlainTree.{Forest, PlainNode, nodes}
use Rattle.template_tree.specs.Programs.Program.{sort_of}
use Rattle.template_tree.specs.Listings.Section.{left_for, left_after, next_lead}
use Rattle.template_tree.specs.Listings.Line.{Lines, fixed_line, lines}
use Rattle.template_tree.specs.Positions.Stop.{VisibleNode, VisibleStop, PlainStop, IsStop, MayStand, Stops, inside, part_stops, stops_of, visible_at, visible_below, visible_nodes}
use Rattle.unparse_layout.specs.OwnedLine.{bare_line, owned_lines}
use Rattle.unparse_layout.specs.Bones.{Bone, PlainLayout, bones_of, bone_count}
use Rattle.unparse_layout.specs.Private.PlainNodeLayout.{PlainNodeLayout, node_layouts, node_layout_of}
use Rattle.unparse_layout.specs.Private.Height.{one_if, height_around, height, heights}
use Rattle.unparse_layout.specs.Private.ItemLines.{lines_before}
use Rattle.unparse_layout.proofs.Heights.{around_le, heights_le, heights_sum, one_if_le}
use Rattle.unparse_layout.proofs.LineNumbers.{bare_lines, lines_length}

-- how many lines are shown
pub plain_length : (level : ℕ) (left : List PlainSection) (items : Forest) → heights (bones_of left items) ≡ length (lines true level left items)
plain_length level left items =
    sym (lines_length 0 level left items) ∙ sym (length-map (owned_lines 0 level left items) bare_line) ∙ ap length (bare_lines 0 level left items)

pub shown_length : (items : Forest) → heights (bones_of program_sections items) ≡ length (Lines items)
shown_length items = plain_length 0 program_sections items

pub fixed_length : (level : ℕ) (line : Option (List ℕ)) → length (fixed_line level line) ≡ one_if (is_some line)
fixed_length level None = refl
fixed_length level (Some bytes) = refl

-- a visible node among others
pub record IsAmong (all : List VisibleNode) (node : VisibleNode) : Type 0 where
  pub before : List VisibleNode
  pub behind : List VisibleNode
  pub among : all ≡ before ++ (node ∷ behind)

-- a visible node of these fields
abbrev visible : List ℕ → ℕ → ℕ → VisibleNode
visible path line parts = record { path = path; line = line; parts = parts }

pub same_visible : (p q : List ℕ) (l m s t : ℕ) → p ≡ q → l ≡ m → s ≡ t → visible p l s ≡ visible q m t
same_visible p q l m s t a b d = λ i. visible (a i) (b i) (d i)

-- nodes before and behind
pub among_more : (front all more : List VisibleNode) (one other : VisibleNode) → one ≡ other → IsAmong all one → IsAmong (front ++ (all ++ more)) other
among_more front all more one other same m = record {
  before = front ++ m.before;
  behind = m.behind ++ more;
  among =
      ap (λ xs. front ++ (xs ++ more)) (m.among ∙ ap (λ v. m.before ++ (v ∷ m.behind)) same)
      ∙ ap (λ xs. front ++ xs) (append_assoc m.before (other ∷ m.behind) more)
      ∙ sym (append_assoc front m.before ((other ∷ m.behind) ++ more));
}

-- the nodes inside another one
pub among_inside : (k : ℕ) (all : List VisibleNode) (node : VisibleNode) → IsAmong all node → IsAmong (map (inside k) all) (inside k node)
among_inside k all node m = record {
  before = map (inside k) m.before;
  behind = map (inside k) m.behind;
  among = ap (map (inside k)) m.among ∙ map-append (inside k) m.before (node ∷ m.behind);
}

-- the lines before an item behind the first one
pub lines_before_next : (bone : Bone) (inner rest : PlainLayout) (j : ℕ) (path : List ℕ)
    → lines_before (PlainLayout.cons bone inner rest) (suc j) path ≡ height_around bone (heights inner) + lines_before rest j path
lines_before_next bone inner rest j [] =
    omega (arith, sum_by-cons (λ n. n) (height_around bone (heights inner)) (take j (map height (node_layouts rest))))
lines_before_next bone inner rest j (n ∷ path) =
    omega (arith, sum_by-cons (λ n. n) (height_around bone (heights inner)) (take j (map height (node_layouts rest))))

-- a visible node stands among the visible nodes, on its line
pub visible_among : (items : Forest) (left : List PlainSection) (k line j : ℕ) (path : List ℕ) (node : PlainNode)
    → option_and_then (λ item. visible_below item path) (slice_get (nodes items) j) ≡ Some node
    → IsAmong (visible_nodes left k line items) record { path = (k + j) ∷ path; line = line + lines_before (bones_of left items) j path; parts = part_stops node.label.kind }
visible_among Forest.nil left k line j path node there = absurd (cc)
visible_among (Forest.cons label inner rest) left k line zero [] node there =
    let own : PlainNode = record { label = label; inner = inner } in
    let same : own ≡ node = cc in
    let here = left_for (sort_of label.kind) left in
    let first : ℕ = line + length (fixed_line 0 (next_lead here)) in
    let below = if label.elided then [] else visible_nodes (row_of label.kind).sections 0 (first + 1) inner in
    let others = visible_nodes (left_after here) (k + 1) (line + length (lines true 0 left (Forest.cons label inner Forest.nil))) rest in
    record {
      before = [];
      behind = map (inside k) below ++ others;
      among =
          ap (λ (v : VisibleNode). v ∷ (map (inside k) below ++ others))
          (same_visible (k ∷ []) ((k + 0) ∷ []) first (line + lines_before (bones_of left (Forest.cons label inner rest)) 0 [])
          (part_stops label.kind) (part_stops node.label.kind) (ap (λ n. n ∷ []) (omega arith))
          (omega (arith, fixed_length 0 (next_lead here))) (ap (λ (n : PlainNode). part_stops n.label.kind) same));
    }
visible_among (Forest.cons label inner rest) left k line zero (n ∷ path) node there =
    let here = left_for (sort_of label.kind) left in
    let first : ℕ = line + length (fixed_line 0 (next_lead here)) in
    below_own label.elided refl there (λ found. visible_among inner (row_of label.kind).sections 0 (first + 1) n path node found)
  where
    below_own : (elided : Bool) → label.elided ≡ elided
        → (if elided then None else option_and_then (λ item. visible_below item path) (slice_get (nodes inner) n)) ≡ Some node
        → (option_and_then (λ item. visible_below item path) (slice_get (nodes inner) n) ≡ Some node
        → IsAmong (visible_nodes (row_of label.kind).sections 0 (line + length (fixed_line 0 (next_lead (left_for (sort_of label.kind) left))) + 1) inner)
        (visible ((0 + n) ∷ path) (line + length (fixed_line 0 (next_lead (left_for (sort_of label.kind) left))) + 1 + lines_before (bones_of (row_of label.kind).sections inner) n path) (part_stops node.label.kind)))
        → IsAmong (visible_nodes left k line (Forest.cons label inner rest)) (visible ((k + 0) ∷ (n ∷ path)) (line + lines_before (bones_of left (Forest.cons label inner rest)) 0 (n ∷ path)) (part_stops node.label.kind))
    below_own true e found law = absurd (cc)
    below_own false e found law =
        let here = left_for (sort_of label.kind) left in
        let first : ℕ = line + length (fixed_line 0 (next_lead here)) in
        let shown = visible_nodes (row_of label.kind).sections 0 (first + 1) inner in
        let others = visible_nodes (left_after here) (k + 1) (line + length (lines true 0 left (Forest.cons label inner Forest.nil))) rest in
        let head = visible (k ∷ []) first (part_stops label.kind) in
        let all : visible_nodes left k line (Forest.cons label inner rest) ≡ (head ∷ []) ++ (map (inside k) shown ++ others) = rw e refl in
        let target = visible ((k + 0) ∷ (n ∷ path)) (line + lines_before (bones_of left (Forest.cons label inner rest)) 0 (n ∷ path)) (part_stops node.label.kind) in
        let one = visible ((0 + n) ∷ path) (first + 1 + lines_before (bones_of (row_of label.kind).sections inner) n path) (part_stops node.label.kind) in
        let same : inside k one ≡ target =
        same_visible (k ∷ ((0 + n) ∷ path)) ((k + 0) ∷ (n ∷ path)) one.line target.line (part_stops node.label.kind) (part_stops node.label.kind)
        (λ i. (let a : k ≡ k + 0 = omega arith in a i) ∷ ((let b : 0 + n ≡ n = omega arith in b i) ∷ path))
        (omega (arith, fixed_length 0 (next_lead here))) refl in
        subst (λ xs. IsAmong xs target) (sym all)
        (among_more (head ∷ []) (map (inside k) shown) others (inside k one) target same (among_inside k shown one (law found)))
visible_among (Forest.cons label inner rest) left k line (suc j) path node there =
    let own : PlainNode = record { label = label; inner = inner } in
    let here = left_for (sort_of label.kind) left in
    let first : ℕ = line + length (fixed_line 0 (next_lead here)) in
    let front =
    map (inside k)
    (visible [] first (part_stops label.kind)
    ∷ (if label.elided then [] else visible_nodes (row_of label.kind).sections 0 (first + 1) inner)) in
    let own_lines : ℕ = length (lines true 0 left (Forest.cons label inner Forest.nil)) in
    let others = visible_nodes (left_after here) (k + 1) (line + own_lines) rest in
    let long : height (node_layout_of (is_some (next_lead here)) own) + 0 ≡ own_lines = plain_length 0 left (Forest.cons label inner Forest.nil) in
    let next =
    lines_before_next record { slot = label.slot; kind = label.kind; elided = label.elided; led = is_some (next_lead here) }
    (bones_of (row_of label.kind).sections inner) (bones_of (left_after here) rest) j path in
    let target = visible ((k + suc j) ∷ path) (line + lines_before (bones_of left (Forest.cons label inner rest)) (suc j) path) (part_stops node.label.kind) in
    let one = visible ((k + 1 + j) ∷ path) (line + own_lines + lines_before (bones_of (left_after here) rest) j path) (part_stops node.label.kind) in
    let same : one ≡ target =
    same_visible ((k + 1 + j) ∷ path) ((k + suc j) ∷ path) one.line target.line (part_stops node.label.kind) (part_stops node.label.kind)
    (ap (λ n. n ∷ path) (omega arith)) (omega (arith, long, next)) refl in
    subst (λ xs. IsAmong (front ++ xs) target) (append-nil others)
    (among_more front others [] one target same (visible_among rest (left_after here) (k + 1) (line + own_lines) j path node there))

-- a visible node stands on one of the lines
pub visible_within : (items : Forest) (left : List PlainSection) (j : ℕ) (path : List ℕ) (node : PlainNode)
    → option_and_then (λ item. visible_below item path) (slice_get (nodes items) j) ≡ Some node
    → lines_before (bones_of left items) j path < heights (bones_of left items)
visible_within Forest.nil left j path node there = absurd (cc)
visible_within (Forest.cons label inner rest) left zero [] node there = omega arith
visible_within (Forest.cons label inner rest) left zero (n ∷ path) node there =
    below_own label.elided refl there (λ found. visible_within inner (row_of label.kind).sections n path node found)
  where
    below_own : (elided : Bool) → label.elided ≡ elided
        → (if elided then None else option_and_then (λ item. visible_below item path) (slice_get (nodes inner) n)) ≡ Some node
        → (option_and_then (λ item. visible_below item path) (slice_get (nodes inner) n) ≡ Some node
        → lines_before (bones_of (row_of label.kind).sections inner) n path < heights (bones_of (row_of label.kind).sections inner))
        → lines_before (bones_of left (Forest.cons label inner rest)) 0 (n ∷ path) < heights (bones_of left (Forest.cons label inner rest))
    below_own true e found law = absurd (cc)
    below_own false e found law =
        let inside_all = heights (bones_of (row_of label.kind).sections inner) in
        let shown : (if label.elided then 1 else inside_all) ≡ inside_all = rw e refl in
        omega (arith, shown, law found)
visible_within (Forest.cons label inner rest) left (suc j) path node there =
    let here = left_for (sort_of label.kind) left in
    let next =
    lines_before_next record { slot = label.slot; kind = label.kind; elided = label.elided; led = is_some (next_lead here) }
    (bones_of (row_of label.kind).sections inner) (bones_of (left_after here) rest) j path in
    omega (arith, next, visible_within rest (left_after here) j path node there)

-- a list around one of its items
pub list_split : {X : Type 0} (xs : List X) (i : ℕ) (d : X) → i < length xs → xs ≡ take i xs ++ (get_or xs i d ∷ drop (suc i) xs)
list_split [] i d within = absurd (omega (arith, within))
list_split (x ∷ xs) zero d within = refl
list_split (x ∷ xs) (suc i) d within = ap (λ ys. x ∷ ys) (list_split xs i d (omega arith))

-- a stop among those of its node
pub record IsStopAmong (all : List VisibleStop) (stop : VisibleStop) : Type 0 where
  pub before : List VisibleStop
  pub behind : List VisibleStop
  pub among : all ≡ before ++ (stop ∷ behind)

abbrev visible_stop : List ℕ → Option ℕ → ℕ → VisibleStop
visible_stop path part line = record { stop = record { path = path; part = part }; line = line }

pub stop_of_node : (node : VisibleNode) (part : Option ℕ) (kind : NodeKind) → node.parts ≡ part_stops kind → MayStand part kind
    → IsStopAmong (stops_of node) (visible_stop node.path part node.line)
stop_of_node node None kind parts may = record { before = []; behind = _; among = refl }
stop_of_node node (Some part) kind parts may =
    let stop : ℕ → VisibleStop = λ n. visible_stop node.path (Some n) node.line in
    let all = range_with_len 0 node.parts in
    let within : part < length all = rw (length-range_with_len 0 node.parts, parts) may in
    let there : get_or all part 0 ≡ 0 + part = get_or-range_with_len 0 node.parts part 0 (rw parts may) in
    let value : get_or all part 0 ≡ part = there ∙ omega arith in
    record {
      before = visible_stop node.path None node.line ∷ map stop (take part all);
      behind = map stop (drop (suc part) all);
      among =
          ap (λ xs. visible_stop node.path None node.line ∷ xs)
          (ap (map stop) (list_split all part 0 within ∙ ap (λ n. take part all ++ (n ∷ drop (suc part) all)) value)
          ∙ map-append stop (take part all) (part ∷ drop (suc part) all));
    }

-- a stop of a node that is among others
pub stop_among : (all : List VisibleNode) (node : VisibleNode) (part : Option ℕ) → IsAmong all node
    → IsStopAmong (stops_of node) (visible_stop node.path part node.line) → IsStopAmong (flat_map stops_of all) (visible_stop node.path part node.line)
stop_among all node part m s = record {
  before = flat_map stops_of m.before ++ s.before;
  behind = s.behind ++ flat_map stops_of m.behind;
  among =
      let stop = visible_stop node.path part node.line in
      ap (flat_map stops_of) m.among
      ∙ flat_map-append stops_of m.before (node ∷ m.behind)
      ∙ ap (λ xs. flat_map stops_of m.before ++ xs)
      (flat_map-cons stops_of node m.behind ∙ ap (λ xs. xs ++ flat_map stops_of m.behind) s.among
      ∙ append_assoc s.before (stop ∷ s.behind) (flat_map stops_of m.behind))
      ∙ sym (append_assoc (flat_map stops_of m.before) s.before (stop ∷ (s.behind ++ flat_map stops_of m.behind)));
}

-- what is known of the line of a visible stop
pub record HasLine (items : Forest) (stop : PlainStop) (line : ℕ) : Type 0 where
  pub stands : IsStopAmong (Stops items) record { stop = stop; line = line }
  pub within : line < heights (bones_of program_sections items)

pub stop_line : (items : Forest) (stop : PlainStop) (k : ℕ) (rest : List ℕ) → stop.path ≡ k ∷ rest → IsStop items stop
    → HasLine items stop (lines_before (bones_of program_sections items) k rest)
stop_line items stop k rest way is = at_node (visible_at items (k ∷ rest)) refl (subst (λ p. IsSomeAnd (visible_at items p) (λ node. MayStand stop.part node.label.kind)) way is)
  where
    at_node : (o : Option PlainNode) → visible_at items (k ∷ rest) ≡ o → IsSomeAnd o (λ node. MayStand stop.part node.label.kind)
        → HasLine items stop (lines_before (bones_of program_sections items) k rest)
    at_node None e may = absurd may
    at_node (Some node) e may =
        let line = lines_before (bones_of program_sections items) k rest in
        let one = visible ((0 + k) ∷ rest) (0 + line) (part_stops node.label.kind) in
        let all = visible_nodes program_sections 0 0 items in
        let s = stop_among all one stop.part (visible_among items program_sections 0 0 k rest node e) (stop_of_node one stop.part node.label.kind refl may) in
        let path : (0 + k) ∷ rest ≡ stop.path = ap (λ n. n ∷ rest) (omega arith) ∙ sym way in
        let number : 0 + line ≡ line = omega arith in
        let same : visible_stop ((0 + k) ∷ rest) stop.part (0 + line) ≡ record { stop = stop; line = line } = λ i. record { stop = record { path = path i; part = stop.part }; line = number i } in
        record {
          stands = record { before = s.before; behind = s.behind; among = s.among ∙ ap (λ v. s.before ++ (v ∷ s.behind)) same };
          within = visible_within items program_sections k rest node e;
        }

-- where no item is, nothing more is added
pub lines_before_none : (items : PlainLayout) (k : ℕ) (rest : List ℕ) → slice_get (node_layouts items) k ≡ None
    → sum (take k (map height (node_layouts items))) ≡ lines_before items k rest
lines_before_none items k [] none = rw none (omega arith)
lines_before_none items k (n ∷ rest) none = rw none (omega arith)

-- the end of the path
pub lines_before_end : (items : PlainLayout) (k : ℕ) (rest : List ℕ) (item : PlainNodeLayout) → slice_get (node_layouts items) k ≡ Some item → length rest ≡ 0
    → sum (take k (map height (node_layouts items))) + one_if item.bone.led ≡ lines_before items k rest
lines_before_end items k [] item there end = rw there refl
lines_before_end items k (n ∷ rest) item there end = absurd (omega (arith, end))

-- a step further
pub lines_before_step : (items : PlainLayout) (k n : ℕ) (path rest : List ℕ) (item : PlainNodeLayout) → slice_get (node_layouts items) k ≡ Some item → path ≡ n ∷ rest
    → sum (take k (map height (node_layouts items))) + one_if item.bone.led + 1 + lines_before item.inner n rest ≡ lines_before items k path
lines_before_step items k n path rest item there way =
    sym (ap (lines_before items k) way ∙ rw there (omega arith))

-- the lines before an item, and four for each node in it
pub before_le : (items : PlainLayout) (k : ℕ) (item : PlainNodeLayout) → slice_get (node_layouts items) k ≡ Some item
    → sum (take k (map height (node_layouts items))) + 4 * bone_count item.inner + 4 ≤ 4 * bone_count items
before_le PlainLayout.nil k item there = absurd (cc)
before_le (PlainLayout.cons bone inner rest) zero item there =
    let same : record { bone = bone; inner = inner } ≡ item = cc in rw (← same) (omega arith)
before_le (PlainLayout.cons bone inner rest) (suc k) item there =
    let cons = sum_by-cons (λ n. n) (height_around bone (heights inner)) (take k (map height (node_layouts rest))) in
    omega (arith, cons, before_le rest k item there, around_le bone (heights inner), heights_le inner)

-- no more than four lines for each node stand before one of them
pub lines_before_le : (path : List ℕ) (items : PlainLayout) (k : ℕ) → lines_before items k path ≤ 4 * bone_count items
lines_before_le [] items k = found (slice_get (node_layouts items) k) refl
  where
    found : (o : Option PlainNodeLayout) → slice_get (node_layouts items) k ≡ o → lines_before items k [] ≤ 4 * bone_count items
    found None e =
        let all = sum_by-take-le (λ n. n) (map height (node_layouts items)) k in
        omega (arith, lines_before_none items k [] e, all, heights_sum items, heights_le items)
    found (Some item) e =
        omega (arith, lines_before_end items k [] item e refl, before_le items k item e, one_if_le item.bone.led)
lines_before_le (n ∷ path) items k = found (slice_get (node_layouts items) k) refl (λ inner. lines_before_le path inner n)
  where
    found : (o : Option PlainNodeLayout) → slice_get (node_layouts items) k ≡ o → ((inner : PlainLayout) → lines_before inner n path ≤ 4 * bone_count inner)
        → lines_before items k (n ∷ path) ≤ 4 * bone_count items
    found None e law =
        let all = sum_by-take-le (λ n. n) (map height (node_layouts items)) k in
        omega (arith, lines_before_none items k (n ∷ path) e, all, heights_sum items, heights_le items)
    found (Some item) e law =
        omega (arith, lines_before_step items k n (n ∷ path) path item e refl, before_le items k item e, one_if_le item.bone.led, law item.inner)
