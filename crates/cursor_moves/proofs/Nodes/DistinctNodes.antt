-- No node is listed twice.
use Rattle.std.specs.Prelude.{◌≡◌, ◌≢◌, refl, ℕ, ◌+◌, Bool, true, false, if◌then◌else◌, List, [], ◌∷◌, length, map, slice_index_or, All}
use Rattle.std.proofs.Common.{ap, sym, ◌∙◌, arith}
use Rattle.std.proofs.lemmas.List.Elements.{All-map, All-nil, All-weaker}
use Rattle.plcs_grammar.specs.Template.{PlainSection, row_of}
use Rattle.template_tree.specs.Programs.PlainTree.{Forest}
use Rattle.template_tree.specs.Programs.Program.{sort_of}
use Rattle.template_tree.specs.Listings.Section.{left_for, left_after, next_lead}
use Rattle.template_tree.specs.Listings.Line.{lines, fixed_line}
use Rattle.template_tree.specs.Positions.Stop.{VisibleNode, inside, part_stops, visible_nodes}
use Rattle.cursor_moves.proofs.ApartLists.{Apart, apart_append, apart_map, apart_weaker}
use Rattle.cursor_moves.proofs.Nodes.VisibleNodes.{IsListedFrom, all_listed}

-- another node stands elsewhere
abbrev pub IsElsewhere : VisibleNode → VisibleNode → Type 0
IsElsewhere node other = other.path ≢ node.path

-- the first number of a path, or else this one
abbrev first_number : ℕ → List ℕ → ℕ
first_number n [] = n
first_number n (k ∷ path) = k

-- the numbers behind the first one
abbrev behind_first : List ℕ → List ℕ
behind_first [] = []
behind_first (k ∷ path) = path

-- a node in the first item stands elsewhere than the item itself
inner_elsewhere : (k : ℕ) (inner : Forest) (own other : VisibleNode) → own.path ≡ [] → IsListedFrom 0 inner other
    → IsElsewhere (inside k own) (inside k other)
inner_elsewhere k inner own other own_is h e =
    let same : (0 + h.number) ∷ h.path ≡ [] = sym h.path_is ∙ ap behind_first e ∙ own_is in cc

-- the nodes in the first item
first_apart : (k : ℕ) (inner : Forest) (own : VisibleNode) (nodes : List VisibleNode) (elided : Bool) → own.path ≡ []
    → All (IsListedFrom 0 inner) nodes → Apart IsElsewhere nodes
    → Apart IsElsewhere (map (inside k) (own ∷ (if elided then [] else nodes)))
first_apart k inner own nodes true own_is listed h = (All-nil _, tt)
first_apart k inner own nodes false own_is listed h =
    apart_map (inside k) IsElsewhere (own ∷ nodes) (
      All-weaker (IsListedFrom 0 inner) (λ other. IsElsewhere (inside k own) (inside k other))
          (λ other g. inner_elsewhere k inner own other own_is g) nodes listed,
      apart_weaker IsElsewhere (λ node other. IsElsewhere (inside k node) (inside k other))
          (λ node other apart e. apart (ap behind_first e)) nodes h,
    )

-- a node in a later item stands elsewhere than one in the first
later_elsewhere : (k : ℕ) (rest : Forest) (node other : VisibleNode) → IsListedFrom (k + 1) rest other → IsElsewhere (inside k node) other
later_elsewhere k rest node other h e =
    let same : k + 1 + h.number ≡ k = ap (first_number 0) (sym h.path_is ∙ e) in absurd (omega (arith, same))

-- so does each
later_apart : (k : ℕ) (rest : Forest) (nodes others : List VisibleNode) → All (IsListedFrom (k + 1) rest) others
    → All (λ node. All (IsElsewhere node) others) (map (inside k) nodes)
later_apart k rest nodes others listed =
    All-map (λ node. All (IsElsewhere node) others) (inside k) nodes
    (λ i d h. All-weaker (IsListedFrom (k + 1) rest) (IsElsewhere (inside k (slice_index_or nodes i d)))
    (λ other g. later_elsewhere k rest (slice_index_or nodes i d) other g) others listed)

-- each node stands elsewhere than those before it
pub nodes_apart : (left : List PlainSection) (k line : ℕ) (items : Forest) → Apart IsElsewhere (visible_nodes left k line items)
nodes_apart left k line Forest.nil = tt
nodes_apart left k line (Forest.cons label inner rest) =
    let here = left_for (sort_of label.kind) left in
    let first = line + length (fixed_line 0 (next_lead here)) in
    let own : VisibleNode = record { path = []; line = first; parts = part_stops label.kind } in
    let sections = (row_of label.kind).sections in
    let within = visible_nodes sections 0 (first + 1) inner in
    let in_node = if label.elided then [] else within in
    let later = line + length (lines true 0 left (Forest.cons label inner Forest.nil)) in
    let others = visible_nodes (left_after here) (k + 1) later rest in
    apart_append IsElsewhere (map (inside k) (own ∷ in_node)) others
    (first_apart k inner own within label.elided refl (all_listed sections 0 (first + 1) inner) (nodes_apart sections 0 (first + 1) inner))
    (nodes_apart (left_after here) (k + 1) later rest)
    (later_apart k rest (own ∷ in_node) others (all_listed (left_after here) (k + 1) later rest))
