-- What is listed as a visible node is one.
use Rattle.std.specs.Prelude.{◌≡◌, refl, ℕ, suc, ◌+◌, Bool, true, false, if◌then◌else◌, List, [], ◌∷◌, length, map, All, Some}
use Rattle.std.proofs.Common.{ap, sym, ◌∙◌, arith, add-zero}
use Rattle.std.proofs.lemmas.List.Elements.{All-append, All-cons, All-map, All-nil, All-weaker}
use Rattle.plcs_grammar.specs.Template.{PlainSection, row_of}
use Rattle.template_tree.specs.Programs.PlainTree.{Label, Forest, PlainNode}
use Rattle.template_tree.specs.Programs.Program.{sort_of}
use Rattle.template_tree.specs.Listings.Section.{left_for, left_after, next_lead}
use Rattle.template_tree.specs.Listings.Line.{lines, fixed_line}
use Rattle.template_tree.specs.Positions.Stop.{VisibleNode, inside, part_stops, visible_at, visible_nodes}
use Rattle.cursor_moves.proofs.Nodes.NextNodes.{from}

-- a listed node is the visible one at its path, where the items are counted from a number
pub record IsListedFrom (k : ℕ) (items : Forest) (listed : VisibleNode) : Type 0 where
  pub number : ℕ
  pub path : List ℕ
  pub node : PlainNode
  pub path_is : listed.path ≡ from k (number ∷ path)
  pub there : visible_at items (number ∷ path) ≡ Some node
  pub parts_are : listed.parts ≡ part_stops node.label.kind

-- the first item
own_listed : (k line : ℕ) (label : Label) (inner rest : Forest)
    → IsListedFrom k (Forest.cons label inner rest) record { path = k ∷ []; line = line; parts = part_stops label.kind }
own_listed k line label inner rest =
    record {
      number = 0;
      path = [];
      node = record { label = label; inner = inner };
      path_is = ap (λ n. n ∷ []) (sym (add-zero k));
      there = refl;
      parts_are = refl;
    }

-- a node in it
inner_listed : (k : ℕ) (label : Label) (inner rest : Forest) (listed : VisibleNode) → label.elided ≡ false → IsListedFrom 0 inner listed
    → IsListedFrom k (Forest.cons label inner rest) (inside k listed)
inner_listed k label inner rest listed is h =
    let z : 0 + h.number ≡ h.number = omega arith in
    record {
      number = 0;
      path = h.number ∷ h.path;
      node = h.node;
      path_is =
          ap (λ path. k ∷ path) h.path_is
          ∙ ap (λ n. k ∷ n ∷ h.path) z
          ∙ ap (λ n. n ∷ h.number ∷ h.path) (sym (add-zero k));
      there = rw is h.there;
      parts_are = h.parts_are;
    }

-- the nodes in it, where they are visible
in_first_listed : (k : ℕ) (label : Label) (inner rest : Forest) (nodes : List VisibleNode) (elided : Bool) → label.elided ≡ elided
    → All (IsListedFrom 0 inner) nodes
    → All (λ listed. IsListedFrom k (Forest.cons label inner rest) (inside k listed)) (if elided then [] else nodes)
in_first_listed k label inner rest nodes true is h = All-nil _
in_first_listed k label inner rest nodes false is h =
    All-weaker (IsListedFrom 0 inner) (λ listed. IsListedFrom k (Forest.cons label inner rest) (inside k listed))
    (λ listed g. inner_listed k label inner rest listed is g) nodes h

-- a node in a later item
later_listed : (k : ℕ) (label : Label) (inner rest : Forest) (listed : VisibleNode) → IsListedFrom (k + 1) rest listed
    → IsListedFrom k (Forest.cons label inner rest) listed
later_listed k label inner rest listed h =
    let z : k + 1 + h.number ≡ k + suc h.number = omega arith in
    record {
      number = suc h.number;
      path = h.path;
      node = h.node;
      path_is = h.path_is ∙ ap (λ n. n ∷ h.path) z;
      there = h.there;
      parts_are = h.parts_are;
    }

-- each listed node
pub all_listed : (left : List PlainSection) (k line : ℕ) (items : Forest) → All (IsListedFrom k items) (visible_nodes left k line items)
all_listed left k line Forest.nil = All-nil _
all_listed left k line (Forest.cons label inner rest) =
    let here = left_for (sort_of label.kind) left in
    let first = line + length (fixed_line 0 (next_lead here)) in
    let own : VisibleNode = record { path = []; line = first; parts = part_stops label.kind } in
    let within = visible_nodes (row_of label.kind).sections 0 (first + 1) inner in
    let in_node = if label.elided then [] else within in
    let later = line + length (lines true 0 left (Forest.cons label inner Forest.nil)) in
    let others = visible_nodes (left_after here) (k + 1) later rest in
    let Listed : VisibleNode → Type 0 = IsListedFrom k (Forest.cons label inner rest) in
    All-append Listed (map (inside k) (own ∷ in_node)) others
    (All-map Listed (inside k) (own ∷ in_node)
    (All-cons (λ listed. Listed (inside k listed)) own in_node (own_listed k first label inner rest)
    (in_first_listed k label inner rest within label.elided refl
    (all_listed (row_of label.kind).sections 0 (first + 1) inner))))
    (All-weaker (IsListedFrom (k + 1) rest) Listed (λ listed h. later_listed k label inner rest listed h) others
    (all_listed (left_after here) (k + 1) later rest))
