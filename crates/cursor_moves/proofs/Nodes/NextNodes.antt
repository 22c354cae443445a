-- The visible node behind another one in listing order.
use Rattle.std.specs.Prelude.{◌≡◌, refl, ℕ, zero, suc, ◌+◌, Bool, true, false, if◌then◌else◌, List, [], ◌∷◌, ◌++◌, length, map, Option, Some, None, option_map, slice_get}
use Rattle.std.specs.Option.{option_or}
use Rattle.std.proofs.Common.{ap, sym, ◌∙◌, subst, arith, append_assoc, add-one, add-zero}
use Rattle.std.proofs.lemmas.List.{map-append}
use Rattle.std.proofs.lemmas.Option.{none-some}
use Rattle.plcs_grammar.specs.Template.{PlainSection, row_of}
use Rattle.template_tree.specs.Programs.PlainTree.{Label, Forest, PlainNode, nodes}
use Rattle.template_tree.specs.Programs.Program.{sort_of}
use Rattle.template_tree.specs.Listings.Section.{left_for, left_after, next_lead}
use Rattle.template_tree.specs.Listings.Line.{lines, fixed_line}
use Rattle.template_tree.specs.Positions.Stop.{VisibleNode, inside, part_stops, visible_at, visible_nodes}
use Rattle.cursor_moves.specs.Move.{first_of}
use Rattle.cursor_moves.specs.Private.NextPath.{first_inside, inner_of, item_behind, next_with}

-- a path whose first number is counted from this one
abbrev pub from : ℕ → List ℕ → List ℕ
from k [] = []
from k (j ∷ path) = (k + j) ∷ path

-- a visible node has its place in the list, with this node behind it
pub record IsPlaced (all : List VisibleNode) (path : List ℕ) (parts : ℕ) (next : Option (List ℕ)) : Type 0 where
  pub before : List VisibleNode
  pub here : VisibleNode
  pub behind : List VisibleNode
  pub stands : all ≡ before ++ here ∷ behind
  pub path_is : here.path ≡ path
  pub parts_are : here.parts ≡ parts
  pub next_is : option_map (λ node. node.path) (first_of behind) ≡ next

-- what is there, or else the node
abbrev pub taken : PlainNode → Option PlainNode → PlainNode
taken node None = node
taken node (Some there) = there

-- the first of the visible nodes is the first item
pub first_path : (left : List PlainSection) (k line : ℕ) (items : Forest)
    → option_map (λ node. node.path) (first_of (visible_nodes left k line items)) ≡ option_map (λ _. k ∷ []) (slice_get (nodes items) 0)
first_path left k line Forest.nil = refl
first_path left k line (Forest.cons label inner rest) = refl

-- the visible nodes in a node
abbrev pub shown : Label → ℕ → Forest → List VisibleNode
shown label line inner = if label.elided then [] else visible_nodes (row_of label.kind).sections 0 line inner

-- the first of them is the first item
first_shown : (elided : Bool) (left : List PlainSection) (line : ℕ) (inner : Forest)
    → option_map (λ node. node.path) (first_of (if elided then [] else visible_nodes left 0 line inner))
    ≡ (if elided then None else option_map (λ _. 0 ∷ []) (slice_get (nodes inner) 0))
first_shown true left line inner = refl
first_shown false left line inner = first_path left 0 line inner

-- the path of what comes first of what stands in a node and of the items behind it
first_of_both : (k : ℕ) (xs ys : List VisibleNode) (in_node behind : Option (List ℕ))
    → option_map (λ node. node.path) (first_of xs) ≡ in_node
    → option_map (λ node. node.path) (first_of ys) ≡ behind
    → option_map (λ node. node.path) (first_of (map (inside k) xs ++ ys)) ≡ option_or (option_map (λ path. k ∷ path) in_node) behind
first_of_both k [] ys in_node behind e f = rw (← e) f
first_of_both k (x ∷ xs) ys in_node behind e f = rw (← e) refl

-- the item behind the first one
behind_first : (k : ℕ) (label : Label) (inner rest : Forest)
    → option_map (λ _. (k + 1) ∷ []) (slice_get (nodes rest) 0) ≡ option_map (from k) (item_behind (Forest.cons label inner rest) 0)
behind_first k label inner Forest.nil = refl
behind_first k label inner (Forest.cons other within rest) = refl

-- a path within the first item, counted from a number
from_first : (k : ℕ) (o behind : Option (List ℕ)) (counted : Option (List ℕ)) → counted ≡ option_map (from k) behind
    → option_or (option_map (λ path. k ∷ path) o) counted ≡ option_map (from k) (option_or (option_map (λ path. 0 ∷ path) o) behind)
from_first k None behind counted e = e
from_first k (Some path) behind counted e = ap (λ n. Some (n ∷ path)) (sym (add-zero k))

-- counting from none
pub from_none : (o : Option (List ℕ)) → option_map (from 0) o ≡ o
from_none None = refl
from_none (Some []) = refl
from_none (Some (k ∷ path)) = let z : 0 + k ≡ k = omega arith in ap (λ n. Some (n ∷ path)) z

-- the number of a later item, counted from one more
number_next : (k j : ℕ) (o : Option PlainNode)
    → option_map (from (k + 1)) (option_map (λ _. suc j ∷ []) o) ≡ option_map (from k) (option_map (λ _. suc (suc j) ∷ []) o)
number_next k j None = refl
number_next k j (Some there) = let z : k + 1 + suc j ≡ k + suc (suc j) = omega arith in ap (λ n. Some (n ∷ [])) z

-- a path, counted from one more
from_next : (k j : ℕ) (o : Option (List ℕ)) (items : List PlainNode) (first : PlainNode)
    → option_map (from (k + 1)) (option_or (option_map (λ path. j ∷ path) o) (option_map (λ _. (j + 1) ∷ []) (slice_get items (j + 1))))
    ≡ option_map (from k)
    (option_or (option_map (λ path. suc j ∷ path) o) (option_map (λ _. (suc j + 1) ∷ []) (slice_get (first ∷ items) (suc j + 1))))
from_next k j (Some path) items first =
    let z : k + 1 + j ≡ k + suc j = omega arith in ap (λ n. Some (n ∷ path)) z
from_next k j None items first = rw (add-one (suc j), add-one j) (number_next k j (slice_get items (suc j)))

-- the first item, whose node is the one at the path
placed_here : (left : List PlainSection) (k line : ℕ) (label : Label) (inner rest : Forest) (node : PlainNode)
    → record { label = label; inner = inner } ≡ node
    → IsPlaced (visible_nodes left k line (Forest.cons label inner rest)) (k ∷ []) (part_stops node.label.kind)
    (option_map (from k) (next_with (first_inside node) (Forest.cons label inner rest) (0 ∷ [])))
placed_here left k line label inner rest node same =
    let here = left_for (sort_of label.kind) left in
    let first = line + length (fixed_line 0 (next_lead here)) in
    let own : VisibleNode = record { path = k ∷ []; line = first; parts = part_stops label.kind } in
    let in_node = if label.elided then [] else visible_nodes (row_of label.kind).sections 0 (first + 1) inner in
    let others =
    visible_nodes (left_after here) (k + 1) (line + length (lines true 0 left (Forest.cons label inner Forest.nil))) rest in
    record {
      before = [];
      here = own;
      behind = map (inside k) in_node ++ others;
      stands = refl;
      path_is = refl;
      parts_are = ap (λ (n : PlainNode). part_stops n.label.kind) same;
      next_is =
          first_of_both k in_node others (first_inside record { label = label; inner = inner })
          (option_map (from k) (item_behind (Forest.cons label inner rest) 0))
          (first_shown label.elided (row_of label.kind).sections (first + 1) inner)
          (first_path _ (k + 1) _ rest ∙ behind_first k label inner rest)
          ∙ from_first k (first_inside record { label = label; inner = inner }) (item_behind (Forest.cons label inner rest) 0) _ refl
          ∙ ap (λ (n : PlainNode). option_map (from k) (next_with (first_inside n) (Forest.cons label inner rest) (0 ∷ []))) same;
    }

-- a node in the first item, where it is visible
placed_inside : (left : List PlainSection) (k line i : ℕ) (label : Label) (inner rest : Forest) (path : List ℕ) (node : PlainNode)
    (elided : Bool) → label.elided ≡ elided
    → ((sections : List PlainSection) (first : ℕ) → visible_at inner (i ∷ path) ≡ Some node
    → IsPlaced (visible_nodes sections 0 first inner) (from 0 (i ∷ path)) (part_stops node.label.kind)
    (option_map (from 0) (next_with (first_inside node) inner (i ∷ path))))
    → (if elided then None else visible_at inner (i ∷ path)) ≡ Some node
    → IsPlaced (visible_nodes left k line (Forest.cons label inner rest)) (k ∷ i ∷ path) (part_stops node.label.kind)
    (option_map (from k) (next_with (first_inside node) (Forest.cons label inner rest) (0 ∷ i ∷ path)))
placed_inside left k line i label inner rest path node true is law e = absurd (none-some node e)
placed_inside left k line i label inner rest path node false is law e =
    let here = left_for (sort_of label.kind) left in
    let first = line + length (fixed_line 0 (next_lead here)) in
    let own : VisibleNode = record { path = k ∷ []; line = first; parts = part_stops label.kind } in
    let in_node = visible_nodes (row_of label.kind).sections 0 (first + 1) inner in
    let others =
    visible_nodes (left_after here) (k + 1) (line + length (lines true 0 left (Forest.cons label inner Forest.nil))) rest in
    let within = law (row_of label.kind).sections (first + 1) e in
    let next = next_with (first_inside node) inner (i ∷ path) in
    let divided : map (inside k) in_node ++ others ≡ map (inside k) within.before ++ inside k within.here ∷ (map (inside k) within.behind ++ others) =
    ap (λ nodes. map (inside k) nodes ++ others) within.stands
    ∙ ap (λ nodes. nodes ++ others) (map-append (inside k) within.before (within.here ∷ within.behind))
    ∙ append_assoc (map (inside k) within.before) (inside k within.here ∷ map (inside k) within.behind) others in
    let z : 0 + i ≡ i = omega arith in
    record {
      before = own ∷ map (inside k) within.before;
      here = inside k within.here;
      behind = map (inside k) within.behind ++ others;
      stands =
          ap (λ b. map (inside k) (record { path = []; line = first; parts = part_stops label.kind } ∷ (if b then [] else in_node)) ++ others) is
          ∙ ap (λ nodes. own ∷ nodes) divided;
      path_is = ap (λ way. k ∷ way) within.path_is ∙ ap (λ n. k ∷ n ∷ path) z;
      parts_are = within.parts_are;
      next_is =
          first_of_both k within.behind others next (option_map (from k) (item_behind (Forest.cons label inner rest) 0))
          (within.next_is ∙ from_none next)
          (first_path _ (k + 1) _ rest ∙ behind_first k label inner rest)
          ∙ from_first k next (item_behind (Forest.cons label inner rest) 0) _ refl;
    }

-- a node in a later item
placed_later : (left : List PlainSection) (k line j : ℕ) (label : Label) (inner rest : Forest) (path : List ℕ) (node : PlainNode)
    → ((sections : List PlainSection) (first : ℕ)
    → IsPlaced (visible_nodes sections (k + 1) first rest) (from (k + 1) (j ∷ path)) (part_stops node.label.kind)
    (option_map (from (k + 1)) (next_with (first_inside node) rest (j ∷ path))))
    → IsPlaced (visible_nodes left k line (Forest.cons label inner rest)) (from k (suc j ∷ path)) (part_stops node.label.kind)
    (option_map (from k) (next_with (first_inside node) (Forest.cons label inner rest) (suc j ∷ path)))
placed_later left k line j label inner rest path node law =
    let here = left_for (sort_of label.kind) left in
    let first = line + length (fixed_line 0 (next_lead here)) in
    let own : VisibleNode = record { path = []; line = first; parts = part_stops label.kind } in
    let item =
    map (inside k) (own ∷ (if label.elided then [] else visible_nodes (row_of label.kind).sections 0 (first + 1) inner)) in
    let behind = law (left_after here) (line + length (lines true 0 left (Forest.cons label inner Forest.nil))) in
    let z : k + 1 + j ≡ k + suc j = omega arith in
    record {
      before = item ++ behind.before;
      here = behind.here;
      behind = behind.behind;
      stands =
          ap (λ nodes. item ++ nodes) behind.stands ∙ sym (append_assoc item behind.before (behind.here ∷ behind.behind));
      path_is = behind.path_is ∙ ap (λ n. n ∷ path) z;
      parts_are = behind.parts_are;
      next_is =
          behind.next_is
          ∙ from_next k j (next_with (first_inside node) (inner_of rest j) path) (nodes rest) record { label = label; inner = inner };
    }

-- a visible node has its place in the list, with the one that comes next behind it
pub placed : (left : List PlainSection) (k line : ℕ) (items : Forest) (j : ℕ) (path : List ℕ) (node : PlainNode)
    → visible_at items (j ∷ path) ≡ Some node
    → IsPlaced (visible_nodes left k line items) (from k (j ∷ path)) (part_stops node.label.kind)
    (option_map (from k) (next_with (first_inside node) items (j ∷ path)))
placed left k line Forest.nil j path node e = absurd (none-some node e)
placed left k line (Forest.cons label inner rest) zero [] node e =
    subst
    (λ way.
    IsPlaced (visible_nodes left k line (Forest.cons label inner rest)) way (part_stops node.label.kind)
    (option_map (from k) (next_with (first_inside node) (Forest.cons label inner rest) (0 ∷ []))))
    (ap (λ n. n ∷ []) (sym (add-zero k)))
    (placed_here left k line label inner rest node (ap (taken node) e))
placed left k line (Forest.cons label inner rest) zero (i ∷ path) node e =
    subst
    (λ way.
    IsPlaced (visible_nodes left k line (Forest.cons label inner rest)) way (part_stops node.label.kind)
    (option_map (from k) (next_with (first_inside node) (Forest.cons label inner rest) (0 ∷ i ∷ path))))
    (ap (λ n. n ∷ i ∷ path) (sym (add-zero k)))
    (placed_inside left k line i label inner rest path node label.elided refl
    (λ sections first h. placed sections 0 first inner i path node h) e)
placed left k line (Forest.cons label inner rest) (suc j) path node e =
    placed_later left k line j label inner rest path node (λ sections first. placed sections (k + 1) first rest j path node e)
