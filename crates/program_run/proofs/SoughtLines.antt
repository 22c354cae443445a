-- The number of the line at which a run stands: the lines of nodes are counted one after the other.
use Rattle.std.proofs.Common.{◌≡◌, refl, ℕ, zero, suc, ◌+◌, ◌-◌, ◌*◌, ◌≤◌, ◌<◌, Bool, true, false, List, [], ◌∷◌, ◌++◌, length, drop, Option, Some, None, ap, sym, ◌∙◌, subst, arith, add-one}
use Rattle.std.specs.Prelude.{◌==◌, if◌then◌else◌, is_some, option_map, slice_get}
use Rattle.std.specs.Option.{option_or}
use Rattle.std.proofs.Math.ListN.{drop_of_length-le}
use Rattle.std.proofs.lemmas.Bool.{and_parts}
use Rattle.std.proofs.lemmas.Bool.Decides.{Decides-eqb}
use Rattle.std.proofs.lemmas.List.{length-append}
use Rattle.plcs_grammar.specs.Template.{PlainSection, row_of}
use Rattle.template_tree.specs.Listings.Line.{fixed_line, head_line, lines}
use Rattle.template_tree.specs.Listings.Section.{left_after, left_for, next_lead}
use Rattle.template_tree.specs.Positions.Place.{PlainPlace}
use Rattle.template_tree.specs.Programs.PlainTree.{Forest, Label, PlainNode, forest, forest_nodes, nodes}
use Rattle.template_tree.specs.Programs.Program.{sort_of}
use Rattle.template_tree.specs.Programs.Slots.{count}
use Rattle.program_run.specs.StoppedLine.{inner_line_count, is_at_last_line, lines_to_place, lines_to_point, node_line_count}
use Rattle.program_run.specs.Private.SoughtLine.{fixed_count, lines_to_inside}

-- ---- how many lines there are

-- a fixed line is one at each level
fixed_length : (level : ℕ) (text : Option (List ℕ)) → length (fixed_line level text) ≡ fixed_count text
fixed_length level None = refl
fixed_length level (Some text) = refl

fixed_le : (text : Option (List ℕ)) → fixed_count text ≤ 1
fixed_le None = omega arith
fixed_le (Some text) = omega arith

-- the lines of nodes: what stands before the first, its own, and those of the others
lines_first : (level : ℕ) (left : List PlainSection) (label : Label) (inner rest : Forest)
    → length (lines false level left (Forest.cons label inner rest))
    ≡ fixed_count (next_lead (left_for (sort_of label.kind) left))
    + (1 + (length (lines false (level + 1) (row_of label.kind).sections inner)
    + (fixed_count (row_of label.kind).last + length (lines false level (left_after (left_for (sort_of label.kind) left)) rest))))
lines_first level left label inner rest =
    let here = left_for (sort_of label.kind) left in
    let lead = fixed_line (level - 1) (next_lead here) in
    let inside = lines false (level + 1) (row_of label.kind).sections inner in
    let last = fixed_line level (row_of label.kind).last in
    let others = lines false level (left_after here) rest in
    let all = length-append lead (head_line level label ∷ (inside ++ (last ++ others))) in
    let own = length-append inside (last ++ others) in
    let end = length-append last others in
    omega (arith, all, own, end, fixed_length (level - 1) (next_lead here), fixed_length level (row_of label.kind).last)

-- they are as many at each level
lines_level : (one other : ℕ) (left : List PlainSection) (items : Forest) → length (lines false one left items) ≡ length (lines false other left items)
lines_level one other left Forest.nil = refl
lines_level one other left (Forest.cons label inner rest) =
    let inside = lines_level (one + 1) (other + 1) (row_of label.kind).sections inner in
    let others = lines_level one other (left_after (left_for (sort_of label.kind) left)) rest in
    omega (arith, lines_first one left label inner rest, lines_first other left label inner rest, inside, others)

pub node_lines : (label : Label) (inner : Forest) → node_line_count label inner ≡ 1 + (inner_line_count label inner + fixed_count (row_of label.kind).last)
node_lines label inner = omega (arith, fixed_length 0 (row_of label.kind).last)

lines_next : (left : List PlainSection) (label : Label) (inner rest : Forest)
    → length (lines false 0 left (Forest.cons label inner rest))
    ≡ fixed_count (next_lead (left_for (sort_of label.kind) left))
    + (node_line_count label inner + length (lines false 0 (left_after (left_for (sort_of label.kind) left)) rest))
lines_next left label inner rest =
    omega (arith, lines_first 0 left label inner rest, lines_level 1 0 (row_of label.kind).sections inner, node_lines label inner)

-- a node has three at most
pub lines_few : (left : List PlainSection) (items : Forest) → length (lines false 0 left items) ≤ 3 * count items
lines_few left Forest.nil = omega arith
lines_few left (Forest.cons label inner rest) =
    let here = left_for (sort_of label.kind) left in
    let inside : inner_line_count label inner ≤ 3 * count inner = lines_few (row_of label.kind).sections inner in
    let others = lines_few (left_after here) rest in
    omega (arith, lines_next left label inner rest, node_lines label inner, inside, others, fixed_le (next_lead here), fixed_le (row_of label.kind).last)

-- ---- lines that are counted, node by node

-- what is left of a list begins with the item that is found
left_from : {X : Type 0} (items : List X) (k : ℕ) (x : X) → slice_get items k ≡ Some x → drop k items ≡ x ∷ drop (k + 1) items
left_from [] k x there = absurd (cc)
left_from (y ∷ ys) zero x there = let same : y ≡ x = cc in ap (λ z. z ∷ ys) same
left_from (y ∷ ys) (suc k) x there = left_from ys k x there ∙ ap (λ n. x ∷ drop n ys) (add-one k) ∙ sym (ap (λ n. x ∷ drop n (y ∷ ys)) (add-one (suc k)))

-- other numbers aren't found to be the same
pub other_number : (a b : ℕ) → (a ≡ b → ⊥) → (a == b) ≡ false
other_number a b other = by_test (a == b) (Decides-eqb a b).0 where
  by_test : (test : Bool) → (test ≡ true → a ≡ b) → test ≡ false
  by_test true same = absurd (other (same refl))
  by_test false same = refl

-- nothing is left behind the last one
pub past_where_none : {X : Type 0} (items : List X) (k : ℕ) → slice_get items k ≡ None → length items ≤ k
past_where_none [] k none = omega arith
past_where_none (x ∷ items) zero none = absurd (cc)
past_where_none (x ∷ items) (suc k) none = let rest = past_where_none items k none in omega (arith, rest)

-- a node has fewer nodes in it than stand in order there
pub item_few : (items : Forest) (k : ℕ) (node : PlainNode) → slice_get (nodes items) k ≡ Some node → count node.inner < count items
item_few Forest.nil k node there = absurd (cc)
item_few (Forest.cons label inner rest) zero node there =
    let same : record { label = label; inner = inner } ≡ node = cc in
    let few : count inner ≡ count node.inner = ap (λ (n : PlainNode). count n.inner) same in
    omega (arith, few)
item_few (Forest.cons label inner rest) (suc k) node there = let less = item_few rest k node there in omega (arith, less)

pub nodes_few : (items : Forest) → length (nodes items) ≤ count items
nodes_few Forest.nil = omega arith
nodes_few (Forest.cons label inner rest) = let others = nodes_few rest in omega (arith, others)

-- these lines of nodes were counted, and those of the others are left
pub record AreCounted (whole passed : ℕ) (left : List PlainSection) (rest : List PlainNode) : Type 0 where
  pub all : whole ≡ passed + length (lines false 0 left (forest rest))

pub counted_none : (sections now : List PlainSection) (items : Forest) → now ≡ sections
    → AreCounted (length (lines false 0 sections items)) 0 now (drop 0 (nodes items))
counted_none sections now items same = record {
  all =
      let lines_are = ap (λ (left : List PlainSection). length (lines false 0 left (forest (nodes items)))) same ∙ ap (λ (f : Forest). length (lines false 0 sections f)) (forest_nodes items) in
      omega (arith, lines_are);
}

-- the next node is found among those that are left
pub counted_here : (whole passed : ℕ) (left here : List PlainSection) (items : List PlainNode) (k : ℕ) (node : PlainNode)
    → slice_get items k ≡ Some node → here ≡ left_for (sort_of node.label.kind) left → AreCounted whole passed left (drop k items)
    → whole ≡ passed + (fixed_count (next_lead here) + (node_line_count node.label node.inner + length (lines false 0 (left_after here) (forest (drop (k + 1) items)))))
counted_here whole passed left here items k node there here_is counted =
    counted.all
    ∙ ap (λ (rest : List PlainNode). passed + length (lines false 0 left (forest rest))) (left_from items k node there)
    ∙ ap (λ n. passed + n) (lines_next left node.label node.inner (forest (drop (k + 1) items)))
    ∙ sym (ap (λ (h : List PlainSection). passed + (fixed_count (next_lead h) + (node_line_count node.label node.inner + length (lines false 0 (left_after h) (forest (drop (k + 1) items)))))) here_is)

pub counted_next : (whole passed now : ℕ) (left here later : List PlainSection) (items : List PlainNode) (k : ℕ) (node : PlainNode)
    → slice_get items k ≡ Some node → here ≡ left_for (sort_of node.label.kind) left → later ≡ left_after here
    → now ≡ passed + fixed_count (next_lead here) + node_line_count node.label node.inner → AreCounted whole passed left (drop k items)
    → AreCounted whole now later (drop (k + 1) items)
counted_next whole passed now left here later items k node there here_is later_is now_is counted = record {
  all =
      let here_all = counted_here whole passed left here items k node there here_is counted in
      let same = ap (λ (h : List PlainSection). length (lines false 0 h (forest (drop (k + 1) items)))) later_is in
      omega (arith, here_all, now_is, same);
}

pub counted_all : (whole passed : ℕ) (left : List PlainSection) (items : List PlainNode) (k : ℕ) → length items ≤ k
    → AreCounted whole passed left (drop k items) → passed ≡ whole
counted_all whole passed left items k past counted =
    let none = ap (λ (rest : List PlainNode). length (lines false 0 left (forest rest))) (drop_of_length-le items past) in
    omega (arith, counted.all, none)

-- ---- a place that is sought, node by node

-- a place is among the first node or among the others
place_first : (place : PlainPlace) (left : List PlainSection) (label : Label) (inner rest : Forest)
    → lines_to_place place left (Forest.cons label inner rest)
    ≡ option_or (option_map (λ n. fixed_count (next_lead (left_for (sort_of label.kind) left)) + n) (lines_to_inside place (record { label = label; inner = inner })))
    (option_map (λ n. fixed_count (next_lead (left_for (sort_of label.kind) left)) + (node_line_count label inner + n))
    (lines_to_place place (left_after (left_for (sort_of label.kind) left)) rest))
place_first place left label inner rest =
    let here = left_for (sort_of label.kind) left in
    let within = lines_to_place place (row_of label.kind).sections inner in
    let others = lines_to_place place (left_after here) rest in
    ap (λ n. by_lead n here within others) (fixed_length 0 (next_lead here))
    ∙ by_test (label.slot == place.slot) (fixed_count (next_lead here)) within
    (option_map (λ n. fixed_count (next_lead here) + (node_line_count label inner + n)) others)
  where
    by_lead : (lead : ℕ) (here : List PlainSection) (within others : Option ℕ) → Option ℕ
    by_lead lead here within others =
        option_or (if label.slot == place.slot then Some (lead + lines_to_point label inner place.point) else option_map (λ n. lead + (1 + n)) within)
        (option_map (λ n. lead + (node_line_count label inner + n)) others)

    mapped_twice : (lead : ℕ) (within : Option ℕ) → option_map (λ n. lead + (1 + n)) within ≡ option_map (λ n. lead + n) (option_map (λ n. 1 + n) within)
    mapped_twice lead None = refl
    mapped_twice lead (Some n) = refl

    by_test : (test : Bool) (lead : ℕ) (within others : Option ℕ)
        → option_or (if test then Some (lead + lines_to_point label inner place.point) else option_map (λ n. lead + (1 + n)) within) others
        ≡ option_or (option_map (λ n. lead + n) (if test then Some (lines_to_point label inner place.point) else option_map (λ n. 1 + n) within)) others
    by_test true lead within others = refl
    by_test false lead within others = ap (λ o. option_or o others) (mapped_twice lead within)

-- the place isn't among the nodes before, whose lines were passed
pub record IsSought (place : PlainPlace) (whole : Option ℕ) (passed : ℕ) (left : List PlainSection) (rest : List PlainNode) : Type 0 where
  pub all : whole ≡ option_map (λ n. passed + n) (lines_to_place place left (forest rest))

same_map : (o : Option ℕ) → o ≡ option_map (λ n. 0 + n) o
same_map None = refl
same_map (Some n) = ap (λ m. Some m) (let sum : n ≡ 0 + n = omega arith in sum)

pub sought_none : (place : PlainPlace) (sections now : List PlainSection) (items : Forest) → now ≡ sections
    → IsSought place (lines_to_place place sections items) 0 now (drop 0 (nodes items))
sought_none place sections now items same = record {
  all =
      same_map (lines_to_place place sections items)
      ∙ ap (λ (f : Forest). option_map (λ n. 0 + n) (lines_to_place place sections f)) (sym (forest_nodes items))
      ∙ ap (λ (left : List PlainSection). option_map (λ n. 0 + n) (lines_to_place place left (forest (nodes items)))) (sym same);
}

-- what is sought by the next node and those behind it
sought_here : (place : PlainPlace) (whole : Option ℕ) (passed : ℕ) (left here : List PlainSection) (items : List PlainNode) (k : ℕ) (node : PlainNode)
    → slice_get items k ≡ Some node → here ≡ left_for (sort_of node.label.kind) left → IsSought place whole passed left (drop k items)
    → whole ≡ option_map (λ n. passed + n) (option_or (option_map (λ n. fixed_count (next_lead here) + n) (lines_to_inside place node))
    (option_map (λ n. fixed_count (next_lead here) + (node_line_count node.label node.inner + n)) (lines_to_place place (left_after here) (forest (drop (k + 1) items)))))
sought_here place whole passed left here items k node there here_is sought =
    sought.all
    ∙ ap (λ (rest : List PlainNode). option_map (λ n. passed + n) (lines_to_place place left (forest rest))) (left_from items k node there)
    ∙ ap (option_map (λ n. passed + n)) (place_first place left node.label node.inner (forest (drop (k + 1) items)))
    ∙ sym (ap (λ (h : List PlainSection). option_map (λ n. passed + n) (option_or (option_map (λ n. fixed_count (next_lead h) + n) (lines_to_inside place node))
    (option_map (λ n. fixed_count (next_lead h) + (node_line_count node.label node.inner + n)) (lines_to_place place (left_after h) (forest (drop (k + 1) items)))))) here_is)

-- it is found in the next node
pub sought_found : (place : PlainPlace) (whole : Option ℕ) (passed now : ℕ) (left here : List PlainSection) (items : List PlainNode) (k : ℕ) (node : PlainNode) (n : ℕ)
    → slice_get items k ≡ Some node → here ≡ left_for (sort_of node.label.kind) left → now ≡ passed + fixed_count (next_lead here)
    → lines_to_inside place node ≡ Some n → IsSought place whole passed left (drop k items) → whole ≡ Some (now + n)
sought_found place whole passed now left here items k node n there here_is now_is found sought =
    sought_here place whole passed left here items k node there here_is sought
    ∙ ap (λ (o : Option ℕ). option_map (λ n. passed + n) (option_or (option_map (λ n. fixed_count (next_lead here) + n) o)
    (option_map (λ n. fixed_count (next_lead here) + (node_line_count node.label node.inner + n)) (lines_to_place place (left_after here) (forest (drop (k + 1) items)))))) found
    ∙ ap (λ n. Some n) (let sum : passed + (fixed_count (next_lead here) + n) ≡ now + n = omega (arith, now_is) in sum)

mapped_on : (passed lead own now : ℕ) (o : Option ℕ) → now ≡ passed + lead + own
    → option_map (λ n. passed + n) (option_map (λ n. lead + (own + n)) o) ≡ option_map (λ n. now + n) o
mapped_on passed lead own now None is = refl
mapped_on passed lead own now (Some n) is = ap (λ m. Some m) (let sum : passed + (lead + (own + n)) ≡ now + n = omega (arith, is) in sum)

-- it isn't there
pub sought_next : (place : PlainPlace) (whole : Option ℕ) (passed now : ℕ) (left here later : List PlainSection) (items : List PlainNode) (k : ℕ) (node : PlainNode)
    → slice_get items k ≡ Some node → here ≡ left_for (sort_of node.label.kind) left → later ≡ left_after here
    → now ≡ passed + fixed_count (next_lead here) + node_line_count node.label node.inner → lines_to_inside place node ≡ None
    → IsSought place whole passed left (drop k items) → IsSought place whole now later (drop (k + 1) items)
sought_next place whole passed now left here later items k node there here_is later_is now_is lacks sought = record {
  all =
      sought_here place whole passed left here items k node there here_is sought
      ∙ ap (λ (o : Option ℕ). option_map (λ n. passed + n) (option_or (option_map (λ n. fixed_count (next_lead here) + n) o)
      (option_map (λ n. fixed_count (next_lead here) + (node_line_count node.label node.inner + n)) (lines_to_place place (left_after here) (forest (drop (k + 1) items)))))) lacks
      ∙ mapped_on passed (fixed_count (next_lead here)) (node_line_count node.label node.inner) now (lines_to_place place (left_after here) (forest (drop (k + 1) items))) now_is
      ∙ ap (λ (h : List PlainSection). option_map (λ n. now + n) (lines_to_place place h (forest (drop (k + 1) items)))) (sym later_is);
}

-- it is nowhere
pub sought_all : (place : PlainPlace) (whole : Option ℕ) (passed : ℕ) (left : List PlainSection) (items : List PlainNode) (k : ℕ) → length items ≤ k
    → IsSought place whole passed left (drop k items) → whole ≡ None
sought_all place whole passed left items k past sought =
    sought.all ∙ ap (λ (rest : List PlainNode). option_map (λ n. passed + n) (lines_to_place place left (forest rest))) (drop_of_length-le items past)

-- ---- the line is one of those that are there

-- a number of lines that is found, if one is, is below the number
abbrev pub IsBelow : ℕ → Option ℕ → Type 0
IsBelow most None = Unit {0}
IsBelow most (Some n) = n < most

or_below : (most : ℕ) (one other : Option ℕ) → IsBelow most one → IsBelow most other → IsBelow most (option_or one other)
or_below most None other first second = second
or_below most (Some n) other first second = first

map_below : (most more all : ℕ) (o : Option ℕ) → more + most ≤ all → IsBelow most o → IsBelow all (option_map (λ n. more + n) o)
map_below most more all None fits below = tt
map_below most more all (Some n) fits below = omega (arith, fits, below)

last_counts : (text : Option (List ℕ)) → is_some text ≡ true → fixed_count text ≡ 1
last_counts None some = absurd (cc)
last_counts (Some text) some = refl

point_below : (label : Label) (inner : Forest) (point : ℕ) → lines_to_point label inner point < node_line_count label inner
point_below label inner point = by_test (is_at_last_line label.kind point) (λ at. last_counts (row_of label.kind).last
    (and_parts _ _ (and_parts _ _ at).1).1) where
      by_test : (test : Bool) → (test ≡ true → fixed_count (row_of label.kind).last ≡ 1)
          → (if test then 1 + inner_line_count label inner else 0) < node_line_count label inner
      by_test true last = let one = last refl in omega (arith, one, node_lines label inner)
      by_test false last = omega (arith, node_lines label inner)

pub inside_below : (place : PlainPlace) (node : PlainNode) → IsBelow (inner_line_count node.label node.inner) (lines_to_place place (row_of node.label.kind).sections node.inner)
    → IsBelow (node_line_count node.label node.inner) (lines_to_inside place node)
inside_below place node below = by_test (node.label.slot == place.slot) where
  by_test : (test : Bool) → IsBelow (node_line_count node.label node.inner) (if test then Some (lines_to_point node.label node.inner place.point)
      else option_map (λ n. 1 + n) (lines_to_place place (row_of node.label.kind).sections node.inner))
  by_test true = point_below node.label node.inner place.point
  by_test false =
      map_below (inner_line_count node.label node.inner) 1 (node_line_count node.label node.inner) (lines_to_place place (row_of node.label.kind).sections node.inner)
      (omega (arith, node_lines node.label node.inner)) below

pub place_below : (place : PlainPlace) (left : List PlainSection) (items : Forest) → IsBelow (length (lines false 0 left items)) (lines_to_place place left items)
place_below place left Forest.nil = tt
place_below place left (Forest.cons label inner rest) =
    let here = left_for (sort_of label.kind) left in
    let lead = fixed_count (next_lead here) in
    let own = node_line_count label inner in
    let all = length (lines false 0 left (Forest.cons label inner rest)) in
    let inside = inside_below place (record { label = label; inner = inner }) (place_below place (row_of label.kind).sections inner) in
    let others = place_below place (left_after here) rest in
    let first = map_below own lead all (lines_to_inside place (record { label = label; inner = inner })) (omega (arith, lines_next left label inner rest)) inside in
    let second = map_below_twice lead own all (lines_to_place place (left_after here) rest) (length (lines false 0 (left_after here) rest))
    (omega (arith, lines_next left label inner rest)) others in
    subst_below all (lines_to_place place left (Forest.cons label inner rest)) (place_first place left label inner rest) (or_below all _ _ first second)
  where
    map_below_twice : (lead own all : ℕ) (o : Option ℕ) (most : ℕ) → lead + (own + most) ≤ all → IsBelow most o → IsBelow all (option_map (λ n. lead + (own + n)) o)
    map_below_twice lead own all None most fits below = tt
    map_below_twice lead own all (Some n) most fits below = omega (arith, fits, below)

    subst_below : (all : ℕ) (one : Option ℕ) {other : Option ℕ} → one ≡ other → IsBelow all other → IsBelow all one
    subst_below all one same below = subst (IsBelow all) (sym same) below
