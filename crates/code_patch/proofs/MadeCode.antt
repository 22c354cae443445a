-- Kept code that is made anew node by node: what is kept so far, and what is still to be kept, is all of it.
use Rattle.std.proofs.Common.{◌≡◌, ℕ, ◌+◌, ◌-◌, ◌≤◌, List, [], ◌∷◌, ◌++◌, length, sum, take, drop, Option, Some, None, refl, ap, sym, ◌∙◌, arith}
use Rattle.std.specs.Prelude.{slice_get}
use Rattle.std.specs.Option.{option_to_list}
use Rattle.std.proofs.lemmas.List.Sums.{sum_by-cons}
use Rattle.plcs_base.specs.ListLeft.{left_from, none_left}
use Rattle.plcs_base.specs.Mark.{MarkMap}
use Rattle.plcs_base.specs.Scope.{ItemMap}
use Rattle.template_tree.specs.Programs.Limit.{most_slots}
use Rattle.template_tree.specs.Programs.PlainTree.{Forest, PlainNode, forest, nodes}
use Rattle.template_tree.specs.Programs.Program.{AreNodes}
use Rattle.template_tree.specs.Programs.Slots.{count}
use Rattle.plcs_code.specs.BlockLimit.{most_instrs}
use Rattle.plcs_code.specs.CodeLaws.{OwnLengthsStay}
use Rattle.plcs_code.specs.Gen.{node_lengths}
use Rattle.plcs_code.specs.OwnCode.{PlainOwnCode, jumps_around, jumps_beside, own_code_by}
use Rattle.plcs_code.specs.Pieces.{CodeJumps}
use Rattle.plcs_code.specs.PlainInstr.{PlainInstr}
use Rattle.code_patch.specs.declared.outer.Outer.{Outer}
use Rattle.code_patch.specs.CodeEdit.{join_code, roomless_code}
use Rattle.code_patch.specs.CodeForest.{CodeForest, count_around, kept_code, kept_lengths, PlainCodeNode, code_nodes}
use Rattle.code_patch.specs.Private.OuterNodes.{IsOuter, nodes_inside}
use Rattle.code_patch.specs.Private.PlainCodeNode.{code_forest, jumps_length, kept_node, node_length, roomless_code_node}
use Rattle.code_patch.proofs.ToldCode.{count_is, lengths_kept, roomless_lengths}

-- ---- nodes inside

-- the nodes inside the program or a node of it are what their rows ask for, and no more than a program may have
pub outer_sound : (outer : Outer) → IsOuter outer → AreNodes (nodes_inside outer) × (count (nodes_inside outer) ≤ most_slots)
outer_sound (Outer.Program tree) is = (is.program.sound, is.few)
outer_sound (Outer.Node node) is = (is.0.1, omega (arith, is.1))

-- ---- kept nodes joined

pub join_none : (kept : CodeForest) → join_code kept CodeForest.nil ≡ kept
join_none CodeForest.nil = refl
join_none (CodeForest.cons own spare inner rest) = ap (λ (r : CodeForest). CodeForest.cons own spare inner r) (join_none rest)

pub join_both : (one two three : CodeForest) → join_code (join_code one two) three ≡ join_code one (join_code two three)
join_both CodeForest.nil two three = refl
join_both (CodeForest.cons own spare inner rest) two three =
    ap (λ (r : CodeForest). CodeForest.cons own spare inner r) (join_both rest two three)

-- joined without room
pub roomless_join : (one other : CodeForest) → roomless_code (join_code one other) ≡ join_code (roomless_code one) (roomless_code other)
roomless_join CodeForest.nil other = refl
roomless_join (CodeForest.cons own spare inner rest) other =
    ap (λ (r : CodeForest). CodeForest.cons own 0 (roomless_code inner) r) (roomless_join rest other)

-- as a list
pub nodes_join : (one other : CodeForest) → code_nodes (join_code one other) ≡ code_nodes one ++ code_nodes other
nodes_join CodeForest.nil other = refl
nodes_join (CodeForest.cons own spare inner rest) other =
    ap (λ (ns : List PlainCodeNode). record { own = own; spare = spare; inner = inner } ∷ ns) (nodes_join rest other)

pub forest_join : (one other : List PlainCodeNode) → code_forest (one ++ other) ≡ join_code (code_forest one) (code_forest other)
forest_join [] other = refl
forest_join (node ∷ one) other = ap (λ (r : CodeForest). CodeForest.cons node.own node.spare node.inner r) (forest_join one other)

-- ---- nodes in turn

module _ (marks : MarkMap) (items : ItemMap) (all : Forest) (k : ℕ) (node : PlainNode) (there : slice_get (nodes all) k ≡ Some node) where
  left : forest (drop k (nodes all)) ≡ Forest.cons node.label node.inner (forest (drop (k + 1) (nodes all)))
  left = ap forest (left_from (nodes all) k node there)

  -- a node is kept, and what is left comes behind it
  pub made_next : (whole kept : CodeForest) (child : PlainCodeNode) → roomless_code_node child ≡ kept_node marks items node
      → join_code (roomless_code kept) (kept_code marks items (forest (drop k (nodes all)))) ≡ whole
      → join_code (roomless_code (join_code kept (code_forest (child ∷ [])))) (kept_code marks items (forest (drop (k + 1) (nodes all)))) ≡ whole
  made_next whole kept child is so_far =
      let later = kept_code marks items (forest (drop (k + 1) (nodes all))) in
      ap (λ (one : CodeForest). join_code one later) (roomless_join kept (code_forest (child ∷ [])))
      ∙ join_both (roomless_code kept) (roomless_code (code_forest (child ∷ []))) later
      ∙ ap (λ (n : PlainCodeNode). join_code (roomless_code kept) (CodeForest.cons n.own n.spare n.inner later)) is
      ∙ ap (λ (f : Forest). join_code (roomless_code kept) (kept_code marks items f)) (sym left)
      ∙ so_far

  -- so many instructions it and those behind it have
  pub lengths_next : sum (node_lengths marks items (forest (drop k (nodes all))))
      ≡ node_length marks items node + sum (node_lengths marks items (forest (drop (k + 1) (nodes all))))
  lengths_next =
      ap (λ (f : Forest). sum (node_lengths marks items f)) left
      ∙ sum_by-cons (λ (n : ℕ). n) (node_length marks items node) (node_lengths marks items (forest (drop (k + 1) (nodes all))))

-- where none is left all are kept
pub made_all : (marks : MarkMap) (items : ItemMap) (all : Forest) (k : ℕ) (whole kept : CodeForest) → slice_get (nodes all) k ≡ None
    → join_code (roomless_code kept) (kept_code marks items (forest (drop k (nodes all)))) ≡ whole → roomless_code kept ≡ whole
made_all marks items all k whole kept none so_far =
    sym (join_none (roomless_code kept))
    ∙ sym (ap (λ (ns : List PlainNode). join_code (roomless_code kept) (kept_code marks items (forest ns))) (none_left (nodes all) k none))
    ∙ so_far

-- and nothing more is counted
pub lengths_none : (marks : MarkMap) (items : ItemMap) (all : Forest) (k : ℕ) → slice_get (nodes all) k ≡ None
    → sum (node_lengths marks items (forest (drop k (nodes all)))) ≡ 0
lengths_none marks items all k none = ap (λ (ns : List PlainNode). sum (node_lengths marks items (forest ns))) (none_left (nodes all) k none)

-- what is kept of a program has no room
pub roomless_kept : (marks : MarkMap) (items : ItemMap) (program : Forest) → roomless_code (kept_code marks items program) ≡ kept_code marks items program
roomless_kept marks items Forest.nil = refl
roomless_kept marks items (Forest.cons label inner rest) =
    (λ i. CodeForest.cons (own_code_by marks items label) 0 (roomless_kept marks items inner i) (roomless_kept marks items rest i))

-- ---- a node with its own code

-- the jumps beside the codes inside, by the length of the first and of all
pub around_is : (own : PlainOwnCode) (lengths : List ℕ) (first total : ℕ) → first ≡ sum (take 1 lengths) → total ≡ sum lengths
    → jumps_around own first (total - first) ≡ jumps_beside own lengths
around_is own [] first total one all =
    let none : sum (take 1 []) ≡ 0 = omega arith in
    let first_none : first ≡ 0 = omega (arith, one, none) in
    let nothing : total - first ≡ 0 = omega (arith, one, all) in
    (λ i. jumps_around own (first_none i) (nothing i))
around_is own (n ∷ ns) first total one all =
    let it : first ≡ n = omega (arith, one, sum_by-cons (λ (m : ℕ). m) n []) in
    let others : total - first ≡ sum ns = omega (arith, it, all, sum_by-cons (λ (m : ℕ). m) n ns) in
    (λ i. jumps_around own (it i) (others i))

-- one instruction or none
pub one_at_most : (jump : Option PlainInstr) → length (option_to_list jump) ≤ 1
one_at_most None = omega arith
one_at_most (Some instr) = omega arith

-- its code isn't too long where the pieces and the codes inside leave room for three jumps
pub own_short : (own : PlainOwnCode) (lengths : List ℕ)
    → length own.pieces.before + length own.pieces.behind + sum lengths + 5 ≤ most_instrs → count_around own lengths ≤ most_instrs
own_short own lengths short =
    let around : CodeJumps = jumps_beside own lengths in
    omega (arith, short, one_at_most around.ahead, one_at_most around.between, one_at_most around.back)

-- the codes inside that are kept have the lengths of the codes that are made
pub inside_lengths : OwnLengthsStay → (marks : MarkMap) (items : ItemMap) (program : Forest) (kept : CodeForest)
    → roomless_code kept ≡ kept_code marks items program → kept_lengths kept ≡ node_lengths marks items program
inside_lengths stay marks items program kept is =
    sym (roomless_lengths kept) ∙ ap kept_lengths is ∙ lengths_kept stay marks items program

-- so many instructions the pieces, the codes inside and the jumps have together
pub whole_length : OwnLengthsStay → (marks : MarkMap) (items : ItemMap) (node : PlainNode) (own : PlainOwnCode) (kept : CodeForest)
    → own ≡ own_code_by marks items node.label → roomless_code kept ≡ kept_code marks items node.inner
    → length own.pieces.before + length own.pieces.behind + (sum (node_lengths marks items node.inner) + jumps_length own (kept_lengths kept))
    ≡ node_length marks items node
whole_length stay marks items node own kept its is =
    let lengths : kept_lengths kept ≡ node_lengths marks items node.inner = inside_lengths stay marks items node.inner kept is in
    let all : sum (kept_lengths kept) ≡ sum (node_lengths marks items node.inner) = ap sum lengths in
    let whole : count_around own (kept_lengths kept) ≡ node_length marks items node =
    (λ i. count_around (its i) (lengths i)) ∙ count_is stay marks items node.label (node_lengths marks items node.inner) in
    omega (arith, all, whole)

-- what is kept of the node
pub node_kept : (marks : MarkMap) (items : ItemMap) (node : PlainNode) (kept : PlainCodeNode) (own : PlainOwnCode) (inner : CodeForest)
    → kept.own ≡ own → kept.inner ≡ inner → own ≡ own_code_by marks items node.label → roomless_code inner ≡ kept_code marks items node.inner
    → roomless_code_node kept ≡ kept_node marks items node
node_kept marks items node kept own inner its inside is made =
    (λ i. record { own = (its ∙ is) i; spare = 0; inner = (ap roomless_code inside ∙ made) i })
