-- Lengths counted ahead from the last node on: those of the nodes that are left, with one node more each time.
use Rattle.std.proofs.Common.{ℕ, ◌+◌, ◌≡◌, List, [], ◌∷◌, ◌++◌, Some, drop, length, slice_get, ap, subst, sym, ◌∙◌, arith, append_assoc}
use Rattle.std.specs.Prelude.{sum}
use Rattle.std.specs.Option.{option_to_list}
use Rattle.std.proofs.lemmas.List.{append-nil, length-append}
use Rattle.std.proofs.lemmas.List.Sums.{sum_by-cons}
use Rattle.plcs_base.specs.Mark.{MarkMap}
use Rattle.plcs_base.specs.Scope.{ItemMap}
use Rattle.plcs_base.specs.declared.declared.Declared.{Declared}
use Rattle.template_tree.specs.Programs.PlainTree.{Forest, Label, PlainNode, forest}
use Rattle.template_tree.specs.Checks.ProgramMaps.{items_in}
use Rattle.plcs_code.specs.declared.lengths.NodeLength.{NodeLength}
use Rattle.plcs_code.specs.Gen.{length_around, node_lengths, own_length}
use Rattle.plcs_code.specs.Pieces.{CodeJumps, CodePieces, count_pieces, first_length, jumps, other_lengths, own_jumps, own_pieces, pieces}
use Rattle.plcs_code.specs.PlainInstr.{PlainInstr}
use Rattle.plcs_code.specs.Private.LaidCode.{length_of, listed_lengths}
use Rattle.plcs_code.proofs.CodeLengths.{AsMany, own_instrs_length, own_jumps_many}
use Rattle.plcs_code.proofs.LaidNodes.{first_others, lengths_next}
use Rattle.plcs_code.proofs.LaidPieces.{own_behind}
use Rattle.plcs_code.proofs.ReadParts.{left_with}

-- the nodes from a number on are the one of the number and those behind it
pub nodes_left : (all : List PlainNode) (k next : ℕ) (node : PlainNode) → slice_get all k ≡ Some node → k + 1 ≡ next
    → forest (drop k all) ≡ Forest.cons node.label node.inner (forest (drop next all))
nodes_left all k next node there is =
    ap forest (left_with all k node there) ∙ ap (λ n. Forest.cons node.label node.inner (forest (drop n all))) is

-- a number that is the only length of a node is its length
pub only_length : (n m : ℕ) → n ∷ [] ≡ m ∷ [] → n ≡ m
only_length n m is = ap first_length is

module _ (marks : MarkMap) (items : ItemMap) (all : List PlainNode) (k next : ℕ) (node : PlainNode) (there : slice_get all k ≡ Some node) (is : k + 1 ≡ next) where
  left_lengths : node_lengths marks items (forest (drop k all))
      ≡ length_around marks items node.label (node_lengths marks items node.inner) ∷ node_lengths marks items (forest (drop next all))
  left_lengths = ap (node_lengths marks items) (nodes_left all k next node there is)

  -- the first length
  pub first_left : (n : ℕ) → n ∷ [] ≡ node_lengths marks items (forest (node ∷ [])) → n ≡ first_length (node_lengths marks items (forest (drop k all)))
  first_left n counted = ap first_length counted ∙ ap first_length (sym left_lengths)

  -- and those of the others
  pub others_left : (first others n : ℕ) → first ≡ first_length (node_lengths marks items (forest (drop next all)))
      → others ≡ other_lengths (node_lengths marks items (forest (drop next all))) → n ≡ first + others
      → n ≡ other_lengths (node_lengths marks items (forest (drop k all)))
  others_left first others n one two sum_is =
      let rest = node_lengths marks items (forest (drop next all)) in
      let whole : n ≡ sum rest = omega (arith, one, two, sum_is, first_others rest) in
      whole ∙ ap other_lengths (sym left_lengths)

  -- the sum of all
  pub sum_left : (n total both : ℕ) → n ∷ [] ≡ node_lengths marks items (forest (node ∷ [])) → total ≡ sum (node_lengths marks items (forest (drop next all)))
      → both ≡ n + total → both ≡ sum (node_lengths marks items (forest (drop k all)))
  sum_left n total both counted is_total is_both =
      let one : n ≡ length_around marks items node.label (node_lengths marks items node.inner) = ap first_length counted in
      let added : sum (length_around marks items node.label (node_lengths marks items node.inner) ∷ node_lengths marks items (forest (drop next all)))
      ≡ length_around marks items node.label (node_lengths marks items node.inner) + sum (node_lengths marks items (forest (drop next all))) =
      sum_by-cons (λ n. n) (length_around marks items node.label (node_lengths marks items node.inner)) (node_lengths marks items (forest (drop next all))) in
      let whole : both ≡ sum (length_around marks items node.label (node_lengths marks items node.inner) ∷ node_lengths marks items (forest (drop next all))) =
      omega (arith, one, added, is_total, is_both) in
      whole ∙ ap sum (sym left_lengths)

  -- the lengths as they are listed
  pub listed_left : (old before after : List NodeLength) → before ≡ listed_lengths marks items (forest (drop next all)) ++ old
      → after ≡ listed_lengths marks items (forest (node ∷ [])) ++ before → after ≡ listed_lengths marks items (forest (drop k all)) ++ old
  listed_left old before after was now =
      let own = listed_lengths marks items (forest (node ∷ [])) in
      let rest = listed_lengths marks items (forest (drop next all)) in
      now
      ∙ ap (λ ls. own ++ ls) was
      ∙ sym (append_assoc own rest old)
      ∙ ap (λ ls. ls ++ old) (sym (lengths_next marks items node.label node.inner (forest (drop next all))))
      ∙ ap (λ f. listed_lengths marks items f ++ old) (sym (nodes_left all k next node there is))

-- the length of a node is put before those of what stands inside it
pub listed_more : (marks : MarkMap) (items : ItemMap) (label : Label) (inner : Forest) (whole own first others : ℕ) (old before after : List NodeLength)
    → whole ≡ length_around marks items label (node_lengths marks items inner) → own ≡ count_pieces (pieces marks items label)
    → first ≡ first_length (node_lengths marks items inner)
    → others ≡ other_lengths (node_lengths marks items inner) → before ≡ listed_lengths marks items inner ++ old
    → after ≡ record { whole = whole; pieces = own; first = first; others = others } ∷ before
    → after ≡ listed_lengths marks items (Forest.cons label inner Forest.nil) ++ old
listed_more marks items label inner whole own first others old before after a p b c d e =
    let node : NodeLength = record { whole = whole; pieces = own; first = first; others = others } in
    let is : node ≡ length_of marks items label (node_lengths marks items inner) =
    λ i. record { whole = a i; pieces = p i; first = b i; others = c i } in
    e
    ∙ ap (λ (n : NodeLength). n ∷ before) is
    ∙ ap (λ (ls : List NodeLength). length_of marks items label (node_lengths marks items inner) ∷ ls) d
    ∙ ap (λ (ls : List NodeLength). length_of marks items label (node_lengths marks items inner) ∷ (ls ++ old)) (sym (append-nil (listed_lengths marks items inner)))

-- ---- a node's own code

-- the pieces of a node are as long, by its items alone
pub counted_pieces : (marks : MarkMap) (map : ItemMap) (label : Label) (items : List Declared)
    → own_pieces marks items label ≡ pieces marks map label
    → length ((own_pieces marks items label).before ++ (own_pieces marks [] label).behind) ≡ count_pieces (pieces marks map label)
counted_pieces marks map label items has =
    let before = (own_pieces marks items label).before in
    let behind = (own_pieces marks [] label).behind in
    let first : length before ≡ length (pieces marks map label).before = ap (λ (own : CodePieces). length own.before) has in
    let last : length behind ≡ length (pieces marks map label).behind = ap (λ (code : List PlainInstr). length code) (own_behind marks [] (items_in map label.slot) label) in
    omega (arith, first, last, length-append before behind)

-- the own code of a node is as long, by its items alone and whatever its jumps go over
pub counted_own : (marks : MarkMap) (map : ItemMap) (label : Label) (items : List Declared) (around : CodeJumps)
    → own_pieces marks items label ≡ pieces marks map label → around ≡ own_jumps marks label 0 0 0
    → length
    ((own_pieces marks items label).before
    ++ ((own_pieces marks [] label).behind
    ++ (option_to_list around.ahead ++ (option_to_list around.between ++ option_to_list around.back))))
    ≡ own_length marks map label
counted_own marks map label items around has is =
    let before = (own_pieces marks items label).before in
    let behind = (own_pieces marks [] label).behind in
    let ahead = option_to_list around.ahead in
    let between = option_to_list around.between in
    let back = option_to_list around.back in
    let many : AsMany around (jumps marks map label []) =
    subst (λ (j : CodeJumps). AsMany j (jumps marks map label [])) (sym is)
    (own_jumps_many marks label 0 0 0 (count_pieces (pieces marks map label)) 0 0) in
    let e = many.ahead in
    let f = many.between in
    let g = many.back in
    let first : length before ≡ length (pieces marks map label).before = ap (λ (own : CodePieces). length own.before) has in
    let last : length behind ≡ length (pieces marks map label).behind = ap (λ (code : List PlainInstr). length code) (own_behind marks [] (items_in map label.slot) label) in
    omega
    (arith, e, f, g, first, last, own_instrs_length marks map label [], length-append before (behind ++ (ahead ++ (between ++ back))), length-append behind (ahead ++ (between ++ back)), length-append ahead (between ++ back), length-append between back)
