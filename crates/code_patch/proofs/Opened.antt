-- What is kept in a node in memory.
use Rattle.std.specs.Prelude.{◌≡◌, ℕ, ◌≤◌, length, map, sum, slice_get}
use Rattle.std.specs.Option.{option_to_list}
use Rattle.std.proofs.Common.{ap, sym, ◌∙◌, arith}
use Rattle.plcs_code.specs.BlockLimit.{most_instrs}
use Rattle.plcs_code.specs.OwnCode.{jumps_beside}
use Rattle.code_patch.specs.declared.code_node.CodeNode.TheInside.{Inside}
use Rattle.code_patch.specs.CodeForest.{count_around, kept_lengths, PlainCodeNode, code_nodes}
use Rattle.code_patch.specs.Private.CodeNodeView.{IsCodeNodeRight, code_node_seen}
use Rattle.code_patch.specs.Private.PlainCodeNode.{code_nodes_forest, kept_length, kept_lengths_forest}

module _ {W : Type 0} (a : Inside W) (node : PlainCodeNode) (view : code_node_seen a ≡ node) (right : IsCodeNodeRight a) where
  -- the own code
  pub own_is : a.own ≡ node.own
  own_is = ap (λ (n : PlainCodeNode). n.own) view

  -- the lengths of what is kept inside it
  pub kept_are : map kept_length a.inner.items ≡ kept_lengths node.inner
  kept_are = sym (kept_lengths_forest a.inner.items) ∙ ap (λ (n : PlainCodeNode). kept_lengths n.inner) view

  -- the numbers are these
  pub numbers_are : a.lengths.numbers ≡ kept_lengths node.inner
  numbers_are = right.lengths ∙ kept_are

  -- together
  pub numbers_sum : sum a.lengths.numbers ≡ sum (kept_lengths node.inner)
  numbers_sum = ap sum numbers_are

  -- the jumps
  pub ahead_is : a.jumps.ahead ≡ option_to_list (jumps_beside node.own (kept_lengths node.inner)).ahead
  ahead_is = right.ahead ∙ (λ i. option_to_list (jumps_beside (own_is i) (kept_are i)).ahead)

  pub between_is : a.jumps.between ≡ option_to_list (jumps_beside node.own (kept_lengths node.inner)).between
  between_is = right.between ∙ (λ i. option_to_list (jumps_beside (own_is i) (kept_are i)).between)

  pub back_is : a.jumps.back ≡ option_to_list (jumps_beside node.own (kept_lengths node.inner)).back
  back_is = right.back ∙ (λ i. option_to_list (jumps_beside (own_is i) (kept_are i)).back)

  -- the code isn't too long
  pub short_is : kept_length node ≤ most_instrs
  short_is =
      let same : count_around a.own (map kept_length a.inner.items) ≡ kept_length node = (λ i. count_around (own_is i) (kept_are i)) in
      omega (arith, same, right.short)

  -- a node inside it is found in what is seen as in what is kept
  pub found_again : (k : ℕ) → slice_get (code_nodes node.inner) k ≡ slice_get a.inner.items k
  found_again k =
      sym (ap (λ (n : PlainCodeNode). slice_get (code_nodes n.inner) k) view) ∙ ap (λ xs. slice_get xs k) (code_nodes_forest a.inner.items)

  -- and as many are
  pub many_are : length (code_nodes node.inner) ≡ length a.inner.items
  many_are = sym (ap (λ (n : PlainCodeNode). length (code_nodes n.inner)) view) ∙ ap length (code_nodes_forest a.inner.items)
