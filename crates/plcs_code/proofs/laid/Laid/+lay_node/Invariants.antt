use Rattle.std.proofs.Common.{◌≡◌, ◌+◌, ◌-◌, ◌≤◌, ◌++◌, ℕ, List, drop, length}
use Rattle.std.specs.Option.{option_to_list}
use Rattle.std.specs.Prelude.{option_map, sum}
use Rattle.template_tree.specs.Programs.PlainTree.{forest, nodes}
use Rattle.template_tree.specs.Programs.Slots.{count}
use Rattle.plcs_code.specs.declared.lengths.NodeLength.{NodeLength}
use Rattle.plcs_code.specs.BlockLimit.{most_instrs}
use Rattle.plcs_code.specs.Counts.{Emits}
use Rattle.plcs_code.specs.Gen.{codes_around, node_codes, node_lengths}
use Rattle.plcs_code.specs.PlainInstr.{plain_instr}
use Rattle.plcs_code.specs.Private.LaidCode.{listed_lengths, with_nodes}
use Rattle.plcs_code.proofs.laid.Laid.+lay_node.Given as goal

abbrev pub decreases-lay_node : goal.decreases-lay_node
decreases-lay_node g l = count l.node.now.inner + count l.node.now.inner + 1

abbrev pub decreases-lay_inside : goal.decreases-lay_inside
decreases-lay_inside g l = count l.node.now.inner + count l.node.now.inner

abbrev pub decreases-lay_inside-loop-child : goal.decreases-lay_inside-loop-child
decreases-lay_inside-loop-child g l = length (nodes l.node.inner) - l.k

abbrev pub invariant-lay_inside-loop-child : goal.invariant-lay_inside-loop-child
invariant-lay_inside-loop-child g l =
    let marks = g.M.Marked.marks l.marks in
    let items = g.D.Scope.items l.scope in
    let left = forest (drop l.k (nodes l.node.inner)) in
    record {
      within : l.k ≤ length (nodes l.node.inner);
      short : sum (node_lengths marks items left) + 2 ≤ most_instrs;
      laid :
          with_nodes marks items (option_to_list (option_map plain_instr l.jump)) left l.self
          ≡ with_nodes marks items (option_to_list (option_map plain_instr l.fn.between)) l.node.inner l.fn.self;
      lengths :
          (rest : List NodeLength) × (l.lengths ≡ listed_lengths marks items left ++ rest)
          × (l.fn.lengths ≡ listed_lengths marks items l.node.inner ++ rest);
      counts :
          (done : ℕ)
          × (done + length (codes_around (option_to_list (option_map plain_instr l.jump)) (node_codes marks items left))
          ≡ length (codes_around (option_to_list (option_map plain_instr l.fn.between)) (node_codes marks items l.node.inner)))
          × Emits done (g.W.Work.counts l.fn.work) (g.W.Work.counts l.work);
    }
