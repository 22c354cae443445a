use Rattle.std.proofs.Common.{◌≡◌, ◌+◌, ◌-◌, ◌≤◌, ◌++◌, [], ℕ, List, drop, length}
use Rattle.std.specs.FinMap.{empty}
use Rattle.std.specs.Prelude.{sum}
use Rattle.template_tree.specs.Programs.PlainTree.{forest, nodes}
use Rattle.plcs_code.specs.declared.lengths.NodeLength.{NodeLength}
use Rattle.plcs_code.specs.BlockLimit.{most_instrs}
use Rattle.plcs_code.specs.Counts.{Emits}
use Rattle.plcs_code.specs.Gen.{codes_around, headings_by_name, node_codes, node_lengths}
use Rattle.plcs_code.specs.Private.CodeMaps.{with_firsts}
use Rattle.plcs_code.specs.Private.LaidCode.{PlainLaid, listed_lengths, with_nodes}
use Rattle.plcs_code.proofs.generation.lay_program.Given as goal

abbrev pub decreases-loop-item : goal.decreases-loop-item
decreases-loop-item g l = length (nodes l.tree.items) - l.k

abbrev pub invariant-loop-item : goal.invariant-loop-item
invariant-loop-item g l =
    let marks = g.M.Marked.marks l.marks in
    let items = g.D.Scope.items l.scope in
    let program = l.tree.items in
    let left = forest (drop l.k (nodes l.tree.items)) in
    let nothing : PlainLaid = record { instrs = []; spans = [] } in
    record {
      within : l.k ≤ length (nodes l.tree.items);
      laid : with_nodes marks items [] left l.laid ≡ with_nodes marks items [] program nothing;
      headings : with_firsts l.headings (headings_by_name marks items (length l.laid.instrs) left) ≡ with_firsts empty (headings_by_name marks items 0 program);
      lengths : (rest : List NodeLength) × (l.lengths ≡ listed_lengths marks items left ++ rest);
      short : sum (node_lengths marks items left) + 2 ≤ most_instrs;
      counts :
          (done : ℕ) × (done + length (codes_around [] (node_codes marks items left)) ≡ length (codes_around [] (node_codes marks items program)))
          × Emits done (g.W.Work.counts l.fn.work) (g.W.Work.counts l.work);
    }
