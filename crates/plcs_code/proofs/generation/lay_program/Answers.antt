-- Main and then each procedure is laid: with those that are left, what is laid and noted so far is what will be in the
-- end. What was counted so far is the code of those that are laid, so that where a step breaks off no more than the
-- whole was counted.
use Rattle.std.proofs.Common.{◌≡◌, ◌∙◌, ◌+◌, ◌≤◌, ◌++◌, ◌∷◌, [], ℕ, List, Some, drop, length, slice_get, refl, sym, ap, subst, arith}
use Rattle.std.proofs.lemmas.List.{append-nil}
use Rattle.std.proofs.lemmas.Option.{slice_get_within}
use Rattle.std.specs.FinMap.{empty}
use Rattle.std.specs.Prelude.{sum}
use Rattle.template_tree.specs.Positions.Path.{node_at}
use Rattle.template_tree.specs.Checks.Environment.{heading_of}
use Rattle.template_tree.specs.Programs.PlainTree.{Forest, PlainNode, forest, forest_nodes, nodes}
use Rattle.plcs_base.specs.PlainCounts.{PlainCounts}
use Rattle.plcs_code.specs.BlockLimit.{most_instrs}
use Rattle.plcs_code.specs.Counts.{Emits}
use Rattle.plcs_code.specs.declared.heading_entry.HeadingEntry.{HeadingEntry}
use Rattle.plcs_code.specs.Gen.{EntryMap, codes_around, codes_joined, heading_by_name, headings_by_name, node_codes, node_lengths}
use Rattle.plcs_code.specs.PlainInstr.{PlainInstr}
use Rattle.plcs_code.specs.Private.CodeMaps.{with_firsts}
use Rattle.plcs_code.specs.Private.LaidCode.{PlainLaid, listed_lengths, with_nodes}
use Rattle.plcs_code.proofs.LaidPrograms.{all_laid, all_noted, heading_done, item_done}
use Rattle.plcs_code.proofs.LaidSteps.{lengths_behind, lengths_sum, nodes_total, same_behind}
use Rattle.plcs_code.proofs.LaidNodes.{around_none}
use Rattle.plcs_code.proofs.Laying.{emits_both, emits_break, emits_most, emits_nothing}
use Rattle.plcs_code.proofs.ReadParts.{left_none}
use Rattle.plcs_code.proofs.generation.lay_program.Goals as goal

pub loop-item-init : goal.loop-item-init
loop-item-init g c =
    let marks = g.M.Marked.marks c.args.marks.now in
    let items = g.D.Scope.items c.args.scope.now in
    let program = c.args.tree.now.items in
    let all : program ≡ forest (nodes program) = sym (forest_nodes program) in
    let nothing : PlainLaid = record { instrs = []; spans = [] } in
    record {
      within = omega arith;
      laid =
          ap (λ (l : PlainLaid). with_nodes marks items [] (forest (nodes program)) l) c.requires.laid
          ∙ ap (λ (f : Forest). with_nodes marks items [] f nothing) (sym all);
      headings =
          ap (λ (m : EntryMap). with_firsts m (headings_by_name marks items (length c.args.laid.now.instrs) (forest (nodes program)))) c.requires.headings
          ∙ ap (λ (l : PlainLaid). with_firsts empty (headings_by_name marks items (length l.instrs) (forest (nodes program)))) c.requires.laid
          ∙ ap (λ (f : Forest). with_firsts empty (headings_by_name marks items 0 f)) (sym all);
      lengths = (
        [],
        c.in-Ok.ensures.lengths ∙ ap (listed_lengths marks items) all ∙ sym (append-nil (listed_lengths marks items (forest (nodes program)))),
      );
      short = subst (λ (f : Forest). sum (node_lengths marks items f) + 2 ≤ most_instrs) all c.in-Ok.ensures.short;
      counts = (
        0,
        omega (arith, ap (λ (f : Forest). length (codes_around [] (node_codes marks items f))) all),
        subst (λ (u : PlainCounts). Emits 0 (g.W.Work.counts c.args.work.now) u) (sym c.of.ensures.uncounted) (emits_nothing (g.W.Work.counts c.args.work.now)),
      );
    }

pub loop-item-smaller : goal.loop-item-smaller
loop-item-smaller g c =
    let marks = g.M.Marked.marks c.args.marks.now in
    let items = g.D.Scope.items c.args.scope.now in
    let program = c.args.tree.now.items in
    let all = nodes program in
    let k = c.loop-item.k in
    let item = c.in-Some.item.now in
    let there : slice_get all k ≡ Some item =
    sym (ap (node_at program) c.path_of_item.ensures ∙ c.items_are_nodes.ensures.found program k) ∙ sym c.in-Some.ensures.found in
    omega (arith, slice_get_within all k item there)

pub overflow_add-k : goal.overflow_add-k
overflow_add-k g c =
    let marks = g.M.Marked.marks c.args.marks.now in
    let items = g.D.Scope.items c.args.scope.now in
    let program = c.args.tree.now.items in
    let all = nodes program in
    let k = c.loop-item.k in
    let item = c.in-Some.item.now in
    let there : slice_get all k ≡ Some item =
    sym (ap (node_at program) c.path_of_item.ensures ∙ c.items_are_nodes.ensures.found program k) ∙ sym c.in-Some.ensures.found in
    omega (arith, slice_get_within all k item there, c.items_are_nodes.ensures.few program, c.requires.tree.few)

pub lay_node-requires-clause-short : goal.lay_node-requires-clause-short
lay_node-requires-clause-short g c =
    let marks = g.M.Marked.marks c.args.marks.now in
    let items = g.D.Scope.items c.args.scope.now in
    let program = c.args.tree.now.items in
    let all = nodes program in
    let k = c.loop-item.k in
    let item = c.in-Some.item.now in
    let there : slice_get all k ≡ Some item =
    sym (ap (node_at program) c.path_of_item.ensures ∙ c.items_are_nodes.ensures.found program k) ∙ sym c.in-Some.ensures.found in
    omega (arith, lengths_sum marks items all k item there, c.loop-item.invariant.short)

pub lay_node-requires-clause-lengths : goal.lay_node-requires-clause-lengths
lay_node-requires-clause-lengths g c =
    let marks = g.M.Marked.marks c.args.marks.now in
    let items = g.D.Scope.items c.args.scope.now in
    let program = c.args.tree.now.items in
    let all = nodes program in
    let k = c.loop-item.k in
    let item = c.in-Some.item.now in
    let there : slice_get all k ≡ Some item =
    sym (ap (node_at program) c.path_of_item.ensures ∙ c.items_are_nodes.ensures.found program k) ∙ sym c.in-Some.ensures.found in
    let rest = c.loop-item.invariant.lengths.0 in (
      listed_lengths marks items (forest (drop (k + 1) all)) ++ rest,
      lengths_behind marks items all k item there c.loop-item.lengths rest c.loop-item.invariant.lengths.1,
    )

pub returns-in_default-note-clause-counts : goal.returns-in_default-note-clause-counts
returns-in_default-note-clause-counts g c =
    let marks = g.M.Marked.marks c.args.marks.now in
    let items = g.D.Scope.items c.args.scope.now in
    let program = c.args.tree.now.items in
    let all = nodes program in
    let k = c.loop-item.k in
    let item = c.in-Some.item.now in
    let there : slice_get all k ≡ Some item =
    sym (ap (node_at program) c.path_of_item.ensures ∙ c.items_are_nodes.ensures.found program k) ∙ sym c.in-Some.ensures.found in
    let code = length (codes_around [] (node_codes marks items (forest (item ∷ [])))) in
    let whole = length (codes_around [] (node_codes marks items program)) in
    let joined = ap (λ (instrs : List PlainInstr). length instrs) (around_none (node_codes marks items program)) in
    let total = nodes_total marks items all k item there [] in
    let done = c.loop-item.invariant.counts.0 in
    emits_most done (length (codes_joined (node_codes marks items program))) (g.W.Work.counts c.args.work.now) (g.W.Work.counts c.loop-item.work)
    (omega (arith, joined, c.loop-item.invariant.counts.1)) c.loop-item.invariant.counts.2

pub returns-in_default-lay_node-clause-counts : goal.returns-in_default-lay_node-clause-counts
returns-in_default-lay_node-clause-counts g c =
    let marks = g.M.Marked.marks c.args.marks.now in
    let items = g.D.Scope.items c.args.scope.now in
    let program = c.args.tree.now.items in
    let all = nodes program in
    let k = c.loop-item.k in
    let item = c.in-Some.item.now in
    let there : slice_get all k ≡ Some item =
    sym (ap (node_at program) c.path_of_item.ensures ∙ c.items_are_nodes.ensures.found program k) ∙ sym c.in-Some.ensures.found in
    let code = length (codes_around [] (node_codes marks items (forest (item ∷ [])))) in
    let whole = length (codes_around [] (node_codes marks items program)) in
    let joined = ap (λ (instrs : List PlainInstr). length instrs) (around_none (node_codes marks items program)) in
    let total = nodes_total marks items all k item there [] in
    let done = c.loop-item.invariant.counts.0 in
    emits_break done code (length (codes_joined (node_codes marks items program))) (g.W.Work.counts c.args.work.now) (g.W.Work.counts c.loop-item.work)
    (g.W.Work.counts c.lay_node.new.work) (omega (arith, joined, total, c.loop-item.invariant.counts.1)) c.loop-item.invariant.counts.2 c.lay_node.ensures.counts

pub loop-item-preserved : goal.loop-item-preserved
loop-item-preserved g c =
    let marks = g.M.Marked.marks c.args.marks.now in
    let items = g.D.Scope.items c.args.scope.now in
    let program = c.args.tree.now.items in
    let all = nodes program in
    let k = c.loop-item.k in
    let item = c.in-Some.item.now in
    let there : slice_get all k ≡ Some item =
    sym (ap (node_at program) c.path_of_item.ensures ∙ c.items_are_nodes.ensures.found program k) ∙ sym c.in-Some.ensures.found in
    let code = length (codes_around [] (node_codes marks items (forest (item ∷ [])))) in
    let whole = length (codes_around [] (node_codes marks items program)) in
    let joined = ap (λ (instrs : List PlainInstr). length instrs) (around_none (node_codes marks items program)) in
    let total = nodes_total marks items all k item there [] in
    let done = c.loop-item.invariant.counts.0 in
    let rest = c.loop-item.invariant.lengths.0 in
    let left = forest (drop (k + 1) all) in
    let nothing : PlainLaid = record { instrs = []; spans = [] } in
    let own : List (List ℕ × HeadingEntry) =
    heading_by_name item.label.slot (length c.loop-item.laid.instrs) (heading_of item.label.kind item.label.parts) in
    let noted : c.note.new.self ≡ with_firsts c.loop-item.headings own =
    c.in-Ok-note.ensures
    ∙ ap (λ (n : ℕ). with_firsts c.loop-item.headings (heading_by_name item.label.slot n (heading_of item.label.kind item.label.parts))) c.length.ensures in
    record {
      within = omega (arith, slice_get_within all k item there);
      laid =
          item_done marks items all k item there c.loop-item.laid c.lay_node.new.self (with_nodes marks items [] program nothing) c.in-Ok-lay_node.ensures.laid
          c.loop-item.invariant.laid;
      headings =
          heading_done marks items all k item there c.loop-item.laid c.lay_node.new.self c.loop-item.headings c.note.new.self
          (with_firsts empty (headings_by_name marks items 0 program)) c.in-Ok-lay_node.ensures.laid noted c.loop-item.invariant.headings;
      lengths = (
        rest,
        same_behind (listed_lengths marks items (forest (item ∷ []))) c.lay_node.new.lengths (listed_lengths marks items left ++ rest)
            (sym c.in-Ok-lay_node.ensures.lengths ∙ lengths_behind marks items all k item there c.loop-item.lengths rest c.loop-item.invariant.lengths.1),
      );
      short = omega (arith, lengths_sum marks items all k item there, c.loop-item.invariant.short);
      counts = (
        done + code,
        omega (arith, total, c.loop-item.invariant.counts.1),
        emits_both done code (done + code) (g.W.Work.counts c.args.work.now) (g.W.Work.counts c.loop-item.work)
            (g.W.Work.counts c.lay_node.new.work) refl c.loop-item.invariant.counts.2 c.in-Ok-lay_node.ensures.counted,
      );
    }

pub returns-clause-laid : goal.returns-clause-laid
returns-clause-laid g c =
    let marks = g.M.Marked.marks c.args.marks.now in
    let items = g.D.Scope.items c.args.scope.now in
    let program = c.args.tree.now.items in
    let all = nodes program in
    let none : drop c.loop-item.k all ≡ [] =
    left_none all c.loop-item.k
    (sym (ap (node_at program) c.path_of_item.ensures ∙ c.items_are_nodes.ensures.found program c.loop-item.k) ∙ sym c.in_default-node.ensures.found) in
    all_laid marks items program (forest (drop c.loop-item.k all)) c.loop-item.laid (ap forest none) c.loop-item.invariant.laid

pub returns-clause-headings : goal.returns-clause-headings
returns-clause-headings g c =
    let marks = g.M.Marked.marks c.args.marks.now in
    let items = g.D.Scope.items c.args.scope.now in
    let program = c.args.tree.now.items in
    let all = nodes program in
    let none : drop c.loop-item.k all ≡ [] =
    left_none all c.loop-item.k
    (sym (ap (node_at program) c.path_of_item.ensures ∙ c.items_are_nodes.ensures.found program c.loop-item.k) ∙ sym c.in_default-node.ensures.found) in
    all_noted marks items program (forest (drop c.loop-item.k all)) (length c.loop-item.laid.instrs) c.loop-item.headings (ap forest none)
    c.loop-item.invariant.headings

pub returns-clause-counted : goal.returns-clause-counted
returns-clause-counted g c =
    let marks = g.M.Marked.marks c.args.marks.now in
    let items = g.D.Scope.items c.args.scope.now in
    let program = c.args.tree.now.items in
    let all = nodes program in
    let none : drop c.loop-item.k all ≡ [] =
    left_none all c.loop-item.k
    (sym (ap (node_at program) c.path_of_item.ensures ∙ c.items_are_nodes.ensures.found program c.loop-item.k) ∙ sym c.in_default-node.ensures.found) in
    let left = ap (λ (ns : List PlainNode). length (codes_around [] (node_codes marks items (forest ns)))) none in
    let joined = ap (λ (instrs : List PlainInstr). length instrs) (around_none (node_codes marks items program)) in
    emits_both c.loop-item.invariant.counts.0 0 (length (codes_joined (node_codes marks items program))) (g.W.Work.counts c.args.work.now) (g.W.Work.counts c.loop-item.work)
    (g.W.Work.counts c.loop-item.work) (omega (arith, left, joined, c.loop-item.invariant.counts.1)) c.loop-item.invariant.counts.2 (emits_nothing (g.W.Work.counts c.loop-item.work))

pub returns-clause-counts : goal.returns-clause-counts
returns-clause-counts g c =
    let marks = g.M.Marked.marks c.args.marks.now in
    let items = g.D.Scope.items c.args.scope.now in
    let program = c.args.tree.now.items in
    let all = nodes program in
    let joined = ap (λ (instrs : List PlainInstr). length instrs) (around_none (node_codes marks items program)) in
    emits_most c.loop-item.invariant.counts.0 (length (codes_joined (node_codes marks items program))) (g.W.Work.counts c.args.work.now) (g.W.Work.counts c.loop-item.work)
    (omega (arith, joined, c.loop-item.invariant.counts.1)) c.loop-item.invariant.counts.2
