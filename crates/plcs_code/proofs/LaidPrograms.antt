-- The code of a program, main and then each procedure: what is laid of those that are left, and the headings that are
-- noted.
use Rattle.std.proofs.Common.{ℕ, ◌+◌, ◌≡◌, List, [], ◌∷◌, ◌++◌, drop, length, Some, slice_get, refl, ap, sym, ◌∙◌, arith}
use Rattle.std.specs.FinMap.{empty, from_entries}
use Rattle.std.proofs.lemmas.List.{append-nil, length-append}
use Rattle.plcs_base.specs.Mark.{MarkMap}
use Rattle.plcs_base.specs.Scope.{ItemMap}
use Rattle.template_tree.specs.Checks.Environment.{heading_of}
use Rattle.template_tree.specs.Programs.PlainTree.{Forest, PlainNode, forest}
use Rattle.plcs_code.specs.Gen.{EntryMap, code_around, codes_joined, heading_by_name, headings_by_name, length_around, node_codes, node_lengths, node_spans}
use Rattle.plcs_code.specs.PlainInstr.{PlainInstr}
use Rattle.plcs_code.specs.Private.CodeMaps.{with_firsts}
use Rattle.plcs_code.specs.Private.LaidCode.{PlainLaid, with_instrs, with_nodes}
use Rattle.plcs_code.proofs.CodeMaps.{firsts_behind, firsts_both}
use Rattle.plcs_code.proofs.CountedLengths.{nodes_left}
use Rattle.plcs_code.proofs.KeyOrder.{names_differ, names_total}
use Rattle.plcs_code.proofs.LaidNodes.{around_none, nodes_none, one_length}
use Rattle.plcs_code.proofs.LaidSteps.{nodes_done}

-- no instructions more
pub instrs_none : (laid : PlainLaid) → with_instrs [] laid ≡ laid
instrs_none laid = λ i. record { instrs = append-nil laid.instrs i; spans = laid.spans }

module _ (marks : MarkMap) (items : ItemMap) (all : List PlainNode) (k : ℕ) (node : PlainNode) (there : slice_get all k ≡ Some node) where
  left : forest (drop k all) ≡ Forest.cons node.label node.inner (forest (drop (k + 1) all))
  left = nodes_left all k (k + 1) node there refl

  -- one more is laid
  pub item_done : (old laid whole : PlainLaid) → laid ≡ with_nodes marks items [] (forest (node ∷ [])) old
      → with_nodes marks items [] (forest (drop k all)) old ≡ whole → with_nodes marks items [] (forest (drop (k + 1) all)) laid ≡ whole
  item_done old laid whole one before =
      nodes_done marks items all k node there [] old laid laid one (sym (instrs_none laid)) ∙ before

  -- and its heading is noted
  pub heading_done : (old laid : PlainLaid) (headings noted whole : EntryMap) → laid ≡ with_nodes marks items [] (forest (node ∷ [])) old
      → noted ≡ with_firsts headings (heading_by_name node.label.slot (length old.instrs) (heading_of node.label.kind node.label.parts))
      → with_firsts headings (headings_by_name marks items (length old.instrs) (forest (drop k all))) ≡ whole
      → with_firsts noted (headings_by_name marks items (length laid.instrs) (forest (drop (k + 1) all))) ≡ whole
  heading_done old laid headings noted whole one is before =
      let start = length old.instrs in
      let code = code_around marks items node.label (node_codes marks items node.inner) in
      let own = heading_by_name node.label.slot start (heading_of node.label.kind node.label.parts) in
      let rest = forest (drop (k + 1) all) in
      let laid_length : length laid.instrs ≡ length (old.instrs ++ (code ++ [])) = ap (λ (l : PlainLaid). length l.instrs) one in
      let reached : length laid.instrs ≡ start + length_around marks items node.label (node_lengths marks items node.inner) =
      omega (arith, laid_length, one_length marks items node.label node.inner, length-append old.instrs (code ++ []), length-append code []) in
      ap (λ (m : EntryMap). with_firsts m (headings_by_name marks items (length laid.instrs) rest)) is
      ∙ ap (λ (n : ℕ). with_firsts (with_firsts headings own) (headings_by_name marks items n rest)) reached
      ∙ sym (firsts_both headings own (headings_by_name marks items (start + length_around marks items node.label (node_lengths marks items node.inner)) rest))
      ∙ ap (λ (f : Forest). with_firsts headings (headings_by_name marks items start f)) (sym left)
      ∙ before

-- where none is left, all is laid
pub all_laid : (marks : MarkMap) (items : ItemMap) (program rest : Forest) (laid : PlainLaid) → rest ≡ Forest.nil
    → with_nodes marks items [] rest laid ≡ with_nodes marks items [] program (record { instrs = []; spans = [] })
    → laid ≡ record { instrs = codes_joined (node_codes marks items program); spans = node_spans marks items 0 0 program }
all_laid marks items program rest laid none before =
    sym (instrs_none laid)
    ∙ nodes_none marks items [] laid
    ∙ ap (λ (f : Forest). with_nodes marks items [] f laid) (sym none)
    ∙ before
    ∙ ap (λ (code : List PlainInstr). let l : PlainLaid = record { instrs = code; spans = node_spans marks items 0 0 program } in l)
    (around_none (node_codes marks items program))

-- and all headings are noted
pub all_noted : (marks : MarkMap) (items : ItemMap) (program rest : Forest) (start : ℕ) (headings : EntryMap) → rest ≡ Forest.nil
    → with_firsts headings (headings_by_name marks items start rest) ≡ with_firsts empty (headings_by_name marks items 0 program)
    → headings ≡ from_entries (headings_by_name marks items 0 program)
all_noted marks items program rest start headings none before =
    ap (λ (f : Forest). with_firsts headings (headings_by_name marks items start f)) (sym none)
    ∙ before
    ∙ firsts_behind names_total names_differ [] (headings_by_name marks items 0 program)
