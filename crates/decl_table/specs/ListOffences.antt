-- What is wrong with the declared lists of a procedure, one after the other.
use Rattle.std.specs.Prelude.{◌≡◌, ℕ, ◌≤◌, List, [], ◌∷◌, Option, Some, slice_get}
use Rattle.plcs_base.specs.declared.declared.Declared.{Declared}
use Rattle.plcs_base.specs.declared.mark.MarkKind.{MarkKind}
use Rattle.template_tree.specs.Checks.Environment.{declares, effective}
use Rattle.template_tree.specs.Checks.Marks.{declared_before}
use Rattle.template_tree.specs.Checks.Verdict.{declared_offence}
use Rattle.template_tree.specs.Programs.PlainTree.{Forest, PlainNode, nodes}
use Rattle.template_tree.specs.Programs.Slots.{times}

-- the first offence of what each node of a procedure declares, behind these effective items: none where it declares
-- nothing
abbrev pub list_offences : (before : List Declared) → Forest → List (Option MarkKind)
list_offences before Forest.nil = []
list_offences before (Forest.cons label inner rest) =
    declared_offence before (declares label) ∷ list_offences (effective before (declares label)) rest

-- the offences of declared lists, one after the other, are those that each has behind what is declared before it
abbrev pub ListOffencesAreVerdicts : Type 0
ListOffencesAreVerdicts =
    (inner : Forest) (k : ℕ) (node : PlainNode) → slice_get (nodes inner) k ≡ Some node
    → times node.label.slot inner ≤ 1
    → slice_get (list_offences [] inner) k
    ≡ Some (declared_offence (effective [] (declared_before inner node.label.slot)) (declares node.label))
