-- The law of verdicts: those of phrases that aren't due for a check after an edit stay.
use Rattle.std.specs.Prelude.{◌≡◌, Contains}
use Rattle.std.specs.FinMap.{get}
use Rattle.plcs_base.specs.declared.place.PhraseAt.{PhraseAt}
use Rattle.template_tree.specs.declared.change.Change.{Change}
use Rattle.template_tree.specs.Checks.Marks.{Verdicts}
use Rattle.template_tree.specs.Edits.Edit.{Differs}
use Rattle.template_tree.specs.Programs.PlainTree.{PlainTree}
use Rattle.template_tree.specs.Programs.Tree.{IsTree}
use Rattle.decl_table.specs.Due.{IsDue, changed_places}

-- a phrase of a tree that is not due for a check after an edit, and did not go in it, has the verdict that it had
abbrev pub VerdictsStayUnlessDue : Type 0
VerdictsStayUnlessDue =
    (before after : PlainTree) (change : Change) (at : PhraseAt) → IsTree before → IsTree after
    → Differs before after change
    → ¬ (IsDue before.items after.items change at)
    → ¬ (Contains (changed_places change.what change.slot.0 before.items) at)
    → get (Verdicts after.items) at ≡ get (Verdicts before.items) at
