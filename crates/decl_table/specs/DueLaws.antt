-- The laws of what is due for a check: it is one list, no longer than the program has phrases and just as long as is
-- counted by what the edit did, and room plays no part in it.
use Rattle.std.specs.Prelude.{◌≡◌, ◌↔◌, ℕ, ◌≤◌, List, length}
use Rattle.plcs_base.specs.declared.place.PhraseAt.{PhraseAt}
use Rattle.template_tree.specs.declared.change.Change.{Change}
use Rattle.template_tree.specs.declared.change.What.{What}
use Rattle.template_tree.specs.Checks.Marks.{procedure_verdicts}
use Rattle.template_tree.specs.Edits.Edit.{Differs}
use Rattle.template_tree.specs.Programs.PlainTree.{Forest, PlainTree, roomless}
use Rattle.template_tree.specs.Programs.Tree.{IsTree}
use Rattle.decl_table.specs.Due.{AreDue}
use Rattle.decl_table.specs.DueCount.{due_count}

-- no more phrases are due after an edit than the program has
abbrev pub DueAreFew : Type 0
DueAreFew =
    (before after : Forest) (change : Change) (due : List PhraseAt) → AreDue before after change due
    → length due ≤ length (procedure_verdicts after after)

-- there is one list of the phrases that are due
abbrev pub DueIsOne : Type 0
DueIsOne =
    (before after : Forest) (change : Change) (one other : List PhraseAt) → AreDue before after change one
    → AreDue before after change other → one ≡ other

-- which phrases are due doesn't depend on the room of lists
abbrev pub DueIgnoresRoom : Type 0
DueIgnoresRoom =
    (before after : Forest) (change : Change) (due : List PhraseAt)
    → AreDue (roomless before) (roomless after) change due ↔ AreDue before after change due

-- just as many phrases are due after an edit of a tree as are counted by what it did in its slot
abbrev pub DueAreCounted : Type 0
DueAreCounted =
    (before after : PlainTree) (change : Change) (due : List PhraseAt) → IsTree after → Differs before after change
    → AreDue before.items after.items change due
    → length due ≡ due_count change.what change.slot.0 before.items after.items

-- how many are counted doesn't depend on the room of lists
abbrev pub DueCountIgnoresRoom : Type 0
DueCountIgnoresRoom =
    (what : What) (slot : ℕ) (before after : Forest)
    → due_count what slot (roomless before) (roomless after) ≡ due_count what slot before after
