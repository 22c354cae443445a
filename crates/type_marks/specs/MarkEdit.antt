-- What a prepared edit makes of the verdicts of phrases.
use Rattle.std.specs.Prelude.{◌≡◌, ◌≤◌, ℕ, List, [], ◌∷◌, length}
use Rattle.std.specs.FinMap.{insert, remove}
use Rattle.plcs_base.specs.declared.place.PhraseAt.{PhraseAt}
use Rattle.template_tree.specs.declared.change.Change.{Change}
use Rattle.template_tree.specs.Checks.Marks.{VerdictList, VerdictMap, Verdicts}
use Rattle.template_tree.specs.Programs.PlainTree.{PlainTree}
use Rattle.decl_table.specs.Agreement.{IsDeclsBefore}
use Rattle.decl_table.specs.DeclEdit.{IsDeclEdit, PlainDeclEdit}
use Rattle.decl_table.specs.PlainDecls.{PlainDecls}
use Rattle.type_marks.specs.PlainMarks.{PlainMarks}

-- the map of verdicts with these before what it has
abbrev pub with_all : VerdictList → VerdictMap → VerdictMap
with_all [] verdicts = verdicts
with_all (entry ∷ entries) verdicts = insert (with_all entries verdicts) entry.0 entry.1

-- the map of verdicts without those of the phrases at these places
abbrev pub without_all : List PhraseAt → VerdictMap → VerdictMap
without_all [] verdicts = verdicts
without_all (at ∷ places) verdicts = remove (without_all places verdicts) at

-- an edit that was prepared for verdicts: those of the phrases that were due for a check, and which phrases went
pub record PlainMarkEdit : Type 0 where
  pub verdicts : VerdictList
  pub gone : List PhraseAt

-- the verdicts after a prepared edit: those of phrases that were due come before all others, and those of phrases that
-- went are no more
abbrev pub verdicts_after : PlainMarkEdit → VerdictMap → VerdictMap
verdicts_after edit verdicts = with_all edit.verdicts (without_all edit.gone verdicts)

-- the verdicts are those of a tree from which this one differs by the change, and this edit was prepared for the table
-- of declarations of that tree
pub record AreVerdictsBefore (verdicts : VerdictMap) (after : PlainTree) (change : Change) (decls : PlainDecls)
    (edit : PlainDeclEdit) : Type 0 where
  pub before : PlainTree
  pub table : IsDeclsBefore decls before after change
  pub verdicts_are : verdicts ≡ Verdicts before.items
  pub edit_is : IsDeclEdit before after change decls edit

-- a prepared edit can be put in place among verdicts: there is room for what comes
abbrev pub HasRoomForEdit : PlainMarkEdit → PlainMarks → Type 0
HasRoomForEdit edit marks = length edit.verdicts ≤ marks.spare
