-- Edits of a program that are prepared in each part of what depends on it.
use Rattle.std.specs.Prelude.{◌≡◌}
use Rattle.plcs_base.specs.PlainCounts.{ChecksAtMost, PlainCounts}
use Rattle.template_tree.specs.declared.change.Change.{Change}
use Rattle.template_tree.specs.Checks.Marks.{Verdicts}
use Rattle.template_tree.specs.Edits.Edit.{Differs}
use Rattle.template_tree.specs.Programs.PlainTree.{PlainTree, roomless_tree}
use Rattle.template_tree.specs.Programs.Tree.{IsTree}
use Rattle.code_patch.specs.CodeEdit.{IsCodeTreeOf, PlainCodeTree, code_tree_after, roomless_code}
use Rattle.code_patch.specs.CodeForest.{told_code}
use Rattle.code_patch.specs.PreparedEdit.{CanPutInCode, PlainPrepared}
use Rattle.decl_table.specs.DeclEdit.{CanPutInTable, IsDeclsAfter, PlainDeclEdit}
use Rattle.decl_table.specs.PlainDecls.{PlainDecls, roomless_decls}
use Rattle.type_marks.specs.MarkEdit.{HasRoomForEdit, PlainMarkEdit, verdicts_after}
use Rattle.type_marks.specs.PlainMarks.{PlainMarks}
use Rattle.unparse_layout.specs.Agreement.{IsLayoutOf}
use Rattle.unparse_layout.specs.Bones.{PlainLayout}
use Rattle.unparse_layout.specs.LayoutEdit.{CanPutInPlace, PlainLayoutEdit, layout_after}
use Rattle.synth_session.specs.declared.program.Dependents.{Dependents}
use Rattle.synth_session.specs.CountedKey.{CountsProgram}
use Rattle.synth_session.specs.ProgramBill.{program_bill}
use Rattle.synth_session.specs.ProgramDue.{program_due}
use Rattle.synth_session.specs.SessionView.{DependOn, IsCodeFor}

-- what depends on a program, its code too, is that of the tree before an edit, from which this one differs by the
-- change
pub record DependBefore {W : Type 0} (dependents : Dependents W) (before after : PlainTree) (change : Change) : Type 0
  where
    pub tree : IsTree before
    pub depend : DependOn dependents before
    pub code : IsCodeTreeOf dependents.code before
    pub differs : Differs before after change

-- what depends on a program is the same but for room: an edit was prepared in it, and isn't put in place
pub record IsSameButRoom {W : Type 0} (old new : Dependents W) : Type 0 where
  pub layout : new.layout ≡ old.layout
  pub decls : roomless_decls new.decls ≡ roomless_decls old.decls
  pub marks : new.marks.verdicts ≡ old.marks.verdicts
  pub code : roomless_code new.code.items ≡ roomless_code old.code.items
  pub told : told_code new.code.items ≡ told_code old.code.items

-- what depends on a program is the same but for the room of its code: an edit was prepared in that
pub record IsSameButCodeRoom {W : Type 0} (old new : Dependents W) : Type 0 where
  pub layout : new.layout ≡ old.layout
  pub decls : new.decls ≡ old.decls
  pub marks : new.marks ≡ old.marks
  pub code : roomless_code new.code.items ≡ roomless_code old.code.items
  pub told : told_code new.code.items ≡ told_code old.code.items

-- prepared edits can be put in place in a table of declarations and in verdicts, which are those of this tree then
pub record AreChecksReady (decl_edit : PlainDeclEdit) (mark_edit : PlainMarkEdit) (decls : PlainDecls)
    (marks : PlainMarks) (tree : PlainTree) : Type 0 where
  pub decls_ready : CanPutInTable decl_edit decls
  pub decls_become : IsDeclsAfter decls decl_edit tree.items
  pub marks_ready : HasRoomForEdit mark_edit marks
  pub marks_become : verdicts_after mark_edit marks.verdicts ≡ Verdicts tree.items

-- a prepared edit can be put in place in a layout, which is that of this tree then
pub record IsLayoutReady (edit : PlainLayoutEdit) (layout : PlainLayout) (tree : PlainTree) : Type 0 where
  pub ready : CanPutInPlace edit layout
  pub becomes : IsLayoutOf (layout_after edit layout) tree

-- a prepared edit can be put in place in code, which keeps and tells the code of this tree then
pub record IsCodeReady (edit : PlainPrepared) (code : PlainCodeTree) (tree : PlainTree) : Type 0 where
  pub ready : CanPutInCode edit code
  pub becomes : IsCodeFor (code_tree_after edit.steps code) (roomless_tree tree)

-- the edits that were prepared in the parts of what depends on a program can be put in place there, which depends on
-- this tree then
pub record CanBeCommitted {W : Type 0} (layout_edit : PlainLayoutEdit) (decl_edit : PlainDeclEdit)
    (mark_edit : PlainMarkEdit) (code_edit : PlainPrepared) (dependents : Dependents W) (tree : PlainTree) : Type 0
  where
    pub layout : IsLayoutReady layout_edit dependents.layout tree
    pub checks : AreChecksReady decl_edit mark_edit dependents.decls dependents.marks tree
    pub code : IsCodeReady code_edit dependents.code tree

-- what is counted where the phrases of an edited program are checked on which this depends, as it was before: no more
-- of them are checked than are due
abbrev pub ChecksDue : {W : Type 0} → Dependents W → (after : PlainTree) → Change → (before now : PlainCounts) → Type 0
ChecksDue dependents after change counts now =
    (before : PlainTree) → DependBefore dependents before after change
    → ChecksAtMost (program_due change.what change.slot.0 before after) counts now

-- what is counted where what depends on an edited program is renewed, as it was before: no more phrases are checked
-- than are due, and no more instructions emitted than the bill of the edit says
abbrev pub CountsRenewal : {W : Type 0} → Dependents W → (after : PlainTree) → Change → (before now : PlainCounts)
    → Type 0
CountsRenewal dependents after change counts now =
    (before : PlainTree) → DependBefore dependents before after change
    → CountsProgram (program_due change.what change.slot.0 before after)
    (program_bill change.what change.slot.0 before after) counts now
