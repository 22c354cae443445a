-- An edit that is prepared in all that depends on a program: what each part asks of the tree before, what the code is
-- mended by, how many phrases are checked, and how much is counted for the edit.
use Rattle.std.proofs.Common.{◌≡◌, ℕ, Bool, ap, arith, length, option_map, refl, sym, subst, ◌∙◌}
use Rattle.std.specs.Prelude.{IfErr, Result, Ok, Err}
use Rattle.plcs_base.specs.Mark.{MarkMap}
use Rattle.plcs_base.specs.PlainCounts.{ChecksAtMost, PlainCounts}
use Rattle.plcs_base.specs.Scope.{ItemMap}
use Rattle.template_tree.specs.declared.change.Change.{Change}
use Rattle.template_tree.specs.declared.change.What.{What}
use Rattle.template_tree.specs.declared.tree_fault.TreeFault.{TreeFault}
use Rattle.template_tree.specs.Checks.Marks.{VerdictMap, Verdicts, offences}
use Rattle.template_tree.specs.Checks.ProgramMaps.{MarksTell, ScopeTells}
use Rattle.template_tree.specs.Edits.Edit.{Differs}
use Rattle.template_tree.specs.Laws.RoomLaws.{ChangesIgnoreRoom}
use Rattle.template_tree.specs.Positions.Stop.{plain_stop}
use Rattle.template_tree.specs.Programs.PlainTree.{PlainTree, roomless_node, roomless_tree}
use Rattle.template_tree.specs.Programs.Tree.{IsTree}
use Rattle.decl_table.specs.Agreement.{IsDeclsBefore}
use Rattle.decl_table.specs.DeclEdit.{IsDeclEdit, IsDeclsAfter, PlainDeclEdit, items_after}
use Rattle.decl_table.specs.DeclLaws.{TablesIgnoreRoom}
use Rattle.decl_table.specs.DueLaws.{DueAreCounted, DueCountIgnoresRoom}
use Rattle.decl_table.specs.PlainDecls.{PlainDecls, roomless_decls}
use Rattle.type_marks.specs.MarkEdit.{AreVerdictsBefore, PlainMarkEdit}
use Rattle.type_marks.specs.PlainMarks.{PlainMarks}
use Rattle.unparse_layout.specs.LayoutEdit.{PlainLayoutEdit}
use Rattle.code_patch.specs.PreparedEdit.{PlainPrepared}
use Rattle.code_patch.specs.KeptCodeLaws.{BillsIgnoreRoom, KeptCodeIgnoresRoom}
use Rattle.session_edit.specs.AppliedEdit.{IsRefused}
use Rattle.session_edit.specs.declared.applied.Applied.{Applied}
use Rattle.session_edit.specs.Edited.{Edited}
use Rattle.synth_session.specs.declared.program.Dependents.{Dependents}
use Rattle.synth_session.specs.declared.program.Program.{Program}
use Rattle.synth_session.specs.CountedKey.{CountsProgram}
use Rattle.synth_session.specs.Private.Faults.{CountsEdit, IsEditFault}
use Rattle.synth_session.specs.Private.PreparedProgram.{AreChecksReady, CanBeCommitted, CountsRenewal, DependBefore, IsCodeReady, IsLayoutReady, IsSameButCodeRoom, IsSameButRoom}
use Rattle.synth_session.specs.SessionView.{Agrees, HasCode}
use Rattle.synth_session.specs.ProgramBill.{program_bill}
use Rattle.synth_session.specs.ProgramDue.{program_due}
use Rattle.synth_session.proofs.AgreeingDependents.{table_stays}
use Rattle.synth_session.proofs.CountedPrograms.{program_free}

-- the bill of an edit is the one without room
bare_bill : BillsIgnoreRoom → (what : What) (slot : ℕ) (before after : PlainTree)
    → program_bill what slot (roomless_tree before) (roomless_tree after) ≡ program_bill what slot before after
unfolding program_bill
bare_bill bills what slot before after = bills what slot before.items after.items

-- so many phrases are due as without room
bare_due : DueCountIgnoresRoom → (what : What) (slot : ℕ) (before after : PlainTree)
    → program_due what slot (roomless_tree before) (roomless_tree after) ≡ program_due what slot before after
unfolding program_due
bare_due dues what slot before after = dues what slot before.items after.items

module _ {W : Type 0} (dependents : Dependents W) (before after : PlainTree) (change : Change)
    (was : DependBefore dependents before after change) where
  -- the table of declarations is that of the tree before, also once it got room
  pub table_before : TablesIgnoreRoom → (decls : PlainDecls) → roomless_decls decls ≡ roomless_decls dependents.decls
      → IsDeclsBefore decls before after change
  table_before laws decls alike =
      record {
        tree = was.tree;
        decls_are = table_stays laws dependents.decls decls before.items was.depend.decls alike;
        differs = was.differs;
      }

  -- the verdicts are those of the tree before, and the edit was prepared in the table
  pub verdicts_before : TablesIgnoreRoom → (decls : PlainDecls) (edit : PlainDeclEdit)
      → roomless_decls decls ≡ roomless_decls dependents.decls → IsDeclEdit before after change decls edit
      → AreVerdictsBefore dependents.marks.verdicts after change decls edit
  verdicts_before laws decls edit alike is =
      record {
        before = before;
        table = table_before laws decls alike;
        verdicts_are = was.depend.marks;
        edit_is = is;
      }

  -- what is counted where it is renewed is within what is due and the bill of the edit, of which room is no part
  pub bill_counted : {counts now : PlainCounts} → BillsIgnoreRoom → DueCountIgnoresRoom → CountsRenewal dependents after change counts now
      → CountsProgram (program_due change.what change.slot.0 (roomless_tree before) (roomless_tree after))
      (program_bill change.what change.slot.0 (roomless_tree before) (roomless_tree after)) counts now
  bill_counted {counts} {now} bills dues renewed =
      subst
      (λ (n : ℕ).
      CountsProgram n (program_bill change.what change.slot.0 (roomless_tree before) (roomless_tree after)) counts now)
      (sym (bare_due dues change.what change.slot.0 before after))
      (subst (λ (n : ℕ). CountsProgram (program_due change.what change.slot.0 before after) n counts now)
      (sym (bare_bill bills change.what change.slot.0 before after)) (renewed before was))

-- what depends on a program, its code too, is that of the tree before an edit of it
pub depend_before : {W : Type 0} → KeptCodeIgnoresRoom → ChangesIgnoreRoom → (program : Program W) → Agrees program → HasCode program
    → (after : PlainTree) (change : Change) → Differs (roomless_tree program.tree) (roomless_tree after) change
    → DependBefore program.dependents program.tree after change
depend_before kept changes program agrees code after change differs =
    record {
      tree = agrees.tree;
      depend = agrees.dependents;
      code = code.keeps ∙ kept program.tree.items;
      differs = (changes program.tree after change).1 differs;
    }

-- what is counted where what depends on the program is renewed after an edit that was applied is what the edit counts
pub applied_counted : {W : Type 0} {counts now : PlainCounts} → BillsIgnoreRoom → DueCountIgnoresRoom → (dependents : Dependents W)
    (before after : PlainTree)
    (applied : Applied) (outcome : Edited) → DependBefore dependents before after applied.receipt.change
    → CountsRenewal dependents after applied.receipt.change counts now
    → outcome
    ≡ Edited.became (roomless_tree after) (plain_stop applied.stop) (option_map roomless_node applied.taken) applied.receipt.change.what
    applied.receipt.change.slot.0
    → CountsEdit (roomless_tree before) outcome counts now
applied_counted {W} {counts} {now} bills dues dependents before after applied outcome was renewed became =
    subst (λ (o : Edited). CountsEdit (roomless_tree before) o counts now) (sym became)
    (bill_counted dependents before after applied.receipt.change was bills dues renewed)

-- why an edit of the tree is refused is why the edit of the program is
pub edit_fault : (takes_memory : Bool) (outcome : Edited) (fault : TreeFault) → IsRefused takes_memory outcome fault → IsEditFault outcome fault
edit_fault takes_memory outcome TreeFault.NotHere is = is
edit_fault takes_memory outcome TreeFault.TooDeep is = is
edit_fault takes_memory outcome TreeFault.TooLarge is = is
edit_fault takes_memory outcome TreeFault.SlotsUsedUp is = is
edit_fault takes_memory outcome TreeFault.OutOfMemory is = tt

-- nothing counted is within what an edit counts, whatever comes of it
pub edit_free : (counts : PlainCounts) (before : PlainTree) (outcome : Edited) → CountsEdit before outcome counts counts
edit_free counts before (Edited.became tree stop taken what slot) = program_free _ _
edit_free counts before (Edited.refused fault) = refl

-- the marks and the items after an edit tell of the edited program
pub marks_tell : (tree : PlainTree) (marks : MarkMap) (verdicts : VerdictMap) → marks ≡ offences verdicts → verdicts ≡ Verdicts tree.items
    → MarksTell marks tree.items
marks_tell tree marks verdicts marks_are are = marks_are ∙ ap (λ (v : VerdictMap). offences v) are

pub scope_tells : (tree : PlainTree) (items : ItemMap) (decls : PlainDecls) (edit : PlainDeclEdit)
    → items ≡ items_after edit decls.items → IsDeclsAfter decls edit tree.items → ScopeTells items tree.items
scope_tells tree items decls edit items_are after =
    subst (λ (m : ItemMap). ScopeTells m tree.items) (sym items_are) after.items_are

-- where no more phrases are checked than a prepared edit tells to be due, no more are than are counted as due
pub due_checked : DueAreCounted → (before tree : PlainTree) (change : Change) (decls : PlainDecls) (edit : PlainDeclEdit) → IsTree tree
    → Differs before tree change → IsDeclEdit before tree change decls edit → (counts_before counts_now : PlainCounts)
    → ChecksAtMost (length edit.due) counts_before counts_now
    → ChecksAtMost (program_due change.what change.slot.0 before tree) counts_before counts_now
unfolding program_due
due_checked counted before tree change decls edit is_tree differs is counts_before counts_now checks =
    subst (λ (n : ℕ). ChecksAtMost n counts_before counts_now)
    (counted before tree change edit.due is_tree differs is.due_are) checks

-- nothing is checked within every bound
pub none_checked : (bound : ℕ) (counts : PlainCounts) → ChecksAtMost bound counts counts
none_checked bound counts = record { most = omega arith; later = omega arith; others = refl }

-- what is prepared in the table of declarations and the verdicts, and what is then in the layout and the code, can be
-- put in place together
pub all_ready : {W : Type 0} → (layout : PlainLayoutEdit) (decls : PlainDeclEdit) (marks : PlainMarkEdit) (code : PlainPrepared)
    (between now : Dependents W) (tree : PlainTree) → IsSameButCodeRoom between now
    → AreChecksReady decls marks between.decls between.marks tree → IsLayoutReady layout now.layout tree
    → IsCodeReady code now.code tree → CanBeCommitted layout decls marks code now tree
all_ready layout decls marks code between now tree same checks layout_ready code_ready =
    record {
      layout = layout_ready;
      checks =
          subst (λ (m : PlainMarks). AreChecksReady decls marks now.decls m tree) (sym same.marks)
          (subst (λ (d : PlainDecls). AreChecksReady decls marks d between.marks tree) (sym same.decls) checks);
      code = code_ready;
    }

-- an edit was prepared in what depends on a program, and then in its code: it is the same but for room
pub same_then : {W : Type 0} → (old between now : Dependents W) → IsSameButRoom old between → IsSameButCodeRoom between now
    → IsSameButRoom old now
same_then old between now was later =
    record {
      layout = later.layout ∙ was.layout;
      decls = ap (λ (d : PlainDecls). roomless_decls d) later.decls ∙ was.decls;
      marks = ap (λ (m : PlainMarks). m.verdicts) later.marks ∙ was.marks;
      code = later.code ∙ was.code;
      told = later.told ∙ was.told;
    }

-- what holds where memory ran out makes hold what follows from it
pub refused_so : {A E : Type 0} → (result : Result A E) → {P Q : Type 0} → (P → Q) → IfErr result (λ _. P) → IfErr result (λ _. Q)
refused_so (Ok value) follows holds = tt
refused_so (Err error) follows holds = follows holds
