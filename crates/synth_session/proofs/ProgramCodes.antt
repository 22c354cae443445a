-- `code` and `counts` of Dependents::of, `code` of toggle_elision and prepare_code: what is kept of
-- the code of a tree, by whatever tells its marks and its effective items, is kept of the program, of which room and
-- elision are no part.
use Rattle.std.proofs.Common.{◌≡◌, ℕ, List, ap, length, subst, sym, ◌∙◌}
use Rattle.std.specs.Prelude.{IfOk, Result, Ok, Err}
use Rattle.plcs_base.specs.PlainCounts.{PlainCounts}
use Rattle.plcs_base.specs.declared.memory.OutOfMemory.{OutOfMemory}
use Rattle.template_tree.specs.Checks.Marks.{VerdictMap, Verdicts, offences}
use Rattle.template_tree.specs.Edits.Elision.{with_toggled_at}
use Rattle.template_tree.specs.Programs.PlainTree.{PlainTree, roomless_tree}
use Rattle.decl_table.specs.Agreement.{IsDeclsOf}
use Rattle.decl_table.specs.PlainDecls.{PlainDecls}
use Rattle.plcs_code.specs.Counts.{EmitsAtMost}
use Rattle.plcs_code.specs.Gen.{Gen, PlainCode}
use Rattle.plcs_code.specs.ProgramCode.{CodeIsOfProgram, ProgramCodeIgnoresElision, ProgramCodeIgnoresRoom, program_code}
use Rattle.code_patch.specs.CodeEdit.{IsCodeTreeOf, PlainCodeTree, code_tree_after, roomless_code}
use Rattle.code_patch.specs.CodeForest.{kept_code, told_code}
use Rattle.code_patch.specs.PreparedEdit.{CanPutInCode, PlainPrepared}
use Rattle.code_patch.specs.KeptCodeLaws.{KeptCodeIgnoresElision, KeptCodeIgnoresRoom, KeptCodeIsOfProgram}
use Rattle.synth_session.specs.ProgramCode.{code_length, code_of}
use Rattle.synth_session.specs.Private.PreparedProgram.{IsCodeReady}
use Rattle.synth_session.specs.SessionView.{IsCodeFor}

-- the code that is made by the verdicts and the table of declarations that depend on a tree is that of its program,
-- without room
code_depends : CodeIsOfProgram → ProgramCodeIgnoresRoom → (tree : PlainTree) (verdicts : VerdictMap) (decls : PlainDecls)
    → verdicts ≡ Verdicts tree.items → IsDeclsOf decls tree.items
    → Gen (offences verdicts) decls.items tree.items ≡ code_of (roomless_tree tree)
unfolding code_of
code_depends made room tree verdicts decls are of =
    made tree.items (offences verdicts) decls.items (ap (λ (v : VerdictMap). offences v) are) of.items_are ∙ sym (room tree.items)

-- and what is emitted for it is within its length
pub made_counted : CodeIsOfProgram → ProgramCodeIgnoresRoom → (tree : PlainTree) (verdicts : VerdictMap) (decls : PlainDecls)
    → verdicts ≡ Verdicts tree.items → IsDeclsOf decls tree.items → (before now : PlainCounts)
    → EmitsAtMost (length (Gen (offences verdicts) decls.items tree.items).instrs) before now
    → EmitsAtMost (code_length (roomless_tree tree)) before now
made_counted made room tree verdicts decls are of before now emits =
    subst (λ (code : PlainCode). EmitsAtMost (length code.instrs) before now) (code_depends made room tree verdicts decls are of) emits

-- a code tree that keeps and tells the code of a tree does so without room
pub code_for : KeptCodeIgnoresRoom → ProgramCodeIgnoresRoom → (code : PlainCodeTree) (tree : PlainTree) → IsCodeTreeOf code tree
    → told_code code.items ≡ program_code tree.items → IsCodeFor code (roomless_tree tree)
unfolding code_of
code_for kept room code tree keeps tells =
    record { keeps = keeps ∙ sym (kept tree.items); tells = tells ∙ sym (room tree.items) }

-- a prepared edit can be put in place in code, which then keeps and tells that of a tree
pub code_ready : KeptCodeIgnoresRoom → ProgramCodeIgnoresRoom → (prepared : Result PlainPrepared OutOfMemory) (code : PlainCodeTree)
    (tree : PlainTree) → IfOk prepared (λ edit. IsCodeTreeOf (code_tree_after edit.steps code) tree)
    → IfOk prepared (λ edit. told_code (code_tree_after edit.steps code).items ≡ program_code tree.items)
    → IfOk prepared (λ edit. CanPutInCode edit code) → IfOk prepared (λ edit. IsCodeReady edit code tree)
code_ready kept room (Ok edit) code tree keeps tells ready =
    record { ready = ready; becomes = code_for kept room (code_tree_after edit.steps code) tree keeps tells }
code_ready kept room (Err error) code tree keeps tells ready = tt

-- so does one that is made by the verdicts and the table of declarations that depend on the tree
pub made_for : KeptCodeIsOfProgram → KeptCodeIgnoresRoom → CodeIsOfProgram → ProgramCodeIgnoresRoom → (made : Result PlainCodeTree OutOfMemory)
    (tree : PlainTree) (verdicts : VerdictMap) (decls : PlainDecls) → verdicts ≡ Verdicts tree.items → IsDeclsOf decls tree.items
    → IfOk made (λ code. roomless_code code.items ≡ kept_code (offences verdicts) decls.items tree.items)
    → IfOk made (λ code. told_code code.items ≡ Gen (offences verdicts) decls.items tree.items)
    → IfOk made (λ code. IsCodeFor code (roomless_tree tree))
made_for of_program kept law room (Ok code) tree verdicts decls are of keeps tells =
    let marks_tell = ap (λ (v : VerdictMap). offences v) are in
    code_for kept room code tree (keeps ∙ of_program tree.items (offences verdicts) decls.items marks_tell of.items_are)
    (tells ∙ law tree.items (offences verdicts) decls.items marks_tell of.items_are)
made_for of_program kept law room (Err error) tree verdicts decls are of keeps tells = tt

-- a comment that is turned is no part of the code
pub code_turned : KeptCodeIgnoresElision → ProgramCodeIgnoresElision → (code : PlainCodeTree) (tree : PlainTree) (path : List ℕ)
    → IsCodeFor code tree → IsCodeFor code (with_toggled_at path tree)
unfolding code_of
code_turned kept elision code tree path is =
    record { keeps = is.keeps ∙ sym (kept tree.items path); tells = is.tells ∙ sym (elision tree.items path) }
