use Rattle.std.proofs.Common.{◌≡◌, [], ◌∷◌, length, sym, ap, ◌∙◌, rules}
use Rattle.plcs_grammar.specs.PlainPhrase.{plain_exprs}
use Rattle.plcs_code.specs.ExprCode.{arguments_instrs}
use Rattle.plcs_code.specs.PlainInstr.{PlainInstr}
use Rattle.plcs_code.specs.Private.LaysAll.{lays_nothing}
use Rattle.plcs_code.proofs.LaidLists.{counted, laid_phrase}
use Rattle.plcs_code.proofs.Laying.{lays_append, lays_one, lays_same}
use Rattle.plcs_code.proofs.lay_phrase.lay_phrase.Goals as goal

pub returns-in-Assignment : goal.returns-in-Assignment
returns-in-Assignment g c =
    laid_phrase _ _ c.in-Assignment.is
    (lays_append c.lay_index.ensures
    (lays_append c.lay_expr.ensures (lays_same (ap (λ i. i ∷ []) c.store.ensures) (lays_one c.put.ensures))))

pub returns-in-VariableList : goal.returns-in-VariableList
returns-in-VariableList g c = laid_phrase _ _ c.in-VariableList.is lays_nothing

pub returns-in-Variable : goal.returns-in-Variable
returns-in-Variable g c = laid_phrase _ _ c.in-Variable.is lays_nothing

pub returns-in-CallRef : goal.returns-in-CallRef
returns-in-CallRef g c =
    let arguments = c.in-CallRef.arguments.items in
    let number : c.len.result ≡ length arguments = search rules in
    laid_phrase _ _ c.in-CallRef.is
    (lays_append (lays_same (ap (λ es. arguments_instrs (plain_exprs es)) c.deref-in-CallRef.ensures.value) c.lay_arguments.ensures)
    (lays_same (ap (λ n. PlainInstr.call c.in-CallRef.name n ∷ []) (number ∙ sym (counted arguments))) c.put_call.ensures))

pub returns-in-DeclaredList : goal.returns-in-DeclaredList
returns-in-DeclaredList g c = laid_phrase _ _ c.in-DeclaredList.is lays_nothing

pub returns-in-ProcedureName : goal.returns-in-ProcedureName
returns-in-ProcedureName g c = laid_phrase _ _ c.in-ProcedureName.is lays_nothing

pub returns-in-NameList : goal.returns-in-NameList
returns-in-NameList g c = laid_phrase _ _ c.in-NameList.is lays_nothing

pub returns-in-Length : goal.returns-in-Length
returns-in-Length g c = laid_phrase _ _ c.in-Length.is lays_nothing

pub returns-in-CommentText : goal.returns-in-CommentText
returns-in-CommentText g c = laid_phrase _ _ c.in-CommentText.is lays_nothing
