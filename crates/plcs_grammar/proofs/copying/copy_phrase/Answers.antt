use Rattle.std.proofs.Common.{map, ap, sym, ◌∙◌}
use Rattle.plcs_grammar.specs.PlainPhrase.{PlainPhrase, plain_phrase, plain_var_ref, plain_expr, exprs_from}
use Rattle.plcs_grammar.proofs.copying.copy_phrase.Goals as goal

pub returns-in-Ok-copy_expr : goal.returns-in-Ok-copy_expr
returns-in-Ok-copy_expr c =
    let target = c.in-Ok in
    let value = c.in-Ok-copy_expr in
    ap (λ t. PlainPhrase.assignment t (plain_expr value.value)) target.ensures
    ∙ ap (PlainPhrase.assignment (plain_var_ref c.in-Assignment.target)) value.ensures
    ∙ sym (ap plain_phrase c.in-Assignment.is)

pub returns-in-Ok-copy_expr-2 : goal.returns-in-Ok-copy_expr-2
returns-in-Ok-copy_expr-2 c =
    ap PlainPhrase.condition c.in-Ok-copy_expr-2.ensures ∙ sym (ap plain_phrase c.in-Condition.is)

pub returns-in-Ok-copy_expr-3 : goal.returns-in-Ok-copy_expr-3
returns-in-Ok-copy_expr-3 c =
    ap PlainPhrase.expression c.in-Ok-copy_expr-3.ensures ∙ sym (ap plain_phrase c.in-Expression.is)

pub returns-in-Ok-copy_exprs : goal.returns-in-Ok-copy_exprs
returns-in-Ok-copy_exprs c =
    ap (λ es. PlainPhrase.expression_list (exprs_from es)) (c.in-Ok-copy_exprs.ensures ∙ ap (map plain_expr) c.deref.ensures.value)
    ∙ sym (ap plain_phrase c.in-ExpressionList.is)

pub returns-in-Ok-copy_variables : goal.returns-in-Ok-copy_variables
returns-in-Ok-copy_variables c =
    ap PlainPhrase.variable_list (c.in-Ok-copy_variables.ensures ∙ ap (map plain_var_ref) c.deref-in-VariableList.ensures.value)
    ∙ sym (ap plain_phrase c.in-VariableList.is)

pub returns-in-Ok-copy_name : goal.returns-in-Ok-copy_name
returns-in-Ok-copy_name c = ap PlainPhrase.variable_name c.in-Ok-copy_name.ensures ∙ sym (ap plain_phrase c.in-Variable.is)

pub returns-in-Ok-copy_exprs-2 : goal.returns-in-Ok-copy_exprs-2
returns-in-Ok-copy_exprs-2 c =
    let copied = c.in-Ok-copy_exprs-2 in
    ap (λ name. PlainPhrase.call name (exprs_from (map plain_expr copied.arguments.items))) c.in-Ok-copy_name-2.ensures
    ∙ ap (λ es. PlainPhrase.call c.in-CallRef.name (exprs_from es)) (copied.ensures ∙ ap (map plain_expr) c.deref-in-CallRef.ensures.value)
    ∙ sym (ap plain_phrase c.in-CallRef.is)

pub returns-in-Ok-copy_items : goal.returns-in-Ok-copy_items
returns-in-Ok-copy_items c =
    ap PlainPhrase.declared_list (c.in-Ok-copy_items.ensures ∙ c.deref-in-DeclaredList.ensures.value)
    ∙ sym (ap plain_phrase c.in-DeclaredList.is)

pub returns-in-Ok-copy_name-3 : goal.returns-in-Ok-copy_name-3
returns-in-Ok-copy_name-3 c = ap PlainPhrase.procedure_name c.in-Ok-copy_name-3.ensures ∙ sym (ap plain_phrase c.in-ProcedureName.is)

pub returns-in-Ok-copy_names : goal.returns-in-Ok-copy_names
returns-in-Ok-copy_names c =
    ap PlainPhrase.name_list (c.in-Ok-copy_names.ensures ∙ c.deref-in-NameList.ensures.value)
    ∙ sym (ap plain_phrase c.in-NameList.is)
