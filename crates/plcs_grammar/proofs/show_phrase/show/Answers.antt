use Rattle.std.proofs.Common.{ap, ◌∙◌}
use Rattle.plcs_grammar.specs.PlainPhrase.{plain_var_ref}
use Rattle.plcs_grammar.specs.Canon.{canon_reference, joined}
use Rattle.plcs_base.specs.Putting.{puts_same, puts_three}
use Rattle.plcs_grammar.proofs.JoinedTexts.{joined_map}
use Rattle.plcs_grammar.proofs.EqualShown.{shown_phrase}
use Rattle.plcs_grammar.proofs.show_phrase.show.Goals as goal

pub returns-in-Assignment : goal.returns-in-Assignment
returns-in-Assignment g c =
    shown_phrase _ _ c.in-Assignment.is (puts_three c.show_variable.ensures c.put_bytes.ensures c.show_expr.ensures)

pub returns-in-VariableList : goal.returns-in-VariableList
returns-in-VariableList g c =
    let same = ap (joined (λ v. canon_reference (plain_var_ref v))) c.deref-in-VariableList.ensures.value in
    shown_phrase _ _ c.in-VariableList.is
    (puts_same (same ∙ joined_map canon_reference plain_var_ref c.in-VariableList.targets.items) c.show_joined.ensures)
