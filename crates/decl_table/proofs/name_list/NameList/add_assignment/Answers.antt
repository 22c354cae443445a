use Rattle.plcs_grammar.specs.PlainPhrase.{plain_expr, plain_var_ref}
use Rattle.template_tree.specs.Checks.Mention.{names_in, reference_names}
use Rattle.decl_table.proofs.GatheredNames.{gathered_two, then_ok}
use Rattle.decl_table.proofs.name_list.NameList.add_assignment.Goals as goal

pub returns : goal.returns
returns c =
    let target = reference_names (plain_var_ref c.args.target.now) in
    let value = names_in (plain_expr c.args.value.now) in
    then_ok c.add_variable.result
    (λ is. gathered_two c.args.self.now c.add_expr.new.self c.add_variable.new.self target value c.in-Ok.ensures is)
    c.add_variable.ensures
