use Rattle.std.proofs.Common.{[], ◌∷◌}
use Rattle.plcs_grammar.specs.PlainPhrase.{plain_exprs}
use Rattle.template_tree.specs.Checks.Mention.{names_in_all}
use Rattle.decl_table.proofs.GatheredNames.{gathered_two, then_ok}
use Rattle.decl_table.proofs.name_list.NameList.add_call.Goals as goal

pub returns : goal.returns
returns c =
    let name = c.args.name.now in
    let arguments = names_in_all (plain_exprs c.args.arguments.now) in
    then_ok c.add.result
    (λ is. gathered_two c.args.self.now c.add_exprs.new.self c.add.new.self (name ∷ []) arguments c.in-Ok.ensures is)
    c.add.ensures
