use Rattle.std.proofs.Common.{refl}
use Rattle.std.specs.Prelude.{◌||◌}
use Rattle.std.specs.Option.{option_copied}
use Rattle.decl_table.specs.Private.NameTests.{bound_of}
use Rattle.decl_table.proofs.AddedNames.{adds_then}
use Rattle.decl_table.proofs.AddedUses.{then_ok}
use Rattle.decl_table.proofs.changed_nodes.ChangedNodes.add_bound.Goals as goal

pub returns : goal.returns
returns c =
    let part = c.args.self.now.part in
    let one = bound_of part (option_copied c.args.self.now.old) in
    let other = bound_of part (option_copied c.args.self.now.new) in
    then_ok c.add_bound_of-2.result
    (λ more.
    adds_then c.args.names.now c.add_bound_of.new.names c.add_bound_of-2.new.names one other (λ name. one name || other name)
    c.in_ok-add_bound_of.ensures more (λ name. refl))
    c.add_bound_of-2.ensures
