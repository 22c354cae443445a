use Rattle.std.specs.Prelude.{suc}
use Rattle.std.proofs.Common.{arith, sym, ◌∙◌, add-one}
use Rattle.template_tree.proofs.Lists.BesidePaths.{last_is, other_last}
use Rattle.template_tree.proofs.beside.next_path.Goals as goal

pub overflow_add-last : goal.overflow_add-last
overflow_add-last c =
    omega (arith, c.requires.small, last_is c.pop.new.self.items c.args.path.now.items c.in-Some.last (sym c.copy_path-next.ensures ∙ c.in-Some.ensures.items))

pub returns-in-Some : goal.returns-in-Some
returns-in-Some c =
    other_last suc c.pop.new.self.items c.args.path.now.items c.push.new.self.items c.in-Some.last _
    (sym c.copy_path-next.ensures ∙ c.in-Some.ensures.items) c.push.ensures.items (add-one c.in-Some.last)
