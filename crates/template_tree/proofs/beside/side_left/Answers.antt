use Rattle.std.proofs.Common.{sym, ◌∙◌}
use Rattle.template_tree.proofs.Lists.BesidePaths.{side_first, side_later}
use Rattle.template_tree.proofs.beside.side_left.Goals as goal

pub returns-then-last-eq0 : goal.returns-then-last-eq0
returns-then-last-eq0 c =
    side_first c.pop.new.self.items c.args.path.now.items c.in-Some.last (sym c.copy_path-front.ensures ∙ c.in-Some.ensures.items) c.if-last-eq0.true

pub returns : goal.returns
returns c =
    side_later c.pop.new.self.items c.args.path.now.items c.in-Some.last (sym c.copy_path-front.ensures ∙ c.in-Some.ensures.items) c.if-last-eq0.false
