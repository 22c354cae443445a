use Rattle.std.proofs.Common.{refl, sym, arith}
use Rattle.template_tree.specs.Programs.PlainTree.{roomless}
use Rattle.screen_window.proofs.HeldLines.{found_again, held_is, one_more_held}
use Rattle.screen_window.proofs.line_cache.LineCache.lay.Goals as goal

-- the line is laid and held
pub returns-then-not-holds-clause-held : goal.returns-then-not-holds-clause-held
returns-then-not-holds-clause-held g c =
    one_more_held (g.M.Marked.marks c.args.view.now.marks.now) (roomless c.args.view.now.tree.now.items) c.args.self.now c.hold.new.self
    c.args.number c.line-line.result c.requires.held c.line-line.ensures.line c.hold.ensures

pub returns-then-not-holds-clause-line : goal.returns-then-not-holds-clause-line
returns-then-not-holds-clause-line g c =
    found_again (g.M.Marked.marks c.args.view.now.marks.now) (roomless c.args.view.now.tree.now.items) c.args.self.now c.hold.new.self
    c.args.number c.line-line.result c.if-not-holds.ensures.count c.line-line.ensures.line c.hold.ensures

pub returns-then-not-holds-clause-counts : goal.returns-then-not-holds-clause-counts
returns-then-not-holds-clause-counts g c = c.counts_add_up.ensures.lays.one 1 _ _ (omega arith) c.line-line.ensures.counts

-- the line is held already
pub returns-else-not-holds-clause-line : goal.returns-else-not-holds-clause-line
returns-else-not-holds-clause-line g c =
    held_is (g.M.Marked.marks c.args.view.now.marks.now) (roomless c.args.view.now.tree.now.items) c.args.self.now c.args.number
    c.requires.held c.if-not-holds.ensures.count (sym c.if-not-holds.ensures.held)

pub returns-else-not-holds-clause-counts : goal.returns-else-not-holds-clause-counts
returns-else-not-holds-clause-counts g c = c.counts_add_up.ensures.lays.none 1 _ _ refl
