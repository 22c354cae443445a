use Rattle.std.proofs.Common.{lit≤, arith}
use Rattle.synth_top.proofs.CountedLines.{counted_lines}
use Rattle.synth_top.proofs.summary.lines_of.Goals as goal

-- the listing is short, so that all its line ends are counted
pub returns : goal.returns
returns g c =
    let tree = (c.room_is_not_shown.ensures.trees c.args.session.now.program.tree).0 c.requires.agrees.tree in
    let short = c.listings_are_short.ensures _ tree.program tree.shallow tree.few in
    omega (arith, counted_lines (λ out. out.count) (omega (arith, short)) c.listing.ensures)
