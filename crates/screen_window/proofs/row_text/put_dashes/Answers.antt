use Rattle.std.proofs.Common.{length, refl, arith}
use Rattle.screen_window.proofs.ShownRows.{dashes_put}
use Rattle.screen_window.proofs.row_text.put_dashes.Goals as goal

pub returns : goal.returns
returns c =
    dashes_put (length c.args.line.now) c.room-end.result c.args.line.now _ refl (omega arith) c.dash_to.ensures
