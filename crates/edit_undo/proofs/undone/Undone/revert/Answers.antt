use Rattle.std.proofs.Math.Bool.{false≢true}
use Rattle.edit_undo.proofs.undone.Undone.revert.Goals as goal

pub unreachable-requires : goal.unreachable-requires
unreachable-requires c = false≢true (c.in-Err.ensures.wanted c.requires.room)
