use Rattle.unparse_layout.proofs.RoomlessLines.{layouts_roomless}
use Rattle.unparse_layout.proofs.line_laws.layouts_ignore_room.Goals as goal

pub returns : goal.returns
returns c = layouts_roomless
