use Rattle.template_tree.proofs.Room.Rooms.{depth_roomless}
use Rattle.template_tree.proofs.Room.RoomlessChanges.{differs_roomless, differs_with_room, same_after}
use Rattle.template_tree.proofs.room_laws.edits_ignore_room.Goals as goal

pub returns-clause-edits : goal.returns-clause-edits
returns-clause-edits c = same_after

pub returns-clause-changes : goal.returns-clause-changes
returns-clause-changes c = λ before after change. (differs_roomless before after change, differs_with_room before after change)

pub returns-clause-depths : goal.returns-clause-depths
returns-clause-depths c = depth_roomless
