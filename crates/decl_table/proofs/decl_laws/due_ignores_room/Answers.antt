use Rattle.decl_table.proofs.RoomlessDue.{due_roomless}
use Rattle.decl_table.proofs.decl_laws.due_ignores_room.Goals as goal

pub returns : goal.returns
returns c = λ before after change due.
    due_roomless before after change due (c.checks_ignore_room_and_elision.ensures.room before)
    (c.checks_ignore_room_and_elision.ensures.room after)
