use Rattle.decl_table.proofs.CountedDue.{due_are_counted}
use Rattle.decl_table.proofs.RoomlessCounts.{count_roomless}
use Rattle.decl_table.proofs.decl_laws.due_are_counted.Goals as goal

pub returns-clause-counted : goal.returns-clause-counted
returns-clause-counted c = due_are_counted

pub returns-clause-room : goal.returns-clause-room
returns-clause-room c = count_roomless c.checks_ignore_room_and_elision.ensures.room
