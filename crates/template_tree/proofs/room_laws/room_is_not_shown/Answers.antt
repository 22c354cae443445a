use Rattle.std.specs.Prelude.{false, true}
use Rattle.std.proofs.Common.{ap}
use Rattle.plcs_grammar.specs.Template.{program_sections}
use Rattle.template_tree.specs.Listings.Listing.{bytes_of_lines}
use Rattle.template_tree.proofs.Room.Rooms.{count_roomless}
use Rattle.template_tree.proofs.Room.RoomlessEdits.{roomless_twice}
use Rattle.template_tree.proofs.Room.RoomlessNodes.{node_roomless, slot_at_roomless, stop_roomless, stop_with_room, visible_roomless}
use Rattle.template_tree.proofs.Room.RoomlessStops.{lines_roomless, stops_roomless}
use Rattle.template_tree.proofs.Room.RoomlessTrees.{tree_with_room, tree_without_room}
use Rattle.template_tree.proofs.Room.RoomlessTurns.{hidden_roomless, turn_roomless}
use Rattle.template_tree.proofs.room_laws.room_is_not_shown.Goals as goal

pub returns-clause-once : goal.returns-clause-once
returns-clause-once c = roomless_twice

pub returns-clause-trees : goal.returns-clause-trees
returns-clause-trees c tree = (tree_without_room tree, tree_with_room tree)

pub returns-clause-counts : goal.returns-clause-counts
returns-clause-counts c = count_roomless

pub returns-clause-nodes : goal.returns-clause-nodes
returns-clause-nodes c = node_roomless

pub returns-clause-slots : goal.returns-clause-slots
returns-clause-slots c = slot_at_roomless

pub returns-clause-visible : goal.returns-clause-visible
returns-clause-visible c = visible_roomless

pub returns-clause-standing : goal.returns-clause-standing
returns-clause-standing c items stop = (stop_with_room items stop, stop_roomless items stop)

pub returns-clause-stops : goal.returns-clause-stops
returns-clause-stops c = stops_roomless

pub returns-clause-lines : goal.returns-clause-lines
returns-clause-lines c = lines_roomless true 0 program_sections

pub returns-clause-listing : goal.returns-clause-listing
returns-clause-listing c items = ap bytes_of_lines (lines_roomless false 0 program_sections items)

pub returns-clause-turns : goal.returns-clause-turns
returns-clause-turns c = turn_roomless

pub returns-clause-hiding : goal.returns-clause-hiding
returns-clause-hiding c = hidden_roomless
