-- What the reader's values stand for.
use Rattle.std.specs.Prelude.{Bool, true, false, List, [], ◌∷◌, map, codes, None}
use Rattle.plcs_grammar.specs.Template.{PlainSection, plain_section}
use Rattle.template_tree.specs.Programs.PlainPhrasePlace.{plain_phrase_place}
use Rattle.template_tree.specs.Programs.PlainTree.{forest, roomless}
use Rattle.file_store.specs.Private.Reader as machine
use Rattle.file_store.specs.Private.Reading.{Come}
use Rattle.file_store.specs.declared.reader.Reader.{Reader}
use Rattle.file_store.specs.declared.reader.filling.Filling.{Filling}
use Rattle.file_store.specs.declared.reader.said.Said.{Said}
use Rattle.file_store.specs.declared.reader.said.Saying.{Saying}
use Rattle.file_store.specs.declared.reader.said.Saying.TheVariants as saying
use Rattle.file_store.specs.declared.reader.open_list.OpenNode.{OpenNode}
use Rattle.file_store.specs.declared.reader.open_list.OpenList.{OpenList}
use Rattle.file_store.specs.declared.reader.open_list.OpenNodes.{OpenNodes}

-- the sections that the reader's list has left, of which the first has the line before it already where that was read
abbrev pub led_if : Bool → List PlainSection → List PlainSection
led_if false sections = sections
led_if true [] = []
led_if true (section ∷ sections) = record section { lead = None } ∷ sections

-- what the reader's value for how far a list has come stands for
abbrev pub filling_of : Filling → machine.Filling
filling_of filling = record { going = filling.going; left = led_if filling.led (map plain_section filling.left.now) }

-- what the reader's value for what a line says stands for
abbrev pub saying_of : Saying → machine.Saying
saying_of (saying.Head kind parts) = machine.Saying.head kind (map plain_phrase_place parts.items)
saying_of saying.Lead = machine.Saying.lead (codes "ELSE")
saying_of saying.Last = machine.Saying.last (codes "END;")

-- what the reader's value for a line, with its level, stands for
abbrev pub said_of : Said → machine.Said
said_of said = record { level = said.level; saying = saying_of said.saying }

-- what the reader's open list stands for
abbrev pub open_list_of : OpenList → machine.OpenList
open_list_of list = record { items = roomless (forest list.items.items); filling = filling_of list.filling }

-- what the reader's open node stands for
abbrev pub open_node_of : OpenNode → machine.OpenNode
open_node_of frame =
    record { kind = frame.kind; parts = map plain_phrase_place frame.parts.items; around = open_list_of frame.around }

-- what the reader's open nodes stand for, of which the innermost stands last
abbrev pub open_nodes_on : List machine.OpenNode → List OpenNode → List machine.OpenNode
open_nodes_on outer [] = outer
open_nodes_on outer (frame ∷ frames) = open_nodes_on (open_node_of frame ∷ outer) frames

-- what the reader's open lists and nodes stand for
abbrev pub open_nodes_of : OpenNodes → machine.OpenNodes
open_nodes_of stack = record { own = open_list_of stack.own; outer = open_nodes_on [] stack.frames.items }

-- how far this reader has come, as the model has it: its open lists, and what it counted
abbrev pub come_of : Reader → Come
come_of reader = record { stack = open_nodes_of reader.stack; lines = reader.lines; opened = reader.opened }
