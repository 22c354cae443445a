-- What an edit does at a stop: the tree after it and the stop of the cursor in that, or why it is refused.
-- The refusals are asked for in this order: what the edit needs doesn't stand at the cursor, then the limits of trees.
use Rattle.std.specs.Prelude.{ℕ, nat_lt, if◌then◌else◌, List, Option, Some, None}
use Rattle.plcs_grammar.specs.declared.node_kind.NodeKind.{NodeKind}
use Rattle.plcs_grammar.specs.declared.template.Template.{Template}
use Rattle.plcs_grammar.specs.PlainPhrase.{PlainPhrase}
use Rattle.template_tree.specs.declared.side.Side.{Side}
use Rattle.template_tree.specs.declared.change.What.{What}
use Rattle.template_tree.specs.declared.tree_fault.TreeFault.{TreeFault}
use Rattle.template_tree.specs.Edits.Hole.{hole_left, lone}
use Rattle.template_tree.specs.Edits.FreshNode.{assignment_node, fresh_node}
use Rattle.template_tree.specs.Programs.Limit.{deepest_path, most_slots, most_drawn_slots}
use Rattle.template_tree.specs.Positions.Path.{added_path, node_at}
use Rattle.template_tree.specs.Programs.PlainTree.{PlainNode, PlainTree, roomless_tree}
use Rattle.template_tree.specs.Programs.Program.{sort_of}
use Rattle.template_tree.specs.Programs.Slots.{depth}
use Rattle.template_tree.specs.Positions.Stop.{PlainStop, node_stop}
use Rattle.template_tree.specs.Edits.TreeEdit.{TreeEdit, changed_slot, tree_after, what_of}
use Rattle.clip_store.specs.PlainFragment.{PlainFragment}
use Rattle.session_edit.specs.PlainEdit.{PlainEdit}
use Rattle.session_edit.specs.Here.{category_in, is_wanted, can_take, takes_nodes, takes_phrase, is_spare_hole, enclosing_item}
use Rattle.session_edit.specs.Cursor.{onward, path_after_drop}

-- what comes of an edit: the tree after it, the stop of the cursor in that, the node that was moved out, if one was,
-- and what was done in which slot; or why the edit is refused
pub data Edited : Type 0 where
  became : (tree : PlainTree) (stop : PlainStop) (taken : Option PlainNode) (what : What) (slot : ℕ) → Edited
  refused : TreeFault → Edited

-- why an edit at a stop is refused where this would be the tree after it: the first limit that it is over, if there is
-- one
abbrev pub limit_reached : PlainTree → Option TreeFault
limit_reached tree =
    if nat_lt deepest_path (depth tree.items)
    then Some TreeFault.TooDeep
    else
    (if nat_lt most_slots tree.live
    then Some TreeFault.TooLarge
    else (if nat_lt most_drawn_slots tree.drawn then Some TreeFault.SlotsUsedUp else None))

-- what comes of an edit at a stop: it is refused for the limit that was reached, if one was, and else this
abbrev pub unless : Option TreeFault → Edited → Edited
unless None edited = edited
unless (Some fault) edited = Edited.refused fault

-- an edit at the node in the slot is made, with the cursor at a stop of the tree after it, unless that is over a limit
abbrev pub comes : TreeEdit → PlainTree → ℕ → PlainStop → Option PlainNode → Edited
comes edit tree slot stop taken =
    unless (limit_reached (roomless_tree (tree_after edit tree slot)))
    (Edited.became (roomless_tree (tree_after edit tree slot)) stop taken (what_of edit) (changed_slot edit tree slot))

-- an edit is made, with the cursor onward from the stop
abbrev pub comes_onward : TreeEdit → PlainTree → ℕ → PlainStop → Edited
comes_onward edit tree slot stop =
    comes edit tree slot (onward (roomless_tree (tree_after edit tree slot)).items stop) None

-- an edit is refused, since what it needs doesn't stand at the cursor
abbrev pub not_here : Edited
not_here = Edited.refused TreeFault.NotHere

-- what comes of a template: it fills the hole of its sort at the cursor, and the cursor goes onward
abbrev pub outcome_of_fill : PlainTree → PlainStop → Template → PlainNode → Edited
outcome_of_fill tree stop template node =
    if takes_nodes (NodeKind.Filled template) stop.part node
    then comes_onward (TreeEdit.put (fresh_node (NodeKind.Filled template))) tree node.label.slot stop
    else not_here

-- the edit of the tree by which phrase text is entered: as an assignment at a node, or into a part
abbrev pub phrase_entry : Option ℕ → PlainPhrase → TreeEdit
phrase_entry None phrase = TreeEdit.put (assignment_node phrase)
phrase_entry (Some part) phrase = TreeEdit.set_part part (Some phrase)

-- what comes of an edit that enters phrase text at a stop: it comes where its category is wanted, and the cursor goes
-- onward
abbrev pub outcome_of_phrase_entry : PlainTree → PlainStop → PlainPhrase → PlainNode → Edited
outcome_of_phrase_entry tree stop phrase node =
    if is_wanted phrase (category_in stop.part node.label.kind)
    then comes_onward (phrase_entry stop.part phrase) tree node.label.slot stop else not_here

-- what comes of a phrase inserted: it comes into an empty part of its category, and the cursor stays there
abbrev pub outcome_of_phrase_insertion : PlainTree → PlainStop → PlainPhrase → Option ℕ → PlainNode → Edited
outcome_of_phrase_insertion tree stop phrase None node = not_here
outcome_of_phrase_insertion tree stop phrase (Some part) node =
    if takes_phrase phrase part node then comes (TreeEdit.set_part part (Some phrase)) tree node.label.slot stop None
    else not_here

-- what comes of a fragment inserted: a node comes into a hole of its sort, a phrase into a part, and the cursor stays
-- on it
abbrev pub outcome_of_insertion : PlainTree → PlainStop → PlainFragment → PlainNode → Edited
outcome_of_insertion tree stop (PlainFragment.node new) node =
    if takes_nodes new.label.kind stop.part node then comes (TreeEdit.put new) tree node.label.slot stop None
    else not_here
outcome_of_insertion tree stop (PlainFragment.phrase phrase) node =
    outcome_of_phrase_insertion tree stop phrase stop.part node

-- what comes of a node taken out: a hole of this kind stays in its place, and where there is none it is refused
abbrev pub outcome_of_node_taking : PlainTree → PlainStop → Option NodeKind → PlainNode → Edited
outcome_of_node_taking tree stop None node = not_here
outcome_of_node_taking tree stop (Some hole) node =
    comes (TreeEdit.put (lone 0 hole)) tree node.label.slot stop (Some node)

-- what the edit at a stop does that takes out what stands there: a node other than main and no hole, or a phrase; the
-- cursor stays
abbrev pub outcome_of_taking : PlainTree → PlainStop → Option ℕ → PlainNode → Edited
outcome_of_taking tree stop None node = outcome_of_node_taking tree stop (hole_left node.label.kind) node
outcome_of_taking tree stop (Some part) node =
    if can_take (Some part) node then comes (TreeEdit.set_part part None) tree node.label.slot stop None else not_here

-- what comes of a hole dropped from its list: the cursor goes to an item of that list
abbrev pub outcome_of_drop : PlainTree → PlainStop → PlainNode → Edited
outcome_of_drop tree stop node =
    let left : PlainTree = roomless_tree (tree_after TreeEdit.drop tree node.label.slot) in
    comes TreeEdit.drop tree node.label.slot
    (node_stop (path_after_drop (sort_of node.label.kind) left.items stop.path)) None

-- what the edit that deletes does at a stop: a hole in a list of two or more is dropped, all else is taken out
abbrev pub outcome_of_deletion : PlainTree → PlainStop → PlainNode → Edited
outcome_of_deletion tree stop node = if is_spare_hole tree.items stop node then outcome_of_drop tree stop node
    else outcome_of_taking tree stop stop.part node

-- what comes of an edit at the node that stands at a path, if one does, and else it is refused
abbrev pub at_node : (PlainNode → Edited) → Option PlainNode → Edited
at_node edit None = not_here
at_node edit (Some node) = edit node

-- what comes of a hole put beside the item at the path, if there is one: the cursor goes to it
abbrev pub outcome_of_hole_beside : PlainTree → Side → Option (List ℕ) → Edited
outcome_of_hole_beside tree side None = not_here
outcome_of_hole_beside tree side (Some path) =
    at_node (λ node. comes (TreeEdit.add side) tree node.label.slot (node_stop (added_path side path)) None)
    (node_at tree.items path)

-- what comes of an edit at the cursor's node: the one at the stop, or whose part the stop is
abbrev pub outcome_at_node : PlainTree → PlainStop → PlainEdit → PlainNode → Edited
outcome_at_node tree stop (PlainEdit.fill template) node = outcome_of_fill tree stop template node
outcome_at_node tree stop (PlainEdit.enter phrase) node = outcome_of_phrase_entry tree stop phrase node
outcome_at_node tree stop (PlainEdit.insert fragment) node = outcome_of_insertion tree stop fragment node
outcome_at_node tree stop PlainEdit.delete node = outcome_of_deletion tree stop node
outcome_at_node tree stop PlainEdit.take node = outcome_of_taking tree stop stop.part node
outcome_at_node tree stop (PlainEdit.beside side) node =
    outcome_of_hole_beside tree side (enclosing_item tree.items stop.path)

-- what comes of an edit at a stop of the tree; want of memory is not told
unfoldable pub edited : PlainTree → PlainStop → PlainEdit → Edited
edited tree stop edit = at_node (outcome_at_node tree stop edit) (node_at tree.items stop.path)
