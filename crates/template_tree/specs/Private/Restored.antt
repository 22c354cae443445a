-- What undoing needs of trees and paths: nodes that are edited with the counts left as they are, and the side of a
-- dropped item.
use Rattle.std.specs.Prelude.{ℕ, zero, suc, List}
use Rattle.template_tree.specs.declared.side.Side.{Side}
use Rattle.template_tree.specs.Programs.PlainTree.{PlainNode, PlainTree}
use Rattle.template_tree.specs.Edits.Edit.{edit_at}

-- the tree, with its counts left as they are, where the node at a path gave way to a list of items
abbrev pub with_edit : (PlainNode → List PlainNode) → List ℕ → PlainTree → PlainTree
with_edit change path tree = record tree { items = edit_at change path tree.items }

-- on which side of the item that is left there an item of this number stood: the first stood before the next one, and
-- each other one behind the one before it
abbrev pub side_of : ℕ → Side
side_of zero = Side.Before
side_of (suc k) = Side.After
