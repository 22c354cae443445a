-- Comments turned, with and without the room of lists.
use Rattle.std.specs.Prelude.{◌≡◌, refl, ℕ, Bool, true, false, not, if◌then◌else◌, List, [], ◌∷◌, Option, Some, None, option_and_then, option_map}
use Rattle.std.proofs.Common.{ap, sym, ◌∙◌}
use Rattle.template_tree.specs.Edits.Elision.{hidden_after_toggle, is_comment, toggled, with_toggled_at}
use Rattle.template_tree.specs.Positions.Path.{node_at}
use Rattle.template_tree.specs.Programs.PlainTree.{Forest, PlainNode, PlainTree, roomless, roomless_node, roomless_tree}
use Rattle.template_tree.proofs.Room.RoomlessEdits.{SameWithoutRoom, roomless_edit}
use Rattle.template_tree.proofs.Room.RoomlessNodes.{node_roomless}

turned_if : (b : Bool) (node : PlainNode)
    → roomless_node (if b then record node { label = record node.label { elided = not node.label.elided } } else node)
    ≡ (if b then record (roomless_node node) { label = record (roomless_node node).label { elided = not node.label.elided } } else roomless_node node)
turned_if true node = refl
turned_if false node = refl

turns_alike : SameWithoutRoom toggled toggled
turns_alike node = ap (λ (new : PlainNode). new ∷ []) (turned_if (is_comment node.label.kind) node)

pub turn_roomless : (tree : PlainTree) (path : List ℕ) → with_toggled_at path (roomless_tree tree) ≡ roomless_tree (with_toggled_at path tree)
turn_roomless tree path =
    ap (λ (items : Forest). let t : PlainTree = record { items = items; spare = 0; drawn = tree.drawn; live = tree.live } in t)
    (sym (roomless_edit toggled toggled turns_alike path tree.items))

hidden_found : (found : Option PlainNode)
    → option_and_then hidden_after_toggle (option_map roomless_node found) ≡ option_and_then hidden_after_toggle found
hidden_found None = refl
hidden_found (Some node) = refl

pub hidden_roomless : (items : Forest) (path : List ℕ)
    → option_and_then hidden_after_toggle (node_at (roomless items) path) ≡ option_and_then hidden_after_toggle (node_at items path)
hidden_roomless items path = ap (option_and_then hidden_after_toggle) (node_roomless items path) ∙ hidden_found (node_at items path)
