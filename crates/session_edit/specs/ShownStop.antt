-- The stop at which a slot is shown, to which the cursor goes for it.
use Rattle.std.specs.Prelude.{ℕ, ◌+◌, if◌then◌else◌, ◌==◌, List, [], ◌∷◌, Option, Some, None, option_map}
use Rattle.std.specs.Option.{option_or}
use Rattle.template_tree.specs.Programs.PlainTree.{Forest, PlainTree}
use Rattle.template_tree.specs.Positions.Stop.{PlainStop, node_stop}

-- the path to the slot, or to the outermost elided comment in which it stands, among nodes of which the first has this
-- number
abbrev pub shown_path : ℕ → ℕ → Forest → Option (List ℕ)
shown_path slot k Forest.nil = None
shown_path slot k (Forest.cons label inner rest) =
    if label.slot == slot
    then Some (k ∷ [])
    else
    option_or (option_map (λ path. k ∷ (if label.elided then [] else path)) (shown_path slot 0 inner))
    (shown_path slot (k + 1) rest)

-- the stop of the node in the slot, or that of the outermost elided comment round it, where the slot is live
unfoldable pub shown_at : PlainTree → ℕ → Option PlainStop
shown_at tree slot = option_map node_stop (shown_path slot 0 tree.items)
