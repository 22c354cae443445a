-- Kept nodes at their paths.
use Rattle.std.specs.Prelude.{◌≡◌, ℕ, ◌+◌, Bool, true, false, not, ◌&&◌, ◌||◌, max, List, [], ◌∷◌, Option, Some, option_and_then, option_map, slice_get}
use Rattle.std.specs.Option.{option_map_or}
use Rattle.template_tree.specs.declared.change.What.{What}
use Rattle.template_tree.specs.Positions.Path.{slot_at}
use Rattle.template_tree.specs.Programs.PlainTree.{Forest, PlainNode}
use Rattle.template_tree.specs.Programs.Program.{sort_of}
use Rattle.template_tree.specs.Programs.Slots.{times}
use Rattle.plcs_code.specs.OwnCode.{no_own_code}
use Rattle.code_patch.specs.SoundCode.{times_kept}
use Rattle.code_patch.specs.Bill.{is_declaration}
use Rattle.code_patch.specs.CodeEdit.{PlainCodeTree}
use Rattle.code_patch.specs.CodeForest.{CodeForest, PlainCodeNode, code_nodes}
use Rattle.code_patch.specs.Private.NearCode.{is_added, is_dropped}

-- the kept node at the path below one
abbrev pub kept_below : PlainCodeNode → (path : List ℕ) → Option PlainCodeNode
kept_below node [] = Some node
kept_below node (k ∷ path) = option_and_then (λ child. kept_below child path) (slice_get (code_nodes node.inner) k)

-- the slot of the kept node at the path below one
abbrev pub slot_kept_at : PlainCodeNode → (path : List ℕ) → Option ℕ
slot_kept_at node path = option_map (λ found. found.own.slot) (kept_below node path)

-- how deep kept nodes stand: how many numbers the longest path to one of them has
abbrev pub kept_depth : CodeForest → ℕ
kept_depth CodeForest.nil = 0
kept_depth (CodeForest.cons own spare inner rest) = max (kept_depth inner + 1) (kept_depth rest)

-- the kept node without own code inside which a code tree has its items
abbrev pub root_of : PlainCodeTree → PlainCodeNode
root_of code = record { own = no_own_code; spare = code.spare; inner = code.items }

-- a path leads to the slot of a change: among the nodes after it, or, where an item was dropped, among those that are
-- kept
abbrev pub LeadsToChange : (dropped : Bool) → (slot : ℕ) → (path : List ℕ) → PlainCodeNode → (after : Forest) → Type 0
LeadsToChange true slot [] kept after = ⊥
LeadsToChange true slot (k ∷ path) kept after = slot_kept_at kept (k ∷ path) ≡ Some slot
LeadsToChange false slot path kept after = slot_at after path ≡ Some slot

-- how often the slot of a change stands where it is looked for
abbrev pub times_sought : (dropped : Bool) → (slot : ℕ) → (kept : CodeForest) → (after : Forest) → ℕ
times_sought true slot kept after = times_kept slot kept
times_sought false slot kept after = times slot after

-- whether a kept node declares something of its procedure, if it is there
abbrev pub kept_declares : Option PlainCodeNode → Bool
kept_declares found = option_map_or (λ node. is_declaration (sort_of node.own.kind)) found false

-- whether a node of a program declares something of its procedure, if it is there
abbrev pub node_declares : Option PlainNode → Bool
node_declares found = option_map_or (λ node. is_declaration (sort_of node.label.kind)) found false

-- whether an edit changed a declaration: what stood there before, unless it came, or what stands there after, unless it
-- went
abbrev pub changes_declaration : What → Option PlainCodeNode → Option PlainNode → Bool
changes_declaration what before after =
    (not (is_added what) && kept_declares before) || (not (is_dropped what) && node_declares after)
