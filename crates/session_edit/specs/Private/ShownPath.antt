-- Paths on which nothing is elided, and the numbers of a path up to the first elided comment on it.
use Rattle.std.specs.Prelude.{ℕ, if◌then◌else◌, List, [], ◌∷◌, IsSomeAnd, slice_get}
use Rattle.std.specs.Option.{option_map_or}
use Rattle.template_tree.specs.Programs.PlainTree.{Forest, PlainNode, nodes}
use Rattle.template_tree.specs.Positions.Stop.{visible_at}

-- nothing is elided on the path: it has no number, or a visible node stands at it
abbrev pub IsShown : Forest → List ℕ → Type 0
IsShown items [] = Unit {0}
IsShown items (k ∷ path) = IsSomeAnd (visible_at items (k ∷ path)) (λ _. Unit {0})

-- the numbers of a path below a node, up to the first elided comment
abbrev pub shown_below : PlainNode → List ℕ → List ℕ
shown_below node [] = []
shown_below node (k ∷ path) =
    if node.label.elided then [] else k
    ∷ option_map_or (λ item. shown_below item path) (slice_get (nodes node.inner) k) []

-- the numbers of a path, up to the first elided comment
abbrev pub shown_numbers : Forest → List ℕ → List ℕ
shown_numbers items [] = []
shown_numbers items (k ∷ path) = k ∷ option_map_or (λ item. shown_below item path) (slice_get (nodes items) k) []
