-- What is looked for in a tree, with and without the room of its lists.
use Rattle.std.proofs.Common.{◌≡◌, ℕ, Option, Some, None, refl}
use Rattle.std.specs.Prelude.{◌==◌, if◌then◌else◌, option_map}
use Rattle.template_tree.specs.Programs.PlainTree.{Forest, roomless}
use Rattle.screen_window.specs.NodeLine.{found_line, line_inside, place_line, point_line}

-- the line of a place of a run
pub place_roomless : (slot point : ℕ) (items : Forest) → place_line slot point (roomless items) ≡ place_line slot point items
place_roomless slot point Forest.nil = refl
place_roomless slot point (Forest.cons label inner rest) =
    λ i.
    found_line (if label.slot == slot then Some (point_line label point) else line_inside label (place_roomless slot point inner i))
    (place_roomless slot point rest i)

-- one function after the other on what is there
pub map_in : {A B C : Type 0} (f : A → B) (g : B → C) (found : Option A) → option_map (λ a. g (f a)) found ≡ option_map g (option_map f found)
map_in f g None = refl
map_in f g (Some a) = refl
