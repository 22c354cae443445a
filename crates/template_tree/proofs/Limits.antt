-- The value of each limit.
use Rattle.std.specs.Prelude.{◌≡◌, refl}
use Rattle.template_tree.specs.Programs.Limit.{deepest_path, most_slots, most_drawn_slots, longest_phrase, most_cells}

deepest_path_is : deepest_path ≡ 64
deepest_path_is = refl

most_slots_is : most_slots ≡ 20000
most_slots_is = refl

most_drawn_is : most_drawn_slots ≡ 2147483648
most_drawn_is = refl

longest_phrase_is : longest_phrase ≡ 400
longest_phrase_is = refl

most_cells_is : most_cells ≡ 2000
most_cells_is = refl
