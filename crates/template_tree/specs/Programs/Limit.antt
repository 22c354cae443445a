-- The limits of a tree.
use Rattle.std.specs.Prelude.{ℕ}
use Rattle.template_tree.specs.declared.limit.TheConstants.{DEEPEST_PATH, MOST_SLOTS, MOST_DRAWN_SLOTS, LONGEST_PHRASE, MOST_CELLS}

-- how many numbers a path in a tree may have
abbrev pub deepest_path : ℕ
deepest_path = DEEPEST_PATH

-- how many slots may be live
abbrev pub most_slots : ℕ
most_slots = MOST_SLOTS

-- how many slots may be drawn
abbrev pub most_drawn_slots : ℕ
most_drawn_slots = MOST_DRAWN_SLOTS

-- how many bytes the canonical text of a phrase in a tree may have
abbrev pub longest_phrase : ℕ
longest_phrase = LONGEST_PHRASE

-- the limit of cells in a tree: how many the effective items of one procedure may have together
abbrev pub most_cells : ℕ
most_cells = MOST_CELLS
