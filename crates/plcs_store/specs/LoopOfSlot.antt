-- The loop of a slot among those that a frame keeps.
use Rattle.std.specs.Prelude.{ℕ, suc, ◌==◌, if◌then◌else◌, List, [], ◌∷◌, Option, Some, None, option_and_then, option_map, slice_get}
use Rattle.std.specs.Option.{option_or}
use Rattle.plcs_store.specs.declared.frame.Frame.{Frame}
use Rattle.plcs_store.specs.declared.kept_loop.KeptLoop.{KeptLoop}
use Rattle.plcs_store.specs.CellAt.{newest}

-- a loop with its number among those of its frame, counted from 0 at the outermost
abbrev pub NumberedLoop : Type 0
NumberedLoop = ℕ × KeptLoop

-- a numbered loop of a slot, with one more around it
abbrev pub inside_one_more : NumberedLoop → NumberedLoop
inside_one_more found = (suc found.0, found.1)

-- the loop of the slot, the innermost where there are more, with its number
abbrev pub loop_of_slot : (slot : ℕ) → List KeptLoop → Option NumberedLoop
loop_of_slot slot [] = None
loop_of_slot slot (kept ∷ loops) =
    option_or (option_map inside_one_more (loop_of_slot slot loops))
    (if kept.slot.0 == slot then Some (0, kept) else None)

-- the loop of the slot that the newest frame keeps, if it keeps one, with its number
abbrev pub newest_loop : (slot : ℕ) → List Frame → Option NumberedLoop
newest_loop slot frames = option_and_then (λ frame. loop_of_slot slot frame.loops) (slice_get frames (newest frames))
