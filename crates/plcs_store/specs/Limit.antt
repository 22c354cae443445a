-- The limits of a run.
use Rattle.std.specs.Prelude.{ℕ, ◌-◌, List, length}
use Rattle.plcs_store.specs.declared.limit.TheConstants.{MOST_FRAMES, MOST_LOOPS, MOST_OUTPUT, MOST_OPERANDS}

-- how many frames may stand
abbrev pub most_frames : ℕ
most_frames = MOST_FRAMES

-- how many loops a frame may keep
abbrev pub most_loops : ℕ
most_loops = MOST_LOOPS

-- how many bytes a run may write
abbrev pub most_output : ℕ
most_output = MOST_OUTPUT

-- for how many operands, and for how many arguments, a step has room
abbrev pub most_operands : ℕ
most_operands = MOST_OPERANDS

-- for how many more a run has room beside these, where so many are the limit, up to which it always has room
abbrev pub room_beside : {A : Type 0} → (most : ℕ) → List A → ℕ
room_beside most held = most - length held
