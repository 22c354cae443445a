-- What a step does to a configuration: one act.
use Rattle.std.specs.Prelude.{◌≡◌, ℕ, ◌-◌, ◌+◌, ◌<◌, List, [], ◌∷◌, ◌++◌, length, slice_get, take, Some}
use Rattle.std.specs.List.{remove}
use Rattle.plcs_base.specs.declared.value.Value.{Value}
use Rattle.template_tree.specs.Positions.Place.{PlainPlace, place_at}
use Rattle.plcs_store.specs.declared.cell.Cell.{Cell}
use Rattle.plcs_store.specs.declared.cell.Location.{Location}
use Rattle.plcs_store.specs.declared.frame.Frame.{Frame}
use Rattle.plcs_store.specs.declared.kept_loop.KeptLoop.{KeptLoop}
use Rattle.plcs_store.specs.CellAt.{changed_at, newest, with_cell}
use Rattle.plcs_store.specs.Configuration.{PlainConfiguration, frame_at}
use Rattle.plcs_store.specs.Limit.{most_loops}

-- what a step does, beside going to a place
pub data Act : Type 0 where
  -- nothing
  pass : Act
  -- a value is stored
  store : Location → Value → Act
  -- a value is stored, and the body of a loop entered
  enter : Location → Value → KeptLoop → Act
  -- a value is stored, and the loop of this number left, counted from 0 at the outermost
  finish : Location → Value → (number : ℕ) → Act
  -- a value is stored that took so many bytes of the input
  read : Location → Value → ℕ → Act
  -- the output becomes this
  write : List ℕ → Act
  -- a procedure is called, and this is its frame
  call : Frame → Act
  -- the newest frame is left
  leave : Act

-- the frames without the newest, which an act leaves
abbrev pub without_newest : List Frame → List Frame
without_newest frames = take (newest frames) frames

-- frames of which an act changed the newest
abbrev pub with_newest : (Frame → Frame) → List Frame → List Frame
with_newest change frames = changed_at (newest frames) change frames

-- frames of which the newest stands at the place where an act goes on
abbrev pub newest_at : PlainPlace → List Frame → List Frame
newest_at place frames = with_newest (frame_at place) frames

-- a frame after an act, whose loops have one more inside them
abbrev pub with_loop : KeptLoop → Frame → Frame
with_loop kept frame = record frame { loops = frame.loops ++ (kept ∷ []) }

-- a frame after an act, without its innermost loop
abbrev pub without_loop : Frame → Frame
without_loop frame = record frame { loops = take (length frame.loops - 1) frame.loops }

-- a frame after an act, without the loop of this number, counted from 0 at the outermost
abbrev pub without_loop_at : (number : ℕ) → Frame → Frame
without_loop_at number frame = record frame { loops = remove frame.loops number }

-- a frame after an act, which waits for the procedure that it calls
abbrev pub frame_waiting : Frame → Frame
frame_waiting frame = frame_at (place_at frame.place.slot.0 1) frame

-- frames after an act that stored a value at a location
abbrev pub with_value_stored : Location → Value → List Frame → List Frame
with_value_stored location value frames = with_cell location (Cell.Held value) frames

-- the frames after an act that goes on at the place
abbrev pub frames_after : Act → (next : PlainPlace) → List Frame → List Frame
frames_after Act.pass next frames = newest_at next frames
frames_after (Act.store location value) next frames = newest_at next (with_value_stored location value frames)
frames_after (Act.enter location value kept) next frames =
    newest_at next (with_newest (with_loop kept) (with_value_stored location value frames))
frames_after (Act.finish location value number) next frames =
    newest_at next (with_newest (without_loop_at number) (with_value_stored location value frames))
frames_after (Act.read location value count) next frames = newest_at next (with_value_stored location value frames)
frames_after (Act.write output) next frames = newest_at next frames
frames_after (Act.call frame) next frames = with_newest frame_waiting frames ++ (frame_at next frame ∷ [])
frames_after Act.leave next frames = newest_at next (without_newest frames)

-- how many bytes of the input are taken after an act
abbrev pub taken_after : Act → ℕ → ℕ
taken_after Act.pass taken = taken
taken_after (Act.store location value) taken = taken
taken_after (Act.enter location value kept) taken = taken
taken_after (Act.finish location value number) taken = taken
taken_after (Act.read location value count) taken = taken + count
taken_after (Act.write output) taken = taken
taken_after (Act.call frame) taken = taken
taken_after Act.leave taken = taken

-- the output after an act
abbrev pub output_after : Act → List ℕ → List ℕ
output_after Act.pass output = output
output_after (Act.store location value) output = output
output_after (Act.enter location value kept) output = output
output_after (Act.finish location value number) output = output
output_after (Act.read location value count) output = output
output_after (Act.write becomes) output = becomes
output_after (Act.call frame) output = output
output_after Act.leave output = output

-- the configuration after an act that goes on at the place
abbrev pub done : Act → (next : PlainPlace) → PlainConfiguration → PlainConfiguration
done act next c =
    record
    { frames = frames_after act next c.frames; taken = taken_after act c.taken; output = output_after act c.output }

-- the newest frame has room for one more loop, if there is a frame
abbrev pub HasLoopRoom : List Frame → Type 0
HasLoopRoom frames = (frame : Frame) → slice_get frames (newest frames) ≡ Some frame → length frame.loops < most_loops
