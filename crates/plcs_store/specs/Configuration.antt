-- What a run is in, as plain data, and where its frames stand.
use Rattle.std.specs.Prelude.{ℕ, List, Option, option_map, slice_get}
use Rattle.plcs_base.specs.declared.place.Place.{Place}
use Rattle.template_tree.specs.Positions.Place.{PlainPlace}
use Rattle.plcs_store.specs.declared.frame.Frame.{Frame}
use Rattle.plcs_store.specs.declared.run_state.RunState.{RunState}
use Rattle.plcs_store.specs.CellAt.{newest}

-- a configuration of a run: its frames from main upward, how many bytes of the input were taken, and what was written
pub record PlainConfiguration : Type 0 where
  pub frames : List Frame
  pub taken : ℕ
  pub output : List ℕ

-- the configuration of a state of the code; the room for operands is no part of it
abbrev pub plain_configuration : RunState → PlainConfiguration
plain_configuration state = record { frames = state.frames; taken = state.taken; output = state.output }

-- a place of the code as plain data
abbrev pub plain_place : Place → PlainPlace
plain_place place = record { slot = place.slot.0; point = place.point.0 }

-- the place of the code that is this as plain data
abbrev pub place_of_plain : PlainPlace → Place
place_of_plain place = record { slot = record { 0 = place.slot }; point = record { 0 = place.point } }

-- where a frame stands
abbrev pub frame_place : Frame → PlainPlace
frame_place frame = plain_place frame.place

-- a frame of what a run is in, once it stands at the place
abbrev pub frame_at : PlainPlace → Frame → Frame
frame_at place frame = record frame { place = place_of_plain place }

-- where the newest frame stands, if there is one
abbrev pub top_place : List Frame → Option PlainPlace
top_place frames = option_map frame_place (slice_get frames (newest frames))
