-- The record of an act, from the place of the newest frame and from what was in the cell; and what a stored value
-- leaves as it was.
use Rattle.std.specs.Prelude.{◌≡◌, refl, ℕ, zero, suc, ◌-◌, ◌<◌, nat_lt, true, false, List, [], ◌∷◌, length, slice_get, slice_set, Option, Some, None, IsSome, is_some, option_and_then, option_map}
use Rattle.std.specs.Option.{option_map_or}
use Rattle.std.proofs.Common.{ap, sym, ◌∙◌, arith}
use Rattle.std.proofs.Math.Bool.{false≢true}
use Rattle.std.proofs.lemmas.Bool.{ltb-true}
use Rattle.std.proofs.lemmas.List.{length-take-le}
use Rattle.plcs_base.specs.declared.place.Place.{Place}
use Rattle.plcs_base.specs.declared.value.Value.{Value}
use Rattle.plcs_code.specs.PlainInstr.{place_of}
use Rattle.template_tree.specs.Positions.Place.{PlainPlace}
use Rattle.plcs_store.specs.declared.cell.Cell.{Cell}
use Rattle.plcs_store.specs.declared.cell.Location.{Location}
use Rattle.plcs_store.specs.declared.frame.Frame.{Frame}
use Rattle.plcs_store.specs.declared.kept_loop.KeptLoop.{KeptLoop}
use Rattle.plcs_store.specs.declared.undo.Undo.{Undo}
use Rattle.plcs_store.specs.Act.{Act, HasLoopRoom, with_value_stored, without_newest}
use Rattle.plcs_store.specs.CellAt.{cell_at, changed_at, newest, with_cell, with_element_named}
use Rattle.plcs_store.specs.Limit.{most_loops}
use Rattle.plcs_store.specs.Configuration.{PlainConfiguration, frame_place, plain_place, top_place}
use Rattle.plcs_machine.specs.Lead.{has_loop_room}
use Rattle.plcs_store.specs.Undone.{caller_of, loop_at, newest_frame, undo_in_frame, undo_of}

-- ---- the newest frame

-- a frame that stands at the place
pub record StandsAt (place : Place) (found : Option Frame) : Type 0 where
  pub frame : Frame
  pub there : found ≡ Some frame
  pub placed : frame.place ≡ place

abbrev place_or : Place → Option PlainPlace → Place
place_or other None = other
place_or other (Some place) = place_of place

pub stands_at : (place : Place) (found : Option Frame) → option_map frame_place found ≡ Some (plain_place place) → StandsAt place found
stands_at place None at = absurd (false≢true (ap (λ (o : Option PlainPlace). is_some o) at))
stands_at place (Some frame) at = record { frame = frame; there = refl; placed = ap (place_or place) at }

-- ---- records

module _ (c : PlainConfiguration) (place : Place) (at : top_place c.frames ≡ Some (plain_place place)) where
  -- the record of an act by the newest frame
  undo_here : (act : Act) (frame : Frame) → newest_frame c.frames ≡ Some frame → undo_of act c ≡ undo_in_frame act frame c
  undo_here act frame there = ap (λ (found : Option Frame). option_map_or (λ one. undo_in_frame act one c) found Undo.Empty) there

  pub pass_noted : Undo.Moved place ≡ undo_of Act.pass c
  pass_noted =
      let top = stands_at place (newest_frame c.frames) at in
      sym (undo_here Act.pass top.frame top.there ∙ ap Undo.Moved top.placed)

  pub store_noted : (location : Location) (value : Value) (cell : Cell) → cell_at c.frames location ≡ Some cell
      → Undo.Stored place location cell ≡ undo_of (Act.store location value) c
  store_noted location value cell is =
      let top = stands_at place (newest_frame c.frames) at in
      sym
      (undo_here (Act.store location value) top.frame top.there
      ∙ ap (λ (found : Option Cell). option_map_or (Undo.Stored top.frame.place location) found Undo.Empty) is
      ∙ ap (λ (p : Place). Undo.Stored p location cell) top.placed)

  pub enter_noted : (location : Location) (value : Value) (kept : KeptLoop) (cell : Cell) → cell_at c.frames location ≡ Some cell
      → Undo.Entered place location cell ≡ undo_of (Act.enter location value kept) c
  enter_noted location value kept cell is =
      let top = stands_at place (newest_frame c.frames) at in
      sym
      (undo_here (Act.enter location value kept) top.frame top.there
      ∙ ap (λ (found : Option Cell). option_map_or (Undo.Entered top.frame.place location) found Undo.Empty) is
      ∙ ap (λ (p : Place). Undo.Entered p location cell) top.placed)

  pub read_noted : (location : Location) (value : Value) (count : ℕ) (cell : Cell) → cell_at c.frames location ≡ Some cell
      → Undo.Read place location cell c.taken ≡ undo_of (Act.read location value count) c
  read_noted location value count cell is =
      let top = stands_at place (newest_frame c.frames) at in
      sym
      (undo_here (Act.read location value count) top.frame top.there
      ∙ ap (λ (found : Option Cell). option_map_or (λ one. Undo.Read top.frame.place location one c.taken) found Undo.Empty) is
      ∙ ap (λ (p : Place). Undo.Read p location cell c.taken) top.placed)

  pub finish_noted : (location : Location) (value : Value) (number : ℕ) (cell : Cell) (kept : KeptLoop) → cell_at c.frames location ≡ Some cell
      → loop_at number c.frames ≡ Some kept → Undo.Finished place location cell kept number ≡ undo_of (Act.finish location value number) c
  finish_noted location value number cell kept is its =
      let top = stands_at place (newest_frame c.frames) at in
      let own : slice_get top.frame.loops number ≡ Some kept =
      sym (ap (option_and_then (λ (one : Frame). slice_get one.loops number)) top.there) ∙ its in
      sym
      (undo_here (Act.finish location value number) top.frame top.there
      ∙ ap (λ (found : Option Cell). option_map_or (λ one.
      option_map_or (λ loop. Undo.Finished top.frame.place location one loop number) (slice_get top.frame.loops number) Undo.Empty) found Undo.Empty) is
      ∙ ap (λ (found : Option KeptLoop). option_map_or (λ loop. Undo.Finished top.frame.place location cell loop number) found Undo.Empty) own
      ∙ ap (λ (p : Place). Undo.Finished p location cell kept number) top.placed)

  pub write_noted : (output : List ℕ) → Undo.Wrote place (length c.output) ≡ undo_of (Act.write output) c
  write_noted output =
      let top = stands_at place (newest_frame c.frames) at in
      sym (undo_here (Act.write output) top.frame top.there ∙ ap (λ (p : Place). Undo.Wrote p (length c.output)) top.placed)

  pub call_noted : (called : Frame) → Undo.Called place ≡ undo_of (Act.call called) c
  call_noted called =
      let top = stands_at place (newest_frame c.frames) at in
      sym (undo_here (Act.call called) top.frame top.there ∙ ap Undo.Called top.placed)

pub leave_noted : (c : PlainConfiguration) (caller : Place) (frame : Frame) → newest_frame c.frames ≡ Some frame
    → top_place (without_newest c.frames) ≡ Some (plain_place caller) → Undo.Left caller frame ≡ undo_of Act.leave c
leave_noted c caller frame there at =
    let below = stands_at caller (caller_of c.frames) at in
    sym
    (ap (λ (found : Option Frame). option_map_or (λ one. undo_in_frame Act.leave one c) found Undo.Empty) there
    ∙ ap (λ (found : Option Frame). option_map_or (λ one. Undo.Left one.place frame) found Undo.Empty) below.there
    ∙ ap (λ (p : Place). Undo.Left p frame) below.placed)

-- ---- what a stored value leaves as it was

-- the change of an item behind the first
changed_behind : {X : Type 0} (k : ℕ) (change : X → X) (x : X) (xs : List X) → changed_at (suc k) change (x ∷ xs) ≡ x ∷ changed_at k change xs
changed_behind {X = X} k change x xs = by (slice_get xs k)
  where
    by : (found : Option X)
        → option_map_or (λ item. slice_set (x ∷ xs) (suc k) (change item)) found (x ∷ xs)
        ≡ x ∷ option_map_or (λ item. slice_set xs k (change item)) found xs
    by None = refl
    by (Some item) = refl

-- a change leaves the count of items
pub changed_length : {X : Type 0} (k : ℕ) (change : X → X) (xs : List X) → length (changed_at k change xs) ≡ length xs
changed_length k change [] = refl
changed_length zero change (x ∷ xs) = refl
changed_length {X = X} (suc k) change (x ∷ xs) =
    ap (λ (ys : List X). length ys) (changed_behind k change x xs) ∙ ap suc (changed_length k change xs)

-- and what it leaves of each item stays
pub changed_keeps : {X A : Type 0} (keep : X → A) (k : ℕ) (change : X → X) → ((x : X) → keep (change x) ≡ keep x) → (xs : List X) (n : ℕ)
    → option_map keep (slice_get (changed_at k change xs) n) ≡ option_map keep (slice_get xs n)
changed_keeps keep k change kept [] n = refl
changed_keeps keep zero change kept (x ∷ xs) zero = ap Some (kept x)
changed_keeps keep zero change kept (x ∷ xs) (suc n) = refl
changed_keeps {X = X} keep (suc k) change kept (x ∷ xs) zero =
    ap (λ (ys : List X). option_map keep (slice_get ys 0)) (changed_behind k change x xs)
changed_keeps {X = X} keep (suc k) change kept (x ∷ xs) (suc n) =
    ap (λ (ys : List X). option_map keep (slice_get ys (suc n))) (changed_behind k change x xs) ∙ changed_keeps keep k change kept xs n

-- a stored value leaves the loops of the newest frame
pub stored_loops : (location : Location) (cell : Cell) (frames : List Frame)
    → option_map (λ (frame : Frame). frame.loops) (newest_frame (with_cell location cell frames))
    ≡ option_map (λ (frame : Frame). frame.loops) (newest_frame frames)
stored_loops location cell frames =
    let change : Frame → Frame =
    λ frame. record frame { cells = with_element_named location.name location.element cell frame.cells } in
    ap (λ (n : ℕ). option_map (λ (frame : Frame). frame.loops) (slice_get (with_cell location cell frames) (n - 1)))
    (changed_length location.frame change frames)
    ∙ changed_keeps (λ (frame : Frame). frame.loops) location.frame change (λ frame. refl) frames (newest frames)

-- so the loop of a number is the same
pub stored_loop_at : (number : ℕ) (location : Location) (cell : Cell) (frames : List Frame)
    → loop_at number (with_cell location cell frames) ≡ loop_at number frames
stored_loop_at number location cell frames =
    sym (by (newest_frame (with_cell location cell frames)))
    ∙ ap (option_and_then (λ (loops : List KeptLoop). slice_get loops number)) (stored_loops location cell frames)
    ∙ by (newest_frame frames)
  where
    by : (found : Option Frame)
        → option_and_then (λ (loops : List KeptLoop). slice_get loops number) (option_map (λ (frame : Frame). frame.loops) found)
        ≡ option_and_then (λ (frame : Frame). slice_get frame.loops number) found
    by None = refl
    by (Some frame) = refl

-- and there is room for a loop where there was
pub stored_room : (location : Location) (cell : Cell) (frames : List Frame) → has_loop_room frames ≡ true
    → HasLoopRoom (with_cell location cell frames)
stored_room location cell frames room frame there =
    let same : Some frame.loops ≡ option_map (λ (one : Frame). one.loops) (newest_frame frames) =
    sym (ap (option_map (λ (one : Frame). one.loops)) there) ∙ stored_loops location cell frames in
    few (newest_frame frames) same room
  where
    few : (found : Option Frame) → Some frame.loops ≡ option_map (λ (one : Frame). one.loops) found
        → option_map_or (λ one. nat_lt (length one.loops) most_loops) found false ≡ true → length frame.loops < most_loops
    few None same room = absurd (false≢true room)
    few (Some one) same room =
        let loops : length frame.loops ≡ length one.loops =
        ap (λ (o : Option (List KeptLoop)). option_map_or (λ (l : List KeptLoop). length l) o 0) same in
        let low : length one.loops < most_loops = ltb-true (length one.loops) most_loops room in
        omega (arith, loops, low)

-- ---- there is a frame

-- where the newest frame stands somewhere, there is one
pub some_frame : (frames : List Frame) (place : PlainPlace) → top_place frames ≡ Some place → 0 < length frames
some_frame [] place at = absurd (false≢true (ap (λ (o : Option PlainPlace). is_some o) at))
some_frame (frame ∷ frames) place at = omega arith

-- a change leaves one
pub some_changed : (k : ℕ) (change : Frame → Frame) (frames : List Frame) → 0 < length frames → 0 < length (changed_at k change frames)
some_changed k change frames some =
    let same = changed_length k change frames in
    omega (arith, some, same)

pub some_stored : (location : Location) (value : Value) (frames : List Frame) → 0 < length frames → 0 < length (with_value_stored location value frames)
some_stored location value frames some =
    some_changed location.frame
    (λ frame. record frame { cells = with_element_named location.name location.element (Cell.Held value) frame.cells }) frames some

-- an item inside is there
is_inside : {X : Type 0} (xs : List X) (k : ℕ) → k < length xs → IsSome (slice_get xs k)
is_inside [] k low = absurd (omega (arith, low))
is_inside (x ∷ xs) zero low = refl
is_inside (x ∷ xs) (suc k) low = is_inside xs k (omega (arith, low))

-- where there is one, the newest stands somewhere
pub top_there : (frames : List Frame) → 0 < length frames → IsSome (top_place frames)
top_there frames some = by (newest_frame frames) (is_inside frames (newest frames) (omega (arith, some)))
  where
    by : (found : Option Frame) → IsSome found → IsSome (option_map frame_place found)
    by None there = there
    by (Some frame) there = refl

-- without the newest of more than one there is one
pub some_left : (frames : List Frame) → 1 < length frames → 0 < length (without_newest frames)
some_left frames more =
    let count = length-take-le (newest frames) frames (omega arith) in
    omega (arith, more, count)
