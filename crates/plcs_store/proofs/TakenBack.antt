-- `steps_taken_back`: what an act changes in the frames is changed back. The newest frame and a cell are changed
-- independently of each other, in whichever frame the cell is.
use Rattle.std.specs.Prelude.{◌≡◌, refl, ℕ, zero, suc, ◌+◌, ◌-◌, Bool, true, false, cond, bytes_eq, List, [], ◌∷◌, ◌++◌, length, take, slice_get, slice_set, Option, Some, None, IsSome, option_and_then}
use Rattle.std.specs.List.{insert, remove}
use Rattle.std.specs.Map.{lookup, set_value}
use Rattle.std.specs.Option.{option_map_or}
use Rattle.std.proofs.Common.{ap, sym, ◌∙◌, arith}
use Rattle.std.proofs.Math.Bool.{false≢true}
use Rattle.std.proofs.Math.Seq.{take-append_seam}
use Rattle.std.proofs.lemmas.List.{length-append}
use Rattle.std.proofs.lemmas.Map.Steps.{set_value_same}
use Rattle.std.proofs.lemmas.Option.{none-some, same_Some, slice_get_within}
use Rattle.template_tree.specs.Positions.Place.{PlainPlace}
use Rattle.plcs_store.specs.declared.cell.Cell.{Cell}
use Rattle.plcs_store.specs.declared.cell.Location.{Location}
use Rattle.plcs_store.specs.declared.frame.Frame.{Frame}
use Rattle.plcs_store.specs.declared.kept_loop.KeptLoop.{KeptLoop}
use Rattle.plcs_store.specs.declared.undo.Undo.{Undo}
use Rattle.plcs_store.specs.declared.variable.Variable.{Variable}
use Rattle.plcs_base.specs.declared.value.Value.{Value}
use Rattle.plcs_store.specs.Act.{Act, done, frame_waiting, newest_at, with_loop, with_newest, without_loop, without_loop_at, without_newest}
use Rattle.plcs_store.specs.CellAt.{Variables, cell_at, changed_at, newest, variable_named, with_cell, with_element, with_element_named}
use Rattle.plcs_store.specs.Configuration.{PlainConfiguration, frame_at, plain_place}
use Rattle.plcs_store.specs.Undone.{HasPartsFor, StepsTakenBack, caller_of, step_undone, undo_in_frame, with_loop_at}

known : {A : Type 0} (found : Option A) → IsSome found → (a : A) × (found ≡ Some a)
known None h = absurd (false≢true h)
known (Some a) h = (a, refl)

-- ---- lists of which one item is changed

pub changed_behind : {A : Type 0} (k : ℕ) (f : A → A) (x : A) (xs : List A) → changed_at (suc k) f (x ∷ xs) ≡ x ∷ changed_at k f xs
changed_behind {A} k f x xs = by (slice_get xs k)
  where
    by : (got : Option A)
        → option_map_or (λ item. slice_set (x ∷ xs) (suc k) (f item)) got (x ∷ xs) ≡ x ∷ option_map_or (λ item. slice_set xs k (f item)) got xs
    by None = refl
    by (Some a) = refl

pub changed_length : {A : Type 0} (k : ℕ) (f : A → A) (xs : List A) → length (changed_at k f xs) ≡ length xs
changed_length k f [] = refl
changed_length zero f (x ∷ xs) = refl
changed_length (suc k) f (x ∷ xs) = ap length (changed_behind k f x xs) ∙ ap suc (changed_length k f xs)

-- one change after another of the same item
changed_twice : {A : Type 0} (k : ℕ) (f g : A → A) (xs : List A) → changed_at k f (changed_at k g xs) ≡ changed_at k (λ a. f (g a)) xs
changed_twice k f g [] = refl
changed_twice zero f g (x ∷ xs) = refl
changed_twice {A} (suc k) f g (x ∷ xs) =
    ap (changed_at (suc k) f) (changed_behind k g x xs) ∙ changed_behind k f x (changed_at k g xs)
    ∙ ap (λ (rest : List A). x ∷ rest) (changed_twice k f g xs) ∙ sym (changed_behind k (λ a. f (g a)) x xs)

-- changes that commute on items commute on a list
pub changed_either : {A : Type 0} (j k : ℕ) (f g : A → A) → ((a : A) → f (g a) ≡ g (f a)) → (xs : List A)
    → changed_at j f (changed_at k g xs) ≡ changed_at k g (changed_at j f xs)
changed_either j k f g same [] = refl
changed_either {A} zero zero f g same (x ∷ xs) = ap (λ (a : A). a ∷ xs) (same x)
changed_either zero (suc k) f g same (x ∷ xs) = ap (changed_at 0 f) (changed_behind k g x xs) ∙ sym (changed_behind k g (f x) xs)
changed_either (suc j) zero f g same (x ∷ xs) = changed_behind j f (g x) xs ∙ ap (changed_at 0 g) (sym (changed_behind j f x xs))
changed_either {A} (suc j) (suc k) f g same (x ∷ xs) =
    ap (changed_at (suc j) f) (changed_behind k g x xs) ∙ changed_behind j f x (changed_at k g xs)
    ∙ ap (λ (rest : List A). x ∷ rest) (changed_either j k f g same xs)
    ∙ sym (ap (changed_at (suc k) g) (changed_behind j f x xs) ∙ changed_behind k g x (changed_at j f xs))

-- a change that leaves the item as it is
unchanged : {A : Type 0} (k : ℕ) (f : A → A) (xs : List A) → ((a : A) → slice_get xs k ≡ Some a → f a ≡ a) → changed_at k f xs ≡ xs
unchanged k f [] same = refl
unchanged {A} zero f (x ∷ xs) same = ap (λ (a : A). a ∷ xs) (same x refl)
unchanged {A} (suc k) f (x ∷ xs) same = changed_behind k f x xs ∙ ap (λ (rest : List A). x ∷ rest) (unchanged k f xs same)

-- what stands before the last item, and that item
with_last : {A : Type 0} (xs : List A) (k : ℕ) (a : A) → slice_get xs k ≡ Some a → suc k ≡ length xs → take k xs ++ a ∷ [] ≡ xs
with_last [] k a found last = absurd (none-some a found)
with_last {A} (x ∷ []) zero a found last = ap (λ (one : A). one ∷ []) (sym (same_Some x a found))
with_last (x ∷ (y ∷ xs)) zero a found last = absurd (omega (arith, last))
with_last {A} (x ∷ xs) (suc k) a found last = ap (λ (rest : List A). x ∷ rest) (with_last xs k a found (omega (arith, last)))

set_back : {A : Type 0} (xs : List A) (k : ℕ) (a b : A) → slice_get xs k ≡ Some a → slice_set (slice_set xs k b) k a ≡ xs
set_back [] k a b found = refl
set_back {A} (x ∷ xs) zero a b found = ap (λ (one : A). one ∷ xs) (sym (same_Some x a found))
set_back {A} (x ∷ xs) (suc k) a b found = ap (λ (rest : List A). x ∷ rest) (set_back xs k a b found)

-- ---- cells

set_found : (test : List ℕ → Bool) (v w : Variable) (es : Variables) → lookup test es ≡ Some v → lookup test (set_value test es w) ≡ Some w
set_found test v w [] found = absurd (none-some v found)
set_found test v w (e ∷ es) found = by (test e.0) refl (set_found test v w es) found
  where
    by : (b : Bool) → test e.0 ≡ b → (lookup test es ≡ Some v → lookup test (set_value test es w) ≡ Some w)
        → cond b (Some e.1) (lookup test es) ≡ Some v → lookup test (cond b ((e.0, w) ∷ es) (e ∷ set_value test es w)) ≡ Some w
    by true is rest h = ap (λ (b : Bool). cond b (Some w) (lookup test es)) is
    by false is rest h = ap (λ (b : Bool). cond b (Some e.1) (lookup test (set_value test es w))) is ∙ rest h

set_twice : (test : List ℕ → Bool) (v w : Variable) (es : Variables) → set_value test (set_value test es w) v ≡ set_value test es v
set_twice test v w [] = refl
set_twice test v w (e ∷ es) = by (test e.0) refl (set_twice test v w es)
  where
    by : (b : Bool) → test e.0 ≡ b → set_value test (set_value test es w) v ≡ set_value test es v
        → set_value test (cond b ((e.0, w) ∷ es) (e ∷ set_value test es w)) v ≡ cond b ((e.0, v) ∷ es) (e ∷ set_value test es v)
    by true is rest = ap (λ (b : Bool). cond b ((e.0, v) ∷ es) ((e.0, w) ∷ set_value test es v)) is
    by false is rest =
        ap (λ (b : Bool). cond b ((e.0, v) ∷ set_value test es w) (e ∷ set_value test (set_value test es w) v)) is
        ∙ ap (λ (others : Variables). e ∷ others) rest

abbrev set_as : (name : List ℕ) → ℕ → Cell → Variables → Option Variable → Variables
set_as name element cell variables got =
    option_map_or (λ variable. set_value (bytes_eq name) variables (with_element element cell variable)) got variables

-- a cell of variables that holds again what it held
element_back : (name : List ℕ) (element : ℕ) (cell new : Cell) (variables : Variables) (variable : Variable)
    → variable_named name variables ≡ Some variable → slice_get variable.cells element ≡ Some cell
    → with_element_named name element cell (with_element_named name element new variables) ≡ variables
element_back name element cell new variables variable found held =
    let changed : Variable = with_element element new variable in
    let after : Variables = set_value (bytes_eq name) variables changed in
    ap (λ (got : Option Variable). with_element_named name element cell (set_as name element new variables got)) found
    ∙ ap (set_as name element cell after) (set_found (bytes_eq name) variable changed variables found)
    ∙ set_twice (bytes_eq name) (with_element element cell changed) changed variables
    ∙ ap (λ (cells : List Cell). set_value (bytes_eq name) variables (record variable { cells = cells }))
    (set_back variable.cells element cell new held)
    ∙ set_value_same (bytes_eq name) variables variable found

-- a frame with a cell set
abbrev pub set_in_frame : Location → Cell → Frame → Frame
set_in_frame location cell frame = record frame { cells = with_element_named location.name location.element cell frame.cells }

frame_back : (location : Location) (cell new : Cell) (frame : Frame)
    → option_and_then (λ (one : Variable). slice_get one.cells location.element) (variable_named location.name frame.cells) ≡ Some cell
    → set_in_frame location cell (set_in_frame location new frame) ≡ frame
frame_back location cell new frame held = by (variable_named location.name frame.cells) refl held
  where
    by : (got : Option Variable) → variable_named location.name frame.cells ≡ got
        → option_and_then (λ (one : Variable). slice_get one.cells location.element) got ≡ Some cell
        → set_in_frame location cell (set_in_frame location new frame) ≡ frame
    by None found h = absurd (none-some cell h)
    by (Some variable) found h =
        ap (λ (cells : Variables). record frame { cells = cells })
        (element_back location.name location.element cell new frame.cells variable found h)

cell_back : (location : Location) (cell new : Cell) (frames : List Frame) → cell_at frames location ≡ Some cell
    → with_cell location cell (with_cell location new frames) ≡ frames
cell_back location cell new frames held =
    changed_twice location.frame (set_in_frame location cell) (set_in_frame location new) frames
    ∙ unchanged location.frame (λ frame. set_in_frame location cell (set_in_frame location new frame)) frames
    (λ frame found.
    frame_back location cell new frame
    (ap (λ (got : Option Frame). option_and_then (λ (one : Variable). slice_get one.cells location.element)
    (option_and_then (λ (one : Frame). variable_named location.name one.cells) got)) (sym found) ∙ held))

-- ---- the newest frame

-- changes of the newest frame are changes at one number, as long as no frame comes or goes
pub newest_is : (f : Frame → Frame) (ys frames : List Frame) → length ys ≡ length frames → with_newest f ys ≡ changed_at (newest frames) f ys
newest_is f ys frames same = ap (λ (n : ℕ). changed_at (n - 1) f ys) same

newest_back : (f g : Frame → Frame) (frames : List Frame) → ((frame : Frame) → slice_get frames (newest frames) ≡ Some frame → f (g frame) ≡ frame)
    → with_newest f (with_newest g frames) ≡ frames
newest_back f g frames same =
    newest_is f (with_newest g frames) frames (changed_length (newest frames) g frames)
    ∙ changed_twice (newest frames) f g frames ∙ unchanged (newest frames) (λ frame. f (g frame)) frames same

-- a frame that stands where it stood
stands_back : (frame one : Frame) (place : PlainPlace) → Some frame ≡ Some one
    → frame_at (plain_place frame.place) (frame_at place one) ≡ one
stands_back frame one place same =
    ap (λ (other : Frame). frame_at (plain_place other.place) (frame_at place one)) (same_Some frame one same)

-- the newest frame and a cell, each changed and changed back
both_back : (f g : Frame → Frame) (location : Location) (cell new : Cell) (frames : List Frame)
    → ((frame : Frame) → set_in_frame location cell (g frame) ≡ g (set_in_frame location cell frame))
    → ((frame : Frame) → slice_get frames (newest frames) ≡ Some frame → f (g frame) ≡ frame) → cell_at frames location ≡ Some cell
    → with_newest f (with_cell location cell (with_newest g (with_cell location new frames))) ≡ frames
both_back f g location cell new frames either same held =
    let set : List Frame = with_cell location new frames in
    let k : ℕ = newest frames in
    let as_long : length set ≡ length frames = changed_length location.frame (set_in_frame location new) frames in
    ap (λ (ys : List Frame). with_newest f (with_cell location cell ys)) (newest_is g set frames as_long)
    ∙ ap (with_newest f)
    (changed_either location.frame k (set_in_frame location cell) g either set ∙ ap (changed_at k g) (cell_back location cell new frames held))
    ∙ newest_back f g frames same

-- one change of the newest frame after another is one
pub newest_twice : (f g : Frame → Frame) (frames : List Frame) → with_newest f (with_newest g frames) ≡ with_newest (λ frame. f (g frame)) frames
newest_twice f g frames =
    newest_is f (with_newest g frames) frames (changed_length (newest frames) g frames) ∙ changed_twice (newest frames) f g frames

-- ---- the acts

move_back : (frame : Frame) (next : PlainPlace) (frames : List Frame) → slice_get frames (newest frames) ≡ Some frame
    → newest_at (plain_place frame.place) (newest_at next frames) ≡ frames
move_back frame next frames top =
    newest_back (frame_at (plain_place frame.place)) (frame_at next) frames (λ one found. stands_back frame one next (sym top ∙ found))

store_back : (frame : Frame) (next : PlainPlace) (location : Location) (cell : Cell) (value : Value) (frames : List Frame)
    → slice_get frames (newest frames) ≡ Some frame → cell_at frames location ≡ Some cell
    → newest_at (plain_place frame.place) (with_cell location cell (newest_at next (with_cell location (Cell.Held value) frames))) ≡ frames
store_back frame next location cell value frames top held =
    both_back (frame_at (plain_place frame.place)) (frame_at next) location cell (Cell.Held value) frames (λ one. refl)
    (λ one found. stands_back frame one next (sym top ∙ found)) held

-- the loops of a frame with one more, which goes again
loop_gone : (kept : KeptLoop) (loops : List KeptLoop) → take (length (loops ++ kept ∷ []) - 1) (loops ++ kept ∷ []) ≡ loops
loop_gone kept loops =
    ap (λ (n : ℕ). take n (loops ++ kept ∷ []))
    (let longer : length (loops ++ kept ∷ []) ≡ length loops + 1 = length-append loops (kept ∷ []) in omega (arith, longer))
    ∙ take-append_seam loops (kept ∷ [])

enter_back : (frame : Frame) (next : PlainPlace) (location : Location) (cell : Cell) (value : Value) (kept : KeptLoop) (frames : List Frame)
    → slice_get frames (newest frames) ≡ Some frame → cell_at frames location ≡ Some cell
    → with_newest without_loop (newest_at (plain_place frame.place) (with_cell location cell
    (newest_at next (with_newest (with_loop kept) (with_cell location (Cell.Held value) frames))))) ≡ frames
enter_back frame next location cell value kept frames top held =
    let back : Frame → Frame = λ one. without_loop (frame_at (plain_place frame.place) one) in
    let on : Frame → Frame = λ one. frame_at next (with_loop kept one) in
    let set : List Frame = with_cell location (Cell.Held value) frames in
    newest_twice without_loop (frame_at (plain_place frame.place)) (with_cell location cell (newest_at next (with_newest (with_loop kept) set)))
    ∙ ap (λ (ys : List Frame). with_newest back (with_cell location cell ys)) (newest_twice (frame_at next) (with_loop kept) set)
    ∙ both_back back on location cell (Cell.Held value) frames (λ one. refl)
    (λ one found.
    ap (λ (loops : List KeptLoop). record (frame_at (plain_place frame.place) one) { loops = loops }) (loop_gone kept one.loops)
    ∙ stands_back frame one next (sym top ∙ found))
    held

-- the loops of a frame without one, which comes again
loop_again : (kept : KeptLoop) (loops : List KeptLoop) (number : ℕ) → slice_get loops number ≡ Some kept → insert (remove loops number) number kept ≡ loops
loop_again kept [] number there = absurd (none-some kept there)
loop_again kept (x ∷ loops) zero there = ap (λ (one : KeptLoop). one ∷ loops) (sym (same_Some x kept there))
loop_again kept (x ∷ loops) (suc number) there = ap (λ (rest : List KeptLoop). x ∷ rest) (loop_again kept loops number there)

finish_back : (frame : Frame) (next : PlainPlace) (location : Location) (cell : Cell) (value : Value) (number : ℕ) (kept : KeptLoop) (frames : List Frame)
    → slice_get frames (newest frames) ≡ Some frame → cell_at frames location ≡ Some cell → slice_get frame.loops number ≡ Some kept
    → with_newest (with_loop_at number kept) (newest_at (plain_place frame.place) (with_cell location cell
    (newest_at next (with_newest (without_loop_at number) (with_cell location (Cell.Held value) frames))))) ≡ frames
finish_back frame next location cell value number kept frames top held there =
    let back : Frame → Frame = λ one. with_loop_at number kept (frame_at (plain_place frame.place) one) in
    let on : Frame → Frame = λ one. frame_at next (without_loop_at number one) in
    let set : List Frame = with_cell location (Cell.Held value) frames in
    newest_twice (with_loop_at number kept) (frame_at (plain_place frame.place)) (with_cell location cell (newest_at next (with_newest (without_loop_at number) set)))
    ∙ ap (λ (ys : List Frame). with_newest back (with_cell location cell ys)) (newest_twice (frame_at next) (without_loop_at number) set)
    ∙ both_back back on location cell (Cell.Held value) frames (λ one. refl)
    (λ one found.
    ap (λ (loops : List KeptLoop). record (frame_at (plain_place frame.place) one) { loops = loops })
    (loop_again kept one.loops number (ap (λ (other : Frame). slice_get other.loops number) (same_Some one frame (sym found ∙ top)) ∙ there))
    ∙ stands_back frame one next (sym top ∙ found))
    held

-- frames without one that was put behind them
newest_gone : (frames : List Frame) (frame : Frame) → without_newest (frames ++ frame ∷ []) ≡ frames
newest_gone frames frame =
    ap (λ (n : ℕ). take n (frames ++ frame ∷ []))
    (let longer : length (frames ++ frame ∷ []) ≡ length frames + 1 = length-append frames (frame ∷ []) in omega (arith, longer))
    ∙ take-append_seam frames (frame ∷ [])

call_back : (frame called : Frame) (frames : List Frame) → slice_get frames (newest frames) ≡ Some frame
    → newest_at (plain_place frame.place) (without_newest (with_newest frame_waiting frames ++ called ∷ [])) ≡ frames
call_back frame called frames top =
    ap (newest_at (plain_place frame.place)) (newest_gone (with_newest frame_waiting frames) called)
    ∙ newest_back (frame_at (plain_place frame.place)) frame_waiting frames
    (λ one found. ap (λ (other : Frame). frame_at (plain_place other.place) (frame_waiting one)) (same_Some frame one (sym top ∙ found)))

leave_back : (frame caller : Frame) (next : PlainPlace) (frames : List Frame) → slice_get frames (newest frames) ≡ Some frame
    → caller_of frames ≡ Some caller → newest_at (plain_place caller.place) (newest_at next (without_newest frames)) ++ frame ∷ [] ≡ frames
leave_back frame caller next frames top below =
    let within = slice_get_within frames (newest frames) frame top in
    ap (λ (ys : List Frame). ys ++ frame ∷ []) (move_back caller next (without_newest frames) below)
    ∙ with_last frames (newest frames) frame top (omega (arith, within))

-- ---- the law

in_frame : (act : Act) (next : PlainPlace) (frame : Frame) (c : PlainConfiguration) → slice_get c.frames (newest c.frames) ≡ Some frame
    → HasPartsFor act frame c → step_undone (undo_in_frame act frame c) (done act next c) ≡ c
in_frame Act.pass next frame c top parts = ap (λ (frames : List Frame). record c { frames = frames }) (move_back frame next c.frames top)
in_frame (Act.store location value) next frame c top parts =
    let held = known (cell_at c.frames location) parts in
    ap (λ (got : Option Cell). step_undone (option_map_or (Undo.Stored frame.place location) got Undo.Empty) (done (Act.store location value) next c)) held.1
    ∙ ap (λ (frames : List Frame). record c { frames = frames }) (store_back frame next location held.0 value c.frames top held.1)
in_frame (Act.enter location value kept) next frame c top parts =
    let held = known (cell_at c.frames location) parts in
    ap (λ (got : Option Cell). step_undone (option_map_or (Undo.Entered frame.place location) got Undo.Empty) (done (Act.enter location value kept) next c)) held.1
    ∙ ap (λ (frames : List Frame). record c { frames = frames }) (enter_back frame next location held.0 value kept c.frames top held.1)
in_frame (Act.finish location value number) next frame c top parts =
    let held = known (cell_at c.frames location) parts.0 in
    let left = known (slice_get frame.loops number) parts.1 in
    ap (λ (got : Option Cell).
    step_undone
    (option_map_or (λ cell. option_map_or (λ kept. Undo.Finished frame.place location cell kept number) (slice_get frame.loops number) Undo.Empty) got Undo.Empty)
    (done (Act.finish location value number) next c)) held.1
    ∙ ap (λ (got : Option KeptLoop).
    step_undone (option_map_or (λ kept. Undo.Finished frame.place location held.0 kept number) got Undo.Empty) (done (Act.finish location value number) next c)) left.1
    ∙ ap (λ (frames : List Frame). record c { frames = frames }) (finish_back frame next location held.0 value number left.0 c.frames top held.1 left.1)
in_frame (Act.read location value count) next frame c top parts =
    let held = known (cell_at c.frames location) parts in
    ap (λ (got : Option Cell). step_undone (option_map_or (λ cell. Undo.Read frame.place location cell c.taken) got Undo.Empty) (done (Act.read location value count) next c)) held.1
    ∙ ap (λ (frames : List Frame). record c { frames = frames }) (store_back frame next location held.0 value c.frames top held.1)
in_frame (Act.write output) next frame c top parts =
    ap (λ (frames : List Frame). record { frames = frames; taken = c.taken; output = take (length c.output) output }) (move_back frame next c.frames top)
    ∙ ap (λ (written : List ℕ). record c { output = written }) parts
in_frame (Act.call called) next frame c top parts =
    ap (λ (frames : List Frame). record c { frames = frames }) (call_back frame (frame_at next called) c.frames top)
in_frame Act.leave next frame c top some =
    let below = known (caller_of c.frames) some in
    ap (λ (got : Option Frame). step_undone (option_map_or (λ one. Undo.Left one.place frame) got Undo.Empty) (done Act.leave next c)) below.1
    ∙ ap (λ (frames : List Frame). record c { frames = frames }) (leave_back frame below.0 next c.frames top below.1)

pub steps_taken_back : StepsTakenBack
steps_taken_back act next c (frame, top, parts) =
    ap (λ (got : Option Frame). step_undone (option_map_or (λ one. undo_in_frame act one c) got Undo.Empty) (done act next c)) top
    ∙ in_frame act next frame c top parts
