-- How a step ends: its act is done where only jumps come before the next place, and its answer is that of the act.
use Rattle.std.specs.Prelude.{◌≡◌, refl, ℕ, zero, suc, ◌+◌, ◌-◌, ◌<◌, List, [], ◌∷◌, length, slice_get, slice_set, take, Option, Some, None, IsSome, is_some, option_and_then, option_map}
use Rattle.std.specs.Option.{option_map_or}
use Rattle.std.proofs.Common.{ap, sym, ◌∙◌, arith}
use Rattle.std.proofs.Math.Bool.{false≢true}
use Rattle.std.proofs.lemmas.List.{length-take-le}
use Rattle.plcs_base.specs.declared.place.Place.{Place}
use Rattle.plcs_code.specs.PlainInstr.{PlainInstr}
use Rattle.template_tree.specs.Positions.Place.{place_at}
use Rattle.plcs_store.specs.declared.frame.Frame.{Frame}
use Rattle.plcs_store.specs.Act.{Act, frame_waiting, newest_at, with_newest, without_newest}
use Rattle.plcs_store.specs.CellAt.{newest}
use Rattle.plcs_store.specs.Configuration.{PlainConfiguration, frame_at, plain_place, top_place}
use Rattle.plcs_store.specs.Undone.{Allows, HasPartsFor, caller_of, newest_frame}
use Rattle.plcs_machine.specs.declared.step_act.StepAct.{StepAct}
use Rattle.plcs_machine.specs.Fetched.{Fetched, behind_one, fetches_of, result_of, with_result}
use Rattle.plcs_machine.specs.Lead.{jump_target}
use Rattle.plcs_machine.specs.Passing.{Landing, Making, Passing, passed, passing_of, settle}
use Rattle.plcs_machine.specs.Private.DoableLead.{ActsOn}
use Rattle.plcs_machine.specs.Private.PlainLed.{plain_act}
use Rattle.plcs_machine.proofs.NotedActs.{StandsAt, stands_at}

-- ---- where no frame is made, the frames play no part

passed_apart : (frames : List Frame) (next : ℕ) (go other : ℕ → Option Making → Option (Fetched Landing)) → ((to : ℕ) → go to None ≡ other to None)
    → (passing : Passing) → passed frames next None go passing ≡ passed [] next None other passing
passed_apart frames next go other same (Passing.lands place) = refl
passed_apart frames next go other same (Passing.jumps d) = ap (option_map behind_one) (by (jump_target next d))
  where
    by : (to : Option ℕ) → option_and_then (λ target. go target None) to ≡ option_and_then (λ target. other target None) to
    by None = refl
    by (Some target) = same target
passed_apart frames next go other same (Passing.takes name ty) = refl
passed_apart frames next go other same (Passing.makes name ty size) = refl

pub settled_apart : (frames : List Frame) (instrs : List PlainInstr) (fetches address : ℕ)
    → settle frames instrs fetches address None ≡ settle [] instrs fetches address None
settled_apart frames instrs zero address = refl
settled_apart frames instrs (suc fetches) address =
    by (λ to. settled_apart frames instrs fetches to) (option_and_then passing_of (slice_get instrs address))
  where
    by : ((to : ℕ) → settle frames instrs fetches to None ≡ settle [] instrs fetches to None) → (passing : Option Passing)
        → option_and_then (passed frames (address + 1) None (settle frames instrs fetches)) passing
        ≡ option_and_then (passed [] (address + 1) None (settle [] instrs fetches)) passing
    by same None = refl
    by same (Some passing) = passed_apart frames (address + 1) (settle frames instrs fetches) (settle [] instrs fetches) same passing

-- ---- the answer behind where a step ends

-- what is made of a result behind one instruction
abbrev pub answered_by : {A : Type 0} → (Landing → A) → Option (Fetched Landing) → Option (Fetched A)
answered_by make landed = option_map (λ one. behind_one (with_result make one)) landed

pub answered_result : {A : Type 0} (make : Landing → A) (landed : Option (Fetched Landing)) (at : Landing) → result_of landed ≡ Some at
    → result_of (answered_by make landed) ≡ Some (make at)
answered_result make None at is = absurd (false≢true (ap (λ (o : Option Landing). is_some o) is))
answered_result make (Some one) at is = ap (option_map make) is

pub answered_fetches : {A : Type 0} (make : Landing → A) (landed : Option (Fetched Landing)) → IsSome landed
    → fetches_of (answered_by make landed) - 1 ≡ fetches_of landed
answered_fetches make None there = absurd (false≢true there)
answered_fetches make (Some one) there = omega arith

pub answered_there : {A : Type 0} (make : Landing → A) (landed : Option (Fetched Landing)) → IsSome (answered_by make landed) → IsSome landed
answered_there make None there = there
answered_there make (Some one) there = refl

-- ---- acts that are allowed

-- what an act writes stands behind what was written before
abbrev pub WritesBehind : (output : List ℕ) → Act → Type 0
WritesBehind before Act.pass = Unit {0}
WritesBehind before (Act.store location value) = Unit {0}
WritesBehind before (Act.enter location value kept) = Unit {0}
WritesBehind before (Act.finish location value number) = Unit {0}
WritesBehind before (Act.read location value count) = Unit {0}
WritesBehind before (Act.write output) = take (length before) output ≡ before
WritesBehind before (Act.call frame) = Unit {0}
WritesBehind before Act.leave = Unit {0}

-- an act of the code writes nothing
pub plain_writes : (before : List ℕ) (act : StepAct) → WritesBehind before (plain_act act)
plain_writes before (StepAct.Store location value) = tt
plain_writes before (StepAct.Enter location value kept) = tt
plain_writes before (StepAct.Finish location value number) = tt
plain_writes before StepAct.Leave = tt

module _ (c : PlainConfiguration) (place : Place) (at : top_place c.frames ≡ Some (plain_place place)) where
  -- there is a frame below the newest of more than one
  caller_there : 1 < length c.frames → IsSome (caller_of c.frames)
  caller_there more = below c.frames more
    where
      last_there : (frames : List Frame) (k : ℕ) → k < length frames → IsSome (slice_get frames k)
      last_there [] k low = absurd (omega (arith, low))
      last_there (frame ∷ frames) zero low = refl
      last_there (frame ∷ frames) (suc k) low = last_there frames k (omega (arith, low))

      below : (frames : List Frame) → 1 < length frames → IsSome (caller_of frames)
      below frames more =
          let fewer : length (without_newest frames) ≡ length frames - 1 = length-take-le (length frames - 1) frames (omega arith) in
          last_there (without_newest frames) (newest (without_newest frames)) (omega (arith, fewer, more))

  -- an act that can be done is allowed, where what is written stands behind what was
  pub act_allowed : (act : Act) → ActsOn c.frames act → WritesBehind c.output act → Allows act c
  act_allowed act can writes =
      let top = stands_at place (newest_frame c.frames) at in
      (top.frame, top.there, by act can writes top.frame top.there)
    where
      by : (act : Act) → ActsOn c.frames act → WritesBehind c.output act → (frame : Frame) → newest_frame c.frames ≡ Some frame
          → HasPartsFor act frame c
      by Act.pass can writes frame there = tt
      by (Act.store location value) can writes frame there = can
      by (Act.enter location value kept) can writes frame there = can.0
      by (Act.finish location value number) can writes frame there =
          (can.0, ap (λ (o : Option Frame). is_some (option_and_then (λ one. slice_get one.loops number) o)) (sym there) ∙ can.1)
      by (Act.read location value count) can writes frame there = can
      by (Act.write output) can writes frame there = writes
      by (Act.call made) can writes frame there = tt
      by Act.leave can writes frame there = caller_there can

  -- ---- a call

  -- the newest frame waits where it stands at the point behind its call
  waits_at : (frames : List Frame) (k : ℕ) (found : Option Frame) → StandsAt place found → (waits : Place) → waits ≡ record { slot = place.slot; point = record { 0 = 1 } }
      → option_map_or (λ frame. slice_set frames k (frame_at (plain_place waits) frame)) found frames
      ≡ option_map_or (λ frame. slice_set frames k (frame_waiting frame)) found frames
  waits_at frames k found top waits is =
      ap (λ (o : Option Frame). option_map_or (λ frame. slice_set frames k (frame_at (plain_place waits) frame)) o frames) top.there
      ∙ ap (λ (p : Place). slice_set frames k (frame_at (plain_place p) top.frame)) is
      ∙ ap (λ (p : Place). slice_set frames k (frame_at (place_at p.slot.0 1) top.frame)) (sym top.placed)
      ∙ sym (ap (λ (o : Option Frame). option_map_or (λ frame. slice_set frames k (frame_waiting frame)) o frames) top.there)

  pub caller_waits : (waits : Place) → waits ≡ record { slot = place.slot; point = record { 0 = 1 } }
      → newest_at (plain_place waits) c.frames ≡ with_newest frame_waiting c.frames
  caller_waits waits is = waits_at c.frames (newest c.frames) (newest_frame c.frames) (stands_at place (newest_frame c.frames) at) waits is
