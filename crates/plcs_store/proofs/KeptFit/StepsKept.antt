-- `steps_keep_fit`: what stands at the place of the newest frame names places where the run may go on. What the step
-- does leaves the loops of these places, values of their kinds and references to lower frames, so that the frames fit
-- again.
use Rattle.std.specs.Prelude.{◌≡◌, refl, ℕ, suc, ℤ, ◌+◌, ◌-◌, ◌+ℤ◌, ◌<◌, ◌≤◌, nat_le, Bool, true, false, if◌then◌else◌, List, [], ◌∷◌, ◌++◌, drop, length, slice_get, Option, Some, None, option_and_then, option_map}
use Rattle.std.specs.List.{AllByRecursion}
use Rattle.std.proofs.Common.{ap, sym, ◌∙◌, subst, arith}
use Rattle.std.proofs.lemmas.Bool.{leb-false}
use Rattle.plcs_base.specs.declared.declared.Declared.{Declared}
use Rattle.plcs_base.specs.declared.value.Value.{Value}
use Rattle.plcs_grammar.specs.PlainPhrase.{PlainExpr, PlainExprs, PlainVarRef}
use Rattle.template_tree.specs.Positions.Place.{PlainPlace, Site, place_at, site}
use Rattle.template_tree.specs.Programs.PlainTree.{Forest, PlainTree}
use Rattle.template_tree.specs.Programs.Tree.{IsTree}
use Rattle.tree_steps.specs.RunPlace.{is_first_marked}
use Rattle.tree_steps.specs.StandingSlot.{Around, StandsInside, outermost_slot}
use Rattle.template_tree.specs.Checks.Marks.{is_phrase_marked}
use Rattle.plcs_store.specs.declared.argument.Argument.{Argument}
use Rattle.plcs_store.specs.declared.cell.Location.{Location}
use Rattle.plcs_store.specs.declared.fault_kind.FaultKind.{FaultKind}
use Rattle.plcs_store.specs.declared.frame.Frame.{Frame}
use Rattle.plcs_store.specs.declared.kept_loop.KeptLoop.{KeptLoop}
use Rattle.plcs_store.specs.Act.{Act, done}
use Rattle.plcs_store.specs.CellAt.{Variables, located, newest, value_at, variable_at}
use Rattle.plcs_store.specs.Configuration.{PlainConfiguration, frame_at, frame_place}
use Rattle.plcs_store.specs.ExpressionValue.{argument_values, expression_value, expression_values, name_of_reference, reference_location, subscript_value}
use Rattle.plcs_store.specs.Fits.{AreVariables, loops_at}
use Rattle.plcs_store.specs.InputItem.{next_item}
use Rattle.plcs_store.specs.Limit.{most_frames, most_output}
use Rattle.plcs_store.specs.LoopOfSlot.{NumberedLoop, newest_loop}
use Rattle.plcs_store.specs.NewFrame.{new_frame, other_variables, parameter_variables}
use Rattle.plcs_store.specs.Operator.{fixed_value, on_bit, on_number}
use Rattle.plcs_store.specs.Outcome.{Outcome, faults, if_there, then_gives}
use Rattle.plcs_store.specs.OutputItem.{output_with}
use Rattle.plcs_store.specs.Spot.{Callee, Spot, callee_named, site_spot, spot_at}
use Rattle.plcs_store.specs.Step.{Going, PlainStepAnswer, assignment_act, begin_going, call_going, called_frame, caller_place, enter_going, entry_going, going_on, is_over, item_outcome, iteration_going, loop_going, output_act, read_act, spot_answer, step_answer, storing, test_going, waits_for, write_act}
use Rattle.plcs_store.specs.StepLaws.{StepsKeepFit}
use Rattle.plcs_store.proofs.KeptFit.Arguments.{IsFinalArgument, arguments_final}
use Rattle.plcs_store.proofs.KeptFit.Callees.{IsCallee}
use Rattle.plcs_store.proofs.KeptFit.DoneActs.{entered, finished, makes_storing, passed, slots_of, stored}
use Rattle.plcs_store.proofs.KeptFit.FittingFrames.{FrameFits, FramesFit, fits_with, fitting_frames, frame_fits}
use Rattle.plcs_store.proofs.KeptFit.FollowingPlaces.{Follows, site_follows}
use Rattle.plcs_store.proofs.KeptFit.GoingOn.{GoesOn, MayStand, SiteLaws, Sited, sited}
use Rattle.plcs_store.proofs.KeptFit.MovedFrames.{frames_called, frames_left}
use Rattle.plcs_store.proofs.KeptFit.Outcomes.{Makes, WhenThere, makes_bit, makes_follow, makes_number, makes_then, makes_there, there_follow}
use Rattle.plcs_store.proofs.KeptFit.Parameters.{AreParameters, are_parameters, called_right, called_variables}
use Rattle.plcs_store.proofs.KeptFit.StoredValues.{MayKeep}
use Rattle.plcs_store.proofs.LoopsOfSlots.{newest_kept}

-- ---- what a step leads to

-- it holds of the configuration that the answer leads to, if it leads to one
abbrev Leads : (F : PlainConfiguration → Type 0) → Option PlainStepAnswer → Type 0
Leads F None = Unit {0}
Leads F (Some (PlainStepAnswer.stepped d)) = F d
Leads F (Some (PlainStepAnswer.stopped reason)) = Unit {0}
Leads F (Some PlainStepAnswer.ended) = Unit {0}

answer_leads : (F : PlainConfiguration → Type 0) (c : PlainConfiguration) (outcome : Outcome Going)
    → Makes (λ going. F (done going.0 going.1 c)) outcome → Leads F (step_answer c outcome)
answer_leads F c (Outcome.gives going) holds = holds
answer_leads F c (Outcome.stops reason) holds = tt
answer_leads F c Outcome.undefined holds = tt

map_leads : (F : PlainConfiguration → Type 0) (make : PlainPlace → PlainConfiguration) (found : Option PlainPlace)
    → WhenThere (λ next. F (make next)) found → Leads F (option_map (λ next. PlainStepAnswer.stepped (make next)) found)
map_leads F make None holds = tt
map_leads F make (Some next) holds = holds

then_leads : (F : PlainConfiguration → Type 0) (P : Spot → Type 0) (answer : Spot → Option PlainStepAnswer) (found : Option Spot) → WhenThere P found
    → ((spot : Spot) → P spot → Leads F (answer spot)) → Leads F (option_and_then answer found)
then_leads F P answer None holds next = tt
then_leads F P answer (Some spot) holds next = next spot holds

makes_on : {A B : Type 0} (F : A × B → Type 0) (b : B) (part : Outcome A) → Makes (λ a. F (a, b)) part
    → Makes F (then_gives part (λ a. Outcome.gives (a, b)))
makes_on F b part holds = makes_follow (λ a. F (a, b)) F (λ a. Outcome.gives (a, b)) part holds (λ a h. h)

-- ---- the places that follow a frame's

module _ (laws : SiteLaws) (tree : PlainTree) (is : IsTree tree) where
  -- what stands at the place of a frame that fits is followed by places that are right
  spot_follows : (frame : Frame) (waits : Bool) → FrameFits tree.items waits frame
      → WhenThere (Follows tree.items frame.procedure.0 (slots_of frame.loops) frame.place.slot.0) (spot_at tree.items (frame_place frame))
  spot_follows frame waits fit = by (site tree.items slot) refl
    where
      program : Forest
      program = tree.items

      slot : ℕ
      slot = frame.place.slot.0

      point : ℕ
      point = frame.place.point.0

      by : (got : Option Site) → site tree.items slot ≡ got
          → WhenThere (Follows tree.items frame.procedure.0 (slots_of frame.loops) slot)
          (option_and_then (λ found. site_spot (is_phrase_marked tree.items slot) (callee_named tree.items) found point) got)
      by None there = tt
      by (Some found) there =
          let own : found.label.slot ≡ slot = (laws.found program slot found there).0 in
          let sits : Sited program found = sited laws program is.once slot found is.program.sound is.program.listed there in
          let stands : StandsInside program slot found.label.kind sits.around =
          subst (λ (s : ℕ). StandsInside program s found.label.kind sits.around) own sits.stands in
          let around : Around = fit.stands.1 in
          let same =
          laws.once program slot found.label.kind fit.stands.0 sits.around around (is.once slot) stands fit.stands.2.stands in
          let procedure : outermost_slot found.label.slot sits.around ≡ frame.procedure.0 =
          ap (λ (s : ℕ). outermost_slot s sits.around) own ∙ ap (outermost_slot slot) same.1 ∙ fit.stands.2.procedure in
          let loops : loops_at found.label.kind sits.around (place_at found.label.slot point) ≡ slots_of frame.loops =
          ap (λ (s : ℕ). loops_at found.label.kind sits.around (place_at s point)) own ∙ sym (fit.loops found.label.kind sits.around stands) in
          let spot : Option Spot = site_spot (is_phrase_marked program slot) (callee_named program) found point in
          subst (λ (s : ℕ). WhenThere (Follows program frame.procedure.0 (slots_of frame.loops) s) spot) own
          (subst (λ (kept : List ℕ). WhenThere (Follows program frame.procedure.0 kept found.label.slot) spot) loops
          (subst
          (λ (home : ℕ). WhenThere (Follows program home (loops_at found.label.kind sits.around (place_at found.label.slot point)) found.label.slot) spot)
          procedure
          (site_follows laws program is.once (is_phrase_marked program slot) found sits (ap (site program) own ∙ there)
          (ap (is_first_marked program) (sym own)) point)))

  -- ---- the step of a frame

  module _ (input : List ℕ) (c : PlainConfiguration) (frame : Frame) (fit : FramesFit tree.items c.frames)
      (newest_there : slice_get c.frames (newest c.frames) ≡ Some frame) where
    -- a configuration has frames that fit
    abbrev Fitting : PlainConfiguration → Type 0
    Fitting d = FramesFit tree.items d.frames

    -- an act leads to frames that fit
    abbrev Keeps : Going → Type 0
    Keeps going = FramesFit tree.items (done going.0 going.1 c).frames

    -- a run may go on there, with these loops
    abbrev Goes : List ℕ → PlainPlace → Type 0
    Goes loops next = GoesOn tree.items frame.procedure.0 loops next

    assigned : (target : PlainVarRef) (expression : PlainExpr) (next : PlainPlace) → Goes (slots_of frame.loops) next
        → Makes (λ act. Keeps (act, next)) (assignment_act c.frames target expression)
    assigned target expression next goes =
        let F : Act → Type 0 = λ act. Keeps (act, next) in
        makes_then F
        (λ subscript.
        then_gives (expression_value c.frames expression) (λ value.
        then_gives (located c.frames (name_of_reference target) subscript) (λ location. storing c.frames location value (Act.store location))))
        (subscript_value c.frames target)
        (λ subscript.
        makes_then F
        (λ value. then_gives (located c.frames (name_of_reference target) subscript) (λ location. storing c.frames location value (Act.store location)))
        (expression_value c.frames expression)
        (λ value.
        makes_then F (λ location. storing c.frames location value (Act.store location)) (located c.frames (name_of_reference target) subscript)
        (λ location.
        makes_storing F c.frames location value (Act.store location)
        (λ kept may. stored laws tree.items is.once c.frames frame fit newest_there next location kept may goes))))

    either_passed : (b : Bool) (inside other : PlainPlace) → Goes (slots_of frame.loops) inside → Goes (slots_of frame.loops) other
        → Keeps (Act.pass, if b then inside else other)
    either_passed true inside other one two = passed laws tree.items is.once c.frames frame fit newest_there inside one
    either_passed false inside other one two = passed laws tree.items is.once c.frames frame fit newest_there other two

    tested : (condition : PlainExpr) (inside other : PlainPlace) → Goes (slots_of frame.loops) inside → Goes (slots_of frame.loops) other
        → Makes Keeps (test_going c.frames condition inside other)
    tested condition inside other one two =
        let make : Bool → Outcome Going = λ b. Outcome.gives (Act.pass, if b then inside else other) in
        makes_then Keeps (on_bit make) (expression_value c.frames condition)
        (λ value. makes_bit Keeps make value (λ b. either_passed b inside other one two))

    entry_level : (over : Bool) (kept : KeptLoop) (location : Location) (value : Value) (inside after : PlainPlace) → MayKeep c.frames location value
        → Goes (slots_of frame.loops ++ kept.slot.0 ∷ []) inside → Goes (slots_of frame.loops) after
        → Keeps (if over then (Act.store location value, after) else (Act.enter location value kept, inside))
    entry_level true kept location value inside after may one two =
        stored laws tree.items is.once c.frames frame fit newest_there after location value may two
    entry_level false kept location value inside after may one two =
        entered laws tree.items is.once c.frames frame fit newest_there inside location value kept may one

    entry_kept : (kept : KeptLoop) (name : List ℕ) (first : ℤ) (inside after : PlainPlace) → Goes (slots_of frame.loops ++ kept.slot.0 ∷ []) inside
        → Goes (slots_of frame.loops) after → Makes Keeps (then_gives (located c.frames name None) (λ location. entry_going c.frames kept location first inside after))
    entry_kept kept name first inside after one two =
        let make : Location → Value → Going =
        λ location value.
        if is_over kept.limit kept.step first then (Act.store location value, after) else (Act.enter location value kept, inside) in
        makes_then Keeps (λ location. storing c.frames location (Value.Fixed first) (make location)) (located c.frames name None)
        (λ location.
        makes_storing Keeps c.frames location (Value.Fixed first) (make location)
        (λ value may. entry_level (is_over kept.limit kept.step first) kept location value inside after may one two))

    begun : (slot : ℕ) (name : List ℕ) (first limit step : PlainExpr) (inside after : PlainPlace) → Goes (slots_of frame.loops ++ slot ∷ []) inside
        → Goes (slots_of frame.loops) after → Makes Keeps (begin_going c.frames slot name first limit step inside after)
    begun slot name first limit step inside after one two =
        let at_step : ℤ → ℤ → ℤ → Outcome Going =
        λ a b s.
        then_gives (located c.frames name None) (λ location. entry_going c.frames record { slot = record { 0 = slot }; limit = b; step = s } location a inside after) in
        let at_limit : ℤ → ℤ → Outcome Going = λ a b. then_gives (expression_value c.frames step) (on_number (at_step a b)) in
        let at_first : ℤ → Outcome Going = λ a. then_gives (expression_value c.frames limit) (on_number (at_limit a)) in
        makes_then Keeps (on_number at_first) (expression_value c.frames first)
        (λ one_value.
        makes_number Keeps at_first one_value
        (λ a.
        makes_then Keeps (on_number (at_limit a)) (expression_value c.frames limit)
        (λ two_value.
        makes_number Keeps (at_limit a) two_value
        (λ b.
        makes_then Keeps (on_number (at_step a b)) (expression_value c.frames step)
        (λ three_value.
        makes_number Keeps (at_step a b) three_value
        (λ s. entry_kept record { slot = record { 0 = slot }; limit = b; step = s } name a inside after one two))))))

    loop_level : (over : Bool) (location : Location) (value : Value) (number slot : ℕ) (outer : List ℕ) (inside after : PlainPlace)
        → MayKeep c.frames location value → number ≡ length frame.loops - 1 → slots_of frame.loops ≡ outer ++ slot ∷ []
        → Goes (slots_of frame.loops) inside → Goes outer after
        → Keeps (if over then (Act.finish location value number, after) else (Act.store location value, inside))
    loop_level true location value number slot outer inside after may last same one two =
        finished laws tree.items is.once c.frames frame fit newest_there after location value number outer slot may last same two
    loop_level false location value number slot outer inside after may last same one two =
        stored laws tree.items is.once c.frames frame fit newest_there inside location value may one

    iterated : (slot : ℕ) (name : List ℕ) (outer : List ℕ) (inside after : PlainPlace) → slots_of frame.loops ≡ outer ++ slot ∷ []
        → Goes (slots_of frame.loops) inside → Goes outer after → Makes Keeps (iteration_going c.frames slot name inside after)
    iterated slot name outer inside after same one two =
        let IsLast : NumberedLoop → Type 0 = λ found. found.0 ≡ length frame.loops - 1 in
        let (kept, there, newest_is) = newest_kept c.frames frame outer slot newest_there same in
        let at_sum : NumberedLoop → Location → ℤ → Outcome Going = λ found location sum. loop_going c.frames found.0 found.1 location sum inside after in
        let at_value : NumberedLoop → Location → ℤ → Outcome Going =
        λ found location z. then_gives (fixed_value (z +ℤ found.1.step)) (on_number (at_sum found location)) in
        let at_location : NumberedLoop → Location → Outcome Going =
        λ found location. then_gives (value_at c.frames location) (on_number (at_value found location)) in
        makes_follow IsLast Keeps (λ found. then_gives (located c.frames name None) (at_location found)) (if_there (newest_loop slot c.frames))
        (makes_there IsLast (newest_loop slot c.frames) (subst (WhenThere IsLast) (sym newest_is) refl))
        (λ found last.
        makes_then Keeps (at_location found) (located c.frames name None)
        (λ location.
        makes_then Keeps (on_number (at_value found location)) (value_at c.frames location)
        (λ now.
        makes_number Keeps (at_value found location) now
        (λ z.
        makes_then Keeps (on_number (at_sum found location)) (fixed_value (z +ℤ found.1.step))
        (λ later.
        makes_number Keeps (at_sum found location) later
        (λ sum.
        makes_storing Keeps c.frames location (Value.Fixed sum)
        (λ value.
        if is_over found.1.limit found.1.step sum then (Act.finish location value found.0, after) else (Act.store location value, inside))
        (λ value may.
        loop_level (is_over found.1.limit found.1.step sum) location value found.0 slot outer inside after may last same one two)))))))

    read : (target : PlainVarRef) (next : PlainPlace) → Goes (slots_of frame.loops) next
        → Makes (λ act. Keeps (act, next)) (read_act c.frames (drop c.taken input) target)
    read target next goes =
        let F : Act → Type 0 = λ act. Keeps (act, next) in
        let rest : List ℕ = drop c.taken input in
        makes_then F
        (λ location.
        then_gives (if_there (variable_at c.frames location.frame location.name)) (λ variable.
        then_gives (item_outcome (next_item variable.ty rest)) (λ found.
        storing c.frames location found.0 (λ value. Act.read location value found.1))))
        (reference_location c.frames target)
        (λ location.
        makes_then F
        (λ variable.
        then_gives (item_outcome (next_item variable.ty rest)) (λ found.
        storing c.frames location found.0 (λ value. Act.read location value found.1)))
        (if_there (variable_at c.frames location.frame location.name))
        (λ variable.
        makes_then F (λ found. storing c.frames location found.0 (λ value. Act.read location value found.1)) (item_outcome (next_item variable.ty rest))
        (λ found.
        makes_storing F c.frames location found.0 (λ value. Act.read location value found.1)
        (λ value may. stored laws tree.items is.once c.frames frame fit newest_there next location value may goes))))

    output_level : (fits : Bool) (output : List ℕ) (next : PlainPlace) → Goes (slots_of frame.loops) next
        → Makes (λ act. Keeps (act, next)) (if fits then Outcome.gives (Act.write output) else faults FaultKind.OutputLimit)
    output_level true output next goes = passed laws tree.items is.once c.frames frame fit newest_there next goes
    output_level false output next goes = tt

    written : (skip : Bool) (expressions : PlainExprs) (next : PlainPlace) → Goes (slots_of frame.loops) next
        → Makes (λ act. Keeps (act, next)) (write_act c.frames c.output skip expressions)
    written skip expressions next goes =
        makes_then (λ act. Keeps (act, next)) (λ values. output_act (output_with skip c.output values)) (expression_values c.frames expressions)
        (λ values. output_level (nat_le (length (output_with skip c.output values)) most_output) (output_with skip c.output values) next goes)

    -- ---- calls and returns

    frame_called : (callee : Callee) (parameters : Variables) → IsCallee tree.items callee → length c.frames + 1 ≤ most_frames
        → MayStand tree.items true frame.procedure.0 (slots_of frame.loops) (place_at frame.place.slot.0 1)
        → AreParameters c.frames callee.items callee.parameters parameters
        → Keeps (Act.call (new_frame callee.slot callee.start (parameters ++ other_variables callee.parameters callee.items)), callee.start)
    frame_called callee parameters calls room waits are =
        let variables : Variables = parameters ++ other_variables callee.parameters callee.items in
        let new : Frame = new_frame callee.slot callee.start variables in
        frames_called laws tree.items is.once c.frames frame (frame_at callee.start new) fit newest_there room waits (
          frame_fits laws tree.items false new is.once calls.start
              (subst (λ (items : List Declared). AreVariables items variables) (sym calls.items)
              (called_variables c.frames callee.items callee.parameters parameters are calls.distinct calls.parameters)),
          calls.start.start,
        )
        (λ element name variable cell found held.
        called_right c.frames callee.items callee.parameters parameters are name element variable cell found held)

    call_level : (full : Bool) (callee : Callee) (arguments : List Argument) → nat_le most_frames (length c.frames) ≡ full → IsCallee tree.items callee
        → MayStand tree.items true frame.procedure.0 (slots_of frame.loops) (place_at frame.place.slot.0 1)
        → AllByRecursion (IsFinalArgument c.frames) arguments
        → Makes Keeps
        (if full then faults FaultKind.CallDepth
        else then_gives (if_there (called_frame c.frames callee arguments)) (λ new. Outcome.gives (Act.call new, callee.start)))
    call_level true callee arguments full calls waits are = tt
    call_level false callee arguments full calls waits are =
        let fewer = leb-false most_frames (length c.frames) full in
        let P : Frame → Type 0 = λ new. Keeps (Act.call new, callee.start) in
        makes_follow P Keeps (λ new. Outcome.gives (Act.call new, callee.start)) (if_there (called_frame c.frames callee arguments))
        (makes_there P (called_frame c.frames callee arguments)
        (there_follow (AreParameters c.frames callee.items callee.parameters) P
        (λ parameters. new_frame callee.slot callee.start (parameters ++ other_variables callee.parameters callee.items))
        (parameter_variables c.frames callee.items callee.parameters arguments)
        (are_parameters c.frames callee.items callee.parameters arguments are)
        (λ parameters made. frame_called callee parameters calls (omega (arith, fewer)) waits made)))
        (λ new h. h)

    called : (callee : Callee) (arguments : PlainExprs) → IsCallee tree.items callee
        → MayStand tree.items true frame.procedure.0 (slots_of frame.loops) (place_at frame.place.slot.0 1)
        → Makes Keeps (call_going c.frames callee arguments)
    called callee arguments calls waits =
        makes_follow (AllByRecursion (IsFinalArgument c.frames)) Keeps (enter_going c.frames callee) (argument_values c.frames arguments)
        (arguments_final c.frames arguments fit.some fit.values)
        (λ values are. call_level (nat_le most_frames (length c.frames)) callee values refl calls waits are)

    -- where the frame below goes on
    goes_back : (caller : Frame) → slice_get c.frames (newest c.frames - 1) ≡ Some caller → 2 ≤ length c.frames → (spot : Spot)
        → Follows tree.items caller.procedure.0 (slots_of caller.loops) caller.place.slot.0 spot
        → WhenThere (λ next. Fitting (done Act.leave next c)) (waits_for spot)
    goes_back caller there two (Spot.waits next) follows = frames_left laws tree.items is.once c.frames caller next fit two there follows
    goes_back caller there two other follows = tt

    back_level : (got : Option Frame) → slice_get c.frames (newest c.frames - 1) ≡ got → 2 ≤ length c.frames
        → WhenThere (λ next. Fitting (done Act.leave next c))
        (option_and_then waits_for (option_and_then (spot_at tree.items) (option_map frame_place got)))
    back_level None there two = tt
    back_level (Some caller) there two =
        let below : suc (newest c.frames - 1) < length c.frames = omega (arith, two) in
        by (spot_at tree.items (frame_place caller)) (spot_follows caller true (fit.lower (newest c.frames - 1) caller there below))
      where
        by : (found : Option Spot) → WhenThere (Follows tree.items caller.procedure.0 (slots_of caller.loops) caller.place.slot.0) found
            → WhenThere (λ next. Fitting (done Act.leave next c)) (option_and_then waits_for found)
        by None follows = tt
        by (Some spot) follows = goes_back caller there two spot follows

    left : (alone : Bool) → nat_le (length c.frames) 1 ≡ alone
        → Leads Fitting
        (if alone then Some PlainStepAnswer.ended
        else option_map (λ next. PlainStepAnswer.stepped (done Act.leave next c))
        (option_and_then waits_for (option_and_then (spot_at tree.items) (caller_place c.frames))))
    left true alone = tt
    left false alone =
        let more = leb-false (length c.frames) 1 alone in
        map_leads Fitting (λ next. done Act.leave next c)
        (option_and_then waits_for (option_and_then (spot_at tree.items) (caller_place c.frames)))
        (back_level (slice_get c.frames (newest c.frames - 1)) refl (omega (arith, more)))

    -- ---- each spot

    spot_leads : (spot : Spot) → Follows tree.items frame.procedure.0 (slots_of frame.loops) frame.place.slot.0 spot
        → Leads Fitting (spot_answer (spot_at tree.items) input c spot)
    spot_leads (Spot.halts reason) follows = tt
    spot_leads (Spot.assigns target expression next) follows =
        answer_leads Fitting c (going_on next (assignment_act c.frames target expression))
        (makes_on Keeps next (assignment_act c.frames target expression) (assigned target expression next follows))
    spot_leads (Spot.tests condition inside other) follows =
        answer_leads Fitting c (test_going c.frames condition inside other) (tested condition inside other follows.0 follows.1)
    spot_leads (Spot.begins slot name first limit step inside after) follows =
        answer_leads Fitting c (begin_going c.frames slot name first limit step inside after)
        (begun slot name first limit step inside after follows.0 follows.1)
    spot_leads (Spot.iterates slot name inside after) follows =
        answer_leads Fitting c (iteration_going c.frames slot name inside after)
        (iterated slot name follows.1.0 inside after follows.1.1 follows.0 follows.1.2)
    spot_leads (Spot.reads target next) follows =
        answer_leads Fitting c (going_on next (read_act c.frames (drop c.taken input) target))
        (makes_on Keeps next (read_act c.frames (drop c.taken input) target) (read target next follows))
    spot_leads (Spot.writes skip expressions next) follows =
        answer_leads Fitting c (going_on next (write_act c.frames c.output skip expressions))
        (makes_on Keeps next (write_act c.frames c.output skip expressions) (written skip expressions next follows))
    spot_leads (Spot.calls callee arguments) follows =
        answer_leads Fitting c (call_going c.frames callee arguments) (called callee arguments follows.1 follows.0)
    spot_leads (Spot.waits next) follows = tt
    spot_leads Spot.leaves follows = left (nat_le (length c.frames) 1) refl

  -- ---- the law

  step_leads : (input : List ℕ) (c : PlainConfiguration) → FramesFit tree.items c.frames → (got : Option Frame)
      → slice_get c.frames (newest c.frames) ≡ got
      → Leads (λ d. FramesFit tree.items d.frames)
      (option_and_then (spot_answer (spot_at tree.items) input c) (option_and_then (spot_at tree.items) (option_map frame_place got)))
  step_leads input c fit None there = tt
  step_leads input c fit (Some frame) there =
      let some = fit.some in
      let at_top : suc (newest c.frames) ≡ length c.frames = omega (arith, some) in
      then_leads (λ d. FramesFit tree.items d.frames)
      (Follows tree.items frame.procedure.0 (slots_of frame.loops) frame.place.slot.0)
      (spot_answer (spot_at tree.items) input c) (spot_at tree.items (frame_place frame))
      (spot_follows frame false (fit.top (newest c.frames) frame there at_top).0)
      (spot_leads input c frame fit there)

pub steps_keep_fit : SiteLaws → StepsKeepFit
steps_keep_fit laws tree input c d is fits step =
    fits_with tree.items d
    (subst (Leads (λ after. FramesFit tree.items after.frames)) step
    (step_leads laws tree is input c (fitting_frames tree.items c fits) (slice_get c.frames (newest c.frames)) refl))
