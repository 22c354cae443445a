-- `what_fits_has_a_step`, `steps_do_allowed_acts`: what fits a tree stands at a place where something goes.
-- The newest frame's place exists, and is no place where it waits; a phrase there that isn't marked has no offence by
-- the items of the frame's procedure, whose cells the frame has, so that each part of the step comes to a value of its
-- kind, or to a fault.
use Rattle.std.specs.Prelude.{◌≡◌, refl, ℕ, zero, suc, ◌-◌, ◌<◌, ◌≤◌, ◌==◌, nat_le, ◌&&◌, ◌||◌, Bool, true, false, if◌then◌else◌, List, [], ◌∷◌, ◌++◌, All, length, take, slice_get, IsSome, Option, Some, None, is_some, option_and_then, option_map, unwrap_or}
use Rattle.std.specs.FinMap.{get}
use Rattle.std.proofs.Common.{ap, sym, ◌∙◌, subst, arith}
use Rattle.std.proofs.Math.Bool.{false≢true}
use Rattle.std.proofs.lemmas.Bool.{eqb-true, leb-false}
use Rattle.std.proofs.lemmas.List.{length-take-le}
use Rattle.std.proofs.lemmas.Option.{get_or_from_slice_get, same_Some, slice_get_within}
use Rattle.plcs_base.specs.declared.declared.Declared.{Declared}
use Rattle.plcs_base.specs.declared.mark.MarkKind.{MarkKind}
use Rattle.plcs_grammar.specs.declared.node_kind.NodeKind.{NodeKind}
use Rattle.plcs_grammar.specs.declared.template.Template.{Template}
use Rattle.plcs_grammar.specs.PlainPhrase.{PlainPhrase}
use Rattle.template_tree.specs.Checks.Environment.{Items, items_inside, procedure_at}
use Rattle.template_tree.specs.Checks.Marks.{Marks, is_phrase_marked, surroundings}
use Rattle.template_tree.specs.Checks.Mention.{phrase_at}
use Rattle.template_tree.specs.Programs.Part.{part_at}
use Rattle.template_tree.specs.Positions.Place.{PlainPlace, Site, Start, has_point, has_start, passes_in, place_at, place_exists_at, site}
use Rattle.template_tree.specs.Programs.PlainTree.{Forest, Label, PlainNode, PlainTree}
use Rattle.template_tree.specs.Programs.Program.{sort_of}
use Rattle.template_tree.specs.Programs.Slots.{times}
use Rattle.template_tree.specs.Programs.Tree.{IsTree}
use Rattle.template_tree.specs.Checks.Verdict.{verdict}
use Rattle.tree_steps.specs.AgreementLaws.{SlotsStandOnce}
use Rattle.tree_steps.specs.PlaceLaws.{RunsBegin, SitesStand, StandingSlotsHaveSites}
use Rattle.tree_steps.specs.StandingSlot.{Around, StandsInside, loop_by_kind, loops_around, outermost_slot}
use Rattle.plcs_store.specs.declared.frame.Frame.{Frame}
use Rattle.plcs_store.specs.Act.{Act, done}
use Rattle.plcs_store.specs.CellAt.{newest}
use Rattle.plcs_store.specs.Configuration.{PlainConfiguration, frame_place, top_place}
use Rattle.plcs_store.specs.Fits.{AllStand, AreVariables, Fits, HasLoops, StandsAround, StandsAt, StandsAtStart, is_waiting_place}
use Rattle.plcs_store.specs.LoopOfSlot.{newest_loop}
use Rattle.plcs_store.specs.Spot.{Spot, callee_named, point_spot, site_spot, spot_at}
use Rattle.plcs_store.specs.Step.{PlainStepAnswer, Step, caller_place, leave_answer, spot_answer, waits_for}
use Rattle.plcs_store.specs.StepLaws.{FittingCallersWait, FittingRunsStep, StepsDoAllowedActs, StepsOfRunsTakenBack}
use Rattle.plcs_store.specs.Undone.{step_undone, undo_of}
use Rattle.plcs_store.proofs.FittingSteps.Acts.{IsAnswerOf, KeepsLoop}
use Rattle.plcs_store.proofs.FittingSteps.Locations.{HasItems}
use Rattle.plcs_store.proofs.FittingSteps.Outcomes.{Has}
use Rattle.plcs_store.proofs.FittingSteps.PhraseMarks.{HasNode, InProcedure, in_procedure, mark_is, node_sound, site_node}
use Rattle.plcs_store.proofs.FittingSteps.Spots.{site_goes}
use Rattle.plcs_store.proofs.KeptFit.FittingFrames.{fitting_frames}
use Rattle.plcs_store.proofs.LoopsOfSlots.{newest_kept}
use Rattle.plcs_store.proofs.TakenBack.{steps_taken_back}

-- ---- lists

all_at : {X : Type 0} (P : X → Type 0) (xs : List X) (k : ℕ) (x : X) → All P xs → slice_get xs k ≡ Some x → P x
all_at P xs k x all e = subst P (get_or_from_slice_get xs k x x e) (all k x (slice_get_within xs k x e))

last_some : {X : Type 0} (xs : List X) → 1 ≤ length xs → IsSome (slice_get xs (length xs - 1))
last_some {X} xs some = by xs (length xs - 1) (omega (arith, some))
  where
    by : (ys : List X) (k : ℕ) → k < length ys → IsSome (slice_get ys k)
    by [] k few = absurd (omega (arith, few))
    by (y ∷ ys) zero few = refl
    by (y ∷ ys) (suc k) few = by ys k (omega (arith, few))

-- ---- the newest frames

-- the newest frame is ready for a step
newest_stands : (program : Forest) (frames : List Frame) → 1 ≤ length frames → AllStand program frames
    → (frame : Frame) × (slice_get frames (length frames - 1) ≡ Some frame) × StandsAt program false frame × StandsAtStart program frame
newest_stands program [] some all = absurd (omega (arith, some))
newest_stands program (frame ∷ []) some all = (frame, refl, all.0, all.1)
newest_stands program (frame ∷ (above ∷ frames)) some all =
    let (one, is, stands, start) = newest_stands program (above ∷ frames) (omega arith) all.1 in
    let last : length (frame ∷ (above ∷ frames)) - 1 ≡ suc (length (above ∷ frames) - 1) = omega arith in
    (one, ap (slice_get (frame ∷ (above ∷ frames))) last ∙ is, stands, start)

-- the frame below it waits at its CALL
caller_stands : (program : Forest) (frames : List Frame) → 2 ≤ length frames → AllStand program frames
    → (frame : Frame) × (slice_get frames (length frames - 1 - 1) ≡ Some frame) × StandsAt program true frame
caller_stands program [] some all = absurd (omega (arith, some))
caller_stands program (frame ∷ []) some all = absurd (omega (arith, some))
caller_stands program (frame ∷ (above ∷ [])) some all = (frame, refl, all.0)
caller_stands program (frame ∷ (above ∷ (next ∷ frames))) some all =
    let (one, is, stands) = caller_stands program (above ∷ (next ∷ frames)) (omega arith) all.1 in
    let last : length (frame ∷ (above ∷ (next ∷ frames))) - 1 - 1 ≡ suc (length (above ∷ (next ∷ frames)) - 1 - 1) = omega arith in
    (one, ap (slice_get (frame ∷ (above ∷ (next ∷ frames)))) last ∙ is, stands)

-- ---- kinds of nodes

template_waits : (template : Template) (point : ℕ) → is_waiting_place (NodeKind.Filled template) point ≡ true
    → (NodeKind.Filled template ≡ NodeKind.Filled Template.Call) × (point ≡ 1)
template_waits Template.Call point e = (refl, eqb-true point 1 e)
template_waits other point e = absurd (false≢true e)

-- a run waits at a CALL alone
kind_waits : (kind : NodeKind) (point : ℕ) → is_waiting_place kind point ≡ true → (kind ≡ NodeKind.Filled Template.Call) × (point ≡ 1)
kind_waits (NodeKind.Filled template) point e = template_waits template point e
kind_waits other point e = absurd (false≢true e)

template_start : (marked : Bool) (label : Label) (template : Template)
    → ((has_start (sort_of (NodeKind.Filled template)) && true) || has_point marked label (NodeKind.Filled template) 0) ≡ true
    → has_start (sort_of (NodeKind.Filled template)) ≡ true
template_start marked label Template.Fixed e = e
template_start marked label Template.Bit e = e
template_start marked label Template.Char e = e
template_start marked label Template.Proc e = e
template_start marked label Template.ProcP e = e
template_start marked label other e = refl

-- point 0 is a place only where a node has a start
kind_start : (marked : Bool) (label : Label) (kind : NodeKind) → ((has_start (sort_of kind) && true) || has_point marked label kind 0) ≡ true
    → has_start (sort_of kind) ≡ true
kind_start marked label NodeKind.StatementHole e = refl
kind_start marked label NodeKind.Assign e = refl
kind_start marked label (NodeKind.Filled template) e = template_start marked label template e
kind_start marked label other e = e

-- ---- a frame of a tree

has_then : {A B : Type 0} (Is : B → Type 0) (f : A → Option B) (part : Option A) → Has (λ a. Has Is (f a)) part → Has Is (option_and_then f part)
has_then Is f None is = is
has_then Is f (Some a) is = is

some_answer : {A : Type 0} (Is : A → Type 0) (one : Option A) → Has Is one → IsSome one
some_answer Is None is = absurd is
some_answer Is (Some a) is = refl

no_mark : (mark : Option MarkKind) → is_some mark ≡ false → mark ≡ None
no_mark None e = refl
no_mark (Some kind) e = absurd (false≢true (sym e))

has_is : {A : Type 0} (Is : A → Type 0) (one other : Option A) → one ≡ other → Has Is other → Has Is one
has_is Is one other e is = subst (Has Is) (sym e) is

module _ (sited : SitesStand) (standing : StandingSlotsHaveSites) (begins : RunsBegin) (same_place : SlotsStandOnce) where
  -- the node in the slot of a frame that stands somewhere, and its procedure
  record Sited (program : Forest) (slot : ℕ) (kind : NodeKind) (around : Around) : Type 0 where
    found : Site
    there : site program slot ≡ Some found
    slot_is : found.label.slot ≡ slot
    node : HasNode program found.label found.inner
    kind_is : kind ≡ found.label.kind
    its : InProcedure program program found.label
    procedure : its.node.label.slot ≡ outermost_slot slot around

  sited_at : (program : Forest) (slot : ℕ) (kind : NodeKind) (around : Around) → ((s : ℕ) → times s program ≤ 1)
      → StandsInside program slot kind around → Sited program slot kind around
  sited_at program slot kind around once stands =
      let (found, there) = standing program slot kind around stands in
      let (node, slot_is) = site_node program slot false (place_at 0 1) found there in
      let its = in_procedure program program found.label found.inner once node in
      let same =
      same_place program slot kind found.label.kind around its.around (once slot) stands
      (subst (λ (s : ℕ). StandsInside program s found.label.kind its.around) slot_is its.stands) in
      record {
        found = found;
        there = there;
        slot_is = slot_is;
        node = node;
        kind_is = same.0;
        its = its;
        procedure =
            sym its.outermost
            ∙ (ap (λ (s : ℕ). outermost_slot s its.around) slot_is ∙ ap (outermost_slot slot) (sym same.1));
      }

  module _ (tree : PlainTree) (input : List ℕ) (c : PlainConfiguration) (is : IsTree tree) (fits : Fits tree.items c) where
    abbrev program : Forest
    program = tree.items

    -- ---- the procedure is left

    caller_spot : (frame : Frame) → StandsAt program true frame → (next : PlainPlace) × (spot_at program (frame_place frame) ≡ Some (Spot.waits next))
    caller_spot frame (kind, around, stands) =
        let at = sited_at program frame.place.slot.0 kind around is.once stands.stands in
        let waits = kind_waits kind frame.place.point.0 stands.waiting in
        let marked : ℕ → Bool = is_phrase_marked program frame.place.slot.0 in (
          at.found.after,
          ap (option_and_then (λ (found : Site). site_spot marked (callee_named program) found frame.place.point.0)) at.there
              ∙ (ap (site_spot marked (callee_named program) at.found) waits.1
              ∙ ap (point_spot marked at.found 1) (sym at.kind_is ∙ waits.0)),
        )

    -- the caller goes on, or the run is over
    leaves_level : (alone : Bool) → nat_le (length c.frames) 1 ≡ alone
        → Has (IsAnswerOf c)
        (if alone then Some PlainStepAnswer.ended
        else
        option_map (λ next. PlainStepAnswer.stepped (done Act.leave next c))
        (option_and_then waits_for (option_and_then (spot_at program) (caller_place c.frames))))
    leaves_level true e = tt
    leaves_level false e =
        let many : 1 < length c.frames = leb-false (length c.frames) 1 e in
        let own = newest_stands program c.frames fits.frames.some fits.frames.stand in
        let (frame, there, waits) = caller_stands program c.frames (omega (arith, many)) fits.frames.stand in
        let (next, spot) = caller_spot frame waits in
        let answer : PlainPlace → PlainStepAnswer = λ n. PlainStepAnswer.stepped (done Act.leave n c) in
        has_is (IsAnswerOf c) (option_map answer (option_and_then waits_for (option_and_then (spot_at program) (caller_place c.frames))))
        (Some (answer next))
        (ap
        (λ (one : Option Frame). option_map answer (option_and_then waits_for (option_and_then (spot_at program) (option_map frame_place one))))
        there
        ∙ ap (λ (one : Option Spot). option_map answer (option_and_then waits_for one)) spot) (
          Act.leave,
          next,
          (
            own.0,
            own.1,
            (let n = length-take-le (length c.frames - 1) c.frames (omega arith) in
                last_some (take (newest c.frames) c.frames) (omega (arith, n, many))),
          ),
          refl,
        )

    leaves : Has (IsAnswerOf c) (leave_answer (spot_at program) c)
    leaves = leaves_level (nat_le (length c.frames) 1) refl

    -- ---- the newest frame: its variables, its phrases, its start and its loops

    own_variables : (frame : Frame) (own : PlainNode) → slice_get c.frames (newest c.frames) ≡ Some frame
        → procedure_at program frame.procedure.0 ≡ Some own → AreVariables (items_inside own.inner) frame.cells
    own_variables frame own top named =
        subst (λ (its : List Declared). AreVariables its frame.cells)
        (ap (λ (one : Option PlainNode). unwrap_or (option_map (λ (n : PlainNode). items_inside n.inner) one) []) named)
        (all_at (λ (one : Frame). AreVariables (Items program one.procedure.0) one.cells) c.frames (newest c.frames) frame fits.cells top)

    -- a phrase without a mark has no offence
    fine_phrase : (slot : ℕ) (found : Site) (its : InProcedure program program found.label) → found.label.slot ≡ slot → (part : ℕ) (phrase : PlainPhrase)
        → part_at found.label.parts part ≡ Some phrase → is_phrase_marked program slot part ≡ false
        → verdict (surroundings program its.node found.label.slot) phrase ≡ None
    fine_phrase slot found its slot_is part phrase e plain =
        sym (mark_is program found.label its part phrase e)
        ∙ (ap (λ (s : ℕ). get (Marks program) (phrase_at s part)) slot_is ∙ no_mark (get (Marks program) (phrase_at slot part)) plain)

    -- a place at the start of its slot is where a run begins that comes there
    stays : (frame : Frame) (kind : NodeKind) (around : Around) → StandsInside program frame.place.slot.0 kind around → has_start (sort_of kind) ≡ true
        → Start program frame.place.slot.0 ≡ Some (frame_place frame) → passes_in kind ≡ false
    stays frame kind around stands starts start =
        let (place, began, at_start) = begins tree frame.place.slot.0 kind around is stands starts in
        let same : frame_place frame ≡ place = same_Some (frame_place frame) place (sym start ∙ began) in
        let kinds =
        same_place program frame.place.slot.0 kind at_start.kind around at_start.within (is.once frame.place.slot.0) stands
        (subst (λ (s : ℕ). StandsInside program s at_start.kind at_start.within) (sym (ap (λ (p : PlainPlace). p.slot) same)) at_start.stands) in
        ap passes_in kinds.0 ∙ at_start.stays

    keeps_loop : (frame : Frame) (items : List Declared) (has : HasItems c.frames items) (kind : NodeKind) (around : Around)
        → StandsInside program frame.place.slot.0 kind around → kind ≡ NodeKind.Filled Template.For → frame.place.point.0 ≡ 1
        → (slot : ℕ) → slot ≡ frame.place.slot.0 → slice_get c.frames (newest c.frames) ≡ Some frame → KeepsLoop c items has slot
    keeps_loop frame items has kind around stands for_is one_is slot slot_is top =
        let own : ℕ = frame.place.slot.0 in
        let loops : HasLoops program frame = all_at (HasLoops program) c.frames (newest c.frames) frame fits.loops top in
        let (kept, there, found) =
        newest_kept c.frames frame (loops_around around) own top
        (loops kind around stands
        ∙ (ap (λ (n : ℕ). loops_around around ++ (if n == 1 then loop_by_kind kind own else [])) one_is
        ∙ ap (λ (k : NodeKind). loops_around around ++ loop_by_kind k own) for_is)) in
        record {
          found = (length frame.loops - 1, kept);
          there =
              ap (λ (one : Frame). slice_get one.loops (length frame.loops - 1)) (same_Some has.frame frame (sym has.top ∙ top)) ∙ there;
          newest = ap (λ (s : ℕ). newest_loop s c.frames) slot_is ∙ found;
        }

    -- ---- the newest frame

    in_frame : (frame : Frame) → slice_get c.frames (newest c.frames) ≡ Some frame → (kind : NodeKind) (around : Around)
        → StandsAround program false frame kind around → StandsAtStart program frame → Has (IsAnswerOf c) (Step program input c)
    in_frame frame top kind around stands start =
        let slot : ℕ = frame.place.slot.0 in
        let point : ℕ = frame.place.point.0 in
        let at = sited_at program slot kind around is.once stands.stands in
        let own : PlainNode = at.its.node in
        let label : Label = at.found.label in
        let marked : ℕ → Bool = is_phrase_marked program slot in
        let has : HasItems c.frames (items_inside own.inner) =
        record {
          frame = frame;
          top = top;
          variables = own_variables frame own top (ap (procedure_at program) (sym (at.procedure ∙ stands.procedure)) ∙ at.its.named);
          values = fits.values;
        } in
        let exists : place_exists_at (marked 0) (Some at.found) point ≡ true =
        subst (λ (found : Option Site). place_exists_at (marked 0) found point ≡ true) at.there stands.exists in
        let goes =
        site_goes program input c own at.found has marked
        (λ part phrase e plain. fine_phrase slot at.found at.its at.slot_is part phrase e plain) is.once leaves point
        (node_sound program label at.found.inner at.node is.program.sound).parts exists
        (λ zero_is.
        let starts : has_start (sort_of label.kind) ≡ true =
        kind_start (marked 0) label label.kind (subst (λ (n : ℕ). place_exists_at (marked 0) (Some at.found) n ≡ true) zero_is exists) in (
          starts,
          ap passes_in (sym at.kind_is)
              ∙ stays frame kind around stands.stands (ap (λ (k : NodeKind). has_start (sort_of k)) at.kind_is ∙ starts) (start zero_is),
        ))
        (ap (λ (k : NodeKind). is_waiting_place k point) (sym at.kind_is) ∙ stands.waiting)
        (λ for_is one_is. keeps_loop frame (items_inside own.inner) has kind around stands.stands (at.kind_is ∙ for_is) one_is label.slot at.slot_is top) in
        has_then (IsAnswerOf c) (spot_answer (spot_at program) input c) (option_and_then (spot_at program) (top_place c.frames))
        (has_is (λ (spot : Spot). Has (IsAnswerOf c) (spot_answer (spot_at program) input c spot)) (option_and_then (spot_at program) (top_place c.frames))
        (site_spot marked (callee_named program) at.found point)
        (ap (λ (one : Option Frame). option_and_then (spot_at program) (option_map frame_place one)) top
        ∙ ap (option_and_then (λ (found : Site). site_spot marked (callee_named program) found point)) at.there)
        goes)

    answer : Has (IsAnswerOf c) (Step program input c)
    answer =
        let newest_one = newest_stands program c.frames fits.frames.some fits.frames.stand in
        let place = newest_one.2 in
        in_frame newest_one.0 newest_one.1 place.0 place.1 place.2 newest_one.3

  -- ---- the laws

  pub callers_wait : FittingCallersWait
  callers_wait tree c number frame is fits there below =
      let stands = (fitting_frames tree.items c fits).lower number frame there (omega (arith, below)) in
      let (kind, around, at) = stands.stands in
      ((kind_waits kind frame.place.point.0 at.waiting).1, caller_spot tree [] c is fits frame stands.stands)

  pub what_fits_has_a_step : FittingRunsStep
  what_fits_has_a_step tree input c is fits = some_answer (IsAnswerOf c) (Step tree.items input c) (answer tree input c is fits)

  pub steps_do_allowed_acts : StepsDoAllowedActs
  steps_do_allowed_acts tree input c d is fits e = subst (Has (IsAnswerOf c)) e (answer tree input c is fits)

  pub steps_of_runs_taken_back : StepsOfRunsTakenBack
  steps_of_runs_taken_back tree input c d is fits e =
      let (act, next, may, same) = steps_do_allowed_acts tree input c d is fits e in
      (act, next, same, ap (step_undone (undo_of act c)) same ∙ steps_taken_back act next c may)
