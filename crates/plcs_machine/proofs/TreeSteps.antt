-- The law `code_steps_as_tree`: at the address of the newest frame's place stands the code of what stands there in the
-- tree, and that comes to the answer of the tree's step, which what fits has.
use Rattle.std.specs.Prelude.{◌≡◌, refl, ℕ, zero, suc, ◌-◌, ◌+◌, ◌≤◌, ◌<◌, ◌==◌, nat_le, nat_lt, ℤ, Bool, true, false, ◌&&◌, if◌then◌else◌, List, [], ◌∷◌, drop, length, slice_get, Option, Some, None, IsSome, is_some, option_and_then, option_map}
use Rattle.std.specs.FinMap.{get}
use Rattle.std.specs.Option.{option_map_or, option_or}
use Rattle.std.proofs.Common.{ap, sym, ◌∙◌, subst, arith}
use Rattle.std.proofs.Math.Bool.{false≢true}
use Rattle.std.proofs.lemmas.Bool.{eqb-true, le-leb, leb-false, lt-ltb}
use Rattle.std.proofs.lemmas.Option.{none-some, same_Some}
use Rattle.plcs_base.specs.Mark.{MarkMap}
use Rattle.plcs_base.specs.Scope.{ItemMap}
use Rattle.plcs_grammar.specs.declared.node_kind.NodeKind.{NodeKind}
use Rattle.plcs_grammar.specs.declared.template.Template.{Template}
use Rattle.plcs_grammar.specs.PlainPhrase.{PlainPhrase}
use Rattle.template_tree.specs.Checks.Marks.{Marks}
use Rattle.template_tree.specs.Checks.ProgramMaps.{ScopeTells}
use Rattle.template_tree.specs.Positions.Place.{PlainPlace, Site, begin, place_at, site}
use Rattle.template_tree.specs.Programs.PlainTree.{Forest, PlainTree}
use Rattle.template_tree.specs.Programs.Program.{IsNode, IsProgram, sorts}
use Rattle.template_tree.specs.Programs.Slots.{times}
use Rattle.template_tree.specs.Programs.Tree.{IsTree}
use Rattle.plcs_code.specs.Gen.{Gen, PlainCode, has_code}
use Rattle.plcs_code.specs.Landing.{Lands}
use Rattle.plcs_code.specs.PlainInstr.{PlainInstr, place_of}
use Rattle.plcs_store.specs.declared.frame.Frame.{Frame}
use Rattle.plcs_store.specs.declared.reason.Reason.{Reason}
use Rattle.plcs_store.specs.CellAt.{located, newest}
use Rattle.plcs_store.specs.Configuration.{PlainConfiguration, frame_place, top_place}
use Rattle.plcs_store.specs.Fits.{Fits}
use Rattle.plcs_store.specs.Limit.{most_frames, most_loops}
use Rattle.plcs_store.specs.Spot.{Spot, at_one, behind_item, callee_named, condition_in, halt_reason, iteration_spot, get_spot, needing, point_spot, said, site_spot, spot_at, start_spot, template_point, template_start, test_spot, variable_in, variables_in}
use Rattle.plcs_store.specs.Step.{PlainStepAnswer, Step, spot_answer}
use Rattle.plcs_store.specs.StepLaws.{FittingCallersWait, FittingLoopsHaveRoom, FittingRunsStep}
use Rattle.plcs_machine.specs.Exec.{Exec, run_behind}
use Rattle.plcs_machine.specs.Fetched.{Fetched, result_of}
use Rattle.plcs_machine.specs.Lead.{address_of, has_loop_room}
use Rattle.plcs_machine.specs.MachineLaws.{CodeStepsAsTree, FittingRunsExec}
use Rattle.plcs_machine.specs.Reached.{reached}
use Rattle.plcs_machine.proofs.FoundSites.{site_is}
use Rattle.plcs_machine.proofs.ReachedCells.{same_reached}
use Rattle.plcs_machine.proofs.RunExpressions.{answer}
use Rattle.plcs_machine.proofs.RunLeaves.{WaitsLand, leaves_run}
use Rattle.plcs_machine.proofs.RunSpots.{Meets}
use Rattle.plcs_machine.proofs.SignedProcedures.{callee_enters}
use Rattle.plcs_machine.proofs.SiteCode.{CodeLawsHold, IsCodeOf, code_of_site}
use Rattle.plcs_machine.proofs.SiteRuns.{assign_runs, back_lands, call_runs, for_runs, get_point_runs, get_runs, hole_runs, if_else_runs, if_runs, iteration_runs, main_end, parameters_end, procedure_end, put_runs, read_within, return_address, until_runs, while_runs}
use Rattle.plcs_machine.proofs.Suspensions.{mark_of}

-- ---- spots that don't wait

abbrev waits : Spot → Bool
waits (Spot.waits next) = true
waits other = false

-- nothing there waits
abbrev NoWait : Option Spot → Type 0
NoWait spot = (next : PlainPlace) → spot ≡ Some (Spot.waits next) → ⊥

quiet : (spot : Spot) → waits spot ≡ false → NoWait (Some spot)
quiet spot is next e = false≢true (sym is ∙ ap waits (same_Some spot (Spot.waits next) e))

none_waits : NoWait None
none_waits next e = none-some (Spot.waits next) e

map_quiet : {A : Type 0} (make : A → Spot) → ((a : A) → waits (make a) ≡ false) → (found : Option A) → NoWait (option_map make found)
map_quiet make is None next e = none-some (Spot.waits next) e
map_quiet make is (Some a) next e = quiet (make a) (is a) next e

then_quiet : {A : Type 0} (make : A → Option Spot) → ((a : A) → NoWait (make a)) → (found : Option A) → NoWait (option_and_then make found)
then_quiet make is None next e = none-some (Spot.waits next) e
then_quiet make is (Some a) next e = is a next e

needing_quiet : (marked : ℕ → Bool) (parts : List (Option PlainPhrase)) (needed : List ℕ) (spot : Option Spot) → NoWait spot → NoWait (needing marked parts needed spot)
needing_quiet marked parts needed spot is = by (halt_reason marked parts needed)
  where
    by : (reason : Option Reason) → NoWait (option_or (option_map Spot.halts reason) spot)
    by None = is
    by (Some why) = quiet (Spot.halts why) refl

-- at point 1 a CALL alone waits
template_waits : (marked : ℕ → Bool) (found : Site) (template : Template) (next : PlainPlace) → template_point marked found 1 template ≡ Some (Spot.waits next)
    → (template ≡ Template.Call) × (found.after ≡ next)
template_waits marked found Template.Call next e = (refl, waits_place (same_Some (Spot.waits found.after) (Spot.waits next) e))
  where
    place_or : PlainPlace → Spot → PlainPlace
    place_or other (Spot.waits there) = there
    place_or other spot = other

    waits_place : Spot.waits found.after ≡ Spot.waits next → found.after ≡ next
    waits_place e = ap (place_or found.after) e
template_waits marked found Template.For next e =
    absurd
    (needing_quiet marked found.label.parts (0 ∷ []) (iteration_spot found.label.slot found.label.parts (begin found.inner (place_at found.label.slot 1)) found.after)
    (map_quiet (λ name. Spot.iterates found.label.slot name (begin found.inner (place_at found.label.slot 1)) found.after) (λ name. refl) (said variable_in found.label.parts 0)) next e)
template_waits marked found Template.Until next e =
    absurd
    (needing_quiet marked found.label.parts (0 ∷ []) (test_spot found.label.parts found.after (begin found.inner (place_at found.label.slot 1)))
    (map_quiet (λ test. Spot.tests test found.after (begin found.inner (place_at found.label.slot 1))) (λ test. refl) (said condition_in found.label.parts 0)) next e)
template_waits marked found Template.Get next e = absurd (by (marked 0) e)
  where
    by : (b : Bool) → (if b then None else get_spot found 1) ≡ Some (Spot.waits next) → ⊥
    by true e = none_waits next e
    by false e =
        then_quiet (λ targets. option_map (λ target. Spot.reads target (behind_item found 1)) (slice_get targets 1))
        (λ targets. map_quiet (λ target. Spot.reads target (behind_item found 1)) (λ target. refl) (slice_get targets 1)) (said variables_in found.label.parts 0) next e
template_waits marked found Template.Proc next e = absurd (quiet Spot.leaves refl next e)
template_waits marked found Template.ProcP next e = absurd (quiet Spot.leaves refl next e)
template_waits marked found other next e = absurd (none_waits next e)

kind_waits : (marked : ℕ → Bool) (found : Site) (kind : NodeKind) (next : PlainPlace) → point_spot marked found 1 kind ≡ Some (Spot.waits next)
    → (kind ≡ NodeKind.Filled Template.Call) × (found.after ≡ next)
kind_waits marked found (NodeKind.Filled template) next e =
    let there = template_waits marked found template next e in (ap NodeKind.Filled there.0, there.1)
kind_waits marked found NodeKind.Main next e = absurd (quiet Spot.leaves refl next e)
kind_waits marked found other next e = absurd (none_waits next e)

-- ---- places of a program

module _ (laws : CodeLawsHold) (program : Forest) (is : IsProgram program) (once : (slot : ℕ) → times slot program ≤ 1) (items : ItemMap)
    (tells : ScopeTells items program) (input : List ℕ) (c : PlainConfiguration)
    (reach : (name : List ℕ) (subscript : Option ℤ) → reached c.frames name subscript ≡ located c.frames name subscript)
    (loops : has_loop_room c.frames ≡ true) (land : WaitsLand (Gen (Marks program) items program) (spot_at program) c) where
  abbrev code : PlainCode
  code = Gen (Marks program) items program

  -- what stands at the place is what the code runs there
  abbrev Runs : PlainPlace → Spot → Type 0
  Runs place spot =
      (address : ℕ) × (get code.addresses (place_of place) ≡ Some address)
      × Meets (answer code (drop c.taken input) c (length code.instrs) (address + 1) [] []) (spot_answer (spot_at program) input c spot)

  leaving : (place : PlainPlace) (spot : Spot) → Some Spot.leaves ≡ Some spot
      → ((address : ℕ) × (get code.addresses (place_of place) ≡ Some address) × (slice_get code.instrs (address + 1) ≡ Some PlainInstr.leave)) → Runs place spot
  leaving place spot e (address, known, there) =
      let less = read_within code.instrs (address + 1) PlainInstr.leave there in
      subst (Runs place) (same_Some Spot.leaves spot e) (
        address,
        known,
        leaves_run code (drop c.taken input) c (spot_at program) land (length code.instrs) (address + 1) (omega arith) (omega (arith, less)) there,
      )

  module _ (found : Site) (at_site : site program found.label.slot ≡ Some found) (node : IsNode found.label (sorts found.inner)) where
    abbrev slot : ℕ
    slot = found.label.slot

    code_is : has_code found.label.kind ≡ true → IsCodeOf (Marks program) items program found
    code_is has = code_of_site laws (Marks program) items program found is once at_site has

    template_starts : (spot : Spot) (template : Template) → found.label.kind ≡ NodeKind.Filled template
        → template_start (mark_of (Marks program) slot) (callee_named program) found template ≡ Some spot → Runs (place_at slot 0) spot
    template_starts spot Template.Fixed kind e = absurd (none-some spot e)
    template_starts spot Template.Bit kind e = absurd (none-some spot e)
    template_starts spot Template.Char kind e = absurd (none-some spot e)
    template_starts spot Template.Until kind e = absurd (none-some spot e)
    template_starts spot Template.Group kind e = absurd (none-some spot e)
    template_starts spot Template.Comment kind e = absurd (none-some spot e)
    template_starts spot Template.Proc kind e = absurd (none-some spot e)
    template_starts spot Template.ProcP kind e = absurd (none-some spot e)
    template_starts spot Template.If kind e =
        if_runs laws.told (Marks program) items program found (code_is (ap has_code kind)) node (callee_named program) (spot_at program) input c reach spot kind e
    template_starts spot Template.IfElse kind e =
        if_else_runs laws.told (Marks program) items program found (code_is (ap has_code kind)) node (callee_named program) (spot_at program) input c reach spot kind e
    template_starts spot Template.While kind e =
        while_runs laws.told (Marks program) items program found (code_is (ap has_code kind)) node (callee_named program) (spot_at program) input c reach spot kind e
    template_starts spot Template.For kind e =
        for_runs laws.told (Marks program) items program found (code_is (ap has_code kind)) node (callee_named program) (spot_at program) input c reach spot kind loops e
    template_starts spot Template.Get kind e =
        get_runs laws.told (Marks program) items program found (code_is (ap has_code kind)) node (callee_named program) (spot_at program) input c reach spot kind e
    template_starts spot Template.Put kind e =
        put_runs laws.told (Marks program) items program found (code_is (ap has_code kind)) node (callee_named program) (spot_at program) input c reach false Template.Put spot kind
        refl refl refl refl (λ part stop. refl) (λ part stop. refl) e
    template_starts spot Template.PutSkip kind e =
        put_runs laws.told (Marks program) items program found (code_is (ap has_code kind)) node (callee_named program) (spot_at program) input c reach true Template.PutSkip spot kind
        refl refl refl refl (λ part stop. refl) (λ part stop. refl) e
    template_starts spot Template.Call kind e =
        call_runs laws.told (Marks program) items program found (code_is (ap has_code kind)) node (callee_named program) (spot_at program) input c reach spot kind
        (callee_enters laws (Marks program) items program is once tells) e
    template_starts spot Template.Return kind e =
        let there =
        return_address laws.told (Marks program) items program found (code_is (ap has_code kind)) node (callee_named program) (spot_at program) input c reach kind in
        leaving (place_at slot 0) spot e ((code_is (ap has_code kind)).start, there.0, there.1)

    starts : (spot : Spot) (kind : NodeKind) → found.label.kind ≡ kind → start_spot (mark_of (Marks program) slot) (callee_named program) found kind ≡ Some spot
        → Runs (place_at slot 0) spot
    starts spot NodeKind.DeclarationHole kind e = absurd (none-some spot e)
    starts spot NodeKind.ProcedureHole kind e = absurd (none-some spot e)
    starts spot NodeKind.Main kind e = absurd (none-some spot e)
    starts spot NodeKind.StatementHole kind e =
        subst (Runs (place_at slot 0)) (same_Some (Spot.halts Reason.Placeholder) spot e)
        (hole_runs laws.told (Marks program) items program found (code_is (ap has_code kind)) node (callee_named program) (spot_at program) input c reach kind)
    starts spot NodeKind.Assign kind e =
        assign_runs laws.told (Marks program) items program found (code_is (ap has_code kind)) node (callee_named program) (spot_at program) input c reach spot kind e
    starts spot (NodeKind.Filled template) kind e = template_starts spot template kind e

    one_level : (point : ℕ) (spot : Spot) (wanted : Option Spot) → at_one point wanted ≡ Some spot → (wanted ≡ Some spot → Runs (place_at slot 1) spot) → Runs (place_at slot point) spot
    one_level point spot wanted e runs = by (point == 1) refl e
      where
        by : (b : Bool) → (point == 1) ≡ b → (if b then wanted else None) ≡ Some spot → Runs (place_at slot point) spot
        by true same e = subst (λ (n : ℕ). Runs (place_at slot n) spot) (sym (eqb-true point 1 same)) (runs e)
        by false same e = absurd (none-some spot e)

    template_points : (point : ℕ) (spot : Spot) (template : Template) → found.label.kind ≡ NodeKind.Filled template
        → template_point (mark_of (Marks program) slot) found point template ≡ Some spot → Runs (place_at slot point) spot
    template_points point spot Template.For kind e =
        one_level point spot _ e
        (iteration_runs laws.told (Marks program) items program found (code_is (ap has_code kind)) node (callee_named program) (spot_at program) input c reach spot kind)
    template_points point spot Template.Until kind e =
        one_level point spot _ e
        (until_runs laws.told (Marks program) items program found (code_is (ap has_code kind)) node (callee_named program) (spot_at program) input c reach spot kind)
    template_points point spot Template.Get kind e =
        get_point_runs laws.told (Marks program) items program found (code_is (ap has_code kind)) node (callee_named program) (spot_at program) input c reach point spot kind e
    template_points point spot Template.Call kind e =
        one_level point spot (Some (Spot.waits found.after)) e
        (λ wanted.
        let there = back_lands laws.told (Marks program) items program found (code_is (ap has_code kind)) node (callee_named program) (spot_at program) input c reach kind in
        subst (Runs (place_at slot 1)) (same_Some (Spot.waits found.after) spot wanted) (there.0, there.1, λ one nothing. absurd (none-some one nothing)))
    template_points point spot Template.Proc kind e =
        one_level point spot (Some Spot.leaves) e
        (λ wanted.
        leaving (place_at slot 1) spot wanted
        (procedure_end laws.told (Marks program) items program found (code_is (ap has_code kind)) node (callee_named program) (spot_at program) input c reach kind))
    template_points point spot Template.ProcP kind e =
        one_level point spot (Some Spot.leaves) e
        (λ wanted.
        leaving (place_at slot 1) spot wanted
        (parameters_end laws.told (Marks program) items program found (code_is (ap has_code kind)) node (callee_named program) (spot_at program) input c reach kind))
    template_points point spot other kind e = absurd (none-some spot e)

    points : (point : ℕ) (spot : Spot) (kind : NodeKind) → found.label.kind ≡ kind → point_spot (mark_of (Marks program) slot) found point kind ≡ Some spot
        → Runs (place_at slot point) spot
    points point spot NodeKind.Main kind e =
        one_level point spot (Some Spot.leaves) e
        (λ wanted.
        leaving (place_at slot 1) spot wanted
        (main_end laws.told (Marks program) items program found (code_is (ap has_code kind)) node (callee_named program) (spot_at program) input c reach kind))
    points point spot (NodeKind.Filled template) kind e = template_points point spot template kind e
    points point spot other kind e = absurd (none-some spot e)

    places : (point : ℕ) (spot : Spot) → site_spot (mark_of (Marks program) slot) (callee_named program) found point ≡ Some spot → Runs (place_at slot point) spot
    places zero spot e = starts spot found.label.kind refl e
    places (suc point) spot e = points (suc point) spot found.label.kind refl e

  -- at each place of the program
  pub place_runs : (place : PlainPlace) (spot : Spot) → spot_at program place ≡ Some spot → Runs place spot
  place_runs place spot e = by (site program place.slot) refl e
    where
      by : (there : Option Site) → site program place.slot ≡ there
          → option_and_then (λ found. site_spot (mark_of (Marks program) place.slot) (callee_named program) found place.point) there ≡ Some spot → Runs place spot
      by None at e = absurd (none-some spot e)
      by (Some found) at e =
          let own = site_is place.slot false program (place_at 0 1) found is.sound at in
          subst (λ (n : ℕ). Runs (place_at n place.point) spot) own.slot_is
          (places found (ap (site program) own.slot_is ∙ at) own.node place.point spot
          (ap (λ (n : ℕ). site_spot (mark_of (Marks program) n) (callee_named program) found place.point) own.slot_is ∙ e))

-- ---- a run that fits

item_there : {A : Type 0} (xs : List A) (k : ℕ) → k < length xs → (x : A) × (slice_get xs k ≡ Some x)
item_there [] k few = absurd (omega (arith, few))
item_there (x ∷ xs) zero few = (x, refl)
item_there (x ∷ xs) (suc k) few = item_there xs k (omega (arith, few))

-- the newest frame is there
newest_there : (frames : List Frame) → 1 ≤ length frames → (frame : Frame) × (slice_get frames (newest frames) ≡ Some frame)
newest_there frames some = item_there frames (newest frames) (omega (arith, some))

module _ (laws : CodeLawsHold) (callers : FittingCallersWait) (room : FittingLoopsHaveRoom) (steps : FittingRunsStep) where
  -- where a caller waits
  callers_land : (tree : PlainTree) (items : ItemMap) (c : PlainConfiguration) → IsTree tree → Fits tree.items c
      → WaitsLand (Gen (Marks tree.items) items tree.items) (spot_at tree.items) c
  callers_land tree items c is fits place next more caller spot =
      let long = leb-false (length c.frames) 1 more in
      let (frame, there) = item_there c.frames (newest c.frames - 1) (omega (arith, long)) in
      let place_is : frame_place frame ≡ place = same_Some (frame_place frame) place (ap (option_map frame_place) (sym there) ∙ caller) in
      let waits_there = callers tree c (newest c.frames - 1) frame is fits there (omega (arith, long)) in
      let point : place.point ≡ 1 = ap (λ (p : PlainPlace). p.point) (sym place_is) ∙ waits_there.0 in
      by point (site tree.items place.slot) refl spot
    where
      by : place.point ≡ 1 → (there : Option Site) → site tree.items place.slot ≡ there
          → option_and_then (λ found. site_spot (mark_of (Marks tree.items) place.slot) (callee_named tree.items) found place.point) there ≡ Some (Spot.waits next)
          → (address : ℕ) × (get (Gen (Marks tree.items) items tree.items).addresses (place_of place) ≡ Some address) × (1 ≤ address)
          × Lands (Gen (Marks tree.items) items tree.items).instrs address next
      by point None at e = absurd (none-some (Spot.waits next) e)
      by point (Some found) at e =
          let own = site_is place.slot false tree.items (place_at 0 1) found is.program.sound at in
          let known = kind_waits (mark_of (Marks tree.items) place.slot) found found.label.kind next
          (ap (site_spot (mark_of (Marks tree.items) place.slot) (callee_named tree.items) found) (sym point) ∙ e) in
          let code_there =
          code_of_site laws (Marks tree.items) items tree.items found is.program is.once (ap (site tree.items) own.slot_is ∙ at) (ap has_code known.0) in
          let back =
          back_lands laws.told (Marks tree.items) items tree.items found code_there own.node (callee_named tree.items) (spot_at tree.items) [] c (same_reached c.frames fits.values) known.0 in
          let same : place_at found.label.slot 1 ≡ place = λ i. record { slot = own.slot_is i; point = sym point i } in (
            back.0,
            ap (λ (p : PlainPlace). get (Gen (Marks tree.items) items tree.items).addresses (place_of p)) (sym same) ∙ back.1,
            back.2,
            subst (Lands (Gen (Marks tree.items) items tree.items).instrs back.0) known.1 back.3,
          )

  -- the step by code is the one by the tree
  exec_is : (tree : PlainTree) (items : ItemMap) (input : List ℕ) (c : PlainConfiguration) → IsTree tree → ScopeTells items tree.items → Fits tree.items c
      → (one : PlainStepAnswer) → Step tree.items input c ≡ Some one → result_of (Exec (Gen (Marks tree.items) items tree.items) input c) ≡ Some one
  exec_is tree items input c is tells fits one e =
      let (frame, there) = newest_there c.frames fits.frames.some in
      let loops : has_loop_room c.frames ≡ true =
      ap (λ (o : Option Frame). option_map_or (λ (f : Frame). nat_lt (length f.loops) most_loops) o false) there
      ∙ lt-ltb (length frame.loops) most_loops (room tree c (newest c.frames) frame is fits there) in
      let top : top_place c.frames ≡ Some (frame_place frame) = ap (option_map frame_place) there in
      let both : (nat_le 1 (length c.frames) && nat_le (length c.frames) most_frames) ≡ true =
      ap (λ (b : Bool). b && nat_le (length c.frames) most_frames) (le-leb 1 (length c.frames) fits.frames.some)
      ∙ le-leb (length c.frames) most_frames fits.frames.few in
      ap (λ (b : Bool). result_of (if b then option_and_then (run_behind (Gen (Marks tree.items) items tree.items) input c) (option_and_then (address_of (Gen (Marks tree.items) items tree.items)) (top_place c.frames)) else None)) both
      ∙ (ap (λ (o : Option PlainPlace). result_of (option_and_then (run_behind (Gen (Marks tree.items) items tree.items) input c) (option_and_then (address_of (Gen (Marks tree.items) items tree.items)) o))) top
      ∙ by (frame_place frame) (spot_at tree.items (frame_place frame)) refl loops
      (ap (λ (o : Option PlainPlace). option_and_then (spot_answer (spot_at tree.items) input c) (option_and_then (spot_at tree.items) o)) (sym top) ∙ e))
    where
      by : (place : PlainPlace) (spot : Option Spot) → spot_at tree.items place ≡ spot → has_loop_room c.frames ≡ true
          → option_and_then (spot_answer (spot_at tree.items) input c) (spot_at tree.items place) ≡ Some one
          → result_of (option_and_then (run_behind (Gen (Marks tree.items) items tree.items) input c) (address_of (Gen (Marks tree.items) items tree.items) place)) ≡ Some one
      by place None at loops e = absurd (none-some one (ap (option_and_then (spot_answer (spot_at tree.items) input c)) (sym at) ∙ e))
      by place (Some spot) at loops e =
          let (address, known, meets) =
          place_runs laws tree.items is.program is.once items tells input c (same_reached c.frames fits.values) loops (callers_land tree items c is fits) place spot at in
          ap (λ (o : Option ℕ). result_of (option_and_then (run_behind (Gen (Marks tree.items) items tree.items) input c) o)) known
          ∙ meets one (ap (option_and_then (spot_answer (spot_at tree.items) input c)) (sym at) ∙ e)

  some_result : {A : Type 0} (fetched : Option (Fetched A)) (a : A) → result_of fetched ≡ Some a → IsSome fetched
  some_result None a e = absurd (none-some a e)
  some_result (Some one) a e = refl

  pub code_steps_as_tree : CodeStepsAsTree
  code_steps_as_tree tree marks items input c is marked tells fits =
      by marks marked (Step tree.items input c) refl (steps tree input c is fits)
    where
      by : (marks : MarkMap) → marks ≡ Marks tree.items → (wanted : Option PlainStepAnswer) → Step tree.items input c ≡ wanted → IsSome (Step tree.items input c)
          → result_of (Exec (Gen marks items tree.items) input c) ≡ Step tree.items input c
      by marks same None e some = absurd (false≢true (ap is_some (sym e) ∙ some))
      by marks same (Some one) e some =
          ap (λ (m : MarkMap). result_of (Exec (Gen m items tree.items) input c)) same
          ∙ (exec_is tree items input c is tells fits one e ∙ sym e)

  pub fitting_runs_exec : FittingRunsExec
  fitting_runs_exec tree marks items input c is marked tells fits =
      by (Step tree.items input c) refl (steps tree input c is fits)
    where
      by : (wanted : Option PlainStepAnswer) → Step tree.items input c ≡ wanted → IsSome (Step tree.items input c) → IsSome (Exec (Gen marks items tree.items) input c)
      by None e some = absurd (false≢true (ap is_some (sym e) ∙ some))
      by (Some one) e some =
          ap (λ (m : MarkMap). is_some (Exec (Gen m items tree.items) input c)) marked
          ∙ some_result (Exec (Gen (Marks tree.items) items tree.items) input c) one (exec_is tree items input c is tells fits one e)
