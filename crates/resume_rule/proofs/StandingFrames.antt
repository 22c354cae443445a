-- `resumed_runs_fit`: where a frame stood in the earlier tree, it stands in the later one.
-- Its slot is live in both, so that the same nodes are around it. What else a place asks for is told by the kind of what
-- stands in its slot, and of a GET by its parts, which can't differ, but at a start; there each of it is as in any
-- template.
use Rattle.std.specs.Prelude.{◌≡◌, refl, ℕ, ◌==◌, nat_lt, not, ◌&&◌, ◌||◌, Bool, true, false, if◌then◌else◌, IsTrue, List, [], ◌∷◌, ◌++◌, map, Option, Some, is_some, option_map, unwrap_or}
use Rattle.std.proofs.Common.{ap, sym, ◌∙◌, subst, arith, inl, inr}
use Rattle.std.proofs.Math.Bool.{false≢true}
use Rattle.std.proofs.lemmas.Bool.{eqb-true, eqb-false, ltb-true}
use Rattle.std.proofs.lemmas.Option.{same_Some}
use Rattle.plcs_base.specs.declared.declared.Declared.{Declared}
use Rattle.plcs_grammar.specs.declared.node_kind.NodeKind.{NodeKind}
use Rattle.plcs_grammar.specs.declared.template.Template.{Template}
use Rattle.plcs_grammar.specs.PlainPhrase.{PlainPhrase, PlainVarRef}
use Rattle.template_tree.specs.Checks.Environment.{Items}
use Rattle.template_tree.specs.Checks.Verdict.{references_offence}
use Rattle.template_tree.specs.Positions.Place.{PlainPlace, Site, Start, has_point, has_start, item_count, place_at, place_exists_at, site}
use Rattle.template_tree.specs.Programs.PlainTree.{Forest, Label, PlainTree}
use Rattle.template_tree.specs.Programs.Program.{sort_of}
use Rattle.template_tree.specs.Programs.Tree.{IsTree}
use Rattle.tree_steps.specs.AgreementLaws.{ProceduresStandOutermost, SlotsStandOnce}
use Rattle.tree_steps.specs.ListVerdict.{ListMarksFollowItems}
use Rattle.tree_steps.specs.PlaceLaws.{AgreementKeepsPlaces, AgreementKeepsStarts, OthersBeginThemselves, SitesStand, StandingSlotsHaveSites}
use Rattle.tree_steps.specs.RunPlace.{BeginsAt, HasPlace, KeepsPoint, KeepsVariables, is_first_marked}
use Rattle.tree_steps.specs.SlotAgreement.{AgreesWith}
use Rattle.tree_steps.specs.StandingSlot.{Around, StandsInside, loop_by_kind, loops_around, outermost_slot}
use Rattle.plcs_store.specs.declared.frame.Frame.{Frame}
use Rattle.plcs_store.specs.Configuration.{frame_at, frame_place}
use Rattle.plcs_store.specs.Fits.{AreVariables, HasLoops, StandsAround, StandsAt, StandsAtStart, is_waiting_place, loops_at, waits_in_template}
use Rattle.plcs_store.specs.Resume.{Parts, asks_for_parts, kind_held, parts_held, resolved_frame, resolved_place}
use Rattle.resume_rule.proofs.AllowedFrames.{IsAllowed}
use Rattle.resume_rule.proofs.SettledEquations.{IsSettled, lists_settled, number_settled, true_settled, truth_settled}

-- the laws of slots and places of trees, of one or of two that agree
pub record TreeLaws : Type 0 where
  pub found : SitesStand
  pub standing : StandingSlotsHaveSites
  pub others : OthersBeginThemselves
  pub once : SlotsStandOnce
  pub procedure : ProceduresStandOutermost
  pub starts : AgreementKeepsStarts
  pub places : AgreementKeepsPlaces
  pub marks : ListMarksFollowItems

-- a frame alone fits the program: where it stands, its cells and its loops
pub record FrameFits (program : Forest) (waits : Bool) (frame : Frame) : Type 0 where
  pub stands : StandsAt program waits frame
  pub cells : AreVariables (Items program frame.procedure.0) frame.cells
  pub loops : HasLoops program frame

-- the newest frame fits the program
abbrev pub NewestFits : (program : Forest) → Frame → Type 0
NewestFits program frame = FrameFits program false frame × StandsAtStart program frame

-- a frame fitted the earlier tree where the slot of its place had the one site, and in the later tree it has the other
record StandsInBoth (earlier later : PlainTree) (waits : Bool) (frame : Frame) (was now : Site) (around : Around) : Type 0 where
  pub was_there : site earlier.items frame.place.slot.0 ≡ Some was
  pub now_there : site later.items frame.place.slot.0 ≡ Some now
  pub stood : StandsInside earlier.items frame.place.slot.0 was.label.kind around
  pub stands : StandsInside later.items frame.place.slot.0 now.label.kind around
  pub exists : HasPlace earlier.items (frame_place frame)
  pub procedure : outermost_slot frame.place.slot.0 around ≡ frame.procedure.0
  pub waiting : is_waiting_place was.label.kind frame.place.point.0 ≡ waits
  pub loops : map (λ kept. kept.slot.0) frame.loops ≡ loops_at was.label.kind around (frame_place frame)

-- ---- starts

-- nothing waits at a start
template_no_wait : (template : Template) → waits_in_template template 0 ≡ false
template_no_wait Template.Call = refl
template_no_wait other = refl

no_wait : (kind : NodeKind) → is_waiting_place kind 0 ≡ false
no_wait (NodeKind.Filled template) = template_no_wait template
no_wait other = refl

-- a template has a point 0 only if it has a start
template_start : (marked : Bool) (label : Label) (template : Template)
    → IsTrue ((has_start (sort_of (NodeKind.Filled template)) && true) || has_point marked label (NodeKind.Filled template) 0)
    → has_start (sort_of (NodeKind.Filled template)) ≡ true
template_start marked label Template.Fixed exists = exists
template_start marked label Template.Bit exists = exists
template_start marked label Template.Char exists = exists
template_start marked label Template.Proc exists = exists
template_start marked label Template.ProcP exists = exists
template_start marked label other exists = refl

kind_start : (marked : Bool) (label : Label) (kind : NodeKind)
    → IsTrue ((has_start (sort_of kind) && true) || has_point marked label kind 0) → has_start (sort_of kind) ≡ true
kind_start marked label (NodeKind.Filled template) exists = template_start marked label template exists
kind_start marked label NodeKind.Assign exists = refl
kind_start marked label NodeKind.StatementHole exists = refl
kind_start marked label other exists = exists

-- ---- the mark of a GET

no_item : (marked : Bool) (point : ℕ) → (point ≡ 0 → ⊥) → IsTrue ((true && (point == 0)) || (not marked && nat_lt point 0)) → ⊥
no_item marked point other exists =
    by (point == 0) (nat_lt point 0) (λ e. other (eqb-true point 0 e)) (λ e. omega (arith, ltb-true point 0 e)) marked exists
  where
    by : (starts few : Bool) → (starts ≡ true → ⊥) → (few ≡ true → ⊥) → (marked : Bool) → IsTrue ((true && starts) || (not marked && few)) → ⊥
    by true few no_start none marked exists = no_start refl
    by false true no_start none marked exists = none refl
    by false false no_start none true exists = false≢true exists
    by false false no_start none false exists = false≢true exists

-- a GET with a point other than its start has a list
listed : (marked : Bool) (parts : List (Option PlainPhrase)) (point : ℕ) → (point ≡ 0 → ⊥)
    → IsTrue ((true && (point == 0)) || (not marked && nat_lt point (item_count parts)))
    → (targets : List PlainVarRef) × (others : List (Option PlainPhrase)) × (parts ≡ Some (PlainPhrase.variable_list targets) ∷ others)
listed marked (Some (PlainPhrase.variable_list targets) ∷ others) point other exists = (targets, others, refl)
listed marked rest point other exists = absurd (no_item marked point other exists)

-- ---- in both trees

module _ (laws : TreeLaws) (earlier later : PlainTree) (is_earlier : IsTree earlier) (is_later : IsTree later) (agrees : AgreesWith earlier later) where
  in_both : (waits : Bool) (frame : Frame) → FrameFits earlier.items waits frame → IsAllowed earlier.items later.items frame
      → (was : Site) × (now : Site) × (around : Around) × StandsInBoth earlier later waits frame was now around
  in_both waits frame fits allowed =
      let slot : ℕ = frame.place.slot.0 in
      let kind : NodeKind = fits.stands.0 in
      let told = fits.stands.2 in
      let was = laws.standing earlier.items slot kind fits.stands.1 told.stands in
      let stood = laws.found earlier.items slot was.0 was.1 in
      let same = laws.once earlier.items slot kind was.0.label.kind fits.stands.1 stood.1 (is_earlier.once slot) told.stands stood.2 in
      let now = allowed.live in
      let stands = laws.found later.items slot now.0 now.1 in
      let alike = agrees.alike slot was.0.label.kind now.0.label.kind stood.1 stands.1 stood.2 stands.2 in (
        was.0,
        now.0,
        stood.1,
        record {
          was_there = was.1;
          now_there = now.1;
          stood = stood.2;
          stands = subst (StandsInside later.items slot now.0.label.kind) (sym alike.1) stands.2;
          exists = told.exists;
          procedure = ap (outermost_slot slot) (sym same.1) ∙ told.procedure;
          waiting = ap (λ (one : NodeKind). is_waiting_place one frame.place.point.0) (sym same.0) ∙ told.waiting;
          loops = fits.loops was.0.label.kind stood.1 stood.2;
        },
      )

  module _ (waits : Bool) (frame : Frame) (was now : Site) (around : Around) (both : StandsInBoth earlier later waits frame was now around)
      (allowed : IsAllowed earlier.items later.items frame) where
    same_kind : kind_held later.items frame.place.slot.0 ≡ kind_held earlier.items frame.place.slot.0 → was.label.kind ≡ now.label.kind
    same_kind same =
        let kind_at : Site → NodeKind = λ found. found.label.kind in
        same_Some was.label.kind now.label.kind
        (sym (ap (option_map kind_at) both.was_there) ∙ sym same ∙ ap (option_map kind_at) both.now_there)

    same_parts : parts_held later.items frame.place.slot.0 ≡ parts_held earlier.items frame.place.slot.0 → was.label.parts ≡ now.label.parts
    same_parts same =
        let parts_at : Site → Parts = λ found. found.label.parts in
        same_Some was.label.parts now.label.parts
        (sym (ap (option_map parts_at) both.was_there) ∙ sym same ∙ ap (option_map parts_at) both.now_there)

    -- what holds at a start, and where the kind is the same, holds
    at_point : {P : Type 0} → IsSettled P → (frame.place.point.0 ≡ 0 → P)
        → ((frame.place.point.0 ≡ 0 → ⊥) → was.label.kind ≡ now.label.kind → P) → P
    at_point settled start same =
        settled (λ fails.
        let other : frame.place.point.0 ≡ 0 → ⊥ = λ is_start. fails (start is_start) in
        allowed.kind other (λ kind. fails (same other (same_kind kind))))

    mark_same : (frame.place.point.0 ≡ 0 → ⊥) → was.label.parts ≡ now.label.parts → was.label.kind ≡ NodeKind.Filled Template.Get
        → is_first_marked earlier.items frame.place.slot.0 ≡ is_first_marked later.items frame.place.slot.0
    mark_same other parts get =
        let slot : ℕ = frame.place.slot.0 in
        let point : ℕ = frame.place.point.0 in
        let own : ℕ = frame.procedure.0 in
        let marked : Bool = is_first_marked earlier.items slot in
        let list =
        listed marked was.label.parts point other
        (subst (λ (kind : NodeKind). IsTrue ((has_start (sort_of kind) && (point == 0)) || has_point marked was.label kind point)) get
        (subst (λ (found : Option Site). IsTrue (place_exists_at marked found point)) both.was_there both.exists)) in
        laws.marks earlier.items slot own was list.0 list.1 (is_earlier.once slot) (is_earlier.once own)
        (laws.procedure earlier.items slot was.label.kind around (is_earlier.once slot) both.stood ∙ ap Some both.procedure) both.was_there list.2
        ∙ ap (λ (items : List Declared). is_some (references_offence items list.0)) (sym allowed.items)
        ∙ sym
        (laws.marks later.items slot own now list.0 list.1 (is_later.once slot) (is_later.once own)
        (laws.procedure later.items slot now.label.kind around (is_later.once slot) both.stands ∙ ap Some both.procedure) both.now_there
        (sym parts ∙ list.2))

    stands_later : StandsAround later.items waits frame now.label.kind around
    stands_later =
        record {
          stands = both.stands;
          exists =
              at_point
              (true_settled (place_exists_at (is_first_marked later.items frame.place.slot.0) (site later.items frame.place.slot.0) frame.place.point.0))
              (λ is_start. kept (inl is_start))
              kept_later;
          procedure = both.procedure;
          waiting =
              at_point (truth_settled (is_waiting_place now.label.kind frame.place.point.0) waits)
              (λ is_start.
              ap (is_waiting_place now.label.kind) is_start ∙ no_wait now.label.kind ∙ sym (no_wait was.label.kind)
              ∙ ap (is_waiting_place was.label.kind) (sym is_start) ∙ both.waiting)
              (λ other kind. ap (λ (one : NodeKind). is_waiting_place one frame.place.point.0) (sym kind) ∙ both.waiting);
        }
      where
        kept : KeepsPoint was.label now.label (is_first_marked earlier.items frame.place.slot.0) (is_first_marked later.items frame.place.slot.0) frame.place.point.0
            → HasPlace later.items (frame_place frame)
        kept keeps =
            laws.places earlier later (is_first_marked earlier.items) (is_first_marked later.items) frame.place.slot.0 frame.place.point.0 was now agrees
            both.was_there both.now_there keeps both.exists

        variables : (frame.place.point.0 ≡ 0 → ⊥) → was.label.kind ≡ NodeKind.Filled Template.Get → was.label.parts ≡ now.label.parts
            → KeepsVariables was.label now.label (is_first_marked earlier.items frame.place.slot.0) (is_first_marked later.items frame.place.slot.0)
        variables other get parts = record { parts = parts; marked = mark_same other parts get }

        -- of a GET the parts can't differ either
        kept_later : (frame.place.point.0 ≡ 0 → ⊥) → was.label.kind ≡ now.label.kind → HasPlace later.items (frame_place frame)
        kept_later other kind =
            true_settled (place_exists_at (is_first_marked later.items frame.place.slot.0) (site later.items frame.place.slot.0) frame.place.point.0)
            (λ fails.
            fails
            (kept
            (inr (
              kind,
              λ get.
                  let kind_at : Site → NodeKind = λ found. found.label.kind in
                  absurd
                  (allowed.parts other was.label.kind (ap (option_map kind_at) both.was_there) (ap asks_for_parts get)
                  (λ parts. fails (kept (inr (kind, λ also. variables other get (same_parts parts)))))),
            ))))

    -- at a start the loops are those around it
    start_loops : (kind : NodeKind) → frame.place.point.0 ≡ 0 → loops_at kind around (frame_place frame) ≡ loops_around around ++ []
    start_loops kind is_start = ap (λ (point : ℕ). loops_around around ++ (if point == 1 then loop_by_kind kind frame.place.slot.0 else [])) is_start

    loops_later : HasLoops later.items frame
    loops_later kind other stands =
        let same = laws.once later.items frame.place.slot.0 now.label.kind kind around other (is_later.once frame.place.slot.0) both.stands stands in
        both.loops
        ∙ at_point
        (lists_settled number_settled (loops_at was.label.kind around (frame_place frame)) (loops_at now.label.kind around (frame_place frame)))
        (λ is_start. start_loops was.label.kind is_start ∙ sym (start_loops now.label.kind is_start))
        (λ other_point kind_same. ap (λ (one : NodeKind). loops_at one around (frame_place frame)) kind_same)
        ∙ (λ i. loops_at (same.0 i) (same.1 i) (frame_place frame))

    -- a run that stood at the start of the slot begins there
    begins : frame.place.point.0 ≡ 0
        → (place : PlainPlace) × (Start later.items frame.place.slot.0 ≡ Some place) × BeginsAt later.items frame.place.slot.0 around place
    begins is_start =
        let marked : Bool = is_first_marked earlier.items frame.place.slot.0 in
        laws.starts earlier later frame.place.slot.0 was.label.kind now.label.kind around around is_later agrees both.stood both.stands
        (kind_start marked was.label was.label.kind
        (subst (λ (point : ℕ). IsTrue (place_exists_at marked (Some was) point)) is_start
        (subst (λ (found : Option Site). IsTrue (place_exists_at marked found frame.place.point.0)) both.was_there both.exists)))

    begun_fits : (place : PlainPlace) → frame.place.point.0 ≡ 0 → BeginsAt later.items frame.place.slot.0 around place
        → AreVariables (Items later.items frame.procedure.0) frame.cells → NewestFits later.items (frame_at place frame)
    begun_fits place is_start begun cells = (
      record {
        stands = (
          begun.kind,
          begun.within,
          record {
            stands = begun.stands;
            exists = begun.exists;
            procedure = begun.procedure ∙ both.procedure;
            waiting = ap (is_waiting_place begun.kind) begun.start ∙ no_wait begun.kind;
          },
        );
        cells = cells;
        loops =
            λ kind other stands.
            let same = laws.once later.items place.slot begun.kind kind begun.within other (is_later.once place.slot) begun.stands stands in
            both.loops ∙ start_loops was.label.kind is_start ∙ ap (λ (loops : List ℕ). loops ++ []) (sym begun.loops)
            ∙ sym (ap (λ (point : ℕ). loops_around begun.within ++ (if point == 1 then loop_by_kind begun.kind place.slot else [])) begun.start)
            ∙ (λ i. loops_at (same.0 i) (same.1 i) place);
      },
      λ start.
          laws.others later.items place.slot begun.kind begun.within (is_later.once place.slot) begun.stands begun.stays
          ∙ ap (λ (point : ℕ). Some (place_at place.slot point)) (sym begun.start),
    )

  -- a frame that isn't the newest fits the later tree where it stands
  pub frame_still_fits : (waits : Bool) (frame : Frame) → FrameFits earlier.items waits frame → IsAllowed earlier.items later.items frame
      → FrameFits later.items waits frame
  frame_still_fits waits frame fits allowed =
      let both = in_both waits frame fits allowed in
      record {
        stands = (both.1.label.kind, both.2, stands_later waits frame both.0 both.1 both.2 both.3 allowed);
        cells = subst (λ (items : List Declared). AreVariables items frame.cells) (sym allowed.items) fits.cells;
        loops = loops_later waits frame both.0 both.1 both.2 both.3 allowed;
      }

  -- the newest frame fits it where a run goes on
  pub newest_fits : (frame : Frame) → FrameFits earlier.items false frame → IsAllowed earlier.items later.items frame
      → NewestFits later.items (resolved_frame later.items frame)
  newest_fits frame fits allowed = by (frame.place.point.0 == 0) refl
    where
      by : (starts : Bool) → (frame.place.point.0 == 0) ≡ starts → NewestFits later.items (resolved_frame later.items frame)
      by true is =
          let both = in_both false frame fits allowed in
          let is_start : frame.place.point.0 ≡ 0 = eqb-true frame.place.point.0 0 is in
          let begun = begins false frame both.0 both.1 both.2 both.3 allowed is_start in
          let resolves : resolved_place later.items (frame_place frame) ≡ begun.0 =
          (λ i. if is i then unwrap_or (begun.1 i) (frame_place frame) else frame_place frame) in
          subst (λ (place : PlainPlace). NewestFits later.items (frame_at place frame)) (sym resolves)
          (begun_fits false frame both.0 both.1 both.2 both.3 allowed begun.0 is_start begun.2
          (subst (λ (items : List Declared). AreVariables items frame.cells) (sym allowed.items) fits.cells))
      by false is =
          let resolves : resolved_place later.items (frame_place frame) ≡ frame_place frame =
          (λ i. if is i then unwrap_or (Start later.items frame.place.slot.0) (frame_place frame) else frame_place frame) in
          subst (λ (place : PlainPlace). NewestFits later.items (frame_at place frame)) (sym resolves)
          (frame_still_fits false frame fits allowed, λ is_start. absurd (eqb-false frame.place.point.0 0 is is_start))
