-- Where a run goes on: a place of the procedure that it is in, in the loops that it keeps, where nothing waits.
-- Behind a node stands the next one, or the place where what encloses it goes on; the induction on the nodes
-- carries that the place behind them is one where the run may go on in the loops around them.
use Rattle.std.specs.Prelude.{◌≡◌, refl, ℕ, suc, ◌<◌, ◌≤◌, ◌==◌, ◌&&◌, ◌||◌, Bool, true, false, if◌then◌else◌, List, [], ◌∷◌, ◌++◌, length, slice_index_or, IsTrue, Option, Some, None}
use Rattle.std.specs.Option.{option_or}
use Rattle.std.proofs.Common.{ap, sym, ◌∙◌, subst, arith, append-nil, inl, inr}
use Rattle.std.proofs.Math.Bool.{false≢true}
use Rattle.std.proofs.lemmas.Option.{none-some, same_Some}
use Rattle.plcs_grammar.specs.declared.node_kind.NodeKind.{NodeKind}
use Rattle.plcs_grammar.specs.declared.node_kind.Sort.{Sort}
use Rattle.plcs_grammar.specs.declared.template.Template.{Template}
use Rattle.plcs_grammar.specs.Template.{program_sections, row_of}
use Rattle.template_tree.specs.Positions.Place.{PlainPlace, Site, Start, begin, end_at, has_point, in_turn, begins_run, inner_end, has_start, passes_in, place_at, place_exists_at, site, site_among, template_end}
use Rattle.template_tree.specs.Programs.PlainTree.{Forest, Label}
use Rattle.template_tree.specs.Programs.Program.{AreNodes, Fill, sort_of, sorts}
use Rattle.template_tree.specs.Programs.Slots.{times}
use Rattle.tree_steps.specs.AgreementLaws.{SlotsStandOnce}
use Rattle.tree_steps.specs.PlaceLaws.{OthersBeginThemselves, SitesStand, StandingSlotsHaveSites}
use Rattle.tree_steps.specs.RunPlace.{HasPlace, is_first_marked}
use Rattle.tree_steps.specs.StandingSlot.{Around, StandsBelow, StandsInside, loop_by_kind, loops_around, outermost_slot}
use Rattle.plcs_store.specs.Fits.{is_waiting_place, loops_at}
use Rattle.plcs_store.proofs.FirstPlace.{begun_starts, same_loops}
use Rattle.plcs_store.proofs.NewRuns.{start_point, starts_no_wait}

-- the laws of the places of a tree
pub record SiteLaws : Type 0 where
  pub found : SitesStand
  pub standing : StandingSlotsHaveSites
  pub others : OthersBeginThemselves
  pub once : SlotsStandOnce

-- a frame of the procedure that keeps these loops may stand at the place, and waits for another there or doesn't
pub record MayStand (program : Forest) (waits : Bool) (procedure : ℕ) (loops : List ℕ) (place : PlainPlace) : Type 0 where
  pub kind : NodeKind
  pub around : Around
  pub stands : StandsInside program place.slot kind around
  pub exists : HasPlace program place
  pub waiting : is_waiting_place kind place.point ≡ waits
  pub start : place.point ≡ 0 → Start program place.slot ≡ Some place
  pub loops_are : loops_at kind around place ≡ loops
  pub procedure_is : outermost_slot place.slot around ≡ procedure

-- a run may go on at the place
abbrev pub GoesOn : (program : Forest) → (procedure : ℕ) → (loops : List ℕ) → PlainPlace → Type 0
GoesOn program procedure loops place = MayStand program false procedure loops place

-- what stands among these nodes, which others enclose, stands in the program
abbrev pub AreWithin : (program : Forest) → (above : Around) → Forest → Type 0
AreWithin program above items = (slot : ℕ) (kind : NodeKind) (around : Around) → StandsBelow above items slot kind around → StandsInside program slot kind around

-- the site is that of a node in the program; a run may go on behind it, if it has a start
pub record Sited (program : Forest) (found : Site) : Type 0 where
  pub around : Around
  pub stands : StandsInside program found.label.slot found.label.kind around
  pub within : AreWithin program ((found.label.slot, found.label.kind) ∷ around) found.inner
  pub after :
      has_start (sort_of found.label.kind) ≡ true
      → GoesOn program (outermost_slot found.label.slot around) (loops_around around) found.after

-- ---- ends of what stands inside a node

-- the point where what stands inside a node goes on is a place of the node, in the loops in which that stood
abbrev EndIsPlace : Label → NodeKind → Option ℕ → Type 0
EndIsPlace label kind None = Unit {0}
EndIsPlace label kind (Some point) =
    ((marked : Bool) → IsTrue ((has_start (sort_of kind) && (point == 0)) || has_point marked label kind point))
    × (is_waiting_place kind point ≡ false)
    × (point ≡ 0 → passes_in kind ≡ false)
    × ((slot : ℕ) → (if point == 1 then loop_by_kind kind slot else []) ≡ loop_by_kind kind slot)

template_end_is_place : (label : Label) (template : Template) → EndIsPlace label (NodeKind.Filled template) (template_end template)
template_end_is_place label Template.While = (λ marked. refl, refl, λ e. refl, λ slot. refl)
template_end_is_place label Template.For = (λ marked. refl, refl, λ e. refl, λ slot. refl)
template_end_is_place label Template.Until = (λ marked. refl, refl, λ e. absurd (omega (arith, e)), λ slot. refl)
template_end_is_place label Template.Proc = (λ marked. refl, refl, λ e. refl, λ slot. refl)
template_end_is_place label Template.ProcP = (λ marked. refl, refl, λ e. refl, λ slot. refl)
template_end_is_place label other = tt

end_is_place : (label : Label) (kind : NodeKind) → EndIsPlace label kind (inner_end kind)
end_is_place label NodeKind.Main = (λ marked. refl, refl, λ e. refl, λ slot. refl)
end_is_place label (NodeKind.Filled template) = template_end_is_place label template
end_is_place label other = tt

-- what has no such point is no loop
abbrev NoLoopWithout : NodeKind → Option ℕ → Type 0
NoLoopWithout kind None = (slot : ℕ) → loop_by_kind kind slot ≡ []
NoLoopWithout kind (Some point) = Unit {0}

template_without_end : (template : Template) → NoLoopWithout (NodeKind.Filled template) (template_end template)
template_without_end Template.While = tt
template_without_end Template.For = tt
template_without_end Template.Until = tt
template_without_end Template.Proc = tt
template_without_end Template.ProcP = tt
template_without_end other = λ slot. refl

without_end : (kind : NodeKind) → NoLoopWithout kind (inner_end kind)
without_end NodeKind.Main = tt
without_end (NodeKind.Filled template) = template_without_end template
without_end other = λ slot. refl

-- ---- the outermost nodes

-- whether the sort is that of the nodes of a program: of main or of procedures
abbrev is_outermost : Sort → Bool
is_outermost Sort.Main = true
is_outermost Sort.Procedure = true
is_outermost Sort.Declaration = false
is_outermost Sort.Statement = false

abbrev AreOutermost : List Sort → Type 0
AreOutermost [] = Unit {0}
AreOutermost (sort ∷ sorts) = (is_outermost sort ≡ true) × AreOutermost sorts

are_outermost : (own : List Sort) → ((k : ℕ) (d : Sort) → k < length own → slice_index_or own k d ≡ Sort.Procedure) → AreOutermost (own ++ [])
are_outermost [] all = tt
are_outermost (sort ∷ own) all =
    (ap is_outermost (all 0 Sort.Procedure (omega arith)), are_outermost own (λ k d few. all (suc k) d (omega (arith, few))))

program_outermost : (items : List Sort) → Fill program_sections items → AreOutermost items
program_outermost items (mains, others, same, main, (own, none, others_same, procedures, nothing)) =
    subst AreOutermost
    (sym (same ∙ ap (λ (front : List Sort). front ++ others) main
    ∙ ap (λ (behind : List Sort). (Sort.Main ∷ []) ++ behind) (others_same ∙ ap (λ (end : List Sort). own ++ end) nothing)))
    (refl, are_outermost own procedures.1)

no_start_outermost : (sort : Sort) → is_outermost sort ≡ true → has_start sort ≡ true → ⊥
no_start_outermost Sort.Main outermost starts = false≢true starts
no_start_outermost Sort.Procedure outermost starts = false≢true starts
no_start_outermost other outermost starts = false≢true outermost

-- what has no point where a run goes on behind what stands inside it has nothing inside
abbrev NothingWithout : NodeKind → Option ℕ → Type 0
NothingWithout kind None = (items : List Sort) → is_outermost (sort_of kind) ≡ true → Fill (row_of kind).sections items → items ≡ []
NothingWithout kind (Some point) = Unit {0}

template_nothing : (template : Template) → NothingWithout (NodeKind.Filled template) (template_end template)
template_nothing Template.While = tt
template_nothing Template.For = tt
template_nothing Template.Until = tt
template_nothing Template.Proc = tt
template_nothing Template.ProcP = tt
template_nothing other = λ items outermost fill. absurd (false≢true outermost)

nothing_without : (kind : NodeKind) → NothingWithout kind (inner_end kind)
nothing_without NodeKind.Main = tt
nothing_without NodeKind.ProcedureHole = λ items outermost fill. fill
nothing_without (NodeKind.Filled template) = template_nothing template
nothing_without other = λ items outermost fill. absurd (false≢true outermost)

-- nodes without sorts are none
abbrev IsEmpty : List Sort → Type 0
IsEmpty [] = Unit {0}
IsEmpty (sort ∷ sorts) = ⊥

no_site_of_none : (slot : ℕ) (turn : Bool) (items : Forest) (behind : PlainPlace) (found : Site) → IsEmpty (sorts items)
    → site_among slot turn items behind ≡ Some found → ⊥
no_site_of_none slot turn Forest.nil behind found empty e = none-some found e
no_site_of_none slot turn (Forest.cons label inner rest) behind found empty e = empty

-- ---- what is found of two

either_found : (within behind : Option Site) (found : Site) (P : Type 0) → option_or within behind ≡ Some found
    → (within ≡ Some found → P) → (behind ≡ Some found → P) → P
either_found None behind found P e one other = other e
either_found (Some there) behind found P e one other = one e

module _ (laws : SiteLaws) (program : Forest) (few : (slot : ℕ) → times slot program ≤ 1) where
  -- what exists at a site of the kind that stands in a slot is a place of the program
  pub place_there : (slot point : ℕ) (kind : NodeKind) (around : Around) → StandsInside program slot kind around
      → ((one : Site) → site program slot ≡ Some one → one.label.kind ≡ kind → IsTrue (place_exists_at (is_first_marked program slot) (Some one) point))
      → HasPlace program (place_at slot point)
  place_there slot point kind around stands exists =
      let has = laws.standing program slot kind around stands in
      let there = laws.found program slot has.0 has.1 in
      let same = laws.once program slot has.0.label.kind kind there.1 around (few slot) there.2 stands in
      subst (λ (one : Option Site). IsTrue (place_exists_at (is_first_marked program slot) one point)) (sym has.1) (exists has.0 has.1 same.0)

  -- a run may go on at the start of what doesn't pass it on
  pub start_goes_on : (slot : ℕ) (kind : NodeKind) (around : Around) → StandsInside program slot kind around
      → has_start (sort_of kind) ≡ true → passes_in kind ≡ false
      → GoesOn program (outermost_slot slot around) (loops_around around) (place_at slot 0)
  start_goes_on slot kind around stands starts stays =
      record {
        kind = kind;
        around = around;
        stands = stands;
        exists =
            place_there slot 0 kind around stands
            (λ one is same.
            start_point (sort_of one.label.kind) (has_point (is_first_marked program slot) one.label one.label.kind 0)
            (ap (λ (k : NodeKind). has_start (sort_of k)) same ∙ starts));
        waiting = starts_no_wait kind;
        start = λ e. laws.others program slot kind around (few slot) stands stays;
        loops_are = append-nil (loops_around around);
        procedure_is = refl;
      }

  -- a run may go on where what stands inside a node does
  pub end_goes_on : (slot : ℕ) (kind : NodeKind) (around : Around) (point : ℕ) → StandsInside program slot kind around
      → inner_end kind ≡ Some point
      → GoesOn program (outermost_slot slot around) (loops_around ((slot, kind) ∷ around)) (place_at slot point)
  end_goes_on slot kind around point stands ends =
      let is : (label : Label) → EndIsPlace label kind (Some point) = λ label. subst (EndIsPlace label kind) ends (end_is_place label kind) in
      let any : Label = record { slot = slot; kind = kind; parts = []; elided = false; spare = 0 } in
      record {
        kind = kind;
        around = around;
        stands = stands;
        exists =
            place_there slot point kind around stands
            (λ one there same.
            subst (λ (k : NodeKind). IsTrue ((has_start (sort_of k) && (point == 0)) || has_point (is_first_marked program slot) one.label k point)) (sym same)
            ((is one.label).0 (is_first_marked program slot)));
        waiting = (is any).1;
        start =
            λ e. laws.others program slot kind around (few slot) stands ((is any).2 e) ∙ ap (λ (p : ℕ). Some (place_at slot p)) (sym e);
        loops_are = ap (λ (own : List ℕ). loops_around around ++ own) ((is any).3 slot);
        procedure_is = refl;
      }

  begin_level : (begins passes : Bool) (G : PlainPlace → Type 0) (one own other : PlainPlace)
      → (passes ≡ true → G one) → (begins ≡ true → passes ≡ false → G own) → G other
      → G (if begins then (if passes then one else own) else other)
  begin_level false passes G one own other inside here later = later
  begin_level true true G one own other inside here later = inside refl
  begin_level true false G one own other inside here later = here refl refl

  -- a run may go on where it begins among nodes that a node encloses
  pub begin_goes_on : (node : ℕ × NodeKind) (above : Around) (items : Forest) (behind : PlainPlace) → AreWithin program (node ∷ above) items
      → GoesOn program (outermost_slot node.0 above) (loops_around (node ∷ above)) behind
      → GoesOn program (outermost_slot node.0 above) (loops_around (node ∷ above)) (begin items behind)
  begin_goes_on node above Forest.nil behind within goes = goes
  begin_goes_on node above (Forest.cons label inner rest) behind within goes =
      begin_level (begins_run (sort_of label.kind)) (passes_in label.kind)
      (GoesOn program (outermost_slot node.0 above) (loops_around (node ∷ above)))
      (begin inner behind) (place_at label.slot 0) (begin rest behind)
      (λ pass.
      let same : loops_around ((label.slot, label.kind) ∷ (node ∷ above)) ≡ loops_around (node ∷ above) = same_loops label.kind label.slot (node ∷ above) pass in
      subst (λ (loops : List ℕ). GoesOn program (outermost_slot node.0 above) loops (begin inner behind)) same
      (begin_goes_on (label.slot, label.kind) (node ∷ above) inner behind (λ slot kind around h. within slot kind around (inr (inl h)))
      (subst (λ (loops : List ℕ). GoesOn program (outermost_slot node.0 above) loops behind) (sym same) goes)))
      (λ begins stays.
      start_goes_on label.slot label.kind (node ∷ above) (within label.slot label.kind (node ∷ above) (inl (refl, refl, refl)))
      (begun_starts (sort_of label.kind) begins) stays)
      (begin_goes_on node above rest behind (λ slot kind around h. within slot kind around (inr (inr h))) goes)

  -- a run may go on behind what stands inside a node, if it may behind the node
  pub inner_goes_on : (end : Option ℕ) (slot : ℕ) (kind : NodeKind) (node : ℕ × NodeKind) (above : Around) (behind : PlainPlace)
      → inner_end kind ≡ end → StandsInside program slot kind (node ∷ above)
      → GoesOn program (outermost_slot node.0 above) (loops_around (node ∷ above)) behind
      → GoesOn program (outermost_slot node.0 above) (loops_around ((slot, kind) ∷ (node ∷ above))) (end_at slot end behind)
  inner_goes_on None slot kind node above behind is stands goes =
      let none : loop_by_kind kind slot ≡ [] = subst (NoLoopWithout kind) is (without_end kind) slot in
      subst (λ (loops : List ℕ). GoesOn program (outermost_slot node.0 above) loops behind)
      (sym (ap (λ (own : List ℕ). loops_around (node ∷ above) ++ own) none ∙ append-nil (loops_around (node ∷ above)))) goes
  inner_goes_on (Some point) slot kind node above behind is stands goes = end_goes_on slot kind (node ∷ above) point stands is

  turn_goes_on : (turn : Bool) (G : PlainPlace → Type 0) (one other : PlainPlace) → G one → G other → G (if turn then one else other)
  turn_goes_on true G one other a b = a
  turn_goes_on false G one other a b = b

  sited_level : (same : Bool) (own : Site) (within behind : Option Site) (found : Site)
      → (same ≡ true → Sited program own) → (within ≡ Some found → Sited program found) → (behind ≡ Some found → Sited program found)
      → (if same then Some own else option_or within behind) ≡ Some found → Sited program found
  sited_level true own within behind found here inside later e = subst (Sited program) (same_Some own found e) (here refl)
  sited_level false own within behind found here inside later e = either_found within behind found (Sited program found) e inside later

  -- a site among nodes that a node encloses
  sited_below : (node : ℕ × NodeKind) (above : Around) (slot : ℕ) (turn : Bool) (items : Forest) (behind : PlainPlace) (found : Site)
      → AreWithin program (node ∷ above) items → GoesOn program (outermost_slot node.0 above) (loops_around (node ∷ above)) behind
      → site_among slot turn items behind ≡ Some found → Sited program found
  sited_below node above slot turn Forest.nil behind found within goes e = absurd (none-some found e)
  sited_below node above slot turn (Forest.cons label inner rest) behind found within goes e =
      let after : PlainPlace = if turn then begin rest behind else behind in
      let within_inner : AreWithin program ((label.slot, label.kind) ∷ (node ∷ above)) inner = λ other kind around h. within other kind around (inr (inl h)) in
      let within_rest : AreWithin program (node ∷ above) rest = λ other kind around h. within other kind around (inr (inr h)) in
      let stands : StandsInside program label.slot label.kind (node ∷ above) = within label.slot label.kind (node ∷ above) (inl (refl, refl, refl)) in
      let goes_after : GoesOn program (outermost_slot node.0 above) (loops_around (node ∷ above)) after =
      turn_goes_on turn (GoesOn program (outermost_slot node.0 above) (loops_around (node ∷ above))) (begin rest behind) behind
      (begin_goes_on node above rest behind within_rest goes) goes in
      let inner_behind : PlainPlace = end_at label.slot (inner_end label.kind) after in
      let inner_turn : Bool = in_turn (row_of label.kind).sections in
      sited_level (label.slot == slot) (record { label = label; inner = inner; after = after })
      (site_among slot inner_turn inner inner_behind) (site_among slot turn rest behind) found
      (λ same. record { around = node ∷ above; stands = stands; within = within_inner; after = λ starts. goes_after })
      (sited_below (label.slot, label.kind) (node ∷ above) slot inner_turn inner inner_behind found within_inner
      (inner_goes_on (inner_end label.kind) label.slot label.kind node above after refl stands goes_after))
      (sited_below node above slot turn rest behind found within_rest goes)
      e

  -- a site inside an outermost node
  sited_inside : (end : Option ℕ) (slot : ℕ) (label : Label) (inner : Forest) (after : PlainPlace) (found : Site)
      → inner_end label.kind ≡ end → is_outermost (sort_of label.kind) ≡ true → Fill (row_of label.kind).sections (sorts inner)
      → StandsInside program label.slot label.kind [] → AreWithin program ((label.slot, label.kind) ∷ []) inner
      → site_among slot (in_turn (row_of label.kind).sections) inner (end_at label.slot end after) ≡ Some found → Sited program found
  sited_inside None slot label inner after found is outermost fill stands within e =
      absurd
      (no_site_of_none slot (in_turn (row_of label.kind).sections) inner after found
      (subst IsEmpty (sym (subst (NothingWithout label.kind) is (nothing_without label.kind) (sorts inner) outermost fill)) tt) e)
  sited_inside (Some point) slot label inner after found is outermost fill stands within e =
      sited_below (label.slot, label.kind) [] slot (in_turn (row_of label.kind).sections) inner (place_at label.slot point) found within
      (end_goes_on label.slot label.kind [] point stands is) e

  -- a site among the outermost nodes, or inside one of them
  sited_outermost : (slot : ℕ) (items : Forest) (behind : PlainPlace) (found : Site) → AreWithin program [] items → AreNodes items
      → AreOutermost (sorts items) → site_among slot false items behind ≡ Some found → Sited program found
  sited_outermost slot Forest.nil behind found within are outermost e = absurd (none-some found e)
  sited_outermost slot (Forest.cons label inner rest) behind found within are outermost e =
      let within_inner : AreWithin program ((label.slot, label.kind) ∷ []) inner = λ other kind around h. within other kind around (inr (inl h)) in
      let within_rest : AreWithin program [] rest = λ other kind around h. within other kind around (inr (inr h)) in
      let stands : StandsInside program label.slot label.kind [] = within label.slot label.kind [] (inl (refl, refl, refl)) in
      sited_level (label.slot == slot) (record { label = label; inner = inner; after = behind })
      (site_among slot (in_turn (row_of label.kind).sections) inner (end_at label.slot (inner_end label.kind) behind))
      (site_among slot false rest behind) found
      (λ same.
      record {
        around = [];
        stands = stands;
        within = within_inner;
        after = λ starts. absurd (no_start_outermost (sort_of label.kind) outermost.0 starts);
      })
      (sited_inside (inner_end label.kind) slot label inner behind found refl outermost.0 are.0.inner stands within_inner)
      (sited_outermost slot rest behind found within_rest are.2 outermost.1)
      e

  pub sited : (slot : ℕ) (found : Site) → AreNodes program → Fill program_sections (sorts program) → site program slot ≡ Some found
      → Sited program found
  sited slot found are listed e =
      sited_outermost slot program (place_at 0 1) found (λ other kind around h. h) are (program_outermost (sorts program) listed) e
