-- A site is of the node that stands in its slot, and a run that comes to a node with a place at its start begins at such
-- a node in the same loops.
-- Only a group, a comment and an Until pass a run on to what stands inside them; these are no loops that a run keeps,
-- and a run begins at their first item.
use Rattle.std.specs.Prelude.{◌≡◌, refl, ℕ, ◌<◌, ◌≤◌, ◌==◌, ◌&&◌, ◌||◌, IsTrue, Bool, true, false, if◌then◌else◌, List, [], ◌∷◌, ◌++◌, length, slice_index_or, Option, Some, None, option_map, ◌⊎◌}
use Rattle.std.specs.Option.{option_or}
use Rattle.std.proofs.Common.{ap, sym, ◌∙◌, subst, arith, append-nil, inl, inr}
use Rattle.std.proofs.Math.Bool.{false≢true}
use Rattle.std.proofs.lemmas.Bool.{eqb-true, eq-eqb}
use Rattle.std.proofs.lemmas.Option.{none-some}
use Rattle.plcs_grammar.specs.declared.node_kind.NodeKind.{NodeKind}
use Rattle.plcs_grammar.specs.declared.node_kind.Sort.{Sort}
use Rattle.plcs_grammar.specs.declared.template.Template.{Template}
use Rattle.plcs_grammar.specs.Template.{PlainSection, list_of, row_of}
use Rattle.template_tree.specs.Positions.Place.{Exists, PlainPlace, Site, place_at, begin, end_at, place_exists_at, has_point, in_turn, inner_end, begins_run, has_start, passes_in, site_among, site_start}
use Rattle.template_tree.specs.Programs.PlainTree.{Forest, Label}
use Rattle.template_tree.specs.Programs.Slots.{times}
use Rattle.template_tree.specs.Programs.Program.{AreNodes, Fill, IsNode, sort_of, sorts}
use Rattle.tree_steps.specs.PlaceLaws.{OthersBeginThemselves, RunsBegin, SitesStand, StandingSlotsHaveSites}
use Rattle.tree_steps.specs.RunPlace.{BeginsAt, is_first_marked}
use Rattle.tree_steps.specs.StandingSlot.{Around, StandsBelow, StandsInside, loop_by_kind, loops_around, outermost_slot}
use Rattle.tree_steps.proofs.StandingSlots.{outermost_within, stands_once}

-- ---- the site of a slot

-- a site is that of the node in the slot among these nodes, or inside one of them
pub record FoundAt (above : Around) (items : Forest) (slot : ℕ) (found : Site) : Type 0 where
  pub slot_is : found.label.slot ≡ slot
  pub around : Around
  pub stands : StandsBelow above items slot found.label.kind around
  pub within :
      (other : ℕ) (kind : NodeKind) (others : Around)
      → StandsBelow ((found.label.slot, found.label.kind) ∷ around) found.inner other kind others
      → StandsBelow above items other kind others
  pub node : AreNodes items → IsNode found.label (sorts found.inner) × AreNodes found.inner

found_inside : (above : Around) (label : Label) (inner rest : Forest) (slot : ℕ) (found : Site)
    → FoundAt ((label.slot, label.kind) ∷ above) inner slot found → FoundAt above (Forest.cons label inner rest) slot found
found_inside above label inner rest slot found there =
    record {
      slot_is = there.slot_is;
      around = there.around;
      stands = inr (inl there.stands);
      within = λ other kind others h. inr (inl (there.within other kind others h));
      node = λ are. there.node are.1;
    }

found_behind : (above : Around) (label : Label) (inner rest : Forest) (slot : ℕ) (found : Site)
    → FoundAt above rest slot found → FoundAt above (Forest.cons label inner rest) slot found
found_behind above label inner rest slot found there =
    record {
      slot_is = there.slot_is;
      around = there.around;
      stands = inr (inr there.stands);
      within = λ other kind others h. inr (inr (there.within other kind others h));
      node = λ are. there.node are.2;
    }

-- the site with this place behind it
abbrev own_site : Label → Forest → PlainPlace → Site
own_site label inner after = record { label = label; inner = inner; after = after }

found_here : (above : Around) (label : Label) (inner rest : Forest) (slot : ℕ) (after : PlainPlace) → label.slot ≡ slot
    → FoundAt above (Forest.cons label inner rest) slot (own_site label inner after)
found_here above label inner rest slot after same =
    record {
      slot_is = same;
      around = above;
      stands = inl (same, refl, refl);
      within = λ other kind others h. inr (inl h);
      node = λ are. (are.0, are.1);
    }

-- what is there, or else the site
abbrev pub site_there : Site → Option Site → Site
site_there found None = found
site_there found (Some there) = there

-- what is found of two is the one or the other
pub either_found : (within behind : Option Site) (found : Site) → option_or within behind ≡ Some found
    → (within ≡ Some found) ⊎ (behind ≡ Some found)
either_found None behind found e = inr e
either_found (Some one) behind found e = inl e

found_level : (same : Bool) (above : Around) (label : Label) (inner rest : Forest) (slot : ℕ) (after : PlainPlace) (within behind : Option Site) (found : Site)
    → (label.slot == slot) ≡ same
    → (within ≡ Some found → FoundAt ((label.slot, label.kind) ∷ above) inner slot found)
    → (behind ≡ Some found → FoundAt above rest slot found)
    → (if same then Some (own_site label inner after) else option_or within behind) ≡ Some found
    → FoundAt above (Forest.cons label inner rest) slot found
found_level true above label inner rest slot after within behind found same inside later e =
    subst (FoundAt above (Forest.cons label inner rest) slot) (ap (site_there found) e)
    (found_here above label inner rest slot after (eqb-true label.slot slot same))
found_level false above label inner rest slot after within behind found same inside later e =
    elim (either_found within behind found e) as (λ _. FoundAt above (Forest.cons label inner rest) slot found) [
      | inl a ↦ found_inside above label inner rest slot found (inside a)
      | inr b ↦ found_behind above label inner rest slot found (later b)
    ]

pub found_among : (above : Around) (slot : ℕ) (turn : Bool) (items : Forest) (place : PlainPlace) (found : Site)
    → site_among slot turn items place ≡ Some found → FoundAt above items slot found
found_among above slot turn Forest.nil place found e = absurd (none-some found e)
found_among above slot turn (Forest.cons label inner rest) place found e =
    let after : PlainPlace = if turn then begin rest place else place in
    let inner_turn : Bool = in_turn (row_of label.kind).sections in
    found_level (label.slot == slot) above label inner rest slot after
    (site_among slot inner_turn inner (end_at label.slot (inner_end label.kind) after)) (site_among slot turn rest place) found refl
    (found_among ((label.slot, label.kind) ∷ above) slot inner_turn inner (end_at label.slot (inner_end label.kind) after) found)
    (found_among above slot turn rest place found)
    e

pub sites_stand : SitesStand
sites_stand items slot found e =
    let there = found_among [] slot false items (place_at 0 1) found e in
    (there.slot_is, there.around, there.stands)

-- ---- a slot that stands has a site

abbrev HasSite : Option Site → Type 0
HasSite found = (one : Site) × (found ≡ Some one)

either_has : (within behind : Option Site) → HasSite within ⊎ HasSite behind → HasSite (option_or within behind)
either_has None behind (inl h) = absurd (none-some h.0 h.1)
either_has None behind (inr h) = h
either_has (Some one) behind h = (one, refl)

level_has : (same : Bool) (own : Site) (within behind : Option Site) → (same ≡ true) ⊎ (HasSite within ⊎ HasSite behind)
    → HasSite (if same then Some own else option_or within behind)
level_has true own within behind h = (own, refl)
level_has false own within behind (inl e) = absurd (false≢true e)
level_has false own within behind (inr h) = either_has within behind h

among_has : (above : Around) (slot : ℕ) (turn : Bool) (items : Forest) (place : PlainPlace) (kind : NodeKind) (around : Around)
    → StandsBelow above items slot kind around → HasSite (site_among slot turn items place)
among_has above slot turn Forest.nil place kind around h = absurd h
among_has above slot turn (Forest.cons label inner rest) place kind around (inl h) =
    let after : PlainPlace = if turn then begin rest place else place in
    let inner_turn : Bool = in_turn (row_of label.kind).sections in
    level_has (label.slot == slot) (own_site label inner after)
    (site_among slot inner_turn inner (end_at label.slot (inner_end label.kind) after)) (site_among slot turn rest place)
    (inl (eq-eqb label.slot slot h.0))
among_has above slot turn (Forest.cons label inner rest) place kind around (inr (inl h)) =
    let after : PlainPlace = if turn then begin rest place else place in
    let inner_turn : Bool = in_turn (row_of label.kind).sections in
    level_has (label.slot == slot) (own_site label inner after)
    (site_among slot inner_turn inner (end_at label.slot (inner_end label.kind) after)) (site_among slot turn rest place)
    (inr (inl (among_has ((label.slot, label.kind) ∷ above) slot inner_turn inner (end_at label.slot (inner_end label.kind) after) kind around h)))
among_has above slot turn (Forest.cons label inner rest) place kind around (inr (inr h)) =
    let after : PlainPlace = if turn then begin rest place else place in
    let inner_turn : Bool = in_turn (row_of label.kind).sections in
    level_has (label.slot == slot) (own_site label inner after)
    (site_among slot inner_turn inner (end_at label.slot (inner_end label.kind) after)) (site_among slot turn rest place)
    (inr (inr (among_has above slot turn rest place kind around h)))

pub standing_slots_have_sites : StandingSlotsHaveSites
standing_slots_have_sites items slot kind around h = among_has [] slot false items (place_at 0 1) kind around h

-- ---- where a run begins

-- a run begins at the first of the sorts
abbrev StartsRun : List Sort → Type 0
StartsRun [] = ⊥
StartsRun (sort ∷ others) = begins_run sort ≡ true

-- a list of what a run begins at starts one
list_starts : (sort : Sort) (own others : List Sort) → begins_run sort ≡ true → 1 ≤ length own
    → ((k : ℕ) (d : Sort) → k < length own → slice_index_or own k d ≡ sort) → StartsRun (own ++ others)
list_starts sort [] others begins some all = absurd (omega (arith, some))
list_starts sort (first ∷ own) others begins some all = ap begins_run (all 0 sort (omega (arith, some))) ∙ begins

filled_starts : (sort : Sort) (sections : List PlainSection) (items : List Sort) → begins_run sort ≡ true → Fill (list_of sort ∷ sections) items
    → StartsRun items
filled_starts sort sections items begins (own, others, same, are, fill) =
    subst StartsRun (sym same) (list_starts sort own others begins are.0 are.1)

template_starts : (template : Template) (items : List Sort) → passes_in (NodeKind.Filled template) ≡ true
    → Fill (row_of (NodeKind.Filled template)).sections items → StartsRun items
template_starts Template.Until items e fill = filled_starts Sort.Statement [] items refl fill
template_starts Template.Group items e fill = filled_starts Sort.Statement [] items refl fill
template_starts Template.Comment items e fill = filled_starts Sort.Statement [] items refl fill
template_starts other items e fill = absurd (false≢true e)

-- what passes a run on to its first item has one there at which a run begins
kind_starts : (kind : NodeKind) (items : List Sort) → passes_in kind ≡ true → Fill (row_of kind).sections items → StartsRun items
kind_starts (NodeKind.Filled template) items e fill = template_starts template items e fill
kind_starts other items e fill = absurd (false≢true e)

template_no_loop : (template : Template) (slot : ℕ) → passes_in (NodeKind.Filled template) ≡ true → loop_by_kind (NodeKind.Filled template) slot ≡ []
template_no_loop Template.Until slot e = refl
template_no_loop Template.Group slot e = refl
template_no_loop Template.Comment slot e = refl
template_no_loop other slot e = absurd (false≢true e)

-- what passes a run on to its first item is no loop that it keeps
no_loop : (kind : NodeKind) (slot : ℕ) → passes_in kind ≡ true → loop_by_kind kind slot ≡ []
no_loop (NodeKind.Filled template) slot e = template_no_loop template slot e
no_loop other slot e = absurd (false≢true e)

-- what stands in it has the same loops around it
same_loops : (kind : NodeKind) (slot : ℕ) (around : Around) → passes_in kind ≡ true → loops_around ((slot, kind) ∷ around) ≡ loops_around around
same_loops kind slot around e = ap (λ (loop : List ℕ). loops_around around ++ loop) (no_loop kind slot e) ∙ append-nil (loops_around around)

-- a run has a place at the start of what it begins at
begun_starts : (sort : Sort) → begins_run sort ≡ true → has_start sort ≡ true
begun_starts Sort.Statement e = refl
begun_starts other e = absurd (false≢true e)

-- a place is the start of one of these nodes, or inside one of them, in the same loops
record BeginsBelow (above : Around) (items : Forest) (place : PlainPlace) : Type 0 where
  start : place.point ≡ 0
  kind : NodeKind
  within : Around
  stands : StandsBelow above items place.slot kind within
  starts : has_start (sort_of kind) ≡ true
  stays : passes_in kind ≡ false
  loops : loops_around within ≡ loops_around above

-- the first node is where a run begins, or passes it on
begin_level : (begins passes : Bool) (above : Around) (label : Label) (inner rest : Forest) (one other : PlainPlace)
    → begins ≡ true → passes_in label.kind ≡ passes → has_start (sort_of label.kind) ≡ true
    → (passes ≡ true → BeginsBelow ((label.slot, label.kind) ∷ above) inner one)
    → BeginsBelow above (Forest.cons label inner rest) (if begins then (if passes then one else place_at label.slot 0) else other)
begin_level false passes above label inner rest one other is pass starts inside = absurd (false≢true is)
begin_level true true above label inner rest one other is pass starts inside =
    let there = inside refl in
    record {
      start = there.start;
      kind = there.kind;
      within = there.within;
      stands = inr (inl there.stands);
      starts = there.starts;
      stays = there.stays;
      loops = there.loops ∙ same_loops label.kind label.slot above pass;
    }
begin_level true false above label inner rest one other is pass starts inside =
    record { start = refl; kind = label.kind; within = above; stands = inl (refl, refl, refl); starts = starts; stays = pass; loops = refl }

begin_below : (above : Around) (items : Forest) (behind : PlainPlace) → AreNodes items → StartsRun (sorts items)
    → BeginsBelow above items (begin items behind)
begin_below above Forest.nil behind are starts = absurd starts
begin_below above (Forest.cons label inner rest) behind are starts =
    begin_level (begins_run (sort_of label.kind)) (passes_in label.kind) above label inner rest (begin inner behind) (begin rest behind) starts
    refl (begun_starts (sort_of label.kind) starts)
    (λ pass. begin_below ((label.slot, label.kind) ∷ above) inner behind are.1 (kind_starts label.kind (sorts inner) pass are.0.inner))

-- what has a start has a place at point 0
pub start_point : (sort : Sort) (others : Bool) → has_start sort ≡ true → IsTrue ((has_start sort && true) || others)
start_point sort others e = ap (λ (starts : Bool). (starts && true) || others) e

-- the start of what stands but once and has one is a place, whatever is marked
starts_exist : (marked : ℕ → Bool) (items : Forest) (place : PlainPlace) (kind : NodeKind) (around : Around) → times place.slot items ≤ 1
    → place.point ≡ 0 → StandsInside items place.slot kind around → has_start (sort_of kind) ≡ true → Exists marked items place
starts_exist marked items place kind around once start stands starts =
    let has = standing_slots_have_sites items place.slot kind around stands in
    let found : Site = has.0 in
    let there : FoundAt [] items place.slot found = found_among [] place.slot false items (place_at 0 1) found has.1 in
    let same = stands_once [] items place.slot found.label.kind kind there.around around once there.stands stands in
    subst (λ (site : Option Site). IsTrue (place_exists_at (marked place.slot) site place.point)) (sym has.1)
    (subst (λ (point : ℕ). IsTrue (place_exists_at (marked place.slot) (Some found) point)) (sym start)
    (start_point (sort_of found.label.kind) (has_point (marked place.slot) found.label found.label.kind 0)
    (ap (λ (one : NodeKind). has_start (sort_of one)) same.0 ∙ starts)))

-- a run that comes to the node at a site begins there, or is passed on
site_begins : (passes : Bool) (items : Forest) (slot : ℕ) (found : Site) (there : FoundAt [] items slot found) → AreNodes items
    → ((other : ℕ) → times other items ≤ 1) → passes_in found.label.kind ≡ passes → has_start (sort_of found.label.kind) ≡ true
    → BeginsAt items slot there.around (if passes then begin found.inner found.after else place_at found.label.slot 0)
site_begins true items slot found there are once pass starts =
    let node = there.node are in
    let above : Around = (found.label.slot, found.label.kind) ∷ there.around in
    let place : PlainPlace = begin found.inner found.after in
    let begins : BeginsBelow above found.inner place =
    begin_below above found.inner found.after node.1 (kind_starts found.label.kind (sorts found.inner) pass node.0.inner) in
    let stands : StandsInside items place.slot begins.kind begins.within =
    there.within place.slot begins.kind begins.within begins.stands in
    record {
      start = begins.start;
      kind = begins.kind;
      within = begins.within;
      stands = stands;
      starts = begins.starts;
      stays = begins.stays;
      exists =
          starts_exist (is_first_marked items) items place begins.kind begins.within (once place.slot) begins.start stands begins.starts;
      loops = begins.loops ∙ same_loops found.label.kind found.label.slot there.around pass;
      procedure =
          outermost_within found.inner there.around (found.label.slot, found.label.kind) place.slot begins.kind begins.within begins.stands
          ∙ ap (λ (own : ℕ). outermost_slot own there.around) there.slot_is;
    }
site_begins false items slot found there are once pass starts =
    let stands : StandsInside items found.label.slot found.label.kind there.around =
    subst (λ (own : ℕ). StandsInside items own found.label.kind there.around) (sym there.slot_is) there.stands in
    record {
      start = refl;
      kind = found.label.kind;
      within = there.around;
      stands = stands;
      starts = starts;
      stays = pass;
      exists =
          starts_exist (is_first_marked items) items (place_at found.label.slot 0) found.label.kind there.around (once found.label.slot) refl stands
          starts;
      loops = refl;
      procedure = ap (λ (own : ℕ). outermost_slot own there.around) there.slot_is;
    }

pub runs_begin : RunsBegin
runs_begin tree slot kind around is stands starts =
    let has = standing_slots_have_sites tree.items slot kind around stands in
    let found : Site = has.0 in
    let there : FoundAt [] tree.items slot found = found_among [] slot false tree.items (place_at 0 1) found has.1 in
    let same = stands_once [] tree.items slot found.label.kind kind there.around around (is.once slot) there.stands stands in (
      site_start found,
      ap (option_map site_start) has.1,
      subst (λ (a : Around). BeginsAt tree.items slot a (site_start found)) same.1
          (site_begins (passes_in found.label.kind) tree.items slot found there is.program.sound is.once refl
          (ap (λ (one : NodeKind). has_start (sort_of one)) same.0 ∙ starts)),
    )

plain_start : (found : Site) → passes_in found.label.kind ≡ false → site_start found ≡ place_at found.label.slot 0
plain_start found e = rw e refl

pub others_begin_themselves : OthersBeginThemselves
others_begin_themselves items slot kind around once stands pass =
    let has = standing_slots_have_sites items slot kind around stands in
    let found : Site = has.0 in
    let there : FoundAt [] items slot found = found_among [] slot false items (place_at 0 1) found has.1 in
    let same = stands_once [] items slot found.label.kind kind there.around around once there.stands stands in
    ap (option_map site_start) has.1
    ∙ ap Some (plain_start found (ap passes_in same.0 ∙ pass) ∙ ap (λ (own : ℕ). place_at own 0) there.slot_is)
