-- Places look at neither room nor elision.
-- A site is found by slots, and where a run begins by kinds; both are in the substance of nodes. Marks are the same
-- since the verdicts are.
use Rattle.std.specs.Prelude.{◌≡◌, ◌↔◌, refl, ℕ, ◌==◌, Bool, true, false, if◌then◌else◌, Option, Some, None, option_map, is_some, IsTrue}
use Rattle.std.specs.FinMap.{get}
use Rattle.std.specs.Option.{option_or}
use Rattle.std.proofs.Common.{ap, sym, ◌∙◌, subst}
use Rattle.plcs_grammar.specs.Template.{row_of}
use Rattle.template_tree.specs.Checks.Marks.{VerdictMap, Verdicts, offences}
use Rattle.template_tree.specs.Checks.Mention.{phrase_at}
use Rattle.template_tree.specs.Positions.Place.{Exists, PlainPlace, Site, place_at, begin, end_at, place_exists_at, in_turn, inner_end, begins_run, passes_in, site, site_among, site_start}
use Rattle.template_tree.specs.Programs.PlainTree.{Forest, Label}
use Rattle.template_tree.specs.Programs.Program.{sort_of}
use Rattle.tree_steps.specs.EditStep.{substance}
use Rattle.tree_steps.specs.RunPlace.{HasPlace, PlacesAlike, SitesAlike, is_first_marked, site_substance}

-- ---- where a run begins

pub begin_same : (items : Forest) (behind : PlainPlace) → begin (substance items) behind ≡ begin items behind
begin_same Forest.nil behind = refl
begin_same (Forest.cons label inner rest) behind =
    λ i. if begins_run (sort_of label.kind)
    then (if passes_in label.kind then begin_same inner behind i else place_at label.slot 0)
    else begin_same rest behind i

-- ---- sites

-- what is found inside or behind
either_same : (within behind : Option Site) → option_or (option_map site_substance within) (option_map site_substance behind)
    ≡ option_map site_substance (option_or within behind)
either_same None behind = refl
either_same (Some found) behind = refl

-- the node itself, or what is found inside or behind
found_same : (here : Bool) (own : Site) (within within' behind behind' : Option Site)
    → within' ≡ option_map site_substance within → behind' ≡ option_map site_substance behind
    → (if here then Some (site_substance own) else option_or within' behind')
    ≡ option_map site_substance (if here then Some own else option_or within behind)
found_same true own within within' behind behind' a b = refl
found_same false own within within' behind behind' a b = (λ i. option_or (a i) (b i)) ∙ either_same within behind

-- where a run goes on behind a node
after_same : (turn : Bool) (rest : Forest) (behind : PlainPlace)
    → (if turn then begin (substance rest) behind else behind) ≡ (if turn then begin rest behind else behind)
after_same turn rest behind = ap (λ (place : PlainPlace). if turn then place else behind) (begin_same rest behind)

-- the site with this place behind it
abbrev own_site : Label → Forest → PlainPlace → Site
own_site label inner after = record { label = label; inner = inner; after = after }

among_same : (slot : ℕ) (turn : Bool) (items : Forest) (behind : PlainPlace)
    → site_among slot turn (substance items) behind ≡ option_map site_substance (site_among slot turn items behind)
among_same slot turn Forest.nil behind = refl
among_same slot turn (Forest.cons label inner rest) behind =
    let after : PlainPlace = if turn then begin rest behind else behind in
    let inner_turn : Bool = in_turn (row_of label.kind).sections in
    ap (λ (place : PlainPlace).
    if label.slot == slot
    then Some (own_site (record label { elided = false; spare = 0 }) (substance inner) place)
    else option_or (site_among slot inner_turn (substance inner) (end_at label.slot (inner_end label.kind) place))
    (site_among slot turn (substance rest) behind))
    (after_same turn rest behind)
    ∙ found_same (label.slot == slot) (own_site label inner after)
    (site_among slot inner_turn inner (end_at label.slot (inner_end label.kind) after))
    (site_among slot inner_turn (substance inner) (end_at label.slot (inner_end label.kind) after))
    (site_among slot turn rest behind) (site_among slot turn (substance rest) behind)
    (among_same slot inner_turn inner (end_at label.slot (inner_end label.kind) after)) (among_same slot turn rest behind)

site_same : (items : Forest) (slot : ℕ) → site (substance items) slot ≡ option_map site_substance (site items slot)
site_same items slot = among_same slot false items (place_at 0 1)

-- ---- what is seen of a site

substance_once : (items : Forest) → substance (substance items) ≡ substance items
substance_once Forest.nil = refl
substance_once (Forest.cons label inner rest) =
    λ i. Forest.cons (record label { elided = false; spare = 0 }) (substance_once inner i) (substance_once rest i)

found_once : (found : Option Site) → option_map site_substance (option_map site_substance found) ≡ option_map site_substance found
found_once None = refl
found_once (Some found) = λ i. Some (own_site (record found.label { elided = false; spare = 0 }) (substance_once found.inner i) found.after)

start_same : (found : Option Site) → option_map site_start (option_map site_substance found) ≡ option_map site_start found
start_same None = refl
start_same (Some found) =
    λ i. Some (if passes_in found.label.kind then begin_same found.inner found.after i else place_at found.label.slot 0)

behind_same : (found : Option Site)
    → option_map (λ (s : Site). s.after) (option_map site_substance found) ≡ option_map (λ (s : Site). s.after) found
behind_same None = refl
behind_same (Some found) = refl

exists_same : (marked : Bool) (found : Option Site) (point : ℕ)
    → place_exists_at marked (option_map site_substance found) point ≡ place_exists_at marked found point
exists_same marked None point = refl
exists_same marked (Some found) point = refl

-- what is seen of a site alike is seen alike in programs of the same substance
seen_same : {A : Type 0} (see : Option Site → A) → ((found : Option Site) → see (option_map site_substance found) ≡ see found)
    → (one other : Forest) → substance one ≡ substance other → (slot : ℕ) → see (site one slot) ≡ see (site other slot)
seen_same see same one other e slot =
    sym (same (site one slot))
    ∙ (ap see (sym (site_same one slot) ∙ (ap (λ (items : Forest). site items slot) e ∙ site_same other slot))
    ∙ same (site other slot))

-- ---- the laws

both_ways : {A B : Type 0} → A ≡ B → A ↔ B
both_ways same = (subst (λ (T : Type 0). T) same, subst (λ (T : Type 0). T) (sym same))

first_marked_same : (one other : Forest) → Verdicts one ≡ Verdicts other → (slot : ℕ) → is_first_marked one slot ≡ is_first_marked other slot
first_marked_same one other same slot =
    ap (λ (verdicts : VerdictMap). is_some (get (offences verdicts) (phrase_at slot 0))) same

exist_same : (one other : Forest) → substance one ≡ substance other → (marked : ℕ → Bool) (place : PlainPlace)
    → Exists marked one place ≡ Exists marked other place
exist_same one other e marked place =
    ap IsTrue
    (seen_same (λ (found : Option Site). place_exists_at (marked place.slot) found place.point) (λ found. exists_same (marked place.slot) found place.point)
    one other e place.slot)

own_same : (one other : Forest) → substance one ≡ substance other → Verdicts one ≡ Verdicts other → (place : PlainPlace)
    → HasPlace one place ≡ HasPlace other place
own_same one other e same place =
    exist_same one other e (is_first_marked one) place
    ∙ ap (λ (marked : Bool). IsTrue (place_exists_at marked (site other place.slot) place.point)) (first_marked_same one other same place.slot)

pub sites_alike : (one other : Forest) → substance one ≡ substance other → SitesAlike one other
sites_alike one other e =
    record {
      sites = seen_same (option_map site_substance) found_once one other e;
      starts = seen_same (option_map site_start) start_same one other e;
      afters = seen_same (option_map (λ (s : Site). s.after)) behind_same one other e;
      exist = λ marked place. both_ways (exist_same one other e marked place);
    }

-- programs of the same substance with the same verdicts have the same places
pub places_alike : (one other : Forest) → substance one ≡ substance other → Verdicts one ≡ Verdicts other → PlacesAlike one other
places_alike one other e same =
    record {
      sites = sites_alike one other e;
      marked = first_marked_same one other same;
      places = λ place. both_ways (own_same one other e same place);
    }
