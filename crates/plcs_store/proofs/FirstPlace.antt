-- A run begins in main at a node that doesn't pass it on, in no loop.
-- Behind its declarations a procedure has a statement; only a group, a comment and an Until pass a run on, to a list of
-- statements, and these are no loops that a run keeps.
use Rattle.std.specs.Prelude.{◌≡◌, refl, ℕ, ◌<◌, ◌≤◌, ◌||◌, Bool, true, false, if◌then◌else◌, List, [], ◌∷◌, ◌++◌, length, slice_index_or}
use Rattle.std.proofs.Common.{ap, sym, ◌∙◌, arith, append-nil, inl, inr}
use Rattle.std.proofs.Math.Bool.{false≢true}
use Rattle.plcs_grammar.specs.declared.node_kind.NodeKind.{NodeKind}
use Rattle.plcs_grammar.specs.declared.node_kind.Sort.{Sort}
use Rattle.plcs_grammar.specs.declared.template.Template.{Template}
use Rattle.plcs_grammar.specs.Template.{PlainSection, list_of, procedure_sections, row_of}
use Rattle.template_tree.specs.Positions.Place.{PlainPlace, begin, begins_run, has_start, passes_in, place_at}
use Rattle.template_tree.specs.Programs.PlainTree.{Forest, Label}
use Rattle.template_tree.specs.Programs.Program.{AreNodes, Fill, sort_of, sorts}
use Rattle.tree_steps.specs.StandingSlot.{Around, StandsBelow, loop_by_kind, loops_around, outermost_slot}

-- ---- nodes among which a run begins

-- whether a run begins at one of the sorts
abbrev pub begins_among : List Sort → Bool
begins_among [] = false
begins_among (sort ∷ others) = begins_run sort || begins_among others

or_right : (one other : Bool) → other ≡ true → (one || other) ≡ true
or_right true other e = refl
or_right false other e = e

begins_behind : (own others : List Sort) → begins_among others ≡ true → begins_among (own ++ others) ≡ true
begins_behind [] others e = e
begins_behind (sort ∷ own) others e = or_right (begins_run sort) (begins_among (own ++ others)) (begins_behind own others e)

-- a run begins among what it begins at
list_begins : (sort : Sort) (own others : List Sort) → begins_run sort ≡ true → 1 ≤ length own
    → ((k : ℕ) (d : Sort) → k < length own → slice_index_or own k d ≡ sort) → begins_among (own ++ others) ≡ true
list_begins sort [] others begins some all = absurd (omega (arith, some))
list_begins sort (first ∷ own) others begins some all =
    ap (λ (one : Bool). one || begins_among (own ++ others)) (ap begins_run (all 0 sort (omega (arith, some))) ∙ begins)

filled_begins : (sort : Sort) (sections : List PlainSection) (items : List Sort) → begins_run sort ≡ true → Fill (list_of sort ∷ sections) items
    → begins_among items ≡ true
filled_begins sort sections items begins (own, others, same, are, fill) =
    ap begins_among same ∙ list_begins sort own others begins are.0 are.1

pub procedure_begins : (items : List Sort) → Fill procedure_sections items → begins_among items ≡ true
procedure_begins items (own, others, same, are, rest) = ap begins_among same ∙ begins_behind own others (filled_begins Sort.Statement [] others refl rest)

template_begins : (template : Template) (items : List Sort) → passes_in (NodeKind.Filled template) ≡ true
    → Fill (row_of (NodeKind.Filled template)).sections items → begins_among items ≡ true
template_begins Template.Until items e fill = filled_begins Sort.Statement [] items refl fill
template_begins Template.Group items e fill = filled_begins Sort.Statement [] items refl fill
template_begins Template.Comment items e fill = filled_begins Sort.Statement [] items refl fill
template_begins other items e fill = absurd (false≢true e)

kind_begins : (kind : NodeKind) (items : List Sort) → passes_in kind ≡ true → Fill (row_of kind).sections items → begins_among items ≡ true
kind_begins (NodeKind.Filled template) items e fill = template_begins template items e fill
kind_begins other items e fill = absurd (false≢true e)

-- ---- what passes a run on is no loop

template_no_loop : (template : Template) (slot : ℕ) → passes_in (NodeKind.Filled template) ≡ true → loop_by_kind (NodeKind.Filled template) slot ≡ []
template_no_loop Template.Until slot e = refl
template_no_loop Template.Group slot e = refl
template_no_loop Template.Comment slot e = refl
template_no_loop other slot e = absurd (false≢true e)

no_loop : (kind : NodeKind) (slot : ℕ) → passes_in kind ≡ true → loop_by_kind kind slot ≡ []
no_loop (NodeKind.Filled template) slot e = template_no_loop template slot e
no_loop other slot e = absurd (false≢true e)

pub same_loops : (kind : NodeKind) (slot : ℕ) (around : Around) → passes_in kind ≡ true → loops_around ((slot, kind) ∷ around) ≡ loops_around around
same_loops kind slot around e = ap (λ (loop : List ℕ). loops_around around ++ loop) (no_loop kind slot e) ∙ append-nil (loops_around around)

-- ---- where a run begins

-- a run has a place at the start of what it begins at
pub begun_starts : (sort : Sort) → begins_run sort ≡ true → has_start sort ≡ true
begun_starts Sort.Statement e = refl
begun_starts other e = absurd (false≢true e)

-- a place is the start of one of the nodes that stand in a node, or inside one of them, in the same loops and the same
-- procedure
pub record BeginsIn (outer : ℕ × NodeKind) (above : Around) (items : Forest) (place : PlainPlace) : Type 0 where
  pub start : place.point ≡ 0
  pub kind : NodeKind
  pub within : Around
  pub stands : StandsBelow (outer ∷ above) items place.slot kind within
  pub starts : has_start (sort_of kind) ≡ true
  pub stays : passes_in kind ≡ false
  pub loops : loops_around within ≡ loops_around (outer ∷ above)
  pub procedure : outermost_slot place.slot within ≡ outermost_slot outer.0 above

begin_level : (begins passes : Bool) (outer : ℕ × NodeKind) (above : Around) (label : Label) (inner rest : Forest) (one other : PlainPlace)
    → begins_run (sort_of label.kind) ≡ begins → passes_in label.kind ≡ passes
    → (passes ≡ true → BeginsIn (label.slot, label.kind) (outer ∷ above) inner one)
    → (begins ≡ false → BeginsIn outer above rest other)
    → BeginsIn outer above (Forest.cons label inner rest) (if begins then (if passes then one else place_at label.slot 0) else other)
begin_level false passes outer above label inner rest one other is pass inside later =
    let there = later refl in
    record {
      start = there.start;
      kind = there.kind;
      within = there.within;
      stands = inr (inr there.stands);
      starts = there.starts;
      stays = there.stays;
      loops = there.loops;
      procedure = there.procedure;
    }
begin_level true true outer above label inner rest one other is pass inside later =
    let there = inside refl in
    record {
      start = there.start;
      kind = there.kind;
      within = there.within;
      stands = inr (inl there.stands);
      starts = there.starts;
      stays = there.stays;
      loops = there.loops ∙ same_loops label.kind label.slot (outer ∷ above) pass;
      procedure = there.procedure;
    }
begin_level true false outer above label inner rest one other is pass inside later =
    record {
      start = refl;
      kind = label.kind;
      within = outer ∷ above;
      stands = inl (refl, refl, refl);
      starts = begun_starts (sort_of label.kind) is;
      stays = pass;
      loops = refl;
      procedure = refl;
    }

or_false : (one other : Bool) → one ≡ false → (one || other) ≡ true → other ≡ true
or_false true other e both = absurd (false≢true (sym e))
or_false false other e both = both

pub begins_in : (outer : ℕ × NodeKind) (above : Around) (items : Forest) (behind : PlainPlace) → AreNodes items
    → begins_among (sorts items) ≡ true → BeginsIn outer above items (begin items behind)
begins_in outer above Forest.nil behind are has = absurd (false≢true has)
begins_in outer above (Forest.cons label inner rest) behind are has =
    begin_level (begins_run (sort_of label.kind)) (passes_in label.kind) outer above label inner rest (begin inner behind) (begin rest behind)
    refl refl
    (λ pass. begins_in (label.slot, label.kind) (outer ∷ above) inner behind are.1 (kind_begins label.kind (sorts inner) pass are.0.inner))
    (λ none. begins_in outer above rest behind are.2 (or_false (begins_run (sort_of label.kind)) (begins_among (sorts rest)) none has))
