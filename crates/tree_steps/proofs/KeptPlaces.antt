-- Trees that agree keep loops, starts and places.
-- A slot that is live in both has one sort and the same nodes around it; what else a place asks for is the kind, and in
-- a GET the parts and the mark.
use Rattle.std.specs.Prelude.{◌≡◌, refl, ℕ, ◌==◌, ◌&&◌, ◌||◌, Bool, true, false, not, nat_lt, [], Some, IsTrue}
use Rattle.std.proofs.Common.{ap, sym, ◌∙◌, subst, inl, inr}
use Rattle.plcs_grammar.specs.declared.node_kind.NodeKind.{NodeKind}
use Rattle.plcs_grammar.specs.declared.template.Template.{Template}
use Rattle.template_tree.specs.Positions.Place.{Site, place_at, place_exists_at, has_point, has_start, item_count}
use Rattle.template_tree.specs.Programs.PlainTree.{Label}
use Rattle.template_tree.specs.Programs.Program.{sort_of}
use Rattle.tree_steps.specs.PlaceLaws.{AgreementKeepsLoops, AgreementKeepsPlaces, AgreementKeepsStarts}
use Rattle.tree_steps.specs.RunPlace.{BeginsAt, KeepsPoint, KeepsVariables}
use Rattle.tree_steps.specs.StandingSlot.{Around, loops_around}
use Rattle.tree_steps.proofs.SitedSlots.{found_among, runs_begin, start_point}

pub agreement_keeps_loops : AgreementKeepsLoops
agreement_keeps_loops earlier later slot was now one other agrees stood stands = ap loops_around (agrees.alike slot was now one other stood stands).1

pub agreement_keeps_starts : AgreementKeepsStarts
agreement_keeps_starts earlier later slot was now one other is agrees stood stands starts =
    let same = agrees.alike slot was now one other stood stands in
    let begins = runs_begin later slot now other is stands (ap has_start (sym same.0) ∙ starts) in
    (begins.0, begins.1, subst (λ (a : Around). BeginsAt later.items slot a begins.0) (sym same.1) begins.2)

-- ---- places

-- a template has a place at point 0 only at its start
template_start : (marked : Bool) (label : Label) (template : Template)
    → IsTrue ((has_start (sort_of (NodeKind.Filled template)) && true) || has_point marked label (NodeKind.Filled template) 0)
    → has_start (sort_of (NodeKind.Filled template)) ≡ true
template_start marked label Template.Fixed h = h
template_start marked label Template.Bit h = h
template_start marked label Template.Char h = h
template_start marked label Template.Proc h = h
template_start marked label Template.ProcP h = h
template_start marked label other h = refl

-- a node with a place at point 0 has a start
kind_start : (marked : Bool) (label : Label) (kind : NodeKind)
    → IsTrue ((has_start (sort_of kind) && true) || has_point marked label kind 0) → has_start (sort_of kind) ≡ true
kind_start marked label (NodeKind.Filled template) h = template_start marked label template h
kind_start marked label NodeKind.Assign h = refl
kind_start marked label NodeKind.StatementHole h = refl
kind_start marked label other h = h

-- only a GET looks at its parts and its mark
template_points : (was_marked is_marked : Bool) (one other : Label) (template : Template) (point : ℕ)
    → (NodeKind.Filled template ≡ NodeKind.Filled Template.Get → KeepsVariables one other was_marked is_marked)
    → has_point was_marked one (NodeKind.Filled template) point ≡ has_point is_marked other (NodeKind.Filled template) point
template_points was_marked is_marked one other Template.Get point keeps =
    let kept = keeps refl in λ i. not (kept.marked i) && nat_lt point (item_count (kept.parts i))
template_points was_marked is_marked one other template point keeps = refl

kind_points : (was_marked is_marked : Bool) (one other : Label) (kind : NodeKind) (point : ℕ)
    → (kind ≡ NodeKind.Filled Template.Get → KeepsVariables one other was_marked is_marked)
    → has_point was_marked one kind point ≡ has_point is_marked other kind point
kind_points was_marked is_marked one other (NodeKind.Filled template) point keeps =
    template_points was_marked is_marked one other template point keeps
kind_points was_marked is_marked one other kind point keeps = refl

place_kept : (was_marked is_marked : Bool) (point : ℕ) (one other : Site) → sort_of one.label.kind ≡ sort_of other.label.kind
    → KeepsPoint one.label other.label was_marked is_marked point
    → IsTrue (place_exists_at was_marked (Some one) point) → IsTrue (place_exists_at is_marked (Some other) point)
place_kept was_marked is_marked point one other sort (inl start) h =
    subst (λ (p : ℕ). IsTrue (place_exists_at is_marked (Some other) p)) (sym start)
    (start_point (sort_of other.label.kind) (has_point is_marked other.label other.label.kind 0)
    (sym (ap has_start sort)
    ∙ kind_start was_marked one.label one.label.kind (subst (λ (p : ℕ). IsTrue (place_exists_at was_marked (Some one) p)) start h)))
place_kept was_marked is_marked point one other sort (inr (kind, variables)) h =
    subst IsTrue
    (λ i. (has_start (sort_of (kind i)) && (point == 0)) || has_point is_marked other.label (kind i) point)
    (subst IsTrue
    (ap (λ (more : Bool). (has_start (sort_of one.label.kind) && (point == 0)) || more)
    (kind_points was_marked is_marked one.label other.label one.label.kind point variables))
    h)

pub agreement_keeps_places : AgreementKeepsPlaces
agreement_keeps_places earlier later was_marked is_marked slot point one other agrees e_one e_other keeps exists =
    let there = found_among [] slot false earlier.items (place_at 0 1) one e_one in
    let later_there = found_among [] slot false later.items (place_at 0 1) other e_other in
    let same = agrees.alike slot one.label.kind other.label.kind there.around later_there.around there.stands later_there.stands in
    subst (λ found. IsTrue (place_exists_at (is_marked slot) found point)) (sym e_other)
    (place_kept (was_marked slot) (is_marked slot) point one other same.0 keeps
    (subst (λ found. IsTrue (place_exists_at (was_marked slot) found point)) e_one exists))
