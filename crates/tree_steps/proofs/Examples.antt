-- The definitions at work: each kind of place, and where slots stand.
-- Each computes; marks do by the law of variable lists.
use Rattle.std.specs.Prelude.{◌≡◌, refl, ℕ, ◌==◌, Bool, true, false, List, [], ◌∷◌, codes, Option, Some, None}
use Rattle.std.proofs.Common.{ap, sym, ◌∙◌, arith, inl, inr}
use Rattle.std.proofs.Math.Bool.{false≢true}
use Rattle.plcs_grammar.specs.declared.node_kind.NodeKind.{NodeKind}
use Rattle.plcs_grammar.specs.declared.template.Template.{Template}
use Rattle.plcs_grammar.specs.Builtin.{is_builtin_name}
use Rattle.plcs_grammar.specs.PlainPhrase.{PlainExprs, PlainPhrase, PlainVarRef}
use Rattle.template_tree.specs.Programs.NewTree.{bare_label}
use Rattle.template_tree.specs.Positions.Place.{After, Exists, PlainPlace, Site, Start, place_at, place_exists_at, site}
use Rattle.template_tree.specs.Programs.PlainTree.{Forest, Label}
use Rattle.tree_steps.specs.RunPlace.{HasPlace, is_first_marked}
use Rattle.tree_steps.specs.StandingSlot.{StandsInside, loops_around, outermost_slot}
use Rattle.tree_steps.proofs.ListMarks.{list_marks_follow_items}

-- a label of the template in the slot, with these parts
abbrev filled : ℕ → Template → List (Option PlainPhrase) → Label
filled slot template parts = record { slot = slot; kind = NodeKind.Filled template; parts = parts; elided = false; spare = 0 }

-- a node with nothing inside
abbrev leaf : Label → Forest → Forest
leaf label rest = Forest.cons label Forest.nil rest

-- the variable x twice, and y twice
abbrev twice : List ℕ → List PlainVarRef
twice name = PlainVarRef.simple name ∷ (PlainVarRef.simple name ∷ [])

-- x declared, and not y
abbrev declaration : PlainPhrase
declaration = PlainPhrase.declared_list (record { name = codes "x"; size = None } ∷ [])

-- a call of p
abbrev call : PlainPhrase
call = PlainPhrase.call (codes "p") PlainExprs.nil

-- inside main x declared, and a For over a group of a GET of x twice, an empty GET and a GET of y twice, which is
-- marked; then a CALL, a hole, and an Until over a hole
abbrev main_inner : Forest
main_inner =
    leaf (filled 1 Template.Fixed (Some declaration ∷ []))
    (Forest.cons (filled 2 Template.For (None ∷ (None ∷ (None ∷ []))))
    (Forest.cons (filled 3 Template.Group [])
    (leaf (filled 4 Template.Get (Some (PlainPhrase.variable_list (twice (codes "x"))) ∷ []))
    (leaf (filled 5 Template.Get (None ∷ []))
    (leaf (filled 6 Template.Get (Some (PlainPhrase.variable_list (twice (codes "y"))) ∷ [])) Forest.nil)))
    Forest.nil)
    (leaf (filled 7 Template.Call (Some call ∷ []))
    (leaf (bare_label 8 NodeKind.StatementHole)
    (Forest.cons (filled 13 Template.Until (None ∷ [])) (leaf (bare_label 14 NodeKind.StatementHole) Forest.nil) Forest.nil))))

-- that main, and a procedure
abbrev sample : Forest
sample =
    Forest.cons (bare_label 0 NodeKind.Main) main_inner
    (Forest.cons (filled 9 Template.Proc (Some (PlainPhrase.procedure_name (codes "p")) ∷ []))
    (leaf (bare_label 10 NodeKind.DeclarationHole)
    (leaf (bare_label 11 NodeKind.StatementHole) Forest.nil))
    Forest.nil)

-- the phrase in slot 6 is marked, and no other
abbrev sample_marks : ℕ → Bool
sample_marks slot = slot == 6

-- ---- places

-- a GET has a point for each of its variables
get_first : Exists sample_marks sample (place_at 4 0)
get_first = refl

get_second : Exists sample_marks sample (place_at 4 1)
get_second = refl

get_no_third : Exists sample_marks sample (place_at 4 2) → ⊥
get_no_third h = false≢true h

-- an empty GET, and one that is marked, have their start alone
empty_get : Exists sample_marks sample (place_at 5 0)
empty_get = refl

empty_get_no_second : Exists sample_marks sample (place_at 5 1) → ⊥
empty_get_no_second h = false≢true h

marked_get : Exists sample_marks sample (place_at 6 0)
marked_get = refl

marked_get_no_second : Exists sample_marks sample (place_at 6 1) → ⊥
marked_get_no_second h = false≢true h

-- a CALL from which a procedure was entered
call_within : Exists sample_marks sample (place_at 7 1)
call_within = refl

call_no_third : Exists sample_marks sample (place_at 7 2) → ⊥
call_no_third h = false≢true h

-- a For that takes its next turn
for_turn : Exists sample_marks sample (place_at 2 1)
for_turn = refl

-- an Until that tests its condition
until_test : Exists sample_marks sample (place_at 13 1)
until_test = refl

until_no_third : Exists sample_marks sample (place_at 13 2) → ⊥
until_no_third h = false≢true h

-- the end of main, and of a procedure, neither of which is a place to start at
main_end : Exists sample_marks sample (place_at 0 1)
main_end = refl

main_no_start : Exists sample_marks sample (place_at 0 0) → ⊥
main_no_start h = false≢true h

procedure_end : Exists sample_marks sample (place_at 9 1)
procedure_end = refl

procedure_no_start : Exists sample_marks sample (place_at 9 0) → ⊥
procedure_no_start h = false≢true h

-- a statement hole, at which a run stops, and nothing beside
hole_start : Exists sample_marks sample (place_at 8 0)
hole_start = refl

hole_no_second : Exists sample_marks sample (place_at 8 1) → ⊥
hole_no_second h = false≢true h

declaration_no_place : Exists sample_marks sample (place_at 1 0) → ⊥
declaration_no_place h = false≢true h

-- a slot that isn't live
no_slot : Exists sample_marks sample (place_at 12 0) → ⊥
no_slot h = false≢true h

-- ---- places by the program's own marks

-- the site of a GET with nothing inside
abbrev get_site : ℕ → List ℕ → PlainPlace → Site
get_site slot name after =
    record { label = filled slot Template.Get (Some (PlainPhrase.variable_list (twice name)) ∷ []); inner = Forest.nil; after = after }

-- what is declared isn't marked
declared_unmarked : is_first_marked sample 4 ≡ false
unfolding is_builtin_name
declared_unmarked =
    list_marks_follow_items sample 4 0 (get_site 4 (codes "x") (place_at 5 0)) (twice (codes "x")) [] (omega arith) (omega arith) refl refl refl

own_second : HasPlace sample (place_at 4 1)
own_second = ap (λ (marked : Bool). place_exists_at marked (site sample 4) 1) declared_unmarked

-- what isn't declared is
undeclared_marked : is_first_marked sample 6 ≡ true
unfolding is_builtin_name
undeclared_marked =
    list_marks_follow_items sample 6 0 (get_site 6 (codes "y") (place_at 2 1)) (twice (codes "y")) [] (omega arith) (omega arith) refl refl refl

own_no_second : HasPlace sample (place_at 6 1) → ⊥
own_no_second h = false≢true (sym (ap (λ (marked : Bool). place_exists_at marked (site sample 6) 1) undeclared_marked) ∙ h)

-- ---- where slots stand

-- the GET in the group stands in the group, in the For, in main
get_stands :
    StandsInside sample 4 (NodeKind.Filled Template.Get)
    ((3, NodeKind.Filled Template.Group) ∷ ((2, NodeKind.Filled Template.For) ∷ ((0, NodeKind.Main) ∷ [])))
get_stands = inr (inl (inr (inr (inr (inl (inr (inl (inl (refl, refl, refl)))))))))

-- the For is the one loop round it, and main its procedure
get_loops : loops_around ((3, NodeKind.Filled Template.Group) ∷ ((2, NodeKind.Filled Template.For) ∷ ((0, NodeKind.Main) ∷ []))) ≡ 2 ∷ []
get_loops = refl

get_procedure : outermost_slot 4 ((3, NodeKind.Filled Template.Group) ∷ ((2, NodeKind.Filled Template.For) ∷ ((0, NodeKind.Main) ∷ []))) ≡ 0
get_procedure = refl

-- a run that comes to the group begins with the GET in it
group_begins : Start sample 3 ≡ Some (place_at 4 0)
group_begins = refl

-- a run that comes to the Until begins with the hole in it, behind which it tests the condition
until_begins : Start sample 13 ≡ Some (place_at 14 0)
until_begins = refl

until_tests_behind : After sample 14 ≡ Some (place_at 13 1)
until_tests_behind = refl

-- it is no loop that a run keeps
until_loops : loops_around ((13, NodeKind.Filled Template.Until) ∷ ((0, NodeKind.Main) ∷ [])) ≡ []
until_loops = refl
