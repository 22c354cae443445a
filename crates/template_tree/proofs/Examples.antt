-- The definitions at work.
use Rattle.std.specs.Prelude.{◌≡◌, refl, Some}
use Rattle.plcs_grammar.specs.declared.node_kind.NodeKind.{NodeKind}
use Rattle.plcs_grammar.specs.declared.template.Template.{Template}
use Rattle.template_tree.specs.Programs.PlainTree.{Forest}
use Rattle.template_tree.specs.Programs.NewTree.{bare_label}
use Rattle.template_tree.specs.Positions.Place.{place_at, Start, After}

-- main with a while over a group of two holes, then a choice between two holes, then a hole
abbrev sample : Forest
sample =
    Forest.cons (bare_label 0 NodeKind.Main)
    (Forest.cons (bare_label 1 NodeKind.DeclarationHole) Forest.nil
    (Forest.cons (bare_label 4 (NodeKind.Filled Template.While))
    (Forest.cons (bare_label 5 (NodeKind.Filled Template.Group))
    (Forest.cons (bare_label 6 NodeKind.StatementHole) Forest.nil
    (Forest.cons (bare_label 7 NodeKind.StatementHole) Forest.nil Forest.nil))
    Forest.nil)
    (Forest.cons (bare_label 8 (NodeKind.Filled Template.IfElse))
    (Forest.cons (bare_label 9 NodeKind.StatementHole) Forest.nil
    (Forest.cons (bare_label 10 NodeKind.StatementHole) Forest.nil Forest.nil))
    (Forest.cons (bare_label 11 NodeKind.StatementHole) Forest.nil Forest.nil))))
    (Forest.cons (bare_label 3 NodeKind.ProcedureHole) Forest.nil Forest.nil)

-- a group begins with its first item
group_begins_inside : Start sample 5 ≡ Some (place_at 6 0)
group_begins_inside = refl

-- its items are done in turn
items_in_turn : After sample 6 ≡ Some (place_at 7 0)
items_in_turn = refl

-- a while tests again
while_tests_again : After sample 7 ≡ Some (place_at 4 0)
while_tests_again = refl

-- one body of a choice is done
first_body : After sample 9 ≡ Some (place_at 11 0)
first_body = refl

second_body : After sample 10 ≡ Some (place_at 11 0)
second_body = refl

-- main is left
main_is_left : After sample 11 ≡ Some (place_at 0 1)
main_is_left = refl
