-- The tests of what stands at a stop, and what they tell.
use Rattle.std.specs.Prelude.{◌≡◌, refl, ℕ, zero, suc, ◌<◌, ◌⊎◌, Bool, true, false, ◌&&◌, ◌==◌, if◌then◌else◌, List, [], ◌∷◌, length, Option, Some, None, is_some, slice_get}
use Rattle.std.proofs.Common.{ap, sym, ◌∙◌, arith, inl, inr}
use Rattle.std.proofs.lemmas.Bool.{false≢true, false_from_ne_true}
use Rattle.std.proofs.lemmas.Bool.Decides.{Decides-eqb}
use Rattle.std.proofs.lemmas.Option.{none-some, same_Some}
use Rattle.plcs_grammar.specs.declared.category.Category.{Category}
use Rattle.plcs_grammar.specs.declared.node_kind.NodeKind.{NodeKind}
use Rattle.plcs_grammar.specs.declared.node_kind.Sort.{Sort}
use Rattle.plcs_grammar.specs.declared.template.Template.{Template}
use Rattle.plcs_grammar.specs.PlainPhrase.{PlainPhrase, category_of}
use Rattle.plcs_grammar.specs.Template.{row_of}
use Rattle.plcs_grammar.specs.Category.{category_number, same_category}
use Rattle.template_tree.specs.Edits.Hole.{hole_of, is_hole}
use Rattle.template_tree.specs.Edits.EditAnswer.{IsHoleFor, TakesAssignment}
use Rattle.template_tree.specs.Programs.Part.{Takes, part_category}
use Rattle.template_tree.specs.Programs.PlainTree.{PlainNode}
use Rattle.template_tree.specs.Programs.Program.{may_be_empty, parts_of, sort_of}
use Rattle.template_tree.specs.Listings.Section.{same_sort}
use Rattle.template_tree.specs.Positions.Stop.{part_stops}
use Rattle.session_edit.specs.Here.{category_in, is_typed, is_wanted, takes_nodes}

-- the category of a number
abbrev category_of_number : ℕ → Category
category_of_number number =
    if number == 0 then Category.Assignment else (
    if number == 1 then Category.Condition else (
    if number == 2 then Category.Expression else (
    if number == 3 then Category.ExpressionList else (
    if number == 4 then Category.VariableList else (
    if number == 5 then Category.Variable else (
    if number == 6 then Category.CallRef else (
    if number == 7 then Category.DeclaredList else (
    if number == 8 then Category.ProcedureName else (
    if number == 9 then Category.NameList else (
    if number == 10 then Category.Length else Category.CommentText))))))))))

number_tells : (category : Category) → category_of_number (category_number category) ≡ category
number_tells Category.Assignment = refl
number_tells Category.Condition = refl
number_tells Category.Expression = refl
number_tells Category.ExpressionList = refl
number_tells Category.VariableList = refl
number_tells Category.Variable = refl
number_tells Category.CallRef = refl
number_tells Category.DeclaredList = refl
number_tells Category.ProcedureName = refl
number_tells Category.NameList = refl
number_tells Category.Length = refl
number_tells Category.CommentText = refl

same_is : (one other : Category) → same_category one other ≡ true → one ≡ other
same_is one other e =
    sym (number_tells one) ∙ (ap category_of_number ((Decides-eqb (category_number one) (category_number other)).0 e) ∙ number_tells other)

is_same : (one other : Category) → one ≡ other → same_category one other ≡ true
is_same one other e = (Decides-eqb (category_number one) (category_number other)).1 (ap category_number e)

pub wanted_true : (phrase : PlainPhrase) (category : Option Category) → Takes category (Some phrase) → is_wanted phrase category ≡ true
wanted_true phrase None h = absurd h
wanted_true phrase (Some category) h = is_same (category_of phrase) category h

pub wanted_takes : (phrase : PlainPhrase) (category : Option Category) → is_wanted phrase category ≡ true → Takes category (Some phrase)
wanted_takes phrase None e = absurd (false≢true e)
wanted_takes phrase (Some category) e = same_is (category_of phrase) category e

-- whether an assignment is typed at a node
typed_true : (kind : NodeKind) → (kind ≡ NodeKind.StatementHole) ⊎ (kind ≡ NodeKind.Assign) → is_typed kind ≡ true
typed_true kind h = elim h [ inl e ↦ ap is_typed e | inr e ↦ ap is_typed e ]

typed_is : (kind : NodeKind) → is_typed kind ≡ true → (kind ≡ NodeKind.StatementHole) ⊎ (kind ≡ NodeKind.Assign)
typed_is NodeKind.DeclarationHole e = absurd (false≢true e)
typed_is NodeKind.StatementHole e = inl refl
typed_is NodeKind.ProcedureHole e = absurd (false≢true e)
typed_is NodeKind.Main e = absurd (false≢true e)
typed_is NodeKind.Assign e = inr refl
typed_is (NodeKind.Filled template) e = absurd (false≢true e)

pub assignment_true : (phrase : PlainPhrase) (node : PlainNode) → TakesAssignment phrase node → is_wanted phrase (category_in None node.label.kind) ≡ true
assignment_true phrase node h = rw (typed_true node.label.kind h.0) (is_same (category_of phrase) Category.Assignment h.1)

wanted_if : (b : Bool) (phrase : PlainPhrase) → is_wanted phrase (if b then Some Category.Assignment else None) ≡ true
    → (b ≡ true) × (category_of phrase ≡ Category.Assignment)
wanted_if true phrase e = (refl, same_is (category_of phrase) Category.Assignment e)
wanted_if false phrase e = absurd (false≢true e)

pub takes_assignment : (phrase : PlainPhrase) (node : PlainNode) → is_wanted phrase (category_in None node.label.kind) ≡ true → TakesAssignment phrase node
takes_assignment phrase node e =
    let h = wanted_if (is_typed node.label.kind) phrase e in (typed_is node.label.kind h.0, h.1)

-- the kind of the hole of a sort, by the test for it
hole_true : (sort : Sort) (kind : NodeKind) → hole_of sort ≡ Some kind → (is_hole kind && same_sort (sort_of kind) sort) ≡ true
hole_true Sort.Main kind e = absurd (none-some kind e)
hole_true Sort.Procedure kind e = ap (λ k. is_hole k && same_sort (sort_of k) Sort.Procedure) (sym (same_Some NodeKind.ProcedureHole kind e))
hole_true Sort.Declaration kind e = ap (λ k. is_hole k && same_sort (sort_of k) Sort.Declaration) (sym (same_Some NodeKind.DeclarationHole kind e))
hole_true Sort.Statement kind e = ap (λ k. is_hole k && same_sort (sort_of k) Sort.Statement) (sym (same_Some NodeKind.StatementHole kind e))

hole_is : (sort : Sort) (kind : NodeKind) → (is_hole kind && same_sort (sort_of kind) sort) ≡ true → hole_of sort ≡ Some kind
hole_is Sort.Main NodeKind.DeclarationHole e = absurd (false≢true e)
hole_is Sort.Main NodeKind.StatementHole e = absurd (false≢true e)
hole_is Sort.Main NodeKind.ProcedureHole e = absurd (false≢true e)
hole_is Sort.Main NodeKind.Main e = absurd (false≢true e)
hole_is Sort.Main NodeKind.Assign e = absurd (false≢true e)
hole_is Sort.Main (NodeKind.Filled template) e = absurd (false≢true e)
hole_is Sort.Procedure NodeKind.DeclarationHole e = absurd (false≢true e)
hole_is Sort.Procedure NodeKind.StatementHole e = absurd (false≢true e)
hole_is Sort.Procedure NodeKind.ProcedureHole e = refl
hole_is Sort.Procedure NodeKind.Main e = absurd (false≢true e)
hole_is Sort.Procedure NodeKind.Assign e = absurd (false≢true e)
hole_is Sort.Procedure (NodeKind.Filled template) e = absurd (false≢true e)
hole_is Sort.Declaration NodeKind.DeclarationHole e = refl
hole_is Sort.Declaration NodeKind.StatementHole e = absurd (false≢true e)
hole_is Sort.Declaration NodeKind.ProcedureHole e = absurd (false≢true e)
hole_is Sort.Declaration NodeKind.Main e = absurd (false≢true e)
hole_is Sort.Declaration NodeKind.Assign e = absurd (false≢true e)
hole_is Sort.Declaration (NodeKind.Filled template) e = absurd (false≢true e)
hole_is Sort.Statement NodeKind.DeclarationHole e = absurd (false≢true e)
hole_is Sort.Statement NodeKind.StatementHole e = refl
hole_is Sort.Statement NodeKind.ProcedureHole e = absurd (false≢true e)
hole_is Sort.Statement NodeKind.Main e = absurd (false≢true e)
hole_is Sort.Statement NodeKind.Assign e = absurd (false≢true e)
hole_is Sort.Statement (NodeKind.Filled template) e = absurd (false≢true e)

-- nodes of a kind come into a hole of their sort, at its own stop
pub takes_true : (kind : NodeKind) (part : Option ℕ) (node : PlainNode) → part ≡ None → IsHoleFor kind node → takes_nodes kind part node ≡ true
takes_true kind part node e h = rw e (hole_true (sort_of kind) node.label.kind h)

pub takes_at_part : (kind : NodeKind) (part : Option ℕ) (node : PlainNode) → is_some part ≡ true → takes_nodes kind part node ≡ false
takes_at_part kind None node e = absurd (false≢true e)
takes_at_part kind (Some part) node e = refl

pub takes_false : (kind : NodeKind) (part : Option ℕ) (node : PlainNode) → (IsHoleFor kind node → ⊥) → takes_nodes kind part node ≡ false
takes_false kind None node wrong =
    false_from_ne_true (is_hole node.label.kind && same_sort (sort_of node.label.kind) (sort_of kind))
    (λ e. wrong (hole_is (sort_of kind) node.label.kind e))
takes_false kind (Some part) node wrong = refl

-- whether each of the categories may be empty
abbrev all_empty : List Category → Bool
all_empty [] = true
all_empty (category ∷ categories) = may_be_empty category && all_empty categories

both : (a b : Bool) → (a && b) ≡ true → (a ≡ true) × (b ≡ true)
both true b e = (refl, e)
both false b e = absurd (false≢true e)

empties : (categories : List Category) (part : ℕ) → all_empty categories ≡ true → part < length categories → Takes (slice_get categories part) None
empties [] part e within = absurd (omega arith)
empties (category ∷ categories) zero e within = (both (may_be_empty category) (all_empty categories) e).0
empties (category ∷ categories) (suc part) e within =
    empties categories part (both (may_be_empty category) (all_empty categories) e).1 (omega arith)

row_empties : (template : Template) → all_empty (parts_of (row_of (NodeKind.Filled template)).line) ≡ true
row_empties Template.Fixed = refl
row_empties Template.Bit = refl
row_empties Template.Char = refl
row_empties Template.If = refl
row_empties Template.IfElse = refl
row_empties Template.While = refl
row_empties Template.For = refl
row_empties Template.Until = refl
row_empties Template.Group = refl
row_empties Template.Get = refl
row_empties Template.Put = refl
row_empties Template.PutSkip = refl
row_empties Template.Call = refl
row_empties Template.Return = refl
row_empties Template.Comment = refl
row_empties Template.Proc = refl
row_empties Template.ProcP = refl

-- a part at which the cursor may stand may be empty
pub part_empties : (kind : NodeKind) (part : ℕ) → part < part_stops kind → Takes (part_category kind part) None
part_empties NodeKind.DeclarationHole part within = absurd (omega arith)
part_empties NodeKind.StatementHole part within = absurd (omega arith)
part_empties NodeKind.ProcedureHole part within = absurd (omega arith)
part_empties NodeKind.Main part within = absurd (omega arith)
part_empties NodeKind.Assign part within = absurd (omega arith)
part_empties (NodeKind.Filled template) part within =
    empties (parts_of (row_of (NodeKind.Filled template)).line) part (row_empties template) within

pub no_part : (part : Option ℕ) → is_some part ≡ false → part ≡ None
no_part None e = refl
no_part (Some n) e = absurd (false≢true (sym e))
