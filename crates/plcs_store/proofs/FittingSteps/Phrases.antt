-- What stands in a part of a node is a phrase of the part's category.
use Rattle.std.specs.Prelude.{◌≡◌, refl, ℕ, zero, suc, ◌<◌, Bool, true, false, List, [], ◌∷◌, length, slice_get, Option, Some, None, is_none}
use Rattle.std.proofs.Common.{ap, sym, ◌∙◌, subst, arith, inl, inr}
use Rattle.std.proofs.Math.Bool.{false≢true}
use Rattle.std.proofs.lemmas.Option.{none-some, same_Some}
use Rattle.plcs_grammar.specs.declared.category.Category.{Category}
use Rattle.plcs_grammar.specs.Canon.{Canon}
use Rattle.plcs_grammar.specs.PlainPhrase.{PlainExpr, PlainExprs, PlainPhrase, PlainVarRef, category_of}
use Rattle.plcs_grammar.specs.Reads.{HasReading}
use Rattle.template_tree.specs.Programs.Part.{part_at}
use Rattle.template_tree.specs.Programs.Program.{AreParts, IsPartPhrase}

-- ---- categories

abbrev same_category : Category → Category → Bool
same_category Category.Assignment Category.Assignment = true
same_category Category.Condition Category.Condition = true
same_category Category.Expression Category.Expression = true
same_category Category.ExpressionList Category.ExpressionList = true
same_category Category.VariableList Category.VariableList = true
same_category Category.Variable Category.Variable = true
same_category Category.CallRef Category.CallRef = true
same_category one other = false

read_category : (category : Category) (x : List ℕ) (phrase : PlainPhrase) → HasReading category x phrase → category_of phrase ≡ category
read_category category x phrase (inl (pieces, cut)) = cut.form.0
read_category category x phrase (inr comment) = ap category_of comment.phrase_is ∙ sym comment.category_is

-- a phrase of a part is of its category
pub category_is : (category : Category) (phrase : PlainPhrase) → IsPartPhrase category phrase → category_of phrase ≡ category
category_is category phrase is = read_category category (Canon phrase) phrase is.well_formed.0

pub assignment_is : (phrase : PlainPhrase) → category_of phrase ≡ Category.Assignment
    → (target : PlainVarRef) × (value : PlainExpr) × (phrase ≡ PlainPhrase.assignment target value)
assignment_is (PlainPhrase.assignment target value) e = (target, value, refl)
assignment_is other e = absurd (false≢true (ap (same_category Category.Assignment) e))

pub condition_is : (phrase : PlainPhrase) → category_of phrase ≡ Category.Condition → (e : PlainExpr) × (phrase ≡ PlainPhrase.condition e)
condition_is (PlainPhrase.condition x) e = (x, refl)
condition_is other e = absurd (false≢true (ap (same_category Category.Condition) e))

pub expression_is : (phrase : PlainPhrase) → category_of phrase ≡ Category.Expression → (e : PlainExpr) × (phrase ≡ PlainPhrase.expression e)
expression_is (PlainPhrase.expression x) e = (x, refl)
expression_is other e = absurd (false≢true (ap (same_category Category.Expression) e))

pub expressions_is : (phrase : PlainPhrase) → category_of phrase ≡ Category.ExpressionList
    → (es : PlainExprs) × (phrase ≡ PlainPhrase.expression_list es)
expressions_is (PlainPhrase.expression_list es) e = (es, refl)
expressions_is other e = absurd (false≢true (ap (same_category Category.ExpressionList) e))

pub variables_is : (phrase : PlainPhrase) → category_of phrase ≡ Category.VariableList
    → (targets : List PlainVarRef) × (phrase ≡ PlainPhrase.variable_list targets)
variables_is (PlainPhrase.variable_list targets) e = (targets, refl)
variables_is other e = absurd (false≢true (ap (same_category Category.VariableList) e))

pub variable_is : (phrase : PlainPhrase) → category_of phrase ≡ Category.Variable → (name : List ℕ) × (phrase ≡ PlainPhrase.variable_name name)
variable_is (PlainPhrase.variable_name name) e = (name, refl)
variable_is other e = absurd (false≢true (ap (same_category Category.Variable) e))

pub call_is : (phrase : PlainPhrase) → category_of phrase ≡ Category.CallRef
    → (name : List ℕ) × (arguments : PlainExprs) × (phrase ≡ PlainPhrase.call name arguments)
call_is (PlainPhrase.call name arguments) e = (name, arguments, refl)
call_is other e = absurd (false≢true (ap (same_category Category.CallRef) e))

-- a variable list has a variable
pub some_variables : (targets : List PlainVarRef) → IsPartPhrase Category.VariableList (PlainPhrase.variable_list targets) → 0 < length targets
some_variables (target ∷ targets) is = omega arith
some_variables [] is = by is.well_formed.0
  where
    by : HasReading Category.VariableList (Canon (PlainPhrase.variable_list [])) (PlainPhrase.variable_list []) → 0 < length (let none : List PlainVarRef = [] in none)
    by (inl (pieces, cut)) = absurd cut.form.1
    by (inr comment) = absurd (false≢true (ap (same_category Category.VariableList) (sym comment.category_is)))

-- ---- parts

-- what stands in a part may stand there
pub part_is : (categories : List Category) (parts : List (Option PlainPhrase)) (k : ℕ) (category : Category) (phrase : PlainPhrase)
    → AreParts categories parts → slice_get categories k ≡ Some category → part_at parts k ≡ Some phrase → IsPartPhrase category phrase
part_is [] parts k category phrase are named e = absurd (none-some category named)
part_is (own ∷ categories) [] k category phrase are named e = absurd are
part_is (own ∷ categories) (None ∷ parts) zero category phrase are named e = absurd (none-some phrase e)
part_is (own ∷ categories) (Some one ∷ parts) zero category phrase are named e =
    subst (λ (c : Category). IsPartPhrase c phrase) (same_Some own category named)
    (subst (IsPartPhrase own) (same_Some one phrase e) are.0)
part_is (own ∷ categories) (part ∷ parts) (suc k) category phrase are named e = part_is categories parts k category phrase are.1 named e

-- a part that isn't empty has a phrase
pub filled : (part : Option PlainPhrase) → is_none part ≡ false → (phrase : PlainPhrase) × (part ≡ Some phrase)
filled None e = absurd (false≢true (sym e))
filled (Some phrase) e = (phrase, refl)
