-- Phrases of different categories, whose plain forms differ.
use Rattle.std.proofs.Common.{◌≡◌, ◌↔◌, IsTrue, ℕ, false, refl, sym, ap, ◌∙◌, subst}
use Rattle.std.specs.Prelude.{Vec}
use Rattle.std.specs.declared.alloc.Global.{Global}
use Rattle.plcs_base.specs.declared.name.Name.{Name}
use Rattle.plcs_grammar.specs.declared.category.Category.{Category}
use Rattle.plcs_grammar.specs.declared.expr.Expr.{Expr}
use Rattle.plcs_grammar.specs.declared.expr.VarRef.{VarRef}
use Rattle.plcs_grammar.specs.declared.item.Item.{Item}
use Rattle.plcs_grammar.specs.declared.phrase.Phrase.{Phrase}
use Rattle.plcs_grammar.specs.PlainPhrase.{category_of, plain_phrase}
use Rattle.plcs_grammar.proofs.EqualPlainPhrases.{told_no}

-- the phrase is of the variant of the category
abbrev pub IsOf : Category → Phrase → Type 0
IsOf Category.Assignment p = (target : VarRef) × (value : Expr) × (p ≡ Phrase.Assignment target value)
IsOf Category.Condition p = (e : Expr) × (p ≡ Phrase.Condition e)
IsOf Category.Expression p = (e : Expr) × (p ≡ Phrase.Expression e)
IsOf Category.ExpressionList p = (es : Vec Expr Global) × (p ≡ Phrase.ExpressionList es)
IsOf Category.VariableList p = (targets : Vec VarRef Global) × (p ≡ Phrase.VariableList targets)
IsOf Category.Variable p = (name : Name) × (p ≡ Phrase.Variable name)
IsOf Category.CallRef p = (name : Name) × (arguments : Vec Expr Global) × (p ≡ Phrase.CallRef name arguments)
IsOf Category.DeclaredList p = (items : Vec Item Global) × (p ≡ Phrase.DeclaredList items)
IsOf Category.ProcedureName p = (name : Name) × (p ≡ Phrase.ProcedureName name)
IsOf Category.NameList p = (names : Vec Name Global) × (p ≡ Phrase.NameList names)
IsOf Category.Length p = (n : ℕ) × (p ≡ Phrase.Length n)
IsOf Category.CommentText p = (text : Vec ℕ Global) × (p ≡ Phrase.CommentText text)

-- as each phrase is of that of its own
by_category : (p : Phrase) → IsOf (category_of (plain_phrase p)) p
by_category (Phrase.Assignment target value) = (target, value, refl)
by_category (Phrase.Condition e) = (e, refl)
by_category (Phrase.Expression e) = (e, refl)
by_category (Phrase.ExpressionList es) = (es, refl)
by_category (Phrase.VariableList targets) = (targets, refl)
by_category (Phrase.Variable name) = (name, refl)
by_category (Phrase.CallRef name arguments) = (name, arguments, refl)
by_category (Phrase.DeclaredList items) = (items, refl)
by_category (Phrase.ProcedureName name) = (name, refl)
by_category (Phrase.NameList names) = (names, refl)
by_category (Phrase.Length n) = (n, refl)
by_category (Phrase.CommentText text) = (text, refl)

-- a phrase of a category and one that isn't of it have different plain forms
pub unlike : (p q : Phrase) (own : Category) → category_of (plain_phrase p) ≡ own → (IsOf own q → ⊥)
    → IsTrue false ↔ (plain_phrase p ≡ plain_phrase q)
unlike p q own is other = told_no (λ same. other (subst (λ k. IsOf k q) (sym (ap category_of same) ∙ is) (by_category q)))
