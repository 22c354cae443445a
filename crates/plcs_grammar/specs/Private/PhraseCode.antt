-- How phrases are told apart: each is a bush of labels, which gives it back.
use Rattle.std.specs.Prelude.{◌≡◌, ◌⊎◌, ℕ, ℤ, pos, Bool, true, false, List, [], ◌∷◌, refl}
use Rattle.std.proofs.Common.{ap, sym, subst, inl, inr}
use Rattle.std.specs.Coded.{Coded, code_by, coded×, coded⊎, coded_ℕ, coded_ℤ, coded_bool, coded_list}
use base.Stored.{Gv, gnil, gnum, gcons}
use Rattle.plcs_grammar.specs.declared.operator.PrefixOp.{PrefixOp}
use Rattle.plcs_grammar.specs.declared.operator.InfixOp.{InfixOp}
use Rattle.plcs_grammar.specs.declared.builtin.Builtin.{Builtin}
use Rattle.plcs_grammar.specs.declared.item.Item.{Item}
use Rattle.plcs_grammar.specs.declared.category.Category.{Category}
use Rattle.plcs_grammar.specs.contracts.operator.PrefixOp as prefix_row
use Rattle.plcs_grammar.specs.contracts.operator.InfixOp as infix_row
use Rattle.plcs_grammar.specs.contracts.builtin.Builtin as function_row
use Rattle.plcs_grammar.specs.contracts.item.Item as item_row
use Rattle.plcs_grammar.specs.contracts.category.Category as category_row
use Rattle.plcs_grammar.specs.PlainPhrase.{PlainExpr, PlainVarRef, PlainExprs, PlainPhrase}

-- what a label of a phrase's bush may be
abbrev pub Mark : Type 0
Mark = ℤ ⊎ (List ℕ ⊎ (Bool ⊎ (PrefixOp ⊎ (InfixOp ⊎ (Builtin ⊎ Bool)))))

-- a bush by which phrases are told apart: a label with what hangs on it to the left and to the right
pub data Bush : Type 0 where
  leaf : Bush
  twig : (mark : Mark) (left right : Bush) → Bush

-- labels of a phrase's bush are told apart by their cases
abbrev pub mark_code : Coded Mark
mark_code =
    coded⊎ coded_ℤ
    (coded⊎ (coded_list coded_ℕ)
    (coded⊎ coded_bool
    (coded⊎ prefix_row.the_row.coded
    (coded⊎ infix_row.the_row.coded
    (coded⊎ function_row.the_row.coded coded_bool)))))

-- the code of a bush by which phrases are told apart
abbrev pub bush_code_of : Bush → Gv
bush_code_of leaf = gnil
bush_code_of (twig mark left right) = gcons (mark_code.code mark) (gcons (bush_code_of left) (bush_code_of right))

-- what stands left in the code of a bush
abbrev pub head : Gv → Gv
head gnil = gnil
head (gnum n) = gnil
head (gcons a b) = a

-- what stands right in the code of a bush
abbrev pub tail : Gv → Gv
tail gnil = gnil
tail (gnum n) = gnil
tail (gcons a b) = b

-- the code is that of a bush with a label
abbrev pub IsCons : Gv → Type 0
IsCons gnil = ⊥
IsCons (gnum n) = ⊥
IsCons (gcons a b) = Unit {0}

-- bushes with one code are one, so that phrases are told apart by them
pub bush_code_of_inj : (x y : Bush) → bush_code_of x ≡ bush_code_of y → x ≡ y
bush_code_of_inj leaf leaf p = refl
bush_code_of_inj (twig m a b) (twig n c d) p = λ i. twig (mark_code.inj m n (ap head p) i)
    (bush_code_of_inj a c (ap (λ g. head (tail g)) p) i) (bush_code_of_inj b d (ap (λ g. tail (tail g)) p) i)
bush_code_of_inj leaf (twig n c d) p = absurd (subst IsCons (sym p) tt)
bush_code_of_inj (twig m a b) leaf p = absurd (subst IsCons p tt)

-- bushes of labels are told apart by their codes
abbrev pub bush_code : Coded Bush
bush_code = record { code = bush_code_of; inj = bush_code_of_inj }

abbrev mutual
  -- the bush of an expression of a phrase
  pub expr_bush : PlainExpr → Bush
  expr_bush (PlainExpr.number z) = twig (inl z) leaf leaf
  expr_bush (PlainExpr.text value) = twig (inr (inl value)) leaf leaf
  expr_bush (PlainExpr.bit value) = twig (inr (inr (inl value))) leaf leaf
  expr_bush (PlainExpr.unary op a) = twig (inr (inr (inr (inl op)))) (expr_bush a) leaf
  expr_bush (PlainExpr.binary op a b) = twig (inr (inr (inr (inr (inl op))))) (expr_bush a) (expr_bush b)
  expr_bush (PlainExpr.builtin f arguments) = twig (inr (inr (inr (inr (inr (inl f)))))) (exprs_bush arguments) leaf
  expr_bush (PlainExpr.variable reference) =
      twig (inr (inr (inr (inr (inr (inr true)))))) (reference_bush reference) leaf
  expr_bush (PlainExpr.parenthesized a) = twig (inr (inr (inr (inr (inr (inr false)))))) (expr_bush a) leaf

  -- the bush of a variable of a phrase
  pub reference_bush : PlainVarRef → Bush
  reference_bush (PlainVarRef.simple name) = twig (inr (inl name)) leaf leaf
  reference_bush (PlainVarRef.subscripted name index) =
      twig (inr (inl name)) (expr_bush index) (twig (inl (pos 0)) leaf leaf)

  -- the bush of a list of expressions of a phrase
  pub exprs_bush : PlainExprs → Bush
  exprs_bush PlainExprs.nil = leaf
  exprs_bush (PlainExprs.cons a rest) = twig (inl (pos 0)) (expr_bush a) (exprs_bush rest)

-- what a bush of labels may stand for: a phrase, or a part of one
pub record Built : Type 0 where
  pub expr : PlainExpr
  pub reference : PlainVarRef
  pub exprs : PlainExprs

-- the expression that a label of a bush stands for, with what hangs on it
abbrev pub expr_of : Mark → Built → Built → PlainExpr
expr_of (inl z) a b = PlainExpr.number z
expr_of (inr (inl value)) a b = PlainExpr.text value
expr_of (inr (inr (inl value))) a b = PlainExpr.bit value
expr_of (inr (inr (inr (inl op)))) a b = PlainExpr.unary op a.expr
expr_of (inr (inr (inr (inr (inl op))))) a b = PlainExpr.binary op a.expr b.expr
expr_of (inr (inr (inr (inr (inr (inl f)))))) a b = PlainExpr.builtin f a.exprs
expr_of (inr (inr (inr (inr (inr (inr true)))))) a b = PlainExpr.variable a.reference
expr_of (inr (inr (inr (inr (inr (inr false)))))) a b = PlainExpr.parenthesized a.expr

-- the name that a label of a bush is
abbrev pub name_in_code : Mark → List ℕ
name_in_code (inl z) = []
name_in_code (inr (inl value)) = value
name_in_code (inr (inr other)) = []

-- the variable that a label of a bush stands for, with what hangs on it
abbrev pub reference_of : Mark → Built → Bush → PlainVarRef
reference_of mark a leaf = PlainVarRef.simple (name_in_code mark)
reference_of mark a (twig other left right) = PlainVarRef.subscripted (name_in_code mark) a.expr

-- what a bush of labels stands for
abbrev pub built : Bush → Built
built leaf = record { expr = PlainExpr.bit false; reference = PlainVarRef.simple []; exprs = PlainExprs.nil }
built (twig mark left right) =
    record {
      expr = expr_of mark (built left) (built right);
      reference = reference_of mark (built left) right;
      exprs = PlainExprs.cons (built left).expr (built right).exprs;
    }

mutual
  -- an expression's bush gives the expression back
  pub expr_back : (e : PlainExpr) → (built (expr_bush e)).expr ≡ e
  expr_back (PlainExpr.number z) = refl
  expr_back (PlainExpr.text value) = refl
  expr_back (PlainExpr.bit value) = refl
  expr_back (PlainExpr.unary op a) = ap (PlainExpr.unary op) (expr_back a)
  expr_back (PlainExpr.binary op a b) = λ i. PlainExpr.binary op (expr_back a i) (expr_back b i)
  expr_back (PlainExpr.builtin f arguments) = ap (PlainExpr.builtin f) (exprs_back arguments)
  expr_back (PlainExpr.variable reference) = ap PlainExpr.variable (reference_back reference)
  expr_back (PlainExpr.parenthesized a) = ap PlainExpr.parenthesized (expr_back a)

  -- a variable's bush gives the variable back
  pub reference_back : (r : PlainVarRef) → (built (reference_bush r)).reference ≡ r
  reference_back (PlainVarRef.simple name) = refl
  reference_back (PlainVarRef.subscripted name index) = ap (PlainVarRef.subscripted name) (expr_back index)

  -- the bush of a list of expressions gives the list back
  pub exprs_back : (es : PlainExprs) → (built (exprs_bush es)).exprs ≡ es
  exprs_back PlainExprs.nil = refl
  exprs_back (PlainExprs.cons a rest) = λ i. PlainExprs.cons (expr_back a i) (exprs_back rest i)

-- expressions of phrases are told apart by their bushes
abbrev pub expr_code : Coded PlainExpr
expr_code = code_by Bush bush_code expr_bush (λ b. (built b).expr) expr_back

-- variables of phrases are told apart by their bushes
abbrev pub reference_code : Coded PlainVarRef
reference_code = code_by Bush bush_code reference_bush (λ b. (built b).reference) reference_back

-- lists of expressions of phrases are told apart by their bushes
abbrev pub exprs_code : Coded PlainExprs
exprs_code = code_by Bush bush_code exprs_bush (λ b. (built b).exprs) exprs_back

-- what a phrase of any category is made of, by which it is told apart
pub record Made : Type 0 where
  pub category : Category
  pub references : List PlainVarRef
  pub exprs : PlainExprs
  pub items : List Item
  pub names : List (List ℕ)
  pub number : ℕ

-- what a phrase of the category that is told apart is made of, before anything comes into it
abbrev pub nothing_of : Category → Made
nothing_of c = record { category = c; references = []; exprs = PlainExprs.nil; items = []; names = []; number = 0 }

-- the list of the one expression of which a phrase that is told apart is made
abbrev pub one_expr : PlainExpr → PlainExprs
one_expr e = PlainExprs.cons e PlainExprs.nil

-- what each phrase is made of, by which it is told apart
abbrev pub made_of : PlainPhrase → Made
made_of (PlainPhrase.assignment target value) =
    record (nothing_of Category.Assignment) { references = target ∷ []; exprs = one_expr value }
made_of (PlainPhrase.condition e) = record (nothing_of Category.Condition) { exprs = one_expr e }
made_of (PlainPhrase.expression e) = record (nothing_of Category.Expression) { exprs = one_expr e }
made_of (PlainPhrase.expression_list es) = record (nothing_of Category.ExpressionList) { exprs = es }
made_of (PlainPhrase.variable_list targets) = record (nothing_of Category.VariableList) { references = targets }
made_of (PlainPhrase.variable_name name) = record (nothing_of Category.Variable) { names = name ∷ [] }
made_of (PlainPhrase.call name arguments) =
    record (nothing_of Category.CallRef) { names = name ∷ []; exprs = arguments }
made_of (PlainPhrase.declared_list items) = record (nothing_of Category.DeclaredList) { items = items }
made_of (PlainPhrase.procedure_name name) = record (nothing_of Category.ProcedureName) { names = name ∷ [] }
made_of (PlainPhrase.name_list names) = record (nothing_of Category.NameList) { names = names }
made_of (PlainPhrase.greatest_length n) = record (nothing_of Category.Length) { number = n }
made_of (PlainPhrase.comment bytes) = record (nothing_of Category.CommentText) { names = bytes ∷ [] }

-- the first of the variables of which a phrase that is told apart is made
abbrev pub first_reference : List PlainVarRef → PlainVarRef
first_reference [] = PlainVarRef.simple []
first_reference (r ∷ rs) = r

-- the first of the expressions of which a phrase that is told apart is made
abbrev pub first_expr : PlainExprs → PlainExpr
first_expr PlainExprs.nil = PlainExpr.bit false
first_expr (PlainExprs.cons e es) = e

-- the first of the names of which a phrase that is told apart is made
abbrev pub first_name : List (List ℕ) → List ℕ
first_name [] = []
first_name (name ∷ names) = name

-- the phrase of the category that is made of this, given back from its code
abbrev pub phrase_from : Category → Made → PlainPhrase
phrase_from Category.Assignment m = PlainPhrase.assignment (first_reference m.references) (first_expr m.exprs)
phrase_from Category.Condition m = PlainPhrase.condition (first_expr m.exprs)
phrase_from Category.Expression m = PlainPhrase.expression (first_expr m.exprs)
phrase_from Category.ExpressionList m = PlainPhrase.expression_list m.exprs
phrase_from Category.VariableList m = PlainPhrase.variable_list m.references
phrase_from Category.Variable m = PlainPhrase.variable_name (first_name m.names)
phrase_from Category.CallRef m = PlainPhrase.call (first_name m.names) m.exprs
phrase_from Category.DeclaredList m = PlainPhrase.declared_list m.items
phrase_from Category.ProcedureName m = PlainPhrase.procedure_name (first_name m.names)
phrase_from Category.NameList m = PlainPhrase.name_list m.names
phrase_from Category.Length m = PlainPhrase.greatest_length m.number
phrase_from Category.CommentText m = PlainPhrase.comment (first_name m.names)

pub phrase_back : (p : PlainPhrase) → phrase_from (made_of p).category (made_of p) ≡ p
phrase_back (PlainPhrase.assignment target value) = refl
phrase_back (PlainPhrase.condition e) = refl
phrase_back (PlainPhrase.expression e) = refl
phrase_back (PlainPhrase.expression_list es) = refl
phrase_back (PlainPhrase.variable_list targets) = refl
phrase_back (PlainPhrase.variable_name name) = refl
phrase_back (PlainPhrase.call name arguments) = refl
phrase_back (PlainPhrase.declared_list items) = refl
phrase_back (PlainPhrase.procedure_name name) = refl
phrase_back (PlainPhrase.name_list names) = refl
phrase_back (PlainPhrase.greatest_length n) = refl
phrase_back (PlainPhrase.comment bytes) = refl

-- a phrase is told by its category and what it is made of
abbrev pub phrase_code : Coded PlainPhrase
phrase_code =
    code_by
    (Category × (List PlainVarRef × (PlainExprs × (List Item × (List (List ℕ) × ℕ)))))
    (coded× category_row.the_row.coded
    (coded× (coded_list reference_code)
    (coded× exprs_code
    (coded× (coded_list item_row.the_row.coded) (coded× (coded_list (coded_list coded_ℕ)) coded_ℕ)))))
    (λ p. let m = made_of p in (m.category, (m.references, (m.exprs, (m.items, (m.names, m.number))))))
    (λ t.
    phrase_from t.0
    record {
      category = t.0;
      references = t.1.0;
      exprs = t.1.1.0;
      items = t.1.1.1.0;
      names = t.1.1.1.1.0;
      number = t.1.1.1.1.1;
    })
    phrase_back
