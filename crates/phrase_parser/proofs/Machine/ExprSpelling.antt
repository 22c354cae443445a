-- The tokens of an expression as a list, and the levels that its operators keep.
use Rattle.std.proofs.Common.{◌≡◌, refl, ℕ, ◌+◌, ◌≤◌, pos, negsuc, nat_abs, List, [], ◌∷◌, ◌++◌, ap, ◌∙◌, ap₂}
use Rattle.plcs_grammar.specs.declared.sign.Sign.{Sign}
use Rattle.plcs_grammar.specs.Sign.{prefix_sign, infix_sign}
use Rattle.plcs_grammar.specs.Token.{Token}
use Rattle.plcs_grammar.specs.PlainPhrase.{PlainExpr, PlainExprs, PlainVarRef}
use Rattle.plcs_grammar.specs.Builtin.{builtin_name}
use Rattle.plcs_grammar.specs.Level.{Level, IsReference, IsExprList, IsMoreExprs, IsNoCall, priority, tightest, in_parentheses}

abbrev mutual
  -- the tokens of an expression
  pub spell : PlainExpr → List Token
  spell (PlainExpr.number z) = Token.number (nat_abs z) ∷ []
  spell (PlainExpr.text value) = Token.text value ∷ []
  spell (PlainExpr.bit value) = Token.bit value ∷ []
  spell (PlainExpr.variable reference) = spell_reference reference
  spell (PlainExpr.unary op a) = Token.sign (prefix_sign op) ∷ spell a
  spell (PlainExpr.binary op a b) = spell a ++ (Token.sign (infix_sign op) ∷ spell b)
  spell (PlainExpr.builtin function arguments) = Token.name (builtin_name function) ∷ in_parentheses (spell_all arguments)
  spell (PlainExpr.parenthesized a) = in_parentheses (spell a)

  -- the tokens of a variable
  pub spell_reference : PlainVarRef → List Token
  spell_reference (PlainVarRef.simple name) = Token.name name ∷ []
  spell_reference (PlainVarRef.subscripted name index) = Token.name name ∷ in_parentheses (spell index)

  -- the tokens of expressions, joined by commas
  pub spell_all : PlainExprs → List Token
  spell_all PlainExprs.nil = []
  spell_all (PlainExprs.cons a rest) = spell a ++ spell_behind rest

  -- the tokens of expressions, each behind a comma
  pub spell_behind : PlainExprs → List Token
  spell_behind PlainExprs.nil = []
  spell_behind (PlainExprs.cons a rest) = Token.sign Sign.Comma ∷ (spell a ++ spell_behind rest)

abbrev mutual
  -- the operators of an expression keep their levels
  pub Fits : PlainExpr → ℕ → Type 0
  Fits (PlainExpr.number (pos n)) level = Unit {0}
  Fits (PlainExpr.number (negsuc n)) level = ⊥
  Fits (PlainExpr.text value) level = Unit {0}
  Fits (PlainExpr.bit value) level = Unit {0}
  Fits (PlainExpr.variable reference) level = IsNoCall reference × FitsReference reference
  Fits (PlainExpr.unary op a) level = Fits a tightest
  Fits (PlainExpr.binary op a b) level = (level ≤ priority op) × Fits a (priority op) × Fits b (priority op + 1)
  Fits (PlainExpr.builtin function arguments) level = FitsAll arguments
  Fits (PlainExpr.parenthesized a) level = Fits a 1

  -- the operators of a variable's subscript keep their levels
  pub FitsReference : PlainVarRef → Type 0
  FitsReference (PlainVarRef.simple name) = Unit {0}
  FitsReference (PlainVarRef.subscripted name index) = Fits index 1

  -- the operators of expressions joined by commas, one or more, keep their levels
  pub FitsAll : PlainExprs → Type 0
  FitsAll PlainExprs.nil = ⊥
  FitsAll (PlainExprs.cons a rest) = Fits a 1 × FitsBehind rest

  -- the operators of expressions, each behind a comma, keep their levels
  pub FitsBehind : PlainExprs → Type 0
  FitsBehind PlainExprs.nil = Unit {0}
  FitsBehind (PlainExprs.cons a rest) = Fits a 1 × FitsBehind rest

mutual
  -- tokens at a level are those of the expression, which keeps its levels
  pub spelled : (t : PlainExpr) (level : ℕ) (ks : List Token) → Level t level ks → Fits t level × (ks ≡ spell t)
  spelled (PlainExpr.number (pos n)) level ks h = (tt, h)
  spelled (PlainExpr.number (negsuc n)) level ks h = absurd h
  spelled (PlainExpr.text value) level ks h = (tt, h)
  spelled (PlainExpr.bit value) level ks h = (tt, h)
  spelled (PlainExpr.variable reference) level ks h =
      let r = spelled_reference reference ks h.1 in
      ((h.0, r.0), r.1)
  spelled (PlainExpr.unary op a) level ks h =
      let r = spelled a tightest h.0 h.2 in
      (r.0, h.1 ∙ ap (λ z. Token.sign (prefix_sign op) ∷ z) r.1)
  spelled (PlainExpr.binary op a b) level ks h =
      let p = spelled a (priority op) h.1 h.4 in
      let q = spelled b (priority op + 1) h.2 h.5 in
      ((h.0, p.0, q.0), h.3 ∙ ap₂ (λ x y. x ++ (Token.sign (infix_sign op) ∷ y)) p.1 q.1)
  spelled (PlainExpr.builtin function arguments) level ks h =
      let r = spelled_all arguments h.0 h.2 in
      (r.0, h.1 ∙ ap (λ z. Token.name (builtin_name function) ∷ in_parentheses z) r.1)
  spelled (PlainExpr.parenthesized a) level ks h =
      let r = spelled a 1 h.0 h.2 in
      (r.0, h.1 ∙ ap in_parentheses r.1)

  -- tokens that are a variable are its tokens, and it keeps its levels
  pub spelled_reference : (reference : PlainVarRef) (ks : List Token) → IsReference reference ks
      → FitsReference reference × (ks ≡ spell_reference reference)
  spelled_reference (PlainVarRef.simple name) ks h = (tt, h)
  spelled_reference (PlainVarRef.subscripted name index) ks h =
      let r = spelled index 1 h.0 h.2 in
      (r.0, h.1 ∙ ap (λ z. Token.name name ∷ in_parentheses z) r.1)

  -- tokens that are expressions joined by commas are their tokens, and they keep their levels
  pub spelled_all : (ts : PlainExprs) (ks : List Token) → IsExprList ts ks → FitsAll ts × (ks ≡ spell_all ts)
  spelled_all PlainExprs.nil ks h = absurd h
  spelled_all (PlainExprs.cons a rest) ks h =
      let p = spelled a 1 h.0 h.3 in
      let q = spelled_behind rest h.1 h.4 in
      ((p.0, q.0), h.2 ∙ ap₂ (λ x y. x ++ y) p.1 q.1)

  -- tokens that are expressions, each behind a comma, are their tokens, and they keep their levels
  pub spelled_behind : (ts : PlainExprs) (ks : List Token) → IsMoreExprs ts ks → FitsBehind ts × (ks ≡ spell_behind ts)
  spelled_behind PlainExprs.nil ks h = (tt, h)
  spelled_behind (PlainExprs.cons a rest) ks h =
      let p = spelled a 1 h.0 h.3 in
      let q = spelled_behind rest h.1 h.4 in
      ((p.0, q.0), h.2 ∙ ap₂ (λ x y. Token.sign Sign.Comma ∷ (x ++ y)) p.1 q.1)

mutual
  -- the tokens of an expression that keeps its levels are at its level
  pub levelled : (t : PlainExpr) (level : ℕ) → Fits t level → Level t level (spell t)
  levelled (PlainExpr.number (pos n)) level f = refl
  levelled (PlainExpr.number (negsuc n)) level f = absurd f
  levelled (PlainExpr.text value) level f = refl
  levelled (PlainExpr.bit value) level f = refl
  levelled (PlainExpr.variable reference) level f = (f.0, levelled_reference reference f.1)
  levelled (PlainExpr.unary op a) level f = (spell a, refl, levelled a tightest f)
  levelled (PlainExpr.binary op a b) level f =
      (f.0, spell a, spell b, refl, levelled a (priority op) f.1, levelled b (priority op + 1) f.2)
  levelled (PlainExpr.builtin function arguments) level f = (spell_all arguments, refl, levelled_all arguments f)
  levelled (PlainExpr.parenthesized a) level f = (spell a, refl, levelled a 1 f)

  -- the tokens of a variable that keeps its levels are the variable
  pub levelled_reference : (reference : PlainVarRef) → FitsReference reference
      → IsReference reference (spell_reference reference)
  levelled_reference (PlainVarRef.simple name) f = refl
  levelled_reference (PlainVarRef.subscripted name index) f = (spell index, refl, levelled index 1 f)

  -- the tokens of expressions that keep their levels, joined by commas, are the expressions
  pub levelled_all : (ts : PlainExprs) → FitsAll ts → IsExprList ts (spell_all ts)
  levelled_all PlainExprs.nil f = absurd f
  levelled_all (PlainExprs.cons a rest) f = (spell a, spell_behind rest, refl, levelled a 1 f.0, levelled_behind rest f.1)

  -- the tokens of expressions that keep their levels, each behind a comma, are the expressions
  pub levelled_behind : (ts : PlainExprs) → FitsBehind ts → IsMoreExprs ts (spell_behind ts)
  levelled_behind PlainExprs.nil f = refl
  levelled_behind (PlainExprs.cons a rest) f = (spell a, spell_behind rest, refl, levelled a 1 f.0, levelled_behind rest f.1)
