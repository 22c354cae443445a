-- The code of a list, element by element, and of values that are known in another way.
use Rattle.std.proofs.Common.{ℕ, ◌+◌, ◌<◌, ◌≡◌, List, [], ◌∷◌, ◌++◌, length, take, get_or, map, refl, sym, ap, ◌∙◌, append_assoc, arith}
use Rattle.std.proofs.lemmas.List.{append-nil, take_more, length-take-le}
use Rattle.plcs_base.specs.PlainCounts.{PlainCounts}
use Rattle.plcs_grammar.specs.declared.expr.Expr.{Expr}
use Rattle.plcs_grammar.specs.declared.expr.VarRef.{VarRef}
use Rattle.plcs_grammar.specs.declared.phrase.Phrase.{Phrase}
use Rattle.plcs_grammar.specs.PlainPhrase.{PlainExpr, PlainVarRef, plain_expr, plain_exprs, plain_phrase, plain_var_ref}
use Rattle.plcs_code.specs.ExprCode.{argument_instrs, arguments_instrs, expr_instrs, expr_count, exprs_instrs, index_instrs, items_instrs, phrase_instrs, variable_instr}
use Rattle.plcs_code.specs.PlainInstr.{PlainInstr}
use Rattle.plcs_code.specs.Private.LaysAll.{LaysAll}
use Rattle.plcs_code.proofs.Laying.{lays_same}
use Rattle.template_tree.specs.Positions.Place.{place_at}

module _ {Out : Type 0} {lays : Out → PlainCounts → PlainInstr → Out → PlainCounts → Type 0} {a b : Out} {u v : PlainCounts} where
  -- the code of an equal expression in plain form
  pub laid_plain : (t s : PlainExpr) → t ≡ s → LaysAll lays a u (expr_instrs s) b v → LaysAll lays a u (expr_instrs t) b v
  laid_plain t s is done = lays_same (sym (ap expr_instrs is)) done

  -- the code of an equal expression of the code
  pub laid_expr : (e f : Expr) → e ≡ f → LaysAll lays a u (expr_instrs (plain_expr e)) b v → LaysAll lays a u (expr_instrs (plain_expr f)) b v
  laid_expr e f is done = lays_same (ap (λ e. expr_instrs (plain_expr e)) is) done

-- one more expression
pub exprs_push : (es : List Expr) (e : Expr) → exprs_instrs (plain_exprs (es ++ (e ∷ []))) ≡ exprs_instrs (plain_exprs es) ++ expr_instrs (plain_expr e)
exprs_push [] e = append-nil (expr_instrs (plain_expr e))
exprs_push (x ∷ es) e =
    ap (λ z. expr_instrs (plain_expr x) ++ z) (exprs_push es e)
    ∙ sym (append_assoc (expr_instrs (plain_expr x)) (exprs_instrs (plain_exprs es)) (expr_instrs (plain_expr e)))

-- the code of expressions up to one is that of those before it, and its own behind them
pub exprs_next : (es : List Expr) (i : ℕ) (e : Expr) → i < length es → e ≡ get_or es i e
    → exprs_instrs (plain_exprs (take (i + 1) es)) ≡ exprs_instrs (plain_exprs (take i es)) ++ expr_instrs (plain_expr e)
exprs_next es i e inside is =
    ap (λ xs. exprs_instrs (plain_exprs xs)) (take_more es i e inside ∙ ap (λ y. take i es ++ (y ∷ [])) (sym is))
    ∙ exprs_push (take i es) e

-- one more argument
pub arguments_push : (es : List Expr) (e : Expr) → arguments_instrs (plain_exprs (es ++ (e ∷ []))) ≡ arguments_instrs (plain_exprs es) ++ argument_instrs (plain_expr e)
arguments_push [] e = append-nil (argument_instrs (plain_expr e))
arguments_push (x ∷ es) e =
    ap (λ z. argument_instrs (plain_expr x) ++ z) (arguments_push es e)
    ∙ sym (append_assoc (argument_instrs (plain_expr x)) (arguments_instrs (plain_exprs es)) (argument_instrs (plain_expr e)))

-- the code of arguments up to one is that of those before it, and its own behind them
pub arguments_next : (es : List Expr) (i : ℕ) (e : Expr) → i < length es → e ≡ get_or es i e
    → arguments_instrs (plain_exprs (take (i + 1) es)) ≡ arguments_instrs (plain_exprs (take i es)) ++ argument_instrs (plain_expr e)
arguments_next es i e inside is =
    ap (λ xs. arguments_instrs (plain_exprs xs)) (take_more es i e inside ∙ ap (λ y. take i es ++ (y ∷ [])) (sym is))
    ∙ arguments_push (take i es) e

-- how many expressions there are
pub counted : (es : List Expr) → expr_count (plain_exprs es) ≡ length es
counted [] = refl
counted (e ∷ es) = omega (arith, counted es)

-- the code of one item of a GET
abbrev pub item_code : (slot k : ℕ) → PlainVarRef → List PlainInstr
item_code slot k target =
    PlainInstr.place (place_at slot k)
    ∷ (index_instrs target ++ (variable_instr PlainInstr.get PlainInstr.get_at target ∷ []))

-- one more item of a GET
pub items_push : (slot k : ℕ) (ts : List VarRef) (t : VarRef)
    → items_instrs slot k (map plain_var_ref (ts ++ (t ∷ [])))
    ≡ items_instrs slot k (map plain_var_ref ts) ++ item_code slot (k + length ts) (plain_var_ref t)
items_push slot k [] t =
    let e : k ≡ k + 0 = omega arith in
    ap (λ (n : ℕ). item_code slot n (plain_var_ref t)) e
items_push slot k (x ∷ ts) t =
    let r = plain_var_ref x in
    let e : k + 1 + length ts ≡ k + length (x ∷ ts) = omega arith in
    ap (λ z. PlainInstr.place (place_at slot k) ∷ (index_instrs r ++ (variable_instr PlainInstr.get PlainInstr.get_at r ∷ z)))
    (items_push slot (k + 1) ts t ∙ ap (λ (n : ℕ). items_instrs slot (k + 1) (map plain_var_ref ts) ++ item_code slot n (plain_var_ref t)) e)
    ∙ ap (λ z. PlainInstr.place (place_at slot k) ∷ z)
    (sym (append_assoc (index_instrs r) (variable_instr PlainInstr.get PlainInstr.get_at r ∷ items_instrs slot (k + 1) (map plain_var_ref ts)) (item_code slot (k + length (x ∷ ts)) (plain_var_ref t))))

-- the code of items up to one is that of those before it, and its own behind them
pub items_next : (slot : ℕ) (ts : List VarRef) (i : ℕ) (t : VarRef) → i < length ts → t ≡ get_or ts i t
    → items_instrs slot 0 (map plain_var_ref (take (i + 1) ts))
    ≡ items_instrs slot 0 (map plain_var_ref (take i ts)) ++ item_code slot i (plain_var_ref t)
items_next slot ts i t inside is =
    let e : 0 + length (take i ts) ≡ i = omega (arith, length-take-le i ts (omega (arith, inside))) in
    ap (λ xs. items_instrs slot 0 (map plain_var_ref xs)) (take_more ts i t inside ∙ ap (λ y. take i ts ++ (y ∷ [])) (sym is))
    ∙ items_push slot 0 (take i ts) t
    ∙ ap (λ (n : ℕ). items_instrs slot 0 (map plain_var_ref (take i ts)) ++ item_code slot n (plain_var_ref t)) e

-- the code of an equal phrase
pub laid_phrase : {Out : Type 0} {lays : Out → PlainCounts → PlainInstr → Out → PlainCounts → Type 0} {a b : Out} {u v : PlainCounts} (p q : Phrase) → p ≡ q
    → LaysAll lays a u (phrase_instrs (plain_phrase q)) b v → LaysAll lays a u (phrase_instrs (plain_phrase p)) b v
laid_phrase p q is done = lays_same (sym (ap (λ p. phrase_instrs (plain_phrase p)) is)) done
