-- Frames in a list, the innermost last, as the machine's stack.
use Rattle.std.proofs.Common.{◌≡◌, ℕ, suc, true, ◌==◌, length, refl, ap, ◌∙◌, arith, eqb-true, List, [], ◌∷◌, ◌++◌, map, None}
use Rattle.std.proofs.lemmas.List.{map-append}
use Rattle.plcs_grammar.specs.declared.expr.Expr.{Expr}
use Rattle.plcs_grammar.specs.declared.expr.VarRef.{VarRef}
use Rattle.plcs_grammar.specs.PlainPhrase.{PlainExpr, PlainExprs, plain_expr, plain_exprs, exprs_from, plain_var_ref}
use Rattle.phrase_parser.specs.Private.Machine as machine
use Rattle.phrase_parser.specs.Private.Machine.{expr_push, phrase_of_stack}
use Rattle.phrase_parser.specs.declared.builder.stack.ParseFrame.{ParseFrame}
use Rattle.phrase_parser.specs.declared.builder.stack.ParseFrame.TheVariants as frame
use Rattle.phrase_parser.specs.declared.builder.stack.ParseStack.{ParseStack}
use Rattle.phrase_parser.specs.Private.Views.{base_of, pushed, stack_of, stack_on}

-- the last frame of a list stands on top of the stack
pub stack_on_push : (s : machine.ParseStack) (fs : List ParseFrame) (f : ParseFrame) → stack_on s (fs ++ (f ∷ [])) ≡ pushed f (stack_on s fs)
stack_on_push s [] f = refl
stack_on_push s (g ∷ gs) f = stack_on_push (pushed g s) gs f

-- the plain form of a list of expressions with one more
exprs_from_push : (ts : List PlainExpr) (t : PlainExpr) → exprs_from (ts ++ (t ∷ [])) ≡ expr_push (exprs_from ts) t
exprs_from_push [] t = refl
exprs_from_push (x ∷ xs) t = ap (λ (rest : PlainExprs). PlainExprs.cons x rest) (exprs_from_push xs t)

pub exprs_of_push : (es : List Expr) (e : Expr) → plain_exprs (es ++ (e ∷ [])) ≡ expr_push (plain_exprs es) (plain_expr e)
exprs_of_push es e = ap exprs_from (map-append plain_expr es (e ∷ [])) ∙ exprs_from_push (map plain_expr es) (plain_expr e)

-- the plain forms of a list of variables with one more
pub references_of_push : (vs : List VarRef) (v : VarRef)
    → map plain_var_ref (vs ++ (v ∷ [])) ≡ map plain_var_ref vs ++ (plain_var_ref v ∷ [])
references_of_push vs v = map-append plain_var_ref vs (v ∷ [])

-- no phrase ends where a frame is open
pub ended_at_open : (f : ParseFrame) (s : machine.ParseStack) (t : PlainExpr) → phrase_of_stack (pushed f s) t ≡ None
ended_at_open (frame.Prefix op) s t = refl
ended_at_open (frame.Left a op) s t = refl
ended_at_open frame.Parenthesis s t = refl
ended_at_open (frame.Subscript name) s t = refl
ended_at_open (frame.Arguments function done) s t = refl

-- an operand is joined with nothing where no frame is open on the stack
pub nothing_open : (s : ParseStack) (level : ℕ) (t : PlainExpr) → (length s.frames.items == 0) ≡ true
    → (stack_of s, t) ≡ machine.reduced (stack_of s) level t
nothing_open s level t none = go s.frames.items none
  where
    go : (fs : List ParseFrame) → (length fs == 0) ≡ true
        → (stack_on (machine.ParseStack.base (base_of s.base)) fs, t)
        ≡ machine.reduced (stack_on (machine.ParseStack.base (base_of s.base)) fs) level t
    go [] none = refl
    go (f ∷ fs) none =
        let same : suc (length fs) ≡ 0 = eqb-true (suc (length fs)) 0 none in
        absurd (omega (arith, same))
