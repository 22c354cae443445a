-- The tokens of an expression are read as the expression.
use Rattle.std.proofs.Common.{◌≡◌, refl, ℕ, ◌+◌, ◌<◌, ◌≤◌, pos, negsuc, leb, List, Some, ap, subst, ◌∙◌, arith, le_refl, le_trans, le-leb, leb-true, lit≤}
use Rattle.std.proofs.lemmas.Bool.{cond-true, cond-false, false_from_ne_true}
use Rattle.plcs_grammar.specs.declared.operator.PrefixOp.{PrefixOp}
use Rattle.plcs_grammar.specs.declared.operator.PrefixOp.TheVariants as before
use Rattle.plcs_grammar.specs.declared.operator.InfixOp.{InfixOp}
use Rattle.plcs_grammar.specs.declared.operator.InfixOp.TheVariants.{Or, And, Equal, NotEqual, Less, LessEqual, Greater, GreaterEqual, Join, Plus, Minus, Times, Divide}
use Rattle.plcs_grammar.specs.declared.sign.Sign.{Sign}
use Rattle.plcs_grammar.specs.Sign.{prefix_sign, infix_sign}
use Rattle.plcs_grammar.specs.Token.{Token}
use Rattle.plcs_grammar.specs.PlainPhrase.{PlainExpr, PlainExprs, PlainVarRef}
use Rattle.plcs_grammar.specs.Builtin.{builtin_name}
use Rattle.plcs_grammar.specs.Level.{IsNoCall, priority, tightest}
use Rattle.plcs_grammar.specs.OpenedLevel.{opened_levels as levels, opened_levels_of_all as levels_of_all, opened_levels_behind as levels_behind}
use Rattle.phrase_parser.specs.Private.Machine.{ParseStack, ParseState, Operand, expr_push, reduced, after_infix, shift, shift_close_stack, shift_comma_stack, open_frame}
use Rattle.phrase_parser.specs.Private.MachineLevels.{stack_depth, opens}
use Rattle.phrase_parser.proofs.Machine.ExprSpelling.{spell, spell_all, spell_behind, Fits, FitsReference, FitsAll, FitsBehind}
use Rattle.phrase_parser.proofs.Machine.BuiltinNames.{builtin_of_name, no_builtin}
use Rattle.phrase_parser.proofs.Machine.MachineRuns.{Goes, there, by, joins}

-- no operator of the level or a higher one is open on the top of the stack
abbrev pub Blocks : ℕ → ParseStack → Type 0
Blocks level (ParseStack.base b) = Unit {0}
Blocks level (ParseStack.prefix op s) = tightest ≤ level
Blocks level (ParseStack.left a op s) = priority op < level
Blocks level (ParseStack.parenthesis s) = Unit {0}
Blocks level (ParseStack.subscript name s) = Unit {0}
Blocks level (ParseStack.arguments function done s) = Unit {0}

-- an infix operator is of a lower level than primaries
pub below_tightest : (op : InfixOp) → priority op + 1 ≤ tightest
below_tightest Or = lit≤ tt
below_tightest And = lit≤ tt
below_tightest Equal = lit≤ tt
below_tightest NotEqual = lit≤ tt
below_tightest Less = lit≤ tt
below_tightest LessEqual = lit≤ tt
below_tightest Greater = lit≤ tt
below_tightest GreaterEqual = lit≤ tt
below_tightest Join = lit≤ tt
below_tightest Plus = lit≤ tt
below_tightest Minus = lit≤ tt
below_tightest Times = lit≤ tt
below_tightest Divide = lit≤ tt

-- an infix operator is of no level below the lowest
pub above_none : (op : InfixOp) → 1 ≤ priority op
above_none Or = lit≤ tt
above_none And = lit≤ tt
above_none Equal = lit≤ tt
above_none NotEqual = lit≤ tt
above_none Less = lit≤ tt
above_none LessEqual = lit≤ tt
above_none Greater = lit≤ tt
above_none GreaterEqual = lit≤ tt
above_none Join = lit≤ tt
above_none Plus = lit≤ tt
above_none Minus = lit≤ tt
above_none Times = lit≤ tt
above_none Divide = lit≤ tt

-- an infix operator behind an operand is read
pub steps_infix : (op : InfixOp) (s : ParseStack) (t : PlainExpr)
    → shift (ParseState.had s t) (Token.sign (infix_sign op)) ≡ Some (after_infix op (reduced s (priority op) t))
steps_infix Or s t = refl
steps_infix And s t = refl
steps_infix Equal s t = refl
steps_infix NotEqual s t = refl
steps_infix Less s t = refl
steps_infix LessEqual s t = refl
steps_infix Greater s t = refl
steps_infix GreaterEqual s t = refl
steps_infix Join s t = refl
steps_infix Plus s t = refl
steps_infix Minus s t = refl
steps_infix Times s t = refl
steps_infix Divide s t = refl

-- an infix operator behind an operand opens no level
opens_infix : (op : InfixOp) (s : ParseStack) (t : PlainExpr) → opens (ParseState.had s t) (Token.sign (infix_sign op)) ≡ 0
opens_infix Or s t = refl
opens_infix And s t = refl
opens_infix Equal s t = refl
opens_infix NotEqual s t = refl
opens_infix Less s t = refl
opens_infix LessEqual s t = refl
opens_infix Greater s t = refl
opens_infix GreaterEqual s t = refl
opens_infix Join s t = refl
opens_infix Plus s t = refl
opens_infix Minus s t = refl
opens_infix Times s t = refl
opens_infix Divide s t = refl

-- a prefix operator before an operand is read
pub steps_prefix : (op : PrefixOp) (s : ParseStack)
    → shift (ParseState.wanted s) (Token.sign (prefix_sign op)) ≡ Some (ParseState.wanted (ParseStack.prefix op s))
steps_prefix before.Plus s = refl
steps_prefix before.Minus s = refl
steps_prefix before.Not s = refl

-- what blocks a level blocks the levels above it
pub blocks_above : (l m : ℕ) (s : ParseStack) → Blocks l s → l ≤ m → Blocks m s
blocks_above l m (ParseStack.base b) h le = tt
blocks_above l m (ParseStack.prefix op s) h le = le_trans h le
blocks_above l m (ParseStack.left a op s) h le = le_trans h le
blocks_above l m (ParseStack.parenthesis s) h le = tt
blocks_above l m (ParseStack.subscript name s) h le = tt
blocks_above l m (ParseStack.arguments function done s) h le = tt

-- nothing is joined where the level is blocked
pub settled : (m : ℕ) (s : ParseStack) (t : PlainExpr) → Blocks m s → m < tightest → reduced s m t ≡ (s, t)
settled m (ParseStack.base b) t h lt = refl
settled m (ParseStack.prefix op s) t h lt = absurd (omega arith)
settled m (ParseStack.left a op s) t h lt =
    cond-false (leb m (priority op)) _ _ (false_from_ne_true _ (λ e. let k = leb-true m (priority op) e in absurd (omega arith)))
settled m (ParseStack.parenthesis s) t h lt = refl
settled m (ParseStack.subscript name s) t h lt = refl
settled m (ParseStack.arguments function done s) t h lt = refl

-- an open operator of the level or a higher one is joined
pub joins_left : (m : ℕ) (op : InfixOp) (a b : PlainExpr) (s : ParseStack) → m ≤ priority op
    → reduced (ParseStack.left a op s) m b ≡ reduced s m (PlainExpr.binary op a b)
joins_left m op a b s le = cond-true (leb m (priority op)) _ _ (le-leb m (priority op) le)

-- the expressions that are done, and the rest behind them
abbrev pub exprs_append : PlainExprs → PlainExprs → PlainExprs
exprs_append PlainExprs.nil ts = ts
exprs_append (PlainExprs.cons a rest) ts = PlainExprs.cons a (exprs_append rest ts)

-- one expression more at the end of those that are done is the first of the rest
pub push_append : (done : PlainExprs) (t : PlainExpr) (ts : PlainExprs) → exprs_append (expr_push done t) ts ≡ exprs_append done (PlainExprs.cons t ts)
push_append PlainExprs.nil t ts = refl
push_append (PlainExprs.cons a rest) t ts = ap (PlainExprs.cons a) (push_append rest t ts)

-- one expression more at the end is a rest of one
pub push_as_append : (done : PlainExprs) (t : PlainExpr) → expr_push done t ≡ exprs_append done (PlainExprs.cons t PlainExprs.nil)
push_as_append PlainExprs.nil t = refl
push_as_append (PlainExprs.cons a rest) t = ap (PlainExprs.cons a) (push_as_append rest t)

-- the tokens of the expression lead to an operand that is the expression once its level is done
pub record Arrives (s : ParseStack) (t : PlainExpr) (l : ℕ) : Type 0 where
  pub stack : ParseStack
  pub top : PlainExpr
  pub goes : Goes (ParseState.wanted s) (spell t) (levels t (stack_depth s)) (ParseState.had stack top)
  pub same : (m : ℕ) → m ≤ l → reduced stack m top ≡ reduced s m t

-- a place where expressions are joined by commas, with those that are done, as many levels in as it says
pub record Holds (h : PlainExprs → ParseStack) (outside : ℕ) : Type 0 where
  pub ends : (done : PlainExprs) (t : PlainExpr) → reduced (h done) 1 t ≡ (h done, t)
  pub comma : (done : PlainExprs) (t : PlainExpr) → shift_comma_stack (h done) t ≡ Some (ParseState.wanted (h (expr_push done t)))
  pub blocks : (done : PlainExprs) → Blocks 1 (h done)
  pub deep : (done : PlainExprs) → stack_depth (h done) ≡ outside

-- the tokens of the expressions lead to the last of them behind the others
pub record ArrivesAll (h : PlainExprs → ParseStack) (outside : ℕ) (done ts : PlainExprs) (ks : List Token) (ls : List ℕ) (from : ParseState) : Type 0 where
  pub stack : ParseStack
  pub top : PlainExpr
  pub front : PlainExprs
  pub last : PlainExpr
  pub goes : Goes from ks ls (ParseState.had stack top)
  pub same : reduced stack 1 top ≡ (h front, last)
  pub whole : expr_push front last ≡ exprs_append done ts

-- the arguments of a built-in call stand in a place where expressions are joined by commas
holds_arguments : (s : ParseStack) (function : _) → Holds (λ done. ParseStack.arguments function done s) (stack_depth s + 1)
holds_arguments s function = record { ends = λ done t. refl; comma = λ done t. refl; blocks = λ done. tt; deep = λ done. refl }

-- a comma behind an expression in a place where expressions are joined by commas
comma_step : (h : PlainExprs → ParseStack) (outside : ℕ) → Holds h outside → (done : PlainExprs) (stack : ParseStack) (top t : PlainExpr)
    → reduced stack 1 top ≡ (h done, t)
    → shift (ParseState.had stack top) (Token.sign Sign.Comma) ≡ Some (ParseState.wanted (h (expr_push done t)))
comma_step h outside holds done stack top t e = ap (λ (o : Operand). shift_comma_stack o.0 o.1) e ∙ holds.comma done t

mutual
  -- the tokens of an expression lead to it
  pub arrives : (t : PlainExpr) (l : ℕ) (s : ParseStack) → l ≤ tightest → Fits t l → Blocks l s → Arrives s t l
  arrives (PlainExpr.number (pos n)) l s le f h = record { stack = s; top = PlainExpr.number (pos n); goes = by refl refl there; same = λ m k. refl }
  arrives (PlainExpr.number (negsuc n)) l s le f h = absurd f
  arrives (PlainExpr.text value) l s le f h = record { stack = s; top = PlainExpr.text value; goes = by refl refl there; same = λ m k. refl }
  arrives (PlainExpr.bit value) l s le f h = record { stack = s; top = PlainExpr.bit value; goes = by refl refl there; same = λ m k. refl }
  arrives (PlainExpr.variable reference) l s le f h = arrives_reference reference l s f.0 f.1
  arrives (PlainExpr.unary op a) l s le f h =
      let r = arrives a tightest (ParseStack.prefix op s) (le_refl _) f (le_refl _) in
      record {
        stack = r.stack;
        top = r.top;
        goes = by (steps_prefix op s) refl r.goes;
        same = λ m k. r.same m (le_trans k le);
      }
  arrives (PlainExpr.binary op a b) l s le f h =
      let under : priority op ≤ tightest = omega (arith, below_tightest op) in
      let p = arrives a (priority op) s under f.1 (blocks_above l (priority op) s h f.0) in
      let q = arrives b (priority op + 1) (ParseStack.left a op s) (below_tightest op) f.2 (omega arith) in
      let now : shift (ParseState.had p.stack p.top) (Token.sign (infix_sign op)) ≡ Some (ParseState.wanted (ParseStack.left a op s)) =
      steps_infix op p.stack p.top
      ∙ ap (λ o. Some (after_infix op o))
      (p.same (priority op) (le_refl _) ∙ settled (priority op) s a (blocks_above l (priority op) s h f.0) (omega (arith, below_tightest op)))
      in
      record {
        stack = q.stack;
        top = q.top;
        goes = joins p.goes (by now (opens_infix op p.stack p.top) q.goes);
        same = λ m k. q.same m (omega (arith, f.0)) ∙ joins_left m op a b s (le_trans k f.0);
      }
  arrives (PlainExpr.builtin function ts) l s le f h =
      let r = arrives_all ts (λ done. ParseStack.arguments function done s) (stack_depth s + 1) (holds_arguments s function) PlainExprs.nil f in
      record {
        stack = s;
        top = PlainExpr.builtin function ts;
        goes = by refl refl (by (ap (λ o. Some (ParseState.wanted (open_frame (builtin_name function) o s))) (builtin_of_name function)) refl
            (joins r.goes
            (by (ap (λ (o : Operand). shift_close_stack o.0 o.1) r.same ∙ ap (λ z. Some (ParseState.had s (PlainExpr.builtin function z))) r.whole) refl there)));
        same = λ m k. refl;
      }
  arrives (PlainExpr.parenthesized a) l s le f h =
      let r = arrives a 1 (ParseStack.parenthesis s) (lit≤ tt) f tt in
      record {
        stack = s;
        top = PlainExpr.parenthesized a;
        goes = by refl refl (joins r.goes (by (ap (λ (o : Operand). shift_close_stack o.0 o.1) (r.same 1 (le_refl _))) refl there));
        same = λ m k. refl;
      }

  -- the tokens of a variable lead to it
  arrives_reference : (reference : PlainVarRef) (l : ℕ) (s : ParseStack) → IsNoCall reference → FitsReference reference → Arrives s (PlainExpr.variable reference) l
  arrives_reference (PlainVarRef.simple name) l s free f =
      record { stack = s; top = PlainExpr.variable (PlainVarRef.simple name); goes = by refl refl there; same = λ m k. refl }
  arrives_reference (PlainVarRef.subscripted name index) l s free f =
      let r = arrives index 1 (ParseStack.subscript name s) (lit≤ tt) f tt in
      record {
        stack = s;
        top = PlainExpr.variable (PlainVarRef.subscripted name index);
        goes = by refl refl (by (ap (λ o. Some (ParseState.wanted (open_frame name o s))) (no_builtin name free)) refl
            (joins r.goes (by (ap (λ (o : Operand). shift_close_stack o.0 o.1) (r.same 1 (le_refl _))) refl there)));
        same = λ m k. refl;
      }

  -- the tokens of expressions joined by commas lead to them
  pub arrives_all : (ts : PlainExprs) (h : PlainExprs → ParseStack) (outside : ℕ) → Holds h outside → (done : PlainExprs) → FitsAll ts
      → ArrivesAll h outside done ts (spell_all ts) (levels_of_all ts outside) (ParseState.wanted (h done))
  arrives_all PlainExprs.nil h outside holds done f = absurd f
  arrives_all (PlainExprs.cons a rest) h outside holds done f =
      let p = arrives a 1 (h done) (lit≤ tt) f.0 (holds.blocks done) in
      let q = arrives_behind rest h outside holds done a p.stack p.top (p.same 1 (le_refl _) ∙ holds.ends done a) f.1 in
      record {
        stack = q.stack;
        top = q.top;
        front = q.front;
        last = q.last;
        goes = joins (subst (λ d. Goes (ParseState.wanted (h done)) (spell a) (levels a d) (ParseState.had p.stack p.top)) (holds.deep done) p.goes) q.goes;
        same = q.same;
        whole = q.whole;
      }

  -- the tokens of more expressions, each behind a comma, lead to them
  arrives_behind : (ts : PlainExprs) (h : PlainExprs → ParseStack) (outside : ℕ) → Holds h outside → (done : PlainExprs) (t : PlainExpr) (stack : ParseStack) (top : PlainExpr)
      → reduced stack 1 top ≡ (h done, t) → FitsBehind ts
      → ArrivesAll h outside done (PlainExprs.cons t ts) (spell_behind ts) (levels_behind ts outside) (ParseState.had stack top)
  arrives_behind PlainExprs.nil h outside holds done t stack top e f = record {
    stack = stack;
    top = top;
    front = done;
    last = t;
    goes = there;
    same = e;
    whole = push_as_append done t;
  }
  arrives_behind (PlainExprs.cons b rest) h outside holds done t stack top e f =
      let here = expr_push done t in
      let p = arrives b 1 (h here) (lit≤ tt) f.0 (holds.blocks here) in
      let q = arrives_behind rest h outside holds here b p.stack p.top (p.same 1 (le_refl _) ∙ holds.ends here b) f.1 in
      record {
        stack = q.stack;
        top = q.top;
        front = q.front;
        last = q.last;
        goes = by (comma_step h outside holds done stack top t e) refl
            (joins (subst (λ d. Goes (ParseState.wanted (h here)) (spell b) (levels b d) (ParseState.had p.stack p.top)) (holds.deep here) p.goes) q.goes);
        same = q.same;
        whole = q.whole ∙ push_append done t (PlainExprs.cons b rest);
      }
