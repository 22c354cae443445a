-- What is found in arguments, one after the other.
use Rattle.std.proofs.Common.{◌≡◌, ℕ, ◌+◌, zero, suc, Bool, true, false, cond, List, [], ◌∷◌, ◌++◌, length, drop, slice_get, Some, refl, sym, ap, ◌∙◌, add-one}
use Rattle.std.specs.Prelude.{◌&&◌, option_to_list, Result, Ok, Err}
use Rattle.plcs_base.specs.declared.mark.MarkKind.{MarkKind}
use Rattle.plcs_base.specs.declared.declared.Declared.{Declared}
use Rattle.plcs_base.specs.declared.value.Kind.{Kind}
use Rattle.plcs_grammar.specs.declared.builtin.Builtin.{Builtin}
use Rattle.plcs_grammar.specs.declared.expr.Expr.{Expr}
use Rattle.plcs_grammar.specs.PlainPhrase.{plain_expr, plain_exprs}
use Rattle.template_tree.specs.Checks.KindTable.{PlainBuiltinRow, builtin_row}
use Rattle.template_tree.specs.Checks.Verdict.{both_found, builtin_found, fit, is_count, kind_of, kinds_of, offence_in, then_found}
use Rattle.type_marks.specs.declared.kind_table.BuiltinRow.{BuiltinRow as Row}
use Rattle.type_marks.specs.Private.Arguments.{fit_found, judged, takes_kind, taken_of}
use Rattle.type_marks.specs.Private.PlainBuiltinRow.{plain_builtin_row}

-- ---- whether kinds fit

-- the first of them, and the others
fit_first : (taken : List Kind) (i : ℕ) (kind : Kind) (kinds : List Kind)
    → fit (drop i taken) (kind ∷ kinds) ≡ (takes_kind (slice_get taken i) kind && fit (drop (suc i) taken) kinds)
fit_first [] zero kind kinds = refl
fit_first [] (suc i) kind kinds = refl
fit_first (wanted ∷ taken) zero kind kinds = refl
fit_first (wanted ∷ taken) (suc i) kind kinds = fit_first taken i kind kinds

fit_none : (taken : List Kind) → fit taken [] ≡ true
fit_none [] = refl
fit_none (kind ∷ taken) = refl

and_assoc : (a b c : Bool) → (a && (b && c)) ≡ ((a && b) && c)
and_assoc true b c = refl
and_assoc false b c = refl

and_true : (a : Bool) → (a && true) ≡ a
and_true true = refl
and_true false = refl

-- what is found where so far they fit or don't, and these are left
abbrev pub fit_left : Bool → List Kind → Result (List Kind) MarkKind → Result Bool MarkKind
fit_left fits taken found = then_found found (λ kinds. Ok (fits && fit taken kinds))

pub fit_all : (taken : List Kind) (found : Result (List Kind) MarkKind) → fit_left true taken found ≡ fit_found taken found
fit_all taken (Ok kinds) = refl
fit_all taken (Err offence) = refl

fit_one : (fits : Bool) (taken : List Kind) (i : ℕ) (kind : Kind) (rest : Result (List Kind) MarkKind)
    → fit_left fits (drop i taken) (both_found (Ok kind) rest (λ k ks. Ok (k ∷ ks)))
    ≡ fit_left (fits && takes_kind (slice_get taken i) kind) (drop (i + 1) taken) rest
fit_one fits taken i kind (Err offence) = refl
fit_one fits taken i kind (Ok kinds) =
    ap (λ b. Ok (fits && b)) (fit_first taken i kind kinds ∙ ap (λ n. takes_kind (slice_get taken i) kind && fit (drop n taken) kinds) (sym (add-one i)))
    ∙ ap (λ b. Ok b) (and_assoc fits (takes_kind (slice_get taken i) kind) (fit (drop (i + 1) taken) kinds))

-- ---- expressions in turn

module _ (items : List Declared) where
  -- the kinds of the expressions that are left, where the first is this one
  kinds_left : (exprs : List Expr) (i : ℕ) (expr : Expr) (rest : List Expr) → drop i exprs ≡ expr ∷ rest
      → kinds_of items (plain_exprs (drop i exprs))
      ≡ both_found (kind_of items (plain_expr expr)) (kinds_of items (plain_exprs rest)) (λ k ks. Ok (k ∷ ks))
  kinds_left exprs i expr rest is = ap (λ es. kinds_of items (plain_exprs es)) is

  pub fit_next : (exprs : List Expr) (i : ℕ) (expr : Expr) (fits : Bool) (taken : List Kind) (kind : Kind)
      → drop i exprs ≡ expr ∷ drop (i + 1) exprs → Ok kind ≡ kind_of items (plain_expr expr)
      → fit_left (fits && takes_kind (slice_get taken i) kind) (drop (i + 1) taken) (kinds_of items (plain_exprs (drop (i + 1) exprs)))
      ≡ fit_left fits (drop i taken) (kinds_of items (plain_exprs (drop i exprs)))
  fit_next exprs i expr fits taken kind left is =
      sym (fit_one fits taken i kind (kinds_of items (plain_exprs (drop (i + 1) exprs))))
      ∙ ap (λ k. fit_left fits (drop i taken) (both_found k (kinds_of items (plain_exprs (drop (i + 1) exprs))) (λ k ks. Ok (k ∷ ks)))) is
      ∙ ap (fit_left fits (drop i taken)) (sym (kinds_left exprs i expr (drop (i + 1) exprs) left))

  pub fit_end : (exprs : List Expr) (i : ℕ) (fits : Bool) (taken : List Kind) → drop i exprs ≡ []
      → Ok fits ≡ fit_left fits taken (kinds_of items (plain_exprs (drop i exprs)))
  fit_end exprs i fits taken none =
      sym (ap (λ b. Ok b) (ap (λ b. fits && b) (fit_none taken) ∙ and_true fits))
      ∙ ap (λ es. fit_left fits taken (kinds_of items (plain_exprs es))) (sym none)

  pub offence_here : (exprs : List Expr) (i : ℕ) (expr : Expr) (offence : MarkKind)
      → drop i exprs ≡ expr ∷ drop (i + 1) exprs → Err offence ≡ kind_of items (plain_expr expr)
      → Some offence ≡ offence_in (kinds_of items (plain_exprs (drop i exprs)))
  offence_here exprs i expr offence left is =
      ap (λ k. offence_in (both_found k (kinds_of items (plain_exprs (drop (i + 1) exprs))) (λ k ks. Ok (k ∷ ks)))) is
      ∙ ap offence_in (sym (kinds_left exprs i expr (drop (i + 1) exprs) left))

  -- as many kinds as expressions
  pub kinds_length : (exprs : List Expr) (kinds : List Kind) → kinds_of items (plain_exprs exprs) ≡ Ok kinds → length kinds ≡ length exprs
  kinds_length [] kinds is = let e : [] ≡ kinds = cc in ap length (sym e)
  kinds_length (expr ∷ exprs) kinds is =
      by (kind_of items (plain_expr expr)) (kinds_of items (plain_exprs exprs)) is (kinds_length exprs)
    where
      by : (first : Result Kind MarkKind) (rest : Result (List Kind) MarkKind)
          → both_found first rest (λ k ks. Ok (k ∷ ks)) ≡ Ok kinds → ((ks : List Kind) → rest ≡ Ok ks → length ks ≡ length exprs)
          → length kinds ≡ suc (length exprs)
      by (Ok k) (Ok ks) is rest = let e : k ∷ ks ≡ kinds = cc in ap length (sym e) ∙ ap suc (rest ks refl)
      by (Ok k) (Err offence) is rest = absurd (cc)
      by (Err offence) rest is others = absurd (cc)

-- ---- a built-in function

pub judged_is : (row : Row) (function : Builtin) (count : ℕ) (found : Result (List Kind) MarkKind) → plain_builtin_row row ≡ builtin_row function
    → ((kinds : List Kind) → found ≡ Ok kinds → length kinds ≡ count)
    → judged row count (fit_found (taken_of row) found) ≡ then_found found (builtin_found function)
judged_is row function count (Err offence) same counted = refl
judged_is row function count (Ok kinds) same counted =
    ap (λ n. judged row n (fit_found (taken_of row) (Ok kinds))) (sym (counted kinds refl))
    ∙ ap (λ (r : PlainBuiltinRow).
    cond (is_count (length r.takes) r.perhaps (length kinds))
    (cond (fit (r.takes ++ option_to_list r.perhaps) kinds) (Ok r.gives) (Err MarkKind.TypeMismatch)) (Err MarkKind.WrongCount)) same
