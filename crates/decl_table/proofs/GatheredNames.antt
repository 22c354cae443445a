-- The names of a phrase while they are gathered, from the last one on.
use Rattle.std.specs.Prelude.{◌≡◌, refl, ℕ, zero, suc, ◌<◌, List, [], ◌∷◌, ◌++◌, flat_map, get_or, length, map, reverse, take, Result, Ok, Err, OnOk}
use Rattle.std.proofs.Common.{ap, sym, ◌∙◌, arith, append_assoc}
use Rattle.std.proofs.lemmas.List.{append-nil, reverse-append}
use Rattle.plcs_grammar.specs.declared.expr.Expr.{Expr}
use Rattle.plcs_grammar.specs.declared.expr.VarRef.{VarRef}
use Rattle.plcs_grammar.specs.declared.item.Item.{Item}
use Rattle.plcs_grammar.specs.PlainPhrase.{plain_expr, plain_exprs, plain_var_ref}
use Rattle.template_tree.specs.Checks.Mention.{names_in, names_in_all, reference_names}

-- what follows where it is Ok
pub then_ok : {T E : Type 0} (r : Result T E) {P Q : Type 0} → (P → Q) → OnOk r P → OnOk r Q
then_ok (Ok x) f holds = f holds
then_ok (Err e) f holds = holds

-- with the names that are left, those that are gathered behind the old ones are all names, from the last one on
pub record Gathered (old now left whole : List (List ℕ)) : Type 0 where
  pub all : now ++ reverse left ≡ old ++ reverse whole

-- none is gathered at the beginning
pub gathered_none : (old whole : List (List ℕ)) → Gathered old old whole whole
gathered_none old whole = record { all = refl }

-- some more are gathered
pub gathered_next : (old now new left a b whole : List (List ℕ)) → new ≡ now ++ reverse b → left ≡ a ++ b → Gathered old now left whole
    → Gathered old new a whole
gathered_next old now new left a b whole new_is left_is m = record {
  all =
      ap (λ xs. xs ++ reverse a) new_is
      ∙ append_assoc now (reverse b) (reverse a)
      ∙ ap (λ xs. now ++ xs) (sym (reverse-append a b))
      ∙ ap (λ xs. now ++ reverse xs) (sym left_is)
      ∙ m.all;
}

-- the last ones are gathered
pub gathered_last : (old now new left whole : List (List ℕ)) → new ≡ now ++ reverse left → Gathered old now left whole → new ≡ old ++ reverse whole
gathered_last old now new left whole new_is m = new_is ∙ m.all

-- none is left
pub gathered_all : (old now left whole : List (List ℕ)) → left ≡ [] → Gathered old now left whole → now ≡ old ++ reverse whole
gathered_all old now left whole none m = sym (append-nil now) ∙ ap (λ xs. now ++ reverse xs) (sym none) ∙ m.all

-- two are gathered, one behind the other
pub gathered_two : (old now new a b : List (List ℕ)) → now ≡ old ++ reverse b → new ≡ now ++ reverse a → new ≡ old ++ reverse (a ++ b)
gathered_two old now new a b now_is new_is =
    new_is ∙ ap (λ xs. xs ++ reverse a) now_is ∙ append_assoc old (reverse b) (reverse a) ∙ ap (λ xs. old ++ xs) (sym (reverse-append a b))

-- the first elements of a list with one more
pub take_turn : {X : Type 0} (xs : List X) (k : ℕ) (x : X) → k < length xs → x ≡ get_or xs k x → take (suc k) xs ≡ take k xs ++ x ∷ []
take_turn [] k x within is = absurd (omega (arith, within))
take_turn (y ∷ ys) zero x within is = ap (λ z. z ∷ []) (sym is)
take_turn (y ∷ ys) (suc k) x within is = ap (λ zs. y ∷ zs) (take_turn ys k x (omega (arith, within)) is)

-- the names in expressions with one more behind them
pub exprs_turn : (xs : List Expr) (x : Expr) → names_in_all (plain_exprs (xs ++ x ∷ [])) ≡ names_in_all (plain_exprs xs) ++ names_in (plain_expr x)
exprs_turn [] x = append-nil (names_in (plain_expr x))
exprs_turn (y ∷ ys) x =
    ap (λ zs. names_in (plain_expr y) ++ zs) (exprs_turn ys x)
    ∙ sym (append_assoc (names_in (plain_expr y)) (names_in_all (plain_exprs ys)) (names_in (plain_expr x)))

-- the names in variables with one more behind them
pub variables_turn : (xs : List VarRef) (x : VarRef)
    → flat_map reference_names (map plain_var_ref (xs ++ x ∷ [])) ≡ flat_map reference_names (map plain_var_ref xs) ++ reference_names (plain_var_ref x)
variables_turn [] x = append-nil (reference_names (plain_var_ref x))
variables_turn (y ∷ ys) x =
    ap (λ zs. reference_names (plain_var_ref y) ++ zs) (variables_turn ys x)
    ∙ sym (append_assoc (reference_names (plain_var_ref y)) (flat_map reference_names (map plain_var_ref ys)) (reference_names (plain_var_ref x)))

-- the names of items with one more behind them
pub items_turn : (xs : List Item) (x : Item)
    → map (λ (item : Item). item.name) (xs ++ x ∷ []) ≡ map (λ (item : Item). item.name) xs ++ x.name ∷ []
items_turn [] x = refl
items_turn (y ∷ ys) x = ap (λ zs. y.name ∷ zs) (items_turn ys x)

-- where no name is mentioned, none is gathered
pub gathered_nothing : (old : List (List ℕ)) → old ≡ old ++ reverse []
gathered_nothing old = sym (append-nil old)
