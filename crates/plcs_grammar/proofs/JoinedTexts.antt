-- The text of a list, element by element.
use Rattle.std.proofs.Common.{ℕ, ◌+◌, ◌<◌, ◌≡◌, List, [], ◌∷◌, ◌++◌, length, take, get_or, map, refl, sym, ap, ◌∙◌, append_assoc, arith}
use Rattle.std.proofs.lemmas.List.{append-nil, take_more, length-take-le}
use Rattle.plcs_grammar.specs.declared.expr.Expr.{Expr}
use Rattle.plcs_grammar.specs.PlainPhrase.{plain_expr, plain_exprs}
use Rattle.plcs_grammar.specs.Canon.{canon, canon_list, canon_behind, canon_call, parenthesized_bytes, comma, joined, more_joined}
use Rattle.plcs_grammar.specs.Private.Separator.{separator}

-- the text behind the first element grows by that of one element more
pub more_joined_push : {X : Type 0} (bytes_of : X → List ℕ) (xs : List X) (x : X)
    → more_joined bytes_of (xs ++ (x ∷ [])) ≡ more_joined bytes_of xs ++ (comma ++ bytes_of x)
more_joined_push bytes_of [] x = ap (λ z. comma ++ z) (append-nil (bytes_of x))
more_joined_push bytes_of (y ∷ ys) x =
    ap (λ z. comma ++ (bytes_of y ++ z)) (more_joined_push bytes_of ys x)
    ∙ ap (λ z. comma ++ z) (sym (append_assoc (bytes_of y) (more_joined bytes_of ys) (comma ++ bytes_of x)))

pub joined_push : {X : Type 0} (bytes_of : X → List ℕ) (xs : List X) (x : X)
    → joined bytes_of (xs ++ (x ∷ [])) ≡ joined bytes_of xs ++ (separator (length xs) ++ bytes_of x)
joined_push bytes_of [] x = append-nil (bytes_of x)
joined_push bytes_of (y ∷ ys) x =
    ap (λ z. bytes_of y ++ z) (more_joined_push bytes_of ys x)
    ∙ sym (append_assoc (bytes_of y) (more_joined bytes_of ys) (comma ++ bytes_of x))

-- the text of a list of expressions is that of a list of any elements
pub behind_is : (es : List Expr) → more_joined (λ e. canon (plain_expr e)) es ≡ canon_behind (plain_exprs es)
behind_is [] = refl
behind_is (e ∷ es) = ap (λ z. comma ++ (canon (plain_expr e) ++ z)) (behind_is es)

pub list_is : (es : List Expr) → joined (λ e. canon (plain_expr e)) es ≡ canon_list (plain_exprs es)
list_is [] = refl
list_is (e ∷ es) = ap (λ z. canon (plain_expr e) ++ z) (behind_is es)

-- the text of a list up to an element is that of those before it, and its own behind them
pub joined_next : {X : Type 0} (bytes_of : X → List ℕ) (xs : List X) (i : ℕ) (x : X)
    → i < length xs → x ≡ get_or xs i x
    → joined bytes_of (take (i + 1) xs) ≡ joined bytes_of (take i xs) ++ (separator i ++ bytes_of x)
joined_next bytes_of xs i x inside is =
    ap (joined bytes_of) (take_more xs i x inside ∙ ap (λ y. take i xs ++ (y ∷ [])) (sym is))
    ∙ joined_push bytes_of (take i xs) x
    ∙ ap (λ n. joined bytes_of (take i xs) ++ (separator n ++ bytes_of x)) (length-take-le i xs (omega (arith, inside)))

-- the text of elements that were made from others
pub more_joined_map : {X Y : Type 0} (bytes_of : Y → List ℕ) (f : X → Y) (xs : List X)
    → more_joined (λ x. bytes_of (f x)) xs ≡ more_joined bytes_of (map f xs)
more_joined_map bytes_of f [] = refl
more_joined_map bytes_of f (x ∷ xs) = ap (λ z. comma ++ (bytes_of (f x) ++ z)) (more_joined_map bytes_of f xs)

pub joined_map : {X Y : Type 0} (bytes_of : Y → List ℕ) (f : X → Y) (xs : List X)
    → joined (λ x. bytes_of (f x)) xs ≡ joined bytes_of (map f xs)
joined_map bytes_of f [] = refl
joined_map bytes_of f (x ∷ xs) = ap (λ z. bytes_of (f x) ++ z) (more_joined_map bytes_of f xs)

-- the text of a call with arguments
pub call_text : (name : List ℕ) (es : List Expr) → 0 < length es
    → canon_call name (plain_exprs es) ≡ name ++ parenthesized_bytes (canon_list (plain_exprs es))
call_text name [] some = absurd (omega (arith, some))
call_text name (e ∷ es) some = refl
