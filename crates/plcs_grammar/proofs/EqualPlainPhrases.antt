-- Plain forms that are equal, part by part.
use Rattle.std.proofs.Common.{ℕ, ◌<◌, ◌≡◌, ◌↔◌, IsTrue, Bool, true, false, List, [], ◌∷◌, length, map, get_or, refl, sym, ap, ◌∙◌}
use Rattle.std.proofs.lemmas.List.{get_or-map, length-map}
use Rattle.std.proofs.lemmas.Bool.Decides.{Decides-eqb, Decides-and, Decides-like}
use Rattle.std.proofs.lemmas.Slice.Eq.{slice_eq-Decides, bytes_eq-Decides}
use Rattle.std.specs.Bool.{Decides}
use Rattle.std.specs.Option.{option_eq}
use Rattle.std.specs.Prelude.{Option, Some, None, nat_eq, bytes_eq, ◌&&◌, ◌==◌, Vec}
use Rattle.std.specs.declared.alloc.Global.{Global}
use Rattle.plcs_base.specs.declared.name.Name.{Name}
use lib.Pointwise.{pointwise}
use Rattle.plcs_grammar.specs.declared.expr.Expr.{Expr}
use Rattle.plcs_grammar.specs.declared.item.Item.{Item}
use Rattle.plcs_grammar.specs.declared.phrase.Phrase.{Phrase}
use Rattle.plcs_grammar.specs.declared.phrase.Phrase.TheVariants.{DeclaredList, NameList}
use Rattle.plcs_grammar.specs.PlainPhrase.{PlainExpr, PlainPhrase, plain_expr, plain_exprs, exprs_from, plain_phrase}

-- the answer no tells what isn't so
pub told_no : {P : Type 0} → ¬ P → IsTrue false ↔ P
told_no other = (λ e. cc, λ p. absurd (other p))

-- an answer that tells a fact tells another that holds where it does
pub told_through : {P Q : Type 0} (answer : Bool) → (P ↔ Q) → IsTrue answer ↔ P → IsTrue answer ↔ Q
told_through answer same told = (λ e. same.0 (told.0 e), λ q. told.1 (same.1 q))

-- equal lists of expressions are made from equal lists
pub exprs_from_tells : (ts us : List PlainExpr) → exprs_from ts ≡ exprs_from us → ts ≡ us
exprs_from_tells [] [] e = refl
exprs_from_tells [] (u ∷ us) e = cc
exprs_from_tells (t ∷ ts) [] e = cc
exprs_from_tells (t ∷ ts) (u ∷ us) e =
    let rest : exprs_from ts ≡ exprs_from us = cc in
    let more : ts ≡ us = exprs_from_tells ts us rest in
    cc

-- lists that have one image have elements of one image at each place
pub images_at : {X Y : Type 0} (f : X → Y) (xs ys : List X) (i : ℕ) (x y : X)
    → i < length xs → i < length ys → x ≡ get_or xs i x → y ≡ get_or ys i y → map f xs ≡ map f ys → f x ≡ f y
images_at f xs ys i x y inside within x_is y_is same =
    ap f x_is
    ∙ sym (get_or-map f xs i x (f x) inside)
    ∙ ap (λ zs. get_or zs i (f x)) same
    ∙ get_or-map f ys i y (f x) within
    ∙ sym (ap f y_is)

-- lists whose elements at one place have different images don't have one image
pub differs_at : {X Y : Type 0} (f : X → Y) (xs ys : List X) (i : ℕ) (x y : X) {answer : Bool}
    → i < length xs → i < length ys → x ≡ get_or xs i x → y ≡ get_or ys i y
    → IsTrue answer ↔ (f x ≡ f y) → answer ≡ false → IsTrue false ↔ (map f xs ≡ map f ys)
differs_at f xs ys i x y {answer = answer} inside within x_is y_is told is_no =
    told_no (λ same. let yes : answer ≡ true = told.1 (images_at f xs ys i x y inside within x_is y_is same) in cc)

-- lists that have one image are of one length
pub images_length : {X Y : Type 0} (f : X → Y) (xs ys : List X) → map f xs ≡ map f ys → length xs ≡ length ys
images_length f xs ys same = sym (length-map xs f) ∙ ap length same ∙ length-map ys f

-- lists of expressions with one plain form have expressions with the same plain forms
pub exprs_tell : (es fs : List Expr) → plain_exprs es ≡ plain_exprs fs → map plain_expr es ≡ map plain_expr fs
exprs_tell es fs e = exprs_from_tells (map plain_expr es) (map plain_expr fs) e

-- lists of expressions have one plain form exactly where their expressions have the same ones
pub listed_exprs : (es fs : List Expr) → (map plain_expr es ≡ map plain_expr fs) ↔ (plain_exprs es ≡ plain_exprs fs)
listed_exprs es fs = (λ e. ap exprs_from e, exprs_tell es fs)

-- the test of sizes decides whether they are equal
size_decided : (a b : Option ℕ) → Decides (option_eq nat_eq a b) (a ≡ b)
size_decided None None = (λ e. refl, λ e. refl)
size_decided None (Some b) = (λ e. cc, λ e. cc)
size_decided (Some a) None = (λ e. cc, λ e. cc)
size_decided (Some a) (Some b) = Decides-like (a == b) (λ e. ap Some e) (λ e. cc) (Decides-eqb a b)

-- the test of declared items decides whether they are equal
item_decided : (a b : Item) → Decides (bytes_eq a.name b.name && option_eq nat_eq a.size b.size) (a ≡ b)
item_decided a b =
    Decides-like (bytes_eq a.name b.name && option_eq nat_eq a.size b.size)
    (λ e. ap (λ name. record a { name = name }) e.0 ∙ ap (λ size. record b { size = size }) e.1) (λ e. (ap (λ i. i.name) e, ap (λ i. i.size) e))
    (Decides-and (bytes_eq a.name b.name) (option_eq nat_eq a.size b.size) (bytes_eq-Decides a.name b.name) (size_decided a.size b.size))

-- `==` tells whether lists of names are equal
pub names_told : (xs ys : List (List ℕ)) (answer : Bool) → answer ≡ pointwise bytes_eq xs ys → IsTrue answer ↔ (xs ≡ ys)
names_told xs ys answer is = slice_eq-Decides bytes_eq-Decides xs ys answer is

-- `==` tells whether lists of declared items are equal
pub items_told : (xs ys : List Item) (answer : Bool)
    → answer ≡ pointwise (λ a b. bytes_eq a.name b.name && option_eq nat_eq a.size b.size) xs ys → IsTrue answer ↔ (xs ≡ ys)
items_told xs ys answer is = slice_eq-Decides item_decided xs ys answer is

-- two lists of declared items are equal exactly where their phrases have one plain form
pub declared_lists : (p q : Phrase) (all others : Vec Item Global) → p ≡ DeclaredList all → q ≡ DeclaredList others
    → (all.items ≡ others.items) ↔ (plain_phrase p ≡ plain_phrase q)
declared_lists p q all others p_is q_is = (
  λ e. ap plain_phrase p_is ∙ ap PlainPhrase.declared_list e ∙ sym (ap plain_phrase q_is),
  λ e. let own : PlainPhrase.declared_list all.items ≡ PlainPhrase.declared_list others.items = sym (ap plain_phrase p_is) ∙ e ∙ ap plain_phrase q_is in cc,
)

-- two lists of names are equal exactly where their phrases have one plain form
pub name_lists : (p q : Phrase) (all others : Vec Name Global) → p ≡ NameList all → q ≡ NameList others
    → (all.items ≡ others.items) ↔ (plain_phrase p ≡ plain_phrase q)
name_lists p q all others p_is q_is = (
  λ e. ap plain_phrase p_is ∙ ap PlainPhrase.name_list e ∙ sym (ap plain_phrase q_is),
  λ e. let own : PlainPhrase.name_list all.items ≡ PlainPhrase.name_list others.items = sym (ap plain_phrase p_is) ∙ e ∙ ap plain_phrase q_is in cc,
)
