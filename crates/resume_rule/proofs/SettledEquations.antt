-- `resumed_runs_fit`: what can't differ is the same.
-- The rule refuses where something differs, so a yes says of what is kept only that it can't differ. Of numbers, truth
-- values and lists of them a test tells that they are the same then, and of declared items, which are made of numbers.
use Rattle.std.specs.Prelude.{◌≡◌, refl, ℕ, zero, suc, ◌==◌, Bool, true, false, IsTrue, List, [], ◌∷◌}
use Rattle.std.specs.Bool.{Decides}
use Rattle.std.proofs.Common.{ap, sym, ◌∙◌, subst}
use Rattle.std.proofs.Math.Bool.{false≢true, true≢false}
use Rattle.std.proofs.lemmas.Bool.Decides.{Decides-eqb}
use Rattle.plcs_base.specs.declared.declared.Declared.{Declared}
use Rattle.plcs_base.specs.declared.declared.ItemType.{ItemType}

-- the fact holds where it can't fail
abbrev pub IsSettled : Type 0 → Type 0
IsSettled Fact = ¬ (¬ Fact) → Fact

-- values of the type are the same where they can't differ
abbrev pub AreSettled : Type 0 → Type 0
AreSettled A = (a b : A) → IsSettled (a ≡ b)

pub true_settled : (answer : Bool) → IsSettled (IsTrue answer)
true_settled true holds = refl
true_settled false holds = absurd (holds (λ e. false≢true e))

pub truth_settled : AreSettled Bool
truth_settled true true holds = refl
truth_settled true false holds = absurd (holds (λ e. true≢false e))
truth_settled false true holds = absurd (holds (λ e. false≢true e))
truth_settled false false holds = refl

pub number_settled : AreSettled ℕ
number_settled a b holds = by (a == b) (Decides-eqb a b)
  where
    by : (answer : Bool) → Decides answer (a ≡ b) → a ≡ b
    by true told = told.0 refl
    by false told = absurd (holds (λ e. false≢true (told.1 e)))

-- ---- lists

abbrev pub head_or : {A : Type 0} → A → List A → A
head_or other [] = other
head_or other (a ∷ rest) = a

abbrev pub tail : {A : Type 0} → List A → List A
tail [] = []
tail (a ∷ rest) = rest

abbrev pub IsEmpty : {A : Type 0} → List A → Type 0
IsEmpty [] = Unit {0}
IsEmpty (a ∷ rest) = ⊥

pub lists_settled : {A : Type 0} → AreSettled A → AreSettled (List A)
lists_settled own [] [] holds = refl
lists_settled own [] (b ∷ ys) holds = absurd (holds (λ e. subst IsEmpty e tt))
lists_settled own (a ∷ xs) [] holds = absurd (holds (λ e. subst IsEmpty (sym e) tt))
lists_settled own (a ∷ xs) (b ∷ ys) holds =
    let first : a ≡ b = own a b (λ differs. holds (λ e. differs (ap (head_or a) e))) in
    let others : xs ≡ ys = lists_settled own xs ys (λ differs. holds (λ e. differs (ap tail e))) in
    λ i. first i ∷ others i

-- ---- declared items

-- a type as a number
abbrev type_number : ItemType → ℕ
type_number ItemType.Fixed = 0
type_number ItemType.Bit = 1
type_number (ItemType.Text n) = suc (suc n)

-- the type of a number
abbrev number_type : ℕ → ItemType
number_type zero = ItemType.Fixed
number_type (suc zero) = ItemType.Bit
number_type (suc (suc n)) = ItemType.Text n

own_number : (ty : ItemType) → number_type (type_number ty) ≡ ty
own_number ItemType.Fixed = refl
own_number ItemType.Bit = refl
own_number (ItemType.Text n) = refl

type_settled : AreSettled ItemType
type_settled a b holds =
    sym (own_number a)
    ∙ ap number_type (number_settled (type_number a) (type_number b) (λ differs. holds (λ e. differs (ap type_number e))))
    ∙ own_number b

declared_settled : AreSettled Declared
declared_settled a b holds =
    let name : a.name ≡ b.name =
    lists_settled number_settled a.name b.name (λ differs. holds (λ e. differs (ap (λ (one : Declared). one.name) e))) in
    let ty : a.ty ≡ b.ty = type_settled a.ty b.ty (λ differs. holds (λ e. differs (ap (λ (one : Declared). one.ty) e))) in
    let size : a.size ≡ b.size = number_settled a.size b.size (λ differs. holds (λ e. differs (ap (λ (one : Declared). one.size) e))) in
    λ i. record { name = name i; ty = ty i; size = size i }

pub items_settled : AreSettled (List Declared)
items_settled = lists_settled declared_settled
