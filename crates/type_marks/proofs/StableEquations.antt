-- An effective item or heading that is not another one is the same.
use Rattle.std.proofs.Common.{◌≡◌, ℕ, Bool, true, false, List, Option, refl, ap, eq-eqb, eqb-true, true≢false}
use Rattle.std.specs.Prelude.{◌≢◌, ◌==◌}
use Rattle.std.specs.Coded.{Coded, code_by, coded×, coded_list, coded_option, coded_ℕ}
use base.Stored.{Gv, gnil, gnum, gcons}
use Rattle.plcs_base.specs.contracts.declared.Declared as declared_row
use Rattle.plcs_base.specs.contracts.value.Kind as kind_row
use Rattle.plcs_base.specs.declared.declared.Declared.{Declared}
use Rattle.plcs_base.specs.declared.value.Kind.{Kind}
use Rattle.plcs_grammar.specs.Private.PhraseCode.{head, tail}
use Rattle.template_tree.specs.Checks.Environment.{Signature}

abbrev num : Gv → ℕ
num gnil = 0
num (gnum n) = n
num (gcons a b) = 0

stable_number : (m n : ℕ) → (m ≢ n → ⊥) → m ≡ n
stable_number m n not_other = by (m == n) refl
  where
    by : (b : Bool) → (m == n) ≡ b → m ≡ n
    by true e = eqb-true m n e
    by false e = absurd (not_other (λ same. differ same))
      where
        differ : m ≡ n → ⊥
        differ same = let yes = eq-eqb m n same in absurd (cc)

stable_tree : (x y : Gv) → (x ≢ y → ⊥) → x ≡ y
stable_tree gnil gnil not_other = refl
stable_tree gnil (gnum n) not_other = absurd (not_other (λ same. cc))
stable_tree gnil (gcons a b) not_other = absurd (not_other (λ same. cc))
stable_tree (gnum m) gnil not_other = absurd (not_other (λ same. cc))
stable_tree (gnum m) (gnum n) not_other = ap gnum (stable_number m n (λ other. not_other (λ same. other (ap num same))))
stable_tree (gnum m) (gcons a b) not_other = absurd (not_other (λ same. cc))
stable_tree (gcons a b) gnil not_other = absurd (not_other (λ same. cc))
stable_tree (gcons a b) (gnum n) not_other = absurd (not_other (λ same. cc))
stable_tree (gcons a b) (gcons c d) not_other =
    (λ i.
    gcons (stable_tree a c (λ other. not_other (λ same. other (ap head same))) i)
    (stable_tree b d (λ other. not_other (λ same. other (ap tail same))) i))

stable : {A : Type 0} (coded : Coded A) (x y : A) → (x ≢ y → ⊥) → x ≡ y
stable coded x y not_other =
    coded.inj x y (stable_tree (coded.code x) (coded.code y) (λ other. not_other (λ same. other (ap coded.code same))))

pub stable_item : (x y : Option Declared) → (x ≢ y → ⊥) → x ≡ y
stable_item = stable (coded_option declared_row.the_row.coded)

signature_code : Coded Signature
signature_code =
    code_by (ℕ × List (Option Kind)) (coded× coded_ℕ (coded_list (coded_option kind_row.the_row.coded))) (λ s. (s.slot, s.parameters))
    (λ t. record { slot = t.0; parameters = t.1 }) (λ _. refl)

pub stable_heading : (x y : Option Signature) → (x ≢ y → ⊥) → x ≡ y
stable_heading = stable (coded_option signature_code)
