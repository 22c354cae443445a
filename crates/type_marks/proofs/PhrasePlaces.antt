-- The places that are listed of the phrases of nodes, and the phrases that stand there.
use Rattle.std.proofs.Common.{◌≡◌, ℕ, zero, suc, ◌+◌, Bool, true, false, List, [], ◌∷◌, ◌++◌, Option, Some, None, refl, ap, sym, subst, ◌∙◌, ◌⊎◌, inl, inr, arith, eqb-true}
use Rattle.std.specs.Prelude.{◌==◌, bytes_eq, Contains, if◌then◌else◌}
use Rattle.std.specs.List.{list_any}
use Rattle.std.specs.Option.{option_or}
use Rattle.std.proofs.lemmas.List.Elements.{Contains-append_left, Contains-append_right}
use Rattle.std.proofs.lemmas.Option.{none-some}
use Rattle.plcs_base.specs.declared.place.PhraseAt.{PhraseAt}
use Rattle.plcs_grammar.specs.PlainPhrase.{PlainPhrase}
use Rattle.template_tree.specs.Checks.Mention.{mention, mentioned, mentions, part_mentions, phrase_at}
use Rattle.template_tree.specs.Programs.Part.{part_at}
use Rattle.template_tree.specs.Programs.PlainTree.{Forest, Label}
use Rattle.decl_table.specs.Due.{filled_place, filled_places, phrase_places}
use Rattle.type_marks.proofs.FoundPhrases.{own_phrase, phrase_in}

pub or_cases : {A : Type 0} (a b : Option A) (x : A) → option_or a b ≡ Some x → (a ≡ Some x) ⊎ (b ≡ Some x)
or_cases None b x is = inr is
or_cases (Some y) b x is = inl is

-- the phrase in one part of a node, if the slot is its own
pub own_there : (at : PhraseAt) (label : Label) (phrase : PlainPhrase) → own_phrase at label ≡ Some phrase
    → (at.slot.0 ≡ label.slot) × (part_at label.parts at.part ≡ Some phrase)
own_there at label phrase is = by (at.slot.0 == label.slot) refl is
  where
    by : (b : Bool) → (at.slot.0 == label.slot) ≡ b → (if b then part_at label.parts at.part else None) ≡ Some phrase
        → (at.slot.0 ≡ label.slot) × (part_at label.parts at.part ≡ Some phrase)
    by true e there = (eqb-true at.slot.0 label.slot e, there)
    by false e there = absurd (none-some phrase there)

-- places that are listed of each part of a node, by what stands there
module _ (listed : PhraseAt → Option PlainPhrase → List PhraseAt) (walk : ℕ → ℕ → List (Option PlainPhrase) → List PhraseAt)
    (ends : (slot part : ℕ) → walk slot part [] ≡ [])
    (goes : (slot part : ℕ) (place : Option PlainPhrase) (parts : List (Option PlainPhrase))
    → walk slot part (place ∷ parts) ≡ listed (phrase_at slot part) place ++ walk slot (part + 1) parts)
    (phrase : PlainPhrase) (own : (at : PhraseAt) → Contains (listed at (Some phrase)) at) where
  part_walked : (slot part k : ℕ) (parts : List (Option PlainPhrase)) → part_at parts k ≡ Some phrase
      → Contains (walk slot part parts) (phrase_at slot (part + k))
  part_walked slot part zero [] there = absurd (none-some phrase there)
  part_walked slot part (suc k) [] there = absurd (none-some phrase there)
  part_walked slot part zero (place ∷ parts) there =
      let same : part ≡ part + 0 = omega arith in
      subst (λ (n : ℕ). Contains (walk slot part (place ∷ parts)) (phrase_at slot n)) same
      (subst (λ (places : List PhraseAt). Contains places (phrase_at slot part)) (sym (goes slot part place parts))
      (Contains-append_left (listed (phrase_at slot part) place) (walk slot (part + 1) parts) (phrase_at slot part)
      (subst (λ (o : Option PlainPhrase). Contains (listed (phrase_at slot part) o) (phrase_at slot part)) (sym there)
      (own (phrase_at slot part)))))
  part_walked slot part (suc k) (place ∷ parts) there =
      let same : (part + 1) + k ≡ part + suc k = omega arith in
      subst (λ (n : ℕ). Contains (walk slot part (place ∷ parts)) (phrase_at slot n)) same
      (subst (λ (places : List PhraseAt). Contains places (phrase_at slot ((part + 1) + k))) (sym (goes slot part place parts))
      (Contains-append_right (listed (phrase_at slot part) place) (walk slot (part + 1) parts) (phrase_at slot ((part + 1) + k))
      (part_walked slot (part + 1) k parts there)))

  pub label_walked : (at : PhraseAt) (label : Label) → own_phrase at label ≡ Some phrase → Contains (walk label.slot 0 label.parts) at
  label_walked at label is =
      let there = own_there at label phrase is in
      let from : 0 + at.part ≡ at.part = omega arith in
      subst (λ (n : ℕ). Contains (walk label.slot 0 label.parts) (phrase_at n at.part)) (sym there.0)
      (subst (λ (n : ℕ). Contains (walk label.slot 0 label.parts) (phrase_at label.slot n)) from
      (part_walked label.slot 0 at.part label.parts there.1))

  -- and of nodes, one after the other
  module _ (gather : Forest → List PhraseAt)
      (gathers : (label : Label) (inner rest : Forest)
      → gather (Forest.cons label inner rest) ≡ walk label.slot 0 label.parts ++ (gather inner ++ gather rest)) where
    pub nodes_walked : (at : PhraseAt) (nodes : Forest) → phrase_in at nodes ≡ Some phrase → Contains (gather nodes) at
    nodes_walked at Forest.nil is = absurd (none-some phrase is)
    nodes_walked at (Forest.cons label inner rest) is =
        subst (λ (places : List PhraseAt). Contains places at) (sym (gathers label inner rest))
        (by (or_cases (own_phrase at label) (option_or (phrase_in at inner) (phrase_in at rest)) phrase is)
        (nodes_walked at inner) (nodes_walked at rest))
      where
        within : (phrase_in at inner ≡ Some phrase) ⊎ (phrase_in at rest ≡ Some phrase)
            → (phrase_in at inner ≡ Some phrase → Contains (gather inner) at)
            → (phrase_in at rest ≡ Some phrase → Contains (gather rest) at)
            → Contains (gather inner ++ gather rest) at
        within (inl e) one other = Contains-append_left (gather inner) (gather rest) at (one e)
        within (inr e) one other = Contains-append_right (gather inner) (gather rest) at (other e)

        by : (own_phrase at label ≡ Some phrase) ⊎ (option_or (phrase_in at inner) (phrase_in at rest) ≡ Some phrase)
            → (phrase_in at inner ≡ Some phrase → Contains (gather inner) at)
            → (phrase_in at rest ≡ Some phrase → Contains (gather rest) at)
            → Contains (walk label.slot 0 label.parts ++ (gather inner ++ gather rest)) at
        by (inl e) one other =
            Contains-append_left (walk label.slot 0 label.parts) (gather inner ++ gather rest) at (label_walked at label e)
        by (inr e) one other =
            Contains-append_right (walk label.slot 0 label.parts) (gather inner ++ gather rest) at
            (within (or_cases (phrase_in at inner) (phrase_in at rest) phrase e) one other)

-- ---- the places of all phrases

own_filled : (at : PhraseAt) (phrase : PlainPhrase) → Contains (filled_place at (Some phrase)) at
own_filled at phrase = (0, omega arith, refl)

pub phrase_placed : (at : PhraseAt) (nodes : Forest) (phrase : PlainPhrase) → phrase_in at nodes ≡ Some phrase → Contains (phrase_places nodes) at
phrase_placed at nodes phrase is =
    nodes_walked filled_place filled_places (λ slot part. refl) (λ slot part place parts. refl) phrase (λ place. own_filled place phrase)
    phrase_places (λ label inner rest. refl) at nodes is

-- ---- the places of those that mention a name

own_mention : (name : List ℕ) (at : PhraseAt) (phrase : PlainPhrase) → list_any (bytes_eq name) (mentioned phrase) ≡ true
    → Contains (mention name at (Some phrase)) at
own_mention name at phrase is =
    subst (λ (b : Bool). Contains (if b then at ∷ [] else []) at) (sym is) (0, omega arith, refl)

pub mention_placed : (name : List ℕ) (at : PhraseAt) (nodes : Forest) (phrase : PlainPhrase) → phrase_in at nodes ≡ Some phrase
    → list_any (bytes_eq name) (mentioned phrase) ≡ true → Contains (mentions name nodes) at
mention_placed name at nodes phrase is among =
    nodes_walked (mention name) (part_mentions name) (λ slot part. refl) (λ slot part place parts. refl) phrase
    (λ place. own_mention name place phrase among) (mentions name) (λ label inner rest. refl) at nodes is
