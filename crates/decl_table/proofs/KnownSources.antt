-- Where what is gathered comes from: the table before an edit where the edit changed nothing, what the edit changed, and the
-- edited tree; and what is known name after name and place after place.
use Rattle.std.specs.Prelude.{◌≡◌, if◌then◌else◌, refl, ℕ, zero, suc, ◌+◌, ◌<◌, ◌≤◌, Bool, true, false, ◌||◌, bytes_eq, drop, get_or, length, List, [], ◌∷◌, take, Option, Some, None, Result, Ok, Err, OnOk}
use Rattle.std.specs.List.{list_any}
use Rattle.std.proofs.Common.{◌⊎◌, inl, inr, ap, sym, subst, ◌∙◌, add-one, arith, true≢false}
use Rattle.std.proofs.lemmas.Option.{none-some, same_Some}
use Rattle.plcs_base.specs.declared.declared.Declared.{Declared}
use Rattle.plcs_base.specs.declared.place.PhraseAt.{PhraseAt}
use Rattle.plcs_grammar.specs.PlainPhrase.{PlainPhrase}
use Rattle.template_tree.specs.Checks.Environment.{Items, item_named}
use Rattle.template_tree.specs.Checks.Mention.{mentioned}
use Rattle.template_tree.specs.Checks.ProgramMaps.{items_in}
use Rattle.template_tree.specs.Programs.PlainTree.{Forest, PlainNode}
use Rattle.decl_table.specs.Knowledge.{Knows, KnowsHeading, KnowsItems, KnowsParameters, Stands, called_name}
use Rattle.decl_table.specs.Names.{kept_names}
use Rattle.decl_table.specs.PlainDecls.{PlainDecls}
use Rattle.decl_table.specs.Private.KnownTable.{IsGathering, IsSource, KnowsItem, Learns, SaysTrue, is_changed}
use Rattle.decl_table.specs.Private.NameTests.{has_name}
use Rattle.decl_table.specs.declared.decl_edit.ItemChange.{ItemChange}
use Rattle.decl_table.proofs.AffectedHeadings.{is_name, or_split}
use Rattle.decl_table.proofs.KeptMentions.{any_reverse}
use Rattle.decl_table.proofs.KnownTables.{knows_none}

-- two promises of one call
pub both_ok : {T E : Type 0} (r : Result T E) {P Q S : Type 0} → (P → Q → S) → OnOk r P → OnOk r Q → OnOk r S
both_ok (Ok x) f one other = f one other
both_ok (Err e) f one other = one

-- a table stays one in which it is gathered what is known
pub gathering_stays : (items : ItemChange) (program : Forest) (old new : PlainDecls) → Learns program old new
    → IsGathering items program old → IsGathering items program new
gathering_stays items program old new learns gathering =
    record {
      says = learns.says gathering.says;
      own = λ slot is name. learns.items slot name (gathering.own slot is name);
    }

-- ---- the item of a name

named_so : (name : List ℕ) (items : List Declared) (item : Declared) → item_named name items ≡ Some item → bytes_eq name item.name ≡ true
named_so name [] item found = absurd (none-some item found)
named_so name (first ∷ rest) item found = by (bytes_eq name first.name) refl (named_so name rest item)
  where
    whole : (b : Bool) → bytes_eq name first.name ≡ b → item_named name (first ∷ rest) ≡ (if b then Some first else item_named name rest)
    whole b e = ap (λ (x : Bool). if x then Some first else item_named name rest) e

    by : (b : Bool) → bytes_eq name first.name ≡ b → (item_named name rest ≡ Some item → bytes_eq name item.name ≡ true)
        → bytes_eq name item.name ≡ true
    by true e inside =
        subst (λ (d : Declared). bytes_eq name d.name ≡ true) (same_Some first item (sym (whole true e) ∙ found)) e
    by false e inside = inside (sym (whole false e) ∙ found)

module _ (before : PlainDecls) (headings : List (List ℕ × Option ℕ)) (items : ItemChange) (program : Forest)
    (source : IsSource before headings items program) (own : ℕ) (name : List ℕ) (elsewhere : is_changed items own ≡ false) where
  -- what the table before the edit has of it is so
  pub item_so : (item : Declared) → Some item ≡ item_named name (items_in before.items own)
      → Some item ≡ item_named item.name (Items program own)
  item_so item found =
      found ∙ source.items_stay own elsewhere name
      ∙ ap (λ (n : List ℕ). item_named n (Items program own)) (is_name name item.name (named_so name (items_in before.items own) item (sym found)))

  pub item_known : (item : Declared) (table : PlainDecls) → Some item ≡ item_named name (items_in before.items own)
      → KnowsItem table program own item.name → KnowsItem table program own name
  item_known item table found =
      subst (λ (n : List ℕ). KnowsItem table program own n)
      (sym (is_name name item.name (named_so name (items_in before.items own) item (sym found))))

  pub no_item : (table : PlainDecls) → SaysTrue table program → None ≡ item_named name (items_in before.items own)
      → KnowsItem table program own name
  no_item table says none = knows_none program table own name says (sym (source.items_stay own elsewhere name) ∙ sym none)

-- ---- name after name

taken : {A : Type 0} (test : A → Bool) (xs : List A) (k : ℕ) (x : A) (rest : List A) → drop k xs ≡ x ∷ rest
    → list_any test (take (suc k) xs) ≡ (list_any test (take k xs) || test x)
taken test [] zero x rest is = absurd (cc)
taken test [] (suc k) x rest is = absurd (cc)
taken test (y ∷ ys) zero x rest is =
    let same : y ≡ x = cc in
    or_none (test y) ∙ ap test same
  where
    or_none : (b : Bool) → (b || false) ≡ b
    or_none true = refl
    or_none false = refl
taken test (y ∷ ys) (suc k) x rest is =
    ap (λ (b : Bool). test y || b) (taken test ys k x rest is) ∙ assoc (test y)
  where
    assoc : (a : Bool) → (a || (list_any test (take k ys) || test x)) ≡ ((a || list_any test (take k ys)) || test x)
    assoc true = refl
    assoc false = refl

-- of no names all is known
pub none_known : (P : List ℕ → Type 0) (names : List (List ℕ)) (name : List ℕ) → has_name (take 0 names) name ≡ true → P name
none_known P [] name there = absurd (true≢false (sym there))
none_known P (first ∷ rest) name there = absurd (true≢false (sym there))

-- and of one more
pub names_known : (Mid New : List ℕ → Type 0) (names : List (List ℕ)) (k : ℕ) (own : List ℕ) → drop k names ≡ own ∷ drop (k + 1) names
    → ((name : List ℕ) → Mid name → New name) → ((name : List ℕ) → has_name (take k names) name ≡ true → Mid name) → New own
    → (name : List ℕ) → has_name (take (k + 1) names) name ≡ true → New name
names_known Mid New names k own turn stays knew known name there =
    by
    (or_split (has_name (take k names) name) (bytes_eq name own)
    (sym (ap (λ (n : ℕ). has_name (take n names) name) (add-one k) ∙ taken (bytes_eq name) names k own (drop (k + 1) names) turn) ∙ there))
  where
    by : (has_name (take k names) name ≡ true) ⊎ (bytes_eq name own ≡ true) → New name
    by (inl earlier) = stays name (knew name earlier)
    by (inr same) = subst New (sym (is_name name own same)) known

-- all are taken behind the last one
pub take_all : {A : Type 0} (xs : List A) (k : ℕ) → length xs ≤ k → take k xs ≡ xs
take_all [] zero past = refl
take_all [] (suc k) past = refl
take_all (x ∷ xs) zero past = absurd (omega (arith, past))
take_all (x ∷ xs) (suc k) past = ap (λ ys. x ∷ ys) (take_all xs k (omega (arith, past)))

-- the names that a phrase mentions are among those that are kept of it
pub kept_too : (names : List (List ℕ)) (phrase : PlainPhrase) → names ≡ kept_names phrase
    → (name : List ℕ) → has_name (mentioned phrase) name ≡ true → has_name names name ≡ true
kept_too names phrase is name there =
    ap (λ xs. has_name xs name) is ∙ any_reverse (bytes_eq name) (mentioned phrase) ∙ there

-- ---- a phrase

-- what is learnt later takes nothing away
pub knows_stays : (program : Forest) (old new : PlainDecls) (procedure : PlainNode) (phrase : PlainPhrase) → Learns program old new
    → Knows old program procedure phrase → Knows new program procedure phrase
knows_stays program old new procedure phrase learns knows =
    record {
      items = λ name there. learns.items procedure.label.slot name (knows.items name there);
      headings = λ name there. learns.headings name (knows.headings name there);
      parameters =
          λ name called signature is parameter there.
          learns.items signature.slot parameter (knows.parameters name called signature is parameter there);
    }

-- where it calls nothing, its names are all that has to be known
pub knows_names : (program : Forest) (table : PlainDecls) (procedure : PlainNode) (phrase : PlainPhrase) → called_name phrase ≡ None
    → KnowsItems table program procedure.label.slot (mentioned phrase)
    → ((name : List ℕ) → has_name (mentioned phrase) name ≡ true → KnowsHeading table program name)
    → Knows table program procedure phrase
knows_names program table procedure phrase calls items headings =
    record {
      items = items;
      headings = headings;
      parameters = λ name called. absurd (none-some name (sym calls ∙ called));
    }

-- where it calls a procedure, its parameters come to be known
pub knows_call : (program : Forest) (mid new : PlainDecls) (procedure : PlainNode) (phrase : PlainPhrase) (own : List ℕ)
    → called_name phrase ≡ Some own → KnowsItems mid program procedure.label.slot (mentioned phrase)
    → ((name : List ℕ) → has_name (mentioned phrase) name ≡ true → KnowsHeading mid program name)
    → Learns program mid new → KnowsParameters new program own → Knows new program procedure phrase
knows_call program mid new procedure phrase own calls items headings learns parameters =
    record {
      items = λ name there. learns.items procedure.label.slot name (items name there);
      headings = λ name there. learns.headings name (headings name there);
      parameters = λ name called. subst (KnowsParameters new program) (same_Some own name (sym calls ∙ called)) parameters;
    }

-- ---- place after place

-- what is known of phrases at these places
abbrev pub KnowsAt : (program : Forest) (table : PlainDecls) → PhraseAt → Type 0
KnowsAt program table at =
    (procedure : PlainNode) (phrase : PlainPhrase) → Stands program at procedure phrase → Knows table program procedure phrase

read_any : {A : Type 0} (xs : List A) (k : ℕ) (one other : A) → k < length xs → get_or xs k one ≡ get_or xs k other
read_any [] k one other within = absurd (omega (arith, within))
read_any (x ∷ xs) zero one other within = refl
read_any (x ∷ xs) (suc k) one other within = read_any xs k one other (omega (arith, within))

-- what is read of a list is found there again
pub read_again : {A : Type 0} (xs : List A) (k : ℕ) (other : A) → k < length xs → get_or xs k other ≡ get_or xs k (get_or xs k other)
read_again xs k other within = read_any xs k other (get_or xs k other) within

lt_split : (j k : ℕ) → j < suc k → (j < k) ⊎ (j ≡ k)
lt_split zero zero less = inr refl
lt_split zero (suc k) less = inl (omega arith)
lt_split (suc j) zero less = absurd (omega (arith, less))
lt_split (suc j) (suc k) less = up (lt_split j k (omega (arith, less)))
  where
    up : (j < k) ⊎ (j ≡ k) → (suc j < suc k) ⊎ (suc j ≡ suc k)
    up (inl l) = inl (omega (arith, l))
    up (inr e) = inr (ap suc e)

-- of one more place all is known
pub places_known : (Mid New : PhraseAt → Type 0) (due : List PhraseAt) (k : ℕ) (own : PhraseAt) → k < length due → own ≡ get_or due k own
    → ((at : PhraseAt) → Mid at → New at) → ((j : ℕ) (at : PhraseAt) → j < k → get_or due j at ≡ at → Mid at) → New own
    → (j : ℕ) (at : PhraseAt) → j < k + 1 → get_or due j at ≡ at → New at
places_known Mid New due k own within is stays knew known j at less there = by (lt_split j k (omega (arith, less)))
  where
    by : (j < k) ⊎ (j ≡ k) → New at
    by (inl earlier) = stays at (knew j at earlier there)
    by (inr same) =
        subst New
        (is ∙ read_any due k own at within ∙ ap (λ (n : ℕ). get_or due n at) (sym same) ∙ there)
        known

-- ---- where a phrase is found

-- what is known of the one that is found is known of the one that stands there
pub found_knows : (program : Forest) (table : PlainDecls) (own : PlainNode) (found : PlainPhrase) (procedure : PlainNode) (phrase : PlainPhrase)
    → own ≡ procedure → found ≡ phrase → Knows table program own found → Knows table program procedure phrase
found_knows program table own found procedure phrase same alike knows =
    subst (λ (n : PlainNode). Knows table program n phrase) same (subst (λ (p : PlainPhrase). Knows table program own p) alike knows)
