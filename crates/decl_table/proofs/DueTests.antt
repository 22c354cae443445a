-- The tests by which phrases are counted as due: each tells whether there is the reason that it is named for. Items,
-- kinds and headings are compared by their fields, and of procedures those alone are asked that are there, since others
-- have no items.
use Rattle.std.proofs.Common.{◌≡◌, ◌≢◌, ℕ, zero, suc, ◌+◌, Bool, true, false, List, [], ◌∷◌, ◌++◌, map, Option, Some, None, refl, ap, sym, subst, ◌∙◌, ◌⊎◌, inl, inr, arith, true≢false, Decides}
use Rattle.std.specs.Prelude.{◌==◌, ◌&&◌, ◌||◌, not, bytes_eq, Contains, if◌then◌else◌, option_map, unwrap_or}
use Rattle.std.specs.List.{list_any}
use Rattle.std.specs.Option.{option_eq, option_map_or}
use Rattle.std.specs.Ordering.{eq_by_cmp}
use Rattle.std.proofs.lemmas.Bool.{or_left, or_right}
use Rattle.std.proofs.lemmas.Bool.Decides.{Decides-and, Decides-eqb, Decides-like}
use Rattle.std.proofs.lemmas.List.Folds.{list_any-append}
use Rattle.std.proofs.lemmas.Map.Made.{is_member-Decides}
use Rattle.std.proofs.lemmas.Option.{none-some, same_Some}
use Rattle.std.proofs.lemmas.Slice.Eq.{bytes_eq-Decides}
use Rattle.plcs_base.specs.Mark.{phrase_cmp}
use Rattle.plcs_base.specs.PlaceOrder.{places_equiv, same_place}
use Rattle.plcs_base.specs.declared.declared.Declared.{Declared}
use Rattle.plcs_base.specs.declared.declared.ItemType.{ItemType}
use Rattle.plcs_base.specs.declared.place.PhraseAt.{PhraseAt}
use Rattle.plcs_base.specs.declared.value.Kind.{Kind}
use Rattle.template_tree.specs.declared.change.Change.{Change}
use Rattle.template_tree.specs.Checks.Environment.{Items, Sig, Signature, item_named, items_inside, procedure_at}
use Rattle.template_tree.specs.Edits.Edit.{changed_in, procedure_of}
use Rattle.template_tree.specs.Programs.PlainTree.{Forest, PlainNode, nodes}
use Rattle.decl_table.specs.Due.{IsAffected, changed_names, changes_binding, procedure_lists}
use Rattle.decl_table.specs.DueCount.{changed_lists, is_affected, is_declared_otherwise, is_headed_otherwise, is_item_other, is_one_of, is_same_item, is_same_signature, kind_number, type_number}

pub either : (a b : Bool) → (a || b) ≡ true → (a ≡ true) ⊎ (b ≡ true)
either true b is = inl refl
either false b is = inr is

-- ---- names and places among others

-- whether a name is one of these is whether they contain it
pub names_hold : (names : List (List ℕ)) (name : List ℕ) → Decides (list_any (bytes_eq name) names) (Contains names name)
names_hold = is_member-Decides bytes_eq-Decides

-- and likewise of places
pub places_hold : (places : List PhraseAt) (at : PhraseAt) → Decides (is_one_of at places) (Contains places at)
places_hold =
    is_member-Decides
    (λ a b. (same_place a b, λ same. subst (λ c. eq_by_cmp phrase_cmp a c ≡ true) same (places_equiv.refl a)))

-- ---- what is the same

-- a test of options says whether they are the same, where it does of what may be there
options_same : {A : Type 0} {test : A → A → Bool} → ((a b : A) → Decides (test a b) (a ≡ b)) → (one other : Option A)
    → Decides (option_eq test one other) (one ≡ other)
options_same each None None = (λ _. refl, λ _. refl)
options_same each None (Some b) = (λ is. absurd (true≢false (sym is)), λ same. absurd (none-some b same))
options_same each (Some a) None = (λ is. absurd (true≢false (sym is)), λ same. absurd (none-some a (sym same)))
options_same each (Some a) (Some b) = (λ is. ap Some ((each a b).0 is), λ same. (each a b).1 (same_Some a b same))

abbrev type_numbered : ℕ → ItemType
type_numbered zero = ItemType.Fixed
type_numbered (suc zero) = ItemType.Bit
type_numbered (suc (suc n)) = ItemType.Text n

numbered_type : (ty : ItemType) → type_numbered (type_number ty) ≡ ty
numbered_type ItemType.Fixed = refl
numbered_type ItemType.Bit = refl
numbered_type (ItemType.Text n) = ap type_numbered two_more
  where
    two_more : 2 + n ≡ suc (suc n)
    two_more = omega arith

same_type : (one other : ItemType) → type_number one ≡ type_number other → one ≡ other
same_type one other same = sym (numbered_type one) ∙ ap type_numbered same ∙ numbered_type other

abbrev kind_numbered : ℕ → Option Kind
kind_numbered zero = None
kind_numbered (suc zero) = Some Kind.Fixed
kind_numbered (suc (suc zero)) = Some Kind.Bit
kind_numbered (suc (suc (suc n))) = Some Kind.Text

numbered_kinds : (kinds : List (Option Kind)) → map kind_numbered (map kind_number kinds) ≡ kinds
numbered_kinds [] = refl
numbered_kinds (None ∷ kinds) = ap (λ (ks : List (Option Kind)). None ∷ ks) (numbered_kinds kinds)
numbered_kinds (Some Kind.Fixed ∷ kinds) = ap (λ (ks : List (Option Kind)). Some Kind.Fixed ∷ ks) (numbered_kinds kinds)
numbered_kinds (Some Kind.Bit ∷ kinds) = ap (λ (ks : List (Option Kind)). Some Kind.Bit ∷ ks) (numbered_kinds kinds)
numbered_kinds (Some Kind.Text ∷ kinds) = ap (λ (ks : List (Option Kind)). Some Kind.Text ∷ ks) (numbered_kinds kinds)

same_kinds : (one other : List (Option Kind)) → map kind_number one ≡ map kind_number other → one ≡ other
same_kinds one other same = sym (numbered_kinds one) ∙ ap (map kind_numbered) same ∙ numbered_kinds other

items_same : (one other : Declared) → Decides (is_same_item one other) (one ≡ other)
items_same one other =
    Decides-like (is_same_item one other)
    (λ (fields : (one.name ≡ other.name) × ((type_number one.ty ≡ type_number other.ty) × (one.size ≡ other.size))).
    let ty = same_type one.ty other.ty fields.1.0 in
    λ i. record { name = fields.0 i; ty = ty i; size = fields.1.1 i })
    (λ same. (
      ap (λ (item : Declared). item.name) same,
      (ap (λ (item : Declared). type_number item.ty) same, ap (λ (item : Declared). item.size) same),
    ))
    (Decides-and (bytes_eq one.name other.name) (type_number one.ty == type_number other.ty && one.size == other.size)
    (bytes_eq-Decides one.name other.name)
    (Decides-and (type_number one.ty == type_number other.ty) (one.size == other.size)
    (Decides-eqb (type_number one.ty) (type_number other.ty)) (Decides-eqb one.size other.size)))

signatures_same : (one other : Signature) → Decides (is_same_signature one other) (one ≡ other)
signatures_same one other =
    Decides-like (is_same_signature one other)
    (λ (fields : (one.slot ≡ other.slot) × (map kind_number one.parameters ≡ map kind_number other.parameters)).
    let parameters = same_kinds one.parameters other.parameters fields.1 in
    λ i. record { slot = fields.0 i; parameters = parameters i })
    (λ same. (
      ap (λ (signature : Signature). signature.slot) same,
      ap (λ (signature : Signature). map kind_number signature.parameters) same,
    ))
    (Decides-and (one.slot == other.slot) (bytes_eq (map kind_number one.parameters) (map kind_number other.parameters))
    (Decides-eqb one.slot other.slot) (bytes_eq-Decides (map kind_number one.parameters) (map kind_number other.parameters)))

-- what is told to differ does, and what differs is told to
differs : (same : Bool) {P : Type 0} → Decides same P → not same ≡ true → P → ⊥
differs true told is p = true≢false (sym is)
differs false told is p = true≢false (sym (told.1 p))

told_other : (same : Bool) {P : Type 0} → Decides same P → (P → ⊥) → not same ≡ true
told_other true told other = absurd (other (told.0 refl))
told_other false told other = refl

-- ---- names that an edit affects

module _ (before after : Forest) (name : List ℕ) where
  abbrev item_in : Forest → ℕ → Option Declared
  item_in program slot = item_named name (Items program slot)

  -- whether the item of a procedure is another one
  items_told : (slot : ℕ) → Decides (option_eq is_same_item (item_in before slot) (item_in after slot)) (item_in before slot ≡ item_in after slot)
  items_told slot = options_same items_same (item_in before slot) (item_in after slot)

  abbrev other_in : PlainNode → Bool
  other_in procedure = is_item_other before after name procedure.label.slot

  -- one of some procedures has another item
  found_other : (procedures : List PlainNode) → list_any other_in procedures ≡ true
      → (slot : ℕ) × (is_item_other before after name slot ≡ true)
  found_other [] is = absurd (true≢false (sym is))
  found_other (procedure ∷ procedures) is = by (either (other_in procedure) (list_any other_in procedures) is) (found_other procedures)
    where
      by : (other_in procedure ≡ true) ⊎ (list_any other_in procedures ≡ true)
          → (list_any other_in procedures ≡ true → (slot : ℕ) × (is_item_other before after name slot ≡ true))
          → (slot : ℕ) × (is_item_other before after name slot ≡ true)
      by (inl here) later = (procedure.label.slot, here)
      by (inr there) later = later there

  -- a procedure that is there, in a slot, or none, which has no items
  there_or_none : (slot : ℕ) (items : Forest)
      → (is_item_other before after name slot ≡ true → list_any other_in (nodes items) ≡ true) ⊎ (Items items slot ≡ [])
  there_or_none slot Forest.nil = inr refl
  there_or_none slot (Forest.cons label inner rest) = by (label.slot == slot) refl (there_or_none slot rest)
    where
      first : PlainNode
      first = record { label = label; inner = inner }

      by : (here : Bool) → (label.slot == slot) ≡ here
          → (is_item_other before after name slot ≡ true → list_any other_in (nodes rest) ≡ true) ⊎ (Items rest slot ≡ [])
          → (is_item_other before after name slot ≡ true → list_any other_in (first ∷ nodes rest) ≡ true)
          ⊎ (unwrap_or
          (option_map (λ (node : PlainNode). items_inside node.inner) (if here then Some first else procedure_at rest slot)) []
          ≡ [])
      by true is later =
          inl
          (λ other. or_left (other_in first) (list_any other_in (nodes rest))
          (ap (is_item_other before after name) ((Decides-eqb label.slot slot).0 is) ∙ other))
      by false is (inl there) = inl (λ other. or_right (other_in first) (list_any other_in (nodes rest)) (there other))
      by false is (inr none) = inr none

  declared_told : Decides (is_declared_otherwise before after name) ((slot : ℕ) × (item_in before slot ≢ item_in after slot))
  declared_told = (
    λ is.
        let found = found_other (nodes before ++ nodes after) is in
        (found.0, differs (option_eq is_same_item (item_in before found.0) (item_in after found.0)) (items_told found.0) found.1),
    λ other.
        list_any-append other_in (nodes before) (nodes after)
        ∙ among other.0 other.1 (there_or_none other.0 before) (there_or_none other.0 after),
  )
    where
      among : (slot : ℕ) → item_in before slot ≢ item_in after slot
          → (is_item_other before after name slot ≡ true → list_any other_in (nodes before) ≡ true) ⊎ (Items before slot ≡ [])
          → (is_item_other before after name slot ≡ true → list_any other_in (nodes after) ≡ true) ⊎ (Items after slot ≡ [])
          → (list_any other_in (nodes before) || list_any other_in (nodes after)) ≡ true
      among slot other (inl there) second =
          or_left (list_any other_in (nodes before)) (list_any other_in (nodes after))
          (there (told_other (option_eq is_same_item (item_in before slot) (item_in after slot)) (items_told slot) other))
      among slot other (inr none) (inl there) =
          or_right (list_any other_in (nodes before)) (list_any other_in (nodes after))
          (there (told_other (option_eq is_same_item (item_in before slot) (item_in after slot)) (items_told slot) other))
      among slot other (inr none) (inr nothing) = absurd (other (ap (item_named name) none ∙ sym (ap (item_named name) nothing)))

  headed_told : Decides (is_headed_otherwise before after name) (Sig before name ≢ Sig after name)
  headed_told =
      let told = options_same signatures_same (Sig before name) (Sig after name) in
      let same = option_eq is_same_signature (Sig before name) (Sig after name) in
      (differs same told, told_other same told)

-- a name is affected exactly where it is told to be
pub affected_told : (before after : Forest) (change : Change) (name : List ℕ)
    → Decides (is_affected change.what change.slot.0 before after name) (IsAffected before after change name)
affected_told before after change name = (reason, test)
  where
    stood : Bool
    stood = list_any (bytes_eq name) (changed_names change.what change.slot.0 before)

    stands : Bool
    stands = list_any (bytes_eq name) (changed_names change.what change.slot.0 after)

    declared : Bool
    declared = is_declared_otherwise before after name

    headed : Bool
    headed = is_headed_otherwise before after name

    by_last : (declared ≡ true) ⊎ (headed ≡ true) → IsAffected before after change name
    by_last (inl is) = let other = (declared_told before after name).0 is in IsAffected.declared other.0 other.1
    by_last (inr is) = IsAffected.headed ((headed_told before after name).0 is)

    by_later : (stands ≡ true) ⊎ ((declared || headed) ≡ true) → IsAffected before after change name
    by_later (inl is) = IsAffected.stands ((names_hold (changed_names change.what change.slot.0 after) name).0 is)
    by_later (inr is) = by_last (either declared headed is)

    by_first : (stood ≡ true) ⊎ ((stands || (declared || headed)) ≡ true) → IsAffected before after change name
    by_first (inl is) = IsAffected.stood ((names_hold (changed_names change.what change.slot.0 before) name).0 is)
    by_first (inr is) = by_later (either stands (declared || headed) is)

    reason : (stood || (stands || (declared || headed))) ≡ true → IsAffected before after change name
    reason is = by_first (either stood (stands || (declared || headed)) is)

    test : IsAffected before after change name → (stood || (stands || (declared || headed))) ≡ true
    test (IsAffected.stood there) =
        or_left stood (stands || (declared || headed)) ((names_hold (changed_names change.what change.slot.0 before) name).1 there)
    test (IsAffected.stands there) =
        or_right stood (stands || (declared || headed))
        (or_left stands (declared || headed) ((names_hold (changed_names change.what change.slot.0 after) name).1 there))
    test (IsAffected.declared slot other) =
        or_right stood (stands || (declared || headed))
        (or_right stands (declared || headed)
        (or_left declared headed ((declared_told before after name).1 (slot, other))))
    test (IsAffected.headed other) =
        or_right stood (stands || (declared || headed))
        (or_right stands (declared || headed) (or_right declared headed ((headed_told before after name).1 other)))

-- ---- the lists of a changed procedure

-- a place is that of such a list exactly where a declaration or heading was changed, and the procedure has it
pub lists_told : (before after : Forest) (change : Change) (at : PhraseAt)
    → procedure_of (changed_in change.what before after) change.slot.0 ≡ Some change.procedure.0
    → Decides (is_one_of at (changed_lists change.what change.slot.0 before after))
    ((changes_binding before after change.slot.0 ≡ true) × Contains (procedure_lists after change.procedure.0) at)
lists_told before after change at within = by (changes_binding before after change.slot.0)
  where
    found : List PhraseAt
    found = option_map_or (procedure_lists after) (procedure_of (changed_in change.what before after) change.slot.0) []

    own : found ≡ procedure_lists after change.procedure.0
    own = ap (λ (o : Option ℕ). option_map_or (procedure_lists after) o []) within

    by : (binds : Bool)
        → Decides (is_one_of at (if binds then found else []))
        ((binds ≡ true) × Contains (procedure_lists after change.procedure.0) at)
    by true = (
      λ is. (refl, subst (λ (places : List PhraseAt). Contains places at) own ((places_hold found at).0 is)),
      λ both. (places_hold found at).1 (subst (λ (places : List PhraseAt). Contains places at) (sym own) both.1),
    )
    by false = (λ is. absurd (true≢false (sym is)), λ both. absurd (true≢false (sym both.0)))
