-- The items of a declared list, one after the other.
use Rattle.std.proofs.Common.{◌≡◌, ℕ, ◌+◌, zero, suc, Bool, true, false, List, [], ◌∷◌, ◌++◌, drop, map, take, Option, Some, None, refl, sym, ap, ◌∙◌, add-one}
use Rattle.std.specs.Prelude.{◌||◌, bytes_eq}
use Rattle.std.specs.List.{list_any}
use Rattle.std.specs.Option.{is_none, option_or}
use Rattle.std.proofs.lemmas.List.{append_assoc}
use Rattle.std.proofs.lemmas.Slice.Eq.{bytes_eq-Decides}
use Rattle.plcs_base.specs.declared.declared.Declared.{Declared}
use Rattle.plcs_base.specs.declared.declared.ItemType.{ItemType}
use Rattle.plcs_base.specs.declared.mark.MarkKind.{MarkKind}
use Rattle.plcs_grammar.specs.declared.item.Item.{Item}
use Rattle.template_tree.specs.Checks.ProgramMaps.{items_in}
use Rattle.decl_table.specs.PlainDecls.{PlainDecls}
use Rattle.type_marks.proofs.EffectiveItems.{effective_append}
use Rattle.template_tree.specs.Checks.Environment.{all_declared, declared_as, effective, item_named, item_offence, with_declared, with_type}
use Rattle.template_tree.specs.Checks.Marks.{declared_before, type_in}
use Rattle.template_tree.specs.Programs.PlainTree.{PlainNode}
use Rattle.template_tree.specs.Checks.Verdict.{declared_offence}
use Rattle.type_marks.specs.Private.DeclaredItems.{AreDeclaredIn, KnowsListed, has_such, is_such, judged_item}
use Rattle.type_marks.proofs.EffectiveItems.{judged}

-- ---- the item of a number

-- its name is among those of the list
named : (items : List Item) (i : ℕ) (item : Item) (rest : List Item) → drop i items ≡ item ∷ rest
    → list_any (bytes_eq item.name) (map (λ item. item.name) items) ≡ true
named [] zero item rest is = absurd (cc)
named [] (suc i) item rest is = absurd (cc)
named (first ∷ items) zero item rest is =
    let one : first ≡ item = cc in
    ap (λ (x : Item). bytes_eq item.name x.name || list_any (bytes_eq item.name) (map (λ item. item.name) items)) one
    ∙ ap (λ b. b || list_any (bytes_eq item.name) (map (λ item. item.name) items)) ((bytes_eq-Decides item.name item.name).1 refl)
named (first ∷ items) (suc i) item rest is = by (bytes_eq item.name first.name) (named items i item rest is)
  where
    by : (b : Bool) → list_any (bytes_eq item.name) (map (λ item. item.name) items) ≡ true
        → (b || list_any (bytes_eq item.name) (map (λ item. item.name) items)) ≡ true
    by true among = refl
    by false among = among

-- the list is what stands before it, itself, and the rest
parted : {A B : Type 0} (f : A → B) (xs : List A) (i : ℕ) (x : A) (rest : List A) → drop i xs ≡ x ∷ rest → map f xs ≡ map f (take i xs) ++ (f x ∷ map f rest)
parted f [] zero x rest is = absurd (cc)
parted f [] (suc i) x rest is = absurd (cc)
parted f (y ∷ ys) zero x rest is = ap (map f) is
parted f (y ∷ ys) (suc i) x rest is = ap (λ zs. f y ∷ zs) (parted f ys i x rest is)

-- one more is taken
taken_next : {A B : Type 0} (f : A → B) (xs : List A) (i : ℕ) (x : A) (rest : List A) → drop i xs ≡ x ∷ rest → map f (take (suc i) xs) ≡ map f (take i xs) ++ (f x ∷ [])
taken_next f [] zero x rest is = absurd (cc)
taken_next f [] (suc i) x rest is = absurd (cc)
taken_next f (y ∷ ys) zero x rest is = let one : y ≡ x = cc in ap (λ z. f z ∷ []) one
taken_next f (y ∷ ys) (suc i) x rest is = ap (λ zs. f y ∷ zs) (taken_next f ys i x rest is)

-- whether one of a list has a name and takes so many cells doesn't depend on the type that is given to them
pub such_listed : (name : List ℕ) (count : ℕ) (ty : ItemType) (items : List Item)
    → list_any (λ (item : Item). is_such name count (declared_as ItemType.Fixed item)) items ≡ has_such name count (map (declared_as ty) items)
such_listed name count ty [] = refl
such_listed name count ty (item ∷ items) = ap (λ b. is_such name count (declared_as ty item) || b) (such_listed name count ty items)

-- a type is given, or none is
pub some_given : {A G : Type 0} (o : Option A) → is_none o ≡ false → ((a : A) → o ≡ Some a → G) → G
some_given None none goal = absurd (cc)
some_given (Some a) none goal = goal a refl

-- ---- the declaration in a slot gives a type

module _ (decls : PlainDecls) (procedure : PlainNode) (slot : ℕ) (items : List Item) (listed : AreDeclaredIn procedure.inner slot items)
    (knows : KnowsListed decls procedure items) (ty : ItemType) (gives : type_in procedure.inner slot ≡ Some ty) where
  abbrev pub earlier : ℕ → List Declared
  earlier i = declared_before procedure.inner slot ++ map (declared_as ty) (take i items)

  all_is : (i : ℕ) (item : Item) → drop i items ≡ item ∷ drop (i + 1) items
      → all_declared procedure.inner ≡ earlier i ++ (declared_as ty item ∷ (map (declared_as ty) (drop (i + 1) items) ++ listed.0))
  all_is i item is =
      listed.1
      ∙ ap (λ o. declared_before procedure.inner slot ++ (with_type o items ++ listed.0)) gives
      ∙ ap (λ ds. declared_before procedure.inner slot ++ (ds ++ listed.0)) (parted (declared_as ty) items i item (drop (i + 1) items) is)
      ∙ ap (λ ds. declared_before procedure.inner slot ++ ds)
      (append_assoc (map (declared_as ty) (take i items)) (declared_as ty item ∷ map (declared_as ty) (drop (i + 1) items)) listed.0)
      ∙ sym
      (append_assoc (declared_before procedure.inner slot) (map (declared_as ty) (take i items))
      (declared_as ty item ∷ (map (declared_as ty) (drop (i + 1) items) ++ listed.0)))

  -- the item is judged by the one that the table knows
  pub judged_there : (i : ℕ) (item : Item) → drop i items ≡ item ∷ drop (i + 1) items
      → judged_item (earlier i) (declared_as ty item) (item_named item.name (items_in decls.items procedure.label.slot))
      ≡ item_offence (effective [] (earlier i)) (declared_as ty item)
  judged_there i item is =
      ap (judged_item (earlier i) (declared_as ty item))
      (knows item.name (named items i item (drop (i + 1) items) is)
      ∙ ap (λ (all : List Declared). item_named item.name (effective [] all)) (all_is i item is))
      ∙ judged (earlier i) (declared_as ty item) (map (declared_as ty) (drop (i + 1) items) ++ listed.0)

  -- the item of the number has an offence
  pub offence_here : (i : ℕ) (item : Item) (offence : MarkKind) → drop i items ≡ item ∷ drop (i + 1) items
      → Some offence ≡ item_offence (effective [] (earlier i)) (declared_as ty item)
      → Some offence ≡ declared_offence (effective [] (earlier i)) (map (declared_as ty) (drop i items))
  offence_here i item offence is found =
      ap (λ o. option_or o (declared_offence (with_declared (effective [] (earlier i)) (declared_as ty item)) (map (declared_as ty) (drop (i + 1) items)))) found
      ∙ ap (λ ds. declared_offence (effective [] (earlier i)) (map (declared_as ty) ds)) (sym is)

  -- it has none
  pub offence_behind : (i : ℕ) (item : Item) → drop i items ≡ item ∷ drop (i + 1) items
      → None ≡ item_offence (effective [] (earlier i)) (declared_as ty item)
      → declared_offence (effective [] (earlier (i + 1))) (map (declared_as ty) (drop (i + 1) items))
      ≡ declared_offence (effective [] (earlier i)) (map (declared_as ty) (drop i items))
  offence_behind i item is none =
      ap (λ (before : List Declared). declared_offence before (map (declared_as ty) (drop (i + 1) items))) more
      ∙ ap (λ o. option_or o (declared_offence (with_declared (effective [] (earlier i)) (declared_as ty item)) (map (declared_as ty) (drop (i + 1) items)))) none
      ∙ ap (λ ds. declared_offence (effective [] (earlier i)) (map (declared_as ty) ds)) (sym is)
    where
      more : effective [] (earlier (i + 1)) ≡ with_declared (effective [] (earlier i)) (declared_as ty item)
      more =
          ap (λ n. effective [] (earlier n)) (add-one i)
          ∙ ap (λ ds. effective [] (declared_before procedure.inner slot ++ ds)) (taken_next (declared_as ty) items i item (drop (i + 1) items) is)
          ∙ ap (effective []) (sym (append_assoc (declared_before procedure.inner slot) (map (declared_as ty) (take i items)) (declared_as ty item ∷ [])))
          ∙ effective_append [] (earlier i) (declared_as ty item ∷ [])
