-- Which phrases an edit at a slot spares: those whose names it leaves, and lists of names of other procedures.
use Rattle.std.proofs.Common.{◌≡◌, ℕ, zero, suc, ◌+◌, ◌<◌, ◌≤◌, Bool, true, false, List, [], ◌∷◌, ◌++◌, Option, Some, None, option_map, slice_get, refl, ap, sym, subst, ◌∙◌, ◌⊎◌, inl, inr, arith, eq-eqb, eqb-true, ne_eqb, lt-ltb, ltb-true, true≢false}
use Rattle.std.specs.Prelude.{◌==◌, ◌||◌, bytes_eq, Contains, find, if◌then◌else◌, nat_lt}
use Rattle.std.specs.List.{list_any}
use Rattle.std.specs.Option.{option_map_or, option_or}
use Rattle.std.proofs.lemmas.List.Elements.{Contains-append_right}
use Rattle.std.proofs.lemmas.Option.{none-some, same_Some}
use Rattle.plcs_base.specs.declared.declared.Declared.{Declared}
use Rattle.plcs_base.specs.declared.declared.ItemType.{ItemType}
use Rattle.plcs_base.specs.declared.mark.MarkKind.{MarkKind}
use Rattle.plcs_base.specs.declared.place.PhraseAt.{PhraseAt}
use Rattle.plcs_grammar.specs.declared.item.Item.{Item}
use Rattle.plcs_grammar.specs.PlainPhrase.{PlainPhrase}
use Rattle.template_tree.specs.Checks.Environment.{effective, procedure_at, with_type}
use Rattle.template_tree.specs.Checks.Marks.{declared_before, type_in}
use Rattle.template_tree.specs.Checks.Verdict.{declared_offence}
use Rattle.template_tree.specs.Edits.Edit.{edit_slot, procedure_of}
use Rattle.template_tree.specs.Programs.PlainTree.{Forest, Label, PlainNode, forest, join, nodes}
use Rattle.template_tree.specs.Programs.Program.{sort_of}
use Rattle.template_tree.specs.Programs.Slots.{times}
use Rattle.decl_table.specs.Due.{all_list_places, binds_names, is_name_list, list_places, procedure_lists}
use Rattle.type_marks.proofs.EditedDeclarations.{GivesNone, GivesQuietly, before_same, is_top, no_top_type, no_type, none_after, none_before, top_edited, top_listed, top_live, type_same}
use Rattle.type_marks.proofs.FoundPhrases.{once_here, own_apart, own_phrase, phrase_absent, phrase_in, phrase_join, phrase_live}
use Rattle.type_marks.proofs.PhrasePlaces.{or_cases}
use Rattle.type_marks.proofs.Programs.{found_item, times_item}
use Rattle.type_marks.proofs.SlotNodes.{AllItems, AllOf, AreIn, AtSlot, all_items, at_item, at_nowhere, both, edit_absent, edit_inside, procedure_edited, weaker}
use Rattle.type_marks.proofs.StayingVerdicts.{ComesAlone, ComesInside, Fits, alike_there, are_in}

-- ---- a list of names that isn't listed

or_empty : (b : Bool) → (b || false) ≡ b
or_empty true = refl
or_empty false = refl

-- a slot stands in a procedure no more often than in the program
times_procedure : (n slot : ℕ) (program : Forest) (item : PlainNode) → procedure_at program slot ≡ Some item
    → times n (forest (item ∷ [])) ≤ times n program
times_procedure n slot Forest.nil item there = absurd (none-some item there)
times_procedure n slot (Forest.cons label inner rest) item there =
    by (label.slot == slot) there (λ is. times_procedure n slot rest item is)
  where
    by : (b : Bool) → (if b then Some (record { label = label; inner = inner }) else procedure_at rest slot) ≡ Some item
        → (procedure_at rest slot ≡ Some item → times n (forest (item ∷ [])) ≤ times n rest)
        → times n (forest (item ∷ [])) ≤ times n (Forest.cons label inner rest)
    by true is again =
        let same : record { label = label; inner = inner } ≡ item = cc in
        subst (λ (m : PlainNode). times n (forest (m ∷ [])) ≤ times n (Forest.cons label inner rest)) same (omega arith)
    by false is again = omega (arith, again is)

-- the node of a list of names that a procedure doesn't list is no node of it
pub unlisted_top : (program : Forest) (at : PhraseAt) (item : PlainNode) (phrase : PlainPhrase) → times at.slot.0 program ≤ 1
    → procedure_at program item.label.slot ≡ Some item → (Contains (procedure_lists program item.label.slot) at → ⊥)
    → phrase_in at (forest (item ∷ [])) ≡ Some phrase → is_name_list phrase ≡ true → is_top at.slot.0 item.inner ≡ false
unlisted_top program at item phrase once there unlisted found list = by (is_top at.slot.0 item.inner) refl
  where
    few : times at.slot.0 (forest (item ∷ [])) ≤ 1
    few = omega (arith, once, times_procedure at.slot.0 item.label.slot program item there)

    by : (b : Bool) → is_top at.slot.0 item.inner ≡ b → b ≡ false
    by false e = refl
    by true e =
        let live = top_live at.slot.0 item.inner e in
        let inside : phrase_in at item.inner ≡ Some phrase =
        or_none (phrase_in at item.inner)
        ∙ sym
        (ap (λ (o : Option PlainPhrase). option_or o (option_or (phrase_in at item.inner) None)) (own_apart at item.label (apart live)))
        ∙ found in
        absurd
        (unlisted
        (subst (λ (places : List PhraseAt). Contains places at)
        (sym
        (ap
        (λ (o : Option PlainNode).
        option_map_or (λ (node : PlainNode). list_places node.label.slot 0 node.label.parts ++ all_list_places node.inner) o [])
        there))
        (Contains-append_right (list_places item.label.slot 0 item.label.parts) (all_list_places item.inner) at
        (top_listed at item.inner phrase (omega (arith, few)) e inside list))))
      where
        apart : 1 ≤ times at.slot.0 item.inner → at.slot.0 ≡ item.label.slot → ⊥
        apart live same = omega (arith, live, few, once_here item.label.slot at.slot.0 (sym same))

        or_none : (o : Option PlainPhrase) → o ≡ option_or o None
        or_none None = refl
        or_none (Some p) = refl

-- ---- the procedure in which an edit was

-- each procedure is the one of the edit, or the slot doesn't stand there
abbrev pub IsWithin : (slot procedure : ℕ) → PlainNode → Type 0
IsWithin slot procedure item = (times slot (forest (item ∷ [])) ≡ 0) ⊎ (item.label.slot ≡ procedure)

absent_within : (slot procedure : ℕ) (items : Forest) → times slot items ≡ 0 → AllItems (IsWithin slot procedure) items
absent_within slot procedure Forest.nil absent = tt
absent_within slot procedure (Forest.cons label inner rest) absent =
    (inl (omega (arith, absent)), absent_within slot procedure rest (omega (arith, absent)))

pub within_one : (slot procedure : ℕ) (items : Forest) → times slot items ≤ 1 → procedure_of items slot ≡ Some procedure
    → AllItems (IsWithin slot procedure) items
within_one slot procedure Forest.nil once is = tt
within_one slot procedure (Forest.cons label inner rest) once is =
    by (nat_lt 0 (times slot (Forest.cons label inner Forest.nil))) refl is
    (λ behind. within_one slot procedure rest (omega (arith, once)) behind)
  where
    by : (b : Bool) → nat_lt 0 (times slot (Forest.cons label inner Forest.nil)) ≡ b
        → option_map (λ (item : PlainNode). item.label.slot)
        (if b then Some (record { label = label; inner = inner })
        else find (λ (item : PlainNode). nat_lt 0 (times slot (forest (item ∷ [])))) (nodes rest))
        ≡ Some procedure
        → (procedure_of rest slot ≡ Some procedure → AllItems (IsWithin slot procedure) rest)
        → AllItems (IsWithin slot procedure) (Forest.cons label inner rest)
    by true e there again =
        let live = ltb-true 0 (times slot (Forest.cons label inner Forest.nil)) e in
        (inr (same_Some label.slot procedure there), absent_within slot procedure rest (omega (arith, live, once)))
    by false e there again = (inl (none (times slot (Forest.cons label inner Forest.nil)) e), again there)
      where
        none : (n : ℕ) → nat_lt 0 n ≡ false → n ≡ 0
        none zero f = refl
        none (suc n) f = absurd (true≢false (sym (lt-ltb 0 (suc n) (omega arith)) ∙ f))

module _ (s : ℕ) (change : PlainNode → List PlainNode) where
  -- one node comes for a node, in its slot
  abbrev pub ComesOne : PlainNode → Type 0
  ComesOne node = (new : PlainNode) × (change node ≡ new ∷ []) × (new.label.slot ≡ s)

  times_join : (n : ℕ) (one other : Forest) → times n (join one other) ≡ times n one + times n other
  times_join n Forest.nil other = omega arith
  times_join n (Forest.cons label inner rest) other = omega (arith, times_join n rest other)

  -- the slot of the edit stands after it where it stood
  live_edited : (items : Forest) → AtSlot s ComesOne items → 1 ≤ times s items → 1 ≤ times s (edit_slot s change items)
  live_edited Forest.nil comes live = absurd (omega (arith, live))
  live_edited (Forest.cons label inner rest) comes live =
      by (label.slot == s) refl (live_edited inner comes.1) (live_edited rest comes.2)
    where
      by : (b : Bool) → (label.slot == s) ≡ b → (1 ≤ times s inner → 1 ≤ times s (edit_slot s change inner))
          → (1 ≤ times s rest → 1 ≤ times s (edit_slot s change rest))
          → 1
          ≤ times s
          (if b then join (forest (change (record { label = label; inner = inner }))) (edit_slot s change rest)
          else Forest.cons label (edit_slot s change inner) (edit_slot s change rest))
      by true e inside behind =
          let one = comes.0 (eqb-true label.slot s e) in
          let came = ap (λ (c : List PlainNode). times s (forest c)) one.1 in
          omega (
            arith,
            times_join s (forest (change (record { label = label; inner = inner }))) (edit_slot s change rest),
            came,
            once_here one.0.label.slot s one.2,
          )
      by false e inside behind = either (times s inner) refl
        where
          zero_here : times s (Forest.cons label inner rest) ≡ times s inner + times s rest
          zero_here = ap (λ (b : Bool). (if b then 1 else 0) + (times s inner + times s rest)) e ∙ (omega arith)

          either : (n : ℕ) → times s inner ≡ n
              → 1 ≤ times s (Forest.cons label (edit_slot s change inner) (edit_slot s change rest))
          either zero none = omega (arith, behind (omega (arith, none, zero_here, live)))
          either (suc n) some = omega (arith, inside (omega (arith, some)))

  -- the procedure of the edit after it is the one before it
  pub within_other : (procedure : ℕ) (items : Forest) → times s items ≤ 1 → AtSlot s ComesOne items
      → procedure_of (edit_slot s change items) s ≡ Some procedure → AllItems (IsWithin s procedure) items
  within_other procedure Forest.nil once comes is = tt
  within_other procedure (Forest.cons label inner rest) once comes is =
      by (label.slot == s) refl is (λ behind. within_other procedure rest (omega (arith, once)) comes.2 behind)
    where
      by : (b : Bool) → (label.slot == s) ≡ b
          → procedure_of
          (if b then join (forest (change (record { label = label; inner = inner }))) (edit_slot s change rest)
          else Forest.cons label (edit_slot s change inner) (edit_slot s change rest))
          s
          ≡ Some procedure
          → (procedure_of (edit_slot s change rest) s ≡ Some procedure → AllItems (IsWithin s procedure) rest)
          → AllItems (IsWithin s procedure) (Forest.cons label inner rest)
      by true e there again =
          let here = eqb-true label.slot s e in
          let one = comes.0 here in
          let found : Some one.0.label.slot ≡ Some procedure =
          sym
          (ap (λ (came : List PlainNode). procedure_of (join (forest came) (edit_slot s change rest)) s) one.1
          ∙ ap
          (λ (b : Bool).
          option_map (λ (item : PlainNode). item.label.slot)
          (if b then Some one.0
          else find (λ (item : PlainNode). nat_lt 0 (times s (forest (item ∷ [])))) (nodes (edit_slot s change rest))))
          (lt-ltb 0 (times s (forest (one.0 ∷ []))) (omega (arith, once_here one.0.label.slot s one.2))))
          ∙ there in (
            inr (here ∙ sym one.2 ∙ same_Some one.0.label.slot procedure found),
            absent_within s procedure rest (omega (arith, once_here label.slot s here, once)),
          )
      by false e there again = inside (nat_lt 0 (times s (Forest.cons label (edit_slot s change inner) Forest.nil))) refl there
        where
          differ : label.slot ≡ s → ⊥
          differ same = true≢false (sym (eq-eqb label.slot s same) ∙ e)

          -- the slot stood there where it stands there now
          stood : 1 ≤ times s (edit_slot s change inner) → 1 ≤ times s inner
          stood live = some (times s inner) refl
            where
              some : (n : ℕ) → times s inner ≡ n → 1 ≤ n
              some zero none = omega (arith, live, ap (times s) (edit_absent s change inner none), none)
              some (suc n) is_some = omega arith

          own : times s (Forest.cons label inner Forest.nil) ≡ times s inner
          own = ap (λ (b : Bool). (if b then 1 else 0) + (times s inner + 0)) e ∙ (omega arith)

          own_edited : times s (Forest.cons label (edit_slot s change inner) Forest.nil) ≡ times s (edit_slot s change inner)
          own_edited = ap (λ (b : Bool). (if b then 1 else 0) + (times s (edit_slot s change inner) + 0)) e ∙ (omega arith)

          inside : (b : Bool) → nat_lt 0 (times s (Forest.cons label (edit_slot s change inner) Forest.nil)) ≡ b
              → option_map (λ (item : PlainNode). item.label.slot)
              (if b then Some (record { label = label; inner = edit_slot s change inner })
              else find (λ (item : PlainNode). nat_lt 0 (times s (forest (item ∷ [])))) (nodes (edit_slot s change rest)))
              ≡ Some procedure
              → AllItems (IsWithin s procedure) (Forest.cons label inner rest)
          inside true f found =
              let live = ltb-true 0 (times s (Forest.cons label (edit_slot s change inner) Forest.nil)) f in (
                inr (same_Some label.slot procedure found),
                absent_within s procedure rest (omega (arith, stood (omega (arith, live, own_edited)), once)),
              )
          inside false f found = (inl (none (times s inner) refl), again found)
            where
              none : (n : ℕ) → times s inner ≡ n → times s (Forest.cons label inner Forest.nil) ≡ 0
              none zero is_none = own ∙ is_none
              none (suc n) is_some =
                  absurd
                  (true≢false
                  (sym
                  (lt-ltb 0 (times s (Forest.cons label (edit_slot s change inner) Forest.nil))
                  (omega (arith, live_edited inner comes.1 (omega (arith, is_some)), own_edited)))
                  ∙ f))

-- ---- declared lists

-- of each of main and the procedures, also of one by its number
all_at : (It : PlainNode → Type 0) (items : Forest) (k : ℕ) (item : PlainNode) → AllItems It items → slice_get (nodes items) k ≡ Some item
    → It item
all_at It Forest.nil zero item all there = absurd (cc)
all_at It Forest.nil (suc k) item all there = absurd (cc)
all_at It (Forest.cons label inner rest) zero item all there =
    let same : record { label = label; inner = inner } ≡ item = cc in
    subst It same all.0
all_at It (Forest.cons label inner rest) (suc k) item all there = all_at It rest k item all.1 there

-- lists that declare nothing have no offence
none_both : (items : List Item) (one other : List Declared) (first second : Option ItemType) → first ≡ None → second ≡ None
    → declared_offence one (with_type first items) ≡ declared_offence other (with_type second items)
none_both items one other first second none absent =
    ap (λ (t : Option ItemType). declared_offence one (with_type t items)) none
    ∙ sym (ap (λ (t : Option ItemType). declared_offence other (with_type t items)) absent)

none_top : (at s : ℕ) → (at ≡ s → ⊥) → (came : List PlainNode) → AreIn s came → is_top at (forest came) ≡ false
none_top at s apart [] are = refl
none_top at s apart (node ∷ came) are =
    (λ i. ne_eqb node.label.slot at (λ e. apart (sym e ∙ are.0)) i || none_top at s apart came are.1 i)

module _ (s : ℕ) (change : PlainNode → List PlainNode) (at : PhraseAt) where
  -- where the place is in the slot of the edit, one node comes alone
  alone_all : (phrase : PlainPhrase) (items : Forest) → at.slot.0 ≡ s → times s items ≤ 1 → phrase_in at items ≡ Some phrase
      → AtSlot s (Fits s change at) items → AtSlot s (ComesAlone s change at) items
  alone_all phrase Forest.nil own once found fits = tt
  alone_all phrase (Forest.cons label inner rest) own once found fits =
      by (label.slot == s) refl (λ f. alone_all phrase inner own (omega (arith, once)) f fits.1)
      (λ f. alone_all phrase rest own (omega (arith, once)) f fits.2)
    where
      item : PlainNode
      item = record { label = label; inner = inner }

      by : (b : Bool) → (label.slot == s) ≡ b
          → (phrase_in at inner ≡ Some phrase → AtSlot s (ComesAlone s change at) inner)
          → (phrase_in at rest ≡ Some phrase → AtSlot s (ComesAlone s change at) rest)
          → AtSlot s (ComesAlone s change at) (Forest.cons label inner rest)
      by true e inside behind =
          let here = eqb-true label.slot s e in
          let one = once_here label.slot s here in (
            (λ its. alone (fits.0 here).fits),
            at_nowhere s (ComesAlone s change at) inner (omega (arith, one, once)),
            at_nowhere s (ComesAlone s change at) rest (omega (arith, one, once)),
          )
        where
          absent : phrase_in at rest ≡ None
          absent =
              phrase_absent at rest
              (ap (λ (n : ℕ). times n rest) own ∙ (omega (arith, once_here label.slot s (eqb-true label.slot s e), once)))

          or_none : (o : Option PlainPhrase) → o ≡ option_or o None
          or_none None = refl
          or_none (Some p) = refl

          only : phrase_in at (forest (item ∷ [])) ≡ Some phrase
          only =
              or_none (phrase_in at (forest (item ∷ [])))
              ∙ ap (option_or (phrase_in at (forest (item ∷ [])))) (sym absent)
              ∙ sym (phrase_join at (forest (item ∷ [])) rest)
              ∙ found

          alone : ((phrase_in at (forest (item ∷ [])) ≡ None) × (phrase_in at (forest (change item)) ≡ None)) ⊎ ComesAlone s change at item
              → ComesAlone s change at item
          alone (inl nothing) = absurd (none-some phrase (sym nothing.0 ∙ only))
          alone (inr single) = single
      by false e inside behind =
          either
          (or_cases (phrase_in at inner) (phrase_in at rest) phrase
          (sym (ap (λ (o : Option PlainPhrase). option_or o (option_or (phrase_in at inner) (phrase_in at rest))) (own_apart at label apart))
          ∙ found))
        where
          differ : label.slot ≡ s → ⊥
          differ same = true≢false (sym (eq-eqb label.slot s same) ∙ e)

          apart : at.slot.0 ≡ label.slot → ⊥
          apart same = differ (sym same ∙ own)

          live : (items : Forest) → phrase_in at items ≡ Some phrase → 1 ≤ times s items
          live items is = subst (λ (n : ℕ). 1 ≤ times n items) own (phrase_live at items phrase is)

          either : (phrase_in at inner ≡ Some phrase) ⊎ (phrase_in at rest ≡ Some phrase)
              → AtSlot s (ComesAlone s change at) (Forest.cons label inner rest)
          either (inl f) = (
            (λ here. absurd (differ here)),
            inside f,
            at_nowhere s (ComesAlone s change at) rest (omega (arith, live inner f, once)),
          )
          either (inr f) = (
            (λ here. absurd (differ here)),
            at_nowhere s (ComesAlone s change at) inner (omega (arith, live rest f, once)),
            behind f,
          )

  -- so the node of the phrase stays one of those of its procedure, or none of them
  top_alike : (phrase : PlainPhrase) (items : Forest) → times s items ≤ 1 → phrase_in at items ≡ Some phrase
      → AtSlot s (Fits s change at) items
      → AtSlot s (λ node. is_top at.slot.0 (forest (change node)) ≡ (node.label.slot == at.slot.0)) items
  top_alike phrase items once found fits = by (at.slot.0 == s) refl
    where
      It : PlainNode → Type 0
      It node = is_top at.slot.0 (forest (change node)) ≡ (node.label.slot == at.slot.0)

      by : (b : Bool) → (at.slot.0 == s) ≡ b → AtSlot s (λ node. is_top at.slot.0 (forest (change node)) ≡ (node.label.slot == at.slot.0)) items
      by true e =
          weaker s (λ node. ComesAlone s change at node × Fits s change at node)
          (λ node. is_top at.slot.0 (forest (change node)) ≡ (node.label.slot == at.slot.0))
          (λ node here is.
          ap (λ (came : List PlainNode). is_top at.slot.0 (forest came)) is.0.only
          ∙ or_empty (is.0.new.label.slot == at.slot.0)
          ∙ ap (λ (n : ℕ). n == at.slot.0) ((subst (AreIn s) is.0.only is.1.in_slot).0 ∙ sym here))
          items
          (both s (ComesAlone s change at) (Fits s change at) items
          (alone_all phrase items (eqb-true at.slot.0 s e) once found fits) fits)
      by false e =
          let apart : at.slot.0 ≡ s → ⊥ = (λ same. true≢false (sym (eq-eqb at.slot.0 s same) ∙ e)) in
          weaker s (Fits s change at) (λ node. is_top at.slot.0 (forest (change node)) ≡ (node.label.slot == at.slot.0))
          (λ node here is.
          none_top at.slot.0 s apart (change node) is.in_slot
          ∙ sym (ne_eqb node.label.slot at.slot.0 (λ same. apart (sym same ∙ here))))
          items fits

  -- an edit inside an item leaves the offence of a declared list where it changes no declaration
  quiet_lists : (items : List Item) (inner : Forest) → AtSlot s (GivesQuietly s change) inner
      → declared_offence (effective [] (declared_before inner at.slot.0)) (with_type (type_in inner at.slot.0) items)
      ≡ declared_offence (effective [] (declared_before (edit_slot s change inner) at.slot.0))
      (with_type (type_in (edit_slot s change inner) at.slot.0) items)
  quiet_lists items inner quiet = by (at.slot.0 == s) refl
    where
      by : (b : Bool) → (at.slot.0 == s) ≡ b
          → declared_offence (effective [] (declared_before inner at.slot.0)) (with_type (type_in inner at.slot.0) items)
          ≡ declared_offence (effective [] (declared_before (edit_slot s change inner) at.slot.0))
          (with_type (type_in (edit_slot s change inner) at.slot.0) items)
      by true e =
          let same = eqb-true at.slot.0 s e in
          none_both items (effective [] (declared_before inner at.slot.0)) (effective [] (declared_before (edit_slot s change inner) at.slot.0))
          (type_in inner at.slot.0) (type_in (edit_slot s change inner) at.slot.0)
          (ap (type_in inner) same
          ∙ none_before s change inner (weaker s (GivesQuietly s change) GivesNone (λ node here is. is.gone) inner quiet))
          (ap (type_in (edit_slot s change inner)) same
          ∙ none_after s change inner
          (weaker s (GivesQuietly s change) (λ node. AllOf GivesNone (change node)) (λ node here is. is.came) inner quiet))
      by false e =
          let apart : at.slot.0 ≡ s → ⊥ = (λ same. true≢false (sym (eq-eqb at.slot.0 s same) ∙ e)) in
          let are = weaker s (GivesQuietly s change) (λ node. AreIn s (change node)) (λ node here is. is.in_slot) inner quiet in
          (λ i.
          declared_offence (effective [] (before_same s change at.slot.0 apart inner quiet i))
          (with_type (type_same s change at.slot.0 apart inner are i) items))

  -- why an edit leaves the offences of declared lists: it changes no declaration, or it was in another procedure than
  -- that of the list, or the list is none of the procedure's
  pub record InOther (one : Forest) : Type 0 where
    pub procedure : ℕ
    pub within : AllItems (IsWithin s procedure) one
    pub unlisted : (Contains (procedure_lists one procedure) at → ⊥) ⊎ (Contains (procedure_lists (edit_slot s change one) procedure) at → ⊥)

  module _ (one : Forest) (once : (n : ℕ) → times n one ≤ 1) (once_edited : (n : ℕ) → times n (edit_slot s change one) ≤ 1)
      (fits : AtSlot s (Fits s change at) one) (phrase : PlainPhrase) (in_one : phrase_in at one ≡ Some phrase) where
    other_lists : InOther one → (items : List Item) → phrase ≡ PlainPhrase.declared_list items → (k : ℕ) (item : PlainNode)
        → slice_get (nodes one) k ≡ Some item → phrase_in at (forest (item ∷ [])) ≡ Some phrase → (item.label.slot ≡ s → ⊥)
        → declared_offence (effective [] (declared_before item.inner at.slot.0)) (with_type (type_in item.inner at.slot.0) items)
        ≡ declared_offence (effective [] (declared_before (edit_slot s change item.inner) at.slot.0))
        (with_type (type_in (edit_slot s change item.inner) at.slot.0) items)
    other_lists other items is k item there found apart =
        by (all_at (IsWithin s other.procedure) one k item other.within there)
      where
        new : PlainNode
        new = record { label = item.label; inner = edit_slot s change item.inner }

        list : is_name_list phrase ≡ true
        list = ap is_name_list is

        procedure_is : procedure_at one item.label.slot ≡ Some item
        procedure_is = found_item one k item there (once item.label.slot)

        top : is_top at.slot.0 (edit_slot s change item.inner) ≡ is_top at.slot.0 item.inner
        top =
            top_edited s change at.slot.0 item.inner
            (at_item s (λ node. is_top at.slot.0 (forest (change node)) ≡ (node.label.slot == at.slot.0)) one k item there
            (top_alike phrase one (once s) in_one fits)).1

        no_top : item.label.slot ≡ other.procedure
            → (Contains (procedure_lists one other.procedure) at → ⊥) ⊎ (Contains (procedure_lists (edit_slot s change one) other.procedure) at → ⊥)
            → is_top at.slot.0 item.inner ≡ false
        no_top own (inl unlisted) =
            unlisted_top one at item phrase (once at.slot.0) procedure_is
            (subst (λ (n : ℕ). Contains (procedure_lists one n) at → ⊥) (sym own) unlisted) found list
        no_top own (inr unlisted) =
            sym top
            ∙ unlisted_top (edit_slot s change one) at new phrase (once_edited at.slot.0)
            (procedure_edited s change one item new procedure_is (edit_inside s change item apart) refl (are_in s change at one once fits))
            (subst (λ (n : ℕ). Contains (procedure_lists (edit_slot s change one) n) at → ⊥) (sym own) unlisted)
            (ap (phrase_in at) (sym (edit_inside s change item apart)) ∙ sym (alike_there s change at one once fits k item there) ∙ found) list

        by : IsWithin s other.procedure item
            → declared_offence (effective [] (declared_before item.inner at.slot.0)) (with_type (type_in item.inner at.slot.0) items)
            ≡ declared_offence (effective [] (declared_before (edit_slot s change item.inner) at.slot.0))
            (with_type (type_in (edit_slot s change item.inner) at.slot.0) items)
        by (inl absent) =
            ap (λ (f : Forest). declared_offence (effective [] (declared_before f at.slot.0)) (with_type (type_in f at.slot.0) items))
            (sym (edit_absent s change item.inner (omega (arith, absent))))
        by (inr own) =
            let none = no_top own other.unlisted in
            none_both items (effective [] (declared_before item.inner at.slot.0))
            (effective [] (declared_before (edit_slot s change item.inner) at.slot.0)) (type_in item.inner at.slot.0)
            (type_in (edit_slot s change item.inner) at.slot.0) (no_top_type at.slot.0 item.inner none)
            (no_top_type at.slot.0 (edit_slot s change item.inner) (top ∙ none))

    pub lists_stay : AtSlot s (GivesQuietly s change) one ⊎ InOther one → (items : List Item) → phrase ≡ PlainPhrase.declared_list items
        → (k : ℕ) (item : PlainNode) (inner : Forest) → slice_get (nodes one) k ≡ Some item
        → phrase_in at (forest (item ∷ [])) ≡ Some phrase → ComesInside s change at item inner
        → declared_offence (effective [] (declared_before item.inner at.slot.0)) (with_type (type_in item.inner at.slot.0) items)
        ≡ declared_offence (effective [] (declared_before inner at.slot.0)) (with_type (type_in inner at.slot.0) items)
    lists_stay why items is k item inner there found (inl own) =
        ap (λ (f : Forest). declared_offence (effective [] (declared_before f at.slot.0)) (with_type (type_in f at.slot.0) items)) (sym own.1)
    lists_stay why items is k item inner there found (inr apart) =
        by why
        ∙ ap (λ (f : Forest). declared_offence (effective [] (declared_before f at.slot.0)) (with_type (type_in f at.slot.0) items))
        (sym apart.1)
      where
        by : AtSlot s (GivesQuietly s change) one ⊎ InOther one
            → declared_offence (effective [] (declared_before item.inner at.slot.0)) (with_type (type_in item.inner at.slot.0) items)
            ≡ declared_offence (effective [] (declared_before (edit_slot s change item.inner) at.slot.0))
            (with_type (type_in (edit_slot s change item.inner) at.slot.0) items)
        by (inl quiet) = quiet_lists items item.inner (at_item s (GivesQuietly s change) one k item there quiet).1
        by (inr other) = other_lists other items is k item there found apart.0
