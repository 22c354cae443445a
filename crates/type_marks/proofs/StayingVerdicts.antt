-- The verdict at a place stays where an edit at a slot leaves all by which the phrase there is checked.
use Rattle.std.proofs.Common.{◌≡◌, ℕ, zero, suc, ◌+◌, ◌≤◌, Bool, true, false, List, [], ◌∷◌, ◌++◌, append-nil, Option, Some, None, option_map, slice_get, refl, ap, sym, subst, ◌∙◌, ◌⊎◌, inl, inr, arith, eq-eqb, eqb-true, true≢false}
use Rattle.std.specs.Prelude.{◌==◌, bytes_eq, is_some, unwrap_or}
use Rattle.std.specs.FinMap.{find}
use Rattle.std.specs.List.{list_any}
use Rattle.std.specs.Option.{option_or}
use Rattle.std.proofs.lemmas.Option.{none-some}
use Rattle.plcs_base.specs.Mark.{phrase_cmp}
use Rattle.plcs_base.specs.declared.declared.Declared.{Declared}
use Rattle.plcs_base.specs.declared.mark.MarkKind.{MarkKind}
use Rattle.plcs_base.specs.declared.place.PhraseAt.{PhraseAt}
use Rattle.plcs_grammar.specs.declared.item.Item.{Item}
use Rattle.plcs_grammar.specs.PlainPhrase.{PlainPhrase}
use Rattle.template_tree.specs.Checks.Environment.{Items, Sig, effective, item_named, items_inside, procedure_at, with_type}
use Rattle.template_tree.specs.Checks.Marks.{VerdictList, declared_before, node_verdicts, procedure_verdicts, procedures_before, surroundings, type_in}
use Rattle.template_tree.specs.Checks.Mention.{mentioned}
use Rattle.template_tree.specs.Checks.Verdict.{declared_offence, verdict}
use Rattle.template_tree.specs.Edits.Edit.{edit_slot}
use Rattle.template_tree.specs.Programs.PlainTree.{Forest, Label, PlainNode, forest, join, nodes}
use Rattle.template_tree.specs.Programs.Slots.{times}
use Rattle.type_marks.proofs.AgreedVerdicts.{AgreeOn, agreed}
use Rattle.type_marks.proofs.EditedHeadings.{GivesHeadless, IsHeadless, earlier_alike}
use Rattle.type_marks.proofs.FoundPhrases.{nodes_agree, nodes_found, own_phrase, phrase_absent, phrase_in, phrase_join, phrase_live, procedures_join}
use Rattle.type_marks.proofs.PlacedVerdicts.{find_both}
use Rattle.type_marks.proofs.Programs.{found_item}
use Rattle.type_marks.proofs.SlotNodes.{AllItems, AllOf, AreIn, AtSlot, all_items, at_item, at_unique, both, edit_first, edit_here, edit_inside, phrases_edited, procedure_edited, weaker}

-- ---- where nothing is found

none_or : {A : Type 0} (a b : Option A) → option_or a b ≡ None → (a ≡ None) × (b ≡ None)
none_or None b is = (refl, is)
none_or (Some x) b is = absurd (none-some x (sym is))

procedures_none : (program : Forest) (at : PhraseAt) (items : Forest) → phrase_in at items ≡ None
    → find phrase_cmp at (procedure_verdicts program items) ≡ None
procedures_none program at Forest.nil none = refl
procedures_none program at (Forest.cons label inner rest) none =
    let item : PlainNode = record { label = label; inner = inner } in
    let split = none_or (phrase_in at (Forest.cons label inner Forest.nil)) (phrase_in at rest)
    (sym (phrase_join at (Forest.cons label inner Forest.nil) rest) ∙ none) in
    let judge = verdict (surroundings program item at.slot.0) in
    find_both at (node_verdicts program item (Forest.cons label inner Forest.nil)) (procedure_verdicts program rest)
    ∙ (λ i.
    option_or
    ((nodes_found program item at (Forest.cons label inner Forest.nil) ∙ ap (option_map judge) split.0) i)
    (procedures_none program at rest split.1 i))

-- what is found in an item is found in the program
item_found : (at : PhraseAt) (items : Forest) (k : ℕ) (item : PlainNode) (phrase : PlainPhrase) → slice_get (nodes items) k ≡ Some item
    → times at.slot.0 items ≤ 1 → phrase_in at (forest (item ∷ [])) ≡ Some phrase → phrase_in at items ≡ Some phrase
item_found at Forest.nil zero item phrase there once is = absurd (cc)
item_found at Forest.nil (suc k) item phrase there once is = absurd (cc)
item_found at (Forest.cons label inner rest) zero item phrase there once is =
    let same : record { label = label; inner = inner } ≡ item = cc in
    phrase_join at (Forest.cons label inner Forest.nil) rest
    ∙ ap (λ (o : Option PlainPhrase). option_or o (phrase_in at rest)) (ap (λ (n : PlainNode). phrase_in at (forest (n ∷ []))) same ∙ is)
item_found at (Forest.cons label inner rest) (suc k) item phrase there once is =
    let behind = item_found at rest k item phrase there (omega (arith, once)) is in
    let live = phrase_live at rest phrase behind in
    phrase_join at (Forest.cons label inner Forest.nil) rest
    ∙ ap (λ (o : Option PlainPhrase). option_or o (phrase_in at rest))
    (phrase_absent at (Forest.cons label inner Forest.nil) (omega (arith, live, once)))
    ∙ behind

-- ---- an edit at a slot

module _ (s : ℕ) (change : PlainNode → List PlainNode) (at : PhraseAt) where
  -- one node comes for a node, with the same inside it, and the phrase at the place stays, if one is in its parts
  pub record ComesAlone (node : PlainNode) : Type 0 where
    pub new : PlainNode
    pub only : change node ≡ new ∷ []
    pub inside : new.inner ≡ node.inner
    pub phrase : own_phrase at node.label ≡ own_phrase at new.label

  -- what comes for a node is in its slot, and either nothing is found at the place, in it or in what comes, or one node
  -- comes that has the same phrase there
  pub record Fits (node : PlainNode) : Type 0 where
    pub in_slot : AreIn s (change node)
    pub fits : ((phrase_in at (forest (node ∷ [])) ≡ None) × (phrase_in at (forest (change node)) ≡ None)) ⊎ ComesAlone node

  -- this stands inside an item after the edit, or inside what comes alone for it
  abbrev pub ComesInside : PlainNode → Forest → Type 0
  ComesInside item inner =
      ((item.label.slot ≡ s) × (inner ≡ item.inner)) ⊎ ((item.label.slot ≡ s → ⊥) × (inner ≡ edit_slot s change item.inner))

  -- the phrase at the place stays in each node
  node_alike : (node : PlainNode) → Fits node → phrase_in at (forest (node ∷ [])) ≡ phrase_in at (forest (change node))
  node_alike node fits = by fits.fits
    where
      by : ((phrase_in at (forest (node ∷ [])) ≡ None) × (phrase_in at (forest (change node)) ≡ None)) ⊎ ComesAlone node
          → phrase_in at (forest (node ∷ [])) ≡ phrase_in at (forest (change node))
      by (inl nothing) = nothing.0 ∙ sym nothing.1
      by (inr alone) =
          ap (λ (o : Option PlainPhrase). option_or o (option_or (phrase_in at node.inner) None)) alone.phrase
          ∙ ap (λ (f : Forest). option_or (own_phrase at alone.new.label) (option_or (phrase_in at f) None)) (sym alone.inside)
          ∙ ap (λ (came : List PlainNode). phrase_in at (forest came)) (sym alone.only)

  module _ (one : Forest) where
    abbrev pub edited : Forest
    edited = edit_slot s change one

    -- the edit spares the phrase at the place: all by which it is checked stays
    pub record Spared (phrase : PlainPhrase) : Type 0 where
      pub items : (name : List ℕ) → list_any (bytes_eq name) (mentioned phrase) ≡ true → (slot : ℕ)
          → item_named name (Items one slot) ≡ item_named name (Items edited slot)
      pub headings : (name : List ℕ) → list_any (bytes_eq name) (mentioned phrase) ≡ true → Sig one name ≡ Sig edited name
      pub heads : (name : List ℕ) → list_any (bytes_eq name) (mentioned phrase) ≡ true
          → AtSlot s (λ node. IsHeadless name node × AllOf (IsHeadless name) (change node)) one
      pub lists : (items : List Item) → phrase ≡ PlainPhrase.declared_list items → (k : ℕ) (item : PlainNode) (inner : Forest)
          → slice_get (nodes one) k ≡ Some item → phrase_in at (forest (item ∷ [])) ≡ Some phrase → ComesInside item inner
          → declared_offence (effective [] (declared_before item.inner at.slot.0)) (with_type (type_in item.inner at.slot.0) items)
          ≡ declared_offence (effective [] (declared_before inner at.slot.0)) (with_type (type_in inner at.slot.0) items)

    module _ (once : (n : ℕ) → times n one ≤ 1) (fits : AtSlot s Fits one) where
      pub are_in : AtSlot s (λ node. AreIn s (change node)) one
      are_in = weaker s Fits (λ node. AreIn s (change node)) (λ node here fit. fit.in_slot) one fits

      pub phrase_stays : phrase_in at one ≡ phrase_in at edited
      phrase_stays =
          phrases_edited s change at one
          (weaker s Fits (λ node. phrase_in at (forest (node ∷ [])) ≡ phrase_in at (forest (change node)))
          (λ node here fit. node_alike node fit) one fits)

      module _ (k : ℕ) (item : PlainNode) (there : slice_get (nodes one) k ≡ Some item) where
        pub alike_there : phrase_in at (forest (item ∷ [])) ≡ phrase_in at (edit_slot s change (forest (item ∷ [])))
        alike_there =
            let its = at_item s Fits one k item there fits in
            phrases_edited s change at (forest (item ∷ [])) (
              (λ here. node_alike item (its.0 here)),
              weaker s Fits (λ node. phrase_in at (forest (node ∷ [])) ≡ phrase_in at (forest (change node)))
                  (λ node here fit. node_alike node fit) item.inner its.1,
              tt,
            )

        module _ (phrase : PlainPhrase) (found : phrase_in at (forest (item ∷ [])) ≡ Some phrase) where
          -- where a phrase is found, a node that comes for the item comes alone
          alone_here : item.label.slot ≡ s → ComesAlone item
          alone_here here = by ((at_item s Fits one k item there fits).0 here).fits
            where
              by : ((phrase_in at (forest (item ∷ [])) ≡ None) × (phrase_in at (forest (change item)) ≡ None)) ⊎ ComesAlone item
                  → ComesAlone item
              by (inl nothing) = absurd (none-some phrase (sym nothing.0 ∙ found))
              by (inr alone) = alone

          -- the item that comes for it
          pub record Comes : Type 0 where
            pub new : PlainNode
            pub comes : edit_slot s change (forest (item ∷ [])) ≡ forest (new ∷ [])
            pub own : new.label.slot ≡ item.label.slot
            pub inside : ComesInside item new.inner

          comes_for : Comes
          comes_for = by (item.label.slot == s) refl
            where
              by : (b : Bool) → (item.label.slot == s) ≡ b → Comes
              by true e =
                  let here = eqb-true item.label.slot s e in
                  let alone = alone_here here in
                  record {
                    new = alone.new;
                    comes = edit_here s change item here ∙ ap forest alone.only;
                    own = (subst (AreIn s) alone.only ((at_item s Fits one k item there fits).0 here).in_slot).0 ∙ sym here;
                    inside = inl (here, alone.inside);
                  }
              by false e =
                  let apart : item.label.slot ≡ s → ⊥ = (λ here. true≢false (sym (eq-eqb item.label.slot s here) ∙ e)) in
                  record {
                    new = record { label = item.label; inner = edit_slot s change item.inner };
                    comes = edit_inside s change item apart;
                    own = refl;
                    inside = inr (apart, refl);
                  }

          procedure_is : procedure_at one item.label.slot ≡ Some item
          procedure_is = found_item one k item there (once item.label.slot)

          items_of : (program : Forest) (procedure : PlainNode) → procedure_at program item.label.slot ≡ Some procedure
              → Items program item.label.slot ≡ items_inside procedure.inner
          items_of program procedure is =
              ap (λ (o : Option PlainNode). unwrap_or (option_map (λ (node : PlainNode). items_inside node.inner) o) []) is

          -- something comes for the procedure itself
          some_comes : AtSlot s (λ node. s ≡ item.label.slot → (first : PlainNode) × (change node ≡ first ∷ [])) one
          some_comes = by (item.label.slot == s) refl
            where
              by : (b : Bool) → (item.label.slot == s) ≡ b
                  → AtSlot s (λ node. s ≡ item.label.slot → (first : PlainNode) × (change node ≡ first ∷ [])) one
              by true e =
                  let here = eqb-true item.label.slot s e in
                  let alone = alone_here here in
                  at_unique s (λ node. s ≡ item.label.slot → (first : PlainNode) × (change node ≡ first ∷ [])) one k item there here (once s)
                  (λ is. (alone.new, alone.only))
              by false e =
                  weaker s Fits (λ node. s ≡ item.label.slot → (first : PlainNode) × (change node ≡ first ∷ []))
                  (λ node here fit is. absurd (true≢false (sym (eq-eqb item.label.slot s (sym is)) ∙ e))) one fits

          agree : Spared phrase → (came : Comes)
              → AgreeOn (surroundings one item at.slot.0) (surroundings edited came.new at.slot.0) phrase
          agree spared came =
              record {
                items =
                    λ name among.
                    ap (item_named name) (sym (items_of one item procedure_is))
                    ∙ spared.items name among item.label.slot
                    ∙ ap (item_named name)
                    (items_of edited came.new (procedure_edited s change one item came.new procedure_is came.comes came.own are_in));
                headings = spared.headings;
                earlier =
                    λ name among.
                    earlier_alike s change name item.label.slot one (gives name among)
                    ∙ ap (λ (n : ℕ). is_some (Sig (procedures_before edited n) name)) (sym came.own);
                listed = λ items is. spared.lists items is k item came.new.inner there found came.inside;
              }
            where
              gives : (name : List ℕ) → list_any (bytes_eq name) (mentioned phrase) ≡ true
                  → AtSlot s (GivesHeadless s change name item.label.slot) one
              gives name among =
                  weaker s
                  (λ node.
                  (IsHeadless name node × AllOf (IsHeadless name) (change node))
                  × (Fits node × (s ≡ item.label.slot → (first : PlainNode) × (change node ≡ first ∷ []))))
                  (GivesHeadless s change name item.label.slot)
                  (λ node here is. record { gone = is.0.0; came = is.0.1; in_slot = is.1.0.in_slot; some = is.1.1 }) one
                  (both s (λ node. IsHeadless name node × AllOf (IsHeadless name) (change node))
                  (λ node. Fits node × (s ≡ item.label.slot → (first : PlainNode) × (change node ≡ first ∷ []))) one (spared.heads name among)
                  (both s Fits (λ node. s ≡ item.label.slot → (first : PlainNode) × (change node ≡ first ∷ [])) one fits some_comes))

          item_agrees : Spared phrase
              → find phrase_cmp at (node_verdicts one item (forest (item ∷ [])))
              ≡ find phrase_cmp at (procedure_verdicts edited (edit_slot s change (forest (item ∷ []))))
          item_agrees spared = of comes_for
            where
              of : Comes
                  → find phrase_cmp at (node_verdicts one item (forest (item ∷ [])))
                  ≡ find phrase_cmp at (procedure_verdicts edited (edit_slot s change (forest (item ∷ []))))
              of came =
                  nodes_agree one edited item came.new at (alike_there ∙ ap (phrase_in at) came.comes)
                  (λ other is.
                  agreed (surroundings one item at.slot.0) (surroundings edited came.new at.slot.0) other
                  (subst (AgreeOn (surroundings one item at.slot.0) (surroundings edited came.new at.slot.0)) (same other is)
                  (agree spared came)))
                  ∙ ap (find phrase_cmp at) (sym (append-nil (node_verdicts edited came.new (forest (came.new ∷ [])))))
                  ∙ ap (λ (f : Forest). find phrase_cmp at (procedure_verdicts edited f)) (sym came.comes)
                where
                  same : (other : PlainPhrase) → phrase_in at (forest (item ∷ [])) ≡ Some other → phrase ≡ other
                  same other is = some_is (sym found ∙ is)
                    where
                      some_is : Some phrase ≡ Some other → phrase ≡ other
                      some_is e = cc

        module _ (spared : (phrase : PlainPhrase) → phrase_in at one ≡ Some phrase → Spared phrase) where
          item_stays : find phrase_cmp at (node_verdicts one item (forest (item ∷ [])))
              ≡ find phrase_cmp at (procedure_verdicts edited (edit_slot s change (forest (item ∷ []))))
          item_stays = by (phrase_in at (forest (item ∷ []))) refl
            where
              by : (o : Option PlainPhrase) → phrase_in at (forest (item ∷ [])) ≡ o
                  → find phrase_cmp at (node_verdicts one item (forest (item ∷ [])))
                  ≡ find phrase_cmp at (procedure_verdicts edited (edit_slot s change (forest (item ∷ []))))
              by None none =
                  nodes_found one item at (forest (item ∷ []))
                  ∙ ap (option_map (verdict (surroundings one item at.slot.0))) none
                  ∙ sym (procedures_none edited at (edit_slot s change (forest (item ∷ []))) (sym alike_there ∙ none))
              by (Some phrase) found =
                  item_agrees phrase found (spared phrase (item_found at one k item phrase there (once at.slot.0) found))

      -- ---- main and the procedures

      items_stay : (items : Forest)
          → AllItems
          (λ item.
          find phrase_cmp at (node_verdicts one item (forest (item ∷ [])))
          ≡ find phrase_cmp at (procedure_verdicts edited (edit_slot s change (forest (item ∷ [])))))
          items
          → find phrase_cmp at (procedure_verdicts one items) ≡ find phrase_cmp at (procedure_verdicts edited (edit_slot s change items))
      items_stay Forest.nil alike = refl
      items_stay (Forest.cons label inner rest) alike =
          let item : PlainNode = record { label = label; inner = inner } in
          let first = edit_slot s change (Forest.cons label inner Forest.nil) in
          find_both at (node_verdicts one item (Forest.cons label inner Forest.nil)) (procedure_verdicts one rest)
          ∙ (λ i. option_or (alike.0 i) (items_stay rest alike.1 i))
          ∙ sym (find_both at (procedure_verdicts edited first) (procedure_verdicts edited (edit_slot s change rest)))
          ∙ ap (find phrase_cmp at) (sym (procedures_join edited first (edit_slot s change rest)))
          ∙ ap (λ (f : Forest). find phrase_cmp at (procedure_verdicts edited f)) (sym (edit_first s change label inner rest))

      pub stays : ((phrase : PlainPhrase) → phrase_in at one ≡ Some phrase → Spared phrase)
          → find phrase_cmp at (procedure_verdicts one one) ≡ find phrase_cmp at (procedure_verdicts edited edited)
      stays spared =
          items_stay one
          (all_items
          (λ item.
          find phrase_cmp at (node_verdicts one item (forest (item ∷ [])))
          ≡ find phrase_cmp at (procedure_verdicts edited (edit_slot s change (forest (item ∷ [])))))
          one (λ k item there. item_stays k item there spared))
