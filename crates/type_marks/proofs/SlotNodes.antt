-- The nodes in one slot, and what an edit there makes of nodes.
use Rattle.std.proofs.Common.{◌≡◌, ℕ, zero, suc, ◌+◌, ◌≤◌, Bool, true, false, List, [], ◌∷◌, Option, Some, None, slice_get, refl, ap, sym, subst, ◌∙◌, arith, eq-eqb, eqb-true, ne_eqb}
use Rattle.std.specs.Prelude.{◌==◌, if◌then◌else◌}
use Rattle.std.specs.Option.{option_or}
use Rattle.plcs_base.specs.declared.place.PhraseAt.{PhraseAt}
use Rattle.plcs_grammar.specs.PlainPhrase.{PlainPhrase}
use Rattle.plcs_grammar.specs.Template.{row_of}
use Rattle.template_tree.specs.Checks.Environment.{procedure_at}
use Rattle.template_tree.specs.Edits.Edit.{edit_slot}
use Rattle.template_tree.specs.Positions.Place.{PlainPlace, Site, begin, end_at, in_turn, inner_end, site_among}
use Rattle.template_tree.specs.Programs.PlainTree.{Forest, Label, PlainNode, forest, join, nodes}
use Rattle.template_tree.specs.Programs.Slots.{times}
use Rattle.type_marks.proofs.FoundPhrases.{once_here, own_phrase, phrase_in, phrase_join}

-- of each of the nodes that is in the slot this is so
abbrev pub AtSlot : (slot : ℕ) → (PlainNode → Type 0) → Forest → Type 0
AtSlot slot It Forest.nil = Unit {0}
AtSlot slot It (Forest.cons label inner rest) =
    (label.slot ≡ slot → It (record { label = label; inner = inner })) × AtSlot slot It inner × AtSlot slot It rest

-- of each of main and the procedures this is so
abbrev pub AllItems : (PlainNode → Type 0) → Forest → Type 0
AllItems It Forest.nil = Unit {0}
AllItems It (Forest.cons label inner rest) = It (record { label = label; inner = inner }) × AllItems It rest

-- of each of the nodes in a list this is so
abbrev pub AllOf : (PlainNode → Type 0) → List PlainNode → Type 0
AllOf It [] = Unit {0}
AllOf It (node ∷ nodes) = It node × AllOf It nodes

-- nodes that are all in one slot
abbrev pub AreIn : (slot : ℕ) → List PlainNode → Type 0
AreIn slot = AllOf (λ node. node.label.slot ≡ slot)

pub all_items : (It : PlainNode → Type 0) (items : Forest) → ((k : ℕ) (item : PlainNode) → slice_get (nodes items) k ≡ Some item → It item)
    → AllItems It items
all_items It Forest.nil is = tt
all_items It (Forest.cons label inner rest) is =
    (is 0 (record { label = label; inner = inner }) refl, all_items It rest (λ k item there. is (suc k) item there))

-- ---- of the nodes in a slot

module _ (slot : ℕ) where
  pub weaker : (It To : PlainNode → Type 0) → ((node : PlainNode) → node.label.slot ≡ slot → It node → To node) → (nodes : Forest)
      → AtSlot slot It nodes → AtSlot slot To nodes
  weaker It To follows Forest.nil is = tt
  weaker It To follows (Forest.cons label inner rest) is = (
    (λ here. follows (record { label = label; inner = inner }) here (is.0 here)),
    weaker It To follows inner is.1,
    weaker It To follows rest is.2,
  )

  pub both : (It To : PlainNode → Type 0) (nodes : Forest) → AtSlot slot It nodes → AtSlot slot To nodes
      → AtSlot slot (λ node. It node × To node) nodes
  both It To Forest.nil one other = tt
  both It To (Forest.cons label inner rest) one other =
      ((λ here. (one.0 here, other.0 here)), both It To inner one.1 other.1, both It To rest one.2 other.2)

  -- where the slot doesn't stand nothing is asked
  pub at_nowhere : (It : PlainNode → Type 0) (nodes : Forest) → times slot nodes ≡ 0 → AtSlot slot It nodes
  at_nowhere It Forest.nil absent = tt
  at_nowhere It (Forest.cons label inner rest) absent = (
    (λ here. absurd (omega (arith, once_here label.slot slot here, absent))),
    at_nowhere It inner (omega (arith, absent)),
    at_nowhere It rest (omega (arith, absent)),
  )

  -- of an item, and of what stands inside it
  pub at_item : (It : PlainNode → Type 0) (items : Forest) (k : ℕ) (item : PlainNode) → slice_get (nodes items) k ≡ Some item
      → AtSlot slot It items → (item.label.slot ≡ slot → It item) × AtSlot slot It item.inner
  at_item It Forest.nil zero item there is = absurd (cc)
  at_item It Forest.nil (suc k) item there is = absurd (cc)
  at_item It (Forest.cons label inner rest) zero item there is =
      let same : record { label = label; inner = inner } ≡ item = cc in
      subst (λ (n : PlainNode). (n.label.slot ≡ slot → It n) × AtSlot slot It n.inner) same (is.0, is.1)
  at_item It (Forest.cons label inner rest) (suc k) item there is = at_item It rest k item there is.2

  -- the slot of an item stands
  live_item : (items : Forest) (k : ℕ) (item : PlainNode) → slice_get (nodes items) k ≡ Some item → item.label.slot ≡ slot
      → 1 ≤ times slot items
  live_item Forest.nil zero item there own = absurd (cc)
  live_item Forest.nil (suc k) item there own = absurd (cc)
  live_item (Forest.cons label inner rest) zero item there own =
      let same : record { label = label; inner = inner } ≡ item = cc in
      let here : label.slot ≡ slot = ap (λ (n : PlainNode). n.label.slot) same ∙ own in
      omega (arith, once_here label.slot slot here)
  live_item (Forest.cons label inner rest) (suc k) item there own = omega (arith, live_item rest k item there own)

  -- where it stands but once, it is asked of the item in it
  pub at_unique : (It : PlainNode → Type 0) (items : Forest) (k : ℕ) (item : PlainNode) → slice_get (nodes items) k ≡ Some item
      → item.label.slot ≡ slot → times slot items ≤ 1 → It item → AtSlot slot It items
  at_unique It Forest.nil zero item there own once is = absurd (cc)
  at_unique It Forest.nil (suc k) item there own once is = absurd (cc)
  at_unique It (Forest.cons label inner rest) zero item there own once is =
      let same : record { label = label; inner = inner } ≡ item = cc in
      let here : label.slot ≡ slot = ap (λ (n : PlainNode). n.label.slot) same ∙ own in
      let one = once_here label.slot slot here in (
        (λ its. subst It (sym same) is),
        at_nowhere It inner (omega (arith, one, once)),
        at_nowhere It rest (omega (arith, one, once)),
      )
  at_unique It (Forest.cons label inner rest) (suc k) item there own once is =
      let live = live_item rest k item there own in (
        (λ here. absurd (omega (arith, once_here label.slot slot here, live, once))),
        at_nowhere It inner (omega (arith, live, once)),
        at_unique It rest k item there own (omega (arith, once)) is,
      )

  -- no site is where it doesn't stand
  pub site_nowhere : (turn : Bool) (nodes : Forest) (behind : PlainPlace) → times slot nodes ≡ 0 → site_among slot turn nodes behind ≡ None
  site_nowhere turn Forest.nil behind absent = refl
  site_nowhere turn (Forest.cons label inner rest) behind absent =
      let after : PlainPlace = if turn then begin rest behind else behind in
      let within = site_among slot (in_turn (row_of label.kind).sections) inner (end_at label.slot (inner_end label.kind) after) in
      ap (λ (b : Bool). if b then Some record { label = label; inner = inner; after = after } else option_or within (site_among slot turn rest behind))
      (ne_eqb label.slot slot (λ here. omega (arith, once_here label.slot slot here, absent)))
      ∙ (λ i.
      option_or
      (site_nowhere (in_turn (row_of label.kind).sections) inner (end_at label.slot (inner_end label.kind) after) (omega (arith, absent)) i)
      (site_nowhere turn rest behind (omega (arith, absent)) i))

  -- where it stands but once, it is asked of the node at its site
  pub at_site : (It : PlainNode → Type 0) (turn : Bool) (nodes : Forest) (behind : PlainPlace) → times slot nodes ≤ 1
      → ((found : Site) → site_among slot turn nodes behind ≡ Some found → It (record { label = found.label; inner = found.inner }))
      → AtSlot slot It nodes
  at_site It turn Forest.nil behind once is = tt
  at_site It turn (Forest.cons label inner rest) behind once is =
      by (label.slot == slot) refl
      (at_site It (in_turn (row_of label.kind).sections) inner (end_at label.slot (inner_end label.kind) after) (omega (arith, once)))
      (at_site It turn rest behind (omega (arith, once)))
    where
      after : PlainPlace
      after = if turn then begin rest behind else behind

      within : Option Site
      within = site_among slot (in_turn (row_of label.kind).sections) inner (end_at label.slot (inner_end label.kind) after)

      whole : (b : Bool) → (label.slot == slot) ≡ b
          → site_among slot turn (Forest.cons label inner rest) behind
          ≡ (if b then Some record { label = label; inner = inner; after = after } else option_or within (site_among slot turn rest behind))
      whole b e =
          ap
          (λ (here : Bool).
          if here then Some record { label = label; inner = inner; after = after } else option_or within (site_among slot turn rest behind))
          e

      by : (b : Bool) → (label.slot == slot) ≡ b
          → (((found : Site) → within ≡ Some found → It (record { label = found.label; inner = found.inner })) → AtSlot slot It inner)
          → (((found : Site) → site_among slot turn rest behind ≡ Some found → It (record { label = found.label; inner = found.inner }))
          → AtSlot slot It rest)
          → AtSlot slot It (Forest.cons label inner rest)
      by true e inside others =
          let here : label.slot ≡ slot = eqb-true label.slot slot e in
          let one = once_here label.slot slot here in (
            (λ own. is (record { label = label; inner = inner; after = after }) (whole true e)),
            at_nowhere It inner (omega (arith, one, once)),
            at_nowhere It rest (omega (arith, one, once)),
          )
      by false e inside others = (
        (λ own. absurd (differ own)),
        inside (λ found there. is found (whole false e ∙ ap (λ (o : Option Site). option_or o (site_among slot turn rest behind)) there)),
        later (times slot rest) refl,
      )
        where
          differ : label.slot ≡ slot → ⊥
          differ own = let yes = eq-eqb label.slot slot own in absurd (cc)

          later : (n : ℕ) → times slot rest ≡ n → AtSlot slot It rest
          later zero none = at_nowhere It rest none
          later (suc n) some =
              others
              (λ found there.
              is found
              (whole false e
              ∙ ap (λ (o : Option Site). option_or o (site_among slot turn rest behind))
              (site_nowhere (in_turn (row_of label.kind).sections) inner (end_at label.slot (inner_end label.kind) after)
              (omega (arith, some, once)))
              ∙ there))

-- ---- an edit at a slot

join_nil : (items : Forest) → join items Forest.nil ≡ items
join_nil Forest.nil = refl
join_nil (Forest.cons label inner rest) = ap (Forest.cons label inner) (join_nil rest)

module _ (slot : ℕ) (change : PlainNode → List PlainNode) where
  -- of the first of some nodes, and of those behind it
  pub edit_first : (label : Label) (inner rest : Forest)
      → edit_slot slot change (Forest.cons label inner rest)
      ≡ join (edit_slot slot change (Forest.cons label inner Forest.nil)) (edit_slot slot change rest)
  edit_first label inner rest = by (label.slot == slot)
    where
      by : (b : Bool)
          → (if b then join (forest (change (record { label = label; inner = inner }))) (edit_slot slot change rest)
          else Forest.cons label (edit_slot slot change inner) (edit_slot slot change rest))
          ≡ join
          (if b then join (forest (change (record { label = label; inner = inner }))) Forest.nil
          else Forest.cons label (edit_slot slot change inner) Forest.nil)
          (edit_slot slot change rest)
      by true =
          ap (λ (f : Forest). join f (edit_slot slot change rest)) (sym (join_nil (forest (change (record { label = label; inner = inner })))))
      by false = refl

  -- of a node in the slot
  pub edit_here : (node : PlainNode) → node.label.slot ≡ slot → edit_slot slot change (forest (node ∷ [])) ≡ forest (change node)
  edit_here node here =
      ap
      (λ (b : Bool).
      if b then join (forest (change node)) Forest.nil else Forest.cons node.label (edit_slot slot change node.inner) Forest.nil)
      (eq-eqb node.label.slot slot here)
      ∙ join_nil (forest (change node))

  -- of a node in another one
  pub edit_inside : (node : PlainNode) → (node.label.slot ≡ slot → ⊥)
      → edit_slot slot change (forest (node ∷ []))
      ≡ forest (record { label = node.label; inner = edit_slot slot change node.inner } ∷ [])
  edit_inside node apart =
      ap
      (λ (b : Bool).
      if b then join (forest (change node)) Forest.nil else Forest.cons node.label (edit_slot slot change node.inner) Forest.nil)
      (ne_eqb node.label.slot slot apart)

  -- where it doesn't stand, all stays
  pub edit_absent : (items : Forest) → times slot items ≡ 0 → edit_slot slot change items ≡ items
  edit_absent Forest.nil absent = refl
  edit_absent (Forest.cons label inner rest) absent =
      ap
      (λ (b : Bool).
      if b then join (forest (change (record { label = label; inner = inner }))) (edit_slot slot change rest)
      else Forest.cons label (edit_slot slot change inner) (edit_slot slot change rest))
      (ne_eqb label.slot slot (λ here. omega (arith, once_here label.slot slot here, absent)))
      ∙ (λ i. Forest.cons label (edit_absent inner (omega (arith, absent)) i) (edit_absent rest (omega (arith, absent)) i))

  -- ---- the phrase at a place

  pub phrases_edited : (at : PhraseAt) (items : Forest)
      → AtSlot slot (λ node. phrase_in at (forest (node ∷ [])) ≡ phrase_in at (forest (change node))) items
      → phrase_in at items ≡ phrase_in at (edit_slot slot change items)
  phrases_edited at Forest.nil alike = refl
  phrases_edited at (Forest.cons label inner rest) alike =
      by (label.slot == slot) refl (phrases_edited at inner alike.1) (phrases_edited at rest alike.2)
    where
      by : (b : Bool) → (label.slot == slot) ≡ b → phrase_in at inner ≡ phrase_in at (edit_slot slot change inner)
          → phrase_in at rest ≡ phrase_in at (edit_slot slot change rest)
          → phrase_in at (Forest.cons label inner rest)
          ≡ phrase_in at
          (if b then join (forest (change (record { label = label; inner = inner }))) (edit_slot slot change rest)
          else Forest.cons label (edit_slot slot change inner) (edit_slot slot change rest))
      by true e inside behind =
          let came = forest (change (record { label = label; inner = inner })) in
          phrase_join at (Forest.cons label inner Forest.nil) rest
          ∙ (λ i. option_or (alike.0 (eqb-true label.slot slot e) i) (behind i))
          ∙ sym (phrase_join at came (edit_slot slot change rest))
      by false e inside behind =
          (λ i. option_or (own_phrase at label) (option_or (inside i) (behind i)))

  -- ---- of what comes for the nodes in the slot

  at_join : (It : PlainNode → Type 0) (one other : Forest) → AtSlot slot It (join one other)
      → AtSlot slot It one × AtSlot slot It other
  at_join It Forest.nil other is = (tt, is)
  at_join It (Forest.cons label inner rest) other is =
      let behind = at_join It rest other is.2 in
      ((is.0, is.1, behind.0), behind.1)

  all_of : (It : PlainNode → Type 0) (came : List PlainNode) → AreIn slot came → AtSlot slot It (forest came) → AllOf It came
  all_of It [] are is = tt
  all_of It (node ∷ came) are is = (is.0 are.0, all_of It came are.1 is.2)

  pub at_edited : (It : PlainNode → Type 0) (items : Forest) → times slot items ≤ 1
      → AtSlot slot (λ node. AreIn slot (change node)) items → AtSlot slot It (edit_slot slot change items)
      → AtSlot slot (λ node. AllOf It (change node)) items
  at_edited It Forest.nil once are is = tt
  at_edited It (Forest.cons label inner rest) once are is =
      by (label.slot == slot) refl is (λ within. at_edited It inner (omega (arith, once)) are.1 within)
      (λ behind. at_edited It rest (omega (arith, once)) are.2 behind)
    where
      item : PlainNode
      item = record { label = label; inner = inner }

      by : (b : Bool) → (label.slot == slot) ≡ b
          → AtSlot slot It
          (if b then join (forest (change item)) (edit_slot slot change rest)
          else Forest.cons label (edit_slot slot change inner) (edit_slot slot change rest))
          → (AtSlot slot It (edit_slot slot change inner) → AtSlot slot (λ node. AllOf It (change node)) inner)
          → (AtSlot slot It (edit_slot slot change rest) → AtSlot slot (λ node. AllOf It (change node)) rest)
          → AtSlot slot (λ node. AllOf It (change node)) (Forest.cons label inner rest)
      by true e its inside behind =
          let here : label.slot ≡ slot = eqb-true label.slot slot e in
          let one = once_here label.slot slot here in
          let split = at_join It (forest (change item)) (edit_slot slot change rest) its in (
            (λ own. all_of It (change item) (are.0 here) split.0),
            at_nowhere slot (λ node. AllOf It (change node)) inner (omega (arith, one, once)),
            behind split.1,
          )
      by false e its inside behind = ((λ own. absurd (differ own)), inside its.1, behind its.2)
        where
          differ : label.slot ≡ slot → ⊥
          differ own = let yes = eq-eqb label.slot slot own in absurd (cc)

  -- ---- a procedure by its slot

  -- one is found behind nodes that are in another slot
  found_behind : (t own : ℕ) → (own ≡ t → ⊥) → (came : List PlainNode) (rest : Forest) → AreIn t came
      → procedure_at (join (forest came) rest) own ≡ procedure_at rest own
  found_behind t own other [] rest are = refl
  found_behind t own other (node ∷ came) rest are =
      ap
      (λ (b : Bool).
      if b then Some record { label = node.label; inner = node.inner } else procedure_at (join (forest came) rest) own)
      (ne_eqb node.label.slot own (λ e. other (sym e ∙ are.0)))
      ∙ found_behind t own other came rest are.1

  -- what comes for the first item is in its slot
  first_in : (label : Label) (inner : Forest)
      → (label.slot ≡ slot → AreIn slot (change (record { label = label; inner = inner })))
      → (came : List PlainNode) × (edit_slot slot change (Forest.cons label inner Forest.nil) ≡ forest came) × AreIn label.slot came
  first_in label inner are = by (label.slot == slot) refl
    where
      item : PlainNode
      item = record { label = label; inner = inner }

      by : (b : Bool) → (label.slot == slot) ≡ b
          → (came : List PlainNode) × (edit_slot slot change (Forest.cons label inner Forest.nil) ≡ forest came) × AreIn label.slot came
      by true e =
          let here : label.slot ≡ slot = eqb-true label.slot slot e in
          (change item, edit_here item here, subst (λ (n : ℕ). AreIn n (change item)) (sym here) (are here))
      by false e = (
        record { label = label; inner = edit_slot slot change inner } ∷ [],
        edit_inside item (λ here. differ here),
        (refl, tt),
      )
        where
          differ : label.slot ≡ slot → ⊥
          differ own = let yes = eq-eqb label.slot slot own in absurd (cc)

  pub procedure_edited : (items : Forest) (item new : PlainNode) → procedure_at items item.label.slot ≡ Some item
      → edit_slot slot change (forest (item ∷ [])) ≡ forest (new ∷ []) → new.label.slot ≡ item.label.slot
      → AtSlot slot (λ node. AreIn slot (change node)) items
      → procedure_at (edit_slot slot change items) item.label.slot ≡ Some new
  procedure_edited Forest.nil item new there comes own are = absurd (cc)
  procedure_edited (Forest.cons label inner rest) item new there comes own are =
      ap (λ (f : Forest). procedure_at f item.label.slot) (edit_first label inner rest)
      ∙ by (label.slot == item.label.slot) refl (λ found. procedure_edited rest item new found comes own are.2)
    where
      first : PlainNode
      first = record { label = label; inner = inner }

      found : (b : Bool) → (label.slot == item.label.slot) ≡ b
          → (if b then Some first else procedure_at rest item.label.slot) ≡ Some item
      found b e = sym (ap (λ (here : Bool). if here then Some first else procedure_at rest item.label.slot) e) ∙ there

      by : (b : Bool) → (label.slot == item.label.slot) ≡ b
          → (procedure_at rest item.label.slot ≡ Some item → procedure_at (edit_slot slot change rest) item.label.slot ≡ Some new)
          → procedure_at (join (edit_slot slot change (Forest.cons label inner Forest.nil)) (edit_slot slot change rest)) item.label.slot
          ≡ Some new
      by true e again =
          let same : first ≡ item = some_is (found true e) in
          ap (λ (f : Forest). procedure_at (join f (edit_slot slot change rest)) item.label.slot)
          (ap (λ (n : PlainNode). edit_slot slot change (forest (n ∷ []))) same ∙ comes)
          ∙ ap
          (λ (b : Bool). if b then Some new else procedure_at (edit_slot slot change rest) item.label.slot)
          (eq-eqb new.label.slot item.label.slot own)
        where
          some_is : Some first ≡ Some item → first ≡ item
          some_is s = cc
      by false e again =
          let first_came = first_in label inner are.0 in
          ap (λ (f : Forest). procedure_at (join f (edit_slot slot change rest)) item.label.slot) first_came.1
          ∙ found_behind label.slot item.label.slot (λ is. differ is) first_came.0 (edit_slot slot change rest) first_came.2
          ∙ again (found false e)
        where
          differ : item.label.slot ≡ label.slot → ⊥
          differ is = let yes = eq-eqb label.slot item.label.slot (sym is) in absurd (cc)
