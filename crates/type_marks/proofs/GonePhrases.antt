-- No phrase stands where one went in an edit, unless it is due for a check.
use Rattle.std.proofs.Common.{◌≡◌, ℕ, zero, suc, ◌+◌, ◌<◌, ◌≤◌, Bool, true, false, List, [], ◌∷◌, ◌++◌, Option, Some, None, refl, ap, sym, subst, ◌∙◌, ◌⊎◌, inl, inr, arith, eq-eqb, eqb-true, ne_eqb, true≢false}
use Rattle.std.specs.Prelude.{◌==◌, Contains, if◌then◌else◌, is_some, slice_set}
use Rattle.std.specs.FinMap.{get}
use Rattle.std.specs.Option.{option_map_or, option_or}
use Rattle.std.proofs.lemmas.Option.{none-some}
use Rattle.plcs_base.specs.declared.mark.MarkKind.{MarkKind}
use Rattle.plcs_base.specs.declared.place.PhraseAt.{PhraseAt}
use Rattle.plcs_grammar.specs.PlainPhrase.{PlainPhrase}
use Rattle.template_tree.specs.declared.change.Change.{Change}
use Rattle.template_tree.specs.declared.change.What.{What}
use Rattle.template_tree.specs.Checks.Marks.{Verdicts}
use Rattle.template_tree.specs.Checks.Mention.{phrase_at}
use Rattle.template_tree.specs.Edits.Edit.{DifferBy, Differs, edit_slot}
use Rattle.template_tree.specs.Positions.Place.{Site, place_at, site}
use Rattle.template_tree.specs.Programs.Part.{part_at, with_part}
use Rattle.template_tree.specs.Programs.PlainTree.{Forest, Label, PlainNode, PlainTree, forest, join, roomless}
use Rattle.template_tree.specs.Programs.Slots.{times}
use Rattle.template_tree.specs.Programs.Tree.{IsTree}
use Rattle.decl_table.specs.Due.{IsDue, changed_places, filled_place, phrase_places}
use Rattle.type_marks.proofs.DuePhrases.{contains_none, contains_one, placed_phrase, site_slot, verdict_kept}
use Rattle.type_marks.proofs.FoundPhrases.{once_here, own_apart, own_here, own_phrase, phrase_absent, phrase_in, phrase_join, phrase_live}
use Rattle.type_marks.proofs.RoomlessPrograms.{at_alike, phrase_alike, times_alike}
use Rattle.type_marks.proofs.SlotNodes.{AllOf, AreIn, AtSlot, at_edited, at_nowhere, at_site, both, edit_absent, site_nowhere, weaker}
use Rattle.type_marks.proofs.UndueVerdicts.{at_every, part_unlisted, whole_unlisted}

module _ (s : ℕ) (change : PlainNode → List PlainNode) (at : PhraseAt) where
  -- the slot of the place stands in the node, and nothing is found at the place in what comes for it
  pub record Cuts (node : PlainNode) : Type 0 where
    pub live : 1 ≤ times at.slot.0 (forest (node ∷ []))
    pub gone : (node.label.slot ≡ at.slot.0 → times at.slot.0 node.inner ≡ 0) → phrase_in at (forest (change node)) ≡ None

  live_inside : (items : Forest) → AtSlot s Cuts items → 1 ≤ times s items → 1 ≤ times at.slot.0 items
  live_inside Forest.nil cuts live = absurd (omega (arith, live))
  live_inside (Forest.cons label inner rest) cuts live =
      by (label.slot == s) refl (live_inside inner cuts.1) (live_inside rest cuts.2)
    where
      by : (b : Bool) → (label.slot == s) ≡ b → (1 ≤ times s inner → 1 ≤ times at.slot.0 inner)
          → (1 ≤ times s rest → 1 ≤ times at.slot.0 rest) → 1 ≤ times at.slot.0 (Forest.cons label inner rest)
      by true e inside behind = omega (arith, (cuts.0 (eqb-true label.slot s e)).live)
      by false e inside behind = either (times s inner) refl
        where
          whole : times s (Forest.cons label inner rest) ≡ times s inner + times s rest
          whole = ap (λ (b : Bool). (if b then 1 else 0) + (times s inner + times s rest)) e ∙ (omega arith)

          either : (n : ℕ) → times s inner ≡ n → 1 ≤ times at.slot.0 (Forest.cons label inner rest)
          either zero none = omega (arith, behind (omega (arith, none, whole, live)))
          either (suc n) some = omega (arith, inside (omega (arith, some)))

  -- so nothing is found there after the edit
  pub cut_out : (items : Forest) → times s items ≤ 1 → times at.slot.0 items ≤ 1 → AtSlot s Cuts items → 1 ≤ times s items
      → phrase_in at (edit_slot s change items) ≡ None
  cut_out Forest.nil once few cuts live = refl
  cut_out (Forest.cons label inner rest) once few cuts live =
      by (label.slot == s) refl (cut_out inner (omega (arith, once)) (omega (arith, few)) cuts.1)
      (cut_out rest (omega (arith, once)) (omega (arith, few)) cuts.2)
    where
      item : PlainNode
      item = record { label = label; inner = inner }

      by : (b : Bool) → (label.slot == s) ≡ b → (1 ≤ times s inner → phrase_in at (edit_slot s change inner) ≡ None)
          → (1 ≤ times s rest → phrase_in at (edit_slot s change rest) ≡ None)
          → phrase_in at
          (if b then join (forest (change item)) (edit_slot s change rest)
          else Forest.cons label (edit_slot s change inner) (edit_slot s change rest))
          ≡ None
      by true e inside behind =
          let here = eqb-true label.slot s e in
          let one = once_here label.slot s here in
          let its = cuts.0 here in
          let absent : times s rest ≡ 0 = omega (arith, one, once) in
          phrase_join at (forest (change item)) (edit_slot s change rest)
          ∙ (λ i.
          option_or
          (its.gone (λ same. omega (arith, once_here label.slot at.slot.0 same, few)) i)
          ((ap (phrase_in at) (edit_absent s change rest absent)
          ∙ phrase_absent at rest (omega (arith, its.live, few))) i))
      by false e inside behind = either (times s inner) refl
        where
          whole : times s (Forest.cons label inner rest) ≡ times s inner + times s rest
          whole = ap (λ (b : Bool). (if b then 1 else 0) + (times s inner + times s rest)) e ∙ (omega arith)

          none : (one other : Forest) → phrase_in at one ≡ None → phrase_in at other ≡ None → (at.slot.0 ≡ label.slot → ⊥)
              → phrase_in at (Forest.cons label one other) ≡ None
          none one other first second apart = (λ i. option_or (own_apart at label apart i) (option_or (first i) (second i)))

          either : (n : ℕ) → times s inner ≡ n
              → phrase_in at (Forest.cons label (edit_slot s change inner) (edit_slot s change rest)) ≡ None
          either zero absent =
              let there : 1 ≤ times s rest = omega (arith, absent, whole, live) in
              let at_live = live_inside rest cuts.2 there in
              none (edit_slot s change inner) (edit_slot s change rest)
              (ap (phrase_in at) (edit_absent s change inner absent) ∙ phrase_absent at inner (omega (arith, at_live, few)))
              (behind there) (λ same. omega (arith, once_here label.slot at.slot.0 (sym same), at_live, few))
          either (suc n) some =
              let there : 1 ≤ times s inner = omega (arith, some) in
              let at_live = live_inside inner cuts.1 there in
              let absent : times s rest ≡ 0 = omega (arith, there, once) in
              none (edit_slot s change inner) (edit_slot s change rest) (inside there)
              (ap (phrase_in at) (edit_absent s change rest absent) ∙ phrase_absent at rest (omega (arith, at_live, few)))
              (λ same. omega (arith, once_here label.slot at.slot.0 (sym same), at_live, few))

-- ---- where something went

-- the slot of a site stands
live_site : (s : ℕ) (program : Forest) (found : Site) → site program s ≡ Some found → 1 ≤ times s program
live_site s program found is = by (times s program) refl
  where
    by : (n : ℕ) → times s program ≡ n → 1 ≤ n
    by zero none = absurd (none-some found (sym (site_nowhere s false program (place_at 0 1) none) ∙ is))
    by (suc n) some = omega arith

-- the slot of a place that is listed in a node stands there
live_in : (at : PhraseAt) (node : PlainNode) → Contains (phrase_places (forest (node ∷ []))) at → 1 ≤ times at.slot.0 (forest (node ∷ []))
live_in at node there = by (phrase_in at (forest (node ∷ []))) refl
  where
    by : (o : Option PlainPhrase) → phrase_in at (forest (node ∷ [])) ≡ o → 1 ≤ times at.slot.0 (forest (node ∷ []))
    by None e = absurd (true≢false (sym (placed_phrase at (forest (node ∷ [])) there) ∙ ap is_some e))
    by (Some phrase) e = phrase_live at (forest (node ∷ [])) phrase e

-- it stands in the node in the slot, where it is listed of what was changed
pub record Went (s : ℕ) (at : PhraseAt) (program : Forest) : Type 0 where
  pub stands : 1 ≤ times s program
  pub live : AtSlot s (λ node. 1 ≤ times at.slot.0 (forest (node ∷ []))) program

whole_went : (s : ℕ) (at : PhraseAt) (program : Forest) → times s program ≤ 1
    → Contains (option_map_or (λ (found : Site). phrase_places (Forest.cons found.label found.inner Forest.nil)) (site program s) []) at
    → Went s at program
whole_went s at program once there = by (site program s) refl there
  where
    by : (o : Option Site) → site program s ≡ o
        → Contains (option_map_or (λ (found : Site). phrase_places (Forest.cons found.label found.inner Forest.nil)) o []) at → Went s at program
    by None e f = absurd (contains_none at f)
    by (Some found) e f =
        record {
          stands = live_site s program found e;
          live =
              at_site s (λ node. 1 ≤ times at.slot.0 (forest (node ∷ []))) false program (place_at 0 1) once
              (λ other is.
              subst
              (λ (o : Option Site).
              1 ≤ option_map_or (λ (x : Site). times at.slot.0 (Forest.cons x.label x.inner Forest.nil)) o 0)
              (sym e ∙ is)
              (live_in at (record { label = found.label; inner = found.inner }) f));
        }

-- of a part, the place is in the slot itself
pub record WentPart (s : ℕ) (at : PhraseAt) (part : ℕ) (program : Forest) : Type 0 where
  pub stands : 1 ≤ times s program
  pub is : at ≡ phrase_at s part

part_went : (s : ℕ) (at : PhraseAt) (part : ℕ) (program : Forest)
    → Contains (option_map_or (λ (found : Site). filled_place (phrase_at s part) (part_at found.label.parts part)) (site program s) []) at
    → WentPart s at part program
part_went s at part program there = by (site program s) refl there
  where
    filled : (o : Option PlainPhrase) → Contains (filled_place (phrase_at s part) o) at → at ≡ phrase_at s part
    filled None f = absurd (contains_none at f)
    filled (Some phrase) f = sym (contains_one (phrase_at s part) at f)

    by : (o : Option Site) → site program s ≡ o
        → Contains (option_map_or (λ (found : Site). filled_place (phrase_at s part) (part_at found.label.parts part)) o []) at
        → WentPart s at part program
    by None e f = absurd (contains_none at f)
    by (Some found) e f = record { stands = live_site s program found e; is = filled (part_at found.label.parts part) f }

-- ---- each kind of change

-- nothing stays where the item in a slot goes
none_left : (s : ℕ) (items : Forest) → times s (edit_slot s (λ other. []) items) ≡ 0
none_left s Forest.nil = refl
none_left s (Forest.cons label inner rest) = by (label.slot == s) refl (none_left s inner) (none_left s rest)
  where
    by : (b : Bool) → (label.slot == s) ≡ b → times s (edit_slot s (λ other. []) inner) ≡ 0 → times s (edit_slot s (λ other. []) rest) ≡ 0
        → times s (if b then join Forest.nil (edit_slot s (λ other. []) rest)
        else Forest.cons label (edit_slot s (λ other. []) inner) (edit_slot s (λ other. []) rest))
        ≡ 0
    by true e inside behind = behind
    by false e inside behind =
        ap
        (λ (b : Bool).
        (if b then 1 else 0) + (times s (edit_slot s (λ other. []) inner) + times s (edit_slot s (λ other. []) rest)))
        e
        ∙ (omega (arith, inside, behind))

module _ (before after : PlainTree) (change : Change) (at : PhraseAt) (tree : IsTree before) (next : IsTree after)
    (not_due : IsDue before.items after.items change at → ⊥) where
  -- another node
  gone_node : (node : PlainNode) → node.label.slot ≡ change.slot.0
      → roomless after.items ≡ roomless (edit_slot change.slot.0 (λ other. node ∷ []) before.items)
      → (Contains (changed_places What.Node change.slot.0 after.items) at → ⊥)
      → Contains (changed_places What.Node change.slot.0 before.items) at → phrase_in at after.items ≡ None
  gone_node node own same not_in there =
      phrase_alike at after.items (edit_slot change.slot.0 (λ other. node ∷ []) before.items) same
      ∙ cut_out change.slot.0 (λ other. node ∷ []) at before.items (tree.once change.slot.0) (tree.once at.slot.0)
      (weaker change.slot.0
      (λ other. (1 ≤ times at.slot.0 (forest (other ∷ []))) × AllOf (λ new. phrase_in at (forest (new ∷ [])) ≡ None) (node ∷ []))
      (Cuts change.slot.0 (λ other. node ∷ []) at) (λ other here is. record { live = is.0; gone = λ few. is.1.0 }) before.items
      (both change.slot.0 (λ other. 1 ≤ times at.slot.0 (forest (other ∷ [])))
      (λ other. AllOf (λ new. phrase_in at (forest (new ∷ [])) ≡ None) (node ∷ [])) before.items went.live nothing))
      went.stands
    where
      went : Went change.slot.0 at before.items
      went = whole_went change.slot.0 at before.items (tree.once change.slot.0) there

      nothing : AtSlot change.slot.0 (λ other. AllOf (λ new. phrase_in at (forest (new ∷ [])) ≡ None) (node ∷ [])) before.items
      nothing =
          at_edited change.slot.0 (λ other. node ∷ []) (λ new. phrase_in at (forest (new ∷ [])) ≡ None) before.items
          (tree.once change.slot.0) (at_every change.slot.0 (λ other. AreIn change.slot.0 (node ∷ [])) (λ other here. (own, tt)) before.items)
          (at_alike change.slot.0 (λ new. phrase_in at (forest (new ∷ [])) ≡ None) (λ new. phrase_in at (forest (new ∷ [])) ≡ None)
          (λ one other is none.
          phrase_alike at (forest (other ∷ [])) (forest (one ∷ [])) (ap (λ (n : PlainNode). Forest.cons n.label n.inner Forest.nil) (sym is)) ∙ none)
          after.items (edit_slot change.slot.0 (λ other. node ∷ []) before.items) same
          (whole_unlisted change.slot.0 after.items (next.once change.slot.0) at not_in))

  -- an item that went
  gone_dropped : roomless after.items ≡ roomless (edit_slot change.slot.0 (λ other. []) before.items)
      → Contains (changed_places What.Dropped change.slot.0 before.items) at → phrase_in at after.items ≡ None
  gone_dropped same there =
      phrase_alike at after.items (edit_slot change.slot.0 (λ other. []) before.items) same
      ∙ cut_out change.slot.0 (λ other. []) at before.items (tree.once change.slot.0) (tree.once at.slot.0)
      (weaker change.slot.0 (λ other. 1 ≤ times at.slot.0 (forest (other ∷ []))) (Cuts change.slot.0 (λ other. []) at)
      (λ other here is. record { live = is; gone = λ few. refl }) before.items went.live)
      went.stands
    where
      went : Went change.slot.0 at before.items
      went = whole_went change.slot.0 at before.items (tree.once change.slot.0) there

  -- nothing goes where an item comes
  gone_added : roomless before.items ≡ roomless (edit_slot change.slot.0 (λ other. []) after.items)
      → Contains (changed_places What.Added change.slot.0 before.items) at → ⊥
  gone_added same there =
      let went = whole_went change.slot.0 at before.items (tree.once change.slot.0) there in
      omega (
        arith,
        went.stands,
        times_alike change.slot.0 before.items (edit_slot change.slot.0 (λ other. []) after.items) same,
        none_left change.slot.0 after.items,
      )

  -- one part
  gone_part : (part : ℕ) (place : Option PlainPhrase)
      → roomless after.items ≡ roomless (edit_slot change.slot.0 (λ node. with_part part place node ∷ []) before.items)
      → (Contains (changed_places (What.Part part) change.slot.0 after.items) at → ⊥)
      → Contains (changed_places (What.Part part) change.slot.0 before.items) at → phrase_in at after.items ≡ None
  gone_part part place same not_in there =
      phrase_alike at after.items (edit_slot change.slot.0 (λ node. with_part part place node ∷ []) before.items) same
      ∙ cut_out change.slot.0 (λ node. with_part part place node ∷ []) at before.items (tree.once change.slot.0) (tree.once at.slot.0) cuts
      went.stands
    where
      went : WentPart change.slot.0 at part before.items
      went = part_went change.slot.0 at part before.items there

      IsOther : PlainNode → Type 0
      IsOther node = Contains (filled_place (phrase_at change.slot.0 part) (part_at node.label.parts part)) at → ⊥

      come : AtSlot change.slot.0 (λ node. AllOf IsOther (with_part part place node ∷ [])) before.items
      come =
          at_edited change.slot.0 (λ node. with_part part place node ∷ []) IsOther before.items (tree.once change.slot.0)
          (at_every change.slot.0 (λ node. AreIn change.slot.0 (with_part part place node ∷ [])) (λ node here. (here, tt)) before.items)
          (at_alike change.slot.0 IsOther IsOther
          (λ one other is none there.
          none
          (subst
          (λ (n : PlainNode). Contains (filled_place (phrase_at change.slot.0 part) (part_at n.label.parts part)) at) (sym is) there))
          after.items (edit_slot change.slot.0 (λ node. with_part part place node ∷ []) before.items) same
          (part_unlisted change.slot.0 after.items (next.once change.slot.0) at part not_in))

      empty : (o : Option PlainPhrase) → (Contains (filled_place (phrase_at change.slot.0 part) o) at → ⊥) → o ≡ None
      empty None unlisted = refl
      empty (Some phrase) unlisted = absurd (unlisted (0, omega arith, sym went.is))

      cuts : AtSlot change.slot.0 (Cuts change.slot.0 (λ node. with_part part place node ∷ []) at) before.items
      cuts =
          weaker change.slot.0 (λ node. AllOf IsOther (with_part part place node ∷ []))
          (Cuts change.slot.0 (λ node. with_part part place node ∷ []) at)
          (λ node here is.
          let own : at.slot.0 ≡ change.slot.0 = ap (λ (p : PhraseAt). p.slot.0) went.is in
          let number : at.part ≡ part = ap (λ (p : PhraseAt). p.part) went.is in
          record {
            live = omega (arith, once_here node.label.slot at.slot.0 (here ∙ sym own));
            gone =
                λ few.
                (λ i.
                option_or
                ((own_here at (with_part part place node).label (own ∙ sym here)
                ∙ ap (part_at (with_part part place node).label.parts) number
                ∙ empty (part_at (with_part part place node).label.parts part) is.0) i)
                (option_or (phrase_absent at node.inner (few (here ∙ sym own)) i) None));
          })
          before.items come

  gone : (what : What) → change.what ≡ what → DifferBy what change.slot.0 before.items after.items
      → Contains (changed_places what change.slot.0 before.items) at → phrase_in at after.items ≡ None
  gone What.Node is by there =
      gone_node by.0 by.1 by.2
      (λ in_it. not_due (IsDue.put_in (subst (λ (w : What). Contains (changed_places w change.slot.0 after.items) at) (sym is) in_it))) there
  gone (What.Part part) is by there =
      gone_part part by.0 by.1
      (λ in_it. not_due (IsDue.put_in (subst (λ (w : What). Contains (changed_places w change.slot.0 after.items) at) (sym is) in_it))) there
  gone What.Added is by there = absurd (gone_added by.1 there)
  gone What.Dropped is by there = gone_dropped by.1 there

  -- no verdict is kept there
  pub gone_verdict : Differs before after change → Contains (changed_places change.what change.slot.0 before.items) at
      → get (Verdicts after.items) at ≡ None
  gone_verdict differs there = by (get (Verdicts after.items) at) refl
    where
      by : (o : Option (Option MarkKind)) → get (Verdicts after.items) at ≡ o → o ≡ None
      by None e = refl
      by (Some verdict) e =
          absurd
          (true≢false
          (ap is_some (sym e) ∙ verdict_kept after.items at ∙ ap is_some (gone change.what refl differs.by there)))
