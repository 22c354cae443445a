-- A phrase that isn't due for a check after an edit, and didn't go in it, has the verdict that it had.
use Rattle.std.proofs.Common.{◌≡◌, ℕ, zero, suc, ◌+◌, ◌≤◌, Bool, true, false, List, [], ◌∷◌, ◌++◌, Option, Some, None, option_map, slice_get, refl, ap, sym, subst, ◌∙◌, ◌⊎◌, inl, inr, arith, eq-eqb, eqb-true, ne_eqb, true≢false}
use Rattle.std.specs.Prelude.{◌≢◌, ◌==◌, ◌||◌, bytes_eq, Contains, if◌then◌else◌, is_some, slice_set}
use Rattle.std.specs.FinMap.{find, get, get-from_entries}
use Rattle.std.specs.List.{list_any}
use Rattle.std.specs.Option.{option_flatten, option_map_or}
use Rattle.std.proofs.lemmas.Option.{none-some}
use Rattle.plcs_base.specs.Mark.{phrase_cmp}
use Rattle.plcs_base.specs.PlaceOrder.{places_total}
use Rattle.plcs_base.specs.declared.place.PhraseAt.{PhraseAt}
use Rattle.plcs_grammar.specs.PlainPhrase.{PlainPhrase}
use Rattle.template_tree.specs.declared.change.Change.{Change}
use Rattle.template_tree.specs.declared.change.What.{What}
use Rattle.template_tree.specs.Checks.Environment.{Items, Sig, item_named, signature_for, type_given}
use Rattle.template_tree.specs.Checks.Marks.{VerdictMap, Verdicts, procedure_verdicts}
use Rattle.template_tree.specs.Checks.Mention.{mentioned, phrase_at}
use Rattle.template_tree.specs.Edits.Edit.{DifferBy, Differs, changed_in, edit_slot, procedure_of}
use Rattle.template_tree.specs.Laws.CheckLaws.{ChecksIgnoreRoom}
use Rattle.template_tree.specs.Positions.Place.{Site, place_at, site}
use Rattle.template_tree.specs.Programs.Part.{part_at, with_part}
use Rattle.template_tree.specs.Programs.PlainTree.{Forest, Label, PlainNode, PlainTree, forest, roomless, roomless_node}
use Rattle.template_tree.specs.Programs.Program.{sort_of}
use Rattle.template_tree.specs.Programs.Slots.{times}
use Rattle.template_tree.specs.Programs.Tree.{IsTree}
use Rattle.decl_table.specs.Due.{IsAffected, IsDue, binds_at, binds_names, bound_names, changed_names, changed_places, changes_binding, filled_place, phrase_places, procedure_lists}
use Rattle.type_marks.specs.VerdictLaws.{VerdictsStayUnlessDue}
use Rattle.type_marks.proofs.EditedDeclarations.{GivesNone, GivesQuietly, no_type, or_true}
use Rattle.type_marks.proofs.EditedHeadings.{IsHeadless, headless, heads_roomless}
use Rattle.type_marks.proofs.FoundPhrases.{own_apart, own_here, own_phrase, phrase_in}
use Rattle.type_marks.proofs.PhrasePlaces.{mention_placed, phrase_placed}
use Rattle.type_marks.proofs.RoomlessPrograms.{at_alike, phrase_alike, procedure_lists_alike, procedure_of_alike, times_alike}
use Rattle.type_marks.proofs.SlotNodes.{AllItems, AllOf, AreIn, AtSlot, at_edited, at_site, both, weaker}
use Rattle.type_marks.proofs.SparedPhrases.{ComesOne, InOther, IsWithin, lists_stay, within_one, within_other}
use Rattle.type_marks.proofs.StableEquations.{stable_heading, stable_item}
use Rattle.type_marks.proofs.StayingVerdicts.{Fits, phrase_stays, stays}

-- ---- what is told of a name, and of the places, at the slot of an edit

pub at_every : (slot : ℕ) (It : PlainNode → Type 0) → ((node : PlainNode) → node.label.slot ≡ slot → It node) → (nodes : Forest) → AtSlot slot It nodes
at_every slot It is Forest.nil = tt
at_every slot It is (Forest.cons label inner rest) =
    ((λ here. is (record { label = label; inner = inner }) here), at_every slot It is inner, at_every slot It is rest)

-- nothing is found where no place is listed
unlisted_phrase : (at : PhraseAt) (node : PlainNode) → (Contains (phrase_places (forest (node ∷ []))) at → ⊥)
    → phrase_in at (forest (node ∷ [])) ≡ None
unlisted_phrase at node unlisted = by (phrase_in at (forest (node ∷ []))) refl
  where
    by : (o : Option PlainPhrase) → phrase_in at (forest (node ∷ [])) ≡ o → o ≡ None
    by None e = refl
    by (Some phrase) e = absurd (unlisted (phrase_placed at (forest (node ∷ [])) phrase e))

module _ (s : ℕ) (program : Forest) (once : times s program ≤ 1) where
  pub whole_unlisted : (at : PhraseAt)
      → (Contains (option_map_or (λ (found : Site). phrase_places (Forest.cons found.label found.inner Forest.nil)) (site program s) []) at → ⊥)
      → AtSlot s (λ node. phrase_in at (forest (node ∷ [])) ≡ None) program
  whole_unlisted at unlisted =
      at_site s (λ node. phrase_in at (forest (node ∷ [])) ≡ None) false program (place_at 0 1) once
      (λ found is.
      unlisted_phrase at (record { label = found.label; inner = found.inner })
      (λ there.
      unlisted
      (subst
      (λ (o : Option Site).
      Contains (option_map_or (λ (f : Site). phrase_places (Forest.cons f.label f.inner Forest.nil)) o []) at)
      (sym is) there)))

  pub part_unlisted : (at : PhraseAt) (part : ℕ)
      → (Contains (option_map_or (λ (found : Site). filled_place (phrase_at s part) (part_at found.label.parts part)) (site program s) []) at → ⊥)
      → AtSlot s (λ node. Contains (filled_place (phrase_at s part) (part_at node.label.parts part)) at → ⊥) program
  part_unlisted at part unlisted =
      at_site s (λ node. Contains (filled_place (phrase_at s part) (part_at node.label.parts part)) at → ⊥) false program (place_at 0 1) once
      (λ found is there.
      unlisted
      (subst
      (λ (o : Option Site).
      Contains (option_map_or (λ (f : Site). filled_place (phrase_at s part) (part_at f.label.parts part)) o []) at)
      (sym is) there))

  whole_unbound : (name : List ℕ)
      → (Contains (option_map_or (λ (found : Site). bound_names (Forest.cons found.label found.inner Forest.nil)) (site program s) []) name → ⊥)
      → AtSlot s (IsHeadless name) program
  whole_unbound name unbound =
      at_site s (IsHeadless name) false program (place_at 0 1) once
      (λ found is.
      headless name found.label found.inner found.inner
      (λ there.
      unbound
      (subst
      (λ (o : Option Site).
      Contains (option_map_or (λ (f : Site). bound_names (Forest.cons f.label f.inner Forest.nil)) o []) name)
      (sym is) there)))

  part_unbound : (name : List ℕ)
      → (Contains (option_map_or (λ (found : Site). bound_names (Forest.cons found.label Forest.nil Forest.nil)) (site program s) []) name → ⊥)
      → AtSlot s (IsHeadless name) program
  part_unbound name unbound =
      at_site s (IsHeadless name) false program (place_at 0 1) once
      (λ found is.
      headless name found.label found.inner Forest.nil
      (λ there.
      unbound
      (subst
      (λ (o : Option Site).
      Contains (option_map_or (λ (f : Site). bound_names (Forest.cons f.label Forest.nil Forest.nil)) o []) name)
      (sym is) there)))

  -- a name that doesn't stand in what was changed heads no procedure there
  pub unbound_heads : (what : What) (name : List ℕ) → (Contains (changed_names what s program) name → ⊥) → AtSlot s (IsHeadless name) program
  unbound_heads What.Node name unbound = whole_unbound name unbound
  unbound_heads (What.Part part) name unbound = part_unbound name unbound
  unbound_heads What.Added name unbound = whole_unbound name unbound
  unbound_heads What.Dropped name unbound = whole_unbound name unbound

  -- what binds no names gives no type
  pub gives_none : binds_at program s ≡ false → AtSlot s GivesNone program
  gives_none unbinding =
      at_site s GivesNone false program (place_at 0 1) once
      (λ found is.
      no_type found.label.kind found.label.parts
      (sym (ap (λ (o : Option Site). option_map_or (λ (f : Site). binds_names (sort_of f.label.kind)) o false) is) ∙ unbinding))

-- ---- programs that check alike

module _ (room : ChecksIgnoreRoom) (one other : Forest) (same : roomless one ≡ roomless other) where
  items_alike : (slot : ℕ) → Items one slot ≡ Items other slot
  items_alike slot = sym ((room one).items slot) ∙ ap (λ (f : Forest). Items f slot) same ∙ (room other).items slot

  headings_alike : (name : List ℕ) → Sig one name ≡ Sig other name
  headings_alike name = sym ((room one).headings name) ∙ ap (λ (f : Forest). Sig f name) same ∙ (room other).headings name

  verdicts_alike : Verdicts one ≡ Verdicts other
  verdicts_alike = sym (room one).verdicts ∙ ap Verdicts same ∙ (room other).verdicts

-- ---- an edit at a slot

-- an edit leaves all that a phrase asks of a name: the items and the heading of the name, and no node heads a procedure
-- of it where the edit was
pub record Left (s : ℕ) (one other : Forest) (name : List ℕ) : Type 0 where
  pub items : (slot : ℕ) → item_named name (Items one slot) ≡ item_named name (Items other slot)
  pub headings : Sig one name ≡ Sig other name
  pub heads_one : AtSlot s (IsHeadless name) one
  pub heads_other : AtSlot s (IsHeadless name) other

-- why an edit leaves the offences of declared lists: it changed no declaration, or it was in one procedure, and the
-- place isn't listed there
pub record IsQuiet (s : ℕ) (one other : Forest) : Type 0 where
  pub one_gives : AtSlot s GivesNone one
  pub other_gives : AtSlot s GivesNone other

pub record IsElsewhere (s : ℕ) (at : PhraseAt) (one other : Forest) : Type 0 where
  pub procedure : ℕ
  pub within : AllItems (IsWithin s procedure) one
  pub unlisted : (Contains (procedure_lists one procedure) at → ⊥) ⊎ (Contains (procedure_lists other procedure) at → ⊥)

module _ (room : ChecksIgnoreRoom) (s : ℕ) (change : PlainNode → List PlainNode) (at : PhraseAt) (one other : Forest)
    (same : roomless other ≡ roomless (edit_slot s change one)) (once : (n : ℕ) → times n one ≤ 1) (once_other : (n : ℕ) → times n other ≤ 1)
    (fits : AtSlot s (Fits s change at) one) where
  once_edited : (n : ℕ) → times n (edit_slot s change one) ≤ 1
  once_edited n = omega (arith, times_alike n other (edit_slot s change one) same, once_other n)

  in_slot : AtSlot s (λ node. AreIn s (change node)) one
  in_slot = weaker s (Fits s change at) (λ node. AreIn s (change node)) (λ node here fit. fit.in_slot) one fits

  -- what is so after the edit of the nodes in the slot is so of those that come
  came : (It : PlainNode → Type 0) → ((node new : PlainNode) → roomless_node node ≡ roomless_node new → It node → It new) → AtSlot s It other
      → AtSlot s (λ node. AllOf It (change node)) one
  came It follows is =
      at_edited s change It one (once s) in_slot (at_alike s It It follows other (edit_slot s change one) same is)

  headless_alike : (name : List ℕ) (node new : PlainNode) → roomless_node node ≡ roomless_node new → IsHeadless name node → IsHeadless name new
  headless_alike name node new is none =
      sym (heads_roomless name new)
      ∙ sym (ap (λ (n : PlainNode). is_some (signature_for name n)) is)
      ∙ heads_roomless name node ∙ none

  gives_alike : (node new : PlainNode) → roomless_node node ≡ roomless_node new → GivesNone node → GivesNone new
  gives_alike node new is none =
      sym (ap (λ (n : PlainNode). type_given n.label.kind n.label.parts) is) ∙ none

  quietly : IsQuiet s one other → AtSlot s (GivesQuietly s change) one
  quietly quiet =
      weaker s (λ node. GivesNone node × (AllOf GivesNone (change node) × Fits s change at node)) (GivesQuietly s change)
      (λ node here is. record { gone = is.0; came = is.1.0; in_slot = is.1.1.in_slot }) one
      (both s GivesNone (λ node. AllOf GivesNone (change node) × Fits s change at node) one quiet.one_gives
      (both s (λ node. AllOf GivesNone (change node)) (Fits s change at) one (came GivesNone gives_alike quiet.other_gives) fits))

  elsewhere : IsElsewhere s at one other → InOther s change at one
  elsewhere is = record { procedure = is.procedure; within = is.within; unlisted = by is.unlisted }
    where
      by : (Contains (procedure_lists one is.procedure) at → ⊥) ⊎ (Contains (procedure_lists other is.procedure) at → ⊥)
          → (Contains (procedure_lists one is.procedure) at → ⊥) ⊎ (Contains (procedure_lists (edit_slot s change one) is.procedure) at → ⊥)
      by (inl unlisted) = inl unlisted
      by (inr unlisted) =
          inr
          (λ there.
          unlisted
          (subst (λ (places : List PhraseAt). Contains places at)
          (sym (procedure_lists_alike other (edit_slot s change one) is.procedure same)) there))

  why : IsQuiet s one other ⊎ IsElsewhere s at one other → AtSlot s (GivesQuietly s change) one ⊎ InOther s change at one
  why (inl quiet) = inl (quietly quiet)
  why (inr other_one) = inr (elsewhere other_one)

  pub verdict_stays : ((phrase : PlainPhrase) → phrase_in at one ≡ Some phrase → (name : List ℕ)
      → list_any (bytes_eq name) (mentioned phrase) ≡ true → Left s one other name)
      → IsQuiet s one other ⊎ IsElsewhere s at one other → get (Verdicts one) at ≡ get (Verdicts other) at
  verdict_stays left lists =
      get-from_entries places_total (procedure_verdicts one one) at
      ∙ stays s change at one once fits
      (λ phrase found.
      record {
        items =
            λ name among slot.
            (left phrase found name among).items slot ∙ ap (item_named name) (items_alike room other (edit_slot s change one) same slot);
        headings =
            λ name among. (left phrase found name among).headings ∙ headings_alike room other (edit_slot s change one) same name;
        heads =
            λ name among.
            both s (IsHeadless name) (λ node. AllOf (IsHeadless name) (change node)) one (left phrase found name among).heads_one
            (came (IsHeadless name) (headless_alike name) (left phrase found name among).heads_other);
        lists = lists_stay s change at one once once_edited fits phrase found (why lists);
      })
      ∙ sym (get-from_entries places_total (procedure_verdicts (edit_slot s change one) (edit_slot s change one)) at)
      ∙ ap (λ (m : VerdictMap). get m at) (sym (verdicts_alike room other (edit_slot s change one) same))

  pub phrase_other : phrase_in at one ≡ phrase_in at other
  phrase_other = phrase_stays s change at one once fits ∙ sym (phrase_alike at other (edit_slot s change one) same)

-- ---- what is not due

module _ (room : ChecksIgnoreRoom) (before after : PlainTree) (change : Change) (at : PhraseAt) (tree : IsTree before) (next : IsTree after)
    (not_due : IsDue before.items after.items change at → ⊥) where
  left : (phrase : PlainPhrase) → phrase_in at after.items ≡ Some phrase → (name : List ℕ)
      → list_any (bytes_eq name) (mentioned phrase) ≡ true → Left change.slot.0 before.items after.items name
  left phrase found name among =
      record {
        items =
            λ slot.
            stable_item (item_named name (Items before.items slot)) (item_named name (Items after.items slot))
            (λ differ. unaffected (IsAffected.declared slot differ));
        headings = stable_heading (Sig before.items name) (Sig after.items name) (λ differ. unaffected (IsAffected.headed differ));
        heads_one =
            unbound_heads change.slot.0 before.items (tree.once change.slot.0) change.what name
            (λ there. unaffected (IsAffected.stood there));
        heads_other =
            unbound_heads change.slot.0 after.items (next.once change.slot.0) change.what name
            (λ there. unaffected (IsAffected.stands there));
      }
    where
      unaffected : IsAffected before.items after.items change name → ⊥
      unaffected is = not_due (IsDue.affected name is (mention_placed name at after.items phrase found among))

  turned : (name : List ℕ) → Left change.slot.0 before.items after.items name → Left change.slot.0 after.items before.items name
  turned name is =
      record { items = λ slot. sym (is.items slot); headings = sym is.headings; heads_one = is.heads_other; heads_other = is.heads_one }

  -- either no declaration was changed, or the place is no list of the procedure
  lists_by : {Quiet Elsewhere : Type 0} → (binds_at before.items change.slot.0 ≡ false → binds_at after.items change.slot.0 ≡ false → Quiet)
      → ((Contains (procedure_lists after.items change.procedure.0) at → ⊥) → Elsewhere) → Quiet ⊎ Elsewhere
  lists_by {Quiet} {Elsewhere} quiet apart = by (changes_binding before.items after.items change.slot.0) refl
    where
      by : (b : Bool) → changes_binding before.items after.items change.slot.0 ≡ b → Quiet ⊎ Elsewhere
      by true e = inr (apart (λ there. not_due (IsDue.listed e there)))
      by false e =
          let none = or_true (binds_at before.items change.slot.0) (binds_at after.items change.slot.0) e in
          inl (quiet none.0 none.1)

  -- ---- each kind of change

  -- one node comes for a node, in its slot
  comes_one : (node : PlainNode) → node.label.slot ≡ change.slot.0 → (program : Forest)
      → AtSlot change.slot.0 (ComesOne change.slot.0 (λ other. node ∷ [])) program
  comes_one node own program =
      at_every change.slot.0 (ComesOne change.slot.0 (λ other. node ∷ [])) (λ other here. (node, refl, own)) program

  -- an item stands in no list of the procedure, or in another procedure
  elsewhere_after : (one other : Forest) → AllItems (IsWithin change.slot.0 change.procedure.0) one
      → (Contains (procedure_lists one change.procedure.0) at → ⊥) ⊎ (Contains (procedure_lists other change.procedure.0) at → ⊥)
      → IsElsewhere change.slot.0 at one other
  elsewhere_after one other within unlisted = record { procedure = change.procedure.0; within = within; unlisted = unlisted }

  -- another node
  of_node : (node : PlainNode) → node.label.slot ≡ change.slot.0
      → roomless after.items ≡ roomless (edit_slot change.slot.0 (λ other. node ∷ []) before.items)
      → (Contains (changed_places What.Node change.slot.0 after.items) at → ⊥)
      → (Contains (changed_places What.Node change.slot.0 before.items) at → ⊥)
      → procedure_of after.items change.slot.0 ≡ Some change.procedure.0
      → get (Verdicts after.items) at ≡ get (Verdicts before.items) at
  of_node node own same not_in not_gone within =
      sym
      (verdict_stays room change.slot.0 (λ other. node ∷ []) at before.items after.items same tree.once next.once fits
      (λ phrase found name among.
      left phrase
      (sym
      (phrase_other room change.slot.0 (λ other. node ∷ []) at before.items after.items same tree.once next.once fits)
      ∙ found)
      name among)
      (lists_by
      (λ one other.
      record {
        one_gives = gives_none change.slot.0 before.items (tree.once change.slot.0) one;
        other_gives = gives_none change.slot.0 after.items (next.once change.slot.0) other;
      })
      (λ unlisted.
      elsewhere_after before.items after.items
      (within_other change.slot.0 (λ other. node ∷ []) change.procedure.0 before.items (tree.once change.slot.0)
      (comes_one node own before.items)
      (sym
      (procedure_of_alike after.items (edit_slot change.slot.0 (λ other. node ∷ []) before.items) change.slot.0 same)
      ∙ within))
      (inr unlisted))))
    where
      nothing : AtSlot change.slot.0 (λ other. phrase_in at (forest (node ∷ [])) ≡ None) before.items
      nothing =
          weaker change.slot.0 (λ other. AllOf (λ new. phrase_in at (forest (new ∷ [])) ≡ None) (node ∷ []))
          (λ other. phrase_in at (forest (node ∷ [])) ≡ None) (λ other here is. is.0) before.items
          (at_edited change.slot.0 (λ other. node ∷ []) (λ new. phrase_in at (forest (new ∷ [])) ≡ None) before.items
          (tree.once change.slot.0) (at_every change.slot.0 (λ other. AreIn change.slot.0 (node ∷ [])) (λ other here. (own, tt)) before.items)
          (at_alike change.slot.0 (λ new. phrase_in at (forest (new ∷ [])) ≡ None) (λ new. phrase_in at (forest (new ∷ [])) ≡ None)
          (λ one other is none.
          phrase_alike at (forest (other ∷ [])) (forest (one ∷ [])) (ap (λ (n : PlainNode). Forest.cons n.label n.inner Forest.nil) (sym is)) ∙ none)
          after.items (edit_slot change.slot.0 (λ other. node ∷ []) before.items) same
          (whole_unlisted change.slot.0 after.items (next.once change.slot.0) at not_in)))

      fits : AtSlot change.slot.0 (Fits change.slot.0 (λ other. node ∷ []) at) before.items
      fits =
          weaker change.slot.0 (λ other. (phrase_in at (forest (other ∷ [])) ≡ None) × (phrase_in at (forest (node ∷ [])) ≡ None))
          (Fits change.slot.0 (λ other. node ∷ []) at)
          (λ other here is. record { in_slot = (own, tt); fits = inl is }) before.items
          (both change.slot.0 (λ other. phrase_in at (forest (other ∷ [])) ≡ None) (λ other. phrase_in at (forest (node ∷ [])) ≡ None) before.items
          (whole_unlisted change.slot.0 before.items (tree.once change.slot.0) at not_gone) nothing)

  -- an item that went
  of_dropped : roomless after.items ≡ roomless (edit_slot change.slot.0 (λ other. []) before.items)
      → (Contains (changed_places What.Dropped change.slot.0 before.items) at → ⊥)
      → procedure_of before.items change.slot.0 ≡ Some change.procedure.0
      → get (Verdicts after.items) at ≡ get (Verdicts before.items) at
  of_dropped same not_gone within =
      sym
      (verdict_stays room change.slot.0 (λ other. []) at before.items after.items same tree.once next.once fits
      (λ phrase found name among.
      left phrase
      (sym (phrase_other room change.slot.0 (λ other. []) at before.items after.items same tree.once next.once fits) ∙ found)
      name among)
      (lists_by
      (λ one other.
      record {
        one_gives = gives_none change.slot.0 before.items (tree.once change.slot.0) one;
        other_gives = gives_none change.slot.0 after.items (next.once change.slot.0) other;
      })
      (λ unlisted.
      elsewhere_after before.items after.items (within_one change.slot.0 change.procedure.0 before.items (tree.once change.slot.0) within)
      (inr unlisted))))
    where
      fits : AtSlot change.slot.0 (Fits change.slot.0 (λ other. []) at) before.items
      fits =
          weaker change.slot.0 (λ other. phrase_in at (forest (other ∷ [])) ≡ None) (Fits change.slot.0 (λ other. []) at)
          (λ other here is. record { in_slot = tt; fits = inl (is, refl) }) before.items
          (whole_unlisted change.slot.0 before.items (tree.once change.slot.0) at not_gone)

  -- an item that came
  of_added : roomless before.items ≡ roomless (edit_slot change.slot.0 (λ other. []) after.items)
      → (Contains (changed_places What.Added change.slot.0 after.items) at → ⊥)
      → procedure_of after.items change.slot.0 ≡ Some change.procedure.0
      → get (Verdicts after.items) at ≡ get (Verdicts before.items) at
  of_added same not_in within =
      verdict_stays room change.slot.0 (λ other. []) at after.items before.items same next.once tree.once fits
      (λ phrase found name among. turned name (left phrase found name among))
      (lists_by
      (λ one other.
      record {
        one_gives = gives_none change.slot.0 after.items (next.once change.slot.0) other;
        other_gives = gives_none change.slot.0 before.items (tree.once change.slot.0) one;
      })
      (λ unlisted.
      elsewhere_after after.items before.items (within_one change.slot.0 change.procedure.0 after.items (next.once change.slot.0) within)
      (inl unlisted)))
    where
      fits : AtSlot change.slot.0 (Fits change.slot.0 (λ other. []) at) after.items
      fits =
          weaker change.slot.0 (λ other. phrase_in at (forest (other ∷ [])) ≡ None) (Fits change.slot.0 (λ other. []) at)
          (λ other here is. record { in_slot = tt; fits = inl (is, refl) }) after.items
          (whole_unlisted change.slot.0 after.items (next.once change.slot.0) at not_in)

  -- one part
  of_part : (part : ℕ) (place : Option PlainPhrase)
      → roomless after.items ≡ roomless (edit_slot change.slot.0 (λ node. with_part part place node ∷ []) before.items)
      → (Contains (changed_places (What.Part part) change.slot.0 after.items) at → ⊥)
      → (Contains (changed_places (What.Part part) change.slot.0 before.items) at → ⊥)
      → procedure_of after.items change.slot.0 ≡ Some change.procedure.0
      → get (Verdicts after.items) at ≡ get (Verdicts before.items) at
  of_part part place same not_in not_gone within =
      sym
      (verdict_stays room change.slot.0 (λ node. with_part part place node ∷ []) at before.items after.items same tree.once next.once fits
      (λ phrase found name among.
      left phrase
      (sym
      (phrase_other room change.slot.0 (λ node. with_part part place node ∷ []) at before.items after.items same tree.once next.once fits)
      ∙ found)
      name among)
      (lists_by
      (λ one other.
      record {
        one_gives = gives_none change.slot.0 before.items (tree.once change.slot.0) one;
        other_gives = gives_none change.slot.0 after.items (next.once change.slot.0) other;
      })
      (λ unlisted.
      elsewhere_after before.items after.items
      (within_other change.slot.0 (λ node. with_part part place node ∷ []) change.procedure.0 before.items (tree.once change.slot.0)
      (at_every change.slot.0 (ComesOne change.slot.0 (λ node. with_part part place node ∷ []))
      (λ node here. (with_part part place node, refl, here)) before.items)
      (sym
      (procedure_of_alike after.items (edit_slot change.slot.0 (λ node. with_part part place node ∷ []) before.items) change.slot.0 same)
      ∙ within))
      (inr unlisted))))
    where
      -- the place is none of the part, or nothing stands there
      IsOther : PlainNode → Type 0
      IsOther node = Contains (filled_place (phrase_at change.slot.0 part) (part_at node.label.parts part)) at → ⊥

      come : AtSlot change.slot.0 (λ node. IsOther (with_part part place node)) before.items
      come =
          weaker change.slot.0 (λ node. AllOf IsOther (with_part part place node ∷ [])) (λ node. IsOther (with_part part place node))
          (λ node here is. is.0) before.items
          (at_edited change.slot.0 (λ node. with_part part place node ∷ []) IsOther before.items (tree.once change.slot.0)
          (at_every change.slot.0 (λ node. AreIn change.slot.0 (with_part part place node ∷ [])) (λ node here. (here, tt)) before.items)
          (at_alike change.slot.0 IsOther IsOther
          (λ one other is none there.
          none
          (subst
          (λ (n : PlainNode). Contains (filled_place (phrase_at change.slot.0 part) (part_at n.label.parts part)) at) (sym is) there))
          after.items (edit_slot change.slot.0 (λ node. with_part part place node ∷ []) before.items) same
          (part_unlisted change.slot.0 after.items (next.once change.slot.0) at part not_in)))

      empty : (parts : List (Option PlainPhrase)) → (Contains (filled_place at (part_at parts part)) at → ⊥) → part_at parts part ≡ None
      empty parts none = by (part_at parts part) none
        where
          by : (o : Option PlainPhrase) → (Contains (filled_place at o) at → ⊥) → o ≡ None
          by None unlisted = refl
          by (Some phrase) unlisted = absurd (unlisted (0, omega arith, refl))

      other_part : (k : ℕ) (parts : List (Option PlainPhrase)) (n : ℕ) → (k ≡ n → ⊥) → slice_get parts k ≡ slice_get (slice_set parts n place) k
      other_part k [] n apart = refl
      other_part zero (p ∷ parts) zero apart = absurd (apart refl)
      other_part zero (p ∷ parts) (suc n) apart = refl
      other_part (suc k) (p ∷ parts) zero apart = refl
      other_part (suc k) (p ∷ parts) (suc n) apart = other_part k parts n (λ e. apart (ap suc e))

      stays_there : (node : PlainNode) → node.label.slot ≡ change.slot.0 → IsOther node → IsOther (with_part part place node)
          → own_phrase at node.label ≡ own_phrase at (with_part part place node).label
      stays_there node here one other = by (at.slot.0 == node.label.slot) refl
        where
          by : (b : Bool) → (at.slot.0 == node.label.slot) ≡ b
              → (if b then part_at node.label.parts at.part else None)
              ≡ (if b then part_at (slice_set node.label.parts part place) at.part else None)
          by false e = refl
          by true e = parts (at.part == part) refl
            where
              own : at.slot.0 ≡ change.slot.0
              own = eqb-true at.slot.0 node.label.slot e ∙ here

              parts : (b : Bool) → (at.part == part) ≡ b
                  → part_at node.label.parts at.part ≡ part_at (slice_set node.label.parts part place) at.part
              parts false f =
                  ap option_flatten
                  (other_part at.part node.label.parts part (λ same_part. true≢false (sym (eq-eqb at.part part same_part) ∙ f)))
              parts true f =
                  let is : at.part ≡ part = eqb-true at.part part f in
                  let place_is : phrase_at change.slot.0 part ≡ at = (λ i. phrase_at (sym own i) (sym is i)) in
                  ap (part_at node.label.parts) is
                  ∙ empty node.label.parts
                  (subst (λ (p : PhraseAt). Contains (filled_place p (part_at node.label.parts part)) at → ⊥) place_is one)
                  ∙ sym
                  (ap (part_at (slice_set node.label.parts part place)) is
                  ∙ empty (slice_set node.label.parts part place)
                  (subst (λ (p : PhraseAt). Contains (filled_place p (part_at (slice_set node.label.parts part place) part)) at → ⊥) place_is other))

      fits : AtSlot change.slot.0 (Fits change.slot.0 (λ node. with_part part place node ∷ []) at) before.items
      fits =
          weaker change.slot.0 (λ node. IsOther node × IsOther (with_part part place node))
          (Fits change.slot.0 (λ node. with_part part place node ∷ []) at)
          (λ node here is.
          record {
            in_slot = (here, tt);
            fits =
                inr record {
                  new = with_part part place node;
                  only = refl;
                  inside = refl;
                  phrase = stays_there node here is.0 is.1;
                };
          })
          before.items
          (both change.slot.0 IsOther (λ node. IsOther (with_part part place node)) before.items
          (part_unlisted change.slot.0 before.items (tree.once change.slot.0) at part not_gone) come)

-- ---- the law

undue : (room : ChecksIgnoreRoom) (before after : PlainTree) (change : Change) (at : PhraseAt) → IsTree before → IsTree after
    → (IsDue before.items after.items change at → ⊥) → (what : What) → change.what ≡ what → DifferBy what change.slot.0 before.items after.items
    → procedure_of (changed_in what before.items after.items) change.slot.0 ≡ Some change.procedure.0
    → (Contains (changed_places what change.slot.0 before.items) at → ⊥)
    → get (Verdicts after.items) at ≡ get (Verdicts before.items) at
undue room before after change at tree next not_due What.Node is by within not_gone =
    of_node room before after change at tree next not_due by.0 by.1 by.2
    (λ there. not_due (IsDue.put_in (subst (λ (w : What). Contains (changed_places w change.slot.0 after.items) at) (sym is) there))) not_gone within
undue room before after change at tree next not_due (What.Part part) is by within not_gone =
    of_part room before after change at tree next not_due part by.0 by.1
    (λ there. not_due (IsDue.put_in (subst (λ (w : What). Contains (changed_places w change.slot.0 after.items) at) (sym is) there))) not_gone within
undue room before after change at tree next not_due What.Added is by within not_gone =
    of_added room before after change at tree next not_due by.1
    (λ there. not_due (IsDue.put_in (subst (λ (w : What). Contains (changed_places w change.slot.0 after.items) at) (sym is) there))) within
undue room before after change at tree next not_due What.Dropped is by within not_gone =
    of_dropped room before after change at tree next not_due by.1 not_gone within

pub undue_verdicts_stay : ChecksIgnoreRoom → VerdictsStayUnlessDue
undue_verdicts_stay room before after change at tree next differs not_due not_gone =
    undue room before after change at tree next not_due change.what refl differs.by differs.within not_gone
