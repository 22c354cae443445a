-- What the effective headings of names are, noted name after name, and found item after item.
use Rattle.std.proofs.Common.{◌≡◌, ◌⊎◌, ℕ, ◌+◌, Bool, true, false, cond, List, [], ◌∷◌, ◌++◌, drop, is_some, Option, Some, None, option_map, inl, inr, refl, sym, ap, ◌∙◌, true≢false}
use Rattle.std.specs.Prelude.{◌&&◌, ◌||◌, bytes_eq, find, if◌then◌else◌, option_and_then}
use Rattle.std.specs.List.{list_any}
use Rattle.std.specs.Map.{lookup}
use Rattle.std.specs.Option.{option_map_or, option_or}
use Rattle.std.proofs.lemmas.Slice.Eq.{bytes_eq-Decides}
use Rattle.plcs_base.specs.declared.place.Slot.{Slot}
use Rattle.template_tree.specs.Checks.Environment.{Heading, Sig, Signature, heading_of, may_be_called, signature_of}
use Rattle.template_tree.specs.Programs.PlainTree.{Forest, PlainNode}
use Rattle.decl_table.specs.declared.heading_changes.HeadingChange.{HeadingChange}
use Rattle.decl_table.specs.Private.HeadingChangesView.{IsHeadingNoted, MayBeNoted, NotesHeadings, plain_heading_changes}
use Rattle.decl_table.proofs.AddedUses.{same_name}
use Rattle.decl_table.proofs.EditedHeadings.{first_headed, head, headed}

-- one of the changes has the name where it is found
pub has_change : (name : List ℕ) (changes : List HeadingChange)
    → list_any (λ (change : HeadingChange). bytes_eq name change.name) changes ≡ is_some (lookup (bytes_eq name) (plain_heading_changes changes))
has_change name [] = refl
has_change name (change ∷ changes) = by (bytes_eq name change.name) (has_change name changes)
  where
    by : (here : Bool)
        → list_any (λ (c : HeadingChange). bytes_eq name c.name) changes ≡ is_some (lookup (bytes_eq name) (plain_heading_changes changes))
        → (here || list_any (λ (c : HeadingChange). bytes_eq name c.name) changes)
        ≡ is_some
        (cond here (Some (option_map (λ (slot : Slot). slot.0) change.slot)) (lookup (bytes_eq name) (plain_heading_changes changes)))
    by true again = refl
    by false again = again

-- the change of a name is found in the pairs
abbrev slot_in : HeadingChange → Option ℕ
slot_in change = option_map (λ (slot : Slot). slot.0) change.slot

found_in : (name : List ℕ) (changes : List HeadingChange)
    → option_map slot_in (find (λ (change : HeadingChange). bytes_eq name change.name) changes)
    ≡ lookup (bytes_eq name) (plain_heading_changes changes)
found_in name [] = refl
found_in name (change ∷ rest) = by (bytes_eq name change.name) (found_in name rest)
  where
    by : (here : Bool)
        → option_map slot_in (find (λ (c : HeadingChange). bytes_eq name c.name) rest) ≡ lookup (bytes_eq name) (plain_heading_changes rest)
        → option_map slot_in (cond here (Some change) (find (λ (c : HeadingChange). bytes_eq name c.name) rest))
        ≡ cond here (Some (slot_in change)) (lookup (bytes_eq name) (plain_heading_changes rest))
    by true later = refl
    by false later = later

pub found_change : (name : List ℕ) (changes : List HeadingChange) (found : Option HeadingChange)
    → found ≡ find (λ (change : HeadingChange). bytes_eq name change.name) changes
    → option_map (λ (change : HeadingChange). option_map (λ (slot : Slot). slot.0) change.slot) found ≡ lookup (bytes_eq name) (plain_heading_changes changes)
found_change name changes found is = ap (option_map slot_in) is ∙ found_in name changes

-- ---- name after name

module _ (program : Forest) where
  pub notes_there : (old : List (List ℕ × Option ℕ)) (name : List ℕ) → is_some (lookup (bytes_eq name) old) ≡ true
      → NotesHeadings (bytes_eq name) program old old
  notes_there old name there = record {
    all = λ may. may;
    these = λ may other same. by other same (may other);
    others = λ other noted. noted;
  }
    where
      by : (other : List ℕ) → bytes_eq name other ≡ true → ((lookup (bytes_eq other) old ≡ None) ⊎ IsHeadingNoted program old other)
          → IsHeadingNoted program old other
      by other same (inl none) =
          absurd
          (true≢false
          (sym there ∙ ap (λ n. is_some (lookup (bytes_eq n) old)) ((bytes_eq-Decides name other).0 same) ∙ ap is_some none))
      by other same (inr noted) = noted

  -- what is found with one more change behind the others
  found_last : (q : List ℕ) (old : List (List ℕ × Option ℕ)) (change : List ℕ × Option ℕ)
      → lookup (bytes_eq q) (old ++ (change ∷ [])) ≡ option_or (lookup (bytes_eq q) old) (cond (bytes_eq q change.0) (Some change.1) None)
  found_last q [] change = refl
  found_last q (first ∷ old) change = by (bytes_eq q first.0) (found_last q old change)
    where
      by : (here : Bool)
          → lookup (bytes_eq q) (old ++ (change ∷ [])) ≡ option_or (lookup (bytes_eq q) old) (cond (bytes_eq q change.0) (Some change.1) None)
          → cond here (Some first.1) (lookup (bytes_eq q) (old ++ (change ∷ [])))
          ≡ option_or (cond here (Some first.1) (lookup (bytes_eq q) old)) (cond (bytes_eq q change.0) (Some change.1) None)
      by true again = refl
      by false again = again

  pub notes_one : (old new : List (List ℕ × Option ℕ)) (name key : List ℕ) (value : Option ℕ) → key ≡ name
      → new ≡ old ++ ((key, value) ∷ []) → is_some (lookup (bytes_eq name) old) ≡ false
      → value ≡ option_map (λ (s : Signature). s.slot) (Sig program name) → NotesHeadings (bytes_eq name) program old new
  notes_one old new name key value key_is new_is free right = record {
    all = λ may other. each other (bytes_eq name other) refl (may other);
    these = λ may other same. here other same;
    others = λ other noted. stay other noted;
  }
    where
      absent : (o : Option (Option ℕ)) → is_some o ≡ false → o ≡ None
      absent None e = refl
      absent (Some v) e = absurd (true≢false e)

      found : (q : List ℕ) → lookup (bytes_eq q) new ≡ option_or (lookup (bytes_eq q) old) (cond (bytes_eq name q) (Some value) None)
      found q =
          ap (lookup (bytes_eq q)) new_is
          ∙ found_last q old (key, value)
          ∙ ap (λ b. option_or (lookup (bytes_eq q) old) (cond b (Some value) None)) (ap (bytes_eq q) key_is ∙ same_name q name)

      here : (other : List ℕ) → bytes_eq name other ≡ true → IsHeadingNoted program new other
      here other same =
          let is : name ≡ other = (bytes_eq-Decides name other).0 same in
          found other
          ∙ ap (λ o. option_or o (cond (bytes_eq name other) (Some value) None))
          (ap (λ n. lookup (bytes_eq n) old) (sym is) ∙ absent (lookup (bytes_eq name) old) free)
          ∙ ap (λ b. let o : Option (Option ℕ) = cond b (Some value) None in o) same
          ∙ ap (λ v. Some v) right
          ∙ ap (λ n. Some (option_map (λ (s : Signature). s.slot) (Sig program n))) is

      stay : (other : List ℕ) → IsHeadingNoted program old other → IsHeadingNoted program new other
      stay other noted = found other ∙ ap (λ o. option_or o (cond (bytes_eq name other) (Some value) None)) noted

      each : (other : List ℕ) (own : Bool) → bytes_eq name other ≡ own
          → ((lookup (bytes_eq other) old ≡ None) ⊎ IsHeadingNoted program old other)
          → (lookup (bytes_eq other) new ≡ None) ⊎ IsHeadingNoted program new other
      each other true own may = inr (here other own)
      each other false own (inl none) =
          inl
          (found other
          ∙ ap (λ o. option_or o (cond (bytes_eq name other) (Some value) None)) none
          ∙ ap (λ b. let o : Option (Option ℕ) = cond b (Some value) None in o) own)
      each other false own (inr noted) = inr (stay other noted)

  -- no name
  pub notes_nothing : (test : List ℕ → Bool) (old : List (List ℕ × Option ℕ)) → ((name : List ℕ) → test name ≡ false)
      → NotesHeadings test program old old
  notes_nothing test old none = record {
    all = λ may. may;
    these = λ may name there. absurd (true≢false (sym there ∙ none name));
    others = λ name noted. noted;
  }

  -- some names and then others
  pub notes_both : (one other all : List ℕ → Bool) (old mid new : List (List ℕ × Option ℕ)) → NotesHeadings one program old mid
      → NotesHeadings other program mid new → ((name : List ℕ) → all name ≡ (one name || other name)) → NotesHeadings all program old new
  notes_both one other all old mid new first second is = record {
    all = λ may. second.all (first.all may);
    these = λ may name among. by may name (one name) refl (sym (is name) ∙ among);
    others = λ name noted. second.others name (first.others name noted);
  }
    where
      by : MayBeNoted program old → (name : List ℕ) (own : Bool) → one name ≡ own → (one name || other name) ≡ true
          → IsHeadingNoted program new name
      by may name true own among = second.others name (first.these may name own)
      by may name false own among = second.these (first.all may) name (sym (ap (λ b. b || other name) own) ∙ among)

  -- those of one test and those of another
  pub noted_two : (one other : List ℕ → Bool) (old mid new : List (List ℕ × Option ℕ)) → MayBeNoted program old
      → NotesHeadings one program old mid → NotesHeadings other program mid new
      → (name : List ℕ) → (one name || other name) ≡ true → IsHeadingNoted program new name
  noted_two one other old mid new may first second name stands =
      (notes_both one other (λ n. one n || other n) old mid new first second (λ n. refl)).these may name stands

  -- with the names that are left, all are noted
  abbrev pub LeavesNames : (rest all : List (List ℕ)) (first now : List (List ℕ × Option ℕ)) → Type 0
  LeavesNames rest all first now =
      (new : List (List ℕ × Option ℕ)) → NotesHeadings (λ name. list_any (bytes_eq name) rest) program now new
      → NotesHeadings (λ name. list_any (bytes_eq name) all) program first new

  pub leaves_next : (names : List (List ℕ)) (k : ℕ) (name : List ℕ) (all : List (List ℕ)) (first now next : List (List ℕ × Option ℕ))
      → drop k names ≡ name ∷ drop (k + 1) names → NotesHeadings (bytes_eq name) program now next
      → LeavesNames (drop k names) all first now → LeavesNames (drop (k + 1) names) all first next
  leaves_next names k name all first now next turn notes leaves =
      λ new rest.
      leaves new
      (notes_both (bytes_eq name) (λ n. list_any (bytes_eq n) (drop (k + 1) names)) (λ n. list_any (bytes_eq n) (drop k names)) now next new notes
      rest
      (λ n. ap (list_any (bytes_eq n)) turn ∙ ap (λ b. b || list_any (bytes_eq n) (drop (k + 1) names)) (same_name n name)))

-- ---- item after item

-- a name that may not be called has no heading
pub never_headed : (name : List ℕ) (items : Forest) → may_be_called name ≡ false → headed name items ≡ None
never_headed name Forest.nil never = refl
never_headed name (Forest.cons label inner rest) never =
    let node : PlainNode = record { label = label; inner = inner } in
    first_headed name label inner rest
    ∙ ap (λ o. option_or o (headed name rest)) (by node (heading_of label.kind label.parts))
    ∙ never_headed name rest never
  where
    and_false : (a b : Bool) → b ≡ false → (a && b) ≡ false
    and_false true b e = e
    and_false false b e = refl

    by : (node : PlainNode) (heading : Option Heading)
        → option_map (λ (s : Signature). s.slot)
        (option_and_then (λ (h : Heading). if bytes_eq name h.name && may_be_called name then Some (signature_of node h) else None) heading)
        ≡ None
    by node None = refl
    by node (Some h) =
        ap (λ (b : Bool). option_map (λ (s : Signature). s.slot) (if b then Some (signature_of node h) else None))
        (and_false (bytes_eq name h.name) (may_be_called name) never)

-- the heading of a node, where the name may be called
pub head_is : (name : List ℕ) (node : PlainNode) → may_be_called name ≡ true
    → head name node
    ≡ cond (option_map_or (λ (h : Heading). bytes_eq name h.name) (heading_of node.label.kind node.label.parts) false) (Some node.label.slot) None
head_is name node called = by (heading_of node.label.kind node.label.parts)
  where
    both : (a b : Bool) (h : Heading) → b ≡ true
        → option_map (λ (s : Signature). s.slot) (if a && b then Some (signature_of node h) else None) ≡ cond a (Some node.label.slot) None
    both true true h e = refl
    both true false h e = absurd (true≢false (sym e))
    both false b h e = refl

    by : (heading : Option Heading)
        → option_map (λ (s : Signature). s.slot)
        (option_and_then (λ (h : Heading). if bytes_eq name h.name && may_be_called name then Some (signature_of node h) else None) heading)
        ≡ cond (option_map_or (λ (h : Heading). bytes_eq name h.name) heading false) (Some node.label.slot) None
    by None = refl
    by (Some h) = both (bytes_eq name h.name) (may_be_called name) h called

-- the heading among nodes of which the first is this
pub headed_turn : (name : List ℕ) (node : PlainNode) (all rest : Forest) (here : Bool) → all ≡ Forest.cons node.label node.inner rest
    → may_be_called name ≡ true
    → here ≡ option_map_or (λ (h : Heading). bytes_eq name h.name) (heading_of node.label.kind node.label.parts) false
    → headed name all ≡ option_or (cond here (Some node.label.slot) None) (headed name rest)
headed_turn name node all rest here is called told =
    ap (headed name) is
    ∙ first_headed name node.label node.inner rest
    ∙ ap (λ o. option_or o (headed name rest)) (head_is name node called ∙ ap (λ b. cond b (Some node.label.slot) None) (sym told))
