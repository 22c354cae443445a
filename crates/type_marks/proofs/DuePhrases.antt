-- A phrase stands at each place that is due for a check after an edit, and none where one went that isn't due.
use Rattle.std.proofs.Common.{◌≡◌, ℕ, zero, suc, ◌+◌, ◌<◌, ◌≤◌, Bool, true, false, List, [], ◌∷◌, ◌++◌, Option, Some, None, option_map, refl, ap, sym, subst, ◌∙◌, ◌⊎◌, inl, inr, arith, eq-eqb, eqb-true, ne_eqb, true≢false}
use Rattle.std.specs.Prelude.{◌==◌, ◌||◌, bytes_eq, Contains, if◌then◌else◌, is_some, slice_set}
use Rattle.std.specs.FinMap.{find, get, get-from_entries}
use Rattle.std.specs.List.{list_any}
use lib.ListN.{get_or}
use Rattle.std.specs.Option.{option_map_or, option_or}
use Rattle.std.proofs.lemmas.List.Elements.{Contains-append_cases}
use Rattle.std.proofs.lemmas.Option.{none-some}
use Rattle.plcs_base.specs.Mark.{phrase_cmp}
use Rattle.plcs_base.specs.PlaceOrder.{places_total}
use Rattle.plcs_base.specs.declared.mark.MarkKind.{MarkKind}
use Rattle.plcs_base.specs.declared.place.PhraseAt.{PhraseAt}
use Rattle.plcs_grammar.specs.PlainPhrase.{PlainPhrase}
use Rattle.plcs_grammar.specs.Template.{row_of}
use Rattle.template_tree.specs.declared.change.Change.{Change}
use Rattle.template_tree.specs.declared.change.What.{What}
use Rattle.template_tree.specs.Checks.Environment.{procedure_at}
use Rattle.template_tree.specs.Checks.Marks.{Verdicts, node_verdicts, procedure_verdicts, surroundings}
use Rattle.template_tree.specs.Checks.Mention.{mention, mentioned, mentions, part_mentions, phrase_at}
use Rattle.template_tree.specs.Checks.Verdict.{verdict}
use Rattle.template_tree.specs.Positions.Place.{PlainPlace, Site, begin, end_at, in_turn, inner_end, place_at, site, site_among}
use Rattle.template_tree.specs.Programs.Part.{part_at}
use Rattle.template_tree.specs.Programs.PlainTree.{Forest, Label, PlainNode, PlainTree, forest}
use Rattle.decl_table.specs.Due.{IsDue, all_list_places, changed_places, filled_place, filled_places, is_name_list, list_place, list_places, phrase_places, procedure_lists}
use Rattle.type_marks.proofs.FoundPhrases.{nodes_found, own_here, own_phrase, phrase_in, phrase_join}
use Rattle.type_marks.proofs.PlacedVerdicts.{find_both}

some_or : {A : Type 0} (a b : Option A) → is_some (option_or a b) ≡ (is_some a || is_some b)
some_or None b = refl
some_or (Some x) b = refl

some_map : {A B : Type 0} (f : A → B) (a : Option A) → is_some (option_map f a) ≡ is_some a
some_map f None = refl
some_map f (Some x) = refl

left_some : (a b : Bool) → a ≡ true → (a || b) ≡ true
left_some a b is = ap (λ (x : Bool). x || b) is

right_some : (a b : Bool) → b ≡ true → (a || b) ≡ true
right_some true b is = refl
right_some false b is = is

-- ---- a verdict is kept where a phrase stands

kept_in : (program : Forest) (at : PhraseAt) (items : Forest)
    → is_some (find phrase_cmp at (procedure_verdicts program items)) ≡ is_some (phrase_in at items)
kept_in program at Forest.nil = refl
kept_in program at (Forest.cons label inner rest) =
    let item : PlainNode = record { label = label; inner = inner } in
    let own = node_verdicts program item (Forest.cons label inner Forest.nil) in
    ap is_some (find_both at own (procedure_verdicts program rest))
    ∙ some_or (find phrase_cmp at own) (find phrase_cmp at (procedure_verdicts program rest))
    ∙ (λ i.
    (ap is_some (nodes_found program item at (Forest.cons label inner Forest.nil))
    ∙ some_map (verdict (surroundings program item at.slot.0)) (phrase_in at (Forest.cons label inner Forest.nil))) i
    || kept_in program at rest i)
    ∙ sym (some_or (phrase_in at (Forest.cons label inner Forest.nil)) (phrase_in at rest))
    ∙ ap is_some (sym (phrase_join at (Forest.cons label inner Forest.nil) rest))

pub verdict_kept : (program : Forest) (at : PhraseAt) → is_some (get (Verdicts program) at) ≡ is_some (phrase_in at program)
verdict_kept program at =
    ap is_some (get-from_entries places_total (procedure_verdicts program program) at) ∙ kept_in program at program

-- ---- places that are listed of each part of a node, by what stands there

-- no element is in the empty list
pub contains_none : {A : Type 0} (x : A) → Contains [] x → ⊥
contains_none x there = omega (arith, there.1)

module _ (listed : PhraseAt → Option PlainPhrase → List PhraseAt) (walk : ℕ → ℕ → List (Option PlainPhrase) → List PhraseAt)
    (ends : (slot part : ℕ) → walk slot part [] ≡ [])
    (goes : (slot part : ℕ) (place : Option PlainPhrase) (parts : List (Option PlainPhrase))
    → walk slot part (place ∷ parts) ≡ listed (phrase_at slot part) place ++ walk slot (part + 1) parts)
    (own : (at place : PhraseAt) (o : Option PlainPhrase) → Contains (listed at o) place → (at ≡ place) × (is_some o ≡ true)) where
  -- the slot is the node's, and a phrase stands in the part
  pub record IsFilledAt (at : PhraseAt) (slot part : ℕ) (parts : List (Option PlainPhrase)) : Type 0 where
    pub slot_is : at.slot.0 ≡ slot
    pub number : ℕ
    pub part_is : at.part ≡ part + number
    pub filled : is_some (part_at parts number) ≡ true

  part_filled : (at : PhraseAt) (slot part : ℕ) (parts : List (Option PlainPhrase)) → Contains (walk slot part parts) at
      → IsFilledAt at slot part parts
  part_filled at slot part [] there =
      absurd (contains_none at (subst (λ (places : List PhraseAt). Contains places at) (ends slot part) there))
  part_filled at slot part (place ∷ parts) there =
      by
      (Contains-append_cases (listed (phrase_at slot part) place) (walk slot (part + 1) parts) at
      (subst (λ (places : List PhraseAt). Contains places at) (goes slot part place parts) there))
      (λ later. part_filled at slot (part + 1) parts later)
    where
      by : Contains (listed (phrase_at slot part) place) at ⊎ Contains (walk slot (part + 1) parts) at
          → (Contains (walk slot (part + 1) parts) at → IsFilledAt at slot (part + 1) parts)
          → IsFilledAt at slot part (place ∷ parts)
      by (inl here) again =
          let is = own (phrase_at slot part) at place here in
          record {
            slot_is = ap (λ (p : PhraseAt). p.slot.0) (sym is.0);
            number = 0;
            part_is = ap (λ (p : PhraseAt). p.part) (sym is.0) ∙ (omega arith);
            filled = is.1;
          }
      by (inr later) again =
          let is = again later in
          record { slot_is = is.slot_is; number = suc is.number; part_is = is.part_is ∙ (omega arith); filled = is.filled }

  pub label_filled : (at : PhraseAt) (label : Label) → Contains (walk label.slot 0 label.parts) at → is_some (own_phrase at label) ≡ true
  label_filled at label there =
      let is = part_filled at label.slot 0 label.parts there in
      let same : is.number ≡ at.part = omega (arith, is.part_is) in
      ap is_some (own_here at label is.slot_is)
      ∙ ap (λ (n : ℕ). is_some (part_at label.parts n)) (sym same)
      ∙ is.filled

  -- and of nodes, one after the other
  module _ (gather : Forest → List PhraseAt) (none : gather Forest.nil ≡ [])
      (gathers : (label : Label) (inner rest : Forest)
      → gather (Forest.cons label inner rest) ≡ walk label.slot 0 label.parts ++ (gather inner ++ gather rest)) where
    pub nodes_filled : (at : PhraseAt) (nodes : Forest) → Contains (gather nodes) at → is_some (phrase_in at nodes) ≡ true
    nodes_filled at Forest.nil there =
        absurd (contains_none at (subst (λ (places : List PhraseAt). Contains places at) none there))
    nodes_filled at (Forest.cons label inner rest) there =
        some_or (own_phrase at label) (option_or (phrase_in at inner) (phrase_in at rest))
        ∙ ap (λ (b : Bool). is_some (own_phrase at label) || b) (some_or (phrase_in at inner) (phrase_in at rest))
        ∙ by
        (Contains-append_cases (walk label.slot 0 label.parts) (gather inner ++ gather rest) at
        (subst (λ (places : List PhraseAt). Contains places at) (gathers label inner rest) there))
        (λ f. nodes_filled at inner f) (λ f. nodes_filled at rest f)
      where
        within : Contains (gather inner) at ⊎ Contains (gather rest) at
            → (Contains (gather inner) at → is_some (phrase_in at inner) ≡ true)
            → (Contains (gather rest) at → is_some (phrase_in at rest) ≡ true)
            → (is_some (phrase_in at inner) || is_some (phrase_in at rest)) ≡ true
        within (inl f) one other = left_some (is_some (phrase_in at inner)) (is_some (phrase_in at rest)) (one f)
        within (inr f) one other = right_some (is_some (phrase_in at inner)) (is_some (phrase_in at rest)) (other f)

        by : Contains (walk label.slot 0 label.parts) at ⊎ Contains (gather inner ++ gather rest) at
            → (Contains (gather inner) at → is_some (phrase_in at inner) ≡ true)
            → (Contains (gather rest) at → is_some (phrase_in at rest) ≡ true)
            → (is_some (own_phrase at label) || (is_some (phrase_in at inner) || is_some (phrase_in at rest))) ≡ true
        by (inl f) one other =
            left_some (is_some (own_phrase at label)) (is_some (phrase_in at inner) || is_some (phrase_in at rest)) (label_filled at label f)
        by (inr f) one other =
            right_some (is_some (own_phrase at label)) (is_some (phrase_in at inner) || is_some (phrase_in at rest))
            (within (Contains-append_cases (gather inner) (gather rest) at f) one other)

-- ---- the three kinds of lists

-- the one element of a list
pub contains_one : {A : Type 0} (x y : A) → Contains (x ∷ []) y → x ≡ y
contains_one x y there = by there.0 there.1 there.2
  where
    by : (k : ℕ) → k < 1 → get_or (x ∷ []) k y ≡ y → x ≡ y
    by zero few is = is
    by (suc k) few is = absurd (omega (arith, few))

filled_own : (at place : PhraseAt) (o : Option PlainPhrase) → Contains (filled_place at o) place → (at ≡ place) × (is_some o ≡ true)
filled_own at place None there = absurd (contains_none place there)
filled_own at place (Some phrase) there = (contains_one at place there, refl)

tested : (b : Bool) (at place : PhraseAt) → Contains (if b then at ∷ [] else []) place → at ≡ place
tested true at place there = contains_one at place there
tested false at place there = absurd (contains_none place there)

mention_own : (name : List ℕ) (at place : PhraseAt) (o : Option PlainPhrase) → Contains (mention name at o) place
    → (at ≡ place) × (is_some o ≡ true)
mention_own name at place None there = absurd (contains_none place there)
mention_own name at place (Some phrase) there = (tested (list_any (bytes_eq name) (mentioned phrase)) at place there, refl)

list_own : (at place : PhraseAt) (o : Option PlainPhrase) → Contains (list_place at o) place → (at ≡ place) × (is_some o ≡ true)
list_own at place None there = absurd (contains_none place there)
list_own at place (Some phrase) there = (tested (is_name_list phrase) at place there, refl)

pub placed_phrase : (at : PhraseAt) (nodes : Forest) → Contains (phrase_places nodes) at → is_some (phrase_in at nodes) ≡ true
placed_phrase at nodes there =
    nodes_filled filled_place filled_places (λ slot part. refl) (λ slot part place parts. refl) filled_own phrase_places refl
    (λ label inner rest. refl) at nodes there

mentioned_phrase : (name : List ℕ) (at : PhraseAt) (nodes : Forest) → Contains (mentions name nodes) at → is_some (phrase_in at nodes) ≡ true
mentioned_phrase name at nodes there =
    nodes_filled (mention name) (part_mentions name) (λ slot part. refl) (λ slot part place parts. refl) (mention_own name) (mentions name)
    refl (λ label inner rest. refl) at nodes there

listed_label : (at : PhraseAt) (label : Label) → Contains (list_places label.slot 0 label.parts) at → is_some (own_phrase at label) ≡ true
listed_label at label there =
    label_filled list_place list_places (λ slot part. refl) (λ slot part place parts. refl) list_own at label there

listed_phrase : (at : PhraseAt) (nodes : Forest) → Contains (all_list_places nodes) at → is_some (phrase_in at nodes) ≡ true
listed_phrase at Forest.nil there = absurd (contains_none at there)
listed_phrase at (Forest.cons label inner rest) there =
    some_or (own_phrase at label) (option_or (phrase_in at inner) (phrase_in at rest))
    ∙ by (Contains-append_cases (list_places label.slot 0 label.parts) (all_list_places rest) at there) (λ f. listed_phrase at rest f)
  where
    by : Contains (list_places label.slot 0 label.parts) at ⊎ Contains (all_list_places rest) at
        → (Contains (all_list_places rest) at → is_some (phrase_in at rest) ≡ true)
        → (is_some (own_phrase at label) || is_some (option_or (phrase_in at inner) (phrase_in at rest))) ≡ true
    by (inl f) again =
        left_some (is_some (own_phrase at label)) (is_some (option_or (phrase_in at inner) (phrase_in at rest))) (listed_label at label f)
    by (inr f) again =
        right_some (is_some (own_phrase at label)) (is_some (option_or (phrase_in at inner) (phrase_in at rest)))
        (some_or (phrase_in at inner) (phrase_in at rest) ∙ right_some (is_some (phrase_in at inner)) (is_some (phrase_in at rest)) (again f))

-- in the lists of the procedure in a slot
procedure_phrase : (at : PhraseAt) (slot : ℕ) (program : Forest) → Contains (procedure_lists program slot) at → is_some (phrase_in at program) ≡ true
procedure_phrase at slot Forest.nil there = absurd (contains_none at there)
procedure_phrase at slot (Forest.cons label inner rest) there =
    some_or (own_phrase at label) (option_or (phrase_in at inner) (phrase_in at rest))
    ∙ ap (λ (b : Bool). is_some (own_phrase at label) || b) (some_or (phrase_in at inner) (phrase_in at rest))
    ∙ by (label.slot == slot) there (λ f. procedure_phrase at slot rest f)
  where
    own : Contains (list_places label.slot 0 label.parts) at ⊎ Contains (all_list_places inner) at
        → (is_some (own_phrase at label) || (is_some (phrase_in at inner) || is_some (phrase_in at rest))) ≡ true
    own (inl f) =
        left_some (is_some (own_phrase at label)) (is_some (phrase_in at inner) || is_some (phrase_in at rest)) (listed_label at label f)
    own (inr f) =
        right_some (is_some (own_phrase at label)) (is_some (phrase_in at inner) || is_some (phrase_in at rest))
        (left_some (is_some (phrase_in at inner)) (is_some (phrase_in at rest)) (listed_phrase at inner f))

    by : (b : Bool)
        → Contains
        (option_map_or (λ (node : PlainNode). list_places node.label.slot 0 node.label.parts ++ all_list_places node.inner)
        (if b then Some (record { label = label; inner = inner }) else procedure_at rest slot) [])
        at
        → (Contains (procedure_lists rest slot) at → is_some (phrase_in at rest) ≡ true)
        → (is_some (own_phrase at label) || (is_some (phrase_in at inner) || is_some (phrase_in at rest))) ≡ true
    by true f again = own (Contains-append_cases (list_places label.slot 0 label.parts) (all_list_places inner) at f)
    by false f again =
        right_some (is_some (own_phrase at label)) (is_some (phrase_in at inner) || is_some (phrase_in at rest))
        (right_some (is_some (phrase_in at inner)) (is_some (phrase_in at rest)) (again f))

-- ---- the node in a slot

module _ (at : PhraseAt) (slot : ℕ) where
  -- what is found in the node at a site is found among the nodes
  pub site_phrase : (turn : Bool) (nodes : Forest) (behind : PlainPlace) (found : Site) → site_among slot turn nodes behind ≡ Some found
      → is_some (phrase_in at (Forest.cons found.label found.inner Forest.nil)) ≡ true → is_some (phrase_in at nodes) ≡ true
  site_phrase turn Forest.nil behind found is there = absurd (none-some found is)
  site_phrase turn (Forest.cons label inner rest) behind found is there =
      some_or (own_phrase at label) (option_or (phrase_in at inner) (phrase_in at rest))
      ∙ ap (λ (b : Bool). is_some (own_phrase at label) || b) (some_or (phrase_in at inner) (phrase_in at rest))
      ∙ by (label.slot == slot) is
      (λ f. site_phrase (in_turn (row_of label.kind).sections) inner (end_at label.slot (inner_end label.kind) after) found f there)
      (λ f. site_phrase turn rest behind found f there)
    where
      after : PlainPlace
      after = if turn then begin rest behind else behind

      within : Option Site
      within = site_among slot (in_turn (row_of label.kind).sections) inner (end_at label.slot (inner_end label.kind) after)

      Whole : Type 0
      Whole = (is_some (own_phrase at label) || (is_some (phrase_in at inner) || is_some (phrase_in at rest))) ≡ true

      own : (o : Option PlainPhrase) (p : Option PlainPhrase) → (is_some o || is_some (option_or p None)) ≡ true
          → (is_some o || (is_some p || is_some (phrase_in at rest))) ≡ true
      own (Some x) p e = refl
      own None (Some x) e = refl
      own None None e = absurd (true≢false (sym e))

      split : (a b : Option Site) → option_or a b ≡ Some found → (a ≡ Some found) ⊎ (b ≡ Some found)
      split None b f = inr f
      split (Some x) b f = inl f

      other : (within ≡ Some found) ⊎ (site_among slot turn rest behind ≡ Some found)
          → (within ≡ Some found → is_some (phrase_in at inner) ≡ true)
          → (site_among slot turn rest behind ≡ Some found → is_some (phrase_in at rest) ≡ true) → Whole
      other (inl f) inside later =
          right_some (is_some (own_phrase at label)) (is_some (phrase_in at inner) || is_some (phrase_in at rest))
          (left_some (is_some (phrase_in at inner)) (is_some (phrase_in at rest)) (inside f))
      other (inr f) inside later =
          right_some (is_some (own_phrase at label)) (is_some (phrase_in at inner) || is_some (phrase_in at rest))
          (right_some (is_some (phrase_in at inner)) (is_some (phrase_in at rest)) (later f))

      by : (b : Bool)
          → (if b then Some record { label = label; inner = inner; after = after } else option_or within (site_among slot turn rest behind))
          ≡ Some found
          → (within ≡ Some found → is_some (phrase_in at inner) ≡ true)
          → (site_among slot turn rest behind ≡ Some found → is_some (phrase_in at rest) ≡ true) → Whole
      by true f inside later =
          let same : record { label = label; inner = inner; after = after } ≡ found = cc in
          own (own_phrase at label) (phrase_in at inner)
          (sym (some_or (own_phrase at label) (option_or (phrase_in at inner) None))
          ∙ ap (λ (s : Site). is_some (phrase_in at (Forest.cons s.label s.inner Forest.nil))) same
          ∙ there)
      by false f inside later = other (split within (site_among slot turn rest behind) f) inside later

  -- its slot is that one
  pub site_slot : (turn : Bool) (nodes : Forest) (behind : PlainPlace) (found : Site) → site_among slot turn nodes behind ≡ Some found
      → found.label.slot ≡ slot
  site_slot turn Forest.nil behind found is = absurd (none-some found is)
  site_slot turn (Forest.cons label inner rest) behind found is =
      by (label.slot == slot) refl is
      (λ f. site_slot (in_turn (row_of label.kind).sections) inner (end_at label.slot (inner_end label.kind) after) found f)
      (λ f. site_slot turn rest behind found f)
    where
      after : PlainPlace
      after = if turn then begin rest behind else behind

      within : Option Site
      within = site_among slot (in_turn (row_of label.kind).sections) inner (end_at label.slot (inner_end label.kind) after)

      split : (a b : Option Site) → option_or a b ≡ Some found → (a ≡ Some found) ⊎ (b ≡ Some found)
      split None b f = inr f
      split (Some x) b f = inl f

      other : (within ≡ Some found) ⊎ (site_among slot turn rest behind ≡ Some found)
          → (within ≡ Some found → found.label.slot ≡ slot)
          → (site_among slot turn rest behind ≡ Some found → found.label.slot ≡ slot) → found.label.slot ≡ slot
      other (inl f) inside later = inside f
      other (inr f) inside later = later f

      by : (b : Bool) → (label.slot == slot) ≡ b
          → (if b then Some record { label = label; inner = inner; after = after } else option_or within (site_among slot turn rest behind))
          ≡ Some found
          → (within ≡ Some found → found.label.slot ≡ slot)
          → (site_among slot turn rest behind ≡ Some found → found.label.slot ≡ slot) → found.label.slot ≡ slot
      by true e f inside later =
          let same : record { label = label; inner = inner; after = after } ≡ found = cc in
          ap (λ (s : Site). s.label.slot) (sym same) ∙ eqb-true label.slot slot e
      by false e f inside later = other (split within (site_among slot turn rest behind) f) inside later

-- ---- what was changed

whole_changed : (at : PhraseAt) (slot : ℕ) (program : Forest)
    → Contains (option_map_or (λ (found : Site). phrase_places (Forest.cons found.label found.inner Forest.nil)) (site program slot) []) at
    → is_some (phrase_in at program) ≡ true
whole_changed at slot program there = by (site program slot) refl there
  where
    by : (o : Option Site) → site program slot ≡ o
        → Contains (option_map_or (λ (found : Site). phrase_places (Forest.cons found.label found.inner Forest.nil)) o []) at
        → is_some (phrase_in at program) ≡ true
    by None e f = absurd (contains_none at f)
    by (Some found) e f =
        site_phrase at slot false program (place_at 0 1) found e (placed_phrase at (Forest.cons found.label found.inner Forest.nil) f)

part_changed : (at : PhraseAt) (part slot : ℕ) (program : Forest)
    → Contains (option_map_or (λ (found : Site). filled_place (phrase_at slot part) (part_at found.label.parts part)) (site program slot) []) at
    → is_some (phrase_in at program) ≡ true
part_changed at part slot program there = by (site program slot) refl there
  where
    by : (o : Option Site) → site program slot ≡ o
        → Contains (option_map_or (λ (found : Site). filled_place (phrase_at slot part) (part_at found.label.parts part)) o []) at
        → is_some (phrase_in at program) ≡ true
    by None e f = absurd (contains_none at f)
    by (Some found) e f =
        let is = filled_own (phrase_at slot part) at (part_at found.label.parts part) f in
        let own : at.slot.0 ≡ found.label.slot =
        ap (λ (p : PhraseAt). p.slot.0) (sym is.0) ∙ sym (site_slot at slot false program (place_at 0 1) found e) in
        site_phrase at slot false program (place_at 0 1) found e
        (some_or (own_phrase at found.label) (option_or (phrase_in at found.inner) None)
        ∙ left_some (is_some (own_phrase at found.label)) (is_some (option_or (phrase_in at found.inner) None))
        (ap is_some (own_here at found.label own)
        ∙ ap (λ (n : ℕ). is_some (part_at found.label.parts n)) (ap (λ (p : PhraseAt). p.part) (sym is.0))
        ∙ is.1))

pub changed_phrase : (what : What) (at : PhraseAt) (slot : ℕ) (program : Forest) → Contains (changed_places what slot program) at
    → is_some (phrase_in at program) ≡ true
changed_phrase What.Node at slot program there = whole_changed at slot program there
changed_phrase (What.Part part) at slot program there = part_changed at part slot program there
changed_phrase What.Added at slot program there = whole_changed at slot program there
changed_phrase What.Dropped at slot program there = whole_changed at slot program there

-- a phrase stands where one is due
pub due_phrase : (before after : Forest) (change : Change) (at : PhraseAt) → IsDue before after change at → is_some (phrase_in at after) ≡ true
due_phrase before after change at (IsDue.put_in there) = changed_phrase change.what at change.slot.0 after there
due_phrase before after change at (IsDue.listed binds there) = procedure_phrase at change.procedure.0 after there
due_phrase before after change at (IsDue.affected name is there) = mentioned_phrase name at after there

pub due_verdict_kept : (before after : Forest) (change : Change) (at : PhraseAt) → IsDue before after change at
    → is_some (get (Verdicts after) at) ≡ true
due_verdict_kept before after change at is = verdict_kept after at ∙ due_phrase before after change at is
