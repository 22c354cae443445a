-- No more phrases are due than the program has: a phrase of it stands at each place that is due, and no place is due
-- twice.
use Rattle.std.proofs.Common.{◌≡◌, ℕ, zero, suc, ◌+◌, ◌≤◌, Bool, true, false, List, [], ◌∷◌, ◌++◌, length, Option, Some, None, refl, ap, sym, subst, ◌∙◌, arith, ◌⊎◌, inl, inr, eqb-true}
use Rattle.std.specs.Prelude.{◌==◌, bytes_eq, if◌then◌else◌, Contains}
use Rattle.std.specs.List.{list_any}
use Rattle.std.specs.Option.{option_map_or, option_or}
use Rattle.std.specs.Bool.{Decides}
use Rattle.std.specs.Ordering.{eq_by_cmp}
use Rattle.std.specs.Set.{is_member}
use Rattle.std.proofs.lemmas.List.{length-append}
use Rattle.std.proofs.lemmas.List.Elements.{Contains-append_cases, Contains-append_left, Contains-append_right}
use Rattle.std.proofs.lemmas.Map.Keys.{IsDistinct-from_sorted}
use Rattle.std.proofs.lemmas.Map.Made.{is_member-Decides, length-le_from_is_member}
use Rattle.plcs_base.specs.Mark.{phrase_cmp}
use Rattle.plcs_base.specs.PlaceOrder.{places_equiv, same_place}
use Rattle.plcs_base.specs.declared.place.PhraseAt.{PhraseAt}
use Rattle.plcs_grammar.specs.PlainPhrase.{PlainPhrase}
use Rattle.plcs_grammar.specs.Template.{row_of}
use Rattle.template_tree.specs.declared.change.Change.{Change}
use Rattle.template_tree.specs.declared.change.What.{What}
use Rattle.template_tree.specs.Checks.Environment.{procedure_at}
use Rattle.template_tree.specs.Checks.Marks.{node_verdicts, part_verdicts, procedure_verdicts, surroundings}
use Rattle.template_tree.specs.Checks.Mention.{mention, mentioned, mentions, part_mentions, phrase_at}
use Rattle.template_tree.specs.Checks.Verdict.{Surroundings}
use Rattle.template_tree.specs.Positions.Place.{PlainPlace, Site, begin, end_at, in_turn, inner_end, place_at, site_among}
use Rattle.template_tree.specs.Programs.Part.{part_at}
use Rattle.template_tree.specs.Programs.PlainTree.{Forest, Label, PlainNode}
use Rattle.decl_table.specs.Due.{AreDue, IsDue, all_list_places, changed_places, filled_place, filled_places, is_name_list, list_place, list_places, phrase_places, procedure_lists}

-- each place in the one list is in the other
abbrev AreIn : (one other : List PhraseAt) → Type 0
AreIn one other = (at : PhraseAt) → Contains one at → Contains other at

none_in : (other : List PhraseAt) → AreIn [] other
none_in other at there = let short = there.1 in absurd (omega (arith, short))

both_in : (one other one' other' : List PhraseAt) → AreIn one one' → AreIn other other'
    → AreIn (one ++ other) (one' ++ other')
both_in one other one' other' first second at there = by (Contains-append_cases one other at there)
  where
    by : Contains one at ⊎ Contains other at → Contains (one' ++ other') at
    by (inl here) = Contains-append_left one' other' at (first at here)
    by (inr behind) = Contains-append_right one' other' at (second at behind)

left_in : (one all more : List PhraseAt) → AreIn one all → AreIn one (all ++ more)
left_in one all more within at there = Contains-append_left all more at (within at there)

right_in : (one all more : List PhraseAt) → AreIn one all → AreIn one (more ++ all)
right_in one all more within at there = Contains-append_right more all at (within at there)

-- ---- the phrases that mention a name

mention_in : (name : List ℕ) (at : PhraseAt) (place : Option PlainPhrase)
    → AreIn (mention name at place) (filled_place at place)
mention_in name at None = none_in []
mention_in name at (Some phrase) = by (list_any (bytes_eq name) (mentioned phrase))
  where
    by : (b : Bool) → AreIn (if b then at ∷ [] else []) (at ∷ [])
    by true = λ q there. there
    by false = none_in (at ∷ [])

part_mentions_in : (name : List ℕ) (slot part : ℕ) (parts : List (Option PlainPhrase))
    → AreIn (part_mentions name slot part parts) (filled_places slot part parts)
part_mentions_in name slot part [] = none_in []
part_mentions_in name slot part (place ∷ parts) =
    let at = phrase_at slot part in
    both_in (mention name at place) (part_mentions name slot (part + 1) parts) (filled_place at place)
    (filled_places slot (part + 1) parts) (mention_in name at place) (part_mentions_in name slot (part + 1) parts)

mentions_in : (name : List ℕ) (items : Forest) → AreIn (mentions name items) (phrase_places items)
mentions_in name Forest.nil = none_in []
mentions_in name (Forest.cons label inner rest) =
    both_in (part_mentions name label.slot 0 label.parts) (mentions name inner ++ mentions name rest)
    (filled_places label.slot 0 label.parts) (phrase_places inner ++ phrase_places rest)
    (part_mentions_in name label.slot 0 label.parts)
    (both_in (mentions name inner) (mentions name rest) (phrase_places inner) (phrase_places rest)
    (mentions_in name inner) (mentions_in name rest))

-- ---- the declared lists and the list of parameters of a procedure

list_in : (at : PhraseAt) (place : Option PlainPhrase) → AreIn (list_place at place) (filled_place at place)
list_in at None = none_in []
list_in at (Some phrase) = by (is_name_list phrase)
  where
    by : (b : Bool) → AreIn (if b then at ∷ [] else []) (at ∷ [])
    by true = λ q there. there
    by false = none_in (at ∷ [])

lists_in : (slot part : ℕ) (parts : List (Option PlainPhrase))
    → AreIn (list_places slot part parts) (filled_places slot part parts)
lists_in slot part [] = none_in []
lists_in slot part (place ∷ parts) =
    let at = phrase_at slot part in
    both_in (list_place at place) (list_places slot (part + 1) parts) (filled_place at place)
    (filled_places slot (part + 1) parts) (list_in at place) (lists_in slot (part + 1) parts)

all_lists_in : (items : Forest) → AreIn (all_list_places items) (phrase_places items)
all_lists_in Forest.nil = none_in []
all_lists_in (Forest.cons label inner rest) =
    both_in (list_places label.slot 0 label.parts) (all_list_places rest) (filled_places label.slot 0 label.parts)
    (phrase_places inner ++ phrase_places rest) (lists_in label.slot 0 label.parts)
    (right_in (all_list_places rest) (phrase_places rest) (phrase_places inner) (all_lists_in rest))

-- the lists of a procedure, if one is there
abbrev lists_of : Option PlainNode → List PhraseAt
lists_of found =
    option_map_or (λ (node : PlainNode). list_places node.label.slot 0 node.label.parts ++ all_list_places node.inner) found []

procedure_lists_in : (program : Forest) (slot : ℕ) → AreIn (procedure_lists program slot) (phrase_places program)
procedure_lists_in Forest.nil slot = none_in []
procedure_lists_in (Forest.cons label inner rest) slot = by (label.slot == slot) (procedure_lists_in rest slot)
  where
    own : List PhraseAt
    own = filled_places label.slot 0 label.parts

    all : List PhraseAt
    all = own ++ (phrase_places inner ++ phrase_places rest)

    by : (b : Bool) → AreIn (procedure_lists rest slot) (phrase_places rest)
        → AreIn (lists_of (if b then Some record { label = label; inner = inner } else procedure_at rest slot)) all
    by true others =
        both_in (list_places label.slot 0 label.parts) (all_list_places inner) own (phrase_places inner ++ phrase_places rest)
        (lists_in label.slot 0 label.parts)
        (left_in (all_list_places inner) (phrase_places inner) (phrase_places rest) (all_lists_in inner))
    by false others =
        let lists = lists_of (procedure_at rest slot) in
        right_in lists (phrase_places inner ++ phrase_places rest) own
        (right_in lists (phrase_places rest) (phrase_places inner) others)

-- ---- the phrases that were put in

-- the place of a phrase in a part is among those of all parts
part_in : (slot first part : ℕ) (parts : List (Option PlainPhrase))
    → AreIn (filled_place (phrase_at slot (first + part)) (part_at parts part)) (filled_places slot first parts)
part_in slot first part [] = none_in []
part_in slot first zero (place ∷ parts) =
    subst (λ n. AreIn (filled_place (phrase_at slot n) place) (filled_places slot first (place ∷ parts))) own
    (left_in (filled_place (phrase_at slot first) place) (filled_place (phrase_at slot first) place)
    (filled_places slot (first + 1) parts) (λ q there. there))
  where
    own : first ≡ first + 0
    own = omega arith
part_in slot first (suc part) (place ∷ parts) =
    right_in (filled_place (phrase_at slot (first + suc part)) (part_at parts part)) (filled_places slot (first + 1) parts)
    (filled_place (phrase_at slot first) place)
    (subst (λ n. AreIn (filled_place (phrase_at slot n) (part_at parts part)) (filled_places slot (first + 1) parts)) later
    (part_in slot (first + 1) part parts))
  where
    later : first + 1 + part ≡ first + suc part
    later = omega arith

module _ (slot : ℕ) (places : Site → List PhraseAt)
    (own : (found : Site) → found.label.slot ≡ slot
    → AreIn (places found) (phrase_places (Forest.cons found.label found.inner Forest.nil))) where
  -- those at a site, if there is one
  abbrev places_of : Option Site → List PhraseAt
  places_of found = option_map_or places found []

  either_in : (within behind : Option Site) (all : List PhraseAt) → AreIn (places_of within) all → AreIn (places_of behind) all
      → AreIn (places_of (option_or within behind)) all
  either_in None behind all first second = second
  either_in (Some found) behind all first second = first

  abbrev chosen : Bool → Label → (inner : Forest) (after : PlainPlace) → (within behind : Option Site) → Option Site
  chosen here label inner after within behind =
      if here then Some record { label = label; inner = inner; after = after } else option_or within behind

  -- those at the site of the first node, or of one inside it, or behind it
  first_in : (label : Label) (inner rest : Forest) (after : PlainPlace) (within others : Option Site)
      → AreIn (places_of within) (phrase_places inner) → AreIn (places_of others) (phrase_places rest)
      → (here : Bool) → (label.slot == slot) ≡ here
      → AreIn (places_of (chosen here label inner after within others)) (phrase_places (Forest.cons label inner rest))
  first_in label inner rest after within others inside behind true is =
      λ at there. widened at (own record { label = label; inner = inner; after = after } (eqb-true label.slot slot is) at there)
    where
      parts : List PhraseAt
      parts = filled_places label.slot 0 label.parts

      widened : AreIn (parts ++ (phrase_places inner ++ [])) (parts ++ (phrase_places inner ++ phrase_places rest))
      widened =
          both_in parts (phrase_places inner ++ []) parts (phrase_places inner ++ phrase_places rest) (λ q there. there)
          (both_in (phrase_places inner) [] (phrase_places inner) (phrase_places rest) (λ q there. there)
          (none_in (phrase_places rest)))
  first_in label inner rest after within others inside behind false is =
      let parts = filled_places label.slot 0 label.parts in
      either_in within others (parts ++ (phrase_places inner ++ phrase_places rest))
      (right_in (places_of within) (phrase_places inner ++ phrase_places rest) parts
      (left_in (places_of within) (phrase_places inner) (phrase_places rest) inside))
      (right_in (places_of others) (phrase_places inner ++ phrase_places rest) parts
      (right_in (places_of others) (phrase_places rest) (phrase_places inner) behind))

  site_in : (turn : Bool) (items : Forest) (behind : PlainPlace)
      → AreIn (places_of (site_among slot turn items behind)) (phrase_places items)
  site_in turn Forest.nil behind = none_in []
  site_in turn (Forest.cons label inner rest) behind =
      let after : PlainPlace = if turn then begin rest behind else behind in
      let last = end_at label.slot (inner_end label.kind) after in
      first_in label inner rest after (site_among slot (in_turn (row_of label.kind).sections) inner last)
      (site_among slot turn rest behind) (site_in (in_turn (row_of label.kind).sections) inner last)
      (site_in turn rest behind) (label.slot == slot) refl

-- the places in a node and what stands inside it
abbrev all_of : Site → List PhraseAt
all_of found = phrase_places (Forest.cons found.label found.inner Forest.nil)

-- the place in one part of a node
abbrev part_of : (slot part : ℕ) → Site → List PhraseAt
part_of slot part found = filled_place (phrase_at slot part) (part_at found.label.parts part)

part_of_in : (slot part : ℕ) (found : Site) → found.label.slot ≡ slot
    → AreIn (part_of slot part found) (all_of found)
part_of_in slot part found is =
    left_in (part_of slot part found) (filled_places found.label.slot 0 found.label.parts) (phrase_places found.inner ++ [])
    (subst (λ n. AreIn (filled_place (phrase_at n part) (part_at found.label.parts part))
    (filled_places found.label.slot 0 found.label.parts)) is
    (subst (λ n. AreIn (filled_place (phrase_at found.label.slot n) (part_at found.label.parts part))
    (filled_places found.label.slot 0 found.label.parts)) first (part_in found.label.slot 0 part found.label.parts)))
  where
    first : 0 + part ≡ part
    first = omega arith

put_in : (what : What) (slot : ℕ) (program : Forest) → AreIn (changed_places what slot program) (phrase_places program)
put_in (What.Part part) slot program =
    site_in slot (part_of slot part) (part_of_in slot part) false program (place_at 0 1)
put_in What.Node slot program = site_in slot all_of (λ found is at there. there) false program (place_at 0 1)
put_in What.Added slot program = site_in slot all_of (λ found is at there. there) false program (place_at 0 1)
put_in What.Dropped slot program = site_in slot all_of (λ found is at there. there) false program (place_at 0 1)

-- ---- all that is due

pub due_in : (before after : Forest) (change : Change) (at : PhraseAt) → IsDue before after change at
    → Contains (phrase_places after) at
due_in before after change at (IsDue.put_in there) = put_in change.what change.slot.0 after at there
due_in before after change at (IsDue.listed changed there) = procedure_lists_in after change.procedure.0 at there
due_in before after change at (IsDue.affected name affected there) = mentions_in name after at there

-- ---- as many places as verdicts

parts_counted : (s : Surroundings) (slot part : ℕ) (parts : List (Option PlainPhrase))
    → length (filled_places slot part parts) ≡ length (part_verdicts s slot part parts)
parts_counted s slot part [] = refl
parts_counted s slot part (None ∷ parts) = parts_counted s slot (part + 1) parts
parts_counted s slot part (Some phrase ∷ parts) = ap suc (parts_counted s slot (part + 1) parts)

-- joined lists are as long where their pieces are
joined_counted : {A B : Type 0} (one one' : List A) (other other' : List B) → length one ≡ length other
    → length one' ≡ length other' → length (one ++ one') ≡ length (other ++ other')
joined_counted one one' other other' first second =
    length-append one one' ∙ (λ i. first i + second i) ∙ sym (length-append other other')

nodes_counted : (program : Forest) (procedure : PlainNode) (items : Forest)
    → length (phrase_places items) ≡ length (node_verdicts program procedure items)
nodes_counted program procedure Forest.nil = refl
nodes_counted program procedure (Forest.cons label inner rest) =
    let s = surroundings program procedure label.slot in
    joined_counted (filled_places label.slot 0 label.parts) (phrase_places inner ++ phrase_places rest)
    (part_verdicts s label.slot 0 label.parts) (node_verdicts program procedure inner ++ node_verdicts program procedure rest)
    (parts_counted s label.slot 0 label.parts)
    (joined_counted (phrase_places inner) (phrase_places rest) (node_verdicts program procedure inner)
    (node_verdicts program procedure rest) (nodes_counted program procedure inner) (nodes_counted program procedure rest))

-- the sum that a program's first item gives
one_more : (own inside others : ℕ) → own + (inside + others) ≡ own + (inside + 0) + others
one_more own inside others = omega arith

program_counted : (program items : Forest) → length (phrase_places items) ≡ length (procedure_verdicts program items)
program_counted program Forest.nil = refl
program_counted program (Forest.cons label inner rest) =
    let procedure : PlainNode = record { label = label; inner = inner } in
    let parts = filled_places label.slot 0 label.parts in
    let first : Forest = Forest.cons label inner Forest.nil in
    length-append parts (phrase_places inner ++ phrase_places rest)
    ∙ ap (λ n. length parts + n) (length-append (phrase_places inner) (phrase_places rest))
    ∙ one_more (length parts) (length (phrase_places inner)) (length (phrase_places rest))
    ∙ sym
    (ap (λ n. n + length (phrase_places rest))
    (length-append parts (phrase_places inner ++ []) ∙ ap (λ n. length parts + n) (length-append (phrase_places inner) [])))
    ∙ (λ i. nodes_counted program procedure first i + program_counted program rest i)
    ∙ sym (length-append (node_verdicts program procedure first) (procedure_verdicts program rest))

-- ---- the law

pub due_are_few : (before after : Forest) (change : Change) (due : List PhraseAt) → AreDue before after change due
    → length due ≤ length (procedure_verdicts after after)
due_are_few before after change due are =
    subst (λ n. length due ≤ n) (program_counted after after)
    (length-le_from_is_member places_equiv due (phrase_places after) (IsDistinct-from_sorted phrase_cmp due are.increasing)
    (λ at there. (held (phrase_places after) at).1 (due_in before after change at ((are.each at).0 ((held due at).0 there)))))
  where
    held : (places : List PhraseAt) (at : PhraseAt) → Decides (is_member (eq_by_cmp phrase_cmp) places at) (Contains places at)
    held = is_member-Decides (λ a b. (same_place a b, λ same. subst (λ c. eq_by_cmp phrase_cmp a c ≡ true) same (places_equiv.refl a)))
