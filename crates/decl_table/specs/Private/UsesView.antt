-- The uses of names in memory, and what is noted of phrases.
use Rattle.std.specs.Prelude.{◌≡◌, ◌↔◌, ◌⊎◌, ℕ, Bool, true, not, ◌&&◌, ◌||◌, List, bytes_eq, slice_get, Contains, Option, None, refl, zero, suc, [], ◌∷◌}
use Rattle.std.specs.Map.{lookup}
use Rattle.std.specs.Coded.{Coded, code_by, coded×, coded_list, coded_ℕ}
use Rattle.std.specs.List.{filter, list_any}
use Rattle.std.specs.List.Sorted.{IsStrictlySortedBy}
use Rattle.std.specs.Option.{option_flatten}
use Rattle.std.specs.Ordering.{eq_by_cmp, is_gt, is_lt}
use Rattle.plcs_base.specs.Mark.{phrase_cmp}
use Rattle.plcs_base.specs.declared.place.PhraseAt.{PhraseAt}
use Rattle.plcs_base.specs.contracts.place.PhraseAt as place_row
use Rattle.template_tree.specs.Checks.Mention.{phrase_at}
use Rattle.decl_table.specs.DeclEdit.{changed_or}
use Rattle.decl_table.specs.Names.{NameForest}
use Rattle.decl_table.specs.PlainDecls.{PlainUses, mentions_of}
use Rattle.decl_table.specs.Private.PlainNameNode.{PlainNameNode, kept_mention, kept_mentions, kept_part_mentions}

-- the code of the places of a name's uses
abbrev pub mention_list_code : Coded (List PhraseAt)
mention_list_code = coded_list place_row.the_row.coded

-- the code of the uses of names
abbrev pub uses_code : Coded PlainUses
uses_code = coded_list (coded× (coded_list coded_ℕ) mention_list_code)

-- the uses of names in memory, with how many more names there is room for
pub record RoomyUses : Type 0 where
  pub uses : PlainUses
  pub spare : ℕ

-- the code of the uses of names with the room for more
abbrev pub roomy_uses_code : Coded RoomyUses
roomy_uses_code =
    code_by (PlainUses × ℕ) (coded× uses_code coded_ℕ) (λ a. (a.uses, a.spare))
    (λ t. record { uses = t.0; spare = t.1 }) (λ _. refl)

-- whether the place is among those that are noted of a name's uses
abbrev pub is_among : PhraseAt → List PhraseAt → Bool
is_among at places = list_any (eq_by_cmp phrase_cmp at) places

-- under each name more places of its uses are noted: those for which the test of the name and the place holds
abbrev pub Adds : (List ℕ → PhraseAt → Bool) → PlainUses → PlainUses → Type 0
Adds test old new =
    (name : List ℕ) (at : PhraseAt)
    → is_among at (mentions_of name new) ≡ (is_among at (mentions_of name old) || test name at)

-- one place was noted under each of the names
abbrev pub AddsUnderNames : List (List ℕ) → PhraseAt → PlainUses → PlainUses → Type 0
AddsUnderNames names place = Adds (λ name at. list_any (bytes_eq name) names && eq_by_cmp phrase_cmp at place)

-- what stands in one part of a node was noted under the names that it mentions
abbrev pub AddsPart : PlainNameNode → (part : ℕ) → PlainUses → PlainUses → Type 0
AddsPart node part =
    Adds
    (λ name at.
    is_among at (kept_mention name (phrase_at node.label.slot part) (option_flatten (slice_get node.label.parts part))))

-- what stands in the parts of a node, from the part of this number on, was noted under the names that it mentions
abbrev pub AddsParts : (slot part : ℕ) → List (Option (List (List ℕ))) → PlainUses → PlainUses → Type 0
AddsParts slot part parts = Adds (λ name at. is_among at (kept_part_mentions name slot part parts))

-- the phrases in nodes were noted under the names that they mention
abbrev pub AddsNodes : NameForest → PlainUses → PlainUses → Type 0
AddsNodes nodes = Adds (λ name at. is_among at (kept_mentions name nodes))

-- the places of a name's uses are settled: the new ones are the old ones in order of slot and part, each once
pub record IsSettled (old new : List PhraseAt) : Type 0 where
  pub increasing : IsStrictlySortedBy phrase_cmp new
  pub each : (at : PhraseAt) → Contains new at ↔ Contains old at

-- the places of the uses of each name are settled
abbrev pub AreSettled : PlainUses → PlainUses → Type 0
AreSettled old new = (name : List ℕ) → IsSettled (mentions_of name old) (mentions_of name new)

-- the places of the first so many of the uses are settled, and the others are as they were
abbrev pub IsSettling : ℕ → (first now : PlainUses) → Type 0
IsSettling zero first now = now ≡ first
IsSettling (suc k) [] now = now ≡ []
IsSettling (suc k) (entry ∷ first) [] = ⊥
IsSettling (suc k) (entry ∷ first) (other ∷ now) = (other.0 ≡ entry.0) × IsSettled entry.1 other.1 × IsSettling k first now

-- the places, of these, that come before a place
abbrev pub earlier_places : PhraseAt → List PhraseAt → List PhraseAt
earlier_places at places = filter (λ place. is_lt (phrase_cmp place at)) places

-- the places, of these, that come after a place
abbrev pub later_places : PhraseAt → List PhraseAt → List PhraseAt
later_places at places = filter (λ place. is_gt (phrase_cmp place at)) places

-- the places of a name's uses but for those that are taken out, in order
pub record IsWithout (places out now : List PhraseAt) : Type 0 where
  pub increasing : IsStrictlySortedBy phrase_cmp now
  pub each : (at : PhraseAt) → is_among at now ≡ (is_among at places && not (is_among at out))

-- the places of a name's uses with those that come in, in order
pub record IsWith (places more now : List PhraseAt) : Type 0 where
  pub increasing : IsStrictlySortedBy phrase_cmp now
  pub each : (at : PhraseAt) → is_among at now ≡ (is_among at places || is_among at more)

-- whether a place is among the uses of a name once phrases went and came, by whether it was, went and came
abbrev pub is_left : (before went came : Bool) → Bool
is_left before went came = (before && not (went && not came)) || (came && not went)

-- the places of a name's uses once some went and some came, in order
pub record IsMended (before went came now : List PhraseAt) : Type 0 where
  pub increasing : IsStrictlySortedBy phrase_cmp now
  pub each : (at : PhraseAt) → is_among at now ≡ is_left (is_among at before) (is_among at went) (is_among at came)

-- the places under each name are in order
abbrev pub AreOrdered : PlainUses → Type 0
AreOrdered uses = (name : List ℕ) → IsStrictlySortedBy phrase_cmp (mentions_of name uses)

-- what is noted under the name, or else what was, is what is left of its uses once phrases went and came
abbrev pub IsNameMended : (before went came mended : PlainUses) → List ℕ → Type 0
IsNameMended before went came mended name =
    IsMended (mentions_of name before) (mentions_of name went) (mentions_of name came)
    (changed_or (lookup (bytes_eq name) mended) (mentions_of name before))

-- under each name nothing is noted yet, or what is left of its uses
abbrev pub MayBeMended : (before went came mended : PlainUses) → Type 0
MayBeMended before went came mended =
    (name : List ℕ) → (lookup (bytes_eq name) mended ≡ None) ⊎ IsNameMended before went came mended name

-- what is left of the uses of the names that pass the test was noted
pub record MendsNames (test : List ℕ → Bool) (before went came old new : PlainUses) : Type 0 where
  pub all : MayBeMended before went came old → MayBeMended before went came new
  pub these : MayBeMended before went came old → (name : List ℕ) → test name ≡ true
      → IsNameMended before went came new name
  pub others : (name : List ℕ) → IsNameMended before went came old name → IsNameMended before went came new name
