-- Nodes with a gap, into which nodes come: those before an edit and those after it are what comes into the gap.
use Rattle.std.specs.Prelude.{◌≡◌, refl, ℕ, zero, suc, ◌+◌, ◌<◌, ◌≤◌, ◌==◌, Bool, true, false, ◌||◌, if◌then◌else◌, List, [], ◌∷◌, ◌++◌, Option, Some, None, bytes_eq, slice_set}
use Rattle.std.specs.List.{list_any}
use Rattle.std.specs.Ordering.{eq_by_cmp}
use Rattle.std.proofs.Common.{ap, sym, ◌∙◌, subst, arith, true≢false}
use Rattle.std.proofs.lemmas.Bool.{eq-eqb}
use Rattle.std.proofs.lemmas.List.Folds.{list_any-append}
use Rattle.std.proofs.lemmas.Option.{none-some}
use Rattle.plcs_base.specs.Mark.{phrase_cmp}
use Rattle.plcs_base.specs.PlaceOrder.{same_place}
use Rattle.plcs_base.specs.declared.place.PhraseAt.{PhraseAt}
use Rattle.plcs_grammar.specs.PlainPhrase.{PlainPhrase}
use Rattle.template_tree.specs.Checks.Mention.{mention, mentioned, mentions, part_mentions, phrase_at}
use Rattle.template_tree.specs.Edits.Edit.{edit_below, give_way}
use Rattle.template_tree.specs.Positions.Path.{node_at}
use Rattle.template_tree.specs.Programs.Part.{part_at}
use Rattle.template_tree.specs.Programs.PlainTree.{Forest, Label, PlainNode, forest, join, roomless}
use Rattle.template_tree.specs.Programs.Slots.{times}
use Rattle.decl_table.specs.Private.UsesView.{is_among}

-- nodes in order with a gap: before the first one, inside it, or behind it
pub data Gap : Type 0 where
  here : (rest : Forest) → Gap
  inside : (label : Label) (inner : Gap) (rest : Forest) → Gap
  behind : (label : Label) (inner : Forest) (rest : Gap) → Gap

-- the nodes with these in the gap
abbrev pub filled : Forest → Gap → Forest
filled items (Gap.here rest) = join items rest
filled items (Gap.inside label inner rest) = Forest.cons label (filled items inner) rest
filled items (Gap.behind label inner rest) = Forest.cons label inner (filled items rest)

-- ---- the gap at a path

abbrev taken : PlainNode → Option PlainNode → PlainNode
taken node None = node
taken node (Some there) = there

-- the gap stands at this path
abbrev pub IsGapAt : ℕ → List ℕ → Gap → Type 0
IsGapAt zero [] (Gap.here rest) = Unit {0}
IsGapAt zero [] (Gap.inside label inner rest) = ⊥
IsGapAt zero [] (Gap.behind label inner rest) = ⊥
IsGapAt zero (j ∷ path) (Gap.here rest) = ⊥
IsGapAt zero (j ∷ path) (Gap.inside label inner rest) = IsGapAt j path inner
IsGapAt zero (j ∷ path) (Gap.behind label inner rest) = ⊥
IsGapAt (suc k) path (Gap.here rest) = ⊥
IsGapAt (suc k) path (Gap.inside label inner rest) = ⊥
IsGapAt (suc k) path (Gap.behind label inner rest) = IsGapAt k path rest

-- the nodes are what comes of the node at the path in a gap, and an edit there puts others into the gap
pub record HasGap (items : Forest) (k : ℕ) (path : List ℕ) (node : PlainNode) : Type 0 where
  pub gap : Gap
  pub place : IsGapAt k path gap
  pub before : items ≡ filled (forest (node ∷ [])) gap
  pub after : (change : PlainNode → List PlainNode) → give_way (edit_below change path) k items ≡ filled (forest (change node)) gap

pub gap_at : (items : Forest) (k : ℕ) (path : List ℕ) (node : PlainNode) → node_at items (k ∷ path) ≡ Some node → HasGap items k path node
gap_at Forest.nil k path node there = absurd (none-some node there)
gap_at (Forest.cons label inner rest) zero [] node there =
    subst (HasGap (Forest.cons label inner rest) zero []) (ap (taken node) there)
    record { gap = Gap.here rest; place = tt; before = refl; after = λ change. refl }
gap_at (Forest.cons label inner rest) zero (j ∷ path) node there =
    let within = gap_at inner j path node there in
    record {
      gap = Gap.inside label within.gap rest;
      place = within.place;
      before = ap (λ others. Forest.cons label others rest) within.before;
      after = λ change. ap (λ others. Forest.cons label others rest) (within.after change);
    }
gap_at (Forest.cons label inner rest) (suc k) path node there =
    let later = gap_at rest k path node there in
    record {
      gap = Gap.behind label inner later.gap;
      place = later.place;
      before = ap (Forest.cons label inner) later.before;
      after = λ change. ap (Forest.cons label inner) (later.after change);
    }

-- ---- where a name is mentioned

or_assoc : (a b c : Bool) → ((a || b) || c) ≡ (a || (b || c))
or_assoc true b c = refl
or_assoc false b c = refl

module _ (name : List ℕ) (at : PhraseAt) where
  -- whether the place is that of a phrase in the nodes that mentions the name
  abbrev pub mentions_at : Forest → Bool
  mentions_at items = is_among at (mentions name items)

  -- a node's own phrases, those inside it, and those of the nodes behind it
  pub of_first : (label : Label) (inner rest : Forest)
      → mentions_at (Forest.cons label inner rest)
      ≡ (is_among at (part_mentions name label.slot 0 label.parts) || (mentions_at inner || mentions_at rest))
  of_first label inner rest =
      list_any-append (eq_by_cmp phrase_cmp at) (part_mentions name label.slot 0 label.parts) (mentions name inner ++ mentions name rest)
      ∙ ap (λ b. is_among at (part_mentions name label.slot 0 label.parts) || b)
      (list_any-append (eq_by_cmp phrase_cmp at) (mentions name inner) (mentions name rest))

  of_join : (items rest : Forest) → mentions_at (join items rest) ≡ (mentions_at items || mentions_at rest)
  of_join Forest.nil rest = refl
  of_join (Forest.cons label inner others) rest =
      let own = is_among at (part_mentions name label.slot 0 label.parts) in
      of_first label inner (join others rest)
      ∙ ap (λ b. own || (mentions_at inner || b)) (of_join others rest)
      ∙ ap (λ b. own || b) (sym (or_assoc (mentions_at inner) (mentions_at others) (mentions_at rest)))
      ∙ sym (or_assoc own (mentions_at inner || mentions_at others) (mentions_at rest))
      ∙ ap (λ b. b || mentions_at rest) (sym (of_first label inner others))

  turn_inside : (p i o r : Bool) → (p || ((i || o) || r)) ≡ (i || (p || (o || r)))
  turn_inside true true o r = refl
  turn_inside true false o r = refl
  turn_inside false true o r = refl
  turn_inside false false o r = refl

  turn_behind : (p n i o : Bool) → (p || (n || (i || o))) ≡ (i || (p || (n || o)))
  turn_behind true n true o = refl
  turn_behind true n false o = refl
  turn_behind false true true o = refl
  turn_behind false true false o = refl
  turn_behind false false true o = refl
  turn_behind false false false o = refl

  -- those in the gap, and those around it
  pub of_gap : (items : Forest) (gap : Gap) → mentions_at (filled items gap) ≡ (mentions_at items || mentions_at (filled Forest.nil gap))
  of_gap items (Gap.here rest) = of_join items rest
  of_gap items (Gap.inside label inner rest) =
      let own = is_among at (part_mentions name label.slot 0 label.parts) in
      of_first label (filled items inner) rest
      ∙ ap (λ b. own || (b || mentions_at rest)) (of_gap items inner)
      ∙ turn_inside own (mentions_at items) (mentions_at (filled Forest.nil inner)) (mentions_at rest)
      ∙ ap (λ b. mentions_at items || b) (sym (of_first label (filled Forest.nil inner) rest))
  of_gap items (Gap.behind label inner rest) =
      let own = is_among at (part_mentions name label.slot 0 label.parts) in
      of_first label inner (filled items rest)
      ∙ ap (λ b. own || (mentions_at inner || b)) (of_gap items rest)
      ∙ turn_behind own (mentions_at inner) (mentions_at items) (mentions_at (filled Forest.nil rest))
      ∙ ap (λ b. mentions_at items || b) (sym (of_first label inner (filled Forest.nil rest)))

  -- the room of lists plays no part
  of_roomless : (items : Forest) → mentions_at (roomless items) ≡ mentions_at items
  of_roomless Forest.nil = refl
  of_roomless (Forest.cons label inner rest) =
      of_first (record label { spare = 0 }) (roomless inner) (roomless rest)
      ∙ (λ i. is_among at (part_mentions name label.slot 0 label.parts) || (of_roomless inner i || of_roomless rest i))
      ∙ sym (of_first label inner rest)

  pub of_alike : (one other : Forest) → roomless one ≡ roomless other → mentions_at one ≡ mentions_at other
  of_alike one other same = sym (of_roomless one) ∙ ap mentions_at same ∙ of_roomless other

  -- ---- a slot stands where a phrase does

  plain : (b : Bool) → (b || false) ≡ true → b ≡ true
  plain true e = refl
  plain false e = e

  -- the place is that of a part where its phrase mentions the name
  pub mention_here : (place : PhraseAt) (phrase : Option PlainPhrase) → is_among at (mention name place phrase) ≡ true → at ≡ place
  mention_here place None there = absurd (true≢false (sym there))
  mention_here place (Some phrase) there = by (list_any (bytes_eq name) (mentioned phrase)) there
    where
      by : (b : Bool) → is_among at (if b then place ∷ [] else []) ≡ true → at ≡ place
      by true e = same_place at place (plain (eq_by_cmp phrase_cmp at place) e)
      by false e = absurd (true≢false (sym e))

  no_mention : (place : PhraseAt) (phrase : Option PlainPhrase) → (at ≡ place → ⊥) → is_among at (mention name place phrase) ≡ false
  no_mention place phrase apart = by (is_among at (mention name place phrase)) refl
    where
      by : (b : Bool) → is_among at (mention name place phrase) ≡ b → b ≡ false
      by true e = absurd (apart (mention_here place phrase e))
      by false e = refl

  parts_here : (slot part : ℕ) (parts : List (Option PlainPhrase)) → is_among at (part_mentions name slot part parts) ≡ true
      → at.slot.0 ≡ slot
  parts_here slot part [] there = absurd (true≢false (sym there))
  parts_here slot part (phrase ∷ parts) there =
      by (is_among at (mention name (phrase_at slot part) phrase)) refl
      (sym
      (list_any-append (eq_by_cmp phrase_cmp at) (mention name (phrase_at slot part) phrase) (part_mentions name slot (part + 1) parts))
      ∙ there)
      (parts_here slot (part + 1) parts)
    where
      by : (b : Bool) → is_among at (mention name (phrase_at slot part) phrase) ≡ b
          → (b || is_among at (part_mentions name slot (part + 1) parts)) ≡ true
          → (is_among at (part_mentions name slot (part + 1) parts) ≡ true → at.slot.0 ≡ slot) → at.slot.0 ≡ slot
      by true e f again = ap (λ (a : PhraseAt). a.slot.0) (mention_here (phrase_at slot part) phrase e)
      by false e f again = again f

  -- no part from a later number on has the place
  parts_low : (slot part : ℕ) (parts : List (Option PlainPhrase)) → at.part < part
      → is_among at (part_mentions name slot part parts) ≡ false
  parts_low slot part [] low = refl
  parts_low slot part (phrase ∷ parts) low =
      list_any-append (eq_by_cmp phrase_cmp at) (mention name (phrase_at slot part) phrase) (part_mentions name slot (part + 1) parts)
      ∙ ap (λ b. b || is_among at (part_mentions name slot (part + 1) parts))
      (no_mention (phrase_at slot part) phrase
      (λ same. let e : at.part ≡ part = ap (λ (a : PhraseAt). a.part) same in omega (arith, e, low)))
      ∙ parts_low slot (part + 1) parts (omega (arith, low))

  pub counted : (a b : ℕ) → a ≡ b → ◌≡◌ {A = ℕ} (if a == b then 1 else 0) 1
  counted a b same = ap (λ (t : Bool). let n : ℕ = if t then 1 else 0 in n) (eq-eqb a b same)

  pub mentioned_live : (items : Forest) → mentions_at items ≡ true → 1 ≤ times at.slot.0 items
  mentioned_live Forest.nil there = absurd (true≢false (sym there))
  mentioned_live (Forest.cons label inner rest) there =
      by (is_among at (part_mentions name label.slot 0 label.parts)) (mentions_at inner) refl refl (sym (of_first label inner rest) ∙ there)
      (mentioned_live inner) (mentioned_live rest)
    where
      by : (own within : Bool) → is_among at (part_mentions name label.slot 0 label.parts) ≡ own → mentions_at inner ≡ within
          → (own || (within || mentions_at rest)) ≡ true → (mentions_at inner ≡ true → 1 ≤ times at.slot.0 inner)
          → (mentions_at rest ≡ true → 1 ≤ times at.slot.0 rest) → 1 ≤ times at.slot.0 (Forest.cons label inner rest)
      by true within e f g deeper later =
          let one = counted label.slot at.slot.0 (sym (parts_here label.slot 0 label.parts e)) in omega (arith, one)
      by false true e f g deeper later = let more = deeper f in omega (arith, more)
      by false false e f g deeper later = let more = later g in omega (arith, more)

  pub unmentioned : (items : Forest) → times at.slot.0 items ≡ 0 → mentions_at items ≡ false
  unmentioned items nowhere = by (mentions_at items) refl
    where
      by : (b : Bool) → mentions_at items ≡ b → b ≡ false
      by true e = absurd (omega (arith, mentioned_live items e, nowhere))
      by false e = refl

  -- ---- one part of a node

  swapped : (x w p : Bool) → (x || (w || p)) ≡ (w || (x || p))
  swapped true true p = refl
  swapped true false p = refl
  swapped false w p = refl

  -- what stands in the part, and what stands in the others
  pub parts_split : (slot from part : ℕ) (parts : List (Option PlainPhrase))
      → is_among at (part_mentions name slot from parts)
      ≡ (is_among at (mention name (phrase_at slot (from + part)) (part_at parts part))
      || is_among at (part_mentions name slot from (slice_set parts part None)))
  parts_split slot from part [] = refl
  parts_split slot from zero (phrase ∷ parts) =
      list_any-append (eq_by_cmp phrase_cmp at) (mention name (phrase_at slot from) phrase) (part_mentions name slot (from + 1) parts)
      ∙ ap (λ n. is_among at (mention name (phrase_at slot n) phrase) || is_among at (part_mentions name slot (from + 1) parts))
      (let e : from ≡ from + 0 = omega arith in e)
  parts_split slot from (suc part) (phrase ∷ parts) =
      let own = is_among at (mention name (phrase_at slot from) phrase) in
      let others = part_mentions name slot (from + 1) (slice_set parts part None) in
      list_any-append (eq_by_cmp phrase_cmp at) (mention name (phrase_at slot from) phrase) (part_mentions name slot (from + 1) parts)
      ∙ ap (λ b. own || b) (parts_split slot (from + 1) part parts)
      ∙ swapped own (is_among at (mention name (phrase_at slot (from + 1 + part)) (part_at parts part))) (is_among at others)
      ∙ ap (λ n. is_among at (mention name (phrase_at slot n) (part_at parts part)) || (own || is_among at others))
      (let e : from + 1 + part ≡ from + suc part = omega arith in e)
      ∙ ap (λ b. is_among at (mention name (phrase_at slot (from + suc part)) (part_at parts part)) || b)
      (sym (list_any-append (eq_by_cmp phrase_cmp at) (mention name (phrase_at slot from) phrase) others))

  -- of all the parts
  pub parts_split_all : (slot part : ℕ) (parts : List (Option PlainPhrase))
      → is_among at (part_mentions name slot 0 parts)
      ≡ (is_among at (mention name (phrase_at slot part) (part_at parts part))
      || is_among at (part_mentions name slot 0 (slice_set parts part None)))
  parts_split_all slot part parts =
      parts_split slot 0 part parts
      ∙ ap
      (λ n.
      is_among at (mention name (phrase_at slot n) (part_at parts part)) || is_among at (part_mentions name slot 0 (slice_set parts part None)))
      (let e : 0 + part ≡ part = omega arith in e)

  -- the others haven't its place
  pub parts_apart : (slot from part : ℕ) (parts : List (Option PlainPhrase)) → at.part ≡ from + part
      → is_among at (part_mentions name slot from (slice_set parts part None)) ≡ false
  parts_apart slot from part [] own = refl
  parts_apart slot from zero (phrase ∷ parts) own = parts_low slot (from + 1) parts (omega (arith, own))
  parts_apart slot from (suc part) (phrase ∷ parts) own =
      list_any-append (eq_by_cmp phrase_cmp at) (mention name (phrase_at slot from) phrase)
      (part_mentions name slot (from + 1) (slice_set parts part None))
      ∙ ap (λ b. b || is_among at (part_mentions name slot (from + 1) (slice_set parts part None)))
      (no_mention (phrase_at slot from) phrase
      (λ same. let e : at.part ≡ from = ap (λ (a : PhraseAt). a.part) same in omega (arith, e, own)))
      ∙ parts_apart slot (from + 1) part parts (omega (arith, own))

-- a part that is set and emptied is emptied
pub set_twice : (parts : List (Option PlainPhrase)) (part : ℕ) (place : Option PlainPhrase)
    → slice_set (slice_set parts part place) part None ≡ slice_set parts part None
set_twice [] part place = refl
set_twice (phrase ∷ parts) zero place = refl
set_twice (phrase ∷ parts) (suc part) place = ap (λ rest. phrase ∷ rest) (set_twice parts part place)

-- ---- how often a slot stands

times_join : (slot : ℕ) (items rest : Forest) → times slot (join items rest) ≡ times slot items + times slot rest
times_join slot Forest.nil rest = omega arith
times_join slot (Forest.cons label inner others) rest = omega (arith, times_join slot others rest)

pub times_gap : (slot : ℕ) (items : Forest) (gap : Gap) → times slot (filled items gap) ≡ times slot items + times slot (filled Forest.nil gap)
times_gap slot items (Gap.here rest) = times_join slot items rest
times_gap slot items (Gap.inside label inner rest) = omega (arith, times_gap slot items inner)
times_gap slot items (Gap.behind label inner rest) = omega (arith, times_gap slot items rest)

-- ---- room

-- the places at which a name is mentioned are the same without room
pub mentions_roomless : (name : List ℕ) (items : Forest) → mentions name (roomless items) ≡ mentions name items
mentions_roomless name Forest.nil = refl
mentions_roomless name (Forest.cons label inner rest) =
    λ i. part_mentions name label.slot 0 label.parts ++ (mentions_roomless name inner i ++ mentions_roomless name rest i)
