-- Where names are mentioned before an edit and after it: what went, what came, and what stays.
use Rattle.std.specs.Prelude.{◌≡◌, refl, ℕ, ◌+◌, ◌≤◌, Bool, true, false, ◌||◌, List, [], ◌∷◌, Contains, bytes_eq, slice_set, None, Option}
use Rattle.std.specs.Map.{lookup}
use Rattle.std.proofs.Common.{ap, sym, ◌∙◌, subst, arith}
use Rattle.std.proofs.lemmas.Map.Views.{Contains-from_any, list_any-from_Contains}
use Rattle.plcs_base.specs.PlaceOrder.{places_equiv, same_place}
use Rattle.plcs_base.specs.declared.place.PhraseAt.{PhraseAt}
use Rattle.plcs_grammar.specs.PlainPhrase.{PlainPhrase}
use Rattle.template_tree.specs.Checks.Mention.{AreUses, mention, mentions, part_mentions, phrase_at}
use Rattle.template_tree.specs.Programs.Part.{part_at, with_part}
use Rattle.template_tree.specs.Programs.PlainTree.{Forest, PlainNode, forest, roomless}
use Rattle.template_tree.specs.Programs.Slots.{times}
use Rattle.decl_table.specs.DeclEdit.{changed_or}
use Rattle.decl_table.specs.PlainDecls.{PlainUses, mentions_of}
use Rattle.decl_table.specs.Private.UsesView.{IsNameMended, IsSettled, is_among, is_left}
use Rattle.decl_table.proofs.Gaps.{Gap, counted, filled, mention_here, mentioned_live, mentions_at, of_alike, of_first, of_gap, parts_apart, parts_split_all, set_twice, times_gap, unmentioned}

-- the places that went and those that came, under each name; all others stay, and none of them went
pub record IsOutside (before after : Forest) (went came : List ℕ → List PhraseAt) : Type 0 where
  pub stays : List ℕ → PhraseAt → Bool
  pub before_is : (name : List ℕ) (at : PhraseAt) → is_among at (mentions name before) ≡ (is_among at (went name) || stays name at)
  pub after_is : (name : List ℕ) (at : PhraseAt) → is_among at (mentions name after) ≡ (is_among at (came name) || stays name at)
  pub apart : (name : List ℕ) (at : PhraseAt) → is_among at (went name) ≡ true → stays name at ≡ false

-- ---- whole nodes in a gap

pub nodes_outside : (before after old new : Forest) (gap : Gap) → roomless before ≡ roomless (filled old gap)
    → roomless after ≡ roomless (filled new gap) → ((slot : ℕ) → times slot (filled old gap) ≤ 1)
    → IsOutside before after (λ name. mentions name old) (λ name. mentions name new)
nodes_outside before after old new gap was is once = record {
  stays = λ name at. mentions_at name at (filled Forest.nil gap);
  before_is = λ name at. of_alike name at before (filled old gap) was ∙ of_gap name at old gap;
  after_is = λ name at. of_alike name at after (filled new gap) is ∙ of_gap name at new gap;
  apart =
      λ name at went.
      unmentioned name at (filled Forest.nil gap)
      (let live = mentioned_live name at old went in omega (arith, live, once at.slot.0, times_gap at.slot.0 old gap));
}

-- ---- one part of a node in a gap

turned : (w p i g : Bool) → (((w || p) || (i || false)) || g) ≡ (w || (p || (i || g)))
turned true p i g = refl
turned false true i g = refl
turned false false true g = refl
turned false false false g = refl

all_false : (p i g : Bool) → p ≡ false → i ≡ false → g ≡ false → (p || (i || g)) ≡ false
all_false true i g e f h = e
all_false false true g e f h = f
all_false false false g e f h = h

-- the phrases of a node in a gap, but for one part
abbrev other_parts : (part : ℕ) (node : PlainNode) → Gap → List ℕ → PhraseAt → Bool
other_parts part node gap name at =
    is_among at (part_mentions name node.label.slot 0 (slice_set node.label.parts part None))
    || (mentions_at name at node.inner || mentions_at name at (filled Forest.nil gap))

-- those of the node are those of the part and the others
part_of_gap : (name : List ℕ) (at : PhraseAt) (part : ℕ) (node : PlainNode) (gap : Gap)
    → mentions_at name at (filled (forest (node ∷ [])) gap)
    ≡ (is_among at (mention name (phrase_at node.label.slot part) (part_at node.label.parts part)) || other_parts part node gap name at)
part_of_gap name at part node gap =
    let part_is = is_among at (mention name (phrase_at node.label.slot part) (part_at node.label.parts part)) in
    let others = is_among at (part_mentions name node.label.slot 0 (slice_set node.label.parts part None)) in
    let within = mentions_at name at node.inner in
    let around = mentions_at name at (filled Forest.nil gap) in
    of_gap name at (forest (node ∷ [])) gap
    ∙ ap (λ b. b || around) (of_first name at node.label node.inner Forest.nil)
    ∙ ap (λ b. (b || (within || false)) || around)
    (parts_split_all name at node.label.slot part node.label.parts)
    ∙ turned part_is others within around

pub part_outside : (before after : Forest) (part : ℕ) (node : PlainNode) (place : Option PlainPhrase) (gap : Gap)
    → roomless before ≡ roomless (filled (forest (node ∷ [])) gap)
    → roomless after ≡ roomless (filled (forest (with_part part place node ∷ [])) gap)
    → ((slot : ℕ) → times slot (filled (forest (node ∷ [])) gap) ≤ 1)
    → IsOutside before after (λ name. mention name (phrase_at node.label.slot part) (part_at node.label.parts part))
    (λ name. mention name (phrase_at node.label.slot part) (part_at (slice_set node.label.parts part place) part))
part_outside before after part node place gap was is once = record {
  stays = other_parts part node gap;
  before_is = λ name at. of_alike name at before (filled (forest (node ∷ [])) gap) was ∙ part_of_gap name at part node gap;
  after_is =
      λ name at.
      of_alike name at after (filled (forest (with_part part place node ∷ [])) gap) is
      ∙ part_of_gap name at part (with_part part place node) gap
      ∙ ap
      (λ parts.
      is_among at (mention name (phrase_at node.label.slot part) (part_at (slice_set node.label.parts part place) part))
      || (is_among at (part_mentions name node.label.slot 0 parts)
      || (mentions_at name at node.inner || mentions_at name at (filled Forest.nil gap))))
      (set_twice node.label.parts part place);
  apart =
      λ name at went.
      let same : at ≡ phrase_at node.label.slot part =
      mention_here name at (phrase_at node.label.slot part) (part_at node.label.parts part) went in
      let slot : at.slot.0 ≡ node.label.slot = ap (λ (a : PhraseAt). a.slot.0) same in
      let own : at.part ≡ part = ap (λ (a : PhraseAt). a.part) same in
      let number : at.part ≡ 0 + part = omega (arith, own) in
      let one = counted name at node.label.slot at.slot.0 (sym slot) in
      let all = times_gap at.slot.0 (forest (node ∷ [])) gap in
      all_false (is_among at (part_mentions name node.label.slot 0 (slice_set node.label.parts part None))) (mentions_at name at node.inner)
      (mentions_at name at (filled Forest.nil gap))
      (parts_apart name at node.label.slot 0 part node.label.parts number)
      (unmentioned name at node.inner (omega (arith, one, all, once at.slot.0)))
      (unmentioned name at (filled Forest.nil gap) (omega (arith, one, all, once at.slot.0)));
}

-- ---- the uses of a name

-- the uses of a name in a program are those in another one where it is mentioned alike
pub uses_alike : (name : List ℕ) (one other : Forest) (uses : List PhraseAt) → mentions name one ≡ mentions name other
    → AreUses name one uses → AreUses name other uses
uses_alike name one other uses same are = record {
  increasing = are.increasing;
  each = λ at. (
    λ there. subst (λ places. Contains places at) same ((are.each at).0 there),
    λ there. (are.each at).1 (subst (λ places. Contains places at) (sym same) there),
  );
}

-- ---- the uses after the edit

left_is : (before went came stays after : Bool) → before ≡ (went || stays) → after ≡ (came || stays) → (went ≡ true → stays ≡ false)
    → is_left before went came ≡ after
left_is before went came stays after was is apart =
    ap (λ b. is_left b went came) was ∙ by went came stays apart ∙ sym is
  where
    by : (w c s : Bool) → (w ≡ true → s ≡ false) → is_left (w || s) w c ≡ (c || s)
    by true true s none = refl
    by true false s none = sym (none refl)
    by false true true none = refl
    by false true false none = refl
    by false false true none = refl
    by false false false none = refl

-- the tests of places that are settled are those of the places
settled_test : (places settled : List PhraseAt) → IsSettled places settled → (at : PhraseAt) → is_among at settled ≡ is_among at places
settled_test places settled are at = by (is_among at settled) (is_among at places) refl refl
  where
    by : (a b : Bool) → is_among at settled ≡ a → is_among at places ≡ b → a ≡ b
    by true true e f = refl
    by false false e f = refl
    by true false e f =
        sym (list_any-from_Contains places_equiv at places ((are.each at).0 (Contains-from_any same_place at settled e))) ∙ f
    by false true e f =
        sym e ∙ list_any-from_Contains places_equiv at settled ((are.each at).1 (Contains-from_any same_place at places f))

pub uses_edited : (before after : Forest) (went came : List ℕ → List PhraseAt) → IsOutside before after went came
    → (uses gone new mended : PlainUses) → ((name : List ℕ) → AreUses name before (mentions_of name uses))
    → ((name : List ℕ) → IsSettled (went name) (mentions_of name gone)) → ((name : List ℕ) → IsSettled (came name) (mentions_of name new))
    → ((name : List ℕ) → IsNameMended uses gone new mended name)
    → (name : List ℕ) → AreUses name after (changed_or (lookup (bytes_eq name) mended) (mentions_of name uses))
uses_edited before after went came outside uses gone new mended are goes comes is name =
    let now = changed_or (lookup (bytes_eq name) mended) (mentions_of name uses) in
    let test : (at : PhraseAt) → is_among at now ≡ is_among at (mentions name after) =
    λ at.
    (is name).each at
    ∙ (λ i.
    is_left
    (settled_test (mentions name before) (mentions_of name uses) (record { increasing = (are name).increasing; each = (are name).each }) at i)
    (settled_test (went name) (mentions_of name gone) (goes name) at i) (settled_test (came name) (mentions_of name new) (comes name) at i))
    ∙ left_is (is_among at (mentions name before)) (is_among at (went name)) (is_among at (came name)) (outside.stays name at)
    (is_among at (mentions name after)) (outside.before_is name at) (outside.after_is name at) (outside.apart name at) in
    record {
      increasing = (is name).increasing;
      each = λ at. (
        λ there. Contains-from_any same_place at (mentions name after) (sym (test at) ∙ list_any-from_Contains places_equiv at now there),
        λ there. Contains-from_any same_place at now (test at ∙ list_any-from_Contains places_equiv at (mentions name after) there),
      );
    }
