-- Verdicts noted one after the other, and the marks among them.
use Rattle.std.proofs.Common.{◌≡◌, ℕ, ◌+◌, ◌≤◌, zero, suc, Bool, true, false, cond, List, [], ◌∷◌, ◌++◌, drop, length, Option, Some, None, slice_get, refl, sym, ap, subst, ◌∙◌, arith}
use Rattle.std.specs.Prelude.{◌&&◌, T, nat_eq, Result, Ok, Err, OnOk}
use Rattle.std.specs.FinMap.{empty, entries, entries_sorted, find, from_entries, get, get-entries, get-from_entries, get-insert, insert, is_sorted, same_map}
use Rattle.std.specs.List.{filter_map}
use Rattle.std.specs.Map.{lookup}
use Rattle.std.specs.Option.{option_flatten}
use Rattle.std.specs.Ordering.{eq_by_cmp, is_eq, is_lt}
use Rattle.std.specs.declared.cmp.Ordering.{Ordering}
use Rattle.std.specs.declared.cmp.Ordering.TheVariants.{Less, Equal, Greater}
use Rattle.std.specs.FinMap.Entries.{below_all}
use Rattle.std.proofs.lemmas.List.{append-nil, append_assoc, length-append}
use Rattle.plcs_base.specs.PlainCounts.{ChecksAtMost, PlainCounts}
use Rattle.plcs_base.specs.Mark.{phrase_cmp}
use Rattle.plcs_base.specs.declared.mark.MarkKind.{MarkKind}
use Rattle.plcs_base.specs.declared.place.PhraseAt.{PhraseAt}
use Rattle.plcs_base.specs.ListLeft.{left_from, none_left}
use Rattle.plcs_base.specs.PlaceOrder.{place_test_equiv, place_ties, places_total, same_place}
use Rattle.template_tree.specs.Checks.Marks.{VerdictList, VerdictMap, node_verdicts, offence_at, offences, part_verdicts, procedure_verdicts, surroundings}
use Rattle.template_tree.specs.Checks.Mention.{phrase_at}
use Rattle.template_tree.specs.Programs.PlainTree.{Forest, PlainNode, forest, forest_nodes, nodes}
use Rattle.template_tree.specs.Checks.Verdict.{Surroundings, verdict}
use Rattle.plcs_grammar.specs.PlainPhrase.{PlainPhrase}
use Rattle.type_marks.specs.MarkEdit.{with_all}

-- what follows where it is Ok
pub then_ok : {T E : Type 0} (r : Result T E) {P Q : Type 0} → (P → Q) → OnOk r P → OnOk r Q
then_ok (Ok x) follows holds = follows holds
then_ok (Err e) follows holds = holds

-- ---- lists of verdicts before what a map has

pub with_both : (one other : VerdictList) (verdicts : VerdictMap) → with_all (one ++ other) verdicts ≡ with_all one (with_all other verdicts)
with_both [] other verdicts = refl
with_both (entry ∷ one) other verdicts = ap (λ (m : VerdictMap). insert m entry.0 entry.1) (with_both one other verdicts)

pub with_none : (list : VerdictList) → with_all list empty ≡ (let m : VerdictMap = from_entries list in m)
with_none [] = refl
with_none (entry ∷ list) = ap (λ (m : VerdictMap). insert m entry.0 entry.1) (with_none list)

-- ---- the verdicts of what is left of a list

pub nodes_left : (program : Forest) (procedure : PlainNode) (all : Forest) (node : PlainNode) (rest : Forest)
    → all ≡ Forest.cons node.label node.inner rest
    → node_verdicts program procedure all ≡ node_verdicts program procedure (forest (node ∷ [])) ++ node_verdicts program procedure rest
nodes_left program procedure all node rest is =
    ap (node_verdicts program procedure) is
    ∙ assoc (part_verdicts (surroundings program procedure node.label.slot) node.label.slot 0 node.label.parts) (node_verdicts program procedure node.inner) (node_verdicts program procedure rest)
    ∙ ap (λ vs. (part_verdicts (surroundings program procedure node.label.slot) node.label.slot 0 node.label.parts ++ vs) ++ node_verdicts program procedure rest)
    (sym (append-nil (node_verdicts program procedure node.inner)))
  where
    assoc : (a b c : VerdictList) → a ++ (b ++ c) ≡ (a ++ b) ++ c
    assoc a b c = sym (append_assoc a b c)

-- the verdicts of a node are those of its parts and those of what stands in it
pub node_parts : (program : Forest) (procedure node : PlainNode)
    → node_verdicts program procedure (forest (node ∷ []))
    ≡ part_verdicts (surroundings program procedure node.label.slot) node.label.slot 0 node.label.parts ++ node_verdicts program procedure node.inner
node_parts program procedure node =
    ap (λ vs. part_verdicts (surroundings program procedure node.label.slot) node.label.slot 0 node.label.parts ++ vs)
    (append-nil (node_verdicts program procedure node.inner))

-- the verdicts of main or a procedure and those behind it
pub procedures_left : (program all : Forest) (procedure : PlainNode) (rest : Forest) → all ≡ Forest.cons procedure.label procedure.inner rest
    → procedure_verdicts program all ≡ node_verdicts program procedure (forest (procedure ∷ [])) ++ procedure_verdicts program rest
procedures_left program all procedure rest is = ap (procedure_verdicts program) is

-- fewer nodes have fewer verdicts
pub nodes_shorter : (program : Forest) (procedure : PlainNode) (k : ℕ) (list : List PlainNode)
    → length (node_verdicts program procedure (forest (drop k list))) ≤ length (node_verdicts program procedure (forest list))
nodes_shorter program procedure zero list = omega arith
nodes_shorter program procedure (suc k) [] = omega arith
nodes_shorter program procedure (suc k) (node ∷ list) =
    let parts = part_verdicts (surroundings program procedure node.label.slot) node.label.slot 0 node.label.parts in
    let inside = node_verdicts program procedure node.inner in
    let behind = node_verdicts program procedure (forest list) in
    omega (arith, nodes_shorter program procedure k list, length-append parts (inside ++ behind), length-append inside behind)

pub procedures_shorter : (program : Forest) (k : ℕ) (list : List PlainNode)
    → length (procedure_verdicts program (forest (drop k list))) ≤ length (procedure_verdicts program (forest list))
procedures_shorter program zero list = omega arith
procedures_shorter program (suc k) [] = omega arith
procedures_shorter program (suc k) (node ∷ list) =
    let own = node_verdicts program node (forest (node ∷ [])) in
    let behind = procedure_verdicts program (forest list) in
    omega (arith, procedures_shorter program k list, length-append own behind)

-- ---- the map in memory

-- the test of a place under which the map keeps verdicts
abbrev pub place_test : PhraseAt → PhraseAt → Bool
place_test one other = nat_eq one.slot.0 other.slot.0 && nat_eq one.part other.part

pub found : (list : VerdictList) (at : PhraseAt) → get (let m : VerdictMap = from_entries list in m) at ≡ lookup (place_test at) list
found list at = get-from_entries places_total list at ∙ listed list
  where
    listed : (list : VerdictList) → find phrase_cmp at list ≡ lookup (place_test at) list
    listed [] = refl
    listed (entry ∷ list) =
        ap (λ b. cond b (Some entry.1) (find phrase_cmp at list)) (sym (place_ties at entry.0))
        ∙ ap (λ o. cond (place_test at entry.0) (Some entry.1) o) (listed list)

only_equal : (x y : PhraseAt) → phrase_cmp x y ≡ Equal → x ≡ y
only_equal x y is = same_place x y (ap is_eq is)

-- what is put under a place is inserted
pub put : (at : PhraseAt) (verdict : Option MarkKind) (old new : VerdictList)
    → ((q : PhraseAt) → lookup (place_test q) new ≡ cond (place_test at q) (Some verdict) (lookup (place_test q) old))
    → (let m : VerdictMap = from_entries new in m) ≡ insert (let m : VerdictMap = from_entries old in m) at verdict
put at verdict old new is =
    same_map places_total only_equal _ _
    (λ q. found new q
    ∙ is q
    ∙ ap (λ b. cond b (Some verdict) (lookup (place_test q) old)) (place_test_equiv.symm at q ∙ place_ties q at)
    ∙ ap (λ o. cond (eq_by_cmp phrase_cmp q at) (Some verdict) o) (sym (found old q))
    ∙ sym (get-insert places_total (let m : VerdictMap = from_entries old in m) at verdict q))

-- ---- the marks among verdicts

below_none : (q : PhraseAt) (es : VerdictList) → T (below_all phrase_cmp q es) → find phrase_cmp q es ≡ None
below_none q [] below = refl
below_none q (e ∷ es) below = by (phrase_cmp q e.0) below (below_none q es)
  where
    by : (o : Ordering) → T (is_lt o && below_all phrase_cmp q es) → (T (below_all phrase_cmp q es) → find phrase_cmp q es ≡ None)
        → cond (is_eq o) (Some e.1) (find phrase_cmp q es) ≡ None
    by Less below again = again below
    by Equal below again = absurd below
    by Greater below again = absurd below

-- the mark at a place is the offence of the verdict there
pub mark_at : (verdicts : VerdictMap) (at : PhraseAt) → get (offences verdicts) at ≡ option_flatten (get verdicts at)
mark_at verdicts at =
    get-from_entries places_total (filter_map offence_at (entries verdicts)) at
    ∙ listed (entries verdicts) (entries_sorted verdicts)
    ∙ ap option_flatten (sym (get-entries verdicts at))
  where
    first : (a b : Bool) → T (a && b) → T a
    first true b p = tt
    first false b p = absurd p

    second : (a b : Bool) → T (a && b) → T b
    second true b p = p
    second false b p = absurd p

    step : (e : PhraseAt × Option MarkKind) (es : VerdictList) → T (below_all phrase_cmp e.0 es)
        → find phrase_cmp at (filter_map offence_at es) ≡ option_flatten (find phrase_cmp at es)
        → find phrase_cmp at (filter_map offence_at (e ∷ es)) ≡ option_flatten (find phrase_cmp at (e ∷ es))
    step (key, None) es below rest = by (eq_by_cmp phrase_cmp at key) refl
      where
        by : (b : Bool) → eq_by_cmp phrase_cmp at key ≡ b
            → find phrase_cmp at (filter_map offence_at es) ≡ option_flatten (cond b (Some None) (find phrase_cmp at es))
        by false other = rest
        by true same =
            rest
            ∙ ap option_flatten (below_none at es (subst (λ k. T (below_all phrase_cmp k es)) (sym (same_place at key same)) below))
    step (key, Some kind) es below rest = by (eq_by_cmp phrase_cmp at key)
      where
        by : (b : Bool)
            → cond b (Some kind) (find phrase_cmp at (filter_map offence_at es)) ≡ option_flatten (cond b (Some (Some kind)) (find phrase_cmp at es))
        by true = refl
        by false = rest

    listed : (es : VerdictList) → T (is_sorted phrase_cmp es) → find phrase_cmp at (filter_map offence_at es) ≡ option_flatten (find phrase_cmp at es)
    listed [] sorted = refl
    listed (e ∷ es) sorted =
        step e es (first (below_all phrase_cmp e.0 es) (is_sorted phrase_cmp es) sorted)
        (listed es (second (below_all phrase_cmp e.0 es) (is_sorted phrase_cmp es) sorted))

-- ---- the parts that are left

module _ (s : Surroundings) (slot part : ℕ) (parts : List (Option PlainPhrase)) where
  -- an empty part has no verdict
  pub part_empty : slice_get parts part ≡ Some None
      → part_verdicts s slot part (drop part parts) ≡ part_verdicts s slot (part + 1) (drop (part + 1) parts)
  part_empty there = ap (part_verdicts s slot part) (left_from parts part None there)

  -- a filled one has that of its phrase
  pub part_filled : (phrase : PlainPhrase) → slice_get parts part ≡ Some (Some phrase)
      → part_verdicts s slot part (drop part parts) ≡ (phrase_at slot part, verdict s phrase) ∷ part_verdicts s slot (part + 1) (drop (part + 1) parts)
  part_filled phrase there = ap (part_verdicts s slot part) (left_from parts part (Some phrase) there)

  -- behind the last part there is none
  part_none : slice_get parts part ≡ None → part_verdicts s slot part (drop part parts) ≡ []
  part_none none = ap (part_verdicts s slot part) (none_left parts part none)

  pub noted_none : (before : VerdictMap) → slice_get parts part ≡ None → before ≡ with_all (part_verdicts s slot part (drop part parts)) before
  noted_none before none = ap (λ (vs : VerdictList). with_all vs before) (sym (part_none none))

  -- the verdicts of the parts behind one are no more
  pub parts_shorter : (place : Option PlainPhrase) → slice_get parts part ≡ Some place
      → length (part_verdicts s slot (part + 1) (drop (part + 1) parts)) ≤ length (part_verdicts s slot part (drop part parts))
  parts_shorter None there = omega (arith, ap (λ (verdicts : VerdictList). length verdicts) (part_empty there))
  parts_shorter (Some phrase) there = omega (arith, ap (λ (verdicts : VerdictList). length verdicts) (part_filled phrase there))

  -- the verdict of a phrase comes before those of the parts behind it
  pub noted_part : (phrase : PlainPhrase) (before verdicts after : VerdictMap) (at : PhraseAt) (found : Option MarkKind)
      → slice_get parts part ≡ Some (Some phrase) → at ≡ phrase_at slot part → found ≡ verdict s phrase
      → verdicts ≡ with_all (part_verdicts s slot (part + 1) (drop (part + 1) parts)) before → after ≡ insert verdicts at found
      → after ≡ with_all (part_verdicts s slot part (drop part parts)) before
  noted_part phrase before verdicts after at found there at_is found_is noted is =
      let behind = with_all (part_verdicts s slot (part + 1) (drop (part + 1) parts)) before in
      is
      ∙ ap (λ (m : VerdictMap). insert m at found) noted
      ∙ ap (λ (p : PhraseAt). insert behind p found) at_is
      ∙ ap (λ (v : Option MarkKind). insert behind (phrase_at slot part) v) found_is
      ∙ ap (λ (vs : VerdictList). with_all vs before) (sym (part_filled phrase there))

-- ---- the nodes that are left

module _ (program : Forest) (procedure : PlainNode) (all : List PlainNode) (k next : ℕ) (node : PlainNode)
    (there : slice_get all k ≡ Some node) (is_next : k + 1 ≡ next) where
  node_left : node_verdicts program procedure (forest (drop k all))
      ≡ node_verdicts program procedure (forest (node ∷ [])) ++ node_verdicts program procedure (forest (drop next all))
  node_left =
      nodes_left program procedure (forest (drop k all)) node (forest (drop next all))
      (ap forest (left_from all k node there) ∙ ap (λ n. Forest.cons node.label node.inner (forest (drop n all))) is_next)

  -- the verdicts of a node come before those of the nodes behind it
  pub noted_node : (before verdicts after : VerdictMap)
      → verdicts ≡ with_all (node_verdicts program procedure (forest (drop next all))) before
      → after ≡ with_all (node_verdicts program procedure (forest (node ∷ []))) verdicts
      → after ≡ with_all (node_verdicts program procedure (forest (drop k all))) before
  noted_node before verdicts after noted is =
      let own = node_verdicts program procedure (forest (node ∷ [])) in
      let behind = node_verdicts program procedure (forest (drop next all)) in
      is
      ∙ ap (λ (m : VerdictMap). with_all own m) noted
      ∙ sym (with_both own behind before)
      ∙ ap (λ (vs : VerdictList). with_all vs before) (sym node_left)

  -- so many they are
  pub node_more : length (node_verdicts program procedure (forest (drop k all)))
      ≡ length (node_verdicts program procedure (forest (node ∷ []))) + length (node_verdicts program procedure (forest (drop next all)))
  node_more =
      ap (λ (vs : VerdictList). length vs) node_left
      ∙ length-append (node_verdicts program procedure (forest (node ∷ []))) (node_verdicts program procedure (forest (drop next all)))

module _ (program : Forest) (all : List PlainNode) (k next : ℕ) (procedure : PlainNode)
    (there : slice_get all k ≡ Some procedure) (is_next : k + 1 ≡ next) where
  procedure_left : procedure_verdicts program (forest (drop k all))
      ≡ node_verdicts program procedure (forest (procedure ∷ [])) ++ procedure_verdicts program (forest (drop next all))
  procedure_left =
      procedures_left program (forest (drop k all)) procedure (forest (drop next all))
      (ap forest (left_from all k procedure there) ∙ ap (λ n. Forest.cons procedure.label procedure.inner (forest (drop n all))) is_next)

  -- the verdicts of a procedure come before those of the procedures behind it
  pub noted_procedure : (verdicts after : VerdictMap)
      → verdicts ≡ (let m : VerdictMap = from_entries (procedure_verdicts program (forest (drop next all))) in m)
      → after ≡ with_all (node_verdicts program procedure (forest (procedure ∷ []))) verdicts
      → after ≡ (let m : VerdictMap = from_entries (procedure_verdicts program (forest (drop k all))) in m)
  noted_procedure verdicts after noted is =
      let own = node_verdicts program procedure (forest (procedure ∷ [])) in
      let behind = procedure_verdicts program (forest (drop next all)) in
      is
      ∙ ap (λ (m : VerdictMap). with_all own m) (noted ∙ sym (with_none behind))
      ∙ sym (with_both own behind empty)
      ∙ with_none (own ++ behind)
      ∙ ap (λ (vs : VerdictList). let m : VerdictMap = from_entries vs in m) (sym procedure_left)

  pub procedure_more : length (procedure_verdicts program (forest (drop k all)))
      ≡ length (node_verdicts program procedure (forest (procedure ∷ []))) + length (procedure_verdicts program (forest (drop next all)))
  procedure_more =
      ap (λ (vs : VerdictList). length vs) procedure_left
      ∙ length-append (node_verdicts program procedure (forest (procedure ∷ []))) (procedure_verdicts program (forest (drop next all)))

-- ---- a node after those that stand in it

module _ (program : Forest) (procedure node : PlainNode) where
  -- the verdicts of a node's parts come before those of the nodes in it
  pub noted_all : (k : ℕ) (before verdicts after : VerdictMap) → k ≡ 0
      → verdicts ≡ with_all (node_verdicts program procedure (forest (drop k (nodes node.inner)))) before
      → after ≡ with_all (part_verdicts (surroundings program procedure node.label.slot) node.label.slot 0 node.label.parts) verdicts
      → after ≡ with_all (node_verdicts program procedure (forest (node ∷ []))) before
  noted_all k before verdicts after none noted is =
      let own = part_verdicts (surroundings program procedure node.label.slot) node.label.slot 0 node.label.parts in
      is
      ∙ ap (λ (m : VerdictMap). with_all own m)
      (noted ∙ ap (λ n. with_all (node_verdicts program procedure (forest (drop n (nodes node.inner)))) before) none
      ∙ ap (λ (inner : Forest). with_all (node_verdicts program procedure inner) before) (forest_nodes node.inner))
      ∙ sym (with_both own (node_verdicts program procedure node.inner) before)
      ∙ ap (λ (vs : VerdictList). with_all vs before) (sym (node_parts program procedure node))

  -- the verdicts of its parts, and of some of the nodes in it, are no more than its own
  pub all_more : (k : ℕ)
      → length (part_verdicts (surroundings program procedure node.label.slot) node.label.slot 0 node.label.parts)
      + length (node_verdicts program procedure (forest (drop k (nodes node.inner))))
      ≤ length (node_verdicts program procedure (forest (node ∷ [])))
  all_more k =
      let own = part_verdicts (surroundings program procedure node.label.slot) node.label.slot 0 node.label.parts in
      let whole : length (node_verdicts program procedure (forest (node ∷ []))) ≡ length own + length (node_verdicts program procedure node.inner) =
      ap (λ (vs : VerdictList). length vs) (node_parts program procedure node) ∙ length-append own (node_verdicts program procedure node.inner) in
      let inside = ap (λ (inner : Forest). length (node_verdicts program procedure inner)) (forest_nodes node.inner) in
      omega (arith, whole, inside, nodes_shorter program procedure k (nodes node.inner))

-- ---- bounds on checks

-- where a bound is met, so is a greater one
pub at_most : (few most : ℕ) (before now : PlainCounts) → few ≤ most → ChecksAtMost few before now → ChecksAtMost most before now
at_most few most before now less met = record {
  most = omega (arith, less, met.most);
  later = met.later;
  others = met.others;
}
