-- What is noted under names, one after the other.
use Rattle.std.proofs.Common.{◌≡◌, ℕ, ◌+◌, ◌<◌, zero, suc, Bool, true, false, cond, List, [], ◌∷◌, ◌++◌, length, drop, get_or, Option, Some, None, slice_get, refl, sym, ap, subst, ◌∙◌, add-one, drop-cons, arith}
use Rattle.std.specs.Prelude.{◌&&◌, ◌||◌, bytes_eq, unwrap_or, Result, Ok, Err, OnOk}
use Rattle.std.specs.List.{list_any}
use Rattle.std.specs.Map.{lookup}
use Rattle.std.specs.Option.{option_flatten}
use Rattle.std.specs.Ordering.{eq_by_cmp}
use Rattle.std.proofs.lemmas.Option.{none-some}
use Rattle.plcs_base.specs.ListLeft.{left_from}
use Rattle.std.proofs.lemmas.List.Folds.{list_any-append}
use Rattle.std.proofs.lemmas.Slice.Eq.{bytes_eq-Decides}
use Rattle.plcs_base.specs.Mark.{phrase_cmp}
use Rattle.plcs_base.specs.declared.place.PhraseAt.{PhraseAt}
use Rattle.template_tree.specs.Checks.Mention.{phrase_at}
use Rattle.decl_table.specs.Names.{NameForest}
use Rattle.decl_table.specs.PlainDecls.{PlainUses, mentions_of}
use Rattle.decl_table.specs.Private.PlainNameNode.{HaveFewParts, PlainNameNode, kept_mention, kept_mentions, kept_part_mentions, name_forest, node_names}
use Rattle.decl_table.specs.Private.UsesView.{Adds, AddsUnderNames, is_among}

-- what follows where it is Ok
pub then_ok : {T E : Type 0} (r : Result T E) {P Q : Type 0} → (P → Q) → OnOk r P → OnOk r Q
then_ok (Ok x) f holds = f holds
then_ok (Err e) f holds = holds

-- ---- tests of a name and a place

pub or_assoc : (a b c : Bool) → ((a || b) || c) ≡ (a || (b || c))
or_assoc true b c = refl
or_assoc false b c = refl

pub or_comm : (a b : Bool) → (a || b) ≡ (b || a)
or_comm true true = refl
or_comm true false = refl
or_comm false true = refl
or_comm false false = refl

or_false : (a : Bool) → a ≡ (a || false)
or_false true = refl
or_false false = refl

and_or : (x y s : Bool) → ((x || y) && s) ≡ ((x && s) || (y && s))
and_or true true true = refl
and_or true true false = refl
and_or true false true = refl
and_or true false false = refl
and_or false y s = refl

-- a test of a name and a place
abbrev pub Test : Type 0
Test = List ℕ → PhraseAt → Bool

-- whether one of the names is noted at the place
abbrev pub of_names : List (List ℕ) → PhraseAt → Test
of_names names place name at = list_any (bytes_eq name) names && eq_by_cmp phrase_cmp at place

pub of_names-append : (xs ys : List (List ℕ)) (place : PhraseAt) (name : List ℕ) (at : PhraseAt)
    → of_names (xs ++ ys) place name at ≡ (of_names xs place name at || of_names ys place name at)
of_names-append xs ys place name at =
    ap (λ b. b && eq_by_cmp phrase_cmp at place) (list_any-append (bytes_eq name) xs ys)
    ∙ and_or (list_any (bytes_eq name) xs) (list_any (bytes_eq name) ys) (eq_by_cmp phrase_cmp at place)

-- what is left of a list from an element on is the element and what is left behind it
pub left_behind : {X : Type 0} (xs : List X) (i : ℕ) (x : X) → i < length xs → x ≡ get_or xs i x → drop i xs ≡ x ∷ drop (i + 1) xs
left_behind xs i x inside is = drop-cons xs i x inside ∙ ap (λ y. y ∷ drop (suc i) xs) (sym is) ∙ ap (λ n. x ∷ drop n xs) (sym (add-one i))

-- the names that are left are the next one and those behind it
pub of_names-next : (names : List (List ℕ)) (i : ℕ) (next : List ℕ) (place : PhraseAt) → i < length names → next ≡ get_or names i next
    → (name : List ℕ) (at : PhraseAt)
    → of_names (drop i names) place name at ≡ (of_names (next ∷ []) place name at || of_names (drop (i + 1) names) place name at)
of_names-next names i next place inside is name at =
    ap (λ left. of_names left place name at) (left_behind names i next inside is)
    ∙ of_names-append (next ∷ []) (drop (i + 1) names) place name at

-- whether the place is that of a phrase in what stands in a part, in parts, in nodes
abbrev pub of_place : PhraseAt → Option (List (List ℕ)) → Test
of_place place names name at = is_among at (kept_mention name place names)

abbrev pub of_parts : (slot part : ℕ) → List (Option (List (List ℕ))) → Test
of_parts slot part parts name at = is_among at (kept_part_mentions name slot part parts)

abbrev pub of_nodes : NameForest → Test
of_nodes nodes name at = is_among at (kept_mentions name nodes)

-- ---- nothing, and one part after the other

pub adds_none : (test : Test) (uses : PlainUses) → ((name : List ℕ) (at : PhraseAt) → test name at ≡ false) → Adds test uses uses
adds_none test uses none name at = or_false (is_among at (mentions_of name uses)) ∙ ap (λ b. is_among at (mentions_of name uses) || b) (sym (none name at))

pub adds_both : (one other all : Test) (old mid new : PlainUses) → Adds one old mid → Adds other mid new
    → ((name : List ℕ) (at : PhraseAt) → all name at ≡ (one name at || other name at)) → Adds all old new
adds_both one other all old mid new first then is name at =
    then name at
    ∙ ap (λ b. b || other name at) (first name at)
    ∙ or_assoc (is_among at (mentions_of name old)) (one name at) (other name at)
    ∙ ap (λ b. is_among at (mentions_of name old) || b) (sym (is name at))

-- ---- what is left to note

-- with what the rest adds, all is added
abbrev pub Leaves : (rest all : Test) → (first now : PlainUses) → Type 0
Leaves rest all first now =
    (name : List ℕ) (at : PhraseAt) → (is_among at (mentions_of name now) || rest name at) ≡ (is_among at (mentions_of name first) || all name at)

pub leaves_all : (all : Test) (first : PlainUses) → Leaves all all first first
leaves_all all first name at = refl

pub leaves_next : (step rest left all : Test) (first now next : PlainUses) → Adds step now next
    → ((name : List ℕ) (at : PhraseAt) → left name at ≡ (step name at || rest name at)) → Leaves left all first now → Leaves rest all first next
leaves_next step rest left all first now next adds is leaves name at =
    ap (λ b. b || rest name at) (adds name at)
    ∙ or_assoc (is_among at (mentions_of name now)) (step name at) (rest name at)
    ∙ ap (λ b. is_among at (mentions_of name now) || b) (sym (is name at))
    ∙ leaves name at

pub adds_last : (rest all : Test) (first now new : PlainUses) → Adds rest now new → Leaves rest all first now → Adds all first new
adds_last rest all first now new adds leaves name at = adds name at ∙ leaves name at

pub leaves_none : (rest all : Test) (first now : PlainUses) → ((name : List ℕ) (at : PhraseAt) → rest name at ≡ false)
    → Leaves rest all first now → Adds all first now
leaves_none rest all first now none leaves = adds_last rest all first now now (adds_none rest now none) leaves

-- ---- one name

-- the test of names goes both ways
pub same_name : (xs ys : List ℕ) → bytes_eq xs ys ≡ bytes_eq ys xs
same_name xs ys = by (bytes_eq xs ys) (bytes_eq ys xs) refl refl
  where
    by : (a b : Bool) → bytes_eq xs ys ≡ a → bytes_eq ys xs ≡ b → a ≡ b
    by true true e f = refl
    by false false e f = refl
    by true false e f = sym ((bytes_eq-Decides ys xs).1 (sym ((bytes_eq-Decides xs ys).0 e))) ∙ f
    by false true e f = sym e ∙ (bytes_eq-Decides xs ys).1 (sym ((bytes_eq-Decides ys xs).0 f))

-- where a place comes behind those that are under the name
pub noted : (key : List ℕ) (place : PhraseAt) (places : List PhraseAt) (old new : PlainUses)
    → mentions_of key old ≡ places
    → ((name : List ℕ) → lookup (bytes_eq name) new ≡ cond (bytes_eq key name) (Some (places ++ (place ∷ []))) (lookup (bytes_eq name) old))
    → AddsUnderNames (key ∷ []) place old new
noted key place places old new held is name at =
    ap (λ o. is_among at (unwrap_or o [])) (is name)
    ∙ by (bytes_eq key name) refl
    ∙ ap (λ b. is_among at (mentions_of name old) || ((b || false) && eq_by_cmp phrase_cmp at place)) (same_name key name)
  where
    tail : (a b : Bool) → (a || (b || false)) ≡ (a || b)
    tail true b = refl
    tail false true = refl
    tail false false = refl

    plain : (a : Bool) → a ≡ (a || false)
    plain true = refl
    plain false = refl

    by : (here : Bool) → bytes_eq key name ≡ here
        → is_among at (unwrap_or (cond here (Some (places ++ (place ∷ []))) (lookup (bytes_eq name) old)) [])
        ≡ (is_among at (mentions_of name old) || ((here || false) && eq_by_cmp phrase_cmp at place))
    by true here =
        list_any-append (eq_by_cmp phrase_cmp at) places (place ∷ [])
        ∙ tail (is_among at places) (eq_by_cmp phrase_cmp at place)
        ∙ ap (λ all. is_among at all || eq_by_cmp phrase_cmp at place) (sym held ∙ ap (λ n. mentions_of n old) ((bytes_eq-Decides key name).0 here))
    by false here = plain (is_among at (mentions_of name old))

-- ---- what a part adds

-- the names of the phrase in it
pub of_phrase : (place : PhraseAt) (names : List (List ℕ)) (name : List ℕ) (at : PhraseAt)
    → of_place place (Some names) name at ≡ of_names names place name at
of_phrase place names name at = by (list_any (bytes_eq name) names)
  where
    plain : (a : Bool) → (a || false) ≡ a
    plain true = refl
    plain false = refl

    by : (mentions : Bool) → is_among at (cond mentions (place ∷ []) []) ≡ (mentions && eq_by_cmp phrase_cmp at place)
    by true = plain (eq_by_cmp phrase_cmp at place)
    by false = refl

-- the parts from one on
pub of_parts-next : (slot part : ℕ) (parts : List (Option (List (List ℕ)))) (place : Option (List (List ℕ)))
    (rest : List (Option (List (List ℕ))))
    → parts ≡ place ∷ rest → (name : List ℕ) (at : PhraseAt)
    → of_parts slot part parts name at ≡ (of_place (phrase_at slot part) place name at || of_parts slot (part + 1) rest name at)
of_parts-next slot part parts place rest is name at =
    ap (λ all. of_parts slot part all name at) is
    ∙ list_any-append (eq_by_cmp phrase_cmp at) (kept_mention name (phrase_at slot part) place) (kept_part_mentions name slot (part + 1) rest)

-- one that is there
pub there_is : {X : Type 0} (xs : List X) (k : ℕ) → k < length xs → (x : X) × (slice_get xs k ≡ Some x)
there_is [] k within = absurd (omega (arith, within))
there_is (x ∷ xs) zero within = (x, refl)
there_is (x ∷ xs) (suc k) within = there_is xs k (omega (arith, within))

-- those that are left are the one of the number and those behind it
pub of_parts-turn : (slot part : ℕ) (parts : List (Option (List (List ℕ)))) → part < length parts → (name : List ℕ) (at : PhraseAt)
    → of_parts slot part (drop part parts) name at
    ≡ (of_place (phrase_at slot part) (option_flatten (slice_get parts part)) name at || of_parts slot (part + 1) (drop (part + 1) parts) name at)
of_parts-turn slot part parts within name at =
    let found = there_is parts part within in
    of_parts-next slot part (drop part parts) found.0 (drop (part + 1) parts) (left_from parts part found.0 found.1) name at
    ∙ ap (λ o. of_place (phrase_at slot part) (option_flatten o) name at || of_parts slot (part + 1) (drop (part + 1) parts) name at) (sym found.1)

-- ---- what a node adds

-- its parts, what stands inside it, and the nodes behind it
pub of_nodes-next : (nodes : NameForest) (node : PlainNameNode) (rest : NameForest) → nodes ≡ NameForest.cons node.label node.inner rest
    → (name : List ℕ) (at : PhraseAt)
    → of_nodes nodes name at
    ≡ (of_parts node.label.slot 0 node.label.parts name at || (of_nodes node.inner name at || of_nodes rest name at))
of_nodes-next nodes node rest is name at =
    ap (λ all. of_nodes all name at) is
    ∙ list_any-append (eq_by_cmp phrase_cmp at) (kept_part_mentions name node.label.slot 0 node.label.parts)
    (kept_mentions name node.inner ++ kept_mentions name rest)
    ∙ ap (λ b. of_parts node.label.slot 0 node.label.parts name at || b)
    (list_any-append (eq_by_cmp phrase_cmp at) (kept_mentions name node.inner) (kept_mentions name rest))

-- a node alone adds its parts and what stands inside it
pub of_node : (node : PlainNameNode) (name : List ℕ) (at : PhraseAt)
    → of_nodes (node_names node) name at ≡ (of_parts node.label.slot 0 node.label.parts name at || of_nodes node.inner name at)
of_node node name at =
    of_nodes-next (node_names node) node NameForest.nil refl name at
    ∙ ap (λ b. of_parts node.label.slot 0 node.label.parts name at || b) (sym (or_false (of_nodes node.inner name at)))

-- nodes add the first and the others
pub of_nodes-first : (nodes : NameForest) (node : PlainNameNode) (rest : NameForest) → nodes ≡ NameForest.cons node.label node.inner rest
    → (name : List ℕ) (at : PhraseAt) → of_nodes nodes name at ≡ (of_nodes (node_names node) name at || of_nodes rest name at)
of_nodes-first nodes node rest is name at =
    of_nodes-next nodes node rest is name at
    ∙ sym (or_assoc (of_parts node.label.slot 0 node.label.parts name at) (of_nodes node.inner name at) (of_nodes rest name at))
    ∙ ap (λ b. b || of_nodes rest name at) (sym (of_node node name at))

-- ---- nodes in memory

abbrev taken : PlainNameNode → Option PlainNameNode → PlainNameNode
taken node None = node
taken node (Some there) = there

-- a node among nodes has few parts where all have
pub few_of : (nodes : List PlainNameNode) (k : ℕ) (node : PlainNameNode) → slice_get nodes k ≡ Some node
    → HaveFewParts (name_forest nodes) → HaveFewParts (node_names node)
few_of [] k node there few = absurd (none-some node there)
few_of (first ∷ nodes) zero node there few =
    subst (λ n. HaveFewParts (node_names n)) (ap (taken node) there) (few.0, few.1, tt)
few_of (first ∷ nodes) (suc k) node there few = few_of nodes k node there few.2
