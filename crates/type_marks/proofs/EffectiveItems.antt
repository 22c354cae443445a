-- Which item is the effective one of its name.
use Rattle.std.proofs.Common.{◌≡◌, ℕ, ◌+◌, ◌<◌, ◌≤◌, Bool, true, false, cond, List, [], ◌∷◌, ◌++◌, Option, Some, None, refl, sym, ap, subst, ◌∙◌, arith}
use Rattle.std.specs.Prelude.{◌&&◌, ◌||◌, bytes_eq, is_some, nat_eq, nat_lt, sum_by}
use Rattle.std.specs.Option.{option_or}
use Rattle.std.proofs.lemmas.Bool.Decides.{nat_tests}
use Rattle.std.proofs.lemmas.List.Folds.{find-append, list_any-append}
use Rattle.std.proofs.lemmas.List.Sums.{sum_by-append}
use Rattle.std.proofs.lemmas.Slice.Eq.{bytes_eq-Decides}
use Rattle.std.proofs.lemmas.Bool.{or_right}
use Rattle.plcs_base.specs.declared.declared.Declared.{Declared}
use Rattle.plcs_base.specs.declared.mark.MarkKind.{MarkKind}
use Rattle.plcs_grammar.specs.declared.builtin.Builtin.{Builtin}
use Rattle.plcs_grammar.specs.Builtin.{builtin_of, is_builtin_name}
use Rattle.template_tree.specs.Checks.Environment.{cells, cells_of, effective, item_named, item_offence, with_declared}
use Rattle.template_tree.specs.Programs.Limit.{most_cells}
use Rattle.type_marks.specs.Private.DeclaredItems.{has_such, is_such, judged_as, judged_item}

-- ---- item after item

pub effective_append : (before first rest : List Declared) → effective before (first ++ rest) ≡ effective (effective before first) rest
effective_append before [] rest = refl
effective_append before (item ∷ first) rest = effective_append (with_declared before item) first rest

-- ---- tests

less : (m n : ℕ) → nat_lt m n ≡ true → m < n
less m n is = grind (arith, nat_tests)

not_less : (m n : ℕ) → nat_lt m n ≡ false → n ≤ m
not_less m n is = grind (arith, nat_tests)

same : (m n : ℕ) → nat_eq m n ≡ true → m ≡ n
same m n is = grind (arith, nat_tests)

itself : (n : ℕ) → nat_eq n n ≡ true
itself n = grind (arith, nat_tests)

name_itself : (name : List ℕ) → bytes_eq name name ≡ true
name_itself name = (bytes_eq-Decides name name).1 refl

and_first : (a b : Bool) → (a && b) ≡ true → a ≡ true
and_first true b is = refl
and_first false b is = is

and_second : (a b : Bool) → (a && b) ≡ true → b ≡ true
and_second true b is = is
and_second false b is = absurd (cc)

some_is : {A : Type 0} (x y : A) → Some x ≡ Some y → x ≡ y
some_is x y is = cc

-- ---- one more item

-- what an item comes to, by the three tests
abbrev offence_by : (reserved named many : Bool) → Option MarkKind
offence_by reserved named many =
    cond reserved (Some MarkKind.Reserved) (cond named (Some MarkKind.Duplicate) (cond many (Some MarkKind.TooManyCells) None))

abbrev named_in : List ℕ → List Declared → Bool
named_in name items = is_some (item_named name items)

abbrev too_many : List Declared → ℕ → Bool
too_many before count = nat_lt most_cells (cells before + count)

named_more : (name : List ℕ) (before : List Declared) (item : Declared)
    → item_named name (before ++ (item ∷ [])) ≡ option_or (item_named name before) (cond (bytes_eq name item.name) (Some item) None)
named_more name before item = find-append (λ (item : Declared). bytes_eq name item.name) before (item ∷ [])

cells_more : (before : List Declared) (item : Declared) → cells (before ++ (item ∷ [])) ≡ cells before + cells_of item
cells_more before item =
    let sums = sum_by-append cells_of before (item ∷ []) in
    let one : sum_by cells_of (item ∷ []) ≡ cells_of item = omega arith in
    sums ∙ ap (λ n. cells before + n) one

-- an item that is named stays
stays_one : (name : List ℕ) (before : List Declared) (item known : Declared) → item_named name before ≡ Some known
    → item_named name (with_declared before item) ≡ Some known
stays_one name before item known is = by (is_some (item_offence before item))
  where
    by : (offence : Bool) → item_named name (cond offence before (before ++ (item ∷ []))) ≡ Some known
    by true = is
    by false = named_more name before item ∙ ap (λ o. option_or o (cond (bytes_eq name item.name) (Some item) None)) is

stays : (name : List ℕ) (before rest : List Declared) (known : Declared) → item_named name before ≡ Some known
    → item_named name (effective before rest) ≡ Some known
stays name before [] known is = is
stays name before (item ∷ rest) known is = stays name (with_declared before item) rest known (stays_one name before item known is)

-- cells are never given back
grow_one : (before : List Declared) (item : Declared) → cells before ≤ cells (with_declared before item)
grow_one before item = by (is_some (item_offence before item))
  where
    by : (offence : Bool) → cells before ≤ cells (cond offence before (before ++ (item ∷ [])))
    by true = omega arith
    by false = omega (arith, cells_more before item)

grow : (before rest : List Declared) → cells before ≤ cells (effective before rest)
grow before [] = omega arith
grow before (item ∷ rest) = omega (arith, grow_one before item, grow (with_declared before item) rest)

-- an item without an offence takes no more cells than there are
fits : (before : List Declared) (item : Declared) → is_some (item_offence before item) ≡ false → too_many before (cells_of item) ≡ false
fits before item fine = by (is_builtin_name item.name) (named_in item.name before) (too_many before (cells_of item)) fine
  where
    by : (reserved named many : Bool) → is_some (offence_by reserved named many) ≡ false → many ≡ false
    by true named many is = absurd (cc)
    by false true many is = absurd (cc)
    by false false true is = absurd (cc)
    by false false false is = refl

is_less : (m n : ℕ) → m < n → nat_lt m n ≡ true
is_less m n l = grind (arith, nat_tests)

-- an item that comes behind others where none of its name is
module _ (name : List ℕ) (before : List Declared) (item : Declared) (none : item_named name before ≡ None) where
  comes : bytes_eq name item.name ≡ true → item_named name (before ++ (item ∷ [])) ≡ Some item
  comes here =
      named_more name before item ∙ ap (λ x. option_or x (cond (bytes_eq name item.name) (Some item) None)) none
      ∙ ap (λ b. cond b (Some item) None) here

  still : bytes_eq name item.name ≡ false → item_named name (before ++ (item ∷ [])) ≡ None
  still here =
      named_more name before item ∙ ap (λ x. option_or x (cond (bytes_eq name item.name) (Some item) None)) none
      ∙ ap (λ b. cond b (Some item) None) here

-- what is effective behind an item with an offence, and behind one without
module _ (name : List ℕ) (before rest : List Declared) (item : Declared) (o : Option Declared)
    (is : item_named name (effective (with_declared before item) rest) ≡ o) where
  passed : is_some (item_offence before item) ≡ true → item_named name (effective before rest) ≡ o
  passed offence = subst (λ b. item_named name (effective (cond b before (before ++ (item ∷ []))) rest) ≡ o) offence is

  taken : is_some (item_offence before item) ≡ false → item_named name (effective (before ++ (item ∷ [])) rest) ≡ o
  taken offence = subst (λ b. item_named name (effective (cond b before (before ++ (item ∷ []))) rest) ≡ o) offence is

-- ---- the effective item of a name

-- no effective item of the name takes so many cells, where they were too many before one came
too_late : (name : List ℕ) (count : ℕ) (before rest : List Declared) (known : Declared) → item_named name before ≡ None
    → too_many before count ≡ true → item_named name (effective before rest) ≡ Some known → cells_of known ≡ count → ⊥
too_late name count before [] known none many is counted = absurd (cc)
too_late name count before (item ∷ rest) known none many is counted =
    by (is_some (item_offence before item)) (bytes_eq name item.name) refl refl
    (λ b n m i. too_late name count b rest known n m i counted)
  where
    by : (offence here : Bool) → is_some (item_offence before item) ≡ offence → bytes_eq name item.name ≡ here
        → ((b : List Declared) → item_named name b ≡ None → too_many b count ≡ true → item_named name (effective b rest) ≡ Some known → ⊥) → ⊥
    by true here o h again = again before none many (passed name before rest item (Some known) is o)
    by false true o h again =
        let there : item_named name (before ++ (item ∷ [])) ≡ Some item = comes name before item none h in
        let found : item_named name (effective (before ++ (item ∷ [])) rest) ≡ Some known = taken name before rest item (Some known) is o in
        let one : item ≡ known = some_is item known (sym (stays name (before ++ (item ∷ [])) rest item there) ∙ found) in
        let enough : too_many before count ≡ false =
        ap (λ n. too_many before n) (sym counted ∙ ap cells_of (sym one)) ∙ fits before item o in
        absurd (cc)
    by false false o h again =
        let was = less most_cells (cells before + count) many in
        let grown = cells_more before item in
        let now : most_cells < cells (before ++ (item ∷ [])) + count = omega (arith, was, grown) in
        again (before ++ (item ∷ [])) (still name before item none h)
        (is_less most_cells (cells (before ++ (item ∷ [])) + count) now) (taken name before rest item (Some known) is o)

-- the effective item of a name is one of those that are declared
is_among : (name : List ℕ) (before rest : List Declared) (known : Declared) → item_named name before ≡ None
    → item_named name (effective before rest) ≡ Some known → has_such name (cells_of known) rest ≡ true
is_among name before [] known none is = absurd (cc)
is_among name before (item ∷ rest) known none is =
    by (is_some (item_offence before item)) (bytes_eq name item.name) refl refl (λ b n i. is_among name b rest known n i)
  where
    by : (offence here : Bool) → is_some (item_offence before item) ≡ offence → bytes_eq name item.name ≡ here
        → ((b : List Declared) → item_named name b ≡ None → item_named name (effective b rest) ≡ Some known → has_such name (cells_of known) rest ≡ true)
        → has_such name (cells_of known) (item ∷ rest) ≡ true
    by true here o h again =
        or_right (is_such name (cells_of known) item) (has_such name (cells_of known) rest)
        (again before none (passed name before rest item (Some known) is o))
    by false true o h again =
        let there : item_named name (before ++ (item ∷ [])) ≡ Some item = comes name before item none h in
        let found : item_named name (effective (before ++ (item ∷ [])) rest) ≡ Some known = taken name before rest item (Some known) is o in
        let one : item ≡ known = some_is item known (sym (stays name (before ++ (item ∷ [])) rest item there) ∙ found) in
        ap (λ b. (b && nat_eq (cells_of item) (cells_of known)) || has_such name (cells_of known) rest) h
        ∙ ap (λ (d : Declared). nat_eq (cells_of item) (cells_of d) || has_such name (cells_of known) rest) (sym one)
        ∙ ap (λ b. b || has_such name (cells_of known) rest) (itself (cells_of item))
    by false false o h again =
        or_right (is_such name (cells_of known) item) (has_such name (cells_of known) rest)
        (again (before ++ (item ∷ [])) (still name before item none h) (taken name before rest item (Some known) is o))

-- an item of the name that takes so many cells has an offence where none of the name is effective behind it, and that
-- is its cells
module _ (name : List ℕ) (before rest : List Declared) (item : Declared) (free : is_builtin_name name ≡ false)
    (none : item_named name (effective (with_declared before item) rest) ≡ None) (here : bytes_eq name item.name ≡ true) where
  not_there : (known : Declared) → item_named name (with_declared before item) ≡ Some known → ⊥
  not_there known is = let there = stays name (with_declared before item) rest known is in absurd (cc)

  own : name ≡ item.name
  own = (bytes_eq-Decides name item.name).0 here

  not_named : (o : Option Declared) → item_named item.name before ≡ o → is_some o ≡ true → ⊥
  not_named None is some = absurd (cc)
  not_named (Some known) is some =
      not_there known (stays_one name before item known (ap (λ n. item_named n before) own ∙ is))

  not_fine : (o : Option Declared) → item_named name before ≡ o → item_offence before item ≡ None → ⊥
  not_fine o is fine = which o there
    where
      there : item_named name (with_declared before item) ≡ option_or o (Some item)
      there =
          ap (λ x. item_named name (cond (is_some x) before (before ++ (item ∷ [])))) fine ∙ named_more name before item
          ∙ ap (λ x. option_or x (cond (bytes_eq name item.name) (Some item) None)) is
          ∙ ap (λ b. option_or o (cond b (Some item) None)) here

      which : (o : Option Declared) → item_named name (with_declared before item) ≡ option_or o (Some item) → ⊥
      which None is = not_there item is
      which (Some known) is = not_there known is

  was_many : (reserved named many : Bool) → is_builtin_name item.name ≡ reserved → named_in item.name before ≡ named
      → too_many before (cells_of item) ≡ many → many ≡ true
  was_many true named many r n m =
      let free_item : is_builtin_name item.name ≡ false = ap is_builtin_name (sym own) ∙ free in
      absurd (cc)
  was_many false true many r n m = absurd (not_named (item_named item.name before) refl n)
  was_many false false true r n m = refl
  was_many false false false r n m =
      absurd
      (not_fine (item_named name before) refl
      (ap (λ b. offence_by b (named_in item.name before) (too_many before (cells_of item))) r
      ∙ ap (λ b. offence_by false b (too_many before (cells_of item))) n
      ∙ ap (λ b. offence_by false false b) m))

-- where one of the name that takes so many cells is declared and none of the name is effective, they were too many
were_many : (name : List ℕ) (count : ℕ) (before rest : List Declared) → is_builtin_name name ≡ false
    → item_named name (effective before rest) ≡ None → has_such name count rest ≡ true → too_many (effective before rest) count ≡ true
were_many name count before [] free none has = absurd (cc)
were_many name count before (item ∷ rest) free none has =
    by (is_such name count item) refl (λ h. were_many name count (with_declared before item) rest free none h)
  where
    by : (such : Bool) → is_such name count item ≡ such
        → (has_such name count rest ≡ true → too_many (effective (with_declared before item) rest) count ≡ true)
        → too_many (effective (with_declared before item) rest) count ≡ true
    by true s again =
        let here = and_first (bytes_eq name item.name) (nat_eq (cells_of item) count) s in
        let counted = same (cells_of item) count (and_second (bytes_eq name item.name) (nat_eq (cells_of item) count) s) in
        let was =
        less most_cells (cells before + cells_of item)
        (was_many name before rest item free none here (is_builtin_name item.name) (named_in item.name before) (too_many before (cells_of item)) refl refl refl) in
        let one = grow_one before item in
        let all = grow (with_declared before item) rest in
        let now : most_cells < cells (effective (with_declared before item) rest) + count = omega (arith, was, one, all, counted) in
        is_less most_cells (cells (effective (with_declared before item) rest) + count) now
    by false s again = again (sym (ap (λ b. b || has_such name count rest) s) ∙ has)

-- ---- an item is judged by the effective one of its name

-- a name that isn't read as a built-in function's is free
pub is_free : (name : List ℕ) (read : Option Builtin) → read ≡ builtin_of name → is_some read ≡ false → is_builtin_name name ≡ false
unfolding is_builtin_name
is_free name read is none = ap is_some (sym is) ∙ none

-- where the effective one of its name is known, and none such is among those before it
module _ (before later : List Declared) (item known : Declared) (free : is_builtin_name item.name ≡ false)
    (none : has_such item.name (cells_of known) before ≡ false) (none_later : has_such item.name (cells_of known) later ≡ false) where
  judged_known : judged_item (before ++ later) item (Some known) ≡ cond (nat_eq (cells_of item) (cells_of known)) None (Some MarkKind.TooManyCells)
  judged_known =
      ap (λ b. cond b (Some MarkKind.Reserved) (judged_as (before ++ later) item (Some known))) free
      ∙ ap (λ b. cond b (Some MarkKind.Duplicate) (cond (nat_eq (cells_of item) (cells_of known)) None (Some MarkKind.TooManyCells)))
      (list_any-append (is_such item.name (cells_of known)) before later
      ∙ ap (λ b. b || has_such item.name (cells_of known) later) none ∙ none_later)

  pub judged_same : nat_eq (cells_of item) (cells_of known) ≡ true → None ≡ judged_item (before ++ later) item (Some known)
  judged_same one = sym (judged_known ∙ ap (λ b. cond b None (Some MarkKind.TooManyCells)) one)

  pub judged_apart : nat_eq (cells_of item) (cells_of known) ≡ false → Some MarkKind.TooManyCells ≡ judged_item (before ++ later) item (Some known)
  judged_apart two = sym (judged_known ∙ ap (λ b. cond b None (Some MarkKind.TooManyCells)) two)

-- an item of a name that isn't reserved, behind those before it
module _ (earlier : List Declared) (item : Declared) (rest : List Declared) (free : is_builtin_name item.name ≡ false) where
  -- where one of the name is effective already
  judged_named : (first : Declared) → item_named item.name (effective [] earlier) ≡ Some first
      → judged_as earlier item (item_named item.name (effective (with_declared (effective [] earlier) item) rest)) ≡ Some MarkKind.Duplicate
  judged_named first is =
      ap (judged_as earlier item) (stays item.name (with_declared (effective [] earlier) item) rest first (stays_one item.name (effective [] earlier) item first is))
      ∙ ap (λ b. cond b (Some MarkKind.Duplicate) (cond (nat_eq (cells_of item) (cells_of first)) None (Some MarkKind.TooManyCells)))
      (is_among item.name [] earlier first refl is)

  -- where its cells are too many
  judged_many : (o : Option Declared) → item_named item.name (effective [] earlier) ≡ None → too_many (effective [] earlier) (cells_of item) ≡ true
      → item_named item.name (effective (effective [] earlier) rest) ≡ o → judged_as earlier item o ≡ Some MarkKind.TooManyCells
  judged_many None none many is = refl
  judged_many (Some first) none many is =
      ap (λ b. cond b (Some MarkKind.Duplicate) (cond (nat_eq (cells_of item) (cells_of first)) None (Some MarkKind.TooManyCells)))
      (no_such (has_such item.name (cells_of first) earlier) refl)
      ∙ ap (λ b. cond b None (Some MarkKind.TooManyCells)) (no_same (nat_eq (cells_of item) (cells_of first)) refl)
    where
      no_such : (b : Bool) → has_such item.name (cells_of first) earlier ≡ b → b ≡ false
      no_such false has = refl
      no_such true has =
          absurd
          (too_late item.name (cells_of first) (effective [] earlier) rest first none
          (were_many item.name (cells_of first) [] earlier free none has) is refl)

      no_same : (b : Bool) → nat_eq (cells_of item) (cells_of first) ≡ b → b ≡ false
      no_same false eq = refl
      no_same true eq =
          absurd (too_late item.name (cells_of item) (effective [] earlier) rest first none many is (sym (same (cells_of item) (cells_of first) eq)))

  -- where it is effective
  judged_fine : item_named item.name (effective [] earlier) ≡ None → too_many (effective [] earlier) (cells_of item) ≡ false
      → item_named item.name (effective (with_declared (effective [] earlier) item) rest) ≡ Some item
      → judged_as earlier item (item_named item.name (effective (with_declared (effective [] earlier) item) rest)) ≡ None
  judged_fine none few is =
      ap (judged_as earlier item) is
      ∙ ap (λ b. cond b (Some MarkKind.Duplicate) (cond (nat_eq (cells_of item) (cells_of item)) None (Some MarkKind.TooManyCells)))
      (no_such (has_such item.name (cells_of item) earlier) refl)
      ∙ ap (λ b. cond b None (Some MarkKind.TooManyCells)) (itself (cells_of item))
    where
      no_such : (b : Bool) → has_such item.name (cells_of item) earlier ≡ b → b ≡ false
      no_such false has = refl
      no_such true has = let many = were_many item.name (cells_of item) [] earlier free none has in absurd (cc)

  judged_free : (o : Option Declared) (many : Bool) → item_named item.name (effective [] earlier) ≡ o → too_many (effective [] earlier) (cells_of item) ≡ many
      → judged_as earlier item (item_named item.name (effective (with_declared (effective [] earlier) item) rest)) ≡ offence_by false (is_some o) many
  judged_free (Some first) many is m = judged_named first is
  judged_free None true is m =
      let offence : item_offence (effective [] earlier) item ≡ Some MarkKind.TooManyCells =
      ap (λ b. offence_by b (named_in item.name (effective [] earlier)) (too_many (effective [] earlier) (cells_of item))) free
      ∙ ap (λ (o : Option Declared). offence_by false (is_some o) (too_many (effective [] earlier) (cells_of item))) is
      ∙ ap (λ b. offence_by false false b) m in
      judged_many (item_named item.name (effective (with_declared (effective [] earlier) item) rest)) is m
      (sym (ap (λ x. item_named item.name (effective (cond (is_some x) (effective [] earlier) (effective [] earlier ++ (item ∷ []))) rest)) offence))
  judged_free None false is m =
      let offence : item_offence (effective [] earlier) item ≡ None =
      ap (λ b. offence_by b (named_in item.name (effective [] earlier)) (too_many (effective [] earlier) (cells_of item))) free
      ∙ ap (λ (o : Option Declared). offence_by false (is_some o) (too_many (effective [] earlier) (cells_of item))) is
      ∙ ap (λ b. offence_by false false b) m in
      judged_fine is m
      (ap (λ x. item_named item.name (effective (cond (is_some x) (effective [] earlier) (effective [] earlier ++ (item ∷ []))) rest)) offence
      ∙ stays item.name (effective [] earlier ++ (item ∷ [])) rest item (comes item.name (effective [] earlier) item is (name_itself item.name)))

pub judged : (earlier : List Declared) (item : Declared) (rest : List Declared)
    → judged_item earlier item (item_named item.name (effective [] (earlier ++ (item ∷ rest)))) ≡ item_offence (effective [] earlier) item
judged earlier item rest =
    ap (λ (all : List Declared). judged_item earlier item (item_named item.name all)) (effective_append [] earlier (item ∷ rest))
    ∙ by (is_builtin_name item.name) refl
  where
    by : (reserved : Bool) → is_builtin_name item.name ≡ reserved
        → cond (is_builtin_name item.name) (Some MarkKind.Reserved) (judged_as earlier item (item_named item.name (effective (with_declared (effective [] earlier) item) rest)))
        ≡ offence_by (is_builtin_name item.name) (named_in item.name (effective [] earlier)) (too_many (effective [] earlier) (cells_of item))
    by true r =
        ap (λ b. cond b (Some MarkKind.Reserved) (judged_as earlier item (item_named item.name (effective (with_declared (effective [] earlier) item) rest)))) r
        ∙ sym (ap (λ b. offence_by b (named_in item.name (effective [] earlier)) (too_many (effective [] earlier) (cells_of item))) r)
    by false r =
        ap (λ b. cond b (Some MarkKind.Reserved) (judged_as earlier item (item_named item.name (effective (with_declared (effective [] earlier) item) rest)))) r
        ∙ judged_free earlier item rest r (item_named item.name (effective [] earlier)) (too_many (effective [] earlier) (cells_of item)) refl refl
        ∙ sym (ap (λ b. offence_by b (named_in item.name (effective [] earlier)) (too_many (effective [] earlier) (cells_of item))) r)
