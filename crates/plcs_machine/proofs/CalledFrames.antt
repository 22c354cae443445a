-- The variables of a called procedure's frame can be made one after the other: the parameters have different names,
-- each is one of the effective items, and the others are those that are no parameters, so that all together have no
-- more cells than the items.
use Rattle.std.specs.Prelude.{◌≡◌, refl, ℕ, zero, suc, ◌+◌, ◌≤◌, ◌==◌, Bool, true, false, cond, not, ◌&&◌, ◌||◌, bytes_eq, if◌then◌else◌, List, [], ◌∷◌, ◌++◌, length, map, Option, Some, None, is_some, option_and_then, option_map}
use Rattle.std.specs.List.{filter, list_all, list_any}
use Rattle.std.proofs.Common.{ap, sym, ◌∙◌, subst, arith, append_assoc}
use Rattle.std.proofs.Math.Bool.{false≢true}
use Rattle.std.proofs.lemmas.List.{append-nil}
use Rattle.std.proofs.lemmas.List.Sums.{sum_by-cons}
use Rattle.std.proofs.lemmas.Option.{none-some, same_Some}
use Rattle.std.proofs.lemmas.Slice.Eq.{bytes_eq-Decides}
use Rattle.plcs_base.specs.declared.declared.Declared.{Declared}
use Rattle.plcs_base.specs.declared.declared.ItemType.{ItemType}
use Rattle.plcs_base.specs.declared.value.Value.{Value}
use Rattle.template_tree.specs.Checks.Environment.{cells, cells_of, item_named, kind_of_type, parameter_kind, parameter_kinds, scalar_kind}
use Rattle.template_tree.specs.Checks.KindTable.{same_kind}
use Rattle.template_tree.specs.Checks.ParameterItem.{scalar_item}
use Rattle.template_tree.specs.Programs.Limit.{most_cells}
use Rattle.plcs_store.specs.declared.argument.Argument.{Argument}
use Rattle.plcs_store.specs.declared.cell.Cell.{Cell}
use Rattle.plcs_store.specs.declared.frame.Frame.{Frame}
use Rattle.plcs_store.specs.declared.variable.Variable.{Variable}
use Rattle.plcs_store.specs.CellAt.{Variables, kept_value, scalar_variable, unset_named, variable_at, variable_named}
use Rattle.plcs_store.specs.NewFrame.{option_before, other_variables, parameter_named, parameter_of, parameter_variables, reference_parameter}
use Rattle.plcs_machine.specs.Passing.{cell_count}
use Rattle.plcs_machine.proofs.FreshVariables.{Added, Named, NamesApart, all_added, count_append, count_cons, named_behind, unset_count}

-- ---- one parameter

-- what is known of a parameter that has a kind
pub record IsParameter (items : List Declared) (earlier : List (List ℕ)) (name : List ℕ) : Type 0 where
  pub item : Declared
  pub new : list_any (bytes_eq name) earlier ≡ false
  pub named : item_named name items ≡ Some item
  pub scalar : (item.size == 0) ≡ true
  pub same : item.name ≡ name

found_name : (name : List ℕ) (items : List Declared) (item : Declared) → item_named name items ≡ Some item → bytes_eq name item.name ≡ true
found_name name [] item e = absurd (none-some item e)
found_name name (own ∷ items) item e = by (bytes_eq name own.name) refl e (found_name name items item)
  where
    by : (b : Bool) → bytes_eq name own.name ≡ b → cond b (Some own) (item_named name items) ≡ Some item
        → (item_named name items ≡ Some item → bytes_eq name item.name ≡ true) → bytes_eq name item.name ≡ true
    by true is e later = ap (λ (one : Declared). bytes_eq name one.name) (sym (same_Some own item e)) ∙ is
    by false is e later = later e

pub parameter_is : (items : List Declared) (earlier : List (List ℕ)) (name : List ℕ) → is_some (parameter_kind items earlier name) ≡ true
    → IsParameter items earlier name
parameter_is items earlier name e = by (list_any (bytes_eq name) earlier) refl (item_named name items) refl e
  where
    scalar : (item : Declared) → (b : Bool) → (item.size == 0) ≡ b → item_named name items ≡ Some item → list_any (bytes_eq name) earlier ≡ false
        → is_some (if b then Some (kind_of_type item.ty) else None) ≡ true → IsParameter items earlier name
    scalar item true size is new e =
        record {
          item = item;
          new = new;
          named = is;
          scalar = size;
          same = sym ((bytes_eq-Decides name item.name).0 (found_name name items item is));
        }
    scalar item false size is new e = absurd (false≢true e)

    by : (again : Bool) → list_any (bytes_eq name) earlier ≡ again → (found : Option Declared) → item_named name items ≡ found
        → is_some (if again then None else option_and_then scalar_kind found) ≡ true → IsParameter items earlier name
    by true new found is e = absurd (false≢true e)
    by false new None is e = absurd (false≢true e)
    by false new (Some item) is e = scalar item (item.size == 0) refl is new e

-- ---- the parameters of a call

-- what is known of the parameters that are made
pub record Made (frames : List Frame) (items : List Declared) (names : List (List ℕ)) (arguments : List Argument) (made : Variables) : Type 0 where
  pub keys : map (λ (own : Named). own.0) made ≡ names
  pub count : cell_count made ≡ length names

pub all_parts : (a b : Bool) → (a && b) ≡ true → (a ≡ true) × (b ≡ true)
all_parts true b e = (refl, e)
all_parts false b e = absurd (false≢true e)

one_cell : (frames : List Frame) (ty : ItemType) (argument : Argument) (variable : Variable) → parameter_of frames ty argument ≡ Some variable
    → length variable.cells ≡ 1
one_cell frames ty (Argument.Reference location) variable e = by (variable_at frames location.frame location.name) e
  where
    tested : (b : Bool) → (if b then Some (scalar_variable ty (Cell.Ref location)) else None) ≡ Some variable → length variable.cells ≡ 1
    tested true e = ap (λ (v : Variable). length v.cells) (sym (same_Some (scalar_variable ty (Cell.Ref location)) variable e))
    tested false e = absurd (none-some variable e)

    by : (found : Option Variable) → option_and_then (reference_parameter ty location) found ≡ Some variable → length variable.cells ≡ 1
    by None e = absurd (none-some variable e)
    by (Some one) e = tested (same_kind (kind_of_type ty) (kind_of_type one.ty)) e
one_cell frames ty (Argument.Dummy value) variable e = by (kept_value ty value) e
  where
    by : (kept : Option Value) → option_map (λ v. scalar_variable ty (Cell.Held v)) kept ≡ Some variable → length variable.cells ≡ 1
    by None e = absurd (none-some variable e)
    by (Some v) e = ap (λ (one : Variable). length one.cells) (sym (same_Some (scalar_variable ty (Cell.Held v)) variable e))

-- the first parameter that is made
pub record FirstMade (frames : List Frame) (items : List Declared) (name : List ℕ) (names : List (List ℕ)) (argument : Argument) (arguments : List Argument) (made : Variables) (item : Declared) : Type 0 where
  pub variable : Variable
  pub others : Variables
  pub is : made ≡ (name, variable) ∷ others
  pub own : parameter_of frames item.ty argument ≡ Some variable
  pub more : parameter_variables frames items names arguments ≡ Some others

pub first_made : (frames : List Frame) (items : List Declared) (earlier : List (List ℕ)) (name : List ℕ) (names : List (List ℕ)) (argument : Argument) (arguments : List Argument) (made : Variables)
    (known : IsParameter items earlier name) → parameter_variables frames items (name ∷ names) (argument ∷ arguments) ≡ Some made
    → FirstMade frames items name names argument arguments made known.item
first_made frames items earlier name names argument arguments made known e =
    by (parameter_of frames known.item.ty argument) refl (parameter_variables frames items names arguments) refl
    (ap (λ (o : Option Named). option_before o (parameter_variables frames items names arguments)) (sym named_is) ∙ e)
  where
    named_is : parameter_named frames items name argument ≡ option_map (λ (v : Variable). (name, v)) (parameter_of frames known.item.ty argument)
    named_is =
        ap (λ (o : Option Declared). option_and_then (λ (item : Declared). option_map (λ (v : Variable). (name, v)) (parameter_of frames item.ty argument)) (option_and_then scalar_item o)) known.named
        ∙ ap (λ (b : Bool). option_and_then (λ (item : Declared). option_map (λ (v : Variable). (name, v)) (parameter_of frames item.ty argument)) (if b then Some known.item else None)) known.scalar

    by : (found : Option Variable) → parameter_of frames known.item.ty argument ≡ found → (rest : Option Variables)
        → parameter_variables frames items names arguments ≡ rest
        → option_before (option_map (λ (v : Variable). (name, v)) found) rest ≡ Some made
        → FirstMade frames items name names argument arguments made known.item
    by None own rest more e = absurd (none-some made e)
    by (Some variable) own None more e = absurd (none-some made e)
    by (Some variable) own (Some others) more e =
        record { variable = variable; others = others; is = sym (same_Some ((name, variable) ∷ others) made e); own = own; more = more }

pub all_made : (frames : List Frame) (items : List Declared) (earlier names : List (List ℕ)) (arguments : List Argument) (made : Variables)
    → list_all is_some (parameter_kinds items earlier names) ≡ true → parameter_variables frames items names arguments ≡ Some made
    → Made frames items names arguments made
all_made frames items earlier [] [] made all e =
    let same : [] ≡ made = same_Some [] made e in
    subst (Made frames items [] []) same record { keys = refl; count = refl }
all_made frames items earlier [] (argument ∷ arguments) made all e = absurd (none-some made e)
all_made frames items earlier (name ∷ names) [] made all e = absurd (none-some made e)
all_made frames items earlier (name ∷ names) (argument ∷ arguments) made all e =
    let both = all_parts (is_some (parameter_kind items earlier name)) (list_all is_some (parameter_kinds items (earlier ++ (name ∷ [])) names)) all in
    let known = parameter_is items earlier name both.0 in
    let first = first_made frames items earlier name names argument arguments made known e in
    let behind = all_made frames items (earlier ++ (name ∷ [])) names arguments first.others both.1 first.more in
    let more = count_cons (name, first.variable) first.others in
    let one = one_cell frames known.item.ty argument first.variable first.own in
    let count = behind.count in
    subst (Made frames items (name ∷ names) (argument ∷ arguments)) (sym first.is)
    record { keys = ap (λ (l : List (List ℕ)). name ∷ l) behind.keys; count = omega (arith, more, one, count) }

-- ---- names apart

keys_level : (here : Bool) (own : Variable) (among : Bool) (found : Option Variable) → (here || among) ≡ false → (among ≡ false → found ≡ None)
    → cond here (Some own) found ≡ None
keys_level true own among found e later = absurd (false≢true (sym e))
keys_level false own among found e later = later e

-- a name that is no key names no variable
pub keys_none : (name : List ℕ) (variables : Variables) → list_any (bytes_eq name) (map (λ (own : Named). own.0) variables) ≡ false → variable_named name variables ≡ None
keys_none name [] e = refl
keys_none name (own ∷ variables) e =
    keys_level (bytes_eq name own.0) own.1 (list_any (bytes_eq name) (map (λ (one : Named). one.0) variables)) (variable_named name variables) e
    (keys_none name variables)

keys_append : (one other : Variables) → map (λ (own : Named). own.0) (one ++ other) ≡ map (λ (own : Named). own.0) one ++ map (λ (own : Named). own.0) other
keys_append [] other = refl
keys_append (own ∷ one) other = ap (λ (l : List (List ℕ)). own.0 ∷ l) (keys_append one other)

-- parameters are apart
pub made_apart : (frames : List Frame) (items : List Declared) (earlier names : List (List ℕ)) (arguments : List Argument) (before made : Variables)
    → map (λ (own : Named). own.0) before ≡ earlier
    → list_all is_some (parameter_kinds items earlier names) ≡ true → parameter_variables frames items names arguments ≡ Some made → NamesApart before made
made_apart frames items earlier [] [] before made keys all e = subst (NamesApart before) (same_Some [] made e) tt
made_apart frames items earlier [] (argument ∷ arguments) before made keys all e = absurd (none-some made e)
made_apart frames items earlier (name ∷ names) [] before made keys all e = absurd (none-some made e)
made_apart frames items earlier (name ∷ names) (argument ∷ arguments) before made keys all e =
    let both = all_parts (is_some (parameter_kind items earlier name)) (list_all is_some (parameter_kinds items (earlier ++ (name ∷ [])) names)) all in
    let known = parameter_is items earlier name both.0 in
    let first = first_made frames items earlier name names argument arguments made known e in
    subst (NamesApart before) (sym first.is) (
      keys_none name before (ap (list_any (bytes_eq name)) keys ∙ known.new),
      made_apart frames items (earlier ++ (name ∷ [])) names arguments (before ++ ((name, first.variable) ∷ [])) first.others
          (keys_append before ((name, first.variable) ∷ []) ∙ ap (λ (l : List (List ℕ)). l ++ (name ∷ [])) keys) both.1 first.more,
    )

-- what names none of some variables names none of others, if it isn't among the names
abbrev Within : List (List ℕ) → (before prior : Variables) → Type 0
Within names before prior =
    (name : List ℕ) → variable_named name before ≡ None → list_any (bytes_eq name) names ≡ false → variable_named name prior ≡ None

last_level : (here : Bool) (own : Variable) → cond here (Some own) None ≡ None → here ≡ false
last_level true own e = absurd (none-some own (sym e))
last_level false own e = refl

behind_none : (name : List ℕ) (before : Variables) (last : Named) → variable_named name (before ++ (last ∷ [])) ≡ None
    → (variable_named name before ≡ None) × (bytes_eq name last.0 ≡ false)
behind_none name [] last e = (refl, last_level (bytes_eq name last.0) last.1 e)
behind_none name (own ∷ before) last e = by (bytes_eq name own.0) e (behind_none name before last)
  where
    by : (b : Bool) → cond b (Some own.1) (variable_named name (before ++ (last ∷ []))) ≡ None
        → (variable_named name (before ++ (last ∷ [])) ≡ None → (variable_named name before ≡ None) × (bytes_eq name last.0 ≡ false))
        → (cond b (Some own.1) (variable_named name before) ≡ None) × (bytes_eq name last.0 ≡ false)
    by true e later = absurd (none-some own.1 (sym e))
    by false e later = later e

one_none : (name : List ℕ) (last : Named) → bytes_eq name last.0 ≡ false → variable_named name (last ∷ []) ≡ None
one_none name last e = ap (λ (b : Bool). cond b (Some last.1) None) e

-- the items that are no parameters are apart, too
pub others_apart : (names : List (List ℕ)) (items : List Declared) (before prior : Variables) → Within names before prior → NamesApart before (map unset_named items)
    → NamesApart prior (other_variables names items)
others_apart names [] before prior within apart = tt
others_apart names (item ∷ items) before prior within apart = by (list_any (bytes_eq item.name) names) refl (λ front other inside. others_apart names items front other inside)
  where
    by : (b : Bool) → list_any (bytes_eq item.name) names ≡ b
        → ((front other : Variables) → Within names front other → NamesApart front (map unset_named items) → NamesApart other (other_variables names items))
        → NamesApart prior (map unset_named (if not b then item ∷ filter (λ (one : Declared). not (list_any (bytes_eq one.name) names)) items else filter (λ (one : Declared). not (list_any (bytes_eq one.name) names)) items))
    by true e again =
        again (before ++ (unset_named item ∷ [])) prior
        (λ name none among. within name (behind_none name before (unset_named item) none).0 among) apart.1
    by false e again = (
      within item.name apart.0 e,
      again (before ++ (unset_named item ∷ [])) (prior ++ (unset_named item ∷ []))
          (λ name none among.
          let both = behind_none name before (unset_named item) none in
          named_behind name prior (unset_named item ∷ []) (within name both.0 among) ∙ one_none name (unset_named item) both.1)
          apart.1,
    )

-- ---- cells

abbrev pub kept_items : List (List ℕ) → List Declared → List Declared
kept_items names items = filter (λ (one : Declared). not (list_any (bytes_eq one.name) names)) items

any_append : (test : List ℕ → Bool) (one other : List (List ℕ)) → list_any test (one ++ other) ≡ (list_any test one || list_any test other)
any_append test [] other = refl
any_append test (own ∷ one) other = by (test own) (any_append test one other)
  where
    by : (b : Bool) → list_any test (one ++ other) ≡ (list_any test one || list_any test other)
        → (b || list_any test (one ++ other)) ≡ ((b || list_any test one) || list_any test other)
    by true e = refl
    by false e = e

cells_cons : (item : Declared) (items : List Declared) → cells (item ∷ items) ≡ cells_of item + cells items
cells_cons item items = sum_by-cons cells_of item items

some_cells : (item : Declared) → 1 ≤ cells_of item
some_cells item = by item.size (item.size == 0) refl
  where
    by : (n : ℕ) (b : Bool) → (n == 0) ≡ b → 1 ≤ (if b then 1 else n)
    by n true e = omega arith
    by zero false e = absurd (cc)
    by (suc n) false e = omega arith

-- one more name keeps no more
kept_fewer : (names : List (List ℕ)) (name : List ℕ) (items : List Declared) → cells (kept_items (names ++ (name ∷ [])) items) ≤ cells (kept_items names items)
kept_fewer names name [] = omega arith
kept_fewer names name (item ∷ items) =
    subst (λ (b : Bool). cells (if not b then item ∷ kept_items (names ++ (name ∷ [])) items else kept_items (names ++ (name ∷ [])) items) ≤ cells (kept_items names (item ∷ items)))
    (sym (any_append (bytes_eq item.name) names (name ∷ [])))
    (by (list_any (bytes_eq item.name) names) (list_any (bytes_eq item.name) (name ∷ [])) (kept_fewer names name items))
  where
    by : (a b : Bool) → cells (kept_items (names ++ (name ∷ [])) items) ≤ cells (kept_items names items)
        → cells (if not (a || b) then item ∷ kept_items (names ++ (name ∷ [])) items else kept_items (names ++ (name ∷ [])) items)
        ≤ cells (if not a then item ∷ kept_items names items else kept_items names items)
    by true b few = few
    by false true few = let more = cells_cons item (kept_items names items) in omega (arith, few, more)
    by false false few =
        let more = cells_cons item (kept_items names items) in
        let fewer = cells_cons item (kept_items (names ++ (name ∷ [])) items) in omega (arith, few, more, fewer)

-- and one that names an item keeps fewer
kept_less : (names : List (List ℕ)) (name : List ℕ) (items : List Declared) (found : Declared) → list_any (bytes_eq name) names ≡ false
    → item_named name items ≡ Some found → cells (kept_items (names ++ (name ∷ [])) items) + 1 ≤ cells (kept_items names items)
kept_less names name [] found new e = absurd (none-some found e)
kept_less names name (item ∷ items) found new e =
    subst (λ (b : Bool). cells (if not b then item ∷ kept_items (names ++ (name ∷ [])) items else kept_items (names ++ (name ∷ [])) items) + 1 ≤ cells (kept_items names (item ∷ items)))
    (sym (any_append (bytes_eq item.name) names (name ∷ [])))
    (by (bytes_eq name item.name) refl (list_any (bytes_eq item.name) names) refl (bytes_eq item.name name) refl e (kept_fewer names name items) (kept_less names name items found new))
  where
    by : (here : Bool) → bytes_eq name item.name ≡ here → (a : Bool) → list_any (bytes_eq item.name) names ≡ a → (b : Bool) → bytes_eq item.name name ≡ b
        → cond here (Some item) (item_named name items) ≡ Some found
        → cells (kept_items (names ++ (name ∷ [])) items) ≤ cells (kept_items names items)
        → (item_named name items ≡ Some found → cells (kept_items (names ++ (name ∷ [])) items) + 1 ≤ cells (kept_items names items))
        → cells (if not (a || (b || false)) then item ∷ kept_items (names ++ (name ∷ [])) items else kept_items (names ++ (name ∷ [])) items) + 1
        ≤ cells (if not a then item ∷ kept_items names items else kept_items names items)
    by true is true among b same e few less =
        let one : name ≡ item.name = (bytes_eq-Decides name item.name).0 is in
        absurd (false≢true (sym new ∙ (ap (λ (n : List ℕ). list_any (bytes_eq n) names) one ∙ among)))
    by true is false among true same e few less =
        let more = cells_cons item (kept_items names items) in let some = some_cells item in omega (arith, few, more, some)
    by true is false among false same e few less =
        absurd (false≢true (sym same ∙ (bytes_eq-Decides item.name name).1 (sym ((bytes_eq-Decides name item.name).0 is))))
    by false is true among b same e few less = less e
    by false is false among true same e few less =
        let more = cells_cons item (kept_items names items) in let some = some_cells item in omega (arith, few, more, some)
    by false is false among false same e few less =
        let again = less e in
        let more = cells_cons item (kept_items names items) in
        let fewer = cells_cons item (kept_items (names ++ (name ∷ [])) items) in omega (arith, again, more, fewer)

-- the parameters and what is kept beside them have no more cells than what is kept beside the earlier ones
names_few : (items : List Declared) (earlier names : List (List ℕ)) → list_all is_some (parameter_kinds items earlier names) ≡ true
    → length names + cells (kept_items (earlier ++ names) items) ≤ cells (kept_items earlier items)
names_few items earlier [] all = let same = ap (λ (l : List (List ℕ)). cells (kept_items l items)) (append-nil earlier) in omega (arith, same)
names_few items earlier (name ∷ names) all =
    let both = all_parts (is_some (parameter_kind items earlier name)) (list_all is_some (parameter_kinds items (earlier ++ (name ∷ [])) names)) all in
    let known = parameter_is items earlier name both.0 in
    let behind = names_few items (earlier ++ (name ∷ [])) names both.1 in
    let less = kept_less earlier name items known.item known.new known.named in
    let same = ap (λ (l : List (List ℕ)). cells (kept_items l items)) (append_assoc earlier (name ∷ []) names) in
    omega (arith, behind, less, same)

none_kept : (items : List Declared) → cells (kept_items [] items) ≡ cells items
none_kept [] = refl
none_kept (item ∷ items) =
    let more = cells_cons item (kept_items [] items) in
    let told = cells_cons item items in let again = none_kept items in omega (arith, more, told, again)

-- ---- all together

apart_append : (before one other : Variables) → NamesApart before one → NamesApart (before ++ one) other → NamesApart before (one ++ other)
apart_append before [] other first second = subst (λ (vs : Variables). NamesApart vs other) (append-nil before) second
apart_append before (own ∷ one) other first second = (
  first.0,
  apart_append (before ++ (own ∷ [])) one other first.1 (subst (λ (vs : Variables). NamesApart vs other) (sym (append_assoc before (own ∷ []) one)) second),
)

pub called_added : (frames : List Frame) (items : List Declared) (names : List (List ℕ)) (arguments : List Argument) (made : Variables)
    → NamesApart [] (map unset_named items) → cells items ≤ most_cells
    → list_all is_some (parameter_kinds items [] names) ≡ true → parameter_variables frames items names arguments ≡ Some made
    → Added [] (made ++ other_variables names items)
called_added frames items names arguments made apart few all e =
    let known = all_made frames items [] names arguments made all e in
    let count = known.count in
    let others = unset_count (kept_items names items) in
    let joined = count_append made (other_variables names items) in
    let within : Within names [] made = λ name none among. keys_none name made (ap (list_any (bytes_eq name)) known.keys ∙ among) in
    let less = names_few items [] names all in
    let whole = none_kept items in
    let none : cell_count [] ≡ 0 = refl in
    all_added [] (made ++ other_variables names items)
    (apart_append [] made (other_variables names items) (made_apart frames items [] names arguments [] made refl all e) (others_apart names items [] made within apart))
    (omega (arith, count, others, joined, less, whole, few, none))
