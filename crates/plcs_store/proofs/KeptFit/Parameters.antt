-- The variables of a frame that a call makes are those of the effective items of its procedure.
-- The parameters are effective scalars with different names, and the others are the items that none of them names; a
-- parameter holds a value of its kind, or a reference to a cell of its kind in a lower frame.
use Rattle.std.specs.Prelude.{◌≡◌, refl, ℕ, zero, suc, ◌==◌, ◌||◌, not, Bool, true, false, cond, bytes_eq, if◌then◌else◌, List, [], ◌∷◌, ◌++◌, length, map, slice_get, Option, Some, None, is_some, option_and_then, option_map}
use Rattle.std.specs.List.{AllByRecursion, IsDistinct, filter, list_all, list_any}
use Rattle.std.specs.Map.{keys_of, lookup}
use Rattle.std.specs.Option.{option_or}
use Rattle.std.proofs.Common.{ap, sym, ◌∙◌, subst, append-nil, append_assoc}
use Rattle.std.proofs.Math.Bool.{false≢true}
use Rattle.std.proofs.lemmas.Bool.{eqb-true}
use Rattle.std.proofs.lemmas.Map.Keys.{IsDistinct-cons, IsDistinct-head, IsDistinct-tail}
use Rattle.std.proofs.lemmas.Option.{none-some, same_Some}
use Rattle.std.proofs.lemmas.Slice.Eq.{bytes_eq-Decides}
use Rattle.plcs_base.specs.declared.declared.Declared.{Declared}
use Rattle.plcs_base.specs.declared.declared.ItemType.{ItemType}
use Rattle.plcs_base.specs.declared.value.Kind.{Kind}
use Rattle.plcs_base.specs.declared.value.Value.{Value}
use Rattle.template_tree.specs.Checks.Environment.{cells_in, item_named, kind_of_type, parameter_kind, parameter_kinds, scalar_kind}
use Rattle.template_tree.specs.Checks.KindTable.{same_kind}
use Rattle.template_tree.specs.Checks.ParameterItem.{scalar_item}
use Rattle.plcs_store.specs.declared.argument.Argument.{Argument}
use Rattle.plcs_store.specs.declared.cell.Cell.{Cell}
use Rattle.plcs_store.specs.declared.cell.Location.{Location}
use Rattle.plcs_store.specs.declared.frame.Frame.{Frame}
use Rattle.plcs_store.specs.declared.variable.Variable.{Variable}
use Rattle.plcs_store.specs.CellAt.{Variables, kept_value, scalar_variable, unset_named, variable_at, variable_named}
use Rattle.plcs_store.specs.Fits.{AreVariables, HoldsRight, declared_part, kind_of_value, variable_part}
use Rattle.plcs_store.specs.NewFrame.{option_before, other_variables, parameter_named, parameter_of, parameter_variables, reference_parameter}
use Rattle.plcs_store.proofs.FittingSteps.Found.{and_both, kinds_same}
use Rattle.plcs_store.proofs.NewCells.{distinct_behind, item_names, no_names, or_false, same_name, unset_cell, unset_found, unset_same, unset_variables}
use Rattle.plcs_store.proofs.KeptFit.Arguments.{IsFinalArgument, IsFinal}
use Rattle.plcs_store.proofs.KeptFit.Outcomes.{WhenThere, there_follow, there_then}

-- a variable under its name is a parameter: an effective scalar of the name, whose cell holds what is right in a frame
-- above these
pub record IsParameter (frames : List Frame) (items : List Declared) (entry : List ℕ × Variable) : Type 0 where
  pub item : Declared
  pub named : item_named entry.0 items ≡ Some item
  pub scalar : item.size ≡ 0
  pub cell : Cell
  pub is : entry.1 ≡ scalar_variable item.ty cell
  pub right : HoldsRight frames (length frames) (kind_of_type item.ty) cell

-- ---- one parameter

pub kept_kind : (ty : ItemType) (value : Value) → WhenThere (λ kept. kind_of_value kept ≡ kind_of_type ty) (kept_value ty value)
kept_kind ItemType.Fixed (Value.Fixed z) = refl
kept_kind ItemType.Bit (Value.Bit b) = refl
kept_kind (ItemType.Text n) (Value.Text x) = refl
kept_kind ty value = tt

-- a variable with one cell of the type, which holds what is right
abbrev IsScalar : List Frame → ItemType → Variable → Type 0
IsScalar frames ty variable = (cell : Cell) × (variable ≡ scalar_variable ty cell) × HoldsRight frames (length frames) (kind_of_type ty) cell

reference_level : (same : Bool) (frames : List Frame) (ty : ItemType) (location : Location) (variable : Variable)
    → same_kind (kind_of_type ty) (kind_of_type variable.ty) ≡ same → variable_at frames location.frame location.name ≡ Some variable
    → IsFinal frames location
    → WhenThere (IsScalar frames ty) (if same then Some (scalar_variable ty (Cell.Ref location)) else None)
reference_level false frames ty location variable is there final = tt
reference_level true frames ty location variable is there (within, (kind, target)) =
    let found : target.variable ≡ variable = same_Some target.variable variable (sym target.there ∙ there) in (
      Cell.Ref location,
      refl,
      (
        within,
        record {
          variable = target.variable;
          there = target.there;
          kind_is = ap (λ (v : Variable). kind_of_type v.ty) found ∙ sym (kinds_same (kind_of_type ty) (kind_of_type variable.ty) is);
          cell = target.cell;
          cell_there = target.cell_there;
          plain = target.plain;
        },
      ),
    )

one_parameter : (frames : List Frame) (ty : ItemType) (argument : Argument) → IsFinalArgument frames argument
    → WhenThere (IsScalar frames ty) (parameter_of frames ty argument)
one_parameter frames ty (Argument.Reference location) final =
    there_then (IsScalar frames ty) (reference_parameter ty location) (variable_at frames location.frame location.name)
    (λ variable there.
    reference_level (same_kind (kind_of_type ty) (kind_of_type variable.ty)) frames ty location variable refl there final)
one_parameter frames ty (Argument.Dummy value) final =
    there_follow (λ kept. kind_of_value kept ≡ kind_of_type ty) (IsScalar frames ty) (λ kept. scalar_variable ty (Cell.Held kept)) (kept_value ty value)
    (kept_kind ty value) (λ kept kind. (Cell.Held kept, refl, kind))

-- an item that is found as a scalar is found, and is one
scalar_found : (got : Option Declared) (item : Declared) → option_and_then scalar_item got ≡ Some item → (got ≡ Some item) × (item.size ≡ 0)
scalar_found None item e = absurd (none-some item e)
scalar_found (Some one) item e = by (one.size == 0) refl e
  where
    by : (scalar : Bool) → (one.size == 0) ≡ scalar → (if scalar then Some one else None) ≡ Some item → (Some one ≡ Some item) × (item.size ≡ 0)
    by false is h = absurd (none-some item h)
    by true is h = (h, ap (λ (d : Declared). d.size) (sym (same_Some one item h)) ∙ eqb-true one.size 0 is)

named_parameter : (frames : List Frame) (items : List Declared) (name : List ℕ) (argument : Argument) → IsFinalArgument frames argument
    → WhenThere (λ entry. (entry.0 ≡ name) × IsParameter frames items entry) (parameter_named frames items name argument)
named_parameter frames items name argument final =
    there_then (λ (entry : List ℕ × Variable). (entry.0 ≡ name) × IsParameter frames items entry)
    (λ item. option_map (λ variable. (name, variable)) (parameter_of frames item.ty argument)) (option_and_then scalar_item (item_named name items))
    (λ item found.
    let scalar = scalar_found (item_named name items) item found in
    there_follow (IsScalar frames item.ty) (λ (entry : List ℕ × Variable). (entry.0 ≡ name) × IsParameter frames items entry)
    (λ variable. (name, variable)) (parameter_of frames item.ty argument) (one_parameter frames item.ty argument final)
    (λ variable is. (
      refl,
      record { item = item; named = scalar.0; scalar = scalar.1; cell = is.0; is = is.1; right = is.2 },
    )))

-- ---- all parameters

-- the variables are parameters with these names
abbrev pub AreParameters : List Frame → List Declared → List (List ℕ) → Variables → Type 0
AreParameters frames items names variables = (keys_of variables ≡ names) × AllByRecursion (IsParameter frames items) variables

before_level : (frames : List Frame) (items : List Declared) (name : List ℕ) (names : List (List ℕ)) (first : Option (List ℕ × Variable))
    (others : Option Variables)
    → WhenThere (λ entry. (entry.0 ≡ name) × IsParameter frames items entry) first → WhenThere (AreParameters frames items names) others
    → WhenThere (AreParameters frames items (name ∷ names)) (option_before first others)
before_level frames items name names None others one more = tt
before_level frames items name names (Some entry) None one more = tt
before_level frames items name names (Some entry) (Some others) one more =
    ((λ i. one.0 i ∷ more.0 i), (one.1, more.1))

pub are_parameters : (frames : List Frame) (items : List Declared) (names : List (List ℕ)) (arguments : List Argument)
    → AllByRecursion (IsFinalArgument frames) arguments
    → WhenThere (AreParameters frames items names) (parameter_variables frames items names arguments)
are_parameters frames items [] [] are = (refl, tt)
are_parameters frames items [] (argument ∷ arguments) are = tt
are_parameters frames items (name ∷ names) [] are = tt
are_parameters frames items (name ∷ names) (argument ∷ arguments) are =
    before_level frames items name names (parameter_named frames items name argument) (parameter_variables frames items names arguments)
    (named_parameter frames items name argument are.0) (are_parameters frames items names arguments are.1)

-- ---- what is found in two lists of variables

lookup_joined : (test : List ℕ → Bool) (xs ys : Variables) → lookup test (xs ++ ys) ≡ option_or (lookup test xs) (lookup test ys)
lookup_joined test [] ys = refl
lookup_joined test (x ∷ xs) ys = ap (λ (later : Option Variable). cond (test x.0) (Some x.1) later) (lookup_joined test xs ys) ∙ by (test x.0)
  where
    by : (here : Bool)
        → cond here (Some x.1) (option_or (lookup test xs) (lookup test ys)) ≡ option_or (cond here (Some x.1) (lookup test xs)) (lookup test ys)
    by true = refl
    by false = refl

-- what is found is one of them
entry_found : (P : List ℕ × Variable → Type 0) (test : List ℕ → Bool) (es : Variables) (variable : Variable) → AllByRecursion P es
    → lookup test es ≡ Some variable → (key : List ℕ) × (test key ≡ true) × P (key, variable)
entry_found P test [] variable all found = absurd (none-some variable found)
entry_found P test (entry ∷ es) variable all found = by (test entry.0) refl found (entry_found P test es variable all.1)
  where
    by : (here : Bool) → test entry.0 ≡ here → cond here (Some entry.1) (lookup test es) ≡ Some variable
        → (lookup test es ≡ Some variable → (key : List ℕ) × (test key ≡ true) × P (key, variable))
        → (key : List ℕ) × (test key ≡ true) × P (key, variable)
    by true is h later = (entry.0, is, subst (λ (v : Variable). P (entry.0, v)) (same_Some entry.1 variable h) all.0)
    by false is h later = later h

-- a name under which nothing is found is none of the keys
no_key : (test : List ℕ → Bool) (es : Variables) → lookup test es ≡ None → list_any test (keys_of es) ≡ false
no_key test [] found = refl
no_key test (entry ∷ es) found = by (test entry.0) found (no_key test es)
  where
    by : (here : Bool) → cond here (Some entry.1) (lookup test es) ≡ None → (lookup test es ≡ None → list_any test (keys_of es) ≡ false)
        → (here || list_any test (keys_of es)) ≡ false
    by true h later = absurd (none-some entry.1 (sym h))
    by false h later = later h

-- ---- the items that no parameter names

-- whether none of the names is that of the item
abbrev is_other : List (List ℕ) → Declared → Bool
is_other names item = not (list_any (bytes_eq item.name) names)

still_named : (names : List (List ℕ)) (items : List Declared) (name : List ℕ) → list_any (bytes_eq name) names ≡ false
    → item_named name (filter (is_other names) items) ≡ item_named name items
still_named names [] name none = refl
still_named names (item ∷ items) name none =
    by (is_other names item) (bytes_eq name item.name) refl refl (still_named names items name none)
  where
    by : (other here : Bool) → is_other names item ≡ other → bytes_eq name item.name ≡ here
        → item_named name (filter (is_other names) items) ≡ item_named name items
        → item_named name (cond other (item ∷ filter (is_other names) items) (filter (is_other names) items)) ≡ cond here (Some item) (item_named name items)
    by true here is same later =
        ap (λ (b : Bool). cond b (Some item) (item_named name (filter (is_other names) items))) same
        ∙ ap (λ (found : Option Declared). cond here (Some item) found) later
    by false false is same later = later
    by false true is same later =
        let own : name ≡ item.name = (bytes_eq-Decides name item.name).0 same in
        absurd
        (false≢true
        (sym is ∙ ap (λ (n : List ℕ). not (list_any (bytes_eq n) names)) (sym own) ∙ ap not none))

-- ---- different names

kind_level : (items : List Declared) (earlier : List (List ℕ)) (name : List ℕ) (named : Bool) → list_any (bytes_eq name) earlier ≡ named
    → is_some (if named then None else option_and_then scalar_kind (item_named name items)) ≡ true → list_any (bytes_eq name) earlier ≡ false
kind_level items earlier name true is some = absurd (false≢true some)
kind_level items earlier name false is some = is

-- names of which each has a kind behind those before it are different
kinds_distinct : (items : List Declared) (earlier names : List (List ℕ)) → IsDistinct bytes_eq earlier
    → list_all is_some (parameter_kinds items earlier names) ≡ true → IsDistinct bytes_eq (earlier ++ names)
kinds_distinct items earlier [] distinct all = subst (IsDistinct bytes_eq) (sym (append-nil earlier)) distinct
kinds_distinct items earlier (name ∷ names) distinct all =
    let both =
    and_both (is_some (parameter_kind items earlier name)) (list_all is_some (parameter_kinds items (earlier ++ (name ∷ [])) names)) all in
    subst (IsDistinct bytes_eq) (append_assoc earlier (name ∷ []) names)
    (kinds_distinct items (earlier ++ (name ∷ [])) names
    (distinct_behind earlier name distinct (kind_level items earlier name (list_any (bytes_eq name) earlier) refl both.0)) both.1)

-- those of items that pass a test are different, too
others_differ : (test : Declared → Bool) (name : List ℕ) (items : List Declared) → AllByRecursion (λ other. bytes_eq name other ≡ false) (item_names items)
    → AllByRecursion (λ other. bytes_eq name other ≡ false) (item_names (filter test items))
others_differ test name [] all = tt
others_differ test name (item ∷ items) all = by (test item) (others_differ test name items all.1)
  where
    by : (passes : Bool) → AllByRecursion (λ other. bytes_eq name other ≡ false) (item_names (filter test items))
        → AllByRecursion (λ other. bytes_eq name other ≡ false) (item_names (cond passes (item ∷ filter test items) (filter test items)))
    by true rest = (all.0, rest)
    by false rest = rest

filtered_distinct : (test : Declared → Bool) (items : List Declared) → IsDistinct bytes_eq (item_names items)
    → IsDistinct bytes_eq (item_names (filter test items))
filtered_distinct test [] distinct = distinct
filtered_distinct test (item ∷ items) distinct =
    by (test item) (filtered_distinct test items (IsDistinct-tail bytes_eq item.name (item_names items) distinct))
  where
    by : (passes : Bool) → IsDistinct bytes_eq (item_names (filter test items))
        → IsDistinct bytes_eq (item_names (cond passes (item ∷ filter test items) (filter test items)))
    by true rest =
        IsDistinct-cons bytes_eq item.name (item_names (filter test items))
        (others_differ test item.name items (IsDistinct-head bytes_eq item.name (item_names items) distinct)) rest
    by false rest = rest

not_true : (b : Bool) → not b ≡ true → b ≡ false
not_true true e = absurd (false≢true e)
not_true false e = refl

-- names of which the item has none differ from its name
each_other : (name : List ℕ) (names : List (List ℕ)) → list_any (bytes_eq name) names ≡ false
    → AllByRecursion (λ one. bytes_eq one name ≡ false) names
each_other name [] none = tt
each_other name (one ∷ names) none =
    let both = or_false (bytes_eq name one) (list_any (bytes_eq name) names) none in
    (same_name one name ∙ both.0, each_other name names both.1)

-- each of the names differs from each name of the other items
all_differ : (names : List (List ℕ)) (items : List Declared)
    → AllByRecursion (λ one. AllByRecursion (λ other. bytes_eq one other ≡ false) (item_names (filter (is_other names) items))) names
all_differ names items = over names (λ other none. each_other other names none)
  where
    row : (one : List ℕ) (rest : List Declared)
        → ((other : List ℕ) → list_any (bytes_eq other) names ≡ false → bytes_eq one other ≡ false)
        → AllByRecursion (λ other. bytes_eq one other ≡ false) (item_names (filter (is_other names) rest))
    row one [] differs = tt
    row one (item ∷ rest) differs = by (is_other names item) refl (row one rest differs)
      where
        by : (passes : Bool) → is_other names item ≡ passes
            → AllByRecursion (λ other. bytes_eq one other ≡ false) (item_names (filter (is_other names) rest))
            → AllByRecursion (λ other. bytes_eq one other ≡ false)
            (item_names (cond passes (item ∷ filter (is_other names) rest) (filter (is_other names) rest)))
        by true is more = (differs item.name (not_true (list_any (bytes_eq item.name) names) is), more)
        by false is more = more

    over : (some : List (List ℕ))
        → ((other : List ℕ) → list_any (bytes_eq other) names ≡ false → AllByRecursion (λ one. bytes_eq one other ≡ false) some)
        → AllByRecursion (λ one. AllByRecursion (λ other. bytes_eq one other ≡ false) (item_names (filter (is_other names) items))) some
    over [] differ = tt
    over (one ∷ some) differ =
        (row one items (λ other none. (differ other none).0), over some (λ other none. (differ other none).1))

all_joined : (P : List ℕ → Type 0) (xs ys : List (List ℕ)) → AllByRecursion P xs → AllByRecursion P ys → AllByRecursion P (xs ++ ys)
all_joined P [] ys one other = other
all_joined P (x ∷ xs) ys one other = (one.0, all_joined P xs ys one.1 other)

joined_distinct : (xs ys : List (List ℕ)) → IsDistinct bytes_eq xs → IsDistinct bytes_eq ys
    → AllByRecursion (λ one. AllByRecursion (λ other. bytes_eq one other ≡ false) ys) xs → IsDistinct bytes_eq (xs ++ ys)
joined_distinct [] ys one other differ = other
joined_distinct (x ∷ xs) ys one other differ =
    IsDistinct-cons bytes_eq x (xs ++ ys)
    (all_joined (λ y. bytes_eq x y ≡ false) xs ys (IsDistinct-head bytes_eq x xs one) differ.0)
    (joined_distinct xs ys (IsDistinct-tail bytes_eq x xs one) other differ.1)

keys_joined : (xs ys : Variables) → keys_of (xs ++ ys) ≡ keys_of xs ++ keys_of ys
keys_joined [] ys = refl
keys_joined (x ∷ xs) ys = ap (λ (keys : List (List ℕ)). x.0 ∷ keys) (keys_joined xs ys)

-- ---- the variables of the frame

same_level : (got other : Option Variable) (item : Option Declared)
    → ((variable : Variable) → got ≡ Some variable → Some (variable_part variable) ≡ option_map declared_part item)
    → (got ≡ None → option_map variable_part other ≡ option_map declared_part item)
    → option_map variable_part (option_or got other) ≡ option_map declared_part item
same_level None other item one more = more refl
same_level (Some variable) other item one more = one variable refl

whole_level : (got other : Option Variable) (variable : Variable) (P : Type 0) → option_or got other ≡ Some variable
    → (got ≡ Some variable → P) → (other ≡ Some variable → P) → P
whole_level None other variable P e one more = more e
whole_level (Some found) other variable P e one more = one e

module _ (frames : List Frame) (items : List Declared) (names : List (List ℕ)) (parameters : Variables)
    (are : AreParameters frames items names parameters) where
  parameter_part : (name : List ℕ) (variable : Variable) → variable_named name parameters ≡ Some variable
      → Some (variable_part variable) ≡ option_map declared_part (item_named name items)
  parameter_part name variable found =
      let entry = entry_found (IsParameter frames items) (bytes_eq name) parameters variable are.1 found in
      let own : name ≡ entry.0 = (bytes_eq-Decides name entry.0).0 entry.1 in
      ap (λ (v : Variable). Some (variable_part v)) entry.2.is ∙ ap (λ (size : ℕ). Some (entry.2.item.ty, size)) (sym entry.2.scalar)
      ∙ sym (ap (option_map declared_part) (ap (λ (n : List ℕ). item_named n items) own ∙ entry.2.named))

  parameter_whole : (name : List ℕ) (variable : Variable) → variable_named name parameters ≡ Some variable
      → length variable.cells ≡ cells_in variable.size
  parameter_whole name variable found =
      let entry = entry_found (IsParameter frames items) (bytes_eq name) parameters variable are.1 found in
      subst (λ (v : Variable). length v.cells ≡ cells_in v.size) (sym entry.2.is) refl

  parameter_right : (name : List ℕ) (element : ℕ) (variable : Variable) (cell : Cell) → variable_named name parameters ≡ Some variable
      → slice_get variable.cells element ≡ Some cell → HoldsRight frames (length frames) (kind_of_type variable.ty) cell
  parameter_right name element variable cell found held =
      let entry = entry_found (IsParameter frames items) (bytes_eq name) parameters variable are.1 found in
      subst (λ (kind : Kind). HoldsRight frames (length frames) kind cell) (sym (ap (λ (v : Variable). kind_of_type v.ty) entry.2.is))
      (only (kind_of_type entry.2.item.ty) entry.2.cell element cell (ap (λ (v : Variable). slice_get v.cells element) (sym entry.2.is) ∙ held) entry.2.right)
    where
      only : (kind : Kind) (one : Cell) (k : ℕ) (cell : Cell) → slice_get (one ∷ []) k ≡ Some cell → HoldsRight frames (length frames) kind one
          → HoldsRight frames (length frames) kind cell
      only kind one zero cell e right = subst (HoldsRight frames (length frames) kind) (same_Some one cell e) right
      only kind one (suc k) cell e right = absurd (none-some cell e)

  -- the variables of the frame that is called
  pub called_variables : IsDistinct bytes_eq (item_names items) → list_all is_some (parameter_kinds items [] names) ≡ true
      → AreVariables items (parameters ++ other_variables names items)
  called_variables distinct kinds =
      let others : List Declared = filter (is_other names) items in
      record {
        once =
            subst (IsDistinct bytes_eq)
            (sym (keys_joined parameters (map unset_named others) ∙ ap (λ (keys : List (List ℕ)). keys ++ item_names others) are.0))
            (joined_distinct names (item_names others) (kinds_distinct items [] names no_names kinds) (filtered_distinct (is_other names) items distinct)
            (all_differ names items));
        same =
            λ name.
            ap (option_map variable_part) (lookup_joined (bytes_eq name) parameters (map unset_named others))
            ∙ same_level (variable_named name parameters) (variable_named name (map unset_named others)) (item_named name items) (parameter_part name)
            (λ none.
            unset_same name others
            ∙ ap (option_map declared_part)
            (still_named names items name
            (ap (list_any (bytes_eq name)) (sym are.0) ∙ no_key (bytes_eq name) parameters none)));
        whole =
            λ name variable found.
            whole_level (variable_named name parameters) (variable_named name (map unset_named others)) variable
            (length variable.cells ≡ cells_in variable.size) (sym (lookup_joined (bytes_eq name) parameters (map unset_named others)) ∙ found)
            (parameter_whole name variable)
            ((unset_variables others (filtered_distinct (is_other names) items distinct)).whole name variable);
      }

  -- and what they hold
  pub called_right : (name : List ℕ) (element : ℕ) (variable : Variable) (cell : Cell)
      → variable_named name (parameters ++ other_variables names items) ≡ Some variable → slice_get variable.cells element ≡ Some cell
      → HoldsRight frames (length frames) (kind_of_type variable.ty) cell
  called_right name element variable cell found held =
      let others : List Declared = filter (is_other names) items in
      whole_level (variable_named name parameters) (variable_named name (map unset_named others)) variable
      (HoldsRight frames (length frames) (kind_of_type variable.ty) cell)
      (sym (lookup_joined (bytes_eq name) parameters (map unset_named others)) ∙ found)
      (λ one. parameter_right name element variable cell one held)
      (λ more.
      let from = unset_found name others variable more in
      let unset : cell ≡ Cell.Unset = unset_cell from.0 element cell (ap (λ (v : Variable). slice_get v.cells element) (sym from.1) ∙ held) in
      subst (HoldsRight frames (length frames) (kind_of_type variable.ty)) (sym unset) tt)
