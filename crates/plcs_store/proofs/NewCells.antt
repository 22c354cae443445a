-- The variables of a new frame are those of the effective items: these have different names, and no cell is set.
use Rattle.std.specs.Prelude.{◌≡◌, refl, ℕ, ◌+◌, ◌<◌, Bool, true, false, cond, ◌||◌, bytes_eq, if◌then◌else◌, nat_lt, List, [], ◌∷◌, ◌++◌, length, map, replicate, slice_get, Option, Some, None, is_some, option_map, unwrap_or}
use Rattle.std.specs.List.{AllByRecursion, IsDistinct, list_any}
use Rattle.std.specs.Map.{keys_of}
use Rattle.std.proofs.Common.{ap, sym, ◌∙◌, subst}
use Rattle.std.proofs.Math.Bool.{false≢true}
use Rattle.std.proofs.lemmas.List.{get_or-replicate, length-replicate}
use Rattle.std.proofs.lemmas.Option.{get_or_from_slice_get, none-some, slice_get_within}
use Rattle.std.proofs.lemmas.Slice.Eq.{bytes_eq-Decides}
use Rattle.plcs_base.specs.declared.declared.Declared.{Declared}
use Rattle.plcs_base.specs.declared.mark.MarkKind.{MarkKind}
use Rattle.plcs_grammar.specs.Builtin.{is_builtin_name}
use Rattle.template_tree.specs.Checks.Environment.{all_declared, cells, cells_in, cells_of, effective, item_named, item_offence, items_inside, with_declared}
use Rattle.template_tree.specs.Programs.Limit.{most_cells}
use Rattle.template_tree.specs.Programs.PlainTree.{Forest}
use Rattle.plcs_store.specs.declared.cell.Cell.{Cell}
use Rattle.plcs_store.specs.declared.variable.Variable.{Variable}
use Rattle.plcs_store.specs.CellAt.{unset_named, unset_variable, variable_named}
use Rattle.plcs_store.specs.Fits.{AreVariables, declared_part, variable_part}

-- ---- different names

-- whether names are equal doesn't depend on which comes first
pub same_name : (one other : List ℕ) → bytes_eq one other ≡ bytes_eq other one
same_name one other = by (bytes_eq one other) (bytes_eq other one) refl refl
  where
    by : (a b : Bool) → bytes_eq one other ≡ a → bytes_eq other one ≡ b → a ≡ b
    by true true e f = refl
    by false false e f = refl
    by true false e f = sym ((bytes_eq-Decides other one).1 (sym ((bytes_eq-Decides one other).0 e))) ∙ f
    by false true e f = sym e ∙ (bytes_eq-Decides one other).1 (sym ((bytes_eq-Decides other one).0 f))

pub or_false : (one other : Bool) → (one || other) ≡ false → (one ≡ false) × (other ≡ false)
or_false true other e = absurd (false≢true (sym e))
or_false false other e = (refl, e)

-- a name is none of some where a search for it finds none of them
all_others : (name : List ℕ) (names : List (List ℕ)) → AllByRecursion (λ other. bytes_eq name other ≡ false) names
    → (last : List ℕ) → bytes_eq name last ≡ false → AllByRecursion (λ other. bytes_eq name other ≡ false) (names ++ last ∷ [])
all_others name [] all last e = (e, tt)
all_others name (other ∷ names) all last e = (all.0, all_others name names all.1 last e)

pub distinct_behind : (names : List (List ℕ)) (last : List ℕ) → IsDistinct bytes_eq names → list_any (bytes_eq last) names ≡ false
    → IsDistinct bytes_eq (names ++ last ∷ [])
unfolding IsDistinct
distinct_behind [] last distinct none = (tt, tt)
distinct_behind (name ∷ names) last distinct none =
    let both = or_false (bytes_eq last name) (list_any (bytes_eq last) names) none in (
      all_others name names distinct.0 last (same_name name last ∙ both.0),
      distinct_behind names last distinct.1 both.1,
    )

-- the names of declared items
abbrev pub item_names : List Declared → List (List ℕ)
item_names items = keys_of (map unset_named items)

names_behind : (items : List Declared) (last : Declared) → item_names (items ++ last ∷ []) ≡ item_names items ++ last.name ∷ []
names_behind [] last = refl
names_behind (item ∷ items) last = ap (λ (names : List (List ℕ)). item.name ∷ names) (names_behind items last)

found_level : (same : Bool) (item : Declared) (found : Option Declared) (among : Bool) → (is_some found ≡ false → among ≡ false)
    → is_some (cond same (Some item) found) ≡ false → (same || among) ≡ false
found_level true item found among more e = absurd (false≢true (sym e))
found_level false item found among more e = more e

not_among : (name : List ℕ) (items : List Declared) → is_some (item_named name items) ≡ false
    → list_any (bytes_eq name) (item_names items) ≡ false
not_among name [] e = refl
not_among name (item ∷ items) e =
    found_level (bytes_eq name item.name) item (item_named name items) (list_any (bytes_eq name) (item_names items)) (not_among name items) e

-- what is effective has a name of its own
offence_level : (reserved named many : Bool)
    → is_some (if reserved then Some MarkKind.Reserved else (if named then Some MarkKind.Duplicate
    else (if many then Some MarkKind.TooManyCells else None))) ≡ false
    → named ≡ false
offence_level true named many e = absurd (false≢true (sym e))
offence_level false true many e = absurd (false≢true (sym e))
offence_level false false many e = refl

with_level : (offends : Bool) (before : List Declared) (item : Declared) → is_some (item_offence before item) ≡ offends
    → IsDistinct bytes_eq (item_names before) → IsDistinct bytes_eq (item_names (if offends then before else before ++ (item ∷ [])))
with_level true before item e distinct = distinct
with_level false before item e distinct =
    subst (IsDistinct bytes_eq) (sym (names_behind before item))
    (distinct_behind (item_names before) item.name distinct
    (not_among item.name before
    (offence_level (is_builtin_name item.name) (is_some (item_named item.name before)) (nat_lt most_cells (cells before + cells_of item)) e)))

effective_distinct : (before items : List Declared) → IsDistinct bytes_eq (item_names before)
    → IsDistinct bytes_eq (item_names (effective before items))
effective_distinct before [] distinct = distinct
effective_distinct before (item ∷ rest) distinct =
    effective_distinct (with_declared before item) rest
    (with_level (is_some (item_offence before item)) before item refl distinct)

pub no_names : IsDistinct bytes_eq (item_names [])
unfolding IsDistinct
no_names = tt

-- the effective items of a procedure have different names
pub names_distinct : (inner : Forest) → IsDistinct bytes_eq (item_names (items_inside inner))
names_distinct inner = effective_distinct [] (all_declared inner) no_names

-- ---- variables that aren't set

same_level : (here : Bool) (item : Declared) (variables : Option Variable) (items : Option Declared)
    → option_map variable_part variables ≡ option_map declared_part items
    → option_map variable_part (cond here (Some (unset_variable item)) variables) ≡ option_map declared_part (cond here (Some item) items)
same_level true item variables items e = refl
same_level false item variables items e = e

pub unset_same : (name : List ℕ) (items : List Declared)
    → option_map variable_part (variable_named name (map unset_named items)) ≡ option_map declared_part (item_named name items)
unset_same name [] = refl
unset_same name (item ∷ items) =
    same_level (bytes_eq name item.name) item (variable_named name (map unset_named items)) (item_named name items) (unset_same name items)

unset_level : (here : Bool) (item : Declared) (variables : Option Variable) (variable : Variable)
    → (variables ≡ Some variable → (one : Declared) × (variable ≡ unset_variable one))
    → cond here (Some (unset_variable item)) variables ≡ Some variable → (one : Declared) × (variable ≡ unset_variable one)
unset_level true item variables variable more e = (item, sym (ap (λ (found : Option Variable). unwrap_or found variable) e))
unset_level false item variables variable more e = more e

-- each variable of the items is one that isn't set
pub unset_found : (name : List ℕ) (items : List Declared) (variable : Variable) → variable_named name (map unset_named items) ≡ Some variable
    → (item : Declared) × (variable ≡ unset_variable item)
unset_found name [] variable e = absurd (none-some variable e)
unset_found name (item ∷ items) variable e =
    unset_level (bytes_eq name item.name) item (variable_named name (map unset_named items)) variable (unset_found name items variable) e

-- no cell of it is set
pub unset_cell : (item : Declared) (k : ℕ) (cell : Cell) → slice_get (unset_variable item).cells k ≡ Some cell → cell ≡ Cell.Unset
unset_cell item k cell e =
    let n : ℕ = cells_of item in
    let few : k < n = subst (λ (m : ℕ). k < m) (length-replicate n Cell.Unset) (slice_get_within (replicate n Cell.Unset) k cell e) in
    sym (get_or_from_slice_get (replicate n Cell.Unset) k cell cell e) ∙ get_or-replicate n k Cell.Unset cell few

-- the variables of items, none of them set, are those of the items
pub unset_variables : (items : List Declared) → IsDistinct bytes_eq (item_names items) → AreVariables items (map unset_named items)
unset_variables items distinct =
    record {
      once = distinct;
      same = λ name. unset_same name items;
      whole =
          λ name variable e.
          let found = unset_found name items variable e in
          subst (λ (one : Variable). length one.cells ≡ cells_in one.size) (sym found.1) (length-replicate (cells_of found.0) Cell.Unset);
    }
