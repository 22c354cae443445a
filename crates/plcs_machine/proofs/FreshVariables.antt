-- Variables that are made in a new frame: their names are different, and they have not too many cells together, so each
-- of them can be added behind those before it. The effective items of a procedure are such.
use Rattle.std.specs.Prelude.{◌≡◌, refl, ℕ, ◌+◌, ◌≤◌, Bool, true, false, cond, bytes_eq, if◌then◌else◌, nat_le, nat_lt, ◌&&◌, List, [], ◌∷◌, ◌++◌, length, map, Option, Some, None, is_none, is_some}
use Rattle.std.proofs.Common.{ap, sym, ◌∙◌, subst, arith, append_assoc}
use Rattle.std.proofs.Math.Bool.{false≢true}
use Rattle.std.proofs.lemmas.Bool.{le-leb, ltb-false}
use Rattle.std.proofs.lemmas.List.{append-nil, length-replicate, map-append}
use Rattle.std.proofs.lemmas.List.Sums.{sum_by-append, sum_by-cons}
use Rattle.plcs_base.specs.declared.declared.Declared.{Declared}
use Rattle.plcs_base.specs.declared.mark.MarkKind.{MarkKind}
use Rattle.plcs_grammar.specs.Builtin.{is_builtin_name}
use Rattle.template_tree.specs.Checks.Environment.{all_declared, cells, cells_of, effective, item_named, item_offence, items_inside, with_declared}
use Rattle.template_tree.specs.Programs.Limit.{most_cells}
use Rattle.template_tree.specs.Programs.PlainTree.{Forest}
use Rattle.plcs_store.specs.declared.cell.Cell.{Cell}
use Rattle.plcs_store.specs.declared.variable.Variable.{Variable}
use Rattle.plcs_store.specs.CellAt.{Variables, unset_named, unset_variable, variable_named}
use Rattle.plcs_machine.specs.Passing.{cell_count, with_variable}

-- a variable under its name
abbrev pub Named : Type 0
Named = List ℕ × Variable

-- ---- what is found behind others

behind_level : (here : Bool) (own : Variable) (one other joined : Option Variable) → cond here (Some own) one ≡ None
    → (one ≡ None → joined ≡ other) → cond here (Some own) joined ≡ other
behind_level true own one other joined none more = absurd (by none)
  where
    filled : Option Variable → Bool
    filled None = false
    filled (Some there) = true

    by : Some own ≡ None → ⊥
    by e = false≢true (sym (ap filled e))
behind_level false own one other joined none more = more none

-- a name that none of some variables has is looked up behind them
pub named_behind : (name : List ℕ) (one other : Variables) → variable_named name one ≡ None → variable_named name (one ++ other) ≡ variable_named name other
named_behind name [] other none = refl
named_behind name (own ∷ one) other none =
    behind_level (bytes_eq name own.0) own.1 (variable_named name one) (variable_named name other) (variable_named name (one ++ other)) none
    (named_behind name one other)

-- ---- names apart

-- none of the variables has the name of one before it
abbrev pub NamesApart : (before variables : Variables) → Type 0
NamesApart before [] = Unit {0}
NamesApart before (own ∷ variables) = (variable_named own.0 before ≡ None) × NamesApart (before ++ (own ∷ [])) variables

pub apart_behind : (before variables : Variables) (last : Named) → NamesApart before variables → variable_named last.0 (before ++ variables) ≡ None
    → NamesApart before (variables ++ (last ∷ []))
apart_behind before [] last apart none = (ap (variable_named last.0) (sym (append-nil before)) ∙ none, tt)
apart_behind before (own ∷ variables) last apart none = (
  apart.0,
  apart_behind (before ++ (own ∷ [])) variables last apart.1
      (ap (variable_named last.0) (append_assoc before (own ∷ []) variables) ∙ none),
)

-- ---- cells

pub count_cons : (own : Named) (variables : Variables) → cell_count (own ∷ variables) ≡ length own.1.cells + cell_count variables
count_cons own variables = sum_by-cons (λ (named : Named). length named.1.cells) own variables

pub count_append : (one other : Variables) → cell_count (one ++ other) ≡ cell_count one + cell_count other
count_append one other = sum_by-append (λ (named : Named). length named.1.cells) one other

-- ---- variables that can be added

-- one can be added
pub one_added : (name : List ℕ) (variable : Variable) (before : Variables) → variable_named name before ≡ None
    → cell_count before + length variable.cells ≤ most_cells → with_variable name variable before ≡ Some (before ++ ((name, variable) ∷ []))
one_added name variable before none few =
    ap (λ (b : Bool). if b then Some (before ++ ((name, variable) ∷ [])) else None)
    (ap (λ (o : Option Variable). is_none o && nat_le (cell_count before + length variable.cells) most_cells) none
    ∙ le-leb (cell_count before + length variable.cells) most_cells few)

-- each of the variables can be added behind those before it
abbrev pub Added : (before variables : Variables) → Type 0
Added before [] = Unit {0}
Added before (own ∷ variables) =
    (with_variable own.0 own.1 before ≡ Some (before ++ (own ∷ []))) × Added (before ++ (own ∷ [])) variables

pub all_added : (before variables : Variables) → NamesApart before variables → cell_count before + cell_count variables ≤ most_cells
    → Added before variables
all_added before [] apart few = tt
all_added before (own ∷ variables) apart few =
    let first = count_cons own variables in
    let last : cell_count (own ∷ []) ≡ length own.1.cells + cell_count [] = count_cons own [] in
    let more = count_append before (own ∷ []) in
    let none : cell_count [] ≡ 0 = refl in (
      one_added own.0 own.1 before apart.0 (omega (arith, few, first)),
      all_added (before ++ (own ∷ [])) variables apart.1 (omega (arith, few, first, last, more, none)),
    )

-- ---- effective items

unset_level : (here : Bool) (item : Declared) (found : Option Declared) (named : Option Variable) → (is_some found ≡ false → named ≡ None)
    → is_some (cond here (Some item) found) ≡ false → cond here (Some (unset_variable item)) named ≡ None
unset_level true item found named more e = absurd (false≢true (sym e))
unset_level false item found named more e = more e

-- a name that none of the items has is that of no variable of theirs
pub unset_none : (name : List ℕ) (items : List Declared) → is_some (item_named name items) ≡ false → variable_named name (map unset_named items) ≡ None
unset_none name [] e = refl
unset_none name (item ∷ items) e =
    unset_level (bytes_eq name item.name) item (item_named name items) (variable_named name (map unset_named items)) (unset_none name items) e

-- the variables of items have as many cells
pub unset_count : (items : List Declared) → cell_count (map unset_named items) ≡ cells items
unset_count [] = refl
unset_count (item ∷ items) =
    let first = count_cons (unset_named item) (map unset_named items) in
    let own : length (unset_variable item).cells ≡ cells_of item = length-replicate (cells_of item) Cell.Unset in
    let told : cells (item ∷ items) ≡ cells_of item + cells items = sum_by-cons cells_of item items in
    let again = unset_count items in
    omega (arith, first, own, told, again)

-- items whose variables can be made
record AreFresh (items : List Declared) : Type 0 where
  apart : NamesApart [] (map unset_named items)
  few : cells items ≤ most_cells

-- what is no offence has a name of its own, and not too many cells
offence_level : (reserved named many : Bool)
    → is_some (if reserved then Some MarkKind.Reserved else (if named then Some MarkKind.Duplicate
    else (if many then Some MarkKind.TooManyCells else None))) ≡ false
    → (named ≡ false) × (many ≡ false)
offence_level true named many e = absurd (false≢true (sym e))
offence_level false true many e = absurd (false≢true (sym e))
offence_level false false true e = absurd (false≢true (sym e))
offence_level false false false e = (refl, refl)

fresh_level : (offends : Bool) (before : List Declared) (item : Declared) → is_some (item_offence before item) ≡ offends → AreFresh before
    → AreFresh (if offends then before else before ++ (item ∷ []))
fresh_level true before item e fresh = fresh
fresh_level false before item e fresh =
    let fine = offence_level (is_builtin_name item.name) (is_some (item_named item.name before)) (nat_lt most_cells (cells before + cells_of item)) e in
    let more : cells before + cells_of item ≤ most_cells = ltb-false most_cells (cells before + cells_of item) fine.1 in
    let joined : cells (before ++ (item ∷ [])) ≡ cells before + cells (item ∷ []) = sum_by-append cells_of before (item ∷ []) in
    let last : cells (item ∷ []) ≡ cells_of item + cells [] = sum_by-cons cells_of item [] in
    let none : cells [] ≡ 0 = refl in
    record {
      apart =
          subst (NamesApart []) (sym (map-append unset_named before (item ∷ [])))
          (apart_behind [] (map unset_named before) (unset_named item) fresh.apart (unset_none item.name before fine.0));
      few = omega (arith, more, joined, last, none);
    }

fresh_effective : (before items : List Declared) → AreFresh before → AreFresh (effective before items)
fresh_effective before [] fresh = fresh
fresh_effective before (item ∷ rest) fresh =
    fresh_effective (with_declared before item) rest (fresh_level (is_some (item_offence before item)) before item refl fresh)

none_fresh : AreFresh []
none_fresh = record { apart = tt; few = omega arith }

-- the variables of a procedure's effective items can be made one after the other
pub inside_apart : (inner : Forest) → NamesApart [] (map unset_named (items_inside inner))
inside_apart inner = (fresh_effective [] (all_declared inner) none_fresh).apart

pub inside_few : (inner : Forest) → cells (items_inside inner) ≤ most_cells
inside_few inner = (fresh_effective [] (all_declared inner) none_fresh).few

pub inside_added : (inner : Forest) → Added [] (map unset_named (items_inside inner))
inside_added inner =
    let count = unset_count (items_inside inner) in
    let few = inside_few inner in
    let none : cell_count [] ≡ 0 = refl in
    all_added [] (map unset_named (items_inside inner)) (inside_apart inner) (omega (arith, count, few, none))
