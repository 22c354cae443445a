-- `items_keep_limits`: what is effective has a name of its own, and its cells are within the limit with those before.
use Rattle.std.specs.Prelude.{◌≡◌, refl, ◌+◌, ◌≤◌, Bool, true, false, if◌then◌else◌, nat_lt, List, [], ◌∷◌, ◌++◌, Some, None, is_some}
use Rattle.std.proofs.Common.{sym, arith}
use Rattle.std.proofs.Math.Bool.{false≢true}
use Rattle.std.proofs.lemmas.Bool.{ltb-false}
use Rattle.std.proofs.lemmas.List.Sums.{sum_by-append, sum_by-cons}
use Rattle.plcs_base.specs.declared.declared.Declared.{Declared}
use Rattle.plcs_base.specs.declared.mark.MarkKind.{MarkKind}
use Rattle.plcs_grammar.specs.Builtin.{is_builtin_name}
use Rattle.template_tree.specs.Checks.Environment.{all_declared, cells, cells_of, effective, item_named, item_offence, with_declared}
use Rattle.template_tree.specs.Programs.Limit.{most_cells}
use Rattle.plcs_store.specs.NewFrame.{ItemsKeepLimits}
use Rattle.plcs_store.proofs.NewCells.{names_distinct}

offence_few : (reserved named many : Bool)
    → is_some (if reserved then Some MarkKind.Reserved else (if named then Some MarkKind.Duplicate
    else (if many then Some MarkKind.TooManyCells else None))) ≡ false
    → many ≡ false
offence_few true named many e = absurd (false≢true (sym e))
offence_few false true many e = absurd (false≢true (sym e))
offence_few false false true e = absurd (false≢true (sym e))
offence_few false false false e = e

with_few : (offends : Bool) (before : List Declared) (item : Declared) → is_some (item_offence before item) ≡ offends
    → cells before ≤ most_cells → cells (if offends then before else before ++ (item ∷ [])) ≤ most_cells
with_few true before item e few = few
with_few false before item e few =
    let small : nat_lt most_cells (cells before + cells_of item) ≡ false =
    offence_few (is_builtin_name item.name) (is_some (item_named item.name before)) (nat_lt most_cells (cells before + cells_of item)) e in
    let all = sum_by-append cells_of before (item ∷ []) in
    let one = sum_by-cons cells_of item [] in
    let within : cells before + cells_of item ≤ most_cells = ltb-false most_cells (cells before + cells_of item) small in
    omega (arith, within, all, one)

effective_few : (before items : List Declared) → cells before ≤ most_cells → cells (effective before items) ≤ most_cells
effective_few before [] few = few
effective_few before (item ∷ rest) few =
    effective_few (with_declared before item) rest (with_few (is_some (item_offence before item)) before item refl few)

pub items_keep_limits : ItemsKeepLimits
items_keep_limits inner = record { few = effective_few [] (all_declared inner) (omega arith); once = names_distinct inner }
