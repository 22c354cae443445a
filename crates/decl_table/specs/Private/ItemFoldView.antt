-- The fold over the declarations of a procedure in memory.
use Rattle.std.specs.Prelude.{◌≡◌, ◌≤◌, List, Option}
use Rattle.std.specs.Coded.{Coded, coded_list, coded_option}
use Rattle.plcs_base.specs.declared.mark.MarkKind.{MarkKind}
use Rattle.plcs_base.specs.contracts.mark.MarkKind as mark_row
use Rattle.template_tree.specs.Checks.Environment.{cells}
use Rattle.template_tree.specs.Programs.Limit.{most_cells}
use Rattle.decl_table.specs.declared.item_fold.ItemFold.TheInside.{Inside}

-- the cells of the items that were taken are counted and within the limit
pub record IsCounted (a : Inside) : Type 0 where
  pub counted : a.cells ≡ cells a.items
  pub few : a.cells ≤ most_cells

-- the code of the offences of declared lists
abbrev pub list_offences_code : Coded (List (Option MarkKind))
list_offences_code = coded_list (coded_option mark_row.the_row.coded)
