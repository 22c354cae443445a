use Rattle.std.proofs.Common.{◌≡◌, Some, drop}
use Rattle.std.specs.Option.{option_or}
use Rattle.template_tree.specs.Checks.Environment.{effective, with_type}
use Rattle.template_tree.specs.Checks.Verdict.{declared_offence}
use Rattle.decl_table.proofs.item_fold.ItemFold.declare_list.Given as goal

abbrev pub invariant-loop-item : goal.invariant-loop-item
invariant-loop-item l = record {
  items : effective l.self (with_type (Some l.ty) (drop l.item-index l.list)) ≡ effective l.fn.self (with_type (Some l.ty) l.list);
  offence :
      option_or l.first (declared_offence l.self (with_type (Some l.ty) (drop l.item-index l.list)))
      ≡ declared_offence l.fn.self (with_type (Some l.ty) l.list);
}
