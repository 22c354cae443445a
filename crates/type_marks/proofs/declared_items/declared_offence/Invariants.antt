use Rattle.std.proofs.Common.{◌≡◌, [], ◌++◌, Some, drop, map, take}
use Rattle.plcs_base.specs.declared.declared.ItemType.{ItemType}
use Rattle.template_tree.specs.Checks.Environment.{declared_as, effective}
use Rattle.template_tree.specs.Checks.Marks.{declared_before, type_in}
use Rattle.template_tree.specs.Checks.Verdict.{declared_offence}
use Rattle.type_marks.proofs.declared_items.declared_offence.Given as goal

abbrev pub invariant-loop-i : goal.invariant-loop-i
invariant-loop-i l =
    (ty : ItemType) → type_in l.procedure.inner l.slot.0 ≡ Some ty
    → declared_offence (effective [] (declared_before l.procedure.inner l.slot.0 ++ map (declared_as ty) (take l.i l.items))) (map (declared_as ty) (drop l.i l.items))
    ≡ declared_offence (effective [] (declared_before l.procedure.inner l.slot.0)) (map (declared_as ty) l.items)
