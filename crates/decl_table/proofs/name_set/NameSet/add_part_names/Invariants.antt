use Rattle.std.proofs.Common.{◌≡◌, List, ℕ, drop}
use Rattle.std.specs.Prelude.{◌||◌}
use Rattle.decl_table.specs.Private.NameTests.{has_name, parts_have}
use Rattle.decl_table.proofs.name_set.NameSet.add_part_names.Given as goal

abbrev pub invariant-loop-names : goal.invariant-loop-names
invariant-loop-names l =
    (other : List ℕ) → (has_name l.self other || parts_have (drop l.names-index l.node.label.parts) other)
    ≡ (has_name l.fn.self other || parts_have l.node.label.parts other)
