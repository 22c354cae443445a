use Rattle.std.proofs.Common.{◌≡◌, List, ℕ, drop}
use Rattle.std.specs.Prelude.{◌||◌}
use Rattle.decl_table.specs.Private.NameTests.{has_name}
use Rattle.decl_table.proofs.name_set.NameSet.add_all.Given as goal

abbrev pub invariant-loop-name : goal.invariant-loop-name
invariant-loop-name l =
    (other : List ℕ) → (has_name l.self other || has_name (drop l.name-index l.names) other)
    ≡ (has_name l.fn.self other || has_name l.names other)
