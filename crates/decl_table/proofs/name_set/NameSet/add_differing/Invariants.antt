use Rattle.std.proofs.Common.{◌≡◌, List, ℕ, drop}
use Rattle.std.specs.Prelude.{◌||◌}
use Rattle.decl_table.specs.Private.ItemTests.{is_lost}
use Rattle.decl_table.specs.Private.NameTests.{has_name}
use Rattle.decl_table.proofs.GatheredTests.{lost_in}
use Rattle.decl_table.proofs.name_set.NameSet.add_differing.Given as goal

abbrev pub invariant-loop-k : goal.invariant-loop-k
invariant-loop-k l =
    (other : List ℕ) → (has_name l.self other || lost_in l.items l.others other (drop l.k l.items))
    ≡ (has_name l.fn.self other || is_lost l.items l.others other)
