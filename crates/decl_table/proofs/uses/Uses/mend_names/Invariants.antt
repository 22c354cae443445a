use Rattle.std.proofs.Common.{take}
use Rattle.std.specs.Prelude.{bytes_eq}
use Rattle.std.specs.List.{list_any}
use Rattle.std.specs.Map.{keys_of}
use Rattle.decl_table.specs.Private.UsesView.{MendsNames}
use Rattle.decl_table.proofs.uses.Uses.mend_names.Given as goal

abbrev pub invariant-loop-k : goal.invariant-loop-k
invariant-loop-k l =
    MendsNames (λ name. list_any (bytes_eq name) (take l.k (keys_of l.names.uses))) l.before.uses l.went.uses l.came.uses l.fn.self.uses
    l.self.uses
