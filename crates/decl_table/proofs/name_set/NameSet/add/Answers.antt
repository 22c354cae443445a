use Rattle.std.proofs.Common.{List, ℕ, subst}
use Rattle.std.specs.Prelude.{bytes_eq}
use Rattle.decl_table.specs.Private.NameTests.{AddsNames}
use Rattle.decl_table.proofs.AddedNames.{adds_name}
use Rattle.decl_table.proofs.name_set.NameSet.add.Goals as goal

pub returns : goal.returns
returns c =
    subst (λ (old : List (List ℕ)). AddsNames (bytes_eq c.args.name.now) old c.insert.new.self.keys) c.self.view_is
    (adds_name c.self.inside.names.keys c.insert.new.self.keys c.copy.result c.args.name.now c.copy.ensures
    (λ q. c.in_ok-insert.ensures.updates.0 q))
