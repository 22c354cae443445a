use Rattle.std.proofs.Common.{List, ℕ, Option, false, refl, subst, sym}
use Rattle.decl_table.specs.Private.NameTests.{AddsNames, part_has}
use Rattle.decl_table.proofs.AddedNames.{adds_no_names}
use Rattle.decl_table.proofs.name_set.NameSet.add_part.Goals as goal

pub returns-in-None : goal.returns-in-None
returns-in-None c =
    subst (λ (o : Option (List (List ℕ))). AddsNames (part_has o) c.args.self.now c.args.self.now) (sym c.in-None.is)
    (adds_no_names c.args.self.now (λ name. false) (λ name. refl))
