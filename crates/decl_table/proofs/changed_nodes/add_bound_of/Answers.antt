use Rattle.std.specs.Prelude.{Option, None}
use Rattle.std.specs.Option.{option_copied}
use Rattle.std.proofs.Common.{Bor, sym, subst, refl}
use Rattle.decl_table.specs.Private.NameTests.{AddsNames, bound_of}
use Rattle.decl_table.specs.Private.PlainNameNode.{PlainNameNode}
use Rattle.decl_table.proofs.AddedNames.{adds_no_names}
use Rattle.decl_table.proofs.changed_nodes.add_bound_of.Goals as goal

pub returns-in_default : goal.returns-in_default
returns-in_default c =
    subst
    (λ (o : Option (Bor PlainNameNode)). AddsNames (bound_of c.args.part (option_copied o)) c.args.names.now c.args.names.now)
    (sym c.in_default.is)
    (adds_no_names c.args.names.now (bound_of c.args.part (let o : Option PlainNameNode = None in o)) (λ name. refl))
