use Rattle.std.specs.Option.{option_copied}
use Rattle.std.proofs.Common.{◌≡◌, ◌++◌, Bor, Option, sym, subst}
use Rattle.std.proofs.lemmas.List.{append-nil}
use Rattle.decl_table.specs.Private.ChangeBefore.{spots_of}
use Rattle.decl_table.specs.Private.PlainNameNode.{PlainNameNode}
use Rattle.decl_table.proofs.changed_nodes.add_places.Goals as goal

pub returns-in_default : goal.returns-in_default
returns-in_default c =
    subst (λ (o : Option (Bor PlainNameNode)). c.args.places.now ≡ c.args.places.now ++ spots_of c.args.part (option_copied o))
    (sym c.in_default.is) (sym (append-nil c.args.places.now))
