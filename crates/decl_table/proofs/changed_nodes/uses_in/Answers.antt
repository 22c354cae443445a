use Rattle.std.specs.Option.{option_copied}
use Rattle.std.proofs.Common.{Bor, List, [], Option, ℕ, sym, subst}
use Rattle.decl_table.specs.PlainDecls.{PlainUses, mentions_of}
use Rattle.decl_table.specs.Private.ChangeBefore.{places_of}
use Rattle.decl_table.specs.Private.PlainNameNode.{PlainNameNode}
use Rattle.decl_table.specs.Private.UsesView.{IsSettled}
use Rattle.decl_table.proofs.SettledUses.{settled_nil}
use Rattle.decl_table.proofs.changed_nodes.uses_in.Goals as goal

pub returns-in_default : goal.returns-in_default
returns-in_default c =
    subst
    (λ (o : Option (Bor PlainNameNode)).
    (name : List ℕ) → IsSettled (places_of c.args.part (option_copied o) name) (mentions_of name c.new.result.uses))
    (sym c.in_default.is)
    (λ name. subst (λ (none : PlainUses). IsSettled [] (mentions_of name none)) (sym c.new.ensures) settled_nil)
