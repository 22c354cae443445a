-- Nothing is added where the edit doesn't reach the lists, or where the procedure isn't there.
use Rattle.std.specs.Prelude.{Bool, ◌++◌}
use Rattle.std.specs.Option.{option_copied}
use Rattle.std.proofs.Common.{ap, sym, ◌∙◌}
use Rattle.std.proofs.lemmas.List.{append-nil}
use Rattle.decl_table.specs.Private.DuePlaces.{due_lists}
use Rattle.decl_table.proofs.preparation.add_due_lists.Goals as goal

pub returns-then-not-has_lists : goal.returns-then-not-has_lists
returns-then-not-has_lists c =
    sym
    (ap (λ (b : Bool). c.args.places.now ++ due_lists b (option_copied c.args.procedure)) (sym c.has_lists.ensures ∙ c.if-not-has_lists.true)
    ∙ append-nil c.args.places.now)
