-- What is inserted under a new name comes last.
use Rattle.std.specs.Prelude.{[], ◌∷◌, ◌++◌, bytes_eq}
use Rattle.std.proofs.Common.{ap, ◌∙◌}
use Rattle.indexmap.proofs.CallerLemmas.{insert_entry-new}
use Rattle.plcs_store.specs.CellAt.{Variables, variable_named}
use Rattle.plcs_store.proofs.cells.Cells.add.Goals as goal

pub returns-clause-added : goal.returns-clause-added
returns-clause-added c =
    c.in_ok-insert.ensures.entries
    ∙ insert_entry-new bytes_eq c.self.inside.variables c.args.name c.args.variable
    (ap (variable_named c.args.name) c.self.view_is ∙ c.requires.new)
    ∙ ap (λ (variables : Variables). variables ++ (c.args.name, c.args.variable) ∷ []) c.self.view_is
