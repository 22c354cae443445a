-- The map's variable is that of the cells that are seen.
use Rattle.std.proofs.Common.{sym, subst}
use Rattle.plcs_store.specs.CellAt.{HasElement, Variables}
use Rattle.plcs_store.proofs.cells.Cells.set.Goals as goal

pub set-requires : goal.set-requires
set-requires c =
    record {
      there =
          subst (λ (cells : Variables). HasElement c.args.name.now c.args.element cells) (sym c.self.view_is) c.requires.there
          c.in-Some.variable.now (sym c.in-Some.ensures.value);
    }
