use Rattle.std.specs.Prelude.{codes, ◌*◌, replicate}
use Rattle.std.proofs.Common.{subst}
use Rattle.unparse_layout.specs.Private.Cells.{PutsAside}
use Rattle.unparse_layout.proofs.PutCells.{aside_joined, plain_put, two_more}
use Rattle.unparse_layout.proofs.lay.put_blanks.Goals as goal

pub levels-preserved : goal.levels-preserved
levels-preserved c =
    subst (λ xs. PutsAside c.args.out.now xs c.put_bytes.new.out) (two_more c.levels.counter)
    (aside_joined c.args.out.now c.levels.out c.put_bytes.new.out (replicate (2 * c.levels.counter) 32) (codes "  ") c.levels.invariant
    (plain_put c.levels.out c.put_bytes.new.out (codes "  ") c.levels.invariant.plain c.levels.invariant.short c.put_bytes.ensures))
