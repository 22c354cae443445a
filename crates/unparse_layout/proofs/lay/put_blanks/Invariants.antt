use Rattle.std.proofs.Common.{◌*◌}
use Rattle.std.specs.Prelude.{replicate}
use Rattle.unparse_layout.specs.Private.Cells.{PutsAside}
use Rattle.unparse_layout.proofs.lay.put_blanks.Given as goal

abbrev pub invariant-levels : goal.invariant-levels
invariant-levels l = PutsAside l.fn.out (replicate (2 * l.counter) 32) l.out
