use Rattle.std.proofs.Common.{lit≤, arith}
use Rattle.plcs_grammar.proofs.CountedBytes.{counted}
use Rattle.plcs_grammar.proofs.length_out.shown_len.Goals as goal

pub returns : goal.returns
returns c = omega (arith, counted (λ out. out.count) (lit≤ tt) c.show.ensures)
