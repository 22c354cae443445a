use Rattle.std.proofs.Common.{arith}
use Rattle.std.proofs.lemmas.List.Sums.{sum_by-set}
use Rattle.program_cases.proofs.sums.replace.Goals as goal

pub set-requires-clause-fits : goal.set-requires-clause-fits
set-requires-clause-fits c =
    let more = sum_by-set (λ n. n) c.args.sums.now.numbers c.args.k c.args.number 0 (omega arith) in omega (arith, more)
