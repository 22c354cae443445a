use Rattle.std.proofs.Common.{◌≡◌, sym, ap, arith}
use Rattle.plcs_base.specs.Put.{puts_nothing}
use Rattle.plcs_grammar.specs.Private.Separator.{separator}
use Rattle.plcs_base.specs.Putting.{puts_same}
use Rattle.plcs_grammar.proofs.separator.put_separator.Goals as goal

pub returns-else-number-gt0 : goal.returns-else-number-gt0
returns-else-number-gt0 g c =
    let first : c.args.number ≡ 0 = omega arith in
    puts_same (sym (ap separator first)) puts_nothing
