use Rattle.std.proofs.Common.{sym, arith}
use Rattle.std.proofs.lemmas.Fmt.{decimal_digit, decimal_step}
use Rattle.plcs_base.specs.Putting.{puts_one, puts_behind, puts_same}
use Rattle.plcs_grammar.proofs.constant.+digits.Goals as goal

pub put_decimal-returns-then-number-lt10 : goal.put_decimal-returns-then-number-lt10
put_decimal-returns-then-number-lt10 g t c = puts_same (sym (decimal_digit c.args.number (omega arith))) (puts_one c.put.ensures)

pub put_digits-returns : goal.put_digits-returns
put_digits-returns g t c =
    puts_same (sym (decimal_step c.args.number c.requires.several (omega arith))) (puts_behind c.put_decimal.ensures c.put.ensures)
