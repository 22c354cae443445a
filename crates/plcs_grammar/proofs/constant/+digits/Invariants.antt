use Rattle.std.proofs.Common.{◌+◌, ◌*◌}
use Rattle.plcs_grammar.proofs.constant.+digits.Given as goal

abbrev pub decreases-put_decimal : goal.decreases-put_decimal
decreases-put_decimal g l = 2 * l.number + 1

abbrev pub decreases-put_digits : goal.decreases-put_digits
decreases-put_digits g l = 2 * l.number
