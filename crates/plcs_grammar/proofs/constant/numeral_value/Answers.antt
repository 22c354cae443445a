use Rattle.std.proofs.Common.{arith}
use Rattle.plcs_grammar.proofs.Numerals.{numeral_more}
use Rattle.plcs_grammar.proofs.constant.numeral_value.Goals as goal

pub loop-digit-preserved : goal.loop-digit-preserved
loop-digit-preserved c =
    omega (arith, numeral_more c.args.digits.now c.loop-digit.digit-index (omega arith))
