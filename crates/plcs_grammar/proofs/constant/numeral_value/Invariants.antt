use Rattle.std.proofs.Common.{◌≡◌, ◌-◌, ◌^◌, min, take}
use Rattle.plcs_grammar.specs.Token.{numeral_value}
use Rattle.plcs_grammar.proofs.constant.numeral_value.Given as goal

abbrev pub invariant-loop-digit : goal.invariant-loop-digit
invariant-loop-digit l = l.value ≡ min (numeral_value (take l.digit-index l.digits)) (2 ^ 64 - 1)
