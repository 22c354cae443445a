use Rattle.std.proofs.Common.{◌≡◌, ◌<◌, ◌^◌, IsTrue, take}
use Rattle.std.specs.List.{list_all}
use Rattle.std.specs.Char.{is_ascii_digit}
use Rattle.synth_top.specs.Number.{value_of}
use Rattle.synth_top.proofs.number.digits_value.Given as goal

-- the value is that of the digits so far
abbrev pub invariant-loop-digit : goal.invariant-loop-digit
invariant-loop-digit l = record {
  so_far : l.value ≡ value_of (take l.digit-index l.digits);
  digits : IsTrue (list_all is_ascii_digit l.digits);
  bound : l.value < 10 ^ l.digit-index;
}
