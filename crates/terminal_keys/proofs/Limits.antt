-- The value of each limit.
use Rattle.std.specs.Prelude.{◌≡◌, refl}
use Rattle.terminal_keys.specs.declared.sequence.TheConstants.{LONGEST}
use Rattle.terminal_keys.specs.declared.passing.TheConstants.{MOST_READ}

longest_is : LONGEST ≡ 32
longest_is = refl

pub most_read_is : MOST_READ ≡ 128
most_read_is = refl
