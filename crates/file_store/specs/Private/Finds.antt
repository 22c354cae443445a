-- What a step of the reader of lines finds, or that there is nothing to find.
use Rattle.std.specs.Prelude.{Result, Ok, Err}
use Rattle.phrase_parser.specs.declared.not_read.NotRead.{NotRead}
use Rattle.phrase_parser.specs.declared.not_read.NotRead.TheVariants.{OutOfMemory, Refused}

-- where a step of the reader failed with this fault there is nothing that it should give, unless memory ran out
abbrev pub LacksUnless : NotRead → Type 0 → Type 0
LacksUnless OutOfMemory lacking = Unit {0}
LacksUnless Refused lacking = lacking

-- what a step of the reader returned is so, or there is nothing that it should give; memory may run out
abbrev pub Finds : {X : Type 0} → (X → Type 0) → Type 0 → Result X NotRead → Type 0
Finds found lacking (Ok x) = found x
Finds found lacking (Err fault) = LacksUnless fault lacking
