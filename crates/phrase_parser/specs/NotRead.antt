-- What a step that reads gives, beside what it should give.
use Rattle.std.specs.Prelude.{◌≡◌, Option, Some, None, Result, Ok, Err}
use Rattle.phrase_parser.specs.declared.not_read.NotRead.{NotRead}
use Rattle.phrase_parser.specs.declared.not_read.NotRead.TheVariants.{OutOfMemory, Refused}

-- what the failure of a step says of what it should give: nothing where memory ran out, and else that there is nothing
-- to give
abbrev pub Fails : {Y : Type 0} → NotRead → Option Y → Type 0
Fails OutOfMemory wanted = Unit {0}
Fails Refused wanted = wanted ≡ None

-- what a step returned, seen by the view, is what it should give, unless memory ran out
abbrev pub Gives : {X Y : Type 0} → (X → Y) → Result X NotRead → Option Y → Type 0
Gives view (Ok x) wanted = wanted ≡ Some (view x)
Gives view (Err fault) wanted = Fails fault wanted
