-- What the check finds, as the definitions of the grammar and the model of its findings have it.
use Rattle.std.specs.Prelude.{ℕ, Option, Some, None}
use Rattle.plcs_grammar.specs.OverLimit.{OverLimit}
use Rattle.phrase_parser.specs.declared.check.finding.Over.{Over}
use Rattle.phrase_parser.specs.declared.check.finding.Over.TheVariants.{NumberTooLarge, TooDeep}
use Rattle.phrase_parser.specs.declared.check.finding.Finding.{Finding}
use Rattle.phrase_parser.specs.declared.check.finding.Finding.TheVariants.{Fine, SyntaxAt}
use Rattle.phrase_parser.specs.declared.check.finding.Finding.TheVariants as found
use Rattle.phrase_parser.specs.Private.Findings as findings

-- what the check finds past a limit, as the definitions of the grammar have it
abbrev pub over_of : Over → OverLimit
over_of (NumberTooLarge place) = OverLimit.number_too_large place
over_of (TooDeep place) = OverLimit.too_deep place

-- the place of what the check finds past a limit, as the definitions of the grammar have it
abbrev pub over_offset : OverLimit → ℕ
over_offset (OverLimit.number_too_large place) = place
over_offset (OverLimit.too_deep place) = place

-- what the check finds past a limit, if it finds anything, as the definitions of the grammar have it
abbrev pub over_if : Option Over → Option OverLimit
over_if None = None
over_if (Some over) = Some (over_of over)

-- the finding of the model that the check's finding stands for
abbrev pub as_found : Finding → findings.Finding
as_found Fine = findings.Finding.fine
as_found (SyntaxAt place) = findings.Finding.syntax_at place
as_found (found.Over over) = findings.Finding.over (over_of over)
