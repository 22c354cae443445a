use Rattle.std.proofs.Common.{length, ◌≡◌, reverse}
use Rattle.plcs_grammar.specs.Cuts.{unblanked}
use Rattle.plcs_grammar.specs.TrimmedText.{trimmed}
use Rattle.plcs_grammar.proofs.trimmed_text.trimmed.Given as goal

abbrev pub invariant-loop-rest : goal.invariant-loop-rest
invariant-loop-rest l = reverse (unblanked (reverse l.rest)) ≡ trimmed l.text

abbrev pub decreases-loop-rest : goal.decreases-loop-rest
decreases-loop-rest l = length l.rest
