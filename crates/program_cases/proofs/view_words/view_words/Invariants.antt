use Rattle.std.proofs.Common.{length, ◌-◌}
use Rattle.program_cases.proofs.view_words.view_words.Given as goal

abbrev pub decreases-loop-k : goal.decreases-loop-k
decreases-loop-k l = length l.words - l.k
