use Rattle.std.specs.Prelude.{length}
use Rattle.resume_rule.proofs.resumption.+first_refusal.Given as goal

abbrev pub decreases-first_refusal : goal.decreases-first_refusal
decreases-first_refusal l = length l.frames.now
