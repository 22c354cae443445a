use Rattle.synth_top.specs.Summary.{summary}
use Rattle.synth_top.proofs.summary.write_summary.Goals as goal

-- what its lines tell is what the session has
pub returns : goal.returns
unfolding summary
returns g c = rw (c.slots.ensures, c.lines_of.ensures, c.steps.ensures, c.output.ensures) at c.write_lines.ensures
