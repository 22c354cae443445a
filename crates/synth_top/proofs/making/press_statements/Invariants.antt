use Rattle.synth_top.specs.Private.MakingKeys.{KeysMade}
use Rattle.synth_top.specs.Private.MakingText.{statements_keys}
use Rattle.synth_top.proofs.making.press_statements.Given as goal

-- the keys for the statements so far were pressed
abbrev pub invariant-loop-before : goal.invariant-loop-before
invariant-loop-before g l = record {
  made : KeysMade (statements_keys l.before) (g.M.Making.state l.fn.making) (g.M.Making.state l.making)
      (g.W.Work.counts l.fn.work) (g.W.Work.counts l.work);
  ready : g.M.Making.can_press l.making;
}
