use Rattle.std.proofs.Common.{map, take}
use Rattle.synth_top.specs.Keys.{key_of}
use Rattle.synth_top.specs.Private.MakingKeys.{KeysMade}
use Rattle.synth_top.proofs.making.press_text.Given as goal

-- the keys of the bytes so far were pressed
abbrev pub invariant-loop-byte : goal.invariant-loop-byte
invariant-loop-byte g l = record {
  made : KeysMade (map key_of (take l.byte-index l.text)) (g.M.Making.state l.fn.making) (g.M.Making.state l.making)
      (g.W.Work.counts l.fn.work) (g.W.Work.counts l.work);
  ready : g.M.Making.can_press l.making;
}
