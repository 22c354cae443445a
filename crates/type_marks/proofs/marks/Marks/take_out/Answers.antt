use Rattle.std.proofs.Common.{◌≤◌, length, arith}
use Rattle.type_marks.proofs.CheckedDue.{all_taken, none_taken, read_again, taken_more}
use Rattle.type_marks.proofs.marks.Marks.take_out.Goals as goal

pub loop-at-init : goal.loop-at-init
loop-at-init g c = record { taken = none_taken c.args.gone.now c.args.self.now.verdicts; room = omega arith }

pub loop-at-preserved : goal.loop-at-preserved
loop-at-preserved g c =
    record {
      taken =
          taken_more c.args.gone.now c.loop-at.at-index _ c.args.self.now.verdicts c.loop-at.self.verdicts c.take.new.self.verdicts
          c.loop-at-test.true (read_again c.args.gone.now c.loop-at.at-index _ c.loop-at-test.true) c.loop-at.invariant.taken c.take.ensures.verdicts;
      room = omega (arith, c.loop-at.invariant.room, c.take.ensures.room);
    }

pub returns-clause-verdicts : goal.returns-clause-verdicts
returns-clause-verdicts g c =
    let past : length c.args.gone.now ≤ c.loop-at.at-index = omega (arith, c.loop-at-test.false) in
    all_taken c.args.gone.now c.loop-at.at-index c.args.self.now.verdicts c.loop-at.self.verdicts past c.loop-at.invariant.taken
