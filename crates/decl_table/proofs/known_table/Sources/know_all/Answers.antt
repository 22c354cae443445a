use Rattle.std.proofs.Common.{◌≤◌, length, arith}
use Rattle.decl_table.proofs.KnownSources.{KnowsAt, gathering_stays, knows_stays, places_known, read_again}
use Rattle.decl_table.proofs.KnownTables.{learns_more, learns_nothing}
use Rattle.decl_table.proofs.KeptOwn.{keeps_all, keeps_more}
use Rattle.decl_table.proofs.known_table.Sources.know_all.Goals as goal

pub loop-at-init : goal.loop-at-init
loop-at-init c = record {
  learnt = learns_nothing c.args.self.now.tree.now.items c.args.table.now;
  kept = keeps_all c.args.self.now.items c.args.table.now;
  knows = λ j at less there. absurd (omega (arith, less));
}

pub know-requires-clause-gathering : goal.know-requires-clause-gathering
know-requires-clause-gathering c =
    gathering_stays c.args.self.now.items c.args.self.now.tree.now.items c.args.table.now c.loop-at.table c.loop-at.invariant.learnt c.requires.gathering

pub loop-at-preserved : goal.loop-at-preserved
loop-at-preserved c =
    let program = c.args.self.now.tree.now.items in
    record {
      kept = keeps_more c.args.self.now.items c.args.table.now c.loop-at.table c.know.new.table c.loop-at.invariant.kept c.in_ok-know.ensures.own;
      learnt = learns_more program c.args.table.now c.loop-at.table c.know.new.table c.loop-at.invariant.learnt c.in_ok-know.ensures.learns;
      knows =
          places_known (KnowsAt program c.loop-at.table) (KnowsAt program c.know.new.table) c.args.due.now c.loop-at.at-index _
          c.loop-at-test.true (read_again c.args.due.now c.loop-at.at-index _ c.loop-at-test.true)
          (λ at knew procedure phrase stands.
          knows_stays program c.loop-at.table c.know.new.table procedure phrase c.in_ok-know.ensures.learns (knew procedure phrase stands))
          c.loop-at.invariant.knows c.in_ok-know.ensures.knows;
    }

pub returns-clause-learns : goal.returns-clause-learns
returns-clause-learns c = c.loop-at.invariant.learnt

pub returns-clause-knows : goal.returns-clause-knows
returns-clause-knows c =
    let past : length c.args.due.now ≤ c.loop-at.at-index = omega (arith, c.loop-at-test.false) in
    λ at procedure phrase there stands.
    c.loop-at.invariant.knows there.0 at (omega (arith, there.1, past)) there.2 procedure phrase stands

pub returns-clause-own : goal.returns-clause-own
returns-clause-own c = c.loop-at.invariant.kept
