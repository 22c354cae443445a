-- The jumps are those beside the codes inside, by the length of the first and of all.
use Rattle.std.specs.Prelude.{ℕ}
use Rattle.std.proofs.Common.{arith, subst}
use Rattle.std.proofs.lemmas.List.Sums.{sum_by-take-le}
use Rattle.plcs_code.specs.Counts.{Emits, EmitsAtMost}
use Rattle.plcs_code.specs.Pieces.{CodeJumps}
use Rattle.code_patch.specs.CodeForest.{kept_lengths}
use Rattle.code_patch.specs.Private.MadeJumps.{count_jumps}
use Rattle.code_patch.specs.Private.StepsView.{plain_jumps}
use Rattle.code_patch.proofs.MadeCode.{around_is}
use Rattle.code_patch.proofs.NodeEdits.{jumps_beside_codes}
use Rattle.code_patch.proofs.code_node.CodeNode.jumps_of.Goals as goal

pub jumps_for-requires : goal.jumps_for-requires
jumps_for-requires g c =
    record { first = omega (arith, sum_by-take-le (λ (n : ℕ). n) (kept_lengths c.args.self.now.inner) 1, c.length_to-first.ensures, c.length_inside-total.ensures.sum) }

pub returns-in_err-jumps-clause-counts : goal.returns-in_err-jumps-clause-counts
returns-in_err-jumps-clause-counts g c =
    let same =
    around_is c.args.own.now (kept_lengths c.args.self.now.inner) c.length_to-first.result c.length_inside-total.result c.length_to-first.ensures
    c.length_inside-total.ensures.sum in
    subst (λ (j : CodeJumps). EmitsAtMost (count_jumps j) (g.W.Work.counts c.args.work.now) (g.W.Work.counts c.jumps_for.new.work))
    same c.jumps_for.ensures.counts

pub returns-clause-jumps : goal.returns-clause-jumps
returns-clause-jumps g c =
    jumps_beside_codes c.args.own.now c.args.self.now.inner c.length_to-first.result c.length_inside-total.result c.length_to-first.ensures
    c.length_inside-total.ensures.sum (plain_jumps c.in_ok-jumps.jumps) c.in_ok-jumps.ensures.jumps c.in_ok-jumps.ensures.short

pub returns-clause-counted : goal.returns-clause-counted
returns-clause-counted g c =
    let same =
    around_is c.args.own.now (kept_lengths c.args.self.now.inner) c.length_to-first.result c.length_inside-total.result c.length_to-first.ensures
    c.length_inside-total.ensures.sum in
    subst (λ (j : CodeJumps). Emits (count_jumps j) (g.W.Work.counts c.args.work.now) (g.W.Work.counts c.jumps_for.new.work))
    same c.in_ok-jumps.ensures.counted

pub returns-clause-counts : goal.returns-clause-counts
returns-clause-counts g c =
    let same =
    around_is c.args.own.now (kept_lengths c.args.self.now.inner) c.length_to-first.result c.length_inside-total.result c.length_to-first.ensures
    c.length_inside-total.ensures.sum in
    subst (λ (j : CodeJumps). EmitsAtMost (count_jumps j) (g.W.Work.counts c.args.work.now) (g.W.Work.counts c.jumps_for.new.work))
    same c.jumps_for.ensures.counts
