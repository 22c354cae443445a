-- What was checked leaves room for the jumps, which are those of the own code.
use Rattle.std.specs.Prelude.{◌≡◌, ◌+◌, ◌-◌, ℕ, length}
use Rattle.std.proofs.Common.{arith, ap, subst}
use Rattle.plcs_code.specs.Counts.{Emits}
use Rattle.plcs_code.specs.OwnCode.{jumps_around}
use Rattle.code_patch.specs.Private.MadeJumps.{count_jumps}
use Rattle.code_patch.proofs.CountedCode.{emits_none}
use Rattle.code_patch.proofs.fresh.jumps_for.Goals as goal

pub jumps-requires : goal.jumps-requires
jumps-requires g c =
    record { short = omega (arith, c.requires.first, c.in_ok-bare_length.ensures.length, c.in_ok-bare_length.ensures.short) }

pub returns-in_err-bare_length-clause-counts : goal.returns-in_err-bare_length-clause-counts
returns-in_err-bare_length-clause-counts g c =
    emits_none (count_jumps (jumps_around c.args.own.now c.args.first (c.args.total - c.args.first))) (g.W.Work.counts c.args.work.now)

pub returns-clause-short : goal.returns-clause-short
returns-clause-short g c = omega (arith, c.in_ok-bare_length.ensures.length, c.in_ok-bare_length.ensures.short)

pub returns-clause-counted : goal.returns-clause-counted
returns-clause-counted g c =
    let around = jumps_around c.args.own.now c.args.first (c.args.total - c.args.first) in
    let jumps = c.in_ok-jumps.jumps in
    let ahead = ap length c.in_ok-jumps.ensures.ahead in
    let between = ap length c.in_ok-jumps.ensures.between in
    let back = ap length c.in_ok-jumps.ensures.back in
    let all : length jumps.ahead + length jumps.between + length jumps.back ≡ count_jumps around = omega (arith, ahead, between, back) in
    subst (λ (n : ℕ). Emits n (g.W.Work.counts c.args.work.now) (g.W.Work.counts c.jumps.new.work)) all c.in_ok-jumps.ensures.counted
