-- Where the own code isn't new and nothing becomes of what is inside, nothing is emitted; else the jumps are, which are
-- those beside what is inside then.
use Rattle.std.specs.Prelude.{◌≡◌, ◌+◌, ◌-◌, ◌≤◌, ℕ, length, unwrap_or}
use Rattle.std.proofs.Common.{arith, ap, refl, subst, ◌∙◌}
use Rattle.std.proofs.lemmas.List.Sums.{sum_by-take-le}
use Rattle.plcs_code.specs.BlockLimit.{most_instrs}
use Rattle.plcs_code.specs.Counts.{EmitsAtMost}
use Rattle.plcs_code.specs.OwnCode.{PlainOwnCode, jumps_around}
use Rattle.code_patch.specs.CodeForest.{kept_lengths}
use Rattle.code_patch.specs.Private.MadeJumps.{AreMadeJumps}
use Rattle.code_patch.specs.Private.PlainCodeNode.{jumps_length}
use Rattle.code_patch.specs.Private.PreparedNodes.{made_by}
use Rattle.code_patch.specs.Private.StepsView.{plain_jumps}
use Rattle.code_patch.proofs.CostSteps.{jumps_are}
use Rattle.code_patch.proofs.CountedCode.{emits_none}
use Rattle.code_patch.proofs.NodeEdits.{if_ok, jumps_beside_codes, length_then, three_at_most}
use Rattle.code_patch.proofs.Opened.{own_is}
use Rattle.code_patch.proofs.code_node.CodeNode.edit_by.Goals as goal

pub returns-then-is_unchanged-clause-counts : goal.returns-then-is_unchanged-clause-counts
returns-then-is_unchanged-clause-counts g c =
    emits_none (jumps_length (unwrap_or c.args.own c.args.self.now.own) (kept_lengths (made_by c.args.list c.args.self.now.inner)))
    (g.W.Work.counts c.args.work.now)

pub returns-then-is_unchanged-clause-unchanged : goal.returns-then-is_unchanged-clause-unchanged
returns-then-is_unchanged-clause-unchanged g c = λ none steps. emits_none 0 (g.W.Work.counts c.args.work.now)

pub returns-then-is_unchanged-clause-none : goal.returns-then-is_unchanged-clause-none
returns-then-is_unchanged-clause-none g c = c.is_unchanged.ensures.same c.if-is_unchanged.true

pub jumps_for-requires : goal.jumps_for-requires
jumps_for-requires g c =
    record { first = omega (arith, c.requires.list.first, c.requires.list.total, sum_by-take-le (λ (n : ℕ). n) (kept_lengths (made_by c.args.list c.args.self.now.inner)) 1) }

pub whole_length-length-requires : goal.whole_length-length-requires
whole_length-length-requires g c =
    let list = c.args.list in
    record {
      few =
          three_at_most (jumps_around c.own_after-last.result.now list.first (list.total - list.first)) (plain_jumps c.in-Ok.jumps)
          (if_ok _ c.jumps_for.result c.in-Ok.jumps c.in-Ok.is c.jumps_for.ensures.jumps);
      short = if_ok _ c.jumps_for.result c.in-Ok.jumps c.in-Ok.is c.jumps_for.ensures.short;
    }

pub returns-clause-some : goal.returns-clause-some
returns-clause-some g c =
    let self = c.args.self.now in
    let list = c.args.list in
    let own = c.args.own in
    let after = unwrap_or own self.own in
    let last : c.own_after-last.result.now ≡ after =
    c.own_after-last.ensures ∙ ap (λ (o : PlainOwnCode). unwrap_or own o) (own_is c.self.inside self c.self.view_is c.self.invariant) in
    let edit = c.requires.list in
    let inside = made_by list self.inner in
    let jumps = plain_jumps c.in-Ok.jumps in
    let fits = if_ok _ c.jumps_for.result c.in-Ok.jumps c.in-Ok.is c.jumps_for.ensures.short in
    let are =
    subst (λ (o : PlainOwnCode). AreMadeJumps (jumps_around o list.first (list.total - list.first)) jumps) last
    (if_ok _ c.jumps_for.result c.in-Ok.jumps c.in-Ok.is c.jumps_for.ensures.jumps) in
    let short : length after.pieces.before + length after.pieces.behind + list.total + 5 ≤ most_instrs =
    omega (arith, fits, ap (λ (o : PlainOwnCode). length o.pieces.before + length o.pieces.behind) last) in
    record {
      own = refl;
      inner = c.of.ensures;
      jumps = jumps_beside_codes after inside list.first list.total edit.first edit.total jumps are short;
      length =
          c.whole_length-length.ensures
          ∙ ap
          (λ (o : PlainOwnCode).
          length o.pieces.before + length o.pieces.behind + list.total
          + (length jumps.ahead + length jumps.between + length jumps.back)) last
          ∙ length_then after inside list.first list.total edit.first edit.total jumps are short;
    }

pub returns-clause-changed : goal.returns-clause-changed
returns-clause-changed g c = c.is_unchanged.ensures.changed c.if-is_unchanged.false

pub returns-clause-unchanged : goal.returns-clause-unchanged
returns-clause-unchanged g c = λ none steps. absurd (omega (arith, c.is_unchanged.ensures.changed c.if-is_unchanged.false none, steps))

pub returns-in_default-clause-unchanged : goal.returns-in_default-clause-unchanged
returns-in_default-clause-unchanged g c =
    λ none steps. absurd (omega (arith, c.is_unchanged.ensures.changed c.if-is_unchanged.false none, steps))

pub returns-clause-counts : goal.returns-clause-counts
returns-clause-counts g c =
    let self = c.args.self.now in
    let list = c.args.list in
    let last = c.own_after-last.ensures ∙ ap (λ (o : PlainOwnCode). unwrap_or c.args.own o) (own_is c.self.inside self c.self.view_is c.self.invariant) in
    subst (λ (n : ℕ). EmitsAtMost n (g.W.Work.counts c.args.work.now) (g.W.Work.counts c.jumps_for.new.work))
    (jumps_are (unwrap_or c.args.own self.own) c.own_after-last.result.now (made_by list self.inner) list.first list.total last
    c.requires.list.first c.requires.list.total) c.jumps_for.ensures.counts

pub returns-in_default-clause-counts : goal.returns-in_default-clause-counts
returns-in_default-clause-counts g c =
    let self = c.args.self.now in
    let list = c.args.list in
    let last = c.own_after-last.ensures ∙ ap (λ (o : PlainOwnCode). unwrap_or c.args.own o) (own_is c.self.inside self c.self.view_is c.self.invariant) in
    subst (λ (n : ℕ). EmitsAtMost n (g.W.Work.counts c.args.work.now) (g.W.Work.counts c.jumps_for.new.work))
    (jumps_are (unwrap_or c.args.own self.own) c.own_after-last.result.now (made_by list self.inner) list.first list.total last
    c.requires.list.first c.requires.list.total) c.jumps_for.ensures.counts
