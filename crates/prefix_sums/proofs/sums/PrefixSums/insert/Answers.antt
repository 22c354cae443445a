use Rattle.std.specs.Prelude.{◌≡◌, ◌+◌, ◌*◌, ◌<◌, length, get_or}
use Rattle.std.specs.List.{insert}
use Rattle.std.proofs.Common.{arith, ap, ◌∙◌}
use Rattle.prefix_sums.specs.PlainPrefixSums.{PlainPrefixSums}
use Rattle.prefix_sums.proofs.Turns.{insert_turn, mark_fits}
use Rattle.prefix_sums.proofs.sums.PrefixSums.insert.Goals as goal

pub overflow_add-index : goal.overflow_add-index
overflow_add-index c =
    let same = ap (λ (v : PlainPrefixSums). v.numbers) c.self.view_is in
    let there : c.loop-b.b < length c.loop-b.self-inside.marks.items = omega arith in
    let fits =
    mark_fits c.args.self.now.numbers c.args.k c.args.number c.loop-b.self-inside.marks.items c.loop-b.b c.index.result.now
    c.requires.there (omega arith) there c.index.ensures c.loop-b.invariant.mended in
    omega (arith, fits, c.requires.fits)

pub overflow_sub-index : goal.overflow_sub-index
overflow_sub-index c =
    let same = ap (λ (v : PlainPrefixSums). v.numbers) c.self.view_is in
    let there : c.loop-b.b < length c.loop-b.self-inside.marks.items = omega arith in
    let news : c.loop-b.self-inside.numbers.items ≡ insert c.args.self.now.numbers c.args.k c.args.number = cc in
    (insert_turn c.args.self.now.numbers c.args.k c.args.number c.loop-b.self-inside.marks.items c.loop-b.b c.index.result.now
    c.index-in-loop-b.result.now c.requires.there (omega arith) there (rw (← same) (omega arith)) c.index.ensures
    (c.index-in-loop-b.ensures ∙ ap (λ n. get_or n (64 * c.loop-b.b + 64) c.index-in-loop-b.result.now) news)
    c.loop-b.invariant.mended).enough

pub loop-b-preserved : goal.loop-b-preserved
loop-b-preserved c =
    let same = ap (λ (v : PlainPrefixSums). v.numbers) c.self.view_is in
    let there : c.loop-b.b < length c.loop-b.self-inside.marks.items = omega arith in
    let news : c.loop-b.self-inside.numbers.items ≡ insert c.args.self.now.numbers c.args.k c.args.number = cc in
    record {
      mended =
          (insert_turn c.args.self.now.numbers c.args.k c.args.number c.loop-b.self-inside.marks.items c.loop-b.b c.index.result.now
          c.index-in-loop-b.result.now c.requires.there (omega arith) there (rw (← same) (omega arith)) c.index.ensures
          (c.index-in-loop-b.ensures ∙ ap (λ n. get_or n (64 * c.loop-b.b + 64) c.index-in-loop-b.result.now) news)
          c.loop-b.invariant.mended).mended;
      marks = c.loop-b.invariant.marks;
      room = c.loop-b.invariant.room;
      numbers = c.loop-b.invariant.numbers;
      total = c.loop-b.invariant.total;
    }
