use Rattle.std.specs.Prelude.{◌<◌, length, get_or}
use Rattle.std.proofs.Common.{arith, ap, ◌∙◌}
use Rattle.prefix_sums.specs.PlainPrefixSums.{PlainPrefixSums}
use Rattle.prefix_sums.proofs.Turns.{set_turn}
use Rattle.prefix_sums.proofs.sums.PrefixSums.set.Goals as goal

pub overflow_sub-index : goal.overflow_sub-index
overflow_sub-index c =
    let same = ap (λ (v : PlainPrefixSums). v.numbers) c.self.view_is in
    let there : c.loop-b.b < length c.loop-b.self-inside.marks.items = omega arith in
    (set_turn c.args.self.now.numbers c.args.k c.args.number c.loop-b.self-inside.marks.items c.loop-b.b c.index.result.now
    c.index-old.result.now c.requires.there (omega arith) there c.index.ensures
    (c.index-old.ensures ∙ ap (λ n. get_or n c.args.k c.index-old.result.now) same) c.loop-b.invariant.mended).enough

pub overflow_add-index : goal.overflow_add-index
overflow_add-index c =
    let same = ap (λ (v : PlainPrefixSums). v.numbers) c.self.view_is in
    let there : c.loop-b.b < length c.loop-b.self-inside.marks.items = omega arith in
    let turn =
    set_turn c.args.self.now.numbers c.args.k c.args.number c.loop-b.self-inside.marks.items c.loop-b.b c.index.result.now
    c.index-old.result.now c.requires.there (omega arith) there c.index.ensures
    (c.index-old.ensures ∙ ap (λ n. get_or n c.args.k c.index-old.result.now) same) c.loop-b.invariant.mended in
    omega (arith, turn.fits, c.requires.fits)

pub loop-b-preserved : goal.loop-b-preserved
loop-b-preserved c =
    let same = ap (λ (v : PlainPrefixSums). v.numbers) c.self.view_is in
    let there : c.loop-b.b < length c.loop-b.self-inside.marks.items = omega arith in
    record {
      mended =
          (set_turn c.args.self.now.numbers c.args.k c.args.number c.loop-b.self-inside.marks.items c.loop-b.b c.index.result.now
          c.index-old.result.now c.requires.there (omega arith) there c.index.ensures
          (c.index-old.ensures ∙ ap (λ n. get_or n c.args.k c.index-old.result.now) same) c.loop-b.invariant.mended).mended;
      marks = c.loop-b.invariant.marks;
      room = c.loop-b.invariant.room;
      numbers = c.loop-b.invariant.numbers;
      total = c.loop-b.invariant.total;
    }
