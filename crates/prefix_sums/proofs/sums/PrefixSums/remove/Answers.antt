use Rattle.std.specs.Prelude.{◌≡◌, refl, ◌+◌, ◌-◌, ◌*◌, ◌^◌, ◌<◌, length, get_or, sum}
use Rattle.std.specs.List.{remove}
use Rattle.std.proofs.Common.{arith, ap, sym, ◌∙◌}
use Rattle.std.proofs.lemmas.Option.{slice_get_read}
use Rattle.prefix_sums.specs.PlainPrefixSums.{PlainPrefixSums}
use Rattle.prefix_sums.proofs.Turns.{remove_turn}
use Rattle.prefix_sums.proofs.sums.PrefixSums.remove.Goals as goal

pub overflow_add-index : goal.overflow_add-index
overflow_add-index c =
    let same = ap (λ (v : PlainPrefixSums). v.numbers) c.self.view_is in
    let there : c.loop-b.b < length c.loop-b.self-inside.marks.items = omega arith in
    let news : c.loop-b.self-inside.numbers.items ≡ remove c.args.self.now.numbers c.args.k = cc in
    let turn =
    remove_turn c.args.self.now.numbers c.args.k c.remove-number.result c.loop-b.self-inside.marks.items c.loop-b.b
    c.index.result.now c.index-in-loop-b.result.now c.requires.there (omega arith) there (rw (← same) (omega arith))
    c.index.ensures (c.remove-number.ensures.value ∙ ap (λ n. get_or n c.args.k c.remove-number.result) same)
    (c.index-in-loop-b.ensures ∙ ap (λ n. get_or n (64 * c.loop-b.b + 64 - 1) c.index-in-loop-b.result.now) news)
    c.loop-b.invariant.mended in
    let all : sum c.args.self.now.numbers < 2 ^ 32 = rw (← same) c.self.invariant.fits in
    omega (arith, turn.fits, all)

pub overflow_sub-index : goal.overflow_sub-index
overflow_sub-index c =
    let same = ap (λ (v : PlainPrefixSums). v.numbers) c.self.view_is in
    let there : c.loop-b.b < length c.loop-b.self-inside.marks.items = omega arith in
    let news : c.loop-b.self-inside.numbers.items ≡ remove c.args.self.now.numbers c.args.k = cc in
    (remove_turn c.args.self.now.numbers c.args.k c.remove-number.result c.loop-b.self-inside.marks.items c.loop-b.b
    c.index.result.now c.index-in-loop-b.result.now c.requires.there (omega arith) there (rw (← same) (omega arith))
    c.index.ensures (c.remove-number.ensures.value ∙ ap (λ n. get_or n c.args.k c.remove-number.result) same)
    (c.index-in-loop-b.ensures ∙ ap (λ n. get_or n (64 * c.loop-b.b + 64 - 1) c.index-in-loop-b.result.now) news)
    c.loop-b.invariant.mended).enough

pub loop-b-preserved : goal.loop-b-preserved
loop-b-preserved c =
    let same = ap (λ (v : PlainPrefixSums). v.numbers) c.self.view_is in
    let there : c.loop-b.b < length c.loop-b.self-inside.marks.items = omega arith in
    let news : c.loop-b.self-inside.numbers.items ≡ remove c.args.self.now.numbers c.args.k = cc in
    record {
      mended =
          (remove_turn c.args.self.now.numbers c.args.k c.remove-number.result c.loop-b.self-inside.marks.items c.loop-b.b
          c.index.result.now c.index-in-loop-b.result.now c.requires.there (omega arith) there (rw (← same) (omega arith))
          c.index.ensures (c.remove-number.ensures.value ∙ ap (λ n. get_or n c.args.k c.remove-number.result) same)
          (c.index-in-loop-b.ensures ∙ ap (λ n. get_or n (64 * c.loop-b.b + 64 - 1) c.index-in-loop-b.result.now) news)
          c.loop-b.invariant.mended).mended;
      marks = c.loop-b.invariant.marks;
      room = c.loop-b.invariant.room;
      numbers = c.loop-b.invariant.numbers;
      total = c.loop-b.invariant.total;
    }

pub returns-clause-taken : goal.returns-clause-taken
returns-clause-taken c =
    let same = ap (λ (v : PlainPrefixSums). v.numbers) c.self.view_is in
    sym
    (slice_get_read c.args.self.now.numbers (length c.args.self.now.numbers) c.args.k c.remove-number.result refl (omega arith)
    (c.remove-number.ensures.value ∙ ap (λ n. get_or n c.args.k c.remove-number.result) same))
