use Rattle.std.proofs.Common.{◌≡◌, ◌<◌, None, length, refl, ◌∙◌, arith}
use Rattle.std.specs.Prelude.{Option}
use Rattle.std.proofs.lemmas.List.{length-set}
use Rattle.std.proofs.lemmas.List.Elements.{AllWithin-more_set}
use Rattle.screen_window.specs.HeldLines.{PlainHeldLine}
use Rattle.screen_window.proofs.line_cache.empty_all.Goals as goal

-- one more bucket is empty
pub loop-k-preserved : goal.loop-k-preserved
loop-k-preserved g c =
    let below : c.loop-k.k < length c.loop-k.buckets.items = omega (arith, c.loop-k.invariant.count, c.loop-k-test.true, c.len-k-end.ensures) in
    record {
      empty = AllWithin-more_set c.loop-k.buckets.items c.loop-k.k None below (λ (bucket : Option PlainHeldLine). bucket ≡ None) c.loop-k.invariant.empty refl;
      count = length-set c.loop-k.buckets.items c.loop-k.k _ ∙ c.loop-k.invariant.count;
    }
