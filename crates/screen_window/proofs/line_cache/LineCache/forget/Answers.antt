use Rattle.screen_window.proofs.HeldLines.{empty_hold}
use Rattle.screen_window.proofs.line_cache.LineCache.forget.Goals as goal

pub returns : goal.returns
returns g c = λ marks items. empty_hold marks items c.empty_all.new.buckets.items c.empty_all.ensures.empty
