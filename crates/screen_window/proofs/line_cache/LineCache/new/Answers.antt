use Rattle.screen_window.proofs.HeldLines.{empty_hold}
use Rattle.screen_window.proofs.line_cache.LineCache.new.Goals as goal

pub returns : goal.returns
returns g c = λ marks items. empty_hold marks items c.in_ok-buckets.buckets.items c.in_ok-buckets.ensures.empty
