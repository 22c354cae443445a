-- What stood before the last frame is left, and that one is taken off.
use Rattle.std.specs.Prelude.{◌≡◌, ◌-◌, List, length, slice_get, take, vec_len}
use Rattle.std.proofs.Common.{arith, subst}
use Rattle.plcs_store.specs.declared.frame.Frame.{Frame}
use Rattle.plcs_store.proofs.PoppedItems.{innermost, left}
use Rattle.plcs_store.proofs.frames.Frames.pop.Goals as goal

pub returns-clause-newest : goal.returns-clause-newest
returns-clause-newest c =
    let ok = c.self.inside.frames.ok.0 in
    subst (λ (xs : List Frame). c.pop.result ≡ slice_get xs (length xs - 1)) c.self.view_is
    (innermost c.self.inside.frames.items c.pop.new.self.items (vec_len c.self.inside.frames) (vec_len c.pop.new.self) (omega (arith, ok)) c.pop.result
    c.pop.ensures.items c.pop.ensures.cases)

pub returns-clause-left : goal.returns-clause-left
returns-clause-left c =
    let ok = c.self.inside.frames.ok.0 in
    subst (λ (xs : List Frame). c.pop.new.self.items ≡ take (length xs - 1) xs) c.self.view_is
    (left c.self.inside.frames.items c.pop.new.self.items (vec_len c.self.inside.frames) (vec_len c.pop.new.self) (omega (arith, ok)) c.pop.ensures.rest)
