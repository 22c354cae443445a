-- What stood before the last loop is left, and that one is taken off.
use Rattle.std.specs.Prelude.{◌≡◌, ◌-◌, List, length, slice_get, take, vec_len}
use Rattle.std.proofs.Common.{arith, subst}
use Rattle.plcs_store.specs.declared.kept_loop.KeptLoop.{KeptLoop}
use Rattle.plcs_store.proofs.PoppedItems.{innermost, left}
use Rattle.plcs_store.proofs.loops.Loops.pop.Goals as goal

pub returns-clause-innermost : goal.returns-clause-innermost
returns-clause-innermost c =
    let ok = c.self.inside.loops.ok.0 in
    subst (λ (xs : List KeptLoop). c.pop.result ≡ slice_get xs (length xs - 1)) c.self.view_is
    (innermost c.self.inside.loops.items c.pop.new.self.items (vec_len c.self.inside.loops) (vec_len c.pop.new.self) (omega (arith, ok)) c.pop.result
    c.pop.ensures.items c.pop.ensures.cases)

pub returns-clause-left : goal.returns-clause-left
returns-clause-left c =
    let ok = c.self.inside.loops.ok.0 in
    subst (λ (xs : List KeptLoop). c.pop.new.self.items ≡ take (length xs - 1) xs) c.self.view_is
    (left c.self.inside.loops.items c.pop.new.self.items (vec_len c.self.inside.loops) (vec_len c.pop.new.self) (omega (arith, ok)) c.pop.ensures.rest)
