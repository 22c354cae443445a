use Rattle.std.specs.Prelude.{◌≡◌, List, Some, drop, slice_get}
use Rattle.std.proofs.Common.{ap, sym, ◌∙◌, subst}
use Rattle.circular_buffer.specs.Buffer.{Buffer}
use Rattle.plcs_store.specs.declared.undo.Undo.{Undo}
use Rattle.plcs_store.specs.Configuration.{plain_configuration}
use Rattle.back_steps.specs.EarlierConfigurations.{CanGoBack}
use Rattle.back_steps.proofs.Histories.{can_again}
use Rattle.back_steps.proofs.history.History.back.Goals as goal

pub returns-clause-again : goal.returns-clause-again
returns-clause-again c =
    let first : Some c.in-Some.undo ≡ slice_get c.args.self.now 0 =
    c.in-Some.ensures.value ∙ ap (λ (us : List Undo). slice_get us 0) c.self.view_is in
    let left : c.pop_front.new.self.items ≡ drop 1 c.args.self.now =
    ap (λ (b : Buffer Undo). b.items) c.in-Some.ensures.items ∙ ap (drop 1) c.self.view_is in
    let state = plain_configuration c.take_back.new.state in
    subst (λ (us : List Undo). CanGoBack us state) (sym left)
    (can_again c.args.self.now c.in-Some.undo (plain_configuration c.args.state.now) state first c.take_back.ensures.back c.requires.able)
