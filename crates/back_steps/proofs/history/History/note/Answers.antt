use Rattle.std.specs.Prelude.{◌≡◌, ℕ, List, ◌∷◌, take}
use Rattle.std.proofs.Common.{ap, sym, ◌∙◌, subst}
use Rattle.circular_buffer.specs.Buffer.{Buffer}
use Rattle.plcs_store.specs.declared.undo.Undo.{Undo}
use Rattle.back_steps.specs.EarlierConfigurations.{CanGoBack, configurations_before}
use Rattle.back_steps.specs.Limit.{most_records}
use Rattle.back_steps.proofs.Histories.{noted_before, noted_can}
use Rattle.back_steps.proofs.history.History.note.Goals as goal

pub returns-clause-earlier : goal.returns-clause-earlier
returns-clause-earlier c =
    let held : c.push_front-oldest.new.self.items ≡ take most_records (c.args.undo ∷ c.args.self.now) =
    ap (λ (b : Buffer Undo). b.items) c.push_front-oldest.ensures.items
    ∙ ap (λ (n : ℕ). take n (c.args.undo ∷ c.self.inside.records.items)) c.self.invariant.0
    ∙ ap (λ (us : List Undo). take most_records (c.args.undo ∷ us)) c.self.view_is in
    λ old new is.
    ap (λ (us : List Undo). configurations_before us new) held ∙ noted_before most_records c.args.undo c.args.self.now old new is

pub returns-clause-able : goal.returns-clause-able
returns-clause-able c =
    let held : c.push_front-oldest.new.self.items ≡ take most_records (c.args.undo ∷ c.args.self.now) =
    ap (λ (b : Buffer Undo). b.items) c.push_front-oldest.ensures.items
    ∙ ap (λ (n : ℕ). take n (c.args.undo ∷ c.self.inside.records.items)) c.self.invariant.0
    ∙ ap (λ (us : List Undo). take most_records (c.args.undo ∷ us)) c.self.view_is in
    λ old new is keeps others.
    subst (λ (us : List Undo). CanGoBack us new) (sym held) (noted_can most_records c.args.undo c.args.self.now old new is keeps others)
