use Rattle.std.specs.Prelude.{◌≡◌, ℕ, ◌-◌, List, drop, length, reverse, take, vec_len}
use Rattle.std.proofs.Common.{ap, ◌∙◌, arith}
use Rattle.std.proofs.lemmas.List.{take_rest}
use Rattle.plcs_base.specs.declared.value.Value.{Value}
use Rattle.plcs_store.proofs.NewestFirst.{last_ones}
use Rattle.plcs_store.proofs.operands.OperandValues.newest.Goals as goal

pub returns : goal.returns
returns c =
    let items = c.self.inside.values.items in
    let ok = c.self.inside.values.ok.0 in
    let long : vec_len c.self.inside.values ≡ length items = omega (arith, ok) in
    let older : c.saturating_sub.result ≡ length items - c.args.count =
    c.saturating_sub.ensures ∙ ap (λ (n : ℕ). n - c.args.count) (c.len.ensures ∙ long) in
    take_rest c.as_slice.result.now c.saturating_sub.result
    ∙ ap (drop c.saturating_sub.result) c.as_slice.ensures.value
    ∙ ap (λ (n : ℕ). drop n items) older
    ∙ last_ones items c.args.count
    ∙ ap (λ (ys : List Value). reverse (take c.args.count ys)) c.self.view_is
