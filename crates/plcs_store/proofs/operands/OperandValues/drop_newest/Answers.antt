use Rattle.std.specs.Prelude.{◌≡◌, ℕ, ◌-◌, drop, length, reverse, take, vec_len}
use Rattle.std.proofs.Common.{ap, ◌∙◌, arith}
use Rattle.plcs_store.proofs.NewestFirst.{other_ones}
use Rattle.plcs_store.proofs.operands.OperandValues.drop_newest.Goals as goal

pub returns : goal.returns
returns c =
    let items = c.self.inside.values.items in
    let ok = c.self.inside.values.ok.0 in
    let long : vec_len c.self.inside.values ≡ length items = omega (arith, ok) in
    let older : c.saturating_sub.result ≡ length items - c.args.count =
    c.saturating_sub.ensures ∙ ap (λ (n : ℕ). n - c.args.count) (c.len.ensures ∙ long) in
    ap reverse (c.truncate.ensures.items ∙ ap (λ (n : ℕ). take n items) older)
    ∙ other_ones items c.args.count
    ∙ ap (drop c.args.count) c.self.view_is
