-- The node comes into the list and its length into the lengths, in room that both have.
use Rattle.std.specs.Prelude.{◌≡◌, ◌≤◌, ℕ, length, sum}
use Rattle.std.specs.List.{insert}
use Rattle.std.proofs.Common.{arith, ap, ◌∙◌}
use Rattle.prefix_sums.specs.PlainPrefixSums.{with_number_inserted}
use Rattle.code_patch.specs.Private.PlainCodeNode.{kept_length}
use Rattle.code_patch.proofs.ActedNodes.{forest_many, numbers_many}
use Rattle.code_patch.proofs.ActedSteps.{add_fits, add_made}
use Rattle.code_patch.proofs.commitment.add_node.Goals as goal

pub insert-requires : goal.insert-requires
insert-requires g c =
    let old = c.args.inner.now in
    let sums = c.args.lengths.now in
    let number = c.args.k in
    let node = c.args.node in
    let fit = c.requires.fit in
    let many = numbers_many old.items sums.numbers number c.requires.lengths in
    let within : number ≤ length old.items = omega (arith, fit.0, forest_many old.items) in
    let short = add_fits number node old old sums sums c.requires.lengths within c.requires.short in
    let long : sum (insert sums.numbers number c.length.result) ≡ sum (insert sums.numbers number (kept_length node)) =
    ap (λ (n : ℕ). sum (insert sums.numbers number n)) c.length.ensures.length in
    record { there = omega (arith, within, many); room = omega (arith, fit.1); fits = omega (arith, long, short) }

pub insert_within-requires : goal.insert_within-requires
insert_within-requires g c =
    record { there = omega (arith, c.requires.fit.0, forest_many c.args.inner.now.items); room = omega (arith, c.requires.fit.1) }

pub returns : goal.returns
returns g c =
    let old = c.args.inner.now in
    add_made c.args.k c.args.node old c.insert_within.new.self c.args.lengths.now c.insert.new.self c.requires.lengths
    (omega (arith, c.requires.fit.0, forest_many old.items)) c.insert_within.ensures
    (c.insert.ensures ∙ ap (λ (n : ℕ). with_number_inserted c.args.lengths.now c.args.k n) c.length.ensures.length)
