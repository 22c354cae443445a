use Rattle.std.proofs.Common.{◌≡◌, ◌∙◌, ◌≤◌, ◌<◌, ◌+◌, suc, List, Option, ℕ, drop, length, ap, sym, arith}
use Rattle.std.specs.Prelude.{◌||◌}
use Rattle.std.specs.Option.{option_copied}
use Rattle.std.proofs.Math.ListN.{drop_of_length-le}
use Rattle.plcs_base.specs.declared.declared.Declared.{Declared}
use Rattle.decl_table.specs.Private.ItemTests.{is_lost, is_this}
use Rattle.decl_table.proofs.AddedNames.{names_end, names_turn}
use Rattle.decl_table.proofs.GatheredTests.{lost_in, lost_turn}
use Rattle.decl_table.proofs.name_set.NameSet.add_differing.Goals as goal

pub loop-k-preserved : goal.loop-k-preserved
loop-k-preserved c =
    let items = c.args.items.now in
    let others = c.args.others.now in
    let k = c.loop-k.k in
    let within : k < length items = omega (arith, c.len-k-end.ensures, c.loop-k-test.true) in
    let next : suc k ≡ k + 1 = omega arith in
    names_turn c.args.self.now c.loop-k.self c.add_this.new.self (is_this (option_copied c.differing.result))
    (λ name. lost_in items others name (drop k items)) (λ name. lost_in items others name (drop (k + 1) items)) (is_lost items others)
    c.in_ok-add_this.ensures
    (λ name.
    lost_turn items others name items k within
    ∙ ap (λ (o : Option (List ℕ)). is_this o name || lost_in items others name (drop (suc k) items)) (sym c.differing.ensures)
    ∙ ap (λ (n : ℕ). is_this (option_copied c.differing.result) name || lost_in items others name (drop n items)) next)
    c.loop-k.invariant

pub returns : goal.returns
returns c =
    let items = c.args.items.now in
    let others = c.args.others.now in
    let k = c.loop-k.k in
    let past : length items ≤ k = omega (arith, c.len-k-end.ensures, c.loop-k-test.false) in
    names_end c.args.self.now c.loop-k.self (λ name. lost_in items others name (drop k items)) (is_lost items others)
    (λ name. ap (λ (xs : List Declared). lost_in items others name xs) (drop_of_length-le items past)) c.loop-k.invariant
