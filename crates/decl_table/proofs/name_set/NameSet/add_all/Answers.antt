use Rattle.std.proofs.Common.{◌≤◌, ◌+◌, drop, length, ap, arith}
use Rattle.std.specs.Prelude.{bytes_eq}
use Rattle.std.proofs.Math.ListN.{drop_of_length-le}
use Rattle.decl_table.specs.Private.NameTests.{has_name}
use Rattle.decl_table.proofs.AddedNames.{name_first, names_end, names_turn}
use Rattle.decl_table.proofs.AddedUses.{left_behind}
use Rattle.decl_table.proofs.name_set.NameSet.add_all.Goals as goal

pub loop-name-preserved : goal.loop-name-preserved
loop-name-preserved c =
    let all = c.args.names.now in
    let k = c.loop-name.name-index in
    let first = c.name-item.result in
    names_turn c.args.self.now c.loop-name.self c.add.new.self (bytes_eq first) (has_name (drop k all)) (has_name (drop (k + 1) all)) (has_name all)
    c.in_ok-add.ensures (name_first (drop k all) (drop (k + 1) all) first (left_behind all k first c.loop-name-test.true c.name-item.is))
    c.loop-name.invariant

pub returns : goal.returns
returns c =
    let all = c.args.names.now in
    let k = c.loop-name.name-index in
    let past : length all ≤ k = omega (arith, c.loop-name-test.false) in
    names_end c.args.self.now c.loop-name.self (has_name (drop k all)) (has_name all)
    (λ name. ap (λ xs. has_name xs name) (drop_of_length-le all past)) c.loop-name.invariant
