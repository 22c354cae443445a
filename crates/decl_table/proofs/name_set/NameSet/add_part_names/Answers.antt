use Rattle.std.proofs.Common.{◌≡◌, ◌≤◌, ◌+◌, ◌∷◌, List, Option, ℕ, drop, length, ap, subst, arith}
use Rattle.std.proofs.Math.ListN.{drop_of_length-le}
use Rattle.decl_table.specs.Private.NameTests.{part_has, parts_have}
use Rattle.decl_table.proofs.AddedNames.{part_first, names_end, names_turn}
use Rattle.decl_table.proofs.AddedUses.{left_behind}
use Rattle.decl_table.proofs.name_set.NameSet.add_part_names.Goals as goal

pub loop-names-preserved : goal.loop-names-preserved
loop-names-preserved c =
    let all = c.args.node.now.label.parts in
    let k = c.loop-names.names-index in
    let first = c.names-item.result in
    names_turn c.args.self.now c.loop-names.self c.add_part.new.self (part_has first) (parts_have (drop k all)) (parts_have (drop (k + 1) all)) (parts_have all)
    c.in_ok-add_part.ensures (part_first (drop k all) (drop (k + 1) all) first (subst (λ (xs : List (Option (List (List ℕ)))). drop k xs ≡ first ∷ drop (k + 1) xs) c.all_parts-names-items.ensures
    (left_behind c.all_parts-names-items.result.now k first c.loop-names-test.true c.names-item.is)))
    c.loop-names.invariant

pub returns : goal.returns
returns c =
    let all = c.args.node.now.label.parts in
    let k = c.loop-names.names-index in
    let past : length all ≤ k = omega (arith, c.loop-names-test.false, ap length c.all_parts-names-items.ensures) in
    names_end c.args.self.now c.loop-names.self (parts_have (drop k all)) (parts_have all)
    (λ name. ap (λ xs. parts_have xs name) (drop_of_length-le all past)) c.loop-names.invariant
