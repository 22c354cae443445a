use Rattle.std.specs.Prelude.{◌≤◌, length, map, take}
use Rattle.plcs_grammar.specs.declared.item.Item.{Item}
use Rattle.decl_table.proofs.GatheredNames.{Gathered}
use Rattle.decl_table.proofs.name_list.NameList.add_items.Given as goal

abbrev pub invariant-loop-k : goal.invariant-loop-k
invariant-loop-k l = record {
  gathered :
      Gathered l.fn.self l.self (map (λ (item : Item). item.name) (take l.k l.items)) (map (λ (item : Item). item.name) l.items);
  within : l.k ≤ length l.items;
}

abbrev pub decreases-loop-k : goal.decreases-loop-k
decreases-loop-k l = l.k
