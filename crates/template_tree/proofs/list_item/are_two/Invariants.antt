use Rattle.std.specs.Prelude.{◌≡◌, ◌+◌, ◌≤◌, drop}
use Rattle.template_tree.specs.Edits.ListItem.{how_many}
use Rattle.template_tree.specs.Programs.PlainTree.{forest}
use Rattle.template_tree.specs.Programs.Program.{sorts}
use Rattle.template_tree.proofs.list_item.are_two.Given as goal

abbrev pub invariant-loop-node : goal.invariant-loop-node
invariant-loop-node l = record {
  counted : l.seen + how_many l.fn.sort (sorts (forest (drop l.node-index l.nodes))) ≡ how_many l.fn.sort (sorts (forest l.nodes));
  few : l.seen ≤ 1;
}
