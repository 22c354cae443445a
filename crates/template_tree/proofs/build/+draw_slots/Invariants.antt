use Rattle.std.specs.Prelude.{◌≡◌, ◌+◌, ◌≤◌, drop, length}
use Rattle.template_tree.specs.Programs.PlainTree.{nodes, forest}
use Rattle.template_tree.specs.Programs.Slots.{count, with_slots_from}
use Rattle.template_tree.proofs.Trees.DrawnSlots.{numbered_after}
use Rattle.template_tree.proofs.build.+draw_slots.Given as goal

abbrev pub decreases-draw_slots : goal.decreases-draw_slots
decreases-draw_slots l = count (forest l.list.now.items)

abbrev pub invariant-loop-k : goal.invariant-loop-k
invariant-loop-k l = record {
  drawn : numbered_after l.k l.next l.list.items ≡ nodes (with_slots_from l.fn.first (forest l.fn.list.items));
  so_far : l.next + count (forest (drop l.k l.list.items)) ≡ l.fn.first + count (forest l.fn.list.items);
  begun : l.fn.first ≤ l.next;
  whole : length l.list.items ≡ length l.fn.list.items;
  room : l.list.spare ≡ l.fn.list.spare;
}
