-- Which plain data are trees within the limits.
use Rattle.std.specs.Prelude.{◌≡◌, ℕ, ◌≤◌, Some}
use Rattle.template_tree.specs.Programs.Limit.{deepest_path, most_slots, most_drawn_slots}
use Rattle.template_tree.specs.Programs.PlainTree.{PlainTree}
use Rattle.template_tree.specs.Programs.Program.{IsProgram}
use Rattle.template_tree.specs.Programs.Slots.{count, depth, first_slot, times, AllBelow}

-- a tree: a program within the limits whose slots were drawn, main's first, and each but once; how many are live is
-- kept with it
pub record IsTree (tree : PlainTree) : Type 0 where
  pub program : IsProgram tree.items
  pub shallow : depth tree.items ≤ deepest_path
  pub few : count tree.items ≤ most_slots
  pub drawn_few : tree.drawn ≤ most_drawn_slots
  pub drawn : AllBelow tree.drawn tree.items
  pub once : (slot : ℕ) → times slot tree.items ≤ 1
  pub main : first_slot tree.items ≡ Some 0
  pub live : tree.live ≡ count tree.items
