-- How many phrases of the program are due for a check after an edit of it: so many are checked for it at most.
use Rattle.std.specs.Prelude.{ℕ}
use Rattle.template_tree.specs.declared.change.What.{What}
use Rattle.template_tree.specs.Programs.PlainTree.{PlainTree}
use Rattle.decl_table.specs.DueCount.{due_count}

-- how many phrases are due after an edit of a program that did this in a slot, by the trees before and after
unfoldable pub program_due : What → (slot : ℕ) → (before after : PlainTree) → ℕ
program_due what slot before after = due_count what slot before.items after.items
