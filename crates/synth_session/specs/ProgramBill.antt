-- The bill of an edit of the program: so many instructions are emitted for it at most.
use Rattle.std.specs.Prelude.{ℕ}
use Rattle.template_tree.specs.declared.change.What.{What}
use Rattle.template_tree.specs.Programs.PlainTree.{PlainTree}
use Rattle.code_patch.specs.Bill.{edit_bill}

-- how many instructions may be emitted for an edit of a program that did this in a slot, by the trees before and after
unfoldable pub program_bill : What → (slot : ℕ) → (before after : PlainTree) → ℕ
program_bill what slot before after = edit_bill what slot before.items after.items
