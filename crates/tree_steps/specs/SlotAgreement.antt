-- When a tree means the same by its slots as an earlier one.
use Rattle.std.specs.Prelude.{◌≡◌, ℕ}
use Rattle.plcs_grammar.specs.declared.node_kind.NodeKind.{NodeKind}
use Rattle.template_tree.specs.Programs.PlainTree.{PlainTree}
use Rattle.template_tree.specs.Programs.Program.{sort_of}
use Rattle.template_tree.specs.Programs.Slots.{AllBelow}
use Rattle.tree_steps.specs.StandingSlot.{Around, StandsInside}

-- the slots of the earlier tree are all drawn in the later one; a slot that is live in both holds nodes of one sort
-- there, with the same nodes around them, of the same kinds. A slot that is gone may have come back. Agreement isn't
-- transitive: a slot that the tree between doesn't have may mean one thing in the first and another in the last
pub record AgreesWith (earlier later : PlainTree) : Type 0 where
  pub drawn : AllBelow later.drawn earlier.items
  pub alike :
      (slot : ℕ) (was now : NodeKind) (one other : Around)
      → StandsInside earlier.items slot was one → StandsInside later.items slot now other
      → (sort_of was ≡ sort_of now) × (one ≡ other)
