-- The nodes in a procedure gone through in order.
use Rattle.std.proofs.Common.{◌≡◌, ℕ, true, false, cond, List, [], ◌++◌, sym, ap, ◌∙◌}
use Rattle.std.specs.Prelude.{◌||◌, nat_eq}
use Rattle.std.proofs.lemmas.List.Folds.{list_any-append}
use Rattle.template_tree.specs.Checks.Environment.{declares, type_given}
use Rattle.template_tree.specs.Checks.Marks.{declared_before, type_in}
use Rattle.template_tree.specs.Programs.PlainTree.{Forest, PlainNode}
use Rattle.type_marks.specs.Private.DeclaredItems.{has_such, is_such}

-- these begin with a node, and others are behind it
module _ (all : Forest) (node : PlainNode) (rest : Forest) (first : all ≡ Forest.cons node.label node.inner rest) (slot : ℕ) where
  pub type_here : nat_eq node.label.slot slot ≡ true → type_in all slot ≡ type_given node.label.kind node.label.parts
  type_here here =
      ap (λ (ns : Forest). type_in ns slot) first ∙ ap (λ b. cond b (type_given node.label.kind node.label.parts) (type_in rest slot)) here

  pub type_behind : nat_eq node.label.slot slot ≡ false → type_in rest slot ≡ type_in all slot
  type_behind here =
      sym (ap (λ (ns : Forest). type_in ns slot) first ∙ ap (λ b. cond b (type_given node.label.kind node.label.parts) (type_in rest slot)) here)

  module _ (name : List ℕ) (count : ℕ) where
    opened : has_such name count (declared_before all slot)
        ≡ has_such name count (cond (nat_eq node.label.slot slot) [] (declares node.label ++ declared_before rest slot))
    opened = ap (λ (ns : Forest). has_such name count (declared_before ns slot)) first

    pub such_own : nat_eq node.label.slot slot ≡ true → has_such name count (declared_before all slot) ≡ false
    such_own here = opened ∙ ap (λ b. has_such name count (cond b [] (declares node.label ++ declared_before rest slot))) here

    behind : nat_eq node.label.slot slot ≡ false
        → has_such name count (declared_before all slot) ≡ (has_such name count (declares node.label) || has_such name count (declared_before rest slot))
    behind here =
        opened ∙ ap (λ b. has_such name count (cond b [] (declares node.label ++ declared_before rest slot))) here
        ∙ list_any-append (is_such name count) (declares node.label) (declared_before rest slot)

    pub such_here : nat_eq node.label.slot slot ≡ false → has_such name count (declares node.label) ≡ true → has_such name count (declared_before all slot) ≡ true
    such_here here is = behind here ∙ ap (λ b. b || has_such name count (declared_before rest slot)) is

    pub such_behind : nat_eq node.label.slot slot ≡ false → has_such name count (declares node.label) ≡ false
        → has_such name count (declared_before rest slot) ≡ has_such name count (declared_before all slot)
    such_behind here is = sym (behind here ∙ ap (λ b. b || has_such name count (declared_before rest slot)) is)
