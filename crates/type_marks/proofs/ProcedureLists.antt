-- Main and the procedures gone through in order.
use Rattle.std.proofs.Common.{◌≡◌, ℕ, Bool, true, false, cond, List, Option, Some, None, refl, sym, ap, ◌∙◌}
use Rattle.std.specs.Prelude.{is_some, nat_eq}
use Rattle.std.specs.Option.{option_or}
use Rattle.template_tree.specs.Checks.Environment.{Sig, Signature, procedure_at, signature_for}
use Rattle.template_tree.specs.Checks.Marks.{procedures_before}
use Rattle.template_tree.specs.Programs.PlainTree.{Forest, PlainNode}

-- these begin with a node, and others are behind it
module _ (all : Forest) (node : PlainNode) (rest : Forest) (first : all ≡ Forest.cons node.label node.inner rest) (slot : ℕ) where
  -- ---- the one in a slot

  pub found_here : nat_eq node.label.slot slot ≡ true → procedure_at all slot ≡ Some node
  found_here here =
      ap (λ (ns : Forest). procedure_at ns slot) first
      ∙ ap (λ b. cond b (Some record { label = node.label; inner = node.inner }) (procedure_at rest slot)) here

  pub found_behind : nat_eq node.label.slot slot ≡ false → procedure_at rest slot ≡ procedure_at all slot
  found_behind here =
      sym
      (ap (λ (ns : Forest). procedure_at ns slot) first
      ∙ ap (λ b. cond b (Some record { label = node.label; inner = node.inner }) (procedure_at rest slot)) here)

  -- ---- whether one before a slot has a name

  module _ (name : List ℕ) where
    abbrev pub named : Forest → Bool
    named ns = is_some (Sig (procedures_before ns slot) name)

    opened : named all
        ≡ is_some (Sig (cond (nat_eq node.label.slot slot) Forest.nil (Forest.cons node.label node.inner (procedures_before rest slot))) name)
    opened = ap (λ (ns : Forest). is_some (Sig (procedures_before ns slot) name)) first

    pub named_own : nat_eq node.label.slot slot ≡ true → named all ≡ false
    named_own here =
        opened ∙ ap (λ b. is_some (Sig (cond b Forest.nil (Forest.cons node.label node.inner (procedures_before rest slot))) name)) here

    behind : nat_eq node.label.slot slot ≡ false → named all ≡ is_some (option_or (signature_for name node) (Sig (procedures_before rest slot) name))
    behind here =
        opened ∙ ap (λ b. is_some (Sig (cond b Forest.nil (Forest.cons node.label node.inner (procedures_before rest slot))) name)) here

    by_first : (o other : Option Signature) → is_some o ≡ true → is_some (option_or o other) ≡ true
    by_first None other is = absurd (cc)
    by_first (Some s) other is = refl

    by_other : (o other : Option Signature) → is_some o ≡ false → is_some (option_or o other) ≡ is_some other
    by_other None other is = refl
    by_other (Some s) other is = absurd (cc)

    pub named_here : nat_eq node.label.slot slot ≡ false → is_some (signature_for name node) ≡ true → named all ≡ true
    named_here here is = behind here ∙ by_first (signature_for name node) (Sig (procedures_before rest slot) name) is

    pub named_behind : nat_eq node.label.slot slot ≡ false → is_some (signature_for name node) ≡ false → named rest ≡ named all
    named_behind here is = sym (behind here ∙ by_other (signature_for name node) (Sig (procedures_before rest slot) name) is)
