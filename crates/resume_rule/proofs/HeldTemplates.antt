-- Where the same is held of a slot in two programs, the kind is the same, and the parts are.
use Rattle.std.specs.Prelude.{◌≡◌, refl, ℕ, Option, Some, None, option_map}
use Rattle.std.proofs.Common.{ap, sym, ◌∙◌}
use Rattle.plcs_grammar.specs.declared.node_kind.NodeKind.{NodeKind}
use Rattle.template_tree.specs.Positions.Place.{Site, site}
use Rattle.template_tree.specs.Programs.PlainTree.{Forest}
use Rattle.plcs_store.specs.declared.held_template.HeldTemplate.{HeldTemplate}
use Rattle.plcs_store.specs.Resume.{Parts, kind_held, parts_held, template_held}

-- the kind that is held, if something is
abbrev kind_of : Option HeldTemplate → Option NodeKind
kind_of held = option_map (λ one. one.kind) held

-- the parts that are held, if something is
abbrev parts_of : Option HeldTemplate → Option Parts
parts_of held = option_map (λ one. one.parts) held

pub kind_told : (program : Forest) (slot : ℕ) → kind_held program slot ≡ kind_of (template_held program slot)
kind_told program slot = by (site program slot)
  where
    by : (found : Option Site)
        → option_map (λ one. one.label.kind) found
        ≡ kind_of (option_map (λ one. record { kind = one.label.kind; parts = one.label.parts }) found)
    by None = refl
    by (Some found) = refl

pub parts_told : (program : Forest) (slot : ℕ) → parts_held program slot ≡ parts_of (template_held program slot)
parts_told program slot = by (site program slot)
  where
    by : (found : Option Site)
        → option_map (λ one. one.label.parts) found
        ≡ parts_of (option_map (λ one. record { kind = one.label.kind; parts = one.label.parts }) found)
    by None = refl
    by (Some found) = refl

pub kind_is : (program : Forest) (slot : ℕ) (template : HeldTemplate) → template_held program slot ≡ Some template
    → kind_held program slot ≡ Some template.kind
kind_is program slot template held = kind_told program slot ∙ ap kind_of held

pub parts_are : (program : Forest) (slot : ℕ) (template : HeldTemplate) → template_held program slot ≡ Some template
    → parts_held program slot ≡ Some template.parts
parts_are program slot template held = parts_told program slot ∙ ap parts_of held

pub kind_same : (one other : Forest) (slot : ℕ) → template_held one slot ≡ template_held other slot
    → kind_held one slot ≡ kind_held other slot
kind_same one other slot held = kind_told one slot ∙ ap kind_of held ∙ sym (kind_told other slot)

pub parts_same : (one other : Forest) (slot : ℕ) → template_held one slot ≡ template_held other slot
    → parts_held one slot ≡ parts_held other slot
parts_same one other slot held = parts_told one slot ∙ ap parts_of held ∙ sym (parts_told other slot)
