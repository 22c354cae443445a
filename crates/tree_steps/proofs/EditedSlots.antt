-- What stands in a slot of the tree before an edit stood there at the same place, in a node of the same sort.
-- What an edit brings into a slot has slots that were not drawn yet, but for the node in that slot itself, which has
-- its sort.
use Rattle.std.specs.Prelude.{◌≡◌, refl, ℕ, ◌+◌, ◌<◌, ◌≤◌, ◌==◌, Bool, true, false, if◌then◌else◌, List, [], ◌∷◌, ◌++◌, Option, Some, None, ◌⊎◌}
use Rattle.std.proofs.Common.{ap, sym, ◌∙◌, arith, inl, inr}
use Rattle.std.proofs.lemmas.Bool.{eqb-true}
use Rattle.plcs_grammar.specs.declared.node_kind.NodeKind.{NodeKind}
use Rattle.plcs_grammar.specs.declared.node_kind.Sort.{Sort}
use Rattle.plcs_grammar.specs.PlainPhrase.{PlainPhrase}
use Rattle.template_tree.specs.declared.side.Side.{Side}
use Rattle.template_tree.specs.Edits.Edit.{edit_slot, node_in_slot, whole, with_hole}
use Rattle.template_tree.specs.Edits.Hole.{hole_list, hole_of}
use Rattle.template_tree.specs.Programs.Part.{with_part}
use Rattle.template_tree.specs.Programs.PlainTree.{Forest, Label, PlainNode, forest, join}
use Rattle.template_tree.specs.Programs.Program.{sort_of}
use Rattle.template_tree.specs.Programs.Slots.{AllBelow, count, with_slots_from}
use Rattle.tree_steps.specs.StandingSlot.{Around, StandsBelow}

-- where a slot stood, in a node of the same sort, that stands among nodes now
abbrev pub Stood : Around → Forest → ℕ → NodeKind → Around → Type 0
Stood above items slot kind around = (was : NodeKind) × (sort_of was ≡ sort_of kind) × StandsBelow above items slot was around

-- ---- slots among nodes

-- a slot of joined nodes stands in the ones or the others
joined : (above : Around) (items others : Forest) (slot : ℕ) (kind : NodeKind) (around : Around)
    → StandsBelow above (join items others) slot kind around
    → StandsBelow above items slot kind around ⊎ StandsBelow above others slot kind around
joined above Forest.nil others slot kind around h = inr h
joined above (Forest.cons label inner rest) others slot kind around (inl h) = inl (inl h)
joined above (Forest.cons label inner rest) others slot kind around (inr (inl h)) = inl (inr (inl h))
joined above (Forest.cons label inner rest) others slot kind around (inr (inr h)) =
    elim (joined above rest others slot kind around h) as (λ _. StandsBelow above (Forest.cons label inner rest) slot kind around ⊎ StandsBelow above others slot kind around)
    [ inl a ↦ inl (inr (inr a)) | inr b ↦ inr b ]

-- slots that are drawn from a number on are not below it
pub drawn_on : (first : ℕ) (above : Around) (items : Forest) (slot : ℕ) (kind : NodeKind) (around : Around)
    → StandsBelow above (with_slots_from first items) slot kind around → first ≤ slot
drawn_on first above Forest.nil slot kind around h = absurd h
drawn_on first above (Forest.cons label inner rest) slot kind around (inl h) = omega (arith, h.0)
drawn_on first above (Forest.cons label inner rest) slot kind around (inr (inl h)) =
    let within : first + 1 ≤ slot = drawn_on (first + 1) ((first, label.kind) ∷ above) inner slot kind around h in
    omega (arith, within)
drawn_on first above (Forest.cons label inner rest) slot kind around (inr (inr h)) =
    let behind : first + 1 + count inner ≤ slot = drawn_on (first + 1 + count inner) above rest slot kind around h in
    omega (arith, behind)

-- a slot that stands below a number where all slots are
pub standing_below : (number : ℕ) (above : Around) (items : Forest) (slot : ℕ) (kind : NodeKind) (around : Around)
    → AllBelow number items → StandsBelow above items slot kind around → slot < number
standing_below number above Forest.nil slot kind around all h = absurd h
standing_below number above (Forest.cons label inner rest) slot kind around all (inl h) =
    let less : label.slot < number = all.0 in
    omega (arith, less, h.0)
standing_below number above (Forest.cons label inner rest) slot kind around all (inr (inl h)) =
    standing_below number ((label.slot, label.kind) ∷ above) inner slot kind around all.1 h
standing_below number above (Forest.cons label inner rest) slot kind around all (inr (inr h)) =
    standing_below number above rest slot kind around all.2 h

-- ---- an edit in a slot

-- each node in the slot is of the sort
abbrev pub HasSort : Sort → ℕ → Around → Forest → Type 0
HasSort sort edited above items = (kind : NodeKind) (around : Around) → StandsBelow above items edited kind around → sort_of kind ≡ sort

-- what a change of a node of the sort in a slot brings in stood in the node, as far as its slots are below the number
abbrev pub BringsNew : Sort → ℕ → ℕ → (PlainNode → List PlainNode) → Type 0
BringsNew sort edited drawn change =
    (node : PlainNode) → node.label.slot ≡ edited → sort_of node.label.kind ≡ sort
    → (above : Around) (slot : ℕ) (kind : NodeKind) (around : Around) → slot < drawn
    → StandsBelow above (forest (change node)) slot kind around
    → Stood above (Forest.cons node.label node.inner Forest.nil) slot kind around

-- what stood in a node stood among it and others
stood_first : (above : Around) (label : Label) (inner rest : Forest) (slot : ℕ) (kind : NodeKind) (around : Around)
    → Stood above (Forest.cons label inner Forest.nil) slot kind around → Stood above (Forest.cons label inner rest) slot kind around
stood_first above label inner rest slot kind around (was, sort, inl h) = (was, sort, inl h)
stood_first above label inner rest slot kind around (was, sort, inr (inl h)) = (was, sort, inr (inl h))
stood_first above label inner rest slot kind around (was, sort, inr (inr h)) = absurd h

stood_behind : (above : Around) (label : Label) (inner rest : Forest) (slot : ℕ) (kind : NodeKind) (around : Around)
    → Stood above rest slot kind around → Stood above (Forest.cons label inner rest) slot kind around
stood_behind above label inner rest slot kind around (was, sort, h) = (was, sort, inr (inr h))

-- the first node gives way, or what stands inside it and behind it is edited
level : (same : Bool) (sort : Sort) (edited drawn : ℕ) (change : PlainNode → List PlainNode) → BringsNew sort edited drawn change
    → (above : Around) (label : Label) (inner rest inner' rest' : Forest) → (label.slot == edited) ≡ same
    → HasSort sort edited above (Forest.cons label inner rest)
    → (slot : ℕ) (kind : NodeKind) (around : Around) → slot < drawn
    → (StandsBelow ((label.slot, label.kind) ∷ above) inner' slot kind around → Stood ((label.slot, label.kind) ∷ above) inner slot kind around)
    → (StandsBelow above rest' slot kind around → Stood above rest slot kind around)
    → StandsBelow above
    (if same then join (forest (change record { label = label; inner = inner })) rest' else Forest.cons label inner' rest') slot kind around
    → Stood above (Forest.cons label inner rest) slot kind around
level true sort edited drawn change new above label inner rest inner' rest' same has slot kind around less within behind h =
    let node : PlainNode = record { label = label; inner = inner } in
    let here : label.slot ≡ edited = eqb-true label.slot edited same in
    elim (joined above (forest (change node)) rest' slot kind around h) as (λ _. Stood above (Forest.cons label inner rest) slot kind around) [
      | inl a ↦
          stood_first above label inner rest slot kind around
          (new node here (has label.kind above (inl (here, refl, refl))) above slot kind around less a)
      | inr b ↦ stood_behind above label inner rest slot kind around (behind b)
    ]
level false sort edited drawn change new above label inner rest inner' rest' same has slot kind around less within behind (inl h) =
    (kind, refl, inl h)
level false sort edited drawn change new above label inner rest inner' rest' same has slot kind around less within behind (inr (inl h)) =
    let there = within h in
    (there.0, there.1, inr (inl there.2))
level false sort edited drawn change new above label inner rest inner' rest' same has slot kind around less within behind (inr (inr h)) =
    stood_behind above label inner rest slot kind around (behind h)

-- what stands in a slot after an edit stood there before
pub stood : (sort : Sort) (edited drawn : ℕ) (change : PlainNode → List PlainNode) → BringsNew sort edited drawn change
    → (above : Around) (items : Forest) → HasSort sort edited above items
    → (slot : ℕ) (kind : NodeKind) (around : Around) → slot < drawn
    → StandsBelow above (edit_slot edited change items) slot kind around → Stood above items slot kind around
stood sort edited drawn change new above Forest.nil has slot kind around less h = absurd h
stood sort edited drawn change new above (Forest.cons label inner rest) has slot kind around less h =
    level (label.slot == edited) sort edited drawn change new above label inner rest
    (edit_slot edited change inner) (edit_slot edited change rest) refl has slot kind around less
    (stood sort edited drawn change new ((label.slot, label.kind) ∷ above) inner (λ k a s. has k a (inr (inl s))) slot kind around less)
    (stood sort edited drawn change new above rest (λ k a s. has k a (inr (inr s))) slot kind around less)
    h

-- ---- the four edits

pub put_new : (sort : Sort) (edited drawn : ℕ) (new : PlainNode) → sort_of new.label.kind ≡ sort
    → BringsNew sort edited drawn (λ _. node_in_slot edited drawn new ∷ [])
put_new sort edited drawn new is node here was above slot kind around less (inl h) =
    (node.label.kind, was ∙ (sym is ∙ ap sort_of h.1), inl (here ∙ h.0, refl, h.2))
put_new sort edited drawn new is node here was above slot kind around less (inr (inl h)) =
    let on : drawn ≤ slot = drawn_on drawn ((edited, new.label.kind) ∷ above) (whole new.inner) slot kind around h in
    absurd (omega (arith, on, less))
put_new sort edited drawn new is node here was above slot kind around less (inr (inr h)) = absurd h

-- the new hole has the next slot
hole_new : (o : Option NodeKind) (drawn : ℕ) (above : Around) (slot : ℕ) (kind : NodeKind) (around : Around) → slot < drawn
    → StandsBelow above (forest (hole_list drawn o)) slot kind around → ⊥
hole_new None drawn above slot kind around less h = h
hole_new (Some hole) drawn above slot kind around less (inl h) = omega (arith, h.0, less)
hole_new (Some hole) drawn above slot kind around less (inr (inl h)) = h
hole_new (Some hole) drawn above slot kind around less (inr (inr h)) = h

-- with the new hole in front
before_new : (o : Option NodeKind) (drawn : ℕ) (above : Around) (items : List PlainNode) (slot : ℕ) (kind : NodeKind) (around : Around) → slot < drawn
    → StandsBelow above (forest (hole_list drawn o ++ items)) slot kind around → StandsBelow above (forest items) slot kind around
before_new None drawn above items slot kind around less h = h
before_new (Some hole) drawn above items slot kind around less (inl h) = absurd (omega (arith, h.0, less))
before_new (Some hole) drawn above items slot kind around less (inr (inl h)) = absurd h
before_new (Some hole) drawn above items slot kind around less (inr (inr h)) = h

pub add_new : (sort : Sort) (edited drawn : ℕ) (side : Side) → BringsNew sort edited drawn (with_hole drawn side)
add_new sort edited drawn Side.Before node here was above slot kind around less h =
    (kind, refl, before_new (hole_of (sort_of node.label.kind)) drawn above (node ∷ []) slot kind around less h)
add_new sort edited drawn Side.After node here was above slot kind around less (inl h) = (kind, refl, inl h)
add_new sort edited drawn Side.After node here was above slot kind around less (inr (inl h)) = (kind, refl, inr (inl h))
add_new sort edited drawn Side.After node here was above slot kind around less (inr (inr h)) =
    absurd (hole_new (hole_of (sort_of node.label.kind)) drawn above slot kind around less h)

pub drop_new : (sort : Sort) (edited drawn : ℕ) → BringsNew sort edited drawn (λ _. [])
drop_new sort edited drawn node here was above slot kind around less h = absurd h

pub part_new : (sort : Sort) (edited drawn part : ℕ) (place : Option PlainPhrase)
    → BringsNew sort edited drawn (λ node. with_part part place node ∷ [])
part_new sort edited drawn part place node here was above slot kind around less h = (kind, refl, h)
