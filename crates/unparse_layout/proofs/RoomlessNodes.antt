-- Nodes that are the same but for the room of their lists.
use Rattle.std.specs.Prelude.{◌≡◌, refl, ℕ, ◌+◌, ◌==◌, Bool, if◌then◌else◌, List, ◌∷◌, Option, Some, None, option_map}
use Rattle.std.proofs.Common.{ap, sym, ◌∙◌, subst}
use Rattle.plcs_grammar.specs.declared.node_kind.Sort.{Sort}
use Rattle.plcs_grammar.specs.Template.{PlainSection, row_of}
use Rattle.template_tree.specs.Programs.PlainTree.{Forest, PlainNode, roomless, roomless_node}
use Rattle.template_tree.specs.Programs.Program.{AreNodes, Fill, sort_of, sorts}
use Rattle.template_tree.specs.Programs.Slots.{times}
use Rattle.unparse_layout.specs.Bones.{bones_of}
use Rattle.unparse_layout.specs.Private.PlainNodeLayout.{node_layout_of}
use Rattle.unparse_layout.proofs.RoomlessLines.{bones_roomless}

-- what a layout keeps of them
pub same_bones : (left : List PlainSection) (one other : Forest) → roomless one ≡ roomless other → bones_of left one ≡ bones_of left other
same_bones left one other same = sym (bones_roomless left one) ∙ ap (bones_of left) same ∙ bones_roomless left other

-- how often a slot stands among them
times_roomless : (slot : ℕ) (items : Forest) → times slot (roomless items) ≡ times slot items
times_roomless slot Forest.nil = refl
times_roomless slot (Forest.cons label inner rest) =
    λ i. (if label.slot == slot then 1 else 0) + (times_roomless slot inner i + times_roomless slot rest i)

pub same_times : (slot : ℕ) (one other : Forest) → roomless one ≡ roomless other → times slot one ≡ times slot other
same_times slot one other same = sym (times_roomless slot one) ∙ ap (times slot) same ∙ times_roomless slot other

-- their sorts
sorts_roomless : (items : Forest) → sorts (roomless items) ≡ sorts items
sorts_roomless Forest.nil = refl
sorts_roomless (Forest.cons label inner rest) = ap (λ others. sort_of label.kind ∷ others) (sorts_roomless rest)

-- they are what their rows ask for
nodes_without : (items : Forest) → AreNodes items → AreNodes (roomless items)
nodes_without Forest.nil sound = tt
nodes_without (Forest.cons label inner rest) sound = (
  record {
    parts = sound.0.parts;
    inner = subst (λ (ss : List Sort). Fill (row_of label.kind).sections ss) (sym (sorts_roomless inner)) sound.0.inner;
    elision = sound.0.elision;
  },
  nodes_without inner sound.1,
  nodes_without rest sound.2,
)

nodes_with : (items : Forest) → AreNodes (roomless items) → AreNodes items
nodes_with Forest.nil sound = tt
nodes_with (Forest.cons label inner rest) sound = (
  record {
    parts = sound.0.parts;
    inner = subst (λ (ss : List Sort). Fill (row_of label.kind).sections ss) (sorts_roomless inner) sound.0.inner;
    elision = sound.0.elision;
  },
  nodes_with inner sound.1,
  nodes_with rest sound.2,
)

pub same_soundness : (one other : Forest) → roomless one ≡ roomless other → AreNodes one → AreNodes other
same_soundness one other same sound = nodes_with other (subst AreNodes same (nodes_without one sound))

-- what a layout keeps of one of them
pub node_roomless : (led : Bool) (one other : PlainNode) → roomless_node one ≡ roomless_node other → node_layout_of led one ≡ node_layout_of led other
node_roomless led one other same =
    let kept : (node : PlainNode) → node_layout_of led (roomless_node node) ≡ node_layout_of led node =
    λ node. (λ i. record {
      bone = record { slot = node.label.slot; kind = node.label.kind; elided = node.label.elided; led = led };
      inner = bones_roomless (row_of node.label.kind).sections node.inner i;
    }) in
    sym (kept one) ∙ ap (node_layout_of led) same ∙ kept other

abbrev taken : PlainNode → Option PlainNode → PlainNode
taken node None = node
taken node (Some there) = there

-- where the one stands at a path, so does the other
pub same_there : (one other : Option PlainNode) (node there : PlainNode) → option_map roomless_node one ≡ option_map roomless_node other
    → one ≡ Some node → other ≡ Some there → roomless_node node ≡ roomless_node there
same_there one other node there same e f =
    ap (taken (roomless_node node)) (sym (ap (option_map roomless_node) e) ∙ same ∙ ap (option_map roomless_node) f)
