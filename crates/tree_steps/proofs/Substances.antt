-- Slots stand at the same places in nodes of the same substance, and a turned comment keeps it.
-- Standing looks at slots and kinds alone, which the substance keeps; an edit at a path by a change that keeps the
-- substance of its node keeps it.
use Rattle.std.specs.Prelude.{◌≡◌, refl, ℕ, zero, suc, Bool, true, false, not, if◌then◌else◌, List, [], ◌∷◌, ◌⊎◌}
use Rattle.std.proofs.Common.{ap, sym, ◌∙◌}
use Rattle.plcs_grammar.specs.declared.node_kind.NodeKind.{NodeKind}
use Rattle.template_tree.specs.Edits.Edit.{edit_at, edit_below, give_way}
use Rattle.template_tree.specs.Edits.Elision.{is_comment, toggled}
use Rattle.template_tree.specs.Programs.PlainTree.{Forest, PlainNode, forest, join, roomless}
use Rattle.tree_steps.specs.EditStep.{substance}
use Rattle.tree_steps.specs.StandingSlot.{Around, StandsBelow}

-- ---- where slots stand

pub stands_alike : (above : Around) (items : Forest) (slot : ℕ) (kind : NodeKind) (around : Around)
    → StandsBelow above (substance items) slot kind around ≡ StandsBelow above items slot kind around
stands_alike above Forest.nil slot kind around = refl
stands_alike above (Forest.cons label inner rest) slot kind around =
    λ i. ((label.slot ≡ slot) × (label.kind ≡ kind) × (above ≡ around))
    ⊎ (stands_alike ((label.slot, label.kind) ∷ above) inner slot kind around i ⊎ stands_alike above rest slot kind around i)

-- in nodes of the same substance a slot stands at the same places
pub stands_same : (one other : Forest) (slot : ℕ) (kind : NodeKind) (around : Around) → substance one ≡ substance other
    → StandsBelow [] one slot kind around ≡ StandsBelow [] other slot kind around
stands_same one other slot kind around same =
    sym (stands_alike [] one slot kind around)
    ∙ (ap (λ (items : Forest). StandsBelow [] items slot kind around) same ∙ stands_alike [] other slot kind around)

-- ---- room and elision

pub substance_roomless : (items : Forest) → substance (roomless items) ≡ substance items
substance_roomless Forest.nil = refl
substance_roomless (Forest.cons label inner rest) =
    λ i. Forest.cons (record label { elided = false; spare = 0 }) (substance_roomless inner i) (substance_roomless rest i)

-- nodes that are the same without room are of the same substance
pub roomless_same : (one other : Forest) → roomless one ≡ roomless other → substance one ≡ substance other
roomless_same one other same = sym (substance_roomless one) ∙ (ap substance same ∙ substance_roomless other)

abbrev node_substance : PlainNode → PlainNode
node_substance node = record { label = record node.label { elided = false; spare = 0 }; inner = substance node.inner }

-- a change of an item that keeps its substance, and gives one item
record Keeps (change : PlainNode → List PlainNode) : Type 0 where
  new : PlainNode → PlainNode
  one : (node : PlainNode) → change node ≡ new node ∷ []
  same : (node : PlainNode) → node_substance (new node) ≡ node_substance node

gives_way : (change : PlainNode → List PlainNode) → Keeps change → (k : ℕ) (items : Forest)
    → substance (give_way change k items) ≡ substance items
gives_way change keeps k Forest.nil = refl
gives_way change keeps zero (Forest.cons label inner rest) =
    let node : PlainNode = record { label = label; inner = inner } in
    ap (λ (items : List PlainNode). substance (join (forest items) rest)) (keeps.one node)
    ∙ ap (λ (n : PlainNode). Forest.cons n.label n.inner (substance rest)) (keeps.same node)
gives_way change keeps (suc k) (Forest.cons label inner rest) =
    ap (Forest.cons (record label { elided = false; spare = 0 }) (substance inner)) (gives_way change keeps k rest)

keeps_below : (change : PlainNode → List PlainNode) → Keeps change → (path : List ℕ) → Keeps (edit_below change path)
keeps_below change keeps [] = keeps
keeps_below change keeps (k ∷ path) =
    record {
      new = λ node. record node { inner = give_way (edit_below change path) k node.inner };
      one = λ node. refl;
      same = λ node.
          ap (λ (inner : Forest). let n : PlainNode = record { label = record node.label { elided = false; spare = 0 }; inner = inner } in n)
          (gives_way (edit_below change path) (keeps_below change keeps path) k node.inner);
    }

abbrev turned_or_not : Bool → PlainNode → PlainNode
turned_or_not b node = if b then record node { label = record node.label { elided = not node.label.elided } } else node

turned_same : (b : Bool) (node : PlainNode) → node_substance (turned_or_not b node) ≡ node_substance node
turned_same true node = refl
turned_same false node = refl

turn_keeps : Keeps toggled
turn_keeps =
    record {
      new = λ node. turned_or_not (is_comment node.label.kind) node;
      one = λ node. refl;
      same = λ node. turned_same (is_comment node.label.kind) node;
    }

pub substance_turned : (path : List ℕ) (items : Forest) → substance (edit_at toggled path items) ≡ substance items
substance_turned [] items = refl
substance_turned (k ∷ path) items = gives_way (edit_below toggled path) (keeps_below toggled turn_keeps path) k items
