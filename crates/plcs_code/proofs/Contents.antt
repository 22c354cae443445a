-- The content of a program: all of it but room and elision. A turned comment keeps it.
use Rattle.std.proofs.Common.{◌≡◌, ℕ, zero, suc, Bool, true, false, List, [], ◌∷◌, refl, ap, ◌∙◌}
use Rattle.std.specs.Prelude.{if◌then◌else◌, not}
use Rattle.template_tree.specs.Edits.Edit.{edit_at, edit_below, give_way, whole}
use Rattle.template_tree.specs.Edits.Elision.{is_comment, toggled}
use Rattle.template_tree.specs.Programs.PlainTree.{Forest, PlainNode, forest, join, roomless}

-- nodes with nothing elided and without room
abbrev pub content : Forest → Forest
content Forest.nil = Forest.nil
content (Forest.cons label inner rest) =
    Forest.cons (record label { elided = false; spare = 0 }) (content inner) (content rest)

abbrev node_content : PlainNode → PlainNode
node_content node = record { label = record node.label { elided = false; spare = 0 }; inner = content node.inner }

pub content_roomless : (items : Forest) → content (roomless items) ≡ content items
content_roomless Forest.nil = refl
content_roomless (Forest.cons label inner rest) =
    λ i. Forest.cons (record label { elided = false; spare = 0 }) (content_roomless inner i) (content_roomless rest i)

-- that is the nodes with nothing elided, without room
pub content_shown : (items : Forest) → roomless (whole items) ≡ content items
content_shown Forest.nil = refl
content_shown (Forest.cons label inner rest) =
    λ i. Forest.cons (record label { elided = false; spare = 0 }) (content_shown inner i) (content_shown rest i)

-- a change of an item that keeps its content, and gives one item
record Keeps (change : PlainNode → List PlainNode) : Type 0 where
  new : PlainNode → PlainNode
  one : (node : PlainNode) → change node ≡ new node ∷ []
  same : (node : PlainNode) → node_content (new node) ≡ node_content node

gives_way : (change : PlainNode → List PlainNode) → Keeps change → (k : ℕ) (items : Forest)
    → content (give_way change k items) ≡ content items
gives_way change keeps k Forest.nil = refl
gives_way change keeps zero (Forest.cons label inner rest) =
    let node : PlainNode = record { label = label; inner = inner } in
    ap (λ (items : List PlainNode). content (join (forest items) rest)) (keeps.one node)
    ∙ ap (λ (n : PlainNode). Forest.cons n.label n.inner (content rest)) (keeps.same node)
gives_way change keeps (suc k) (Forest.cons label inner rest) =
    ap (Forest.cons (record label { elided = false; spare = 0 }) (content inner)) (gives_way change keeps k rest)

keeps_below : (change : PlainNode → List PlainNode) → Keeps change → (path : List ℕ) → Keeps (edit_below change path)
keeps_below change keeps [] = keeps
keeps_below change keeps (k ∷ path) =
    record {
      new = λ node. record node { inner = give_way (edit_below change path) k node.inner };
      one = λ node. refl;
      same = λ node.
          ap (λ (inner : Forest). let n : PlainNode = record { label = record node.label { elided = false; spare = 0 }; inner = inner } in n)
          (gives_way (edit_below change path) (keeps_below change keeps path) k node.inner);
    }

abbrev turned_or_not : Bool → PlainNode → PlainNode
turned_or_not b node = if b then record node { label = record node.label { elided = not node.label.elided } } else node

turned_same : (b : Bool) (node : PlainNode) → node_content (turned_or_not b node) ≡ node_content node
turned_same true node = refl
turned_same false node = refl

turn_keeps : Keeps toggled
turn_keeps =
    record {
      new = λ node. turned_or_not (is_comment node.label.kind) node;
      one = λ node. refl;
      same = λ node. turned_same (is_comment node.label.kind) node;
    }

pub content_turned : (path : List ℕ) (items : Forest) → content (edit_at toggled path items) ≡ content items
content_turned [] items = refl
content_turned (k ∷ path) items = gives_way (edit_below toggled path) (keeps_below toggled turn_keeps path) k items
