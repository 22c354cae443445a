-- Fragments with and without the room of their lists.
use Rattle.std.specs.Prelude.{◌≡◌, refl, ◌+◌, false}
use Rattle.std.proofs.Common.{ap, sym, ◌∙◌}
use Rattle.template_tree.specs.Edits.Copy.{IsCopy, whole_node}
use Rattle.template_tree.specs.Edits.Edit.{whole}
use Rattle.template_tree.specs.Programs.PlainTree.{Forest, PlainNode, roomless, roomless_node}
use Rattle.template_tree.specs.Laws.RoomLaws.{CountsIgnoreRoom, RoomGoesOnce}
use Rattle.template_tree.specs.Programs.Slots.{count}
use Rattle.clip_store.specs.PlainFragment.{PlainFragment, kept_fragment, roomless_fragment, slots_of, whole_fragment}

whole_roomless : (items : Forest) → whole (roomless items) ≡ roomless (whole items)
whole_roomless Forest.nil = refl
whole_roomless (Forest.cons label inner rest) =
    λ i. Forest.cons (record label { elided = false; spare = 0 }) (whole_roomless inner i) (whole_roomless rest i)

-- a node with this inside it, with no room and nothing elided
abbrev whole_with : PlainNode → Forest → PlainNode
whole_with node inner = record { label = record node.label { elided = false; spare = 0 }; inner = inner }

pub whole_node_roomless : (node : PlainNode) → whole_node (roomless_node node) ≡ roomless_node (whole_node node)
whole_node_roomless node = ap (whole_with node) (whole_roomless node.inner)

pub whole_fragment_roomless : (fragment : PlainFragment) → whole_fragment (roomless_fragment fragment) ≡ roomless_fragment (whole_fragment fragment)
whole_fragment_roomless (PlainFragment.node n) = ap PlainFragment.node (whole_node_roomless n)
whole_fragment_roomless (PlainFragment.phrase p) = refl

module _ (once : RoomGoesOnce) where
  node_once : (node : PlainNode) → roomless_node (roomless_node node) ≡ roomless_node node
  node_once node =
      ap (λ (inner : Forest). let n : PlainNode = record { label = record node.label { spare = 0 }; inner = inner } in n) (once node.inner)

  pub fragment_once : (fragment : PlainFragment) → roomless_fragment (roomless_fragment fragment) ≡ roomless_fragment fragment
  fragment_once (PlainFragment.node n) = ap PlainFragment.node (node_once n)
  fragment_once (PlainFragment.phrase p) = refl

  pub whole_fragment_once : (fragment : PlainFragment)
      → roomless_fragment (whole_fragment (roomless_fragment fragment)) ≡ whole_fragment (roomless_fragment fragment)
  whole_fragment_once fragment =
      ap roomless_fragment (whole_fragment_roomless fragment)
      ∙ (fragment_once (whole_fragment fragment) ∙ sym (whole_fragment_roomless fragment))

pub slots_roomless : CountsIgnoreRoom → (fragment : PlainFragment) → slots_of (roomless_fragment fragment) ≡ slots_of fragment
slots_roomless counts (PlainFragment.node n) = ap (λ number. number + 1) (counts n.inner)
slots_roomless counts (PlainFragment.phrase p) = refl

-- what is elided plays no part in the number of slots
count_whole : (items : Forest) → count (whole items) ≡ count items
count_whole Forest.nil = refl
count_whole (Forest.cons label inner rest) = λ i. count_whole inner i + count_whole rest i + 1

pub slots_kept : CountsIgnoreRoom → (fragment : PlainFragment) → slots_of (kept_fragment fragment) ≡ slots_of fragment
slots_kept counts (PlainFragment.node n) = ap (λ number. number + 1) (count_whole (roomless n.inner) ∙ counts n.inner)
slots_kept counts (PlainFragment.phrase p) = refl

-- a whole node is whole already
whole_twice : (items : Forest) → whole (whole items) ≡ whole items
whole_twice Forest.nil = refl
whole_twice (Forest.cons label inner rest) = λ i. Forest.cons (record label { elided = false }) (whole_twice inner i) (whole_twice rest i)

abbrev elided_nowhere : PlainNode → Forest → PlainNode
elided_nowhere node inner = record { label = record node.label { elided = false }; inner = inner }

pub whole_goes_once : (fragment : PlainFragment) → whole_fragment (whole_fragment fragment) ≡ whole_fragment fragment
whole_goes_once (PlainFragment.node n) = ap (λ (inner : Forest). PlainFragment.node (elided_nowhere n inner)) (whole_twice n.inner)
whole_goes_once (PlainFragment.phrase p) = refl

-- a copy of the node is the whole node, both without room
pub copy_roomless : (node copy : PlainNode) → IsCopy node copy → roomless_node copy ≡ whole_node (roomless_node node)
copy_roomless node copy is = is ∙ sym (whole_node_roomless node)
