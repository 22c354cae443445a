-- The cursor may stand where it stood at a comment that is turned, and what comes of turning it comes of the command.
use Rattle.std.proofs.Common.{◌≡◌, ℕ, zero, suc, Bool, true, false, not, if◌then◌else◌, List, [], ◌∷◌, Option, Some, None, option_map, option_and_then, refl, sym, ap, subst, ◌∙◌}
use Rattle.std.specs.Prelude.{IsSomeAnd, slice_get}
use Rattle.template_tree.specs.Edits.Edit.{edit_at, edit_below, give_way}
use Rattle.template_tree.specs.Edits.Elision.{is_comment, toggled, with_toggled_at}
use Rattle.template_tree.specs.Programs.PlainTree.{Forest, PlainNode, nodes}
use Rattle.template_tree.specs.Positions.Stop.{IsStop, MayStand, PlainStop, visible_at, visible_below}
use Rattle.synth_session.specs.declared.answer.Refusal.TheVariants as why
use Rattle.synth_session.specs.ElideCommand.{comment_toggled, is_at_comment}
use Rattle.synth_session.specs.KeyOutcome.{KeyOutcome, line_acceptance_outcome, refusal_outcome}
use Rattle.synth_session.specs.PlainSession.{PlainSession}

-- a comment turned, or another node as it is
abbrev turned_node : PlainNode → PlainNode
turned_node node = if is_comment node.label.kind then record node { label = record node.label { elided = not node.label.elided } } else node

-- a node with the one at the path below it turned
abbrev turned_below : List ℕ → PlainNode → PlainNode
turned_below [] node = turned_node node
turned_below (k ∷ path) node = record node { inner = give_way (edit_below toggled path) k node.inner }

-- the turn below a node gives that one node
turns_one : (path : List ℕ) (node : PlainNode) → edit_below toggled path node ≡ turned_below path node ∷ []
turns_one [] node = refl
turns_one (k ∷ path) node = refl

-- where an item gives way to one item, that one is found at its number
gives_one : (change : PlainNode → List PlainNode) (one : PlainNode → PlainNode) → ((node : PlainNode) → change node ≡ one node ∷ [])
    → (k : ℕ) (items : Forest) → slice_get (nodes (give_way change k items)) k ≡ option_map one (slice_get (nodes items) k)
gives_one change one same k Forest.nil = refl
gives_one change one same zero (Forest.cons label inner rest) = rw (same record { label = label; inner = inner }) refl
gives_one change one same (suc k) (Forest.cons label inner rest) = gives_one change one same k rest

-- the same choice of two on both sides
unless_elided : (b : Bool) (one other : Option PlainNode) → one ≡ option_map turned_node other
    → (if b then None else one) ≡ option_map turned_node (if b then None else other)
unless_elided true one other same = refl
unless_elided false one other same = same

-- what is found among inner nodes, after the turn there
seen_among : (path : List ℕ)
    → ((node : PlainNode) → visible_below (turned_below path node) path ≡ option_map turned_node (visible_below node path))
    → (found : Option PlainNode)
    → option_and_then (λ item. visible_below item path) (option_map (turned_below path) found)
    ≡ option_map turned_node (option_and_then (λ item. visible_below item path) found)
seen_among path each None = refl
seen_among path each (Some item) = each item

-- the visible node at a path below a node, after the turn there
seen_below : (path : List ℕ) (node : PlainNode) → visible_below (turned_below path node) path ≡ option_map turned_node (visible_below node path)
seen_below [] node = refl
seen_below (k ∷ path) node =
    unless_elided node.label.elided
    (option_and_then (λ item. visible_below item path) (slice_get (nodes (give_way (edit_below toggled path) k node.inner)) k))
    (option_and_then (λ item. visible_below item path) (slice_get (nodes node.inner) k))
    (ap (option_and_then (λ item. visible_below item path)) (gives_one (edit_below toggled path) (turned_below path) (turns_one path) k node.inner)
    ∙ seen_among path (seen_below path) (slice_get (nodes node.inner) k))

-- the visible node at a path, after the turn there
seen_at : (items : Forest) (path : List ℕ) → visible_at (edit_at toggled path items) path ≡ option_map turned_node (visible_at items path)
seen_at items [] = refl
seen_at items (k ∷ path) =
    ap (option_and_then (λ item. visible_below item path)) (gives_one (edit_below toggled path) (turned_below path) (turns_one path) k items)
    ∙ seen_among path (seen_below path) (slice_get (nodes items) k)

-- a turned node is of its kind
kind_kept : (part : Option ℕ) (node : PlainNode) (b : Bool)
    → MayStand part node.label.kind
    → MayStand part (if b then record node { label = record node.label { elided = not node.label.elided } } else node).label.kind
kind_kept part node true may = may
kind_kept part node false may = may

stands_on : (part : Option ℕ) (found : Option PlainNode) → IsSomeAnd found (λ node. MayStand part node.label.kind)
    → IsSomeAnd (option_map turned_node found) (λ node. MayStand part node.label.kind)
stands_on part None stands = stands
stands_on part (Some node) stands = kind_kept part node (is_comment node.label.kind) stands

-- a stop at a comment stays one after the turn
pub turned_stop : (items : Forest) (stop : PlainStop) → IsStop items stop → IsStop (edit_at toggled stop.path items) stop
turned_stop items stop stands =
    subst (λ found. IsSomeAnd found (λ node. MayStand stop.part node.label.kind)) (sym (seen_at items stop.path))
    (stands_on stop.part (visible_at items stop.path) stands)

-- where the cursor is at a comment, what comes of turning it comes of the command
pub comment_turned : (s : PlainSession) (P : KeyOutcome → Type 0) → is_at_comment s.tree s.stop ≡ true
    → P (line_acceptance_outcome (record s { tree = with_toggled_at s.stop.path s.tree })) → P (comment_toggled s)
comment_turned s P at h = by (is_at_comment s.tree s.stop) at (line_acceptance_outcome (record s { tree = with_toggled_at s.stop.path s.tree })) h
  where
    by : (at : Bool) → at ≡ true → (outcome : KeyOutcome) → P outcome → P (if at then outcome else refusal_outcome s why.NotHere)
    by true is outcome h = h
    by false is outcome h = absurd (cc)
