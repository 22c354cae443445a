-- accept_edit, undo_edit: the stop of a tree that is noted before an edit stands in it as it is kept, and as it comes
-- back.
use Rattle.std.proofs.Common.{◌≡◌, ℕ, zero, suc, Bool, true, false, if◌then◌else◌, List, [], ◌∷◌, Option, Some, None, option_map, slice_get, refl, sym, subst}
use Rattle.std.specs.Prelude.{IsSomeAnd, option_and_then}
use Rattle.std.proofs.lemmas.Option.{none-some, same_Some}
use Rattle.plcs_grammar.specs.declared.node_kind.NodeKind.{NodeKind}
use Rattle.template_tree.specs.Edits.Edit.{whole}
use Rattle.template_tree.specs.Edits.Reversal.{Back, with_elision_of}
use Rattle.template_tree.specs.Positions.Path.{below, node_at}
use Rattle.template_tree.specs.Positions.Stop.{IsStop, MayStand, PlainStop, visible_at, visible_below}
use Rattle.template_tree.specs.Programs.PlainTree.{Forest, PlainNode, PlainTree, nodes}
use Rattle.edit_undo.specs.EarlierTree.{EarlierTree, as_kept}
use Rattle.synth_session.specs.SessionView.{HasStop}

-- ---- a visible node is there

shown_if : (b : Bool) (found : Option PlainNode) (node : PlainNode) → (if b then None else found) ≡ Some node → found ≡ Some node
shown_if true found node e = absurd (none-some node e)
shown_if false found node e = e

then_there : (path : List ℕ) (node : PlainNode) → ((item : PlainNode) → visible_below item path ≡ Some node → below item path ≡ Some node)
    → (there : Option PlainNode) → option_and_then (λ item. visible_below item path) there ≡ Some node
    → option_and_then (λ item. below item path) there ≡ Some node
then_there path node within None e = absurd (none-some node e)
then_there path node within (Some item) e = within item e

visible_within : (path : List ℕ) (node item : PlainNode) → visible_below item path ≡ Some node → below item path ≡ Some node
visible_within [] node item e = e
visible_within (k ∷ path) node item e =
    then_there path node (visible_within path node) (slice_get (nodes item.inner) k)
    (shown_if item.label.elided (option_and_then (λ inner. visible_below inner path) (slice_get (nodes item.inner) k)) node e)

pub visible_there : (items : Forest) (path : List ℕ) (node : PlainNode) → visible_at items path ≡ Some node → node_at items path ≡ Some node
visible_there items [] node e = absurd (none-some node e)
visible_there items (k ∷ path) node e = then_there path node (visible_within path node) (slice_get (nodes items) k) e

-- ---- what stands at a path, whatever is elided

abbrev pub kind_of : PlainNode → NodeKind
kind_of node = node.label.kind

kind_at : (now items : Forest) (path : List ℕ)
    → option_map kind_of (node_at (with_elision_of now items) path) ≡ option_map kind_of (node_at items path)
kind_at now items [] = refl
kind_at now Forest.nil (k ∷ path) = refl
kind_at now (Forest.cons label inner rest) (zero ∷ []) = refl
kind_at now (Forest.cons label inner rest) (zero ∷ (j ∷ path)) = kind_at now inner (j ∷ path)
kind_at now (Forest.cons label inner rest) (suc k ∷ path) = kind_at now rest (k ∷ path)

pub stands_as : (part : Option ℕ) (one other : Option PlainNode) → option_map kind_of one ≡ option_map kind_of other
    → IsSomeAnd other (λ node. MayStand part node.label.kind) → IsSomeAnd one (λ node. MayStand part node.label.kind)
stands_as part one None same stands = absurd stands
stands_as part None (Some node) same stands = absurd (none-some (kind_of node) same)
stands_as part (Some other) (Some node) same stands = subst (MayStand part) (sym (same_Some (kind_of other) (kind_of node) same)) stands

-- a stop stands in a tree, shown or hidden
abbrev pub StandsIn : Forest → PlainStop → Type 0
StandsIn items stop = IsSomeAnd (node_at items stop.path) (λ node. MayStand stop.part node.label.kind)

visible_stands : (items : Forest) (stop : PlainStop) (there : Option PlainNode) → visible_at items stop.path ≡ there
    → IsSomeAnd there (λ node. MayStand stop.part node.label.kind) → StandsIn items stop
visible_stands items stop None e stands = absurd stands
visible_stands items stop (Some node) e stands =
    subst (λ (o : Option PlainNode). IsSomeAnd o (λ item. MayStand stop.part item.label.kind)) (sym (visible_there items stop.path node e)) stands

-- the stop of the tree before an edit stands in it as it is kept
pub kept_stop : (now before : PlainTree) (stop : PlainStop) → IsStop before.items stop → StandsIn (as_kept now before).items stop
kept_stop now before stop is =
    stands_as stop.part (node_at (as_kept now before).items stop.path) (node_at before.items stop.path)
    (kind_at (whole now.items) before.items stop.path) (visible_stands before.items stop (visible_at before.items stop.path) refl is)

-- and in it once it comes back
pub back_stop : (now : PlainTree) (latest : EarlierTree) → HasStop latest → StandsIn (Back now latest.tree).items latest.stop
back_stop now latest stands =
    stands_as latest.stop.part (node_at (Back now latest.tree).items latest.stop.path) (node_at latest.tree.items latest.stop.path)
    (kind_at now.items latest.tree.items latest.stop.path) stands
