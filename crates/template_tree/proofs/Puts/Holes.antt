-- Holes have the sort of what may stand there, no parts, and nothing inside.
use Rattle.std.specs.Prelude.{◌≡◌, refl, ℕ, ◌&&◌, Bool, true, false, if◌then◌else◌, List, [], ◌∷◌, Option, Some, None, is_some, unwrap_or}
use Rattle.std.proofs.Common.{ap, sym, ◌∙◌, subst, arith}
use Rattle.std.proofs.Math.Bool.{false≢true}
use Rattle.std.proofs.lemmas.Option.{none-some}
use Rattle.plcs_grammar.specs.declared.node_kind.NodeKind.{NodeKind}
use Rattle.plcs_grammar.specs.declared.node_kind.Sort.{Sort}
use Rattle.plcs_grammar.specs.Template.{row_of}
use Rattle.template_tree.specs.Programs.PlainTree.{Forest, PlainNode, PlainTree, forest, roomless_node, with_spare}
use Rattle.template_tree.specs.Programs.NewTree.{bare_label}
use Rattle.template_tree.specs.Positions.Path.{node_at}
use Rattle.template_tree.specs.Programs.Program.{Fill, IsSubtree, sorts, sort_of}
use Rattle.template_tree.specs.Programs.Slots.{count, depth}
use Rattle.template_tree.specs.Programs.Tree.{IsTree}
use Rattle.template_tree.specs.Edits.Elision.{is_comment}
use Rattle.template_tree.specs.Edits.Hole.{hole_left, hole_of, is_hole, lone}
use Rattle.template_tree.specs.Edits.TreeEdit.{TreeEdit}
use Rattle.template_tree.specs.Edits.Receipt.{PlainReceipt}
use Rattle.template_tree.specs.Edits.EditAnswer.{IsEdit, TakesOut}
use Rattle.template_tree.specs.Private.Exchange.{MayReplace}
use Rattle.template_tree.proofs.Room.Rooms.{sorts_roomless, nodes_roomless}
use Rattle.template_tree.proofs.Puts.PutLimits.{path_short, put_within}

-- the kind that is there, or else this one
abbrev taken : NodeKind → Option NodeKind → NodeKind
taken kind None = kind
taken kind (Some there) = there

-- what holds of the three holes holds of each
each_hole : (Holds : Sort → NodeKind → Type 0) → Holds Sort.Procedure NodeKind.ProcedureHole → Holds Sort.Declaration NodeKind.DeclarationHole
    → Holds Sort.Statement NodeKind.StatementHole → (sort : Sort) (kind : NodeKind) → hole_of sort ≡ Some kind → Holds sort kind
each_hole Holds p d s Sort.Main kind e = absurd (none-some kind e)
each_hole Holds p d s Sort.Procedure kind e = subst (Holds Sort.Procedure) (ap (taken kind) e) p
each_hole Holds p d s Sort.Declaration kind e = subst (Holds Sort.Declaration) (ap (taken kind) e) d
each_hole Holds p d s Sort.Statement kind e = subst (Holds Sort.Statement) (ap (taken kind) e) s

pub hole_sort : (sort : Sort) (kind : NodeKind) → hole_of sort ≡ Some kind → sort_of kind ≡ sort
hole_sort sort kind e = each_hole (λ s k. sort_of k ≡ s) refl refl refl sort kind e

pub hole_subtree : (slot : ℕ) (sort : Sort) (kind : NodeKind) → hole_of sort ≡ Some kind → IsSubtree (lone slot kind)
hole_subtree slot sort kind e =
    each_hole (λ s k. IsSubtree (lone slot k)) (record { parts = tt; inner = refl; elision = λ h. absurd (false≢true h) }, tt)
    (record { parts = tt; inner = refl; elision = λ h. absurd (false≢true h) }, tt)
    (record { parts = tt; inner = refl; elision = λ h. absurd (false≢true h) }, tt) sort kind e

-- a list that isn't empty
abbrev IsMore : List Sort → Type 0
IsMore [] = ⊥
IsMore (sort ∷ sorts) = Unit {0}

-- nodes of no sorts are none
no_nodes : (items : Forest) → sorts items ≡ [] → count items ≡ 0
no_nodes Forest.nil e = refl
no_nodes (Forest.cons label inner rest) e = absurd (subst IsMore e tt)

-- a hole is no comment
pub hole_no_comment : (sort : Sort) (kind : NodeKind) → hole_of sort ≡ Some kind → is_comment kind ≡ false
hole_no_comment sort kind e = each_hole (λ s k. is_comment k ≡ false) refl refl refl sort kind e

-- nothing is both where the one isn't
pub not_both_first : (one other : Bool) → one ≡ false → (one && other) ≡ false
not_both_first one other e = ap (λ b. b && other) e

pub not_both_second : (one other : Bool) → other ≡ false → (one && other) ≡ false
not_both_second true other e = e
not_both_second false other e = refl

-- nothing stands inside a hole
pub hole_empty : (sort : Sort) (node : PlainNode) → IsSubtree node → hole_of sort ≡ Some node.label.kind → count node.inner ≡ 0
hole_empty sort node sound e =
    no_nodes node.inner
    (each_hole (λ s k. Fill (row_of k).sections (sorts node.inner) → sorts node.inner ≡ []) (λ h. h) (λ h. h) (λ h. h) sort node.label.kind e sound.0.inner)

-- a node is a subtree whatever room its lists have
pub subtree_with_room : (node : PlainNode) → IsSubtree (roomless_node node) → IsSubtree node
subtree_with_room node h = (
  record {
    parts = h.0.parts;
    inner = subst (λ ss. Fill (row_of node.label.kind).sections ss) (sorts_roomless node.inner) h.0.inner;
    elision = h.0.elision;
  },
  nodes_roomless node.inner h.1,
)

-- what is left is the hole of the sort
hole_is : (b : Bool) (o : Option NodeKind) (hole : NodeKind) → (if b then None else o) ≡ Some hole → o ≡ Some hole
hole_is true o hole e = absurd (none-some hole e)
hole_is false o hole e = e

-- a node with no parts and nothing inside, whatever room it has
pub bare_is : (bare : PlainNode) (slot : ℕ) (kind : NodeKind) → with_spare 0 bare ≡ record { label = bare_label slot kind; inner = forest [] }
    → roomless_node bare ≡ lone slot kind
bare_is bare slot kind e = ap roomless_node e

-- a hole may come where a node is taken out
pub hole_may_replace : (tree : PlainTree) (path : List ℕ) (there bare : PlainNode) (hole : NodeKind) → IsTree tree
    → node_at tree.items path ≡ Some there → hole_left there.label.kind ≡ Some hole
    → with_spare 0 bare ≡ record { label = bare_label 0 hole; inner = forest [] } → MayReplace tree bare there
hole_may_replace tree path there bare hole t at left is =
    let own : hole_of (sort_of there.label.kind) ≡ Some hole =
    hole_is (is_hole there.label.kind) (hole_of (sort_of there.label.kind)) hole left in
    let none : count bare.inner ≡ 0 = ap (λ (n : PlainNode). count n.inner) is in
    let flat : depth bare.inner ≡ 0 = ap (λ (n : PlainNode). depth n.inner) is in
    record {
      subtree = subtree_with_room bare (subst IsSubtree (sym (bare_is bare 0 hole is)) (hole_subtree 0 (sort_of there.label.kind) hole own));
      sort = ap (λ (n : PlainNode). sort_of n.label.kind) is ∙ hole_sort (sort_of there.label.kind) hole own;
      apart =
          not_both_first (is_comment bare.label.kind) (is_comment there.label.kind)
          (ap (λ (n : PlainNode). is_comment n.label.kind) is ∙ hole_no_comment (sort_of there.label.kind) hole own);
      within =
          put_within tree path there bare t at
          (omega (arith, flat, path_short tree.items path there at, t.shallow))
          (omega (arith, none, t.live, t.few)) (omega (arith, none, t.drawn_few));
    }

-- a node was taken out where its hole came
pub taken_out : (node : PlainNode) (hole : NodeKind) (before after : PlainTree) (receipt : PlainReceipt) → hole_left node.label.kind ≡ Some hole
    → IsEdit (TreeEdit.put (lone 0 hole)) node.label.slot before after receipt (Some node) → TakesOut node before after receipt
taken_out node hole before after receipt e is =
    record {
      may_take = ap is_some e;
      is_edit =
          subst (λ o. IsEdit (TreeEdit.put (lone 0 (unwrap_or o node.label.kind))) node.label.slot before after receipt (Some node)) (sym e) is;
    }
