use Rattle.std.specs.Prelude.{◌≡◌, refl, Some}
use Rattle.std.proofs.Common.{ap, sym, ◌∙◌, subst}
use Rattle.template_tree.specs.Positions.Path.{node_at}
use Rattle.template_tree.specs.Edits.Hole.{hole_left, lone}
use Rattle.template_tree.specs.Programs.PlainTree.{PlainNode, PlainTree}
use Rattle.template_tree.specs.Edits.EditAnswer.{IsEdit}
use Rattle.template_tree.specs.Edits.TreeEdit.{TreeEdit}
use Rattle.template_tree.specs.Edits.Receipt.{PlainUndoing}
use Rattle.template_tree.specs.Private.Exchange.{MayReplace}
use Rattle.template_tree.proofs.Edits.SameEdits.{taken}
use Rattle.template_tree.proofs.Puts.PutEdits.{at_there, edit_like, put_receipt}
use Rattle.template_tree.proofs.Puts.Holes.{hole_may_replace, bare_is, taken_out}
use Rattle.template_tree.proofs.tree.Tree.take.Goals as goal

pub exchange-node-requires : goal.exchange-node-requires
exchange-node-requires c =
    let there = sym c.in-Some.ensures.found in
    let left : hole_left c.in-Some.there.now.label.kind ≡ Some c.in-Some-hole_left.kind =
    ap (λ (n : PlainNode). hole_left n.label.kind) (sym c.there.view_is) ∙ (sym c.hole_left.ensures ∙ c.in-Some-hole_left.is)
    in
    record {
      tree = c.requires.tree;
      fits =
          at_there (node_at c.args.self.now.items c.args.path.now.items) (MayReplace c.args.self.now c.bare-hole.result) c.in-Some.there.now there
          (hole_may_replace c.args.self.now c.args.path.now.items c.in-Some.there.now c.bare-hole.result c.in-Some-hole_left.kind c.requires.tree there left
          c.bare-hole.ensures);
    }

pub returns-clause-edited : goal.returns-clause-edited
returns-clause-edited c =
    let tree = c.args.self.now in
    let path = c.args.path.now.items in
    let there = sym c.in-Some.ensures.found in
    let left : hole_left c.in-Some.there.now.label.kind ≡ Some c.in-Some-hole_left.kind =
    ap (λ (n : PlainNode). hole_left n.label.kind) (sym c.there.view_is) ∙ (sym c.hole_left.ensures ∙ c.in-Some-hole_left.is)
    in
    let node : c.in-Some.there.now ≡ c.exchange-node.result.0 = ap (taken c.in-Some.there.now) (sym there ∙ c.exchange-node.ensures.old) in
    let may : MayReplace tree c.bare-hole.result c.exchange-node.result.0 =
    subst (MayReplace tree c.bare-hole.result) node
    (hole_may_replace tree path c.in-Some.there.now c.bare-hole.result c.in-Some-hole_left.kind c.requires.tree there left c.bare-hole.ensures) in
    let drawn = ap (λ (t : PlainTree). t.drawn) c.self.view_is in
    let live = ap (λ (t : PlainTree). t.live) c.self.view_is in
    let edit : IsEdit (TreeEdit.put (lone 0 c.in-Some-hole_left.kind)) c.exchange-node.result.0.label.slot tree c.exchange-node.new.self _ (Some c.exchange-node.result.0) =
    edit_like c.bare-hole.result (lone 0 c.in-Some-hole_left.kind) c.exchange-node.result.0.label.slot tree c.exchange-node.new.self _
    (Some c.exchange-node.result.0) (bare_is c.bare-hole.result 0 c.in-Some-hole_left.kind c.bare-hole.ensures)
    (put_receipt tree path c.exchange-node.result.0 c.bare-hole.result c.exchange-node.new.self c.exchange-node.result.1
    PlainUndoing.put_back (Some c.exchange-node.result.0) _ c.requires.tree c.exchange-node.ensures.old may c.exchange-node.ensures.put
    c.exchange-node.ensures.change refl refl (refl, refl) refl (λ _. tt)
    (λ i. record { change = c.exchange-node.result.1; path = c.copy_path.ensures i; undoing = PlainUndoing.put_back; drawn = drawn i; live = live i }))
    in
    let own : hole_left c.exchange-node.result.0.label.kind ≡ Some c.in-Some-hole_left.kind =
    ap (λ (n : PlainNode). hole_left n.label.kind) (sym node) ∙ left
    in
    taken_out c.exchange-node.result.0 c.in-Some-hole_left.kind tree c.exchange-node.new.self _ own edit

pub returns-clause-tree : goal.returns-clause-tree
returns-clause-tree c = (returns-clause-edited c).is_edit.tree
