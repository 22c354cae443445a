-- Another node stands at the path where the lent one was written to: the same with its part set, which is the edit, or
-- the very same one where the part was refused, and then the tree is as before.
use Rattle.std.specs.Prelude.{refl}
use Rattle.std.proofs.Common.{ap, sym, ◌∙◌, subst}
use Rattle.std.proofs.Math.Bool.{false≢true}
use Rattle.template_tree.specs.declared.change.What.{What}
use Rattle.template_tree.specs.Programs.PlainPhrasePlace.{plain_phrase_place}
use Rattle.template_tree.specs.Programs.PlainTree.{PlainNode, PlainTree}
use Rattle.template_tree.specs.Positions.Path.{node_at}
use Rattle.template_tree.specs.Edits.Receipt.{PlainUndoing}
use Rattle.template_tree.specs.Programs.Tree.{IsTree}
use Rattle.template_tree.specs.Edits.TreeEdit.{TreeEdit}
use Rattle.template_tree.specs.Edits.EditAnswer.{TakesAtStop}
use Rattle.template_tree.specs.Edits.Lend.{with_node}
use Rattle.template_tree.proofs.Edits.Procedures.{on_the_way}
use Rattle.template_tree.proofs.Puts.PutEdits.{edits_at}
use Rattle.template_tree.proofs.Parts.KeptTrees.{part_keeps_tree}
use Rattle.template_tree.proofs.Parts.PartEdits.{with_node_same, part_edit, part_is, part_stop}
use Rattle.template_tree.proofs.tree.Tree.set_phrase.Goals as goal

pub procedure_at-procedure-requires : goal.procedure_at-procedure-requires
procedure_at-procedure-requires c = on_the_way c.args.self.now.items c.args.stop.now.path.items _ (sym c.in-Some-node.ensures.found)

pub returns-then-is_assignment-clause-unchanged : goal.returns-then-is_assignment-clause-unchanged
returns-then-is_assignment-clause-unchanged c =
    (refl, with_node_same c.args.self.now c.args.stop.now.path.items c.in-Some-node_mut.node.now (sym c.in-Some-node_mut.ensures.found))

pub returns-in-Err-clause-unchanged : goal.returns-in-Err-clause-unchanged
returns-in-Err-clause-unchanged c = (
  c.in-Err.ensures.refused.0,
  ap (with_node c.args.self.now c.args.stop.now.path.items) c.in-Err.ensures.refused.1
      ∙ with_node_same c.args.self.now c.args.stop.now.path.items c.in-Some-node_mut.node.now (sym c.in-Some-node_mut.ensures.found),
)

pub returns-clause-edited : goal.returns-clause-edited
returns-clause-edited c =
    let node = c.in-Some-node_mut.node.now in
    let there = sym c.in-Some-node_mut.ensures.found in
    let takes = c.in-Ok.ensures.fits.0 refl in
    let kind = ap (λ (n : PlainNode). n.label.kind) c.node-2.view_is in
    let drawn = ap (λ (t : PlainTree). t.drawn) c.self.view_is in
    let live = ap (λ (t : PlainTree). t.live) c.self.view_is in
    rw c.in-Some.is
    (edits_at (TreeEdit.set_part c.in-Some.part (plain_phrase_place c.args.place)) (node_at c.args.self.now.items c.args.stop.now.path.items)
    (TakesAtStop c.in-Some.part (plain_phrase_place c.args.place)) _ _ _ node there
    (part_stop node.label.kind c.in-Some.part (plain_phrase_place c.args.place) (λ is. false≢true (sym c.if-is_assignment.false ∙ c.is_assignment.ensures.1 (kind ∙ is))) takes, takes)
    (part_edit c.args.self.now c.args.stop.now.path.items node c.in-Some.part (plain_phrase_place c.args.place) (plain_phrase_place c.in-Ok.old) _
    c.node-2.inside.slot c.procedure_at-procedure.result _ c.requires.tree there takes c.requires.phrase c.in-Ok.ensures.set.0
    (ap (with_node c.args.self.now c.args.stop.now.path.items) c.in-Ok.ensures.set.1) (ap (λ (n : PlainNode). n.label.slot) c.node-2.view_is)
    c.procedure_at-procedure.ensures
    (λ i. record {
      change = record { slot = c.node-2.inside.slot; procedure = c.procedure_at-procedure.result; what = What.Part c.in-Some.part };
      path = c.copy_path.ensures i;
      undoing = PlainUndoing.set_part c.in-Some.part (plain_phrase_place c.in-Ok.old);
      drawn = drawn i;
      live = live i;
    })))

pub returns-clause-tree : goal.returns-clause-tree
returns-clause-tree c =
    let node = c.in-Some-node_mut.node.now in
    subst IsTree
    (sym (ap (with_node c.args.self.now c.args.stop.now.path.items) c.in-Ok.ensures.set.1
    ∙ part_is c.args.self.now c.args.stop.now.path.items node c.in-Some.part (plain_phrase_place c.args.place) c.requires.tree
    (sym c.in-Some-node_mut.ensures.found) (c.in-Ok.ensures.fits.0 refl) c.requires.phrase))
    (part_keeps_tree c.args.self.now c.args.stop.now.path.items node c.in-Some.part (plain_phrase_place c.args.place) c.requires.tree
    (sym c.in-Some-node_mut.ensures.found) (c.in-Ok.ensures.fits.0 refl) c.requires.phrase).0

pub returns-in-Err-clause-tree : goal.returns-in-Err-clause-tree
returns-in-Err-clause-tree c = subst IsTree (sym (returns-in-Err-clause-unchanged c).1) c.requires.tree

pub returns-then-is_assignment-clause-tree : goal.returns-then-is_assignment-clause-tree
returns-then-is_assignment-clause-tree c = subst IsTree (sym (returns-then-is_assignment-clause-unchanged c).1) c.requires.tree
