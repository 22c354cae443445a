use Rattle.std.specs.Prelude.{◌≡◌, ◌⊎◌, None}
use Rattle.std.proofs.Common.{ap, sym, subst}
use Rattle.plcs_grammar.specs.declared.node_kind.NodeKind.{NodeKind}
use Rattle.plcs_grammar.specs.PlainPhrase.{plain_phrase}
use Rattle.template_tree.specs.Programs.PlainTree.{PlainNode}
use Rattle.template_tree.specs.Positions.Path.{node_at}
use Rattle.template_tree.specs.Edits.FreshNode.{assignment_node}
use Rattle.template_tree.specs.Edits.Edit.{Put}
use Rattle.template_tree.specs.Edits.EditAnswer.{IsWithin, TakesAssignment, slot_in}
use Rattle.template_tree.specs.Private.Exchange.{MayReplace}
use Rattle.template_tree.proofs.Puts.PutEdits.{at_there, edit_like}
use Rattle.template_tree.proofs.Room.RoomlessEdits.{same_roomless}
use Rattle.template_tree.proofs.Puts.Assignments.{assignment_may_replace, assignment_within}
use Rattle.template_tree.proofs.tree.Tree.fill_assign.Goals as goal

pub put-requires-clause-fits : goal.put-requires-clause-fits
put-requires-clause-fits c =
    let at = sym c.in-Some.ensures.found in
    let takes : TakesAssignment (plain_phrase c.args.phrase) c.in-Some.there.now = (
      subst (λ kind. (kind ≡ NodeKind.StatementHole) ⊎ (kind ≡ NodeKind.Assign)) (ap (λ (n : PlainNode). n.label.kind) c.there.view_is)
          (c.takes_assignments.ensures.0 c.if-not-takes_assignments.false),
      c.is_assignment_phrase.ensures.0 c.if-not-is_assignment_phrase.false,
    ) in
    at_there (node_at c.args.self.now.items c.args.path.now.items) (MayReplace c.args.self.now c.in-Ok.node) c.in-Some.there.now at
    (assignment_may_replace c.args.self.now c.args.path.now.items c.in-Some.there.now c.in-Ok.node (plain_phrase c.args.phrase)
    c.requires.tree at takes c.requires.phrase c.in-Ok.ensures.assignment)

pub returns-in-Ok-clause-edited : goal.returns-in-Ok-clause-edited
returns-in-Ok-clause-edited c =
    let at = sym c.in-Some.ensures.found in
    let new = assignment_node (plain_phrase c.args.phrase) in
    let takes : TakesAssignment (plain_phrase c.args.phrase) c.in-Some.there.now = (
      subst (λ kind. (kind ≡ NodeKind.StatementHole) ⊎ (kind ≡ NodeKind.Assign)) (ap (λ (n : PlainNode). n.label.kind) c.there.view_is)
          (c.takes_assignments.ensures.0 c.if-not-takes_assignments.false),
      c.is_assignment_phrase.ensures.0 c.if-not-is_assignment_phrase.false,
    ) in
    let there = node_at c.args.self.now.items c.args.path.now.items in
    record {
      here = at_there there (TakesAssignment (plain_phrase c.args.phrase)) c.in-Some.there.now at takes;
      is_edit =
          edit_like c.in-Ok.node new (slot_in there) c.args.self.now c.put.new.self c.put.result None
          (same_roomless c.in-Ok.node new c.in-Ok.ensures.assignment) c.put.ensures.edit;
    }

pub returns-in-Ok-clause-tree : goal.returns-in-Ok-clause-tree
returns-in-Ok-clause-tree c = c.put.ensures.edit.tree

pub returns-in-Err-clause-refused : goal.returns-in-Err-clause-refused
returns-in-Err-clause-refused c =
    let at = sym c.in-Some.ensures.found in
    let takes : TakesAssignment (plain_phrase c.args.phrase) c.in-Some.there.now = (
      subst (λ kind. (kind ≡ NodeKind.StatementHole) ⊎ (kind ≡ NodeKind.Assign)) (ap (λ (n : PlainNode). n.label.kind) c.there.view_is)
          (c.takes_assignments.ensures.0 c.if-not-takes_assignments.false),
      c.is_assignment_phrase.ensures.0 c.if-not-is_assignment_phrase.false,
    ) in
    at_there (node_at c.args.self.now.items c.args.path.now.items)
    (λ node. TakesAssignment (plain_phrase c.args.phrase) node × IsWithin (Put c.args.self.now node.label.slot (assignment_node (plain_phrase c.args.phrase))))
    c.in-Some.there.now at (takes, assignment_within c.args.self.now c.args.path.now.items c.in-Some.there.now (plain_phrase c.args.phrase) c.requires.tree at)
