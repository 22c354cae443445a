use Rattle.std.specs.Prelude.{◌≡◌, suc, length, None}
use Rattle.std.proofs.Common.{ap, sym, ◌∙◌, subst, arith}
use Rattle.std.proofs.lemmas.Bool.{false≢true}
use Rattle.template_tree.specs.Edits.EditAnswer.{IsListItem, Refuses}
use Rattle.template_tree.specs.Positions.Path.{node_at}
use Rattle.template_tree.specs.Programs.PlainTree.{PlainTree}
use Rattle.template_tree.specs.Programs.Tree.{IsTree}
use Rattle.template_tree.specs.Edits.TreeEdit.{TreeEdit}
use Rattle.template_tree.specs.Positions.Stop.{node_stop}
use Rattle.session_edit.specs.Private.ShownPath.{IsShown}
use Rattle.session_edit.proofs.BesideCommands.{added_small, answer_outer, beside_applied, beside_refused, one_longer, outer_shown}
use Rattle.session_edit.proofs.beside.+add_beside.Goals as goal

pub added_path-requires : goal.added_path-requires
added_path-requires t c =
    record { small = added_small c.args.tree.now c.add_hole.new.self c.args.side c.args.path.items c.in-Ok.receipt c.requires.tree c.in-Ok.ensures.edited }

pub returns-in-Ok : goal.returns-in-Ok
returns-in-Ok t c =
    beside_applied c.room_laws.ensures c.slot_edit_is_path_edit.ensures c.args.tree.now c.add_hole.new.self c.args.side c.args.path.items c.in-Ok.receipt
    record { path = c.added_path.result; part = None } c.requires.tree c.requires.seen c.in-Ok.ensures.edited (ap node_stop c.added_path.ensures)

pub returns-then-not-is_not_here : goal.returns-then-not-is_not_here
returns-then-not-is_not_here t c = (
  beside_refused c.room_laws.ensures c.args.tree.now c.args.side c.args.path.items c.in-Err.fault c.in-Err.ensures.refused
      (λ e. false≢true (sym c.if-not-is_not_here.true ∙ c.is_not_here.ensures.1 e)),
  c.in-Err.ensures.unchanged,
)

pub add_beside-requires : goal.add_beside-requires
add_beside-requires t c =
    let same = c.in-Err.ensures.unchanged in
    let longer : length c.args.path.items ≡ suc (length c.pop.new.self.items) =
    ap length c.in-Some.ensures.items ∙ one_longer c.pop.new.self.items c.in-Some.field-0
    in (
      omega (arith, longer),
      (
        subst IsTree (sym same) c.requires.tree,
        subst (λ (tree : PlainTree). IsShown tree.items c.pop.new.self.items) (sym same)
            (outer_shown c.args.tree.now.items c.args.path.items c.pop.new.self.items c.in-Some.field-0 c.in-Some.ensures.items c.requires.seen),
      ),
    )

pub returns-in-Some : goal.returns-in-Some
returns-in-Some t c =
    answer_outer c.room_laws.ensures c.args.tree.now c.add_hole.new.self c.add_beside.new.tree c.args.side c.args.path.items c.pop.new.self.items c.in-Some.field-0
    c.add_beside.result c.in-Err.ensures.unchanged c.in-Some.ensures.items
    (subst (λ fault. Refuses (TreeEdit.add c.args.side) (node_at c.args.tree.now.items c.args.path.items) (IsListItem c.args.tree.now.items c.args.path.items) c.args.tree.now fault)
    (c.is_not_here.ensures.0 c.if-not-is_not_here.false) c.in-Err.ensures.refused)
    c.add_beside.ensures
