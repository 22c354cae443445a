-- The pieces that the calls find make the table that of the program after the edit, and so what is gathered as due and as gone
-- is so. The names' mirror is mended where the edit says.
use Rattle.std.specs.Prelude.{ℕ, ◌||◌, nat_lt, length, List}
use Rattle.std.specs.Option.{option_copied}
use Rattle.std.proofs.Common.{◌∙◌, ap}
use Rattle.decl_table.specs.DeclEdit.{IsDeclsAfter, PlainDeclEdit}
use Rattle.decl_table.specs.PlainDecls.{PlainDecls}
use Rattle.decl_table.specs.Private.DeclEditView.{pieces_edit}
use Rattle.decl_table.specs.Private.ItemChangeView.{procedure_left}
use Rattle.decl_table.specs.Private.ReachView.{names_bind, reach_of}
use Rattle.decl_table.proofs.DueEdits.{due_edited}
use Rattle.decl_table.proofs.EditPieces.{pieces_after}
use Rattle.decl_table.proofs.FoundEdits.{gone_found, new_few, old_few}
use Rattle.decl_table.proofs.decls.Decls.find_pieces.Goals as goal

pub find_changed-requires-clause-ordered : goal.find_changed-requires-clause-ordered
find_changed-requires-clause-ordered c = λ name. (c.requires.before.1.decls_are.uses_are name).increasing

pub find_changed-requires-clause-went : goal.find_changed-requires-clause-went
find_changed-requires-clause-went c =
    let b = c.requires.before in
    let inner = ap (λ (d : PlainDecls). d.names) c.self.view_is in
    λ none.
    old_few c.args.self.now c.args.change.now b.0 c.args.tree.now c.requires.tree b.1 c.args.names.now
    (c.requires.edit b.0 b.1.tree b.1.decls_are.names_are b.1.differs) c.self.inside.names inner c.old.result c.old.ensures

pub find_changed-requires-clause-came : goal.find_changed-requires-clause-came
find_changed-requires-clause-came c =
    let b = c.requires.before in
    λ none.
    new_few c.args.self.now c.args.change.now b.0 c.args.tree.now c.requires.tree b.1 c.args.names.now
    (c.requires.edit b.0 b.1.tree b.1.decls_are.names_are b.1.differs) c.new.result c.new.ensures c.part_set.result c.part_set.ensures none

pub returns-clause-after : goal.returns-clause-after
returns-clause-after c =
    let pieces = c.find_changed.new.pieces in
    let is = c.in-Ok.ensures in
    let inner = ap (λ (d : PlainDecls). d.names) c.self.view_is in
    let first : PlainDeclEdit = pieces_edit pieces c.args.names.now in
    λ before b.
    pieces_after c.slot_edit_is_path_edit.ensures c.room_is_not_shown.ensures.nodes c.room_is_not_shown.ensures.slots c.args.self.now first
    c.self.inside.names inner c.args.change.now before c.args.tree.now c.requires.tree b
    (c.requires.edit before b.tree b.decls_are.names_are b.differs) c.part_set.result (option_copied c.old.result)
    (option_copied c.new.result) is.uses.gone is.uses.came c.of-reach.result (option_copied c.procedure_after-procedure.result)
    c.part_set.ensures c.old.ensures c.new.ensures
    (c.of-reach.ensures
    ∙ ap
    (λ (p : List ℕ).
    reach_of (nat_lt 1 (length p)) (names_bind (option_copied c.old.result) || names_bind (option_copied c.new.result)) c.part_set.result)
    (c.deref.ensures.0 ∙ c.path.ensures))
    (c.procedure_after-procedure.ensures.procedure
    ∙ ap (λ (p : List ℕ). procedure_left c.args.change.now.what p c.args.tree.now.items) (c.deref-2.ensures.0 ∙ c.path-2.ensures))
    c.requires.after
    is.uses.gone_is is.uses.came_is
    is.uses.each
    is.items
    is.none is.right is.noted

pub returns-clause-due : goal.returns-clause-due
returns-clause-due c =
    let pieces = c.find_changed.new.pieces in
    let is = c.in-Ok.ensures in
    let inner = ap (λ (d : PlainDecls). d.names) c.self.view_is in
    λ before b.
    let of = c.requires.edit before b.tree b.decls_are.names_are b.differs in
    let reach_is =
    c.of-reach.ensures
    ∙ ap
    (λ (p : List ℕ).
    reach_of (nat_lt 1 (length p)) (names_bind (option_copied c.old.result) || names_bind (option_copied c.new.result)) c.part_set.result)
    (c.deref.ensures.0 ∙ c.path.ensures) in
    let procedure_is =
    c.procedure_after-procedure.ensures.procedure
    ∙ ap (λ (p : List ℕ). procedure_left c.args.change.now.what p c.args.tree.now.items) (c.deref-2.ensures.0 ∙ c.path-2.ensures) in
    let first : PlainDeclEdit = pieces_edit pieces c.args.names.now in
    let after : IsDeclsAfter c.args.self.now first c.args.tree.now.items =
    pieces_after c.slot_edit_is_path_edit.ensures c.room_is_not_shown.ensures.nodes c.room_is_not_shown.ensures.slots c.args.self.now first
    c.self.inside.names inner c.args.change.now before c.args.tree.now c.requires.tree b of c.part_set.result (option_copied c.old.result)
    (option_copied c.new.result) is.uses.gone is.uses.came c.of-reach.result (option_copied c.procedure_after-procedure.result)
    c.part_set.ensures c.old.ensures c.new.ensures reach_is procedure_is
    c.requires.after
    is.uses.gone_is is.uses.came_is
    is.uses.each
    is.items is.none is.right is.noted in
    due_edited c.slot_edit_is_path_edit.ensures c.room_is_not_shown.ensures.nodes c.room_is_not_shown.ensures.slots
    c.checks_ignore_room_and_elision.ensures.room c.args.self.now c.args.names.now pieces.uses.uses c.self.inside.names inner
    c.args.change.now before c.args.tree.now c.requires.tree b of c.part_set.result (option_copied c.old.result) (option_copied c.new.result)
    c.part_set.ensures c.old.ensures c.new.ensures c.of-reach.result (option_copied c.procedure_after-procedure.result) reach_is procedure_is
    pieces.items pieces.table.items is.items is.only
    after.uses_are pieces.due is.due

pub returns-clause-gone : goal.returns-clause-gone
returns-clause-gone c =
    let pieces = c.find_changed.new.pieces in
    let is = c.in-Ok.ensures in
    let inner = ap (λ (d : PlainDecls). d.names) c.self.view_is in
    λ before b.
    gone_found c.args.self.now c.args.change.now before c.args.tree.now c.requires.tree b c.args.names.now
    (c.requires.edit before b.tree b.decls_are.names_are b.differs) c.slot_edit_is_path_edit.ensures c.self.inside.names inner
    c.part_set.result (option_copied c.old.result) c.part_set.ensures c.old.ensures pieces.gone is.gone
