-- The pieces are handed out with the names once they are found.
use Rattle.decl_table.specs.Private.DeclEditView.{pieces_edit}
use Rattle.decl_table.proofs.HandedOut.{handed_out, on_ok}
use Rattle.decl_table.proofs.decls.Decls.pieces_with.Goals as goal

pub returns-clause-after : goal.returns-clause-after
returns-clause-after c =
    λ before b. handed_out c.find_pieces.result c.with_names.result (pieces_edit c.find_pieces.new.pieces c.args.names) c.and.result _ c.with_names.ensures c.and.ensures
    (c.find_pieces.ensures.after before b)

pub returns-clause-due : goal.returns-clause-due
returns-clause-due c =
    λ before b. handed_out c.find_pieces.result c.with_names.result (pieces_edit c.find_pieces.new.pieces c.args.names) c.and.result _ c.with_names.ensures c.and.ensures
    (c.find_pieces.ensures.due before b)

pub returns-clause-gone : goal.returns-clause-gone
returns-clause-gone c =
    λ before b. handed_out c.find_pieces.result c.with_names.result (pieces_edit c.find_pieces.new.pieces c.args.names) c.and.result _ c.with_names.ensures c.and.ensures
    (c.find_pieces.ensures.gone before b)

pub returns-clause-names : goal.returns-clause-names
returns-clause-names c =
    handed_out c.find_pieces.result c.with_names.result (pieces_edit c.find_pieces.new.pieces c.args.names) c.and.result _ c.with_names.ensures c.and.ensures
    (on_ok c.find_pieces.result c.requires.there)

pub returns-clause-table : goal.returns-clause-table
returns-clause-table c =
    handed_out c.find_pieces.result c.with_names.result (pieces_edit c.find_pieces.new.pieces c.args.names) c.and.result _ c.with_names.ensures c.and.ensures
    c.find_pieces.ensures.table

pub returns-clause-only : goal.returns-clause-only
returns-clause-only c =
    handed_out c.find_pieces.result c.with_names.result (pieces_edit c.find_pieces.new.pieces c.args.names) c.and.result _ c.with_names.ensures c.and.ensures
    c.find_pieces.ensures.only

pub returns-clause-headings : goal.returns-clause-headings
returns-clause-headings c =
    handed_out c.find_pieces.result c.with_names.result (pieces_edit c.find_pieces.new.pieces c.args.names) c.and.result _ c.with_names.ensures c.and.ensures
    c.find_pieces.ensures.headings
