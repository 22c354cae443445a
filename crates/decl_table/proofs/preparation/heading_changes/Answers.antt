use Rattle.decl_table.proofs.HandedOut.{handed}
use Rattle.decl_table.proofs.preparation.heading_changes.Goals as goal

pub returns-clause-none : goal.returns-clause-none
returns-clause-none c = handed c.note_headings.result c.note_headings.new.changes c.and.result _ c.and.ensures c.note_headings.ensures.none

pub returns-clause-right : goal.returns-clause-right
returns-clause-right c = handed c.note_headings.result c.note_headings.new.changes c.and.result _ c.and.ensures c.note_headings.ensures.right

pub returns-clause-noted : goal.returns-clause-noted
returns-clause-noted c = handed c.note_headings.result c.note_headings.new.changes c.and.result _ c.and.ensures c.note_headings.ensures.noted
