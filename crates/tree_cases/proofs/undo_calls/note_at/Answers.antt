use Rattle.template_tree.specs.Programs.PlainTree.{roomless_tree}
use Rattle.edit_undo.specs.declared.edit_record.EditRecord.{EditRecord}
use Rattle.tree_cases.proofs.undo_calls.note_at.Goals as goal

pub returns-in-Ok-clause-fits : goal.returns-in-Ok-clause-fits
returns-in-Ok-clause-fits c =
    let old = c.args.tree.now in
    let new = c.apply.new.tree in
    let applied = c.in-Ok.applied in
    let edit : EditRecord = record { receipt = applied.receipt; back = applied.taken; stop = c.in_ok-at.at } in
    c.note.ensures.fits (roomless_tree new)
    (c.edits_are_noted.ensures (roomless_tree old) (roomless_tree new) edit c.args.ring.now
    ((c.room_is_not_shown.ensures.trees old).0 c.requires.tree) ((c.room_is_not_shown.ensures.trees new).0 c.in-Ok.ensures.tree)
    c.in-Ok.ensures.undoes c.in-Ok.ensures.can_revert c.in-Ok.ensures.drawn c.requires.fits).fits
