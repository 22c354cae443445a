use Rattle.std.proofs.Common.{◌+◌, [], ◌∷◌, drop}
use Rattle.decl_table.proofs.AddedUses.{leaves_next, of_names, of_names-next}
use Rattle.decl_table.proofs.uses.Uses.note_names.Goals as goal

pub loop-name-preserved : goal.loop-name-preserved
loop-name-preserved c =
    let names = c.args.names.now in
    let at = c.args.at in
    let k = c.loop-name.name-index in
    let next = c.name-item.result in
    leaves_next (of_names (next ∷ []) at) (of_names (drop (k + 1) names) at) (of_names (drop k names) at) (of_names names at)
    c.args.self.now.uses c.loop-name.self.uses c.note.new.self.uses c.in_ok-note.ensures
    (of_names-next names k next at c.loop-name-test.true c.name-item.is)
    c.loop-name.invariant
