use Rattle.std.proofs.Common.{◌≤◌, drop, length, ap, arith}
use Rattle.std.specs.Prelude.{bytes_eq}
use Rattle.std.specs.List.{list_any}
use Rattle.std.proofs.Math.ListN.{drop_of_length-le}
use Rattle.decl_table.proofs.AddedUses.{left_behind}
use Rattle.decl_table.proofs.NotedHeadings.{leaves_next, notes_nothing}
use Rattle.decl_table.proofs.heading_changes.HeadingChanges.note_names.Goals as goal

pub loop-name-init : goal.loop-name-init
loop-name-init c = λ new notes. notes

pub loop-name-preserved : goal.loop-name-preserved
loop-name-preserved c =
    let names = c.args.names.now in
    let k = c.loop-name.name-index in
    let name = c.name-item.result in
    leaves_next c.args.tree.now.items names k name names c.args.self.now c.loop-name.self c.note_name.new.self
    (left_behind names k name c.loop-name-test.true c.name-item.is) c.in_ok-note_name.ensures c.loop-name.invariant

pub returns : goal.returns
returns c =
    let names = c.args.names.now in
    let k = c.loop-name.name-index in
    let past : length names ≤ k = omega (arith, c.loop-name-test.false) in
    c.loop-name.invariant c.loop-name.self
    (notes_nothing c.args.tree.now.items (λ n. list_any (bytes_eq n) (drop k names)) c.loop-name.self
    (λ n. ap (list_any (bytes_eq n)) (drop_of_length-le names past)))
