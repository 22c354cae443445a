use Rattle.std.proofs.Common.{[], ◌∙◌, ap, sym, Some}
use Rattle.file_store.specs.Private.Reader as machine
use Rattle.file_store.specs.Private.Views.{open_nodes_on}
use Rattle.file_store.proofs.reader.open_nodes.led.Goals as goal

pub returns-in-Some : goal.returns-in-Some
returns-in-Some c =
    let outer = open_nodes_on [] c.args.stack.frames.items in
    sym c.in-Some.ensures
    ∙ ap (λ (list : machine.OpenList). Some (let stack : machine.OpenNodes = record { own = list; outer = outer } in stack)) (sym c.with_filling.ensures)
