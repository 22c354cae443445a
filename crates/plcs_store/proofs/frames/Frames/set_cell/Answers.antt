-- The frame of the location has this in the cell.
use Rattle.std.proofs.Common.{ap, sym, ◌∙◌, arith, ℕ, length, option_and_then}
use Rattle.plcs_store.specs.declared.frame.Frame.{Frame}
use Rattle.plcs_store.specs.CellAt.{Variables, changed_at, variable_at, variable_named, with_element_named}
use Rattle.plcs_store.proofs.IndexedFrames.{found, changed}
use Rattle.plcs_store.proofs.frames.Frames.set_cell.Goals as goal

pub set-requires : goal.set-requires
set-requires c =
    record {
      there = λ variable named.
          c.requires.there variable
          (ap (λ (k : ℕ). variable_at c.args.self.now k c.args.location.now.name) (sym c.from-frame.ensures)
          ∙ ap (option_and_then (λ (one : Frame). variable_named c.args.location.now.name one.cells))
          (found c.self.inside.frames.items c.args.self.now c.self.view_is c.from-frame.result c.index_mut.result.now
          (omega (arith, c.from-frame.ensures, ap length c.self.view_is, c.requires.frame)) c.index_mut.ensures.value)
          ∙ named);
    }

pub returns : goal.returns
returns c =
    let change : Frame → Frame = λ frame.
    record frame { cells = with_element_named c.args.location.now.name c.args.location.now.element c.args.cell frame.cells } in
    changed c.self.inside.frames.items c.args.self.now c.self.view_is c.from-frame.result c.index_mut.result.now
    (omega (arith, c.from-frame.ensures, ap length c.self.view_is, c.requires.frame)) c.index_mut.ensures.value change _
    (ap (λ (cells : Variables). record c.index_mut.result.now { cells = cells }) c.set.ensures)
    ∙ ap (λ (k : ℕ). changed_at k change c.args.self.now) c.from-frame.ensures
