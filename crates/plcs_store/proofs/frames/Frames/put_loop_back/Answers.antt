-- The newest frame has the loop among its others.
use Rattle.std.proofs.Common.{ap, arith, List, length}
use Rattle.plcs_store.specs.declared.kept_loop.KeptLoop.{KeptLoop}
use Rattle.plcs_store.specs.Undone.{with_loop_at}
use Rattle.plcs_store.proofs.IndexedFrames.{newest_found, newest_changed}
use Rattle.plcs_store.proofs.frames.Frames.put_loop_back.Goals as goal

pub put_back-requires : goal.put_back-requires
put_back-requires c =
    let found =
    newest_found c.self.inside.frames.items c.args.self.now c.self.view_is c.len-newest.result
    (omega (arith, c.self.inside.frames.ok.0, c.len-newest.ensures))
    (omega (arith, c.self.inside.frames.ok.0, c.len-newest.ensures, ap length c.self.view_is, c.requires.some))
    c.index_mut.result.now c.index_mut.ensures.value in
    record { room = c.requires.room c.index_mut.result.now found; before = c.requires.before c.index_mut.result.now found }

pub returns : goal.returns
returns c =
    newest_changed c.self.inside.frames.items c.args.self.now c.self.view_is c.len-newest.result
    (omega (arith, c.self.inside.frames.ok.0, c.len-newest.ensures))
    (omega (arith, c.self.inside.frames.ok.0, c.len-newest.ensures, ap length c.self.view_is, c.requires.some))
    c.index_mut.result.now c.index_mut.ensures.value (with_loop_at c.args.number c.args.kept) _
    (ap (λ (loops : List KeptLoop). record c.index_mut.result.now { loops = loops }) c.put_back.ensures)
