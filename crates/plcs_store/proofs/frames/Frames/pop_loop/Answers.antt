-- The newest frame is without its innermost loop.
use Rattle.std.proofs.Common.{ap, arith, List, length}
use Rattle.plcs_store.specs.declared.kept_loop.KeptLoop.{KeptLoop}
use Rattle.plcs_store.specs.Act.{without_loop}
use Rattle.plcs_store.proofs.IndexedFrames.{newest_changed}
use Rattle.plcs_store.proofs.frames.Frames.pop_loop.Goals as goal

pub returns : goal.returns
returns c =
    newest_changed c.self.inside.frames.items c.args.self.now c.self.view_is c.len-newest.result
    (omega (arith, c.self.inside.frames.ok.0, c.len-newest.ensures))
    (omega (arith, c.self.inside.frames.ok.0, c.len-newest.ensures, ap length c.self.view_is, c.requires.some))
    c.index_mut.result.now c.index_mut.ensures.value without_loop _
    (ap (λ (loops : List KeptLoop). record c.index_mut.result.now { loops = loops }) c.pop.ensures.left)
