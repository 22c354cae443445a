-- The newest frame stands at the place.
use Rattle.std.proofs.Common.{ap, refl, arith, length}
use Rattle.plcs_store.specs.Configuration.{frame_at, plain_place}
use Rattle.plcs_store.proofs.IndexedFrames.{newest_changed}
use Rattle.plcs_store.proofs.frames.Frames.set_place.Goals as goal

pub returns : goal.returns
returns c =
    newest_changed c.self.inside.frames.items c.args.self.now c.self.view_is c.len-newest.result
    (omega (arith, c.self.inside.frames.ok.0, c.len-newest.ensures))
    (omega (arith, c.self.inside.frames.ok.0, c.len-newest.ensures, ap length c.self.view_is, c.requires.some))
    c.index_mut.result.now c.index_mut.ensures.value (frame_at (plain_place c.args.place)) _ refl
