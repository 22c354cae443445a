use Rattle.synth_top.proofs.FirstLoads.{program_loaded}
use Rattle.synth_top.proofs.loading.load_program.Goals as goal

-- what was loaded is taken without its room
pub returns-in-Ok-clause-loads : goal.returns-in-Ok-clause-loads
returns-in-Ok-clause-loads g c =
    let before = g.F.Files.told c.args.files.now in
    let now = g.F.Files.told c.load.new.files in
    let loads = program_loaded c.room_is_not_shown.ensures.trees c.loading_ignores_room.ensures c.as_bytes.result.now (g.F.Files.begun c.args.files.now)
    (g.F.Files.begun c.load.new.files) c.in-Ok.tree c.in-Ok.tree before now c.in-Ok.ensures.tree c.in-Ok.ensures.says c.in-Ok.ensures.files in
    rw (c.in-Some.is, ← c.as_bytes.ensures.value) loads
