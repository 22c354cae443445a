-- The run begins with the session that the loads made, in which nothing was read or written yet, and the rescue begins
-- where the run stopped; so what was done in all is the loads, the run and the rescue, one after the other. Where
-- memory ran out before a session was opened, keys and screens are as they were.
use Rattle.std.proofs.Common.{inr}
use Rattle.synth_session.specs.SessionView.{plain_session}
use Rattle.synth_top.specs.Private.PlainForms.{plain_first_loads, plain_options}
use Rattle.synth_top.specs.WholeRun.{ToldStreams}
use Rattle.synth_top.specs.Turn.{EditorState}
use Rattle.synth_top.proofs.Whole.{opened_first, ran, unloaded, unopened}
use Rattle.synth_top.proofs.edit.Goals as goal

-- the loads, the run, and what was saved after it
pub returns-clause-ended : goal.returns-clause-ended
returns-clause-ended g c =
    let options = plain_options c.args.options.now in
    let loads = plain_first_loads c.in-Ok.loads in
    let before : ToldStreams = record {
      left = g.S.Source.left c.args.keys.now;
      reads = g.S.Source.reads c.args.keys.now;
      taken = g.K.Sink.taken c.args.screen.now;
      wants = g.K.Sink.wants c.args.screen.now;
    } in
    let now : ToldStreams = record {
      left = g.S.Source.left c.run-status.new.keys;
      reads = g.S.Source.reads c.run-status.new.keys;
      taken = g.K.Sink.taken c.run-status.new.screen;
      wants = g.K.Sink.wants c.run-status.new.screen;
    } in
    let files = g.F.Files.told c.args.files.now in
    let loaded = g.F.Files.told c.load_first.new.files in
    let opened = plain_session c.in-Ok-open.editor.session in
    let first : EditorState = record { session = opened; files = loaded.stored } in
    inr (ran c.run-status.result options loads before now files loaded (g.F.Files.told c.run-status.new.files) (g.F.Files.told c.rescue.new.files)
    (g.W.Work.counts c.args.work.now) (g.W.Work.counts c.open.new.work) (g.W.Work.counts c.run-status.new.work) first
    (g.S.Source.leads_to c.args.keys.now c.run-status.new.keys) (g.S.Source.breaks_at c.args.keys.now c.run-status.new.keys)
    (plain_session c.run-status.new.editing.session) c.in-Ok.ensures.loads c.in-Ok-open.ensures.counts
    (opened_first options loads files.stored loaded.stored opened c.in-Ok-open.ensures.opened.session c.in-Ok.ensures.loads.read.stored)
    c.run-status.ensures.runs c.rescue.ensures)

-- memory ran out over a load
pub returns-in-Err-clause-ended : goal.returns-in-Err-clause-ended
returns-in-Err-clause-ended g c =
    let told : ToldStreams = record {
      left = g.S.Source.left c.args.keys.now;
      reads = g.S.Source.reads c.args.keys.now;
      taken = g.K.Sink.taken c.args.screen.now;
      wants = g.K.Sink.wants c.args.screen.now;
    } in
    unloaded (plain_options c.args.options.now) told (g.F.Files.told c.args.files.now) (g.F.Files.told c.load_first.new.files)
    (g.W.Work.counts c.args.work.now) (g.S.Source.leads_to c.args.keys.now c.args.keys.now)
    (g.S.Source.breaks_at c.args.keys.now c.args.keys.now) c.in-Err.ensures.wanted (g.S.Source.leads_to_itself c.args.keys.now)

-- memory ran out after the loads
pub returns-in-Err-open-clause-ended : goal.returns-in-Err-open-clause-ended
returns-in-Err-open-clause-ended g c =
    let told : ToldStreams = record {
      left = g.S.Source.left c.args.keys.now;
      reads = g.S.Source.reads c.args.keys.now;
      taken = g.K.Sink.taken c.args.screen.now;
      wants = g.K.Sink.wants c.args.screen.now;
    } in
    unopened (plain_options c.args.options.now) (plain_first_loads c.in-Ok.loads) told (g.F.Files.told c.args.files.now) (g.F.Files.told c.load_first.new.files)
    (g.W.Work.counts c.args.work.now) (g.W.Work.counts c.open.new.work) (g.S.Source.leads_to c.args.keys.now c.args.keys.now)
    (g.S.Source.breaks_at c.args.keys.now c.args.keys.now) c.in-Ok.ensures.loads c.in-Err-open.ensures.counts (g.S.Source.leads_to_itself c.args.keys.now)
