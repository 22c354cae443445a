use Rattle.plcs_store.proofs.AlikeRuns.{runs_ignore_elision, runs_ignore_room}
use Rattle.plcs_store.proofs.KeptPrograms.{substance_keeps_alike}
use Rattle.plcs_store.proofs.run_laws.runs_ignore_room_and_elision.Goals as goal

pub returns : goal.returns
returns c =
    let sites = c.places_ignore_room_and_elision.ensures.substance in
    record {
      room = runs_ignore_room sites c.checks_ignore_room_and_elision.ensures.room c.places_ignore_room_and_elision.ensures.room;
      elision = runs_ignore_elision sites c.edits_follow.ensures.turns c.checks_ignore_room_and_elision.ensures.elision c.places_ignore_room_and_elision.ensures.elision;
      kept = substance_keeps_alike sites;
    }
