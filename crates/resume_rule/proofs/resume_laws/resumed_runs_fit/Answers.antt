use Rattle.resume_rule.proofs.ResumedFrames.{edited_runs_fit, resumed_runs_fit}
use Rattle.resume_rule.proofs.StandingFrames.{TreeLaws}
use Rattle.resume_rule.proofs.resume_laws.resumed_runs_fit.Goals as goal

pub returns : goal.returns
returns c =
    let laws : TreeLaws =
    record {
      found = c.sites_stand.ensures.found;
      standing = c.sites_stand.ensures.standing;
      others = c.sites_stand.ensures.others;
      once = c.slots_stand.ensures.once;
      procedure = c.slots_stand.ensures.procedure;
      starts = c.places_last.ensures.starts;
      places = c.places_last.ensures.places;
      marks = c.list_marks_follow_items.ensures.mark;
    } in
    record { agreed = resumed_runs_fit laws; edited = edited_runs_fit laws c.agreement_lasts.ensures.edits }
