use Rattle.std.specs.Prelude.{refl}
use Rattle.resume_cases.proofs.EditedRuns.{has_kept, keeps_state}
use Rattle.resume_cases.proofs.edits.keep_by.Goals as goal

pub returns-in-Ok-clause-kept : goal.returns-in-Ok-clause-kept
returns-in-Ok-clause-kept c =
    has_kept c.args.tree.now c.args.suspended.now.history c.args.suspended.now.run c.keep.new.self c.requires.tree c.requires.stands.stands
    c.in-Ok.ensures.kept

pub returns-in-Ok-clause-same : goal.returns-in-Ok-clause-same
returns-in-Ok-clause-same c =
    record { state = keeps_state c.args.tree.now c.args.suspended.now.run c.keep.new.self c.in-Ok.ensures.kept; history = refl }
