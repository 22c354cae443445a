use Rattle.std.specs.Prelude.{map, string_bytes}
use Rattle.std.proofs.Common.{◌∙◌, ap, inr}
use Rattle.synth_kept.specs.Closing.Closing.{LeftStanding}
use Rattle.synth_kept.proofs.Closed.{keeps_clearing, keeps_standing, not_true, same_inner}
use Rattle.synth_kept.proofs.Editing.{edits_with}
use Rattle.synth_kept.proofs.Limits.{limited}
use Rattle.synth_top.specs.Task.{task_of}
use Rattle.synth_kept.proofs.kept.synth_kept.Goals as goal

-- a key ended the session, and the journal was cleared or couldn't be
pub returns-then-is_to_clear-clause-ended : goal.returns-then-is_to_clear-clause-ended
returns-then-is_to_clear-clause-ended g c =
    let new = c.in-Ok.ensures.new in
    let opens = c.in-Ok.ensures.ok in
    inr (keeps_clearing g.S.Source.left g.S.Source.leads_to g.S.Source.breaks_at c.args.keys c.in-Ok.journal.inner c.synth-run.new.keys.inner c.clear.result.1
    new.source c.clear.ensures.source _ c.synth-run.result (g.D.Disk.past c.args.disk) (g.D.Disk.past c.synth-run.new.keys.disk) _ _ _ _ _ _ _ _ _
    c.synth-run.new.keys.given c.synth-run.new.keys.ended
    (λ closing agrees.
    edits_with g.S.Source.left g.S.Source.faults g.S.Source.leads_to g.S.Source.breaks_at g.D.Disk.past g.D.Disk.faults c.in-Ok.journal c.synth-run.new.keys
    new.none_given new.not_ended new.none_read (g.D.Disk.past c.args.disk) opens.each opens.safe _ _ _ _ _ _ _ _ (task_of (map string_bytes c.args.words.now)) (limited (map string_bytes c.args.words.now)) c.synth-run.result closing agrees _
    (λ none. let bad = c.synth-run.ensures.bad_words none in
    (bad.0, bad.1, (c.clear.ensures.source ∙ same_inner _ _ bad.1 ∙ new.source, bad.2, bad.3, bad.4)))
    (λ making. (c.synth-run.ensures.untouched making).0) c.synth-run.ensures.source c.synth-run.ensures.ended)
    (c.is_to_clear.ensures.0 c.if-is_to_clear.true) _ _ _ _ c.clear.ensures.cleared)

-- the journal stands
pub returns-clause-ended : goal.returns-clause-ended
returns-clause-ended g c =
    let new = c.in-Ok.ensures.new in
    let opens = c.in-Ok.ensures.ok in
    inr (keeps_standing g.S.Source.left g.S.Source.leads_to g.S.Source.breaks_at c.args.keys c.in-Ok.journal.inner c.synth-run.new.keys.inner c.parts-keys.result.0
    new.source c.parts-keys.ensures.source _ c.synth-run.result (g.D.Disk.past c.args.disk) (g.D.Disk.past c.synth-run.new.keys.disk) _ _ _ _ _ _ _ _ _
    (edits_with g.S.Source.left g.S.Source.faults g.S.Source.leads_to g.S.Source.breaks_at g.D.Disk.past g.D.Disk.faults c.in-Ok.journal c.synth-run.new.keys
    new.none_given new.not_ended new.none_read (g.D.Disk.past c.args.disk) opens.each opens.safe _ _ _ _ _ _ _ _ (task_of (map string_bytes c.args.words.now)) (limited (map string_bytes c.args.words.now)) c.synth-run.result LeftStanding
    (λ clear. absurd (not_true _ c.if-is_to_clear.false (c.is_to_clear.ensures.1 clear))) _
    (λ none. let bad = c.synth-run.ensures.bad_words none in
    (bad.0, bad.1, (c.parts-keys.ensures.source ∙ same_inner _ _ bad.1 ∙ new.source, bad.2, bad.3, bad.4)))
    (λ making. (c.synth-run.ensures.untouched making).0) c.synth-run.ensures.source c.synth-run.ensures.ended)
    _ (ap g.D.Disk.past c.parts-keys.ensures.disk))
