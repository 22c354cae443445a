-- What stands at the cursor is there, so the key does what copying it into the clip does.
use Rattle.std.proofs.Common.{true, Ok, refl, sym, ap, subst, ◌∙◌}
use Rattle.clip_store.specs.PlainClips.{kept_pairs}
use Rattle.synth_session.specs.ClipCommands.{copy_outcome, fragment_there}
use Rattle.synth_session.specs.KeyOutcome.{KeyOutcome, refusal_outcome}
use Rattle.synth_session.specs.SessionView.{Does, plain_session}
use Rattle.synth_session.proofs.AcceptedEdits.{copy_is}
use Rattle.synth_session.proofs.CountedPrograms.{clip_fits}
use Rattle.synth_session.proofs.EditOutcomes.{ready_with_clips}
use Rattle.synth_session.proofs.ObeyedCommands.{still_does}
use Rattle.synth_session.proofs.session.Session.copy.Goals as goal

pub returns-in-Ok-copy_out : goal.returns-in-Ok-copy_out
returns-in-Ok-copy_out g c =
    let s = plain_session c.args.self.now in
    let name = c.args.name.now in
    let fragment = fragment_there s.tree s.stop s.stop.part in
    let is = copy_is s name (kept_pairs c.copy_out.new.clips.pairs) fragment c.in-Ok-copy_out.ensures.copied in
    clip_fits s name (copy_outcome s name fragment)
    (λ (outcome : KeyOutcome). Does true outcome c.args.self.now c.accept_line.new.self (Ok c.accept_line.result))
    c.in-Ok.ensures.takes c.in-Ok.ensures.fits
    (record {
      session = c.accept_line.ensures.session;
      screens = c.accept_line.ensures.screens;
      met = (
        c.accept_line.ensures.after ∙ ap (λ (o : KeyOutcome). o.after) is,
        c.accept_line.ensures.answered ∙ ap (λ (o : KeyOutcome). o.answer) is,
      );
    })

-- memory ran out
pub returns-in-Err-copy_out : goal.returns-in-Err-copy_out
returns-in-Err-copy_out g c =
    let s = plain_session c.args.self.now in
    record {
      session = ready_with_clips c.args.self.now c.copy_out.new.clips c.requires;
      screens = refl;
      met = (refl, λ i. record s { clips = kept_pairs (c.in-Err-copy_out.ensures.same i) });
    }

-- the key is refused
pub returns-in-Err : goal.returns-in-Err
returns-in-Err g c =
    let s = plain_session c.args.self.now in
    let name = c.args.name.now in
    let why = c.in-Err.why in
    subst (λ (outcome : KeyOutcome). Does true outcome c.args.self.now c.refuse.new.self (Ok c.refuse.result))
    (sym (c.in-Err.ensures.refused s (copy_outcome s name (fragment_there s.tree s.stop s.stop.part))))
    (still_does true (refusal_outcome s why) c.args.self.now c.refuse.new.self c.refuse.result c.refuse.ensures)
