use Rattle.std.proofs.Common.{true, Ok, Some, None, Option, option_map, refl, sym, ap, subst, ◌≡◌, ◌∙◌}
use Rattle.clip_store.specs.PlainClips.{clip_named}
use Rattle.clip_store.specs.PlainFragment.{PlainFragment, plain_fragment, roomless_fragment}
use Rattle.clip_store.specs.declared.fragment.Fragment.{Fragment}
use Rattle.synth_session.specs.declared.answer.ClipRefusal.{ClipRefusal}
use Rattle.synth_session.specs.declared.answer.Refusal.TheVariants as why
use Rattle.synth_session.specs.ClipCommands.{clip_inserted, fragment_inserted}
use Rattle.synth_session.specs.KeyOutcome.{refusal_outcome}
use Rattle.synth_session.specs.SessionView.{CountsOutcome, Does, plain_session}
use Rattle.synth_session.proofs.CountedPrograms.{key_free}
use Rattle.synth_session.proofs.ObeyedCommands.{still_does}
use Rattle.synth_session.proofs.WantedCounts.{want_free}
use Rattle.synth_session.proofs.session.Session.insert.Goals as goal

-- there is a clip of the name
pub returns-in-Ok-Some : goal.returns-in-Ok-Some
returns-in-Ok-Some g c =
    let s = plain_session c.args.self.now in
    let before = g.W.Work.counts c.args.work.now in
    let found : Some (roomless_fragment (plain_fragment c.in-Ok-Some.copy)) ≡ clip_named c.args.name.now s.clips =
    ap (λ (copy : Option Fragment). option_map (λ (f : Fragment). roomless_fragment (plain_fragment f)) copy) (sym c.in-Ok-Some.field-0-is)
    ∙ c.in-Ok-Some.ensures.copy in
    record {
      does =
          subst (λ (clip : Option PlainFragment). Does true (fragment_inserted s clip) c.args.self.now c.edit.new.self c.edit.result) found
          c.edit.ensures.does;
      counts =
          subst (λ (clip : Option PlainFragment). CountsOutcome (fragment_inserted s clip) before (g.W.Work.counts c.edit.new.work) c.edit.result) found
          c.edit.ensures.counts;
    }

-- there is none
pub returns-in-Ok-None : goal.returns-in-Ok-None
returns-in-Ok-None g c =
    let s = plain_session c.args.self.now in
    let before = g.W.Work.counts c.args.work.now in
    let none : None ≡ clip_named c.args.name.now s.clips =
    ap (λ (copy : Option Fragment). option_map (λ (f : Fragment). roomless_fragment (plain_fragment f)) copy) (sym c.in-Ok-None.field-0-is)
    ∙ c.in-Ok-None.ensures.copy in
    record {
      does =
          subst (λ (clip : Option PlainFragment). Does true (fragment_inserted s clip) c.args.self.now c.refuse.new.self (Ok c.refuse.result)) none
          (still_does true (refusal_outcome s (why.Clip ClipRefusal.NoClip)) c.args.self.now c.refuse.new.self c.refuse.result c.refuse.ensures);
      counts =
          subst (λ (clip : Option PlainFragment). CountsOutcome (fragment_inserted s clip) before before (Ok c.refuse.result)) none (key_free 0 0);
    }

-- memory ran out
pub returns-in-Err : goal.returns-in-Err
returns-in-Err g c =
    let outcome = clip_inserted (plain_session c.args.self.now) c.args.name.now in
    record {
      does = record { session = c.requires.session; screens = refl; met = (refl, refl) };
      counts = want_free outcome.checks outcome.emits outcome.fetches;
    }
