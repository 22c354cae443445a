use Rattle.std.proofs.Common.{◌≡◌, true, Result, Ok, Err, Some, refl, sym, subst}
use Rattle.std.specs.Prelude.{IfOk}
use Rattle.plcs_grammar.specs.PlainPhrase.{plain_phrase}
use Rattle.plcs_grammar.specs.declared.phrase.Phrase.{Phrase}
use Rattle.phrase_parser.specs.Standing.{HasStanding}
use Rattle.template_tree.specs.Programs.Part.{IsPhrasePlace}
use Rattle.synth_session.specs.declared.answer.Refusal.{Refusal}
use Rattle.synth_session.specs.declared.answer.Refusal.TheVariants as why
use Rattle.synth_session.specs.EnteredLine.{standing_entered}
use Rattle.synth_session.specs.KeyOutcome.{KeyOutcome, refusal_outcome}
use Rattle.synth_session.specs.KeyReply.{Reply}
use Rattle.synth_session.specs.Private.Faults.{IsEntered}
use Rattle.synth_session.specs.SessionView.{CountsOutcome, Does, DoesByReply, plain_session}
use Rattle.synth_session.proofs.CountedPrograms.{key_free}
use Rattle.synth_session.proofs.ObeyedCommands.{still_does}
use Rattle.synth_session.proofs.StandingTexts.{read_files, unwanted_text, wanted_text}
use Rattle.synth_session.proofs.UnaskedKeys.{unasked_key}
use Rattle.synth_session.proofs.WantedCounts.{want_free}
use Rattle.synth_session.proofs.session.Session.enter_text.Goals as goal

-- the cursor wants no phrase text
pub returns-in_default : goal.returns-in_default
returns-in_default g c =
    let s = plain_session c.args.self.now in
    let counts = g.W.Work.counts c.args.work.now in
    record {
      does = λ files.
          unwanted_text s (sym c.in_default.ensures)
          (λ takes asks outcome. DoesByReply takes asks outcome c.args.self.now c.refuse.new.self files files counts counts (Ok c.refuse.result))
          (unasked_key (refusal_outcome s why.NotHere) c.args.self.now c.refuse.new.self files counts c.refuse.result refl c.refuse.ensures);
    }

-- what was read of the text is what it is, and is entered
pub edit-requires-clause-edit : goal.edit-requires-clause-edit
edit-requires-clause-edit g c =
    subst (λ (e : Result Phrase Refusal). IfOk e (λ phrase. IsPhrasePlace (Some (plain_phrase phrase)))) c.in-Ok-Ok.field-0-is
    c.in-Ok-Ok.ensures.stands

pub returns-in-Ok-Ok : goal.returns-in-Ok-Ok
returns-in-Ok-Ok g c =
    let s = plain_session c.args.self.now in
    let before = g.W.Work.counts c.args.work.now in
    let now = g.W.Work.counts c.edit.new.work in
    let read = c.in-Ok-Ok.ensures.entered in
    let entered : IsEntered read.0 (Ok (Ok c.in-Ok-Ok.phrase)) =
    subst (λ (e : Result Phrase Refusal). IsEntered read.0 (Ok e)) c.in-Ok-Ok.field-0-is read.2 in
    let is = sym (entered s) in
    let has : HasStanding c.in-Some.category s.typed read.0 =
    subst (λ text. HasStanding c.in-Some.category text read.0) c.as_slice.ensures.value read.1 in
    record {
      does = λ files.
          wanted_text s c.in-Some.category (sym c.in-Some.ensures)
          (λ takes asks outcome. DoesByReply takes asks outcome c.args.self.now c.edit.new.self files files before now c.edit.result)
          (record {
            reply = Reply.Read read.0;
            files = read_files c.in-Some.category s.typed read.0 files c.edit.result has;
            does = subst (λ (o : KeyOutcome). Does true o c.args.self.now c.edit.new.self c.edit.result) is c.edit.ensures.does;
            counts = subst (λ (o : KeyOutcome). CountsOutcome o before now c.edit.result) is c.edit.ensures.counts;
          });
    }

-- it isn't entered
pub returns-in-Ok-Err : goal.returns-in-Ok-Err
returns-in-Ok-Err g c =
    let s = plain_session c.args.self.now in
    let counts = g.W.Work.counts c.args.work.now in
    let refuse = c.refuse-in-Ok-Err in
    let read = c.in-Ok-Err.ensures.entered in
    let entered : IsEntered read.0 (Ok (Err c.in-Ok-Err.why)) =
    subst (λ (e : Result Phrase Refusal). IsEntered read.0 (Ok e)) c.in-Ok-Err.field-0-is read.2 in
    let is = sym (entered s) in
    let has : HasStanding c.in-Some.category s.typed read.0 =
    subst (λ text. HasStanding c.in-Some.category text read.0) c.as_slice.ensures.value read.1 in
    record {
      does = λ files.
          wanted_text s c.in-Some.category (sym c.in-Some.ensures)
          (λ takes asks outcome. DoesByReply takes asks outcome c.args.self.now refuse.new.self files files counts counts (Ok refuse.result))
          (record {
            reply = Reply.Read read.0;
            files = read_files c.in-Some.category s.typed read.0 files (Ok refuse.result) has;
            does =
                subst (λ (o : KeyOutcome). Does true o c.args.self.now refuse.new.self (Ok refuse.result)) is
                (still_does true (refusal_outcome s c.in-Ok-Err.why) c.args.self.now refuse.new.self refuse.result refuse.ensures);
            counts = subst (λ (o : KeyOutcome). CountsOutcome o counts counts (Ok refuse.result)) is (key_free 0 0);
          });
    }

-- memory ran out
pub returns-in-Err : goal.returns-in-Err
returns-in-Err g c =
    let s = plain_session c.args.self.now in
    let counts = g.W.Work.counts c.args.work.now in
    let read = c.in-Err.ensures.entered in
    let outcome = standing_entered s read.0 in
    let has : HasStanding c.in-Some.category s.typed read.0 =
    subst (λ text. HasStanding c.in-Some.category text read.0) c.as_slice.ensures.value read.1 in
    record {
      does = λ files.
          wanted_text s c.in-Some.category (sym c.in-Some.ensures)
          (λ takes asks outcome. DoesByReply takes asks outcome c.args.self.now c.args.self.now files files counts counts (Err c.in-Err.error))
          (record {
            reply = Reply.Read read.0;
            files = read_files c.in-Some.category s.typed read.0 files (Err c.in-Err.error) has;
            does = record { session = c.requires.session; screens = refl; met = (refl, refl) };
            counts = want_free outcome.checks outcome.emits outcome.fetches;
          });
    }
