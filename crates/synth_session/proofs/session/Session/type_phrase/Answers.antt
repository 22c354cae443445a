use Rattle.std.proofs.Common.{◌≡◌, ◌==◌, Bool, false, true, if◌then◌else◌, length, subst, sym, arith}
use Rattle.std.proofs.lemmas.Grind.{common_steps}
use Rattle.synth_session.specs.declared.answer.Refusal.TheVariants as why
use Rattle.synth_session.specs.KeyOutcome.{KeyOutcome, refusal_outcome}
use Rattle.synth_session.specs.Private.MemorylessKey.{HasOutcome}
use Rattle.synth_session.specs.SessionView.{plain_session}
use Rattle.synth_session.specs.TypedLine.{cursor_phrase, text_typed}
use Rattle.synth_session.proofs.session.Session.type_phrase.Goals as goal

-- the line is empty, and takes the text of the phrase
pub returns-in-Ok : goal.returns-in-Ok
returns-in-Ok g c =
    let s = plain_session c.args.self.now in
    let empty : (length s.typed == 0) ≡ true = grind (arith, common_steps) in
    let given = text_typed s (cursor_phrase s.tree s.stop) in
    subst (λ (is : Bool). HasOutcome (if is then given else refusal_outcome s why.NotHere) c.args.self.now c.accept.new.self c.accept.result) (sym empty)
    (subst (λ (o : KeyOutcome). HasOutcome o c.args.self.now c.accept.new.self c.accept.result) (sym (c.in-Ok.ensures.text s))
    (record {
      session = c.accept.ensures.session;
      screens = c.accept.ensures.screens;
      after = c.accept.ensures.after;
      answered = c.accept.ensures.answered;
    }))

-- there is none, or it is too long
pub returns-in-Err : goal.returns-in-Err
returns-in-Err g c =
    let s = plain_session c.args.self.now in
    let refuse = c.refuse-in-Err in
    let empty : (length s.typed == 0) ≡ true = grind (arith, common_steps) in
    let given = text_typed s (cursor_phrase s.tree s.stop) in
    subst (λ (is : Bool). HasOutcome (if is then given else refusal_outcome s why.NotHere) c.args.self.now refuse.new.self refuse.result) (sym empty)
    (subst (λ (o : KeyOutcome). HasOutcome o c.args.self.now refuse.new.self refuse.result) (sym (c.in-Err.ensures.refused s)) refuse.ensures)
