use Rattle.std.proofs.Common.{◌≡◌, ◌==◌, Bool, false, true, if◌then◌else◌, length, subst, sym, arith}
use Rattle.std.proofs.lemmas.Grind.{common_steps}
use Rattle.cursor_moves.specs.Move.{moved_to}
use Rattle.cursor_moves.specs.declared.cursor_move.Move.{Move}
use Rattle.synth_session.specs.declared.answer.Refusal.TheVariants as why
use Rattle.synth_session.specs.CursorKeys.{cursor_goes}
use Rattle.synth_session.specs.KeyOutcome.{refusal_outcome}
use Rattle.synth_session.specs.Private.MemorylessKey.{HasOutcome}
use Rattle.synth_session.specs.SessionView.{plain_session}
use Rattle.synth_session.proofs.session.Session.go.Goals as goal

-- something is typed
pub returns-then-not-is_empty : goal.returns-then-not-is_empty
returns-then-not-is_empty g c =
    let s = plain_session c.args.self.now in
    let typed : (length c.args.self.now.typed.items == 0) ≡ false = grind (arith, common_steps) in
    subst
    (λ (empty : Bool). HasOutcome (if empty then cursor_goes s (moved_to c.args.to) else refusal_outcome s why.NotHere) c.args.self.now c.refuse.new.self
    c.refuse.result) (sym typed) c.refuse.ensures

-- the cursor goes there
pub returns-in-Moved : goal.returns-in-Moved
returns-in-Moved g c =
    let s = plain_session c.args.self.now in
    let empty : (length c.args.self.now.typed.items == 0) ≡ true = grind (arith, common_steps) in
    subst
    (λ (empty : Bool). HasOutcome (if empty then cursor_goes s (moved_to c.args.to) else refusal_outcome s why.NotHere) c.args.self.now c.accept.new.self
    c.accept.result) (sym empty)
    (subst (λ (to : Move). HasOutcome (cursor_goes s (moved_to to)) c.args.self.now c.accept.new.self c.accept.result) (sym c.in-Moved.is)
    (record {
      session = c.accept.ensures.session;
      screens = c.accept.ensures.screens;
      after = c.accept.ensures.after;
      answered = c.accept.ensures.answered;
    }))

-- there is no stop to go to
pub returns-in-AtEdge : goal.returns-in-AtEdge
returns-in-AtEdge g c =
    let s = plain_session c.args.self.now in
    let refuse = c.refuse-in-AtEdge in
    let empty : (length c.args.self.now.typed.items == 0) ≡ true = grind (arith, common_steps) in
    subst
    (λ (empty : Bool). HasOutcome (if empty then cursor_goes s (moved_to c.args.to) else refusal_outcome s why.NotHere) c.args.self.now refuse.new.self
    refuse.result) (sym empty)
    (subst (λ (to : Move). HasOutcome (cursor_goes s (moved_to to)) c.args.self.now refuse.new.self refuse.result) (sym c.in-AtEdge.is) refuse.ensures)
