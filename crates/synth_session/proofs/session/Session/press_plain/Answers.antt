-- A key but Enter asks nothing and fetches nothing.
use Rattle.std.proofs.Common.{Ok, refl, sym, subst}
use Rattle.cursor_moves.specs.Move.{stop_down, stop_left, stop_right, stop_up}
use Rattle.synth_session.specs.declared.answer.Refusal.TheVariants as why
use Rattle.synth_session.specs.declared.key.Key.{Key}
use Rattle.synth_session.specs.CursorKeys.{cursor_moved}
use Rattle.synth_session.specs.KeyOutcome.{line_acceptance_outcome, refusal_outcome}
use Rattle.synth_session.specs.KeyRequest.{request}
use Rattle.synth_session.specs.MemoryTaken.{key_takes_memory}
use Rattle.synth_session.specs.Press.{key_outcome}
use Rattle.synth_session.specs.TypedLine.{char_typed, last_erased, phrase_typed}
use Rattle.synth_session.specs.SessionView.{DoesByReply, plain_session}
use Rattle.synth_session.proofs.UnaskedKeys.{erased_free, moved_free, phrase_free, typed_free, unasked_key}
use Rattle.synth_session.proofs.session.Session.press_plain.Goals as goal

pub returns-in-Tab : goal.returns-in-Tab
returns-in-Tab g c =
    let s = plain_session c.args.self.now in
    let files = g.F.Files.told c.args.files.now in
    let counts = g.W.Work.counts c.args.work.now in
    record {
      pressed = subst (λ (key : Key). DoesByReply (key_takes_memory s key) (request s key) (key_outcome s key) c.args.self.now c.type_phrase.new.self
          files files counts counts (Ok c.type_phrase.result)) (sym c.in-Tab.is)
          (unasked_key (phrase_typed s) c.args.self.now c.type_phrase.new.self files counts c.type_phrase.result (phrase_free s) c.type_phrase.ensures);
    }

pub returns-in-Up : goal.returns-in-Up
returns-in-Up g c =
    let s = plain_session c.args.self.now in
    let files = g.F.Files.told c.args.files.now in
    let counts = g.W.Work.counts c.args.work.now in
    record {
      pressed = subst (λ (key : Key). DoesByReply (key_takes_memory s key) (request s key) (key_outcome s key) c.args.self.now c.move_up.new.self
          files files counts counts (Ok c.move_up.result)) (sym c.in-Up.is)
          (unasked_key (cursor_moved s stop_up) c.args.self.now c.move_up.new.self files counts c.move_up.result (moved_free s stop_up)
          c.move_up.ensures);
    }

pub returns-in-Down : goal.returns-in-Down
returns-in-Down g c =
    let s = plain_session c.args.self.now in
    let files = g.F.Files.told c.args.files.now in
    let counts = g.W.Work.counts c.args.work.now in
    record {
      pressed = subst (λ (key : Key). DoesByReply (key_takes_memory s key) (request s key) (key_outcome s key) c.args.self.now c.move_down.new.self
          files files counts counts (Ok c.move_down.result)) (sym c.in-Down.is)
          (unasked_key (cursor_moved s stop_down) c.args.self.now c.move_down.new.self files counts c.move_down.result (moved_free s stop_down)
          c.move_down.ensures);
    }

pub returns-in-Left : goal.returns-in-Left
returns-in-Left g c =
    let s = plain_session c.args.self.now in
    let files = g.F.Files.told c.args.files.now in
    let counts = g.W.Work.counts c.args.work.now in
    record {
      pressed = subst (λ (key : Key). DoesByReply (key_takes_memory s key) (request s key) (key_outcome s key) c.args.self.now c.move_left.new.self
          files files counts counts (Ok c.move_left.result)) (sym c.in-Left.is)
          (unasked_key (cursor_moved s stop_left) c.args.self.now c.move_left.new.self files counts c.move_left.result (moved_free s stop_left)
          c.move_left.ensures);
    }

pub returns-in-Right : goal.returns-in-Right
returns-in-Right g c =
    let s = plain_session c.args.self.now in
    let files = g.F.Files.told c.args.files.now in
    let counts = g.W.Work.counts c.args.work.now in
    record {
      pressed = subst (λ (key : Key). DoesByReply (key_takes_memory s key) (request s key) (key_outcome s key) c.args.self.now c.move_right.new.self
          files files counts counts (Ok c.move_right.result)) (sym c.in-Right.is)
          (unasked_key (cursor_moved s stop_right) c.args.self.now c.move_right.new.self files counts c.move_right.result (moved_free s stop_right)
          c.move_right.ensures);
    }

pub returns-in-Char : goal.returns-in-Char
returns-in-Char g c =
    let s = plain_session c.args.self.now in
    let files = g.F.Files.told c.args.files.now in
    let counts = g.W.Work.counts c.args.work.now in
    record {
      pressed = subst (λ (key : Key). DoesByReply (key_takes_memory s key) (request s key) (key_outcome s key) c.args.self.now c.type_char.new.self
          files files counts counts (Ok c.type_char.result)) (sym c.in-Char.is)
          (unasked_key (char_typed s c.in-Char.byte) c.args.self.now c.type_char.new.self files counts c.type_char.result (typed_free s c.in-Char.byte) c.type_char.ensures);
    }

pub returns-in-Erase : goal.returns-in-Erase
returns-in-Erase g c =
    let s = plain_session c.args.self.now in
    let files = g.F.Files.told c.args.files.now in
    let counts = g.W.Work.counts c.args.work.now in
    record {
      pressed = subst (λ (key : Key). DoesByReply (key_takes_memory s key) (request s key) (key_outcome s key) c.args.self.now c.erase.new.self
          files files counts counts (Ok c.erase.result)) (sym c.in-Erase.is)
          (unasked_key (last_erased s) c.args.self.now c.erase.new.self files counts c.erase.result (erased_free s) c.erase.ensures);
    }

pub returns-in-Clear : goal.returns-in-Clear
returns-in-Clear g c =
    let s = plain_session c.args.self.now in
    let files = g.F.Files.told c.args.files.now in
    let counts = g.W.Work.counts c.args.work.now in
    record {
      pressed = subst (λ (key : Key). DoesByReply (key_takes_memory s key) (request s key) (key_outcome s key) c.args.self.now c.accept_line.new.self
          files files counts counts (Ok c.accept_line.result)) (sym c.in-Clear.is)
          (unasked_key (line_acceptance_outcome s) c.args.self.now c.accept_line.new.self files counts c.accept_line.result refl c.accept_line.ensures);
    }

pub returns-in-Other : goal.returns-in-Other
returns-in-Other g c =
    let s = plain_session c.args.self.now in
    let files = g.F.Files.told c.args.files.now in
    let counts = g.W.Work.counts c.args.work.now in
    record {
      pressed = subst (λ (key : Key). DoesByReply (key_takes_memory s key) (request s key) (key_outcome s key) c.args.self.now c.refuse.new.self
          files files counts counts (Ok c.refuse.result)) (sym c.in-Other.is)
          (unasked_key (refusal_outcome s why.UnknownCommand) c.args.self.now c.refuse.new.self files counts c.refuse.result refl c.refuse.ensures);
    }

pub returns-in-Enter : goal.returns-in-Enter
returns-in-Enter g c =
    let s = plain_session c.args.self.now in
    record {
      pressed = subst (λ (key : Key). DoesByReply (key_takes_memory s key) (request s key) (key_outcome s key) c.args.self.now c.enter.new.self
          (g.F.Files.told c.args.files.now) (g.F.Files.told c.enter.new.files) (g.W.Work.counts c.args.work.now) (g.W.Work.counts c.enter.new.work)
          c.enter.result) (sym c.in-Enter.is) c.enter.ensures.does;
    }
