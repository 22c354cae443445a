use Rattle.std.proofs.Common.{◌≡◌, ◌==◌, false, true, length, Ok, arith}
use Rattle.cursor_moves.specs.Move.{stop_right}
use Rattle.std.proofs.lemmas.Grind.{common_steps}
use Rattle.session_words.specs.CommandLine.{begins_with_point}
use Rattle.synth_session.specs.SessionView.{DoesByReply, plain_session}
use Rattle.synth_session.specs.CursorKeys.{cursor_moved}
use Rattle.synth_session.proofs.StandingTexts.{text_line}
use Rattle.synth_session.proofs.UnaskedKeys.{empty_line, moved_free, unasked_key}
use Rattle.synth_session.proofs.session.Session.enter.Goals as goal

-- the line is empty
pub returns-then-is_empty : goal.returns-then-is_empty
returns-then-is_empty g c =
    let s = plain_session c.args.self.now in
    let files = g.F.Files.told c.args.files.now in
    let counts = g.W.Work.counts c.args.work.now in
    let empty : (length c.args.self.now.typed.items == 0) ≡ true = grind (arith, common_steps) in
    record {
      does = empty_line s empty
          (λ takes asks outcome. DoesByReply takes asks outcome c.args.self.now c.move_right.new.self files files counts counts (Ok c.move_right.result))
          (unasked_key (cursor_moved s stop_right) c.args.self.now c.move_right.new.self files counts c.move_right.result (moved_free s stop_right)
          c.move_right.ensures);
    }

-- the line is phrase text
pub returns-else-begins_with_point : goal.returns-else-begins_with_point
returns-else-begins_with_point g c =
    let files = g.F.Files.told c.args.files.now in
    let some : (length c.args.self.now.typed.items == 0) ≡ false = grind (arith, common_steps) in
    let no_point : begins_with_point c.args.self.now.typed.items ≡ false = grind (arith, common_steps) in
    record {
      does = text_line (plain_session c.args.self.now) some no_point
          (λ takes asks outcome. DoesByReply takes asks outcome c.args.self.now c.enter_text.new.self files files
          (g.W.Work.counts c.args.work.now) (g.W.Work.counts c.enter_text.new.work) c.enter_text.result)
          (c.enter_text.ensures.does files);
    }
