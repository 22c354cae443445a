use Rattle.std.specs.Io.KnownBytes.{Appends}
use Rattle.std.proofs.Common.{subst}
use Rattle.std.proofs.lemmas.Result.{err_from_is_err_and, on_err_weaker, on_ok_weaker}
use Rattle.synth_outside.specs.Sink.{AppendsFront}
use Rattle.terminal_keys.proofs.Fronts.{front_none, front_whole}
use Rattle.terminal_keys.proofs.passing.pass.Goals as goal

-- of what passes a front was written, and nothing rung
pub returns-in_err-write_piece-clause-passed : goal.returns-in_err-write_piece-clause-passed
returns-in_err-write_piece-clause-passed g c =
    let p = err_from_is_err_and c.from_residual.result c.from_residual.ensures.1 in
    rw (p.1, p.2)
    (record {
      passes = c.take_all.new.passes.items;
      rings = c.take_all.new.bells.items;
      all_passed = c.take_all.ensures.passes;
      all_rung = c.take_all.ensures.bells;
      passed = tt;
      rung = tt;
      passed_front = subst (AppendsFront (g.K.Sink.taken c.args.editor.now) (g.K.Sink.taken c.write_piece.new.sink)) c.as_slice.ensures.value c.in_err-write_piece.ensures.front;
      rung_front = front_none (g.B.Sink.taken c.args.bells.now) c.take_all.new.bells.items;
    })

-- all that passes was written, and of the bells all or a front
pub returns-clause-passed : goal.returns-clause-passed
returns-clause-passed g c =
    let wrote : Appends (g.K.Sink.taken c.args.editor.now) (g.K.Sink.taken c.write_piece.new.sink) c.take_all.new.passes.items =
    subst (Appends (g.K.Sink.taken c.args.editor.now) (g.K.Sink.taken c.write_piece.new.sink)) c.as_slice.ensures.value c.in_ok-write_piece.ensures.all in
    record {
      passes = c.take_all.new.passes.items;
      rings = c.take_all.new.bells.items;
      all_passed = c.take_all.ensures.passes;
      all_rung = c.take_all.ensures.bells;
      passed = on_ok_weaker c.write_piece-2.result
          (λ (all : Appends (g.B.Sink.taken c.args.bells.now) (g.B.Sink.taken c.write_piece-2.new.sink) c.as_slice-2.result.now). wrote) c.write_piece-2.ensures.all;
      rung = on_ok_weaker c.write_piece-2.result
          (λ (all : Appends (g.B.Sink.taken c.args.bells.now) (g.B.Sink.taken c.write_piece-2.new.sink) c.as_slice-2.result.now).
          subst (Appends (g.B.Sink.taken c.args.bells.now) (g.B.Sink.taken c.write_piece-2.new.sink)) c.as_slice-2.ensures.value all) c.write_piece-2.ensures.all;
      passed_front = on_err_weaker c.write_piece-2.result
          (λ (front : AppendsFront (g.B.Sink.taken c.args.bells.now) (g.B.Sink.taken c.write_piece-2.new.sink) c.as_slice-2.result.now).
          front_whole (g.K.Sink.taken c.args.editor.now) (g.K.Sink.taken c.write_piece.new.sink) c.take_all.new.passes.items wrote) c.write_piece-2.ensures.front;
      rung_front = on_err_weaker c.write_piece-2.result
          (λ (front : AppendsFront (g.B.Sink.taken c.args.bells.now) (g.B.Sink.taken c.write_piece-2.new.sink) c.as_slice-2.result.now).
          subst (AppendsFront (g.B.Sink.taken c.args.bells.now) (g.B.Sink.taken c.write_piece-2.new.sink)) c.as_slice-2.ensures.value front) c.write_piece-2.ensures.front;
    }
