use Rattle.std.proofs.Common.{sym, subst}
use Rattle.plcs_store.specs.declared.undo.Undo.{Undo}
use Rattle.plcs_store.specs.Act.{HasLoopRoom}
use Rattle.plcs_store.specs.Configuration.{plain_configuration}
use Rattle.plcs_store.specs.Undone.{step_undone, stored_back}
use Rattle.back_steps.specs.EarlierConfigurations.{KeepsRunLimits}
use Rattle.back_steps.proofs.LoopRoom.{loop_room}
use Rattle.back_steps.proofs.taken_back.take_back.Goals as goal

pub put_loop_back-requires : goal.put_loop_back-requires
put_loop_back-requires c =
    let it = c.in-Finished in
    let limits : KeepsRunLimits (step_undone (Undo.Finished it.place it.location it.cell it.kept it.number) (plain_configuration c.args.state.now)) =
    subst (λ (undo : Undo). KeepsRunLimits (step_undone undo (plain_configuration c.args.state.now))) it.is c.requires.limits in
    record {
      room =
          subst HasLoopRoom (sym c.store_back-in-Finished.ensures)
          (loop_room it.number it.kept (stored_back it.place it.location it.cell c.args.state.now.frames) limits.loops);
    }
