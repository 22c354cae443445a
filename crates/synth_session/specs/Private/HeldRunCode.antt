-- How the runs that sessions hold are told apart.
use Rattle.std.specs.Prelude.{List, Option, refl}
use Rattle.std.specs.Coded.{Coded, code_by, coded×, coded_list, coded_option}
use Rattle.plcs_store.specs.declared.run_state.Run.{Run}
use Rattle.plcs_store.specs.declared.undo.Undo.{Undo}
use Rattle.plcs_store.specs.contracts.run_state.Run as run_row
use Rattle.plcs_store.specs.contracts.undo.Undo as undo_row
use Rattle.synth_session.specs.PlainHeldRun.{PlainHeldRun}

-- the run that a session holds is told apart by its run, if one stands, and the records of its steps
abbrev pub held_run_code : Coded PlainHeldRun
held_run_code =
    code_by (Option Run × List Undo) (coded× (coded_option run_row.the_row.coded) (coded_list undo_row.the_row.coded))
    (λ held. (held.run, held.undos)) (λ t. record { run = t.0; undos = t.1 }) (λ _. refl)
