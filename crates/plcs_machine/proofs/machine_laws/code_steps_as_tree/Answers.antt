use Rattle.plcs_machine.proofs.SiteCode.{CodeLawsHold}
use Rattle.plcs_machine.proofs.TreeSteps.{code_steps_as_tree, fitting_runs_exec}
use Rattle.plcs_machine.proofs.machine_laws.code_steps_as_tree.Goals as goal

pub returns : goal.returns
returns c =
    let laws : CodeLawsHold = record {
      told = c.lengths_are_told.ensures.told;
      spans = c.spans_hold_code.ensures;
      ends = c.statements_go_on.ensures;
      bodies = c.bodies_begin.ensures.first;
      seconds = c.bodies_begin.ensures.second;
      steps = c.steps_have_addresses.ensures;
      backs = c.addresses_hold_steps.ensures.calls;
      headings = c.entries_are_headings.ensures.headings;
      entries = c.entries_are_headings.ensures.addresses;
    } in
    record {
      defined = fitting_runs_exec laws c.callers_wait.ensures.wait c.callers_wait.ensures.loops c.what_fits_has_a_step.ensures;
      same = code_steps_as_tree laws c.callers_wait.ensures.wait c.callers_wait.ensures.loops c.what_fits_has_a_step.ensures;
    }
