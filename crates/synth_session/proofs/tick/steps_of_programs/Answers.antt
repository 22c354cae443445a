use Rattle.std.proofs.Common.{refl}
use Rattle.template_tree.specs.Checks.Marks.{Marks}
use Rattle.template_tree.specs.Programs.PlainTree.{roomless_tree}
use Rattle.plcs_code.specs.ProgramCode.{program_items}
use Rattle.synth_session.specs.ProgramCode.{code_of}
use Rattle.synth_session.proofs.tick.steps_of_programs.Goals as goal

pub returns : goal.returns
unfolding code_of
returns c tree input configuration is_tree fits =
    let program = roomless_tree tree in
    let is_program = (c.room_is_not_shown.ensures.trees tree).0 is_tree in
    let tell = c.programs_have_one_code.ensures.items program.items in
    record {
      defined =
          c.code_steps_as_tree.ensures.defined program (Marks program.items) (program_items program.items) input configuration is_program refl tell fits;
      same = c.code_steps_as_tree.ensures.same program (Marks program.items) (program_items program.items) input configuration is_program refl tell fits;
      fit = λ next steps. c.steps_keep_fit.ensures program input configuration next is_program fits steps;
    }
