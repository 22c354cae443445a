-- Which configuration the run of a program reaches in how many steps.
use Rattle.std.specs.Prelude.{ℕ, zero, suc, List, Option, Some, None, option_and_then}
use Rattle.template_tree.specs.Programs.PlainTree.{Forest}
use Rattle.plcs_store.specs.Configuration.{PlainConfiguration}
use Rattle.plcs_store.specs.NewFrame.{First}
use Rattle.plcs_store.specs.Step.{PlainStepAnswer, Step}

-- the configuration that a step reaches, if it is made
abbrev pub stepped_to : Option PlainStepAnswer → Option PlainConfiguration
stepped_to None = None
stepped_to (Some (PlainStepAnswer.stepped next)) = Some next
stepped_to (Some (PlainStepAnswer.stopped reason)) = None
stepped_to (Some PlainStepAnswer.ended) = None

-- the configuration that one more step of a program reaches
abbrev pub next_configuration :
    (program : Forest) → (input : List ℕ) → PlainConfiguration → Option PlainConfiguration
next_configuration program input c = stepped_to (Step program input c)

-- the configuration that so many steps of a program's run over an input reach, from its first one on; none where
-- fewer can be made
abbrev pub configuration_after : (program : Forest) → (input : List ℕ) → (steps : ℕ) → Option PlainConfiguration
configuration_after program input zero = Some (First program)
configuration_after program input (suc steps) =
    option_and_then (next_configuration program input) (configuration_after program input steps)
