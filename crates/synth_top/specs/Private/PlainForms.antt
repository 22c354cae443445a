-- The plain forms of the types of this crate: of what words give, of options and tasks, and of the first loads.
use Rattle.std.specs.Prelude.{ℕ, Vec, option_map}
use Rattle.std.specs.declared.alloc.Global.{Global}
use Rattle.template_tree.specs.Programs.PlainTree.{PlainTree, roomless_tree}
use Rattle.synth_session.specs.KeyReply.{Reply}
use Rattle.synth_top.specs.declared.command.Given.{Given}
use Rattle.synth_top.specs.declared.loading.FileLoad.{FileLoad}
use Rattle.synth_top.specs.declared.loading.FirstLoads.{FirstLoads}
use Rattle.synth_top.specs.declared.options.Options.{Options}
use Rattle.synth_top.specs.declared.task.Task.{Task}
use Rattle.synth_top.specs.Given.{PlainGiven}
use Rattle.synth_top.specs.Loads.{InputReply, PlainFirstLoads}
use Rattle.synth_top.specs.Options.{PlainOptions}
use Rattle.synth_top.specs.Task.{PlainTask}

-- the plain form of what words give
abbrev pub plain_given : Given → PlainGiven
plain_given g = record {
  rows = option_map (λ text. text.now) g.rows;
  cols = option_map (λ text. text.now) g.cols;
  keys = option_map (λ text. text.now) g.keys;
  input = option_map (λ text. text.now) g.input;
  make = option_map (λ text. text.now) g.make;
  program = option_map (λ text. text.now) g.program;
}

-- the plain form of options
abbrev pub plain_options : Options → PlainOptions
plain_options o = record {
  size = o.size;
  key_limit = o.key_limit;
  program = option_map (λ name. name.now) o.program;
  input = option_map (λ name. name.now) o.input;
}

-- the plain form of a task
abbrev pub plain_task : Task → PlainTask
plain_task (Task.Edit options) = PlainTask.Edit (plain_options options)
plain_task (Task.Make number) = PlainTask.Make number

-- the plain form of what came of loading the program: a tree without its room
abbrev pub program_reply : FileLoad PlainTree → Reply
program_reply FileLoad.NotAsked = Reply.NotAsked
program_reply (FileLoad.Loaded tree) = Reply.Loaded (roomless_tree tree)
program_reply (FileLoad.Refused refusal) = Reply.Refused refusal

-- the plain form of what came of loading the input
abbrev pub input_reply : FileLoad (Vec ℕ Global) → InputReply
input_reply FileLoad.NotAsked = InputReply.NotAsked
input_reply (FileLoad.Loaded bytes) = InputReply.Loaded bytes.items
input_reply (FileLoad.Refused refusal) = InputReply.Refused refusal

-- the plain form of both first loads
abbrev pub plain_first_loads : FirstLoads → PlainFirstLoads
plain_first_loads loads = record { program = program_reply loads.program; input = input_reply loads.input }
