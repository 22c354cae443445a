-- The plain forms of what the words give and ask for.
use Rattle.std.specs.Prelude.{codes, option_map}
use Rattle.clap.specs.Words.{first_value}
use Rattle.clap.specs.declared.parser.matches.Found.{Found}
use Rattle.program_run.specs.declared.asked_run.AskedRun.{AskedRun}
use Rattle.program_run.specs.declared.command.GivenWords.{GivenWords}
use Rattle.program_run.specs.AskedRun.{PlainAskedRun}
use Rattle.program_run.specs.GivenWords.{PlainGivenWords}

-- the plain form of what the words give
abbrev pub plain_given_words : GivenWords → PlainGivenWords
plain_given_words g = record {
  steps = option_map (λ text. text.now) g.steps;
  program = option_map (λ text. text.now) g.program;
  input = option_map (λ text. text.now) g.input;
}

-- the plain form of a run that is asked for
abbrev pub plain_asked_run : AskedRun → PlainAskedRun
plain_asked_run a = record { steps = a.steps; program = a.program.now; input = option_map (λ name. name.now) a.input }

-- the plain form of what the words give, by what clap found in them
abbrev pub words_of_matches : Found → PlainGivenWords
words_of_matches found = record {
  steps = first_value found (codes "steps");
  program = first_value found (codes "program");
  input = first_value found (codes "input");
}
