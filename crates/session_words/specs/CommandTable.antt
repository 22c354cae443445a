-- The commands: their words, what each takes behind its word, and the command that it then is.
use Rattle.std.specs.Prelude.{ℕ, List, [], ◌∷◌, codes, bytes_eq, find, Option}
use Rattle.std.specs.Option.{option_map, option_or}
use Rattle.plcs_grammar.specs.declared.template.Template.{Template}
use Rattle.plcs_grammar.specs.Template.{template_of}
use Rattle.session_words.specs.declared.limit.TheConstants.{MOST_STEPS, MOST_STEPS_BACK, GREATEST_CODE_NUMBER}
use Rattle.session_words.specs.PlainCommand as command
use Rattle.session_words.specs.Argument as argument
use Rattle.session_words.specs.Argument.{PlainArgumentRule}

-- a row of the table of commands: the word of one, and what it takes behind its word
pub record PlainCommandRow : Type 0 where
  pub word : List ℕ
  pub rule : PlainArgumentRule

-- the row of the table of commands for a word and what its command takes
abbrev pub command_row : List ℕ → PlainArgumentRule → PlainCommandRow
command_row word rule = record { word = word; rule = rule }

-- the table of the commands that fill in no template
abbrev pub other_commands : List PlainCommandRow
other_commands =
    command_row (codes "float") (argument.nothing command.float)
    ∷ command_row (codes "before") (argument.nothing command.before)
    ∷ command_row (codes "after") (argument.nothing command.after)
    ∷ command_row (codes "del") (argument.nothing command.del)
    ∷ command_row (codes "cut") (argument.name command.cut)
    ∷ command_row (codes "copy") (argument.name command.copy)
    ∷ command_row (codes "insert") (argument.name command.insert)
    ∷ command_row (codes "elide") (argument.nothing command.elide)
    ∷ command_row (codes "undo") (argument.nothing command.undo)
    ∷ command_row (codes "top") (argument.nothing command.top)
    ∷ command_row (codes "bottom") (argument.nothing command.bottom)
    ∷ command_row (codes "run") (argument.nothing command.run)
    ∷ command_row (codes "step") (argument.number 1 MOST_STEPS 1 command.step)
    ∷ command_row (codes "resume") (argument.nothing command.resume)
    ∷ command_row (codes "back") (argument.number 1 MOST_STEPS_BACK 1 command.back)
    ∷ command_row (codes "trace") (argument.nothing command.trace)
    ∷ command_row (codes "input") (argument.text command.input)
    ∷ command_row (codes "save") (argument.file command.save)
    ∷ command_row (codes "load") (argument.file command.load)
    ∷ command_row (codes "code") (argument.number 0 GREATEST_CODE_NUMBER 0 command.code)
    ∷ command_row (codes "quit") (argument.nothing command.quit)
    ∷ []

-- what the row of the word among these of the table says that its command takes, if there is one
abbrev pub argument_rule_in : List PlainCommandRow → List ℕ → Option PlainArgumentRule
argument_rule_in rows word = option_map (λ r. r.rule) (find (λ r. bytes_eq word r.word) rows)

-- what the command of a template takes: no argument
abbrev pub template_rule : Template → PlainArgumentRule
template_rule t = argument.nothing (command.template t)

-- what the command of the word takes, if there is one: the words of templates stand in the table of
-- templates
unfoldable pub argument_rule_of : List ℕ → Option PlainArgumentRule
argument_rule_of word = option_or (option_map template_rule (template_of word)) (argument_rule_in other_commands word)
