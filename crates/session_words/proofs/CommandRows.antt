-- The code's table of commands is the table of the definitions, row by row.
use Rattle.std.proofs.Common.{◌≡◌, ℕ, List, [], ◌∷◌, map, Option, Some, None, refl, sym, ap, ◌∙◌}
use Rattle.std.specs.Prelude.{bytes_eq, find}
use Rattle.std.specs.Option.{option_map, option_or}
use Rattle.std.proofs.lemmas.Bool.{cond_both, cond-true, cond-false}
use Rattle.plcs_grammar.specs.declared.template.Template.{Template}
use Rattle.plcs_grammar.specs.Template.{template_of}
use Rattle.session_words.specs.declared.command_table.CommandRow.{CommandRow}
use Rattle.session_words.specs.declared.argument_rule.ArgumentRule.{ArgumentRule}
use Rattle.session_words.specs.CommandTable.{PlainCommandRow, other_commands, argument_rule_in, template_rule, argument_rule_of}
use Rattle.session_words.specs.Private.PlainArgumentRule.{plain_argument_rule}
use Rattle.session_words.specs.Private.PlainCommandRow.{plain_command_row}

-- what a row of the code takes, for the row of a word
rows_rule : (word : List ℕ) (rows : List CommandRow)
    → option_map plain_argument_rule (option_map (λ r. r.rule) (find (λ r. bytes_eq word r.word.now) rows)) ≡ argument_rule_in (map plain_command_row rows) word
rows_rule word [] = refl
rows_rule word (r ∷ rows) =
    cond_both (bytes_eq word r.word.now) (Some r) (find (λ q. bytes_eq word q.word.now) rows)
    (λ found. option_map plain_argument_rule (option_map (λ q. q.rule) found) ≡ argument_rule_in (map plain_command_row (r ∷ rows)) word)
    (λ e. sym (ap (λ found. option_map (λ q. q.rule) found) (cond-true (bytes_eq word r.word.now) (Some (plain_command_row r)) (find (λ q. bytes_eq word q.word) (map plain_command_row rows)) e)))
    (λ e. rows_rule word rows ∙ sym (ap (λ found. option_map (λ q. q.rule) found) (cond-false (bytes_eq word r.word.now) (Some (plain_command_row r)) (find (λ q. bytes_eq word q.word) (map plain_command_row rows)) e)))

-- what is found among rows that stand for those of the definitions
pub table_rule : (word : List ℕ) (rows : List CommandRow) (found : Option ArgumentRule)
    → found ≡ option_map (λ r. r.rule) (find (λ r. bytes_eq word r.word.now) rows) → map plain_command_row rows ≡ other_commands
    → option_map plain_argument_rule found ≡ argument_rule_in other_commands word
table_rule word rows found e same =
    ap (λ (f : Option ArgumentRule). option_map plain_argument_rule f) e ∙ rows_rule word rows ∙ ap (λ (rs : List PlainCommandRow). argument_rule_in rs word) same

-- where a template's command has the word, that is what it takes
pub template_found : (word : List ℕ) (t : Template) → template_of word ≡ Some t → Some (template_rule t) ≡ argument_rule_of word
unfolding argument_rule_of
template_found word t e = sym (ap (λ found. option_or (option_map template_rule found) (argument_rule_in other_commands word)) e)

-- and else what another command takes
pub other_found : (word : List ℕ) → template_of word ≡ None → argument_rule_in other_commands word ≡ argument_rule_of word
unfolding argument_rule_of
other_found word e = sym (ap (λ found. option_or (option_map template_rule found) (argument_rule_in other_commands word)) e)
