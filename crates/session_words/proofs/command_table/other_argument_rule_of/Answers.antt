use Rattle.session_words.proofs.CommandRows.{table_rule}
use Rattle.session_words.proofs.command_table.other_argument_rule_of.Goals as goal

pub returns : goal.returns
returns c =
    table_rule c.args.word.now c.other_rows.result.now c.argument_rule_among.result c.argument_rule_among.ensures c.other_rows.ensures
