use Rattle.std.proofs.Common.{◌<◌, length, arith}
use Rattle.plcs_grammar.specs.PlainPhrase.{plain_var_ref}
use Rattle.plcs_grammar.proofs.EqualPlainPhrases.{differs_at}
use Rattle.plcs_grammar.proofs.phrase_equality.same_variables.Goals as goal

pub returns-then-not-same_variable : goal.returns-then-not-same_variable
returns-then-not-same_variable c =
    let i = c.loop-i.i in
    let inside : i < length c.args.all.now = omega arith in
    let within : i < length c.args.others.now = omega arith in
    differs_at plain_var_ref _ _ i _ _ inside within c.index-all-i.is c.index-others-i.is c.same_variable.ensures c.if-not-same_variable.true
