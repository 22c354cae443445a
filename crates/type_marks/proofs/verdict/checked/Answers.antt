use Rattle.std.proofs.Common.{◌∙◌}
use Rattle.plcs_grammar.specs.PlainPhrase.{plain_phrase}
use Rattle.type_marks.proofs.KnownNames.{same_verdict}
use Rattle.type_marks.proofs.verdict.checked.Goals as goal

pub returns-clause-verdict : goal.returns-clause-verdict
returns-clause-verdict g c =
    c.counted.ensures.verdict
    ∙ c.phrase_offence-offence.ensures
    ∙ same_verdict c.args.decls.now c.args.tree.now.items c.args.procedure.now c.args.slot.0 c.requires.there (plain_phrase c.args.phrase.now) c.requires.known.items
