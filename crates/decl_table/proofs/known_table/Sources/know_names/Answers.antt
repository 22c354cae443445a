use Rattle.std.proofs.Common.{◌∙◌}
use Rattle.plcs_grammar.specs.PlainPhrase.{plain_phrase}
use Rattle.decl_table.proofs.AddedUses.{then_ok}
use Rattle.decl_table.proofs.KnownSources.{kept_too}
use Rattle.decl_table.proofs.known_table.Sources.know_names.Goals as goal

pub returns-clause-items : goal.returns-clause-items
returns-clause-items c =
    then_ok c.know_these-known.result
    (λ knows name there.
    knows name (kept_too c.as_slice.result.now (plain_phrase c.args.phrase.now) (c.as_slice.ensures ∙ c.in-Ok.ensures) name there))
    c.know_these-known.ensures.items

pub returns-clause-headings : goal.returns-clause-headings
returns-clause-headings c =
    then_ok c.know_these-known.result
    (λ knows name there.
    knows name (kept_too c.as_slice.result.now (plain_phrase c.args.phrase.now) (c.as_slice.ensures ∙ c.in-Ok.ensures) name there))
    c.know_these-known.ensures.headings
