-- How templates that are held are told apart.
use Rattle.std.specs.Prelude.{List, Option, refl}
use Rattle.std.specs.Coded.{Coded, code_by, coded×, coded_list}
use Rattle.plcs_grammar.specs.declared.node_kind.NodeKind.{NodeKind}
use Rattle.plcs_grammar.specs.contracts.node_kind.NodeKind as kind_row
use Rattle.plcs_grammar.specs.PlainPhrase.{PlainPhrase}
use Rattle.plcs_store.specs.declared.held_template.HeldTemplate.{HeldTemplate}
use Rattle.plcs_store.specs.Private.PartsCode.{parts_code}

-- templates that are held are told apart by their kinds and parts
abbrev pub template_code : Coded HeldTemplate
template_code =
    code_by (NodeKind × List (Option PlainPhrase)) (coded× kind_row.the_row.coded parts_code)
    (λ held. (held.kind, held.parts)) (λ t. record { kind = t.0; parts = t.1 }) (λ _. refl)

-- what is held of each frame's template is told apart by its items
abbrev pub held_code : Coded (List HeldTemplate)
held_code = coded_list template_code
