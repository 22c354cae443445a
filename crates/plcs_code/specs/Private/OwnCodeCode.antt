-- How what own code is made of is told apart.
use Rattle.std.specs.Prelude.{ℕ, Bool, List, Option, refl}
use Rattle.std.specs.Coded.{Coded, code_by, coded×, coded_ℕ, coded_bool, coded_list, coded_option}
use Rattle.plcs_grammar.specs.declared.node_kind.NodeKind.{NodeKind}
use Rattle.plcs_grammar.specs.contracts.node_kind.NodeKind as kind_row
use Rattle.plcs_code.specs.OwnCode.{PlainOwnCode}
use Rattle.plcs_code.specs.PlainInstr.{PlainInstr}
use Rattle.plcs_code.specs.Private.InstrCode.{block_code}

-- a name that own code may have is told apart by its bytes
abbrev pub name_code : Coded (Option (List ℕ))
name_code = coded_option (coded_list coded_ℕ)

-- what own code is made of is told apart by its fields
abbrev pub own_code_code : Coded PlainOwnCode
own_code_code =
    code_by
    (ℕ × (NodeKind × (Option (List ℕ) × (Option (List ℕ) × (Bool × (Bool × (List PlainInstr × List PlainInstr)))))))
    (coded× coded_ℕ
    (coded× kind_row.the_row.coded
    (coded× name_code (coded× name_code (coded× coded_bool (coded× coded_bool (coded× block_code block_code)))))))
    (λ own. (
      own.slot,
      (
        own.kind,
        (
          own.name,
          (own.counter, (own.all_stopped, (own.one_stopped, (own.pieces.before, own.pieces.behind)))),
        ),
      ),
    ))
    (λ t.
    record {
      slot = t.0;
      kind = t.1.0;
      name = t.1.1.0;
      counter = t.1.1.1.0;
      all_stopped = t.1.1.1.1.0;
      one_stopped = t.1.1.1.1.1.0;
      pieces = record { before = t.1.1.1.1.1.1.0; behind = t.1.1.1.1.1.1.1 };
    })
    (λ _. refl)
