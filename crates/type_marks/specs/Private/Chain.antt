-- What is found in a chain of operators that is gone through from its end on.
use Rattle.std.specs.Prelude.{◌≡◌, Option, Some, None, Result, Ok, Err}
use Rattle.plcs_base.specs.declared.mark.MarkKind.{MarkKind}
use Rattle.plcs_base.specs.declared.value.Kind.{Kind}
use Rattle.plcs_grammar.specs.declared.operator.InfixOp.{InfixOp}
use Rattle.template_tree.specs.Checks.Verdict.{both_found, infix_found}
use Rattle.type_marks.specs.declared.chain.Chain.{Chain}
use Rattle.type_marks.specs.declared.chain.Link.{Link}

-- what is found in a whole chain, where this is found in its front: an offence there comes before a later one
abbrev pub with_later : (later : Option MarkKind) → (gives : Kind) → Result Kind MarkKind → Result Kind MarkKind
with_later later gives (Err offence) = Err offence
with_later None gives (Ok kind) = Ok gives
with_later (Some offence) gives (Ok kind) = Err offence

-- what is found in a whole chain whose operator furthest to the left is this, if it has one, where this is found to the
-- left of it
abbrev pub chain_ended : Option Link → Option MarkKind → Kind → Result Kind MarkKind → Result Kind MarkKind
chain_ended None later gives found = found
chain_ended (Some link) later gives found = with_later later gives (both_found found link.right (infix_found link.op))

-- what is found in the whole chain, where this is found in the operand to the left of it
abbrev pub chain_end : Chain → Result Kind MarkKind → Result Kind MarkKind
chain_end chain found = chain_ended chain.first chain.later chain.gives found

-- what is found in the other chain is what is found in the one behind one more operator, which stands before those of
-- that
abbrev pub EndsBefore : Chain → InfixOp → Result Kind MarkKind → Chain → Type 0
EndsBefore one op right other =
    (found : Result Kind MarkKind) → chain_end other found ≡ chain_end one (both_found found right (infix_found op))
