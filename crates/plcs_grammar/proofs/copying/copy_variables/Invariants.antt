use Rattle.std.proofs.Common.{◌≡◌, map, take}
use Rattle.plcs_grammar.specs.PlainPhrase.{plain_var_ref}
use Rattle.plcs_grammar.proofs.copying.copy_variables.Given as goal

abbrev pub invariant-loop-variable : goal.invariant-loop-variable
invariant-loop-variable l = map plain_var_ref l.copies.items ≡ map plain_var_ref (take l.variable-index l.variables)
