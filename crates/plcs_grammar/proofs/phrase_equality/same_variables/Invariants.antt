use Rattle.std.proofs.Common.{◌≡◌, map, take, length}
use Rattle.plcs_grammar.specs.PlainPhrase.{plain_var_ref}
use Rattle.plcs_grammar.proofs.phrase_equality.same_variables.Given as goal

abbrev pub invariant-loop-i : goal.invariant-loop-i
invariant-loop-i l = (length l.all ≡ length l.others) × (map plain_var_ref (take l.i l.all) ≡ map plain_var_ref (take l.i l.others))
