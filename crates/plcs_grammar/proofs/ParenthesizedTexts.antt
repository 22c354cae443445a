-- A text in parentheses, put in turn.
use Rattle.std.proofs.Common.{ℕ, List, ◌++◌}
use Rattle.plcs_base.specs.Put.{PutsAll, puts_next}
use Rattle.plcs_base.specs.Putting.{puts_append, puts_behind}
use Rattle.plcs_grammar.specs.Canon.{parenthesized_bytes}

-- putting a name, a parenthesis, a text and a parenthesis puts the text in parentheses behind the name
pub puts_parenthesized : {Out : Type 0} {puts : Out → ℕ → Out → Type 0} {a b c d e : Out} {name inner : List ℕ}
    → PutsAll puts a name b → puts b 40 c → PutsAll puts c inner d → puts d 41 e
    → PutsAll puts a (name ++ parenthesized_bytes inner) e
puts_parenthesized before left inside right = puts_append before (puts_next left (puts_behind inside right))
