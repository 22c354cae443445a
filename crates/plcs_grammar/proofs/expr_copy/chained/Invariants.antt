use Rattle.std.proofs.Common.{◌≡◌, length}
use Rattle.plcs_grammar.specs.PlainPhrase.{plain_expr}
use Rattle.plcs_grammar.specs.Private.Link.{linked}
use Rattle.plcs_grammar.proofs.expr_copy.chained.Given as goal

abbrev pub invariant-loop-last : goal.invariant-loop-last
invariant-loop-last l = linked (plain_expr l.chain) l.links.items ≡ linked (plain_expr l.fn.operand) l.fn.links.items

abbrev pub decreases-loop-last : goal.decreases-loop-last
decreases-loop-last l = length l.links.items
