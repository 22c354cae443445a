use Rattle.std.proofs.Common.{◌∙◌, sym, arith, rules}
use Rattle.phrase_parser.proofs.Comments.CommentRefusals.{comment_within, comment_reads, comment_refused}
use Rattle.phrase_parser.proofs.comment.comment.Goals as goal

pub overflow_cast-result : goal.overflow_cast-result
overflow_cast-result c =
    omega (arith, comment_within c.args.text.now c.in-Some.place (sym c.comment_syntax.ensures ∙ c.in-Some.is), c.requires)

pub returns-in-Some : goal.returns-in-Some
returns-in-Some c = record { says = comment_refused c.args.text.now c.in-Some.place (sym c.comment_syntax.ensures ∙ c.in-Some.is) }

pub returns-in_ok-to_vec-in-None : goal.returns-in_ok-to_vec-in-None
returns-in_ok-to_vec-in-None c =
    record { says = comment_reads c.args.text.now c.in_ok-to_vec-in-None.field-0.items (sym c.comment_syntax.ensures ∙ c.in-None.is) (search rules) }
