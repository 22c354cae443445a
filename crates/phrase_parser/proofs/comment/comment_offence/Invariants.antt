use Rattle.std.proofs.Common.{length, ◌-◌, ◌≡◌, drop}
use Rattle.plcs_grammar.specs.Comment.{comment_offence}
use Rattle.phrase_parser.proofs.comment.comment_offence.Given as goal

abbrev pub invariant-loop-place : goal.invariant-loop-place
invariant-loop-place l = comment_offence l.place (drop l.place l.text) ≡ comment_offence 0 l.text

abbrev pub decreases-loop-place : goal.decreases-loop-place
decreases-loop-place l = length l.text - l.place
