-- The command that hides the refinement of a comment, or shows it again.
use Rattle.std.specs.Prelude.{Bool, false, if◌then◌else◌}
use Rattle.std.specs.Option.{option_map_or}
use Rattle.template_tree.specs.Edits.Elision.{is_comment, with_toggled_at}
use Rattle.template_tree.specs.Positions.Path.{node_at}
use Rattle.template_tree.specs.Programs.PlainTree.{PlainTree}
use Rattle.template_tree.specs.Positions.Stop.{PlainStop}
use Rattle.synth_session.specs.declared.answer.Refusal.TheVariants as why
use Rattle.synth_session.specs.KeyOutcome.{KeyOutcome, line_acceptance_outcome, refusal_outcome}
use Rattle.synth_session.specs.PlainSession.{PlainSession}

-- whether the cursor stands on a comment, or at its text
unfoldable pub is_at_comment : PlainTree → PlainStop → Bool
is_at_comment tree stop = option_map_or (λ node. is_comment node.label.kind) (node_at tree.items stop.path) false

-- what `.elide` does: the refinement of the comment at the cursor is hidden, or shown again
abbrev pub comment_toggled : PlainSession → KeyOutcome
comment_toggled s =
    if is_at_comment s.tree s.stop
    then line_acceptance_outcome (record s { tree = with_toggled_at s.stop.path s.tree })
    else refusal_outcome s why.NotHere
