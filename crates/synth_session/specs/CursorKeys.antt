-- The keys that move the cursor.
use Rattle.std.specs.Prelude.{◌==◌, if◌then◌else◌, length, Option, Some, None}
use Rattle.template_tree.specs.Programs.PlainTree.{Forest}
use Rattle.template_tree.specs.Positions.Stop.{PlainStop}
use Rattle.synth_session.specs.declared.answer.Refusal.TheVariants as why
use Rattle.synth_session.specs.KeyOutcome.{KeyOutcome, acceptance_outcome, refusal_outcome}
use Rattle.synth_session.specs.PlainSession.{PlainSession}

-- the cursor goes to the stop to which a key moves it, where there is one
abbrev pub cursor_goes : PlainSession → Option PlainStop → KeyOutcome
cursor_goes s None = refusal_outcome s why.AtEdge
cursor_goes s (Some stop) = acceptance_outcome (record s { stop = stop })

-- what a key that moves the cursor does: the cursor moves so, where nothing is typed
abbrev pub cursor_moved : PlainSession → (Forest → PlainStop → Option PlainStop) → KeyOutcome
cursor_moved s move =
    if length s.typed == 0 then cursor_goes s (move s.tree.items s.stop) else refusal_outcome s why.NotHere
