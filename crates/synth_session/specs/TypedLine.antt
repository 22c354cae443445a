-- The keys that change the typed line, and the phrase at the cursor, which Tab takes into it.
use Rattle.std.specs.Prelude.{ℕ, ◌-◌, ◌==◌, nat_lt, if◌then◌else◌, [], ◌∷◌, ◌++◌, length, take, Option, Some, None, option_and_then}
use Rattle.plcs_grammar.specs.Canon.{Canon}
use Rattle.plcs_grammar.specs.PlainPhrase.{PlainPhrase}
use Rattle.template_tree.specs.Programs.Part.{part_at}
use Rattle.template_tree.specs.Positions.Path.{node_at}
use Rattle.template_tree.specs.Programs.PlainTree.{PlainTree}
use Rattle.template_tree.specs.Positions.Stop.{PlainStop}
use Rattle.screen_window.specs.LowerRows.{cursor_part}
use Rattle.synth_session.specs.declared.answer.Refusal.TheVariants as why
use Rattle.synth_session.specs.declared.typed_line.TheConstants.{LINE_LIMIT}
use Rattle.synth_session.specs.KeyOutcome.{KeyOutcome, acceptance_outcome, refusal_outcome}
use Rattle.synth_session.specs.PlainSession.{PlainSession}

-- a printable byte comes behind the typed line, where that has room
abbrev pub char_typed : PlainSession → ℕ → KeyOutcome
char_typed s byte =
    if nat_lt (length s.typed) LINE_LIMIT
    then acceptance_outcome (record s { typed = s.typed ++ byte ∷ [] })
    else refusal_outcome s why.PhraseFull

-- the last byte of the typed line goes, where there is one
abbrev pub last_erased : PlainSession → KeyOutcome
last_erased s =
    if length s.typed == 0
    then refusal_outcome s why.NotHere
    else acceptance_outcome (record s { typed = take (length s.typed - 1) s.typed })

-- the phrase at the cursor, which Tab takes into the typed line: the one in the part at which the cursor stands, or of
-- the assignment on which it stands
unfoldable pub cursor_phrase : PlainTree → PlainStop → Option PlainPhrase
cursor_phrase tree stop =
    option_and_then
    (λ node. option_and_then (λ part. part_at node.label.parts part) (cursor_part node.label.kind stop.part))
    (node_at tree.items stop.path)

-- the canonical text of a phrase comes into the typed line, where there is a phrase and the line has room for it
abbrev pub text_typed : PlainSession → Option PlainPhrase → KeyOutcome
text_typed s None = refusal_outcome s why.NotHere
text_typed s (Some phrase) =
    if nat_lt LINE_LIMIT (length (Canon phrase))
    then refusal_outcome s why.PhraseFull
    else acceptance_outcome (record s { typed = Canon phrase })

-- what Tab does: the text of the phrase at the cursor comes into the typed line, where that is empty
abbrev pub phrase_typed : PlainSession → KeyOutcome
phrase_typed s =
    if length s.typed == 0 then text_typed s (cursor_phrase s.tree s.stop) else refusal_outcome s why.NotHere
