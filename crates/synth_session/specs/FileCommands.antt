-- The commands of files, `.save` and `.load`.
use Rattle.std.specs.Prelude.{None, []}
use Rattle.cursor_moves.specs.Move.{first_stop}
use Rattle.session_words.specs.declared.message.Notice.{Notice}
use Rattle.synth_session.specs.declared.answer.Refusal.TheVariants as why
use Rattle.synth_session.specs.KeyReply.{Reply}
use Rattle.synth_session.specs.KeyOutcome.{KeyOutcome, line_notice_outcome, no_reply_outcome, program_acceptance_outcome, refusal_outcome}
use Rattle.synth_session.specs.PlainSession.{PlainSession}

-- what `.save` does, by what the files reply: it tells that the program was saved, and changes nothing else but the
-- line
abbrev pub save_outcome : PlainSession → Reply → KeyOutcome
save_outcome s Reply.Saved = line_notice_outcome s Notice.Saved
save_outcome s (Reply.Refused refusal) = refusal_outcome s (why.File refusal)
save_outcome s reply = no_reply_outcome s

-- what `.load` does, by what the files reply: the program that was loaded comes in place of the one that is edited, the
-- cursor goes to main, and the window to the top, no run stands any more, and nothing can be undone; the clips and the
-- input stay
abbrev pub load_outcome : PlainSession → Reply → KeyOutcome
load_outcome s (Reply.Loaded tree) =
    program_acceptance_outcome
    (record s { tree = tree; stop = first_stop tree.items; top = 0; run = None; earlier = [] })
load_outcome s (Reply.Refused refusal) = refusal_outcome s (why.File refusal)
load_outcome s reply = no_reply_outcome s
