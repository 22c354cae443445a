-- the value of the limit, which the definitions take from the code
mod Limits
-- `RefusedKeysChangeTheMessage`: each key in turn
pub mod RefusedKeys
-- `RunsHaveOneReply`: one answer to the questions of a resumption
pub mod OneResumption
-- `RunningKeysHaveRuns`, `StillKeysFetchNothing`: each key in turn
pub mod RunningKeys
-- `RunningKeysFit`: the keys in which a run goes on
pub mod FittingKeys
-- `tried`, `counted` and `rested` of try_step and rest: a step of the run that is held
pub mod TriedSteps
-- `fits` and `stays_fit` of try_step: a step of a run that fits
pub mod FittingSteps
-- `defined`, `same` and `wanted` of steps_are_the_programs: the steps by the code of the program
pub mod ProgramTicks
-- `counted` of make_steps and show_step: what is fetched in steps
pub mod FetchedSteps
-- `does` of show_step: a step that is shown
pub mod ShownStep
-- `does` and `counted` of make_steps: the steps one after the other
pub mod AllSteps
-- `TicksKeepProgram`, `ShownTicksGoOn`: the steps of ticks
pub mod ShownTicks
-- `TextsHaveOneReply`, clauses of enter_text and entered_phrase, and `read` of read_phrase: what the parser answers is what
-- the text is
pub mod StandingTexts
-- the conditions of the trees to which can be gone back, in each command that changes the program
pub mod EarlierAgreements
-- the stops of the trees to which can be gone back
pub mod NotedStops
-- clauses of stop_or_comment: where the cursor goes for a stop
pub mod StopsOrComments
-- clauses of obey and of keys that may take memory: what a command did, and what is counted then
pub mod ObeyedCommands
-- clauses of keep_for_run, edit, cut and toggle_comment: what is kept for the run that stands
pub mod KeptRuns
-- clauses of accept_edit, edit and cut: an edit that is noted
pub mod NotedEdits
-- clauses of undo_edit: the edits that are left
pub mod UndoneEdits
-- `UndoComesBack`, `EditsAreKept`: the session that comes back, and the edits that are kept
pub mod UndoneSessions
-- clauses of edit, copy, cut and undo_edit: what comes of an edit that is made or refused, and what is counted then
pub mod EditOutcomes
-- clauses of edit, copy, cut, accept_edit and undo_edit: what comes of an edit that is made, or undone, and of a clip
-- that is filled
pub mod AcceptedEdits
-- `Answers` of toggle_comment: the cursor may stay at a comment that is turned
pub mod TurnedStops
-- `sound` of copy_phrase_at: what stands in a part may be inserted
pub mod SoundPhrases
-- `text` of line_text, and `put` of LineText
pub mod LineTexts
-- clauses of slots_there and copy_there
pub mod ClipFragments
-- `agrees` and `code` of change and undo: what depends on the program where an edit is undone
pub mod AgreeingDependents
-- clauses of Dependents::renew, of what it calls, of change and of undo: what is prepared of an edit, and what is
-- counted for it
pub mod PreparedPrograms
-- `rows`, `many` and `counted` of fill
pub mod CodeLines
-- `span` and `count` of code_span
pub mod NodeCodes
-- `text` of fill_row, and `put` of CodeLine
pub mod CodeRowTexts
-- `back` of take_back
pub mod RunsTakenBack
-- `code` of made_code, toggle_elision and prepare_code: the code that is kept of a tree
pub mod ProgramCodes
-- `counts` of Dependents::renew and of keys that are refused, and clauses of copy and cut: what is counted at most
pub mod CountedPrograms
-- the run of a session in begin_run, go_back and add_input
pub mod FittingRuns
-- the run of a session in go_on, and what is asked of it there; resume and step_on
pub mod ResumedRuns
-- `session`, `code`, `ready` and `same` of draw: a session whose next screen was drawn
pub mod DrawnSessions
-- `DoesByReply` of keys and commands that ask nothing of the files
pub mod UnaskedKeys
-- `counts` of keys in which memory runs out
pub mod WantedCounts
-- `DoesByReply` of save and load: what the files did
pub mod FileReplies
-- `counts` of Dependents::of: a check for each phrase
pub mod CheckedPhrases
