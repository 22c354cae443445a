-- The session in the code: its plain form, the conditions between its parts, and what becomes of it in a key.
use Rattle.std.specs.Prelude.{◌≡◌, ◌≢◌, ◌+◌, ◌*◌, ◌<◌, ◌≤◌, Bool, true, false, IsTrue, IfSome, IsSomeAnd, List, [], ◌∷◌, is_some, option_map, unwrap_or, Result, Ok, Err}
use Rattle.std.specs.List.{All}
use Rattle.plcs_base.specs.PlainCounts.{PlainCounts}
use Rattle.plcs_base.specs.declared.memory.OutOfMemory.{OutOfMemory}
use Rattle.synth_outside.specs.Files.{PlainFiles}
use Rattle.template_tree.specs.Programs.Limit.{most_slots}
use Rattle.template_tree.specs.Checks.Marks.{Verdicts, offences}
use Rattle.template_tree.specs.Programs.PlainTree.{Forest, PlainTree, roomless, roomless_tree}
use Rattle.template_tree.specs.Positions.Path.{node_at}
use Rattle.template_tree.specs.Positions.Stop.{IsStop, MayStand, line_at, plain_stop}
use Rattle.template_tree.specs.Programs.Tree.{IsTree}
use Rattle.template_tree.specs.Edits.Reversal.{Back}
use Rattle.tree_steps.specs.SlotAgreement.{AgreesWith}
use Rattle.plcs_store.specs.declared.run_state.Run.{Run}
use Rattle.plcs_store.specs.declared.undo.Undo.{Undo}
use Rattle.plcs_store.specs.Configuration.{plain_configuration}
use Rattle.plcs_store.specs.Fits.{Fits}
use Rattle.plcs_store.specs.Resume.{IsKeptOf, kept_of}
use Rattle.plcs_code.specs.Gen.{PlainCode}
use Rattle.code_patch.specs.CodeEdit.{IsCodeTreeOf, PlainCodeTree}
use Rattle.code_patch.specs.CodeForest.{told_code}
use Rattle.back_steps.specs.EarlierConfigurations.{configurations_before}
use Rattle.decl_table.specs.Agreement.{IsDeclsOf}
use Rattle.clip_store.specs.PlainClips.{kept_pairs}
use Rattle.edit_undo.specs.EarlierTree.{EarlierTree, RingFits, trees_before}
use Rattle.edit_undo.specs.declared.edit_record.EditRecord.{EditRecord}
use Rattle.unparse_layout.specs.Agreement.{IsLayoutOf}
use Rattle.screen_window.specs.HeldLines.{HoldLinesOf}
use Rattle.screen_window.specs.PlainGrid.{PlainGrid}
use Rattle.screen_window.specs.Screen.{window_rows}
use Rattle.synth_session.specs.declared.answer.Answer.{Answer}
use Rattle.synth_session.specs.declared.program.Dependents.{Dependents}
use Rattle.synth_session.specs.declared.program.Program.{Program}
use Rattle.synth_session.specs.declared.session.Session.{Session}
use Rattle.synth_session.specs.KeyReply.{FilesDo, Reply, Request}
use Rattle.synth_session.specs.CountedKey.{CountsPressed, CountsPressedAtMost}
use Rattle.synth_session.specs.KeyOutcome.{KeyOutcome}
use Rattle.synth_session.specs.PlainRun.{PlainRun}
use Rattle.synth_session.specs.PlainSession.{PlainSession}
use Rattle.synth_session.specs.ProgramCode.{code_of}
use Rattle.synth_session.specs.RefusalText.{shown_message}
use Rattle.synth_session.specs.Tick.{Steps, code_steps}

-- the plain form of a run in the code, with the records of its latest steps; until something is kept, what is kept for
-- it is what the program holds
abbrev pub plain_run : (program : Forest) → List Undo → Run → PlainRun
plain_run program undos run = record {
  configuration = plain_configuration run.state;
  reason = run.reason;
  kept = unwrap_or run.kept (kept_of program (plain_configuration run.state));
  earlier = configurations_before undos (plain_configuration run.state);
}

-- the plain form of a session in the code; its clips are shown as they are kept, with nothing elided
abbrev pub plain_session : {W : Type 0} → Session W → PlainSession
plain_session s = record {
  size = record { rows = s.screens.shown.rows; cols = s.screens.shown.cols };
  tree = roomless_tree s.program.tree;
  stop = plain_stop s.stop;
  top = s.top;
  typed = s.typed.items;
  clips = kept_pairs s.clips.pairs;
  input = s.input;
  trace = s.trace;
  message = shown_message s.message;
  code_from = s.code_from;
  run = option_map (plain_run (roomless_tree s.program.tree).items s.run.undos) s.run.run;
  asked = s.asked;
  made = s.made;
  earlier = trees_before s.edits (roomless_tree s.program.tree);
}

-- the screen that a session in the code painted last
abbrev pub shown_grid : {W : Type 0} → Session W → PlainGrid
shown_grid s = s.screens.shown

-- the screen that a session in the code paints next: the one that it drew
abbrev pub next_grid : {W : Type 0} → Session W → PlainGrid
next_grid s = s.screens.next

-- the code of the program as a session in the code has it
abbrev pub code_view : {W : Type 0} → Session W → PlainCode
code_view s = told_code s.program.dependents.code.items

-- the steps that a session in the code makes: those by the code that it has, whatever that is, with its input
abbrev pub own_steps : {W : Type 0} → Session W → Steps
own_steps s = code_steps (code_view s) s.input

-- what depends on the program of a session in the code is that of this tree: its layout, its table of declarations
-- and its verdicts
pub record DependOn {W : Type 0} (dependents : Dependents W) (tree : PlainTree) : Type 0 where
  pub layout : IsLayoutOf dependents.layout tree
  pub decls : IsDeclsOf dependents.decls tree.items
  pub marks : dependents.marks.verdicts ≡ Verdicts tree.items

-- the program of a session in the code is a tree, what depends on it is that of this tree, and the lines that are held
-- are the tree's, under its marks
pub record Agrees {W : Type 0} (program : Program W) : Type 0 where
  pub tree : IsTree program.tree
  pub dependents : DependOn program.dependents program.tree
  pub lines : HoldLinesOf (offences program.dependents.marks.verdicts) (roomless program.tree.items) program.lines

-- a condition of a session: the cursor stands at a visible stop, and the window begins at a line that a program can
-- have
pub record IsPlaced (s : PlainSession) : Type 0 where
  pub stop : IsStop s.tree.items s.stop
  pub top : s.top ≤ 4 * most_slots

-- a condition of a session: the cursor's line is in the window
pub record IsSeen (s : PlainSession) : Type 0 where
  pub from : s.top ≤ line_at s.tree.items s.stop
  pub to : line_at s.tree.items s.stop < s.top + window_rows s.size.rows

-- the parts of a session keep the conditions between them, and the cursor is seen
pub record IsSession {W : Type 0} (s : Session W) : Type 0 where
  pub agrees : Agrees s.program
  pub placed : IsPlaced (plain_session s)
  pub seen : IsSeen (plain_session s)

-- a code tree keeps the code of the program, and tells it
pub record IsCodeFor (code : PlainCodeTree) (tree : PlainTree) : Type 0 where
  pub keeps : IsCodeTreeOf code tree
  pub tells : told_code code.items ≡ code_of tree

-- the code of a program in a session in the code is that of its tree
abbrev pub HasCode : {W : Type 0} → Program W → Type 0
HasCode program = IsCodeFor program.dependents.code (roomless_tree program.tree)

-- a condition of a session: the code that it has is that of its program
abbrev pub HasProgramCode : {W : Type 0} → Session W → Type 0
HasProgramCode s = HasCode s.program

-- ---- the run that stands

-- a run came to stand in a program with which this one agrees by its slots, and each to which can be gone back, once
-- it comes back; and this is what is kept of it
pub record CameToStand (tree : PlainTree) (earlier : List EarlierTree) (run : PlainRun) : Type 0 where
  pub before : PlainTree
  pub is_tree : IsTree before
  pub agrees : AgreesWith before tree
  pub earlier_agree : All (λ other. AgreesWith before (Back tree other.tree)) earlier
  pub fits : Fits before.items run.configuration
  pub kept : IsKeptOf before.items run.configuration run.kept

-- a run that stands may be asked whether it goes on in the program, and may go back: where nothing is kept yet it fits
-- the program, and else it came to stand in one with which this agrees, and those to which can be gone back. Each
-- earlier configuration that is held fits the program, and where one is held, so does the run's own
pub record MayGoOn (tree : PlainTree) (before : List EarlierTree) (is_kept : Bool) (run : PlainRun) : Type 0 where
  pub unkept : is_kept ≡ false → Fits tree.items run.configuration
  pub stood : is_kept ≡ true → CameToStand tree before run
  pub earlier : All (Fits tree.items) run.earlier
  pub with_earlier : run.earlier ≢ [] → Fits tree.items run.configuration

-- a condition of a session: its run, if one stands, may be asked whether it goes on, and may go back
abbrev pub HasFittingRun : {W : Type 0} → Session W → Type 0
HasFittingRun s =
    IfSome s.run.run (λ run.
    MayGoOn (roomless_tree s.program.tree) (plain_session s).earlier (is_some run.kept)
    (plain_run (roomless_tree s.program.tree).items s.run.undos run))

-- ---- the edits that can be undone

-- the stop of an earlier tree stands in it, shown or hidden
abbrev pub HasStop : EarlierTree → Type 0
HasStop earlier =
    IsSomeAnd (node_at earlier.tree.items earlier.stop.path) (λ node. MayStand earlier.stop.part node.label.kind)

-- each of the trees to which can be gone back agrees by its slots with those that came after it, and no more slots
-- were drawn in it
abbrev pub AgreeInTurn : (now : PlainTree) → List EarlierTree → Type 0
AgreeInTurn now [] = Unit {0}
AgreeInTurn now (latest ∷ others) =
    All (λ earlier. AgreesWith earlier.tree now × (earlier.tree.drawn ≤ now.drawn)) (latest ∷ others)
    × AgreeInTurn latest.tree others

-- the records of edits fit the tree to which they led, each tree before it has its stop, and the trees agree
pub record EditsFit (edits : List EditRecord) (tree : PlainTree) : Type 0 where
  pub fits : RingFits edits tree
  pub stops : All HasStop (trees_before edits tree)
  pub agree : AgreeInTurn tree (trees_before edits tree)

-- a condition of a session: its edits fit its program
abbrev pub HasFittingEdits : {W : Type 0} → Session W → Type 0
HasFittingEdits s = EditsFit s.edits (roomless_tree s.program.tree)

-- the conditions of a session for a key: its parts keep those between them, its code is that of its program, its run
-- may go on, and its edits can be undone
pub record IsReadyForKey {W : Type 0} (s : Session W) : Type 0 where
  pub session : IsSession s
  pub code : HasProgramCode s
  pub run : HasFittingRun s
  pub edits : HasFittingEdits s

-- ---- what became of a session

-- what became of a session in a key that may take memory, or may not: its outcome, or memory ran out and the session
-- is as it was
abbrev pub Meets : (may_take_memory : Bool) → KeyOutcome → PlainSession → PlainSession → Result Answer OutOfMemory
    → Type 0
Meets may_take_memory outcome before now (Ok answer) = (now ≡ outcome.after) × (answer ≡ outcome.answer)
Meets may_take_memory outcome before now (Err error) = IsTrue may_take_memory × (now ≡ before)

-- what became of a session in a key: it did this, as far as memory allows; the session keeps its conditions, and its
-- screens stay
pub record Does {W : Type 0} (may_take_memory : Bool) (outcome : KeyOutcome) (before now : Session W)
    (result : Result Answer OutOfMemory) : Type 0 where
  pub session : IsReadyForKey now
  pub screens : now.screens ≡ before.screens
  pub met : Meets may_take_memory outcome (plain_session before) (plain_session now) result

-- what a key with this outcome counts where memory runs out: no more of anything than it says
abbrev pub CountsWanted : KeyOutcome → (before now : PlainCounts) → Type 0
CountsWanted outcome before now = CountsPressedAtMost outcome.checks outcome.emits outcome.fetches before now

-- what a key with this outcome counts: no more phrases are checked and no more instructions emitted than it says, just
-- so many instructions are fetched, or at most so many where memory ran out, and no line is laid out
abbrev pub CountsOutcome : KeyOutcome → (before now : PlainCounts) → Result Answer OutOfMemory → Type 0
CountsOutcome outcome before now (Ok answer) =
    CountsPressed outcome.checks outcome.emits outcome.fetches outcome.fetches before now
CountsOutcome outcome before now (Err error) = CountsWanted outcome before now

-- what became of a session in a key that asked this: it did this, by what was replied, as far as memory allows, and
-- counted what its outcome says
pub record DoesByReply {W : Type 0} (may_take_memory : Bool) (request : Request) (outcome : Reply → KeyOutcome)
    (before now : Session W) (files_before files_now : PlainFiles) (counts_before counts_now : PlainCounts)
    (result : Result Answer OutOfMemory) : Type 0 where
  pub reply : Reply
  pub files : FilesDo request reply files_before files_now result
  pub does : Does may_take_memory (outcome reply) before now result
  pub counts : CountsOutcome (outcome reply) counts_before counts_now result
