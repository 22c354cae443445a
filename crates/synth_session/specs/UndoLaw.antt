-- The law of `.undo`: whatever was done since, it gives back the program before the latest edit that is kept, with its
-- slots and so its marks and its code, and the cursor where it stood.
use Rattle.std.specs.Prelude.{◌≡◌, ◌≤◌, ℕ, List, ◌∷◌, Option}
use Rattle.plcs_store.specs.declared.kept.Kept.{Kept}
use Rattle.plcs_store.specs.declared.refusal.ResumeRefusal.{ResumeRefusal}
use Rattle.plcs_store.specs.Configuration.{PlainConfiguration}
use Rattle.plcs_store.specs.Resume.{MayResume}
use Rattle.template_tree.specs.declared.change.What.{What}
use Rattle.template_tree.specs.Edits.Edit.{whole}
use Rattle.template_tree.specs.Laws.CheckLaws.{CheckAlike}
use Rattle.template_tree.specs.Positions.Stop.{PlainStop}
use Rattle.template_tree.specs.Programs.PlainTree.{PlainNode, PlainTree}
use Rattle.edit_undo.specs.EarlierTree.{EarlierTree}
use Rattle.edit_undo.specs.EditLimit.{edit_weight, most_taken_slots}
use Rattle.synth_session.specs.EditCommands.{edited_session, kept_before}
use Rattle.synth_session.specs.PlainSession.{PlainSession}
use Rattle.synth_session.specs.ProgramCode.{code_of}
use Rattle.synth_session.specs.UndoCommand.{stop_or_comment, undo_outcome}

-- a session came back to one before an edit: its program is that, slots and all, but for what is hidden, and so it
-- checks as that and has its code; the cursor is where it stood, or at the comment that hides that; and a run may be
-- resumed where it might be before
pub record CameBack (before now : PlainSession) : Type 0 where
  pub tree : whole now.tree.items ≡ whole before.tree.items
  pub checks : CheckAlike now.tree.items before.tree.items
  pub code : code_of now.tree ≡ code_of before.tree
  pub stop : now.stop ≡ stop_or_comment now.tree before.stop
  pub resumes :
      (kept : Kept) (c : PlainConfiguration) (answer : Option ResumeRefusal)
      → MayResume kept c before.tree.items answer → MayResume kept c now.tree.items answer

-- `.undo` comes back to the session before an edit wherever the tree before that is the latest that is kept, whatever
-- was done since
abbrev pub UndoComesBack : Type 0
UndoComesBack =
    (s later : PlainSession) (tree : PlainTree) (taken : Option PlainNode) (what : What) (slot : ℕ)
    (others : List EarlierTree)
    → later.earlier ≡ kept_before s tree taken what slot ∷ others → CameBack s (undo_outcome later).after

-- the tree before an edit is the latest that is kept, unless the edit took out more than may be held
abbrev pub EditsAreKept : Type 0
EditsAreKept =
    (s : PlainSession) (tree : PlainTree) (stop : PlainStop) (taken : Option PlainNode) (what : What) (slot : ℕ)
    → edit_weight taken ≤ most_taken_slots
    → (others : List EarlierTree)
    × ((edited_session s tree stop taken what slot).earlier ≡ kept_before s tree taken what slot ∷ others)
