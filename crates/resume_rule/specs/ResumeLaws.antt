-- The laws of resumption: what fitted a tree and may be resumed in an edited one fits that, what is kept has an entry
-- for each frame, and what the answer depends on.
use Rattle.std.specs.Prelude.{◌≡◌, ◌↔◌, ℕ, List, map, Option, None}
use Rattle.template_tree.specs.Checks.Environment.{Items}
use Rattle.template_tree.specs.Edits.Edit.{edit_at}
use Rattle.template_tree.specs.Edits.Elision.{toggled}
use Rattle.template_tree.specs.Programs.PlainTree.{Forest, PlainTree, roomless}
use Rattle.template_tree.specs.Programs.Tree.{IsTree}
use Rattle.tree_steps.specs.EditStep.{CameByEdits, substance}
use Rattle.tree_steps.specs.SlotAgreement.{AgreesWith}
use Rattle.plcs_store.specs.declared.kept.Kept.{Kept}
use Rattle.plcs_store.specs.declared.refusal.ResumeRefusal.{ResumeRefusal}
use Rattle.plcs_store.specs.Configuration.{PlainConfiguration}
use Rattle.plcs_store.specs.Fits.{Fits}
use Rattle.plcs_store.specs.Resume.{IsKeptOf, MayResume, heading_parts, resolved, template_held}
use Rattle.resume_rule.specs.ResumeAnswer.{HasEntries}

-- ---- what is resumed fits

-- a configuration fitted the earlier tree, of which something is kept for it; the later tree agrees with that one by
-- its slots. Where it may be resumed in the later tree it fits that, once its newest place is resolved. Edits give this
-- agreement and keep it, and so does going back to a kept tree
abbrev pub ResumedRunsFit : Type 0
ResumedRunsFit =
    (earlier later : PlainTree) (c : PlainConfiguration) (kept : Kept) → IsTree earlier → IsTree later
    → AgreesWith earlier later
    → Fits earlier.items c → IsKeptOf earlier.items c kept → MayResume kept c later.items None
    → Fits later.items (resolved later.items c)

-- so it is where the later tree came from the earlier one by any list of edits
abbrev pub EditedRunsFit : Type 0
EditedRunsFit =
    (earlier later : PlainTree) (c : PlainConfiguration) (kept : Kept) → IsTree earlier → IsTree later
    → CameByEdits earlier later
    → Fits earlier.items c → IsKeptOf earlier.items c kept → MayResume kept c later.items None
    → Fits later.items (resolved later.items c)

-- the law of resumption where nothing was edited: the newest place is resolved already, and what fits a program goes on
-- where it stands
abbrev pub FittingRunsResolved : Type 0
FittingRunsResolved = (program : Forest) (c : PlainConfiguration) → Fits program c → resolved program c ≡ c

-- ---- what is kept

-- what is kept for a configuration that fits has an entry for each frame, as the question asks of it
abbrev pub KeptHasEntries : Type 0
KeptHasEntries =
    (program : Forest) (c : PlainConfiguration) (kept : Kept) → Fits program c → IsKeptOf program c kept
    → HasEntries c kept

-- ---- what the answer depends on

-- as a law of resumption asks, two programs have the same for each frame of a configuration: the phrases of its
-- heading, its effective items, and the kind and the parts of what stands in the slot of its place
pub record HasSameForFrames (one other : Forest) (c : PlainConfiguration) : Type 0 where
  pub headings :
      map (λ frame. heading_parts one frame.procedure.0) c.frames
      ≡ map (λ frame. heading_parts other frame.procedure.0) c.frames
  pub declared : map (λ frame. Items one frame.procedure.0) c.frames
      ≡ map (λ frame. Items other frame.procedure.0) c.frames
  pub held :
      map (λ frame. template_held one frame.place.slot.0) c.frames
      ≡ map (λ frame. template_held other frame.place.slot.0) c.frames

-- the answer is the same in programs that have the same for each frame; whatever else was edited doesn't count
abbrev pub AnswersFollowFrames : Type 0
AnswersFollowFrames =
    (one other : Forest) (c : PlainConfiguration) (kept : Kept) (answer : Option ResumeRefusal)
    → HasSameForFrames one other c
    → MayResume kept c one answer → MayResume kept c other answer

-- a change that was changed back doesn't count: a run may be resumed in a program that has for each frame what the
-- earlier one had when something was kept of it
abbrev pub ChangedBackResumes : Type 0
ChangedBackResumes =
    (earlier later : Forest) (c : PlainConfiguration) (kept : Kept) → IsKeptOf earlier c kept
    → HasSameForFrames later earlier c
    → MayResume kept c later None

-- programs of the same substance have the same for each frame, whatever the run that is to be resumed
abbrev pub SubstanceHasSame : Type 0
SubstanceHasSame =
    (one other : Forest) (c : PlainConfiguration) → substance one ≡ substance other → HasSameForFrames one other c

-- the answer to whether a run may be resumed doesn't depend on the room of lists
abbrev pub AnswersIgnoreRoom : Type 0
AnswersIgnoreRoom =
    (program : Forest) (c : PlainConfiguration) (kept : Kept) (answer : Option ResumeRefusal)
    → MayResume kept c (roomless program) answer ↔ MayResume kept c program answer

-- the answer to whether a run may be resumed doesn't depend on which comments are elided
abbrev pub AnswersIgnoreElision : Type 0
AnswersIgnoreElision =
    (program : Forest) (path : List ℕ) (c : PlainConfiguration) (kept : Kept) (answer : Option ResumeRefusal)
    → MayResume kept c (edit_at toggled path program) answer ↔ MayResume kept c program answer
