-- Which answer is right where a run is to be resumed, and what has to be kept for the question.
use Rattle.std.specs.Prelude.{◌≡◌, ◌↔◌, ◌≤◌, List, length, Option, None}
use Rattle.plcs_base.specs.declared.declared.Declared.{Declared}
use Rattle.template_tree.specs.Programs.PlainTree.{Forest}
use Rattle.plcs_store.specs.declared.frame.Frame.{Frame}
use Rattle.plcs_store.specs.declared.held_template.HeldTemplate.{HeldTemplate}
use Rattle.plcs_store.specs.declared.kept.Kept.{Kept}
use Rattle.plcs_store.specs.declared.refusal.ResumeRefusal.{ResumeRefusal}
use Rattle.plcs_store.specs.Configuration.{PlainConfiguration}
use Rattle.plcs_store.specs.Resume.{AsksFrame, AsksFrames, MayResume, Parts}

-- there is a frame, and something is kept for each: each of the three lists of what is kept has an entry for each frame
pub record HasEntries (c : PlainConfiguration) (kept : Kept) : Type 0 where
  pub some : 1 ≤ length c.frames
  pub headings : length kept.headings ≡ length c.frames
  pub declared : length kept.declared ≡ length c.frames
  pub held : length kept.held ≡ length c.frames

-- the answer is right, a refusal or none: by what is kept the run may be resumed with this answer, and with no other
abbrev pub IsResumeAnswer : Kept → PlainConfiguration → (program : Forest) → Option ResumeRefusal → Type 0
IsResumeAnswer kept c program answer =
    (other : Option ResumeRefusal) → MayResume kept c program other ↔ (other ≡ answer)

-- ---- the answers of its parts

-- the answer is right for the frames, each with what is kept for it, and no other is
abbrev pub IsFramesAnswer : (program : Forest) → List Frame → List Parts → List (List Declared) → List HeldTemplate
    → Option ResumeRefusal → Type 0
IsFramesAnswer program frames headings declared held answer =
    (other : Option ResumeRefusal) → AsksFrames program frames headings declared held other ↔ (other ≡ answer)

-- the answer is right for a frame alone, with what is kept for it
abbrev pub IsFrameAnswer : (program : Forest) → Frame → Parts → List Declared → HeldTemplate → Option ResumeRefusal
    → Type 0
IsFrameAnswer program frame heading items template answer =
    AsksFrame program frame heading items template (λ other. other ≡ None) answer
