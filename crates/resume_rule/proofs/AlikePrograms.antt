-- `answers_ignore_room_and_elision`: programs that keep the same for each procedure and slot have the same for each
-- frame.
use Rattle.std.specs.Prelude.{◌↔◌, map, Option}
use Rattle.std.proofs.Common.{sym}
use Rattle.template_tree.specs.Edits.Edit.{edit_at}
use Rattle.template_tree.specs.Edits.Elision.{toggled}
use Rattle.template_tree.specs.Programs.PlainTree.{Forest, roomless}
use Rattle.plcs_store.specs.declared.frame.Frame.{Frame}
use Rattle.plcs_store.specs.declared.kept.Kept.{Kept}
use Rattle.plcs_store.specs.declared.refusal.ResumeRefusal.{ResumeRefusal}
use Rattle.plcs_store.specs.Configuration.{PlainConfiguration}
use Rattle.plcs_store.specs.Resume.{MayResume}
use Rattle.plcs_store.specs.RunsAlike.{KeepsAlike, RunsIgnoreElision, RunsIgnoreRoom, SubstanceKeepsAlike}
use Rattle.resume_rule.specs.ResumeLaws.{AnswersIgnoreElision, AnswersIgnoreRoom, HasSameForFrames, SubstanceHasSame}
use Rattle.resume_rule.proofs.SameAnswers.{answers_follow_frames}

same_for_frames : (one other : Forest) → KeepsAlike one other → (c : PlainConfiguration) → HasSameForFrames one other c
same_for_frames one other alike c =
    record {
      headings = λ i. map (λ (frame : Frame). alike.headings frame.procedure.0 i) c.frames;
      declared = λ i. map (λ (frame : Frame). alike.declared frame.procedure.0 i) c.frames;
      held = λ i. map (λ (frame : Frame). alike.held frame.place.slot.0 i) c.frames;
    }

turned_round : (one other : Forest) → KeepsAlike one other → KeepsAlike other one
turned_round one other alike =
    record {
      headings = λ slot. sym (alike.headings slot);
      declared = λ slot. sym (alike.declared slot);
      held = λ slot. sym (alike.held slot);
    }

both_answer : (one other : Forest) → KeepsAlike one other → (c : PlainConfiguration) (kept : Kept) (answer : Option ResumeRefusal)
    → MayResume kept c one answer ↔ MayResume kept c other answer
both_answer one other alike c kept answer = (
  answers_follow_frames one other c kept answer (same_for_frames one other alike c),
  answers_follow_frames other one c kept answer (same_for_frames other one (turned_round one other alike) c),
)

pub substance_has_same : SubstanceKeepsAlike → SubstanceHasSame
substance_has_same keeps one other c e = same_for_frames one other (keeps one other e) c

pub answers_ignore_room : RunsIgnoreRoom → AnswersIgnoreRoom
answers_ignore_room runs program c kept answer = both_answer (roomless program) program (runs program).keeps c kept answer

pub answers_ignore_elision : RunsIgnoreElision → AnswersIgnoreElision
answers_ignore_elision runs program path c kept answer =
    both_answer (edit_at toggled path program) program (runs program path).keeps c kept answer
