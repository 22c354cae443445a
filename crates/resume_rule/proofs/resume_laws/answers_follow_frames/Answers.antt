use Rattle.resume_rule.proofs.SameAnswers.{answers_follow_frames, changed_back_resumes}
use Rattle.resume_rule.proofs.resume_laws.answers_follow_frames.Goals as goal

pub returns : goal.returns
returns c = record { same = answers_follow_frames; back = changed_back_resumes c.unedited_may_resume.ensures }
