-- At most one thing can be replied to whether a run may go on: of two answers to the same questions either is the first
-- that holds.
use Rattle.std.proofs.Common.{◌≡◌, ◌⊎◌, inl, inr, ap, sym, refl, ◌∙◌, List, [], ◌∷◌, Option, Some, None}
use Rattle.plcs_base.specs.declared.declared.Declared.{Declared}
use Rattle.plcs_store.specs.declared.frame.Frame.{Frame}
use Rattle.plcs_store.specs.declared.held_template.HeldTemplate.{HeldTemplate}
use Rattle.plcs_store.specs.declared.kept.Kept.{Kept}
use Rattle.plcs_store.specs.declared.refusal.ResumeRefusal.{ResumeRefusal}
use Rattle.plcs_store.specs.Configuration.{PlainConfiguration}
use Rattle.plcs_store.specs.Resume.{Asks, AsksFrames, HeadingDiffers, ItemsDiffer, Parts, TemplateDiffers}
use Rattle.template_tree.specs.Programs.PlainTree.{Forest, PlainTree}
use Rattle.synth_session.specs.KeyReply.{IsResumeReply, Reply, RunsHaveOneReply}

-- at most one answer is so
abbrev Once : (Option ResumeRefusal → Type 0) → Type 0
Once more = (one other : Option ResumeRefusal) → more one → more other → one ≡ other

-- a question before more
asks_once : (question : Type 0) (refusal : ResumeRefusal) (more : Option ResumeRefusal → Type 0) → Once more → Once (Asks question refusal more)
asks_once question refusal more once one other (inl h) (inl k) = h.1 ∙ sym k.1
asks_once question refusal more once one other (inl h) (inr k) = absurd (k.0 h.0)
asks_once question refusal more once one other (inr h) (inl k) = absurd (h.0 k.0)
asks_once question refusal more once one other (inr h) (inr k) = once one other h.1 k.1

-- the questions for the frames
frames_once : (program : Forest) (frames : List Frame) (headings : List Parts) (declared : List (List Declared)) (held : List HeldTemplate)
    → Once (AsksFrames program frames headings declared held)
frames_once program [] headings declared held one other h k = h ∙ sym k
frames_once program (frame ∷ frames) [] declared held one other h k = absurd h
frames_once program (frame ∷ frames) (heading ∷ headings) [] held one other h k = absurd h
frames_once program (frame ∷ frames) (heading ∷ headings) (items ∷ declared) [] one other h k = absurd h
frames_once program (frame ∷ frames) (heading ∷ headings) (items ∷ declared) (template ∷ held) one other h k =
    asks_once (HeadingDiffers program frame heading) (ResumeRefusal.HeadingChanged frame.procedure)
    (Asks (ItemsDiffer program frame items) (ResumeRefusal.DeclarationChanged frame.procedure)
    (Asks (TemplateDiffers program frame template) (ResumeRefusal.TemplateChanged frame.place.slot)
    (AsksFrames program frames headings declared held)))
    (asks_once (ItemsDiffer program frame items) (ResumeRefusal.DeclarationChanged frame.procedure)
    (Asks (TemplateDiffers program frame template) (ResumeRefusal.TemplateChanged frame.place.slot)
    (AsksFrames program frames headings declared held))
    (asks_once (TemplateDiffers program frame template) (ResumeRefusal.TemplateChanged frame.place.slot)
    (AsksFrames program frames headings declared held)
    (frames_once program frames headings declared held)))
    one other h k

-- the law
pub runs_have_one_reply : RunsHaveOneReply
runs_have_one_reply kept c tree Reply.NotAsked other h k = absurd h
runs_have_one_reply kept c tree (Reply.Read standing) other h k = absurd h
runs_have_one_reply kept c tree Reply.Saved other h k = absurd h
runs_have_one_reply kept c tree (Reply.Loaded loaded) other h k = absurd h
runs_have_one_reply kept c tree (Reply.Refused refusal) other h k = absurd h
runs_have_one_reply kept c tree (Reply.Resumes one) Reply.NotAsked h k = absurd k
runs_have_one_reply kept c tree (Reply.Resumes one) (Reply.Read standing) h k = absurd k
runs_have_one_reply kept c tree (Reply.Resumes one) Reply.Saved h k = absurd k
runs_have_one_reply kept c tree (Reply.Resumes one) (Reply.Loaded loaded) h k = absurd k
runs_have_one_reply kept c tree (Reply.Resumes one) (Reply.Refused refusal) h k = absurd k
runs_have_one_reply kept c tree (Reply.Resumes one) (Reply.Resumes other) h k =
    ap Reply.Resumes (frames_once tree.items c.frames kept.headings kept.declared kept.held one other h k)
