-- What a key can ask, what can be replied to it, and what the files do then.
use Rattle.std.specs.Prelude.{◌≡◌, ◌≢◌, ℕ, ◌≤◌, List, Option, Result, Ok, Err}
use Rattle.plcs_base.specs.Count.{Rose}
use Rattle.plcs_base.specs.declared.memory.OutOfMemory.{OutOfMemory}
use Rattle.synth_outside.specs.Cause.{RisesWith}
use Rattle.synth_outside.specs.Files.{FileMap, PlainFiles}
use Rattle.template_tree.specs.Programs.PlainTree.{PlainTree}
use Rattle.template_tree.specs.Programs.Tree.{IsTree}
use Rattle.plcs_grammar.specs.declared.category.Category.{Category}
use Rattle.phrase_parser.specs.Standing.{HasStanding, Standing}
use Rattle.plcs_store.specs.declared.kept.Kept.{Kept}
use Rattle.plcs_store.specs.declared.refusal.ResumeRefusal.{ResumeRefusal}
use Rattle.plcs_store.specs.Configuration.{PlainConfiguration}
use Rattle.plcs_store.specs.Resume.{MayResume}
use Rattle.file_store.specs.declared.refusal.FileRefusal.{FileRefusal}
use Rattle.file_store.specs.FileReading.{LoadingSays}
use Rattle.file_store.specs.Saved.{IsSaved}
use Rattle.synth_session.specs.declared.answer.Answer.{Answer}

-- ---- what is asked, and what is replied

-- what a key can ask: nothing, what a text is as phrase text of a category, whether a run may go on in the program, by
-- what is kept for it, or of the files to save bytes under a name, or to load the program of a name
pub data Request : Type 0 where
  Nothing : Request
  Read : Category → (text : List ℕ) → Request
  Resume : Kept → PlainConfiguration → PlainTree → Request
  Save : (name bytes : List ℕ) → Request
  Load : (name : List ℕ) → Request

-- what is replied to a key: nothing was asked, the text is this, the run may go on or may not for this, and by the
-- files that the bytes were saved, that this program was loaded, or that what was asked was refused for this
pub data Reply : Type 0 where
  NotAsked : Reply
  Read : Standing → Reply
  Resumes : Option ResumeRefusal → Reply
  Saved : Reply
  Loaded : PlainTree → Reply
  Refused : FileRefusal → Reply

-- a text can be replied to so: it is this in the category
abbrev pub IsTextReply : Category → List ℕ → Reply → Type 0
IsTextReply category text (Reply.Read standing) = HasStanding category text standing
IsTextReply category text reply = ⊥

-- the law of phrase text: exactly one thing can be replied to a text in a category
abbrev pub TextsHaveOneReply : Type 0
TextsHaveOneReply =
    (category : Category) (text : List ℕ)
    → (reply : Reply) × IsTextReply category text reply
    × ((other : Reply) → IsTextReply category text other → other ≡ reply)

-- whether a run may go on in a program, by what is kept for it, can be replied to so: it is the first refusal that
-- holds, or none
abbrev pub IsResumeReply : Kept → PlainConfiguration → PlainTree → Reply → Type 0
IsResumeReply kept c tree (Reply.Resumes refusal) = MayResume kept c tree.items refusal
IsResumeReply kept c tree reply = ⊥

-- the law of resumption: at most one thing can be replied to whether a run may go on
abbrev pub RunsHaveOneReply : Type 0
RunsHaveOneReply =
    (kept : Kept) (c : PlainConfiguration) (tree : PlainTree) (one other : Reply)
    → IsResumeReply kept c tree one → IsResumeReply kept c tree other → one ≡ other

-- a save can be replied to so: the bytes were saved, or a call failed
abbrev pub IsSaveReply : Reply → Type 0
IsSaveReply Reply.Saved = Unit {0}
IsSaveReply (Reply.Refused refusal) = refusal ≡ FileRefusal.FileFault
IsSaveReply reply = ⊥

-- a load from files with this map can be replied to so: the program is the one whose listing is the content of the
-- name, or there is none for this reason; want of memory is no reply
abbrev pub IsLoadReply : Option FileMap → List ℕ → Reply → Type 0
IsLoadReply stored name (Reply.Loaded tree) = IsTree tree × LoadingSays stored name (Ok tree)
IsLoadReply stored name (Reply.Refused refusal) =
    (refusal ≢ FileRefusal.OutOfMemory) × LoadingSays stored name (Err refusal)
IsLoadReply stored name reply = ⊥

-- what is asked can be replied to so, where the files have this map
abbrev pub CanReply : Option FileMap → Request → Reply → Type 0
CanReply stored Request.Nothing reply = reply ≡ Reply.NotAsked
CanReply stored (Request.Read category text) reply = IsTextReply category text reply
CanReply stored (Request.Resume kept c tree) reply = IsResumeReply kept c tree reply
CanReply stored (Request.Save name bytes) reply = IsSaveReply reply
CanReply stored (Request.Load name) reply = IsLoadReply stored name reply

-- ---- what the files do

-- what a reply makes of the map that the files tell: where bytes were saved it has them under their name, and else it
-- is as before
abbrev pub IsMapAfter : Request → Reply → Option FileMap → Option FileMap → Type 0
IsMapAfter (Request.Save name bytes) Reply.Saved before now = IsSaved before now name bytes
IsMapAfter request reply before now = now ≡ before

-- what a reply makes of the files' count of faults: it rose where a call failed, and else it is as before
abbrev pub CountsFault : Reply → ℕ → ℕ → Type 0
CountsFault (Reply.Refused refusal) before now = RisesWith (refusal ≡ FileRefusal.FileFault) before now
CountsFault reply before now = now ≡ before

-- what was asked was replied to so: it can be, and the map of the files and their counts are as after this reply
pub record HaveReplied (request : Request) (reply : Reply) (before now : PlainFiles) : Type 0 where
  pub can : CanReply before.stored request reply
  pub stored : IsMapAfter request reply before.stored now.stored
  pub faults : CountsFault reply before.faults now.faults
  pub wants : now.wants ≡ before.wants

-- what the files do to their count of wants where memory ran out in a key: where nothing is asked of them it is as
-- before, and a save takes no memory of its own, so that the files wanted some in it
abbrev pub CountsWant : Request → ℕ → ℕ → Type 0
CountsWant Request.Nothing before now = now ≡ before
CountsWant (Request.Read category text) before now = now ≡ before
CountsWant (Request.Resume kept c tree) before now = now ≡ before
CountsWant (Request.Save name bytes) before now = Rose before now
CountsWant (Request.Load name) before now = before ≤ now

-- memory ran out in a key that asked this: it can be replied to so, whether or not it came to a reply; the map of the
-- files and their count of faults are as before
pub record HaveNoMemory (request : Request) (reply : Reply) (before now : PlainFiles) : Type 0 where
  pub can : CanReply before.stored request reply
  pub stored : now.stored ≡ before.stored
  pub faults : now.faults ≡ before.faults
  pub wants : CountsWant request before.wants now.wants

-- what the files did in a key that asked this: it was replied to so where it was answered, and else memory ran out, and
-- so it can be replied to
abbrev pub FilesDo : Request → Reply → PlainFiles → PlainFiles → Result Answer OutOfMemory → Type 0
FilesDo request reply before now (Ok answer) = HaveReplied request reply before now
FilesDo request reply before now (Err error) = HaveNoMemory request reply before now
