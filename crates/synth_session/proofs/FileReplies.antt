-- What the files did in a save and in a load.
use Rattle.std.proofs.Common.{◌≡◌, ◌⊎◌, inl, inr, ℕ, List, Option, Result, Ok, Err, ap}
use Rattle.synth_outside.specs.Cause.{HasCause}
use Rattle.synth_outside.specs.Files.{NewContent, PlainFiles}
use Rattle.template_tree.specs.Programs.PlainTree.{PlainTree, roomless_tree}
use Rattle.template_tree.specs.Laws.RoomLaws.{TreesIgnoreRoom}
use Rattle.template_tree.specs.Programs.Tree.{IsTree}
use Rattle.file_store.specs.declared.refusal.FileRefusal.{FileRefusal}
use Rattle.file_store.specs.FileReading.{LoadingIgnoresRoom, LoadingSays, OnlyReads}
use Rattle.file_store.specs.Saved.{Saves}
use Rattle.plcs_base.specs.declared.memory.OutOfMemory.{OutOfMemory}
use Rattle.synth_session.specs.declared.answer.Answer.{Answer}
use Rattle.synth_session.specs.KeyReply.{CountsFault, FilesDo, HaveNoMemory, HaveReplied, Reply, Request}

-- ---- refusals

-- the count of faults where something was refused
counts_fault : {T : Type 0} (refusal : FileRefusal) (before now : ℕ)
    → HasCause {T = T} FileRefusal.FileFault before now (Err refusal) → CountsFault (Reply.Refused refusal) before now
counts_fault refusal before now cause = record {
  later = cause.later;
  rose = λ is. cause.rose (ap Err is);
  same = λ other. cause.same (λ is. other (cc));
  last = cause.last;
}

-- of the two refusals of a save the one that isn't want of memory
failed_only : (refusal : FileRefusal) → (refusal ≡ FileRefusal.FileFault) ⊎ (refusal ≡ FileRefusal.OutOfMemory)
    → (refusal ≡ FileRefusal.OutOfMemory → ⊥) → refusal ≡ FileRefusal.FileFault
failed_only refusal (inl is) other = is
failed_only refusal (inr is) other = absurd (other is)

-- a save that was refused
pub refused_save : {T : Type 0} (name own bytes : List ℕ) (refusal : FileRefusal) (before now : PlainFiles)
    → Saves {T = T} name own (Err refusal) before now
    → (refusal ≡ FileRefusal.OutOfMemory → ⊥) → HaveReplied (Request.Save name bytes) (Reply.Refused refusal) before now
refused_save name own bytes refusal before now saves other = record {
  can = failed_only refusal saves.only other;
  stored = saves.kept;
  faults = counts_fault refusal before.faults now.faults saves.fault;
  wants = saves.want.same (λ is. other (cc));
}

-- a load that was refused
pub refused_load : {T : Type 0} (name : List ℕ) (begun_before begun_now : Option NewContent) (refusal : FileRefusal) (before now : PlainFiles)
    → LoadingSays before.stored name (Err refusal)
    → OnlyReads {T = T} (Err refusal) before now begun_before begun_now
    → (refusal ≡ FileRefusal.OutOfMemory → ⊥) → HaveReplied (Request.Load name) (Reply.Refused refusal) before now
refused_load name begun_before begun_now refusal before now says reads other = record {
  can = (other, says);
  stored = reads.stored;
  faults = counts_fault refusal before.faults now.faults reads.fault;
  wants = reads.want.same (λ is. other (cc));
}

-- ---- want of memory

-- a save in which memory ran out
pub wanting_save : {T : Type 0} (name own bytes : List ℕ) (refusal : FileRefusal) (before now : PlainFiles)
    → Saves {T = T} name own (Err refusal) before now
    → refusal ≡ FileRefusal.OutOfMemory → HaveNoMemory (Request.Save name bytes) Reply.Saved before now
wanting_save name own bytes refusal before now saves wants = record {
  can = tt;
  stored = saves.kept;
  faults = saves.fault.same (λ is. absurd (cc));
  wants = saves.want.rose (ap Err wants);
}

-- a load in which memory ran out: a call can always fail
pub wanting_load : {T : Type 0} (name : List ℕ) (begun_before begun_now : Option NewContent) (refusal : FileRefusal) (before now : PlainFiles)
    → OnlyReads {T = T} (Err refusal) before now begun_before begun_now
    → refusal ≡ FileRefusal.OutOfMemory → HaveNoMemory (Request.Load name) (Reply.Refused FileRefusal.FileFault) before now
wanting_load name begun_before begun_now refusal before now reads wants = record {
  can = (λ is. absurd (cc), tt);
  stored = reads.stored;
  faults = reads.fault.same (λ is. absurd (cc));
  wants = reads.want.later;
}

-- ---- a program that was loaded

-- a load that was made, by whether memory was left to take the program
pub loaded_files : TreesIgnoreRoom → LoadingIgnoresRoom → (name : List ℕ) (begun_before begun_now : Option NewContent) (tree : PlainTree) (before now : PlainFiles)
    → IsTree tree → LoadingSays before.stored name (Ok tree)
    → OnlyReads {T = PlainTree} (Ok tree) before now begun_before begun_now
    → (result : Result Answer OutOfMemory) → FilesDo (Request.Load name) (Reply.Loaded (roomless_tree tree)) before now result
loaded_files trees law name begun_before begun_now tree before now is says reads (Ok answer) = record {
  can = ((trees tree).0 is, law before.stored name tree says);
  stored = reads.stored;
  faults = reads.fault.same (λ other. absurd (cc));
  wants = reads.want.same (λ other. absurd (cc));
}
loaded_files trees law name begun_before begun_now tree before now is says reads (Err error) = record {
  can = ((trees tree).0 is, law before.stored name tree says);
  stored = reads.stored;
  faults = reads.fault.same (λ other. absurd (cc));
  wants = reads.want.later;
}
