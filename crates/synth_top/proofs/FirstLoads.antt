-- A program that was loaded before the first screen, without its room.
use Rattle.std.proofs.Common.{ℕ, List, Option, Some, Ok, arith}
use Rattle.synth_outside.specs.Files.{NewContent, PlainFiles}
use Rattle.template_tree.specs.Programs.PlainTree.{PlainTree, roomless_tree}
use Rattle.template_tree.specs.Laws.RoomLaws.{TreesIgnoreRoom}
use Rattle.template_tree.specs.Programs.Tree.{IsTree}
use Rattle.file_store.specs.FileReading.{LoadingIgnoresRoom, LoadingSays, OnlyReads}
use Rattle.synth_session.specs.KeyReply.{Reply}
use Rattle.synth_top.specs.Private.Loading.{ProgramLoads}

-- a program that was loaded
pub program_loaded : TreesIgnoreRoom → LoadingIgnoresRoom → {T : Type 0} (name : List ℕ) (begun_before begun_now : Option NewContent) (tree : PlainTree) (content : T) (before now : PlainFiles)
    → IsTree tree → LoadingSays before.stored name (Ok tree)
    → OnlyReads (Ok content) before now begun_before begun_now
    → ProgramLoads (Some name) (Reply.Loaded (roomless_tree tree)) before now
program_loaded trees law name begun_before begun_now tree content before now is says reads = record {
  can = ((trees tree).0 is, law before.stored name tree says);
  read = record {
    stored = reads.stored;
    later = reads.fault.later;
    faults = let same = reads.fault.same (λ other. absurd (cc)) in omega (arith, same);
    wants = reads.want.same (λ other. absurd (cc));
  };
}
