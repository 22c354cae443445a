use Rattle.std.proofs.Common.{rules}
use Rattle.template_tree.specs.Programs.PlainTree.{roomless_tree}
use Rattle.file_store.specs.declared.refusal.FileRefusal.{FileRefusal}
use Rattle.synth_session.specs.KeyReply.{Reply}
use Rattle.synth_session.proofs.CountedPrograms.{key_free}
use Rattle.synth_session.proofs.WantedCounts.{want_free}
use Rattle.synth_session.proofs.FileReplies.{loaded_files, refused_load, wanting_load}
use Rattle.synth_session.proofs.session.Session.load.Goals as goal

pub returns-in-Ok : goal.returns-in-Ok
returns-in-Ok g c =
    record {
      does = record {
        reply = Reply.Loaded (roomless_tree c.in-Ok.tree);
        files = loaded_files c.room_is_not_shown.ensures.trees c.loading_ignores_room.ensures _ _ _ c.in-Ok.tree _ _ c.in-Ok.ensures.tree c.in-Ok.ensures.says
            c.in-Ok.ensures.files c.take_program.result;
        does = c.take_program.ensures.does;
        counts = c.take_program.ensures.counts;
      };
    }

pub returns-in-OutOfMemory : goal.returns-in-OutOfMemory
returns-in-OutOfMemory g c = record {
  does = record {
    reply = Reply.Refused FileRefusal.FileFault;
    files = wanting_load _ _ _ c.in-Err.refusal _ _ c.in-Err.ensures.files c.in-OutOfMemory.is;
    does = search rules;
    counts = want_free 0 0 0;
  };
}

pub returns-in_default : goal.returns-in_default
returns-in_default g c = record {
  does = record {
    reply = Reply.Refused c.in-Err.refusal;
    files = refused_load _ _ _ c.in-Err.refusal _ _ c.in-Err.ensures.says c.in-Err.ensures.files c.in_default.not-OutOfMemory;
    does = search rules;
    counts = key_free 0 0;
  };
}
