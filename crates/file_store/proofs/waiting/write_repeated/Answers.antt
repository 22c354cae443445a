use Rattle.std.proofs.Common.{◌++◌, ap, ◌∙◌, arith, take}
use Rattle.std.proofs.lemmas.List.{take-replicate}
use Rattle.file_store.specs.declared.waiting.TheConstants.{FEW}
use Rattle.file_store.proofs.WaitingBytes.{taken_more}
use Rattle.file_store.proofs.waiting.write_repeated.Goals as goal

pub returns-clause-written : goal.returns-clause-written
returns-clause-written c =
    taken_more c.args.bytes.now _ _ c.args.start FEW c.args.times (omega (arith, c.requires.room)) c.requires.few c.write.ensures.written
    ∙ ap (λ z. take c.args.start c.args.bytes.now ++ z) (take-replicate c.args.times FEW c.args.byte c.requires.few)
