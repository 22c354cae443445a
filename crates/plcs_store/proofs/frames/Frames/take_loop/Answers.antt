-- The newest frame has the loop, and is without it.
use Rattle.std.proofs.Common.{ap, subst, refl, ◌∙◌, arith, List, length, IsSome, Option}
use Rattle.plcs_store.specs.declared.kept_loop.KeptLoop.{KeptLoop}
use Rattle.plcs_store.specs.Act.{without_loop_at}
use Rattle.plcs_store.proofs.IndexedFrames.{newest_changed, found_loop, some_frame, number_within}
use Rattle.plcs_store.proofs.frames.Frames.take_loop.Goals as goal

pub overflow_sub-newest : goal.overflow_sub-newest
overflow_sub-newest c =
    (omega (arith, c.self.inside.frames.ok.0, c.len-newest.ensures, ap length c.self.view_is, some_frame c.args.number c.args.self.now c.requires.there))

pub take-requires : goal.take-requires
take-requires c =
    record {
      there =
          number_within c.index_mut.result.now.loops c.args.number _ refl
          (subst (λ (found : Option KeptLoop). IsSome found)
          (found_loop c.self.inside.frames.items c.args.self.now c.self.view_is c.len-newest.result
          (omega (arith, c.self.inside.frames.ok.0, c.len-newest.ensures))
          (omega (arith, c.self.inside.frames.ok.0, c.len-newest.ensures, ap length c.self.view_is, some_frame c.args.number c.args.self.now c.requires.there))
          c.index_mut.result.now c.index_mut.ensures.value c.args.number)
          c.requires.there);
    }

pub returns-clause-taken : goal.returns-clause-taken
returns-clause-taken c =
    found_loop c.self.inside.frames.items c.args.self.now c.self.view_is c.len-newest.result
    (omega (arith, c.self.inside.frames.ok.0, c.len-newest.ensures))
    (omega (arith, c.self.inside.frames.ok.0, c.len-newest.ensures, ap length c.self.view_is, some_frame c.args.number c.args.self.now c.requires.there))
    c.index_mut.result.now c.index_mut.ensures.value c.args.number
    ∙ c.take.ensures.taken

pub returns-clause-left : goal.returns-clause-left
returns-clause-left c =
    newest_changed c.self.inside.frames.items c.args.self.now c.self.view_is c.len-newest.result
    (omega (arith, c.self.inside.frames.ok.0, c.len-newest.ensures))
    (omega (arith, c.self.inside.frames.ok.0, c.len-newest.ensures, ap length c.self.view_is, some_frame c.args.number c.args.self.now c.requires.there))
    c.index_mut.result.now c.index_mut.ensures.value (without_loop_at c.args.number) _
    (ap (λ (loops : List KeptLoop). record c.index_mut.result.now { loops = loops }) c.take.ensures.left)
