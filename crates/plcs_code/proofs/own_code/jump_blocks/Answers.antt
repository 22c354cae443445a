-- The jumps are emitted one behind the other, so what is counted adds up, and where one breaks off it is no more than
-- all.
use Rattle.std.proofs.Common.{List, ◌+◌, ◌≡◌, length, refl, ap, arith}
use Rattle.std.specs.Option.{option_to_list}
use Rattle.plcs_code.specs.PlainInstr.{PlainInstr}
use Rattle.plcs_code.specs.Private.PlainJumps.{plain_jumps}
use Rattle.plcs_code.proofs.Laying.{emits_both, emits_then}
use Rattle.plcs_code.proofs.LaidSteps.{emits_more}
use Rattle.plcs_code.proofs.own_code.jump_blocks.Goals as goal

pub returns-in_default-clause-counts : goal.returns-in_default-clause-counts
returns-in_default-clause-counts g c =
    let plain = plain_jumps c.args.jumps in
    let ahead = length (option_to_list plain.ahead) in
    let between = length (option_to_list plain.between) in
    let back = length (option_to_list plain.back) in
    emits_more ahead (ahead + (between + back)) (g.W.Work.counts c.args.work.now) (g.W.Work.counts c.jump_block.new.work) (omega arith)
    c.jump_block.ensures.counts

pub returns-in_default-jump_block-clause-counts : goal.returns-in_default-jump_block-clause-counts
returns-in_default-jump_block-clause-counts g c =
    let plain = plain_jumps c.args.jumps in
    let ahead = length (option_to_list plain.ahead) in
    let between = length (option_to_list plain.between) in
    let back = length (option_to_list plain.back) in
    let u = g.W.Work.counts c.args.work.now in
    let v = g.W.Work.counts c.jump_block.new.work in
    let w = g.W.Work.counts c.jump_block-2.new.work in
    emits_then ahead between (ahead + (between + back)) u v w (omega arith) c.jump_block.ensures.counts c.jump_block-2.ensures.counts

pub returns-in_default-jump_block-2-clause-counts : goal.returns-in_default-jump_block-2-clause-counts
returns-in_default-jump_block-2-clause-counts g c =
    let plain = plain_jumps c.args.jumps in
    let ahead = length (option_to_list plain.ahead) in
    let between = length (option_to_list plain.between) in
    let back = length (option_to_list plain.back) in
    let u = g.W.Work.counts c.args.work.now in
    let v = g.W.Work.counts c.jump_block.new.work in
    let w = g.W.Work.counts c.jump_block-2.new.work in
    let x = g.W.Work.counts c.jump_block-3.new.work in
    emits_then ahead (between + back) (ahead + (between + back)) u v x (omega arith) c.jump_block.ensures.counts
    (emits_then between back (between + back) v w x (omega arith) c.jump_block-2.ensures.counts c.jump_block-3.ensures.counts)

pub returns-clause-counts : goal.returns-clause-counts
returns-clause-counts g c =
    let plain = plain_jumps c.args.jumps in
    let ahead = length (option_to_list plain.ahead) in
    let between = length (option_to_list plain.between) in
    let back = length (option_to_list plain.back) in
    let u = g.W.Work.counts c.args.work.now in
    let v = g.W.Work.counts c.jump_block.new.work in
    let w = g.W.Work.counts c.jump_block-2.new.work in
    let x = g.W.Work.counts c.jump_block-3.new.work in
    emits_then ahead (between + back) (ahead + (between + back)) u v x (omega arith) c.jump_block.ensures.counts
    (emits_then between back (between + back) v w x (omega arith) c.jump_block-2.ensures.counts c.jump_block-3.ensures.counts)

pub returns-clause-counted : goal.returns-clause-counted
returns-clause-counted g c =
    let plain = plain_jumps c.args.jumps in
    let ahead = length (option_to_list plain.ahead) in
    let between = length (option_to_list plain.between) in
    let back = length (option_to_list plain.back) in
    let u = g.W.Work.counts c.args.work.now in
    let v = g.W.Work.counts c.jump_block.new.work in
    let w = g.W.Work.counts c.jump_block-2.new.work in
    let x = g.W.Work.counts c.jump_block-3.new.work in
    let a : length c.in-Ok.ahead ≡ ahead = ap (λ (instrs : List PlainInstr). length instrs) c.in-Ok.ensures.code in
    let b : length c.in-Ok-jump_block.between ≡ between = ap (λ (instrs : List PlainInstr). length instrs) c.in-Ok-jump_block.ensures.code in
    let d : length c.in-Ok-jump_block-2.back ≡ back = ap (λ (instrs : List PlainInstr). length instrs) c.in-Ok-jump_block-2.ensures.code in
    emits_both (ahead + between) back (length c.in-Ok.ahead + length c.in-Ok-jump_block.between + length c.in-Ok-jump_block-2.back) u w x
    (omega (arith, a, b, d)) (emits_both ahead between (ahead + between) u v w refl c.in-Ok.ensures.counted c.in-Ok-jump_block.ensures.counted)
    c.in-Ok-jump_block-2.ensures.counted
