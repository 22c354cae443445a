-- What is laid before the nodes inside is one piece and one jump behind it, whose lengths add up.
use Rattle.std.proofs.Common.{◌≡◌, ◌++◌, List, length, ap, ◌∙◌, arith, append_assoc}
use Rattle.std.specs.Option.{option_to_list}
use Rattle.std.proofs.lemmas.List.{length-append}
use Rattle.plcs_code.specs.Pieces.{CodeJumps, pieces}
use Rattle.plcs_code.specs.PlainInstr.{PlainInstr}
use Rattle.plcs_code.specs.Private.LaidCode.{PlainLaid, jumps_by, with_instrs}
use Rattle.plcs_code.specs.Private.PlainJumps.{plain_jumps}
use Rattle.plcs_code.proofs.LaidSteps.{emits_more}
use Rattle.plcs_code.proofs.Laying.{emits_both, emits_break}
use Rattle.plcs_code.proofs.laid.Laid.lay_front.Goals as goal

pub returns-in_default-clause-counts : goal.returns-in_default-clause-counts
returns-in_default-clause-counts g c =
    let marks = g.M.Marked.marks c.args.marks.now in
    let items = g.D.Scope.items c.args.scope.now in
    let label = c.args.node.now.label in
    let lengths = c.args.lengths in
    let before = (pieces marks items label).before in
    let ahead = option_to_list (jumps_by marks items label lengths).ahead in
    let u = g.W.Work.counts c.args.work.now in
    let v = g.W.Work.counts c.lay_before_by_scope.new.work in
    emits_more (length before) (length (before ++ ahead)) u v (omega (arith, length-append before ahead)) c.lay_before_by_scope.ensures.counts

pub returns-in-Err-clause-counts : goal.returns-in-Err-clause-counts
returns-in-Err-clause-counts g c =
    let marks = g.M.Marked.marks c.args.marks.now in
    let items = g.D.Scope.items c.args.scope.now in
    let label = c.args.node.now.label in
    let lengths = c.args.lengths in
    let around : plain_jumps c.own_jumps-jumps.result ≡ jumps_by marks items label lengths = c.own_jumps-jumps.ensures in
    let before = (pieces marks items label).before in
    let ahead = option_to_list (jumps_by marks items label lengths).ahead in
    let u = g.W.Work.counts c.args.work.now in
    let v = g.W.Work.counts c.lay_before_by_scope.new.work in
    let w = g.W.Work.counts c.lay_jump.new.work in
    let jump = length (option_to_list (plain_jumps c.own_jumps-jumps.result).ahead) in
    let same : jump ≡ length ahead = ap (λ (j : CodeJumps). length (option_to_list j.ahead)) around in
    emits_break (length before) jump (length (before ++ ahead)) u v w (omega (arith, length-append before ahead, same))
    c.in-Ok.ensures.counted c.lay_jump.ensures.counts

pub returns-in-Ok-lay_jump-clause-laid : goal.returns-in-Ok-lay_jump-clause-laid
returns-in-Ok-lay_jump-clause-laid g c =
    let marks = g.M.Marked.marks c.args.marks.now in
    let items = g.D.Scope.items c.args.scope.now in
    let label = c.args.node.now.label in
    let lengths = c.args.lengths in
    let around : plain_jumps c.own_jumps-jumps.result ≡ jumps_by marks items label lengths = c.own_jumps-jumps.ensures in
    let before = (pieces marks items label).before in
    let ahead = option_to_list (jumps_by marks items label lengths).ahead in
    c.in-Ok-lay_jump.ensures.laid
    ∙ ap (λ (j : CodeJumps). with_instrs (option_to_list j.ahead) c.lay_before_by_scope.new.self) around
    ∙ ap (λ (l : PlainLaid). with_instrs ahead l) c.in-Ok.ensures.laid
    ∙ ap (λ (instrs : List PlainInstr). let laid : PlainLaid = record { instrs = instrs; spans = c.args.self.now.spans } in laid)
    (append_assoc c.args.self.now.instrs before ahead)

pub returns-in-Ok-lay_jump-clause-between : goal.returns-in-Ok-lay_jump-clause-between
returns-in-Ok-lay_jump-clause-between g c =
    let marks = g.M.Marked.marks c.args.marks.now in
    let items = g.D.Scope.items c.args.scope.now in
    let label = c.args.node.now.label in
    let lengths = c.args.lengths in
    let around : plain_jumps c.own_jumps-jumps.result ≡ jumps_by marks items label lengths = c.own_jumps-jumps.ensures in
    ap (λ (j : CodeJumps). j.between) around

pub returns-in-Ok-lay_jump-clause-back : goal.returns-in-Ok-lay_jump-clause-back
returns-in-Ok-lay_jump-clause-back g c =
    let marks = g.M.Marked.marks c.args.marks.now in
    let items = g.D.Scope.items c.args.scope.now in
    let label = c.args.node.now.label in
    let lengths = c.args.lengths in
    let around : plain_jumps c.own_jumps-jumps.result ≡ jumps_by marks items label lengths = c.own_jumps-jumps.ensures in
    ap (λ (j : CodeJumps). j.back) around

pub returns-in-Ok-lay_jump-clause-counted : goal.returns-in-Ok-lay_jump-clause-counted
returns-in-Ok-lay_jump-clause-counted g c =
    let marks = g.M.Marked.marks c.args.marks.now in
    let items = g.D.Scope.items c.args.scope.now in
    let label = c.args.node.now.label in
    let lengths = c.args.lengths in
    let around : plain_jumps c.own_jumps-jumps.result ≡ jumps_by marks items label lengths = c.own_jumps-jumps.ensures in
    let before = (pieces marks items label).before in
    let ahead = option_to_list (jumps_by marks items label lengths).ahead in
    let u = g.W.Work.counts c.args.work.now in
    let v = g.W.Work.counts c.lay_before_by_scope.new.work in
    let w = g.W.Work.counts c.lay_jump.new.work in
    let jump = length (option_to_list (plain_jumps c.own_jumps-jumps.result).ahead) in
    let same : jump ≡ length ahead = ap (λ (j : CodeJumps). length (option_to_list j.ahead)) around in
    emits_both (length before) jump (length (before ++ ahead)) u v w (omega (arith, length-append before ahead, same))
    c.in-Ok.ensures.counted c.in-Ok-lay_jump.ensures.counted

pub returns-in-Ok-lay_jump-clause-counts : goal.returns-in-Ok-lay_jump-clause-counts
returns-in-Ok-lay_jump-clause-counts g c =
    let marks = g.M.Marked.marks c.args.marks.now in
    let items = g.D.Scope.items c.args.scope.now in
    let label = c.args.node.now.label in
    let lengths = c.args.lengths in
    let around : plain_jumps c.own_jumps-jumps.result ≡ jumps_by marks items label lengths = c.own_jumps-jumps.ensures in
    let before = (pieces marks items label).before in
    let ahead = option_to_list (jumps_by marks items label lengths).ahead in
    let u = g.W.Work.counts c.args.work.now in
    let v = g.W.Work.counts c.lay_before_by_scope.new.work in
    let w = g.W.Work.counts c.lay_jump.new.work in
    let jump = length (option_to_list (plain_jumps c.own_jumps-jumps.result).ahead) in
    let same : jump ≡ length ahead = ap (λ (j : CodeJumps). length (option_to_list j.ahead)) around in
    emits_break (length before) jump (length (before ++ ahead)) u v w (omega (arith, length-append before ahead, same))
    c.in-Ok.ensures.counted c.lay_jump.ensures.counts
