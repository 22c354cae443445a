use Rattle.std.proofs.Common.{◌+◌, length, ap, ◌∙◌, ◌≡◌, subst}
use Rattle.std.specs.Option.{option_to_list}
use Rattle.plcs_code.specs.Counts.{EmitsAtMost}
use Rattle.plcs_code.specs.OwnCode.{PlainOwnCode, jumps_around}
use Rattle.plcs_code.specs.Pieces.{CodeJumps, count_pieces, kind_jumps}
use Rattle.plcs_code.specs.Private.PlainJumps.{plain_jumps}
use Rattle.plcs_code.proofs.Laying.{if_ok_then}
use Rattle.plcs_code.proofs.own_code.OwnCode.jumps.Goals as goal

pub returns-clause-ahead : goal.returns-clause-ahead
returns-clause-ahead g c =
    let view = c.self.view_is in
    let own : c.length.result + c.length-2.result ≡ count_pieces c.args.self.now.pieces =
    (λ i. c.length.ensures.length i + c.length-2.ensures.length i) ∙ ap (λ (o : PlainOwnCode). count_pieces o.pieces) view in
    let is : plain_jumps c.kind_jumps-jumps.result ≡ jumps_around c.args.self.now c.args.first c.args.others =
    c.kind_jumps-jumps.ensures
    ∙ (λ i. kind_jumps (view i).slot (c.counter.ensures i) (view i).all_stopped (view i).one_stopped (own i) c.args.first c.args.others (view i).kind) in
    if_ok_then c.jump_blocks.result c.jump_blocks.ensures.ahead (λ blocks of. of ∙ ap (λ (j : CodeJumps). option_to_list j.ahead) is)

pub returns-clause-between : goal.returns-clause-between
returns-clause-between g c =
    let view = c.self.view_is in
    let own : c.length.result + c.length-2.result ≡ count_pieces c.args.self.now.pieces =
    (λ i. c.length.ensures.length i + c.length-2.ensures.length i) ∙ ap (λ (o : PlainOwnCode). count_pieces o.pieces) view in
    let is : plain_jumps c.kind_jumps-jumps.result ≡ jumps_around c.args.self.now c.args.first c.args.others =
    c.kind_jumps-jumps.ensures
    ∙ (λ i. kind_jumps (view i).slot (c.counter.ensures i) (view i).all_stopped (view i).one_stopped (own i) c.args.first c.args.others (view i).kind) in
    if_ok_then c.jump_blocks.result c.jump_blocks.ensures.between (λ blocks of. of ∙ ap (λ (j : CodeJumps). option_to_list j.between) is)

pub returns-clause-back : goal.returns-clause-back
returns-clause-back g c =
    let view = c.self.view_is in
    let own : c.length.result + c.length-2.result ≡ count_pieces c.args.self.now.pieces =
    (λ i. c.length.ensures.length i + c.length-2.ensures.length i) ∙ ap (λ (o : PlainOwnCode). count_pieces o.pieces) view in
    let is : plain_jumps c.kind_jumps-jumps.result ≡ jumps_around c.args.self.now c.args.first c.args.others =
    c.kind_jumps-jumps.ensures
    ∙ (λ i. kind_jumps (view i).slot (c.counter.ensures i) (view i).all_stopped (view i).one_stopped (own i) c.args.first c.args.others (view i).kind) in
    if_ok_then c.jump_blocks.result c.jump_blocks.ensures.back (λ blocks of. of ∙ ap (λ (j : CodeJumps). option_to_list j.back) is)

pub returns-clause-counts : goal.returns-clause-counts
returns-clause-counts g c =
    let view = c.self.view_is in
    let own : c.length.result + c.length-2.result ≡ count_pieces c.args.self.now.pieces =
    (λ i. c.length.ensures.length i + c.length-2.ensures.length i) ∙ ap (λ (o : PlainOwnCode). count_pieces o.pieces) view in
    let is : plain_jumps c.kind_jumps-jumps.result ≡ jumps_around c.args.self.now c.args.first c.args.others =
    c.kind_jumps-jumps.ensures
    ∙ (λ i. kind_jumps (view i).slot (c.counter.ensures i) (view i).all_stopped (view i).one_stopped (own i) c.args.first c.args.others (view i).kind) in
    subst
    (λ (j : CodeJumps).
    EmitsAtMost (length (option_to_list j.ahead) + (length (option_to_list j.between) + length (option_to_list j.back)))
    (g.W.Work.counts c.args.work.now) (g.W.Work.counts c.jump_blocks.new.work)) is c.jump_blocks.ensures.counts
