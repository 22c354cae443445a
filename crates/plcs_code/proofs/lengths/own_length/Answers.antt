use Rattle.std.proofs.Common.{List, ap, ◌∙◌}
use Rattle.plcs_base.specs.declared.declared.Declared.{Declared}
use Rattle.plcs_code.specs.Pieces.{own_pieces}
use Rattle.plcs_code.specs.Private.PlainDraft.{PlainTally}
use Rattle.plcs_code.proofs.CountedLengths.{counted_own, counted_pieces}
use Rattle.plcs_code.proofs.Laying.{lays_append, tallied, whole_count}
use Rattle.plcs_code.proofs.lengths.own_length.Goals as goal

pub returns-in_default-end-clause-uncounted : goal.returns-in_default-end-clause-uncounted
returns-in_default-end-clause-uncounted g c = (tallied (lays_append c.lay_before.ensures c.lay_behind.ensures)).counts

pub returns-in_default-end-2-clause-uncounted : goal.returns-in_default-end-2-clause-uncounted
returns-in_default-end-2-clause-uncounted g c =
    (tallied (lays_append c.lay_before.ensures (lays_append c.lay_behind.ensures (lays_append c.lay_jump.ensures (lays_append c.lay_jump-2.ensures c.lay_jump-3.ensures))))).counts

pub returns-clause-length : goal.returns-clause-length
returns-clause-length g c =
    let marks = g.M.Marked.marks c.args.marks.now in
    let label = c.args.node.now.label in
    let done = tallied (lays_append c.lay_before.ensures (lays_append c.lay_behind.ensures (lays_append c.lay_jump.ensures (lays_append c.lay_jump-2.ensures c.lay_jump-3.ensures)))) in
    let has = ap (λ (items : List Declared). own_pieces marks items label) c.deref.ensures.value ∙ c.in-Ok.ensures marks in
    let counted = counted_own marks (g.D.Scope.items c.args.scope.now) label c.deref.result.now _ has c.own_jumps-jumps.ensures in
    let none = ap (λ (t : PlainTally). t.count) c.new-tally.ensures in
    whole_count c.in-Ok-end-2.whole _ done none counted c.in-Ok-end-2.ensures.whole c.in-Ok-end-2.ensures.count

pub returns-clause-pieces : goal.returns-clause-pieces
returns-clause-pieces g c =
    let marks = g.M.Marked.marks c.args.marks.now in
    let label = c.args.node.now.label in
    let done = tallied (lays_append c.lay_before.ensures c.lay_behind.ensures) in
    let has = ap (λ (items : List Declared). own_pieces marks items label) c.deref.ensures.value ∙ c.in-Ok.ensures marks in
    let counted = counted_pieces marks (g.D.Scope.items c.args.scope.now) label c.deref.result.now has in
    let none = ap (λ (t : PlainTally). t.count) c.new-tally.ensures in
    whole_count c.in-Ok-end.pieces _ done none counted c.in-Ok-end.ensures.whole c.in-Ok-end.ensures.count

pub returns-clause-uncounted : goal.returns-clause-uncounted
returns-clause-uncounted g c =
    (tallied (lays_append c.lay_before.ensures (lays_append c.lay_behind.ensures (lays_append c.lay_jump.ensures (lays_append c.lay_jump-2.ensures c.lay_jump-3.ensures))))).counts
