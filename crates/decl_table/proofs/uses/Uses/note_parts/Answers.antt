use Rattle.std.proofs.Common.{◌+◌, ◌<◌, ◌≤◌, length, drop, slice_get, ap, arith}
use Rattle.std.specs.Option.{option_flatten}
use Rattle.std.proofs.Math.ListN.{drop_of_length-le}
use Rattle.template_tree.specs.Checks.Mention.{phrase_at}
use Rattle.decl_table.proofs.AddedUses.{leaves_next, leaves_none, of_parts, of_parts-turn, of_place}
use Rattle.decl_table.proofs.uses.Uses.note_parts.Goals as goal

pub loop-part-preserved : goal.loop-part-preserved
loop-part-preserved c =
    let parts = c.args.node.now.label.parts in
    let slot = c.args.node.now.label.slot in
    let part = c.loop-part.part in
    let within : part < length parts = omega (arith, c.parts.ensures, c.loop-part-test.true) in
    record {
      leaves =
          leaves_next (of_place (phrase_at slot part) (option_flatten (slice_get parts part))) (of_parts slot (part + 1) (drop (part + 1) parts))
          (of_parts slot part (drop part parts)) (of_parts slot 0 parts) c.args.self.now.uses c.loop-part.self.uses c.note_part.new.self.uses
          c.in_ok-note_part.ensures (of_parts-turn slot part parts within) c.loop-part.invariant.leaves;
      within = omega (arith, within);
    }

pub returns : goal.returns
returns c =
    let parts = c.args.node.now.label.parts in
    let slot = c.args.node.now.label.slot in
    let part = c.loop-part.part in
    let past : length parts ≤ part = omega (arith, c.parts.ensures, c.loop-part-test.false) in
    leaves_none (of_parts slot part (drop part parts)) (of_parts slot 0 parts) c.args.self.now.uses c.loop-part.self.uses
    (λ name at. ap (λ rest. of_parts slot part rest name at) (drop_of_length-le parts past))
    c.loop-part.invariant.leaves
