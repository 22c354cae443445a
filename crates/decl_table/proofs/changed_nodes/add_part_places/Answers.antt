use Rattle.std.proofs.Common.{◌+◌, ◌<◌, ◌≤◌, drop, length, slice_get, ap, arith}
use Rattle.std.specs.Option.{option_flatten}
use Rattle.std.proofs.Math.ListN.{drop_of_length-le}
use Rattle.template_tree.specs.Checks.Mention.{phrase_at}
use Rattle.decl_table.specs.Private.PlainNameNode.{kept_place, kept_places}
use Rattle.decl_table.proofs.GatheredPlaces.{all_gathered, more_gathered, parts_turn}
use Rattle.decl_table.proofs.changed_nodes.add_part_places.Goals as goal

pub loop-part-preserved : goal.loop-part-preserved
loop-part-preserved c =
    let parts = c.args.node.now.label.parts in
    let slot = c.args.node.now.label.slot in
    let part = c.loop-part.part in
    let within : part < length parts = omega (arith, c.parts.ensures, c.loop-part-test.true) in
    record {
      all =
          more_gathered c.args.places.now c.loop-part.places c.add_place.new.places
          (kept_place (phrase_at slot part) (option_flatten (slice_get parts part))) (kept_places slot part (drop part parts))
          (kept_places slot (part + 1) (drop (part + 1) parts)) (kept_places slot 0 parts) c.in_ok-add_place.ensures
          (parts_turn slot part parts within) c.loop-part.invariant.all;
      within = omega (arith, within);
    }

pub returns : goal.returns
returns c =
    let parts = c.args.node.now.label.parts in
    let slot = c.args.node.now.label.slot in
    let part = c.loop-part.part in
    let past : length parts ≤ part = omega (arith, c.parts.ensures, c.loop-part-test.false) in
    all_gathered c.args.places.now c.loop-part.places (kept_places slot part (drop part parts)) (kept_places slot 0 parts)
    (ap (kept_places slot part) (drop_of_length-le parts past)) c.loop-part.invariant.all
