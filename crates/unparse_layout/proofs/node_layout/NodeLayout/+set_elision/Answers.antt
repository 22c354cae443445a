-- Only the node at the path changes, and its height with it: each height on the way is taken anew from the node below,
-- so the kept heights are again those of the nodes.
use Rattle.std.specs.Prelude.{◌≡◌, ◌<◌, Some, length, map, sum, slice_get, slice_set}
use Rattle.std.proofs.Common.{arith, ap, sym, ◌∙◌}
use Rattle.std.proofs.lemmas.List.{length-map, map-set}
use Rattle.std.proofs.lemmas.Option.{slice_get_within}
use Rattle.unparse_layout.specs.Private.PlainNodeLayout.{PlainNodeLayout, node_layouts}
use Rattle.unparse_layout.specs.Bones.{bone_count}
use Rattle.unparse_layout.specs.Private.Height.{height, heights}
use Rattle.prefix_sums.specs.PlainPrefixSums.{PlainPrefixSums}
use Rattle.unparse_layout.proofs.Heights.{height_le, heights_le, node_layout_few}
use Rattle.unparse_layout.proofs.Opened.{found_again, numbers_sum}
use Rattle.unparse_layout.proofs.TurnedBones.{count_elision, set_fits}
use Rattle.unparse_layout.proofs.node_layout.NodeLayout.+set_elision.Goals as goal

pub set_elision-requires : goal.set_elision-requires
set_elision-requires t c =
    let item = c.in-Some-get_mut.item.now in
    let there : slice_get (node_layouts c.args.self.now.inner) c.in-Some.k.now ≡ Some item =
    found_again c.self.inside c.args.self.now c.in-Some.k.now c.self.view_is ∙ sym c.in-Some-get_mut.ensures.found in
    (omega (arith, c.in-Some.ensures.cases.1), omega (arith, node_layout_few c.args.self.now.inner c.in-Some.k.now item there, c.requires.few))

pub height-height-requires : goal.height-height-requires
height-height-requires t c =
    let item = c.in-Some-get_mut.item.now in
    let there : slice_get (node_layouts c.args.self.now.inner) c.in-Some.k.now ≡ Some item =
    found_again c.self.inside c.args.self.now c.in-Some.k.now c.self.view_is ∙ sym c.in-Some-get_mut.ensures.found in
    let same : bone_count c.set_elision.new.self.inner ≡ bone_count item.inner =
    ap (λ (o : PlainNodeLayout). bone_count o.inner) c.set_elision.ensures ∙ count_elision c.in-Some.rest.now c.args.elided item in
    record { fits = omega (arith, height_le c.set_elision.new.self, same, node_layout_few c.args.self.now.inner c.in-Some.k.now item there, c.requires.few) }

pub set-requires-clause-there : goal.set-requires-clause-there
set-requires-clause-there t c =
    let within = slice_get_within c.self.inside.inner.items c.in-Some.k.now c.in-Some-get_mut.item.now (sym c.in-Some-get_mut.ensures.found) in
    let many : length c.self.inside.heights.numbers ≡ length c.self.inside.inner.items =
    ap length c.self.invariant.heights ∙ length-map c.self.inside.inner.items height in
    omega (arith, within, many)

pub set-requires-clause-fits : goal.set-requires-clause-fits
set-requires-clause-fits t c =
    let item = c.in-Some-get_mut.item.now in
    let there : slice_get (node_layouts c.args.self.now.inner) c.in-Some.k.now ≡ Some item =
    found_again c.self.inside c.args.self.now c.in-Some.k.now c.self.view_is ∙ sym c.in-Some-get_mut.ensures.found in
    let within = slice_get_within c.self.inside.inner.items c.in-Some.k.now item (sym c.in-Some-get_mut.ensures.found) in
    let many : length c.self.inside.heights.numbers ≡ length c.self.inside.inner.items =
    ap length c.self.invariant.heights ∙ length-map c.self.inside.inner.items height in
    let inside : c.in-Some.k.now < length c.self.inside.heights.numbers = omega (arith, within, many) in
    let same : bone_count c.set_elision.new.self.inner ≡ bone_count item.inner =
    ap (λ (o : PlainNodeLayout). bone_count o.inner) c.set_elision.ensures ∙ count_elision c.in-Some.rest.now c.args.elided item in
    let total : sum c.self.inside.heights.numbers ≡ heights c.args.self.now.inner =
    numbers_sum c.self.inside c.args.self.now c.self.view_is c.self.invariant in
    let fits = set_fits c.self.inside.heights.numbers c.in-Some.k.now c.height-height.result inside in
    omega (arith, fits, total, c.height-height.ensures, height_le c.set_elision.new.self, same, heights_le c.args.self.now.inner, node_layout_few c.args.self.now.inner c.in-Some.k.now item there, c.requires.few)

pub invariant_of-self-2 : goal.invariant_of-self-2
invariant_of-self-2 t c =
    record {
      heights =
          ap (λ (s : PlainPrefixSums). s.numbers) c.set.ensures
          ∙ ap (λ ns. slice_set ns c.in-Some.k.now c.height-height.result) c.self.invariant.heights
          ∙ ap (slice_set (map height c.self.inside.inner.items) c.in-Some.k.now) c.height-height.ensures
          ∙ sym (map-set height c.self.inside.inner.items c.in-Some.k.now c.set_elision.new.self);
    }
