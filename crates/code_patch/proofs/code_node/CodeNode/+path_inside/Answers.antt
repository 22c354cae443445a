-- The nodes inside are gone through in order: the slot stands among those that are left as often as among all. A path
-- from a node inside leads from here with the number of that before it.
use Rattle.std.specs.Prelude.{◌≡◌, Some, length, slice_get}
use Rattle.std.proofs.Common.{arith, ap, sym}
use Rattle.std.proofs.lemmas.Option.{slice_get_within}
use Rattle.code_patch.specs.CodeForest.{code_nodes}
use Rattle.code_patch.proofs.FoundInstrs.{child_weight}
use Rattle.code_patch.proofs.SoughtSlots.{child_deep, child_fewer, many_few, sought_first, sought_here, sought_inside, sought_next, sought_none}
use Rattle.code_patch.proofs.code_node.CodeNode.+path_inside.Goals as goal

pub loop-child-init : goal.loop-child-init
loop-child-init g t c = record { sought = sought_first c.args.slot.0 c.args.self.now; within = omega arith }

pub returns-then-slot-clause-path : goal.returns-then-slot-clause-path
returns-then-slot-clause-path g t c =
    let self = c.args.self.now in
    let child = c.in-Some.child.now in
    let k = c.loop-child.k in
    let there : slice_get (code_nodes self.inner) k ≡ Some child = sym c.in-Some.ensures in
    sought_here c.args.slot.0 self k child c.path_of_item.result.items there (omega (arith, c.slot.ensures, c.if-slot.true)) c.path_of_item.ensures

pub returns-then-slot-clause-short : goal.returns-then-slot-clause-short
returns-then-slot-clause-short g t c =
    let self = c.args.self.now in
    let child = c.in-Some.child.now in
    let there : slice_get (code_nodes self.inner) c.loop-child.k ≡ Some child = sym c.in-Some.ensures in
    omega (arith, child_deep self.inner c.loop-child.k child there, ap length c.path_of_item.ensures)

pub path_inside-requires : goal.path_inside-requires
path_inside-requires g t c κs within =
    let self = c.args.self.now in
    let child = c.in-Some.child.now in
    let k = c.loop-child.k in
    let there : slice_get (code_nodes self.inner) k ≡ Some child = sym c.in-Some.ensures in (
      omega (arith, child_weight self.inner k child there),
      (within, (omega (arith, child_deep self.inner k child there, c.requires.shallow), omega (arith, child_fewer self.inner k child there, c.requires.few))),
    )

pub with_first-requires : goal.with_first-requires
with_first-requires g t c =
    let self = c.args.self.now in
    let child = c.in-Some.child.now in
    let there : slice_get (code_nodes self.inner) c.loop-child.k ≡ Some child = sym c.in-Some.ensures in
    record { room = omega (arith, child_deep self.inner c.loop-child.k child there, c.requires.shallow, c.in-Some-path_inside.ensures.short) }

pub returns-in-Some-path_inside-clause-path : goal.returns-in-Some-path_inside-clause-path
returns-in-Some-path_inside-clause-path g t c =
    let self = c.args.self.now in
    let child = c.in-Some.child.now in
    let k = c.loop-child.k in
    let there : slice_get (code_nodes self.inner) k ≡ Some child = sym c.in-Some.ensures in
    sought_inside c.args.slot.0 self k child c.with_first.result.items c.in-Some-path_inside.path.items there c.in-Some-path_inside.ensures.path
    c.with_first.ensures

pub returns-in-Some-path_inside-clause-short : goal.returns-in-Some-path_inside-clause-short
returns-in-Some-path_inside-clause-short g t c =
    let self = c.args.self.now in
    let child = c.in-Some.child.now in
    let there : slice_get (code_nodes self.inner) c.loop-child.k ≡ Some child = sym c.in-Some.ensures in
    omega (arith, child_deep self.inner c.loop-child.k child there, c.in-Some-path_inside.ensures.short, ap length c.with_first.ensures)

pub loop-child-smaller : goal.loop-child-smaller
loop-child-smaller g t c =
    let there : slice_get (code_nodes c.args.self.now.inner) c.loop-child.k ≡ Some c.in-Some.child.now = sym c.in-Some.ensures in
    omega (arith, slice_get_within (code_nodes c.args.self.now.inner) c.loop-child.k c.in-Some.child.now there)

pub overflow_add-k : goal.overflow_add-k
overflow_add-k g t c =
    let inner = c.args.self.now.inner in
    let there : slice_get (code_nodes inner) c.loop-child.k ≡ Some c.in-Some.child.now = sym c.in-Some.ensures in
    omega (arith, slice_get_within (code_nodes inner) c.loop-child.k c.in-Some.child.now there, many_few inner, c.requires.few)

pub loop-child-preserved : goal.loop-child-preserved
loop-child-preserved g t c =
    let self = c.args.self.now in
    let child = c.in-Some.child.now in
    let k = c.loop-child.k in
    let there : slice_get (code_nodes self.inner) k ≡ Some child = sym c.in-Some.ensures in
    record {
      sought =
          sought_next c.args.slot.0 self k child there c.loop-child.invariant.sought
          (λ same. c.if-slot.false (omega (arith, c.slot.ensures, same))) c.in_default-path_inside.ensures.none;
      within = omega (arith, slice_get_within (code_nodes self.inner) k child there);
    }

pub returns-clause-none : goal.returns-clause-none
returns-clause-none g t c =
    sought_none c.args.slot.0 c.args.self.now c.loop-child.k (sym c.in_default.ensures) c.loop-child.invariant.sought
