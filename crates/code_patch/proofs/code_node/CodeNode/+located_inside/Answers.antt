-- The nodes inside are gone through in order: the slot is located as all are among those that are left. It is that of
-- a node, or is located inside one, or is left behind it.
use Rattle.std.specs.Prelude.{◌≡◌, ℕ, Some, None, slice_get}
use Rattle.std.proofs.Common.{arith, ap, sym, ◌∙◌}
use Rattle.std.proofs.lemmas.Option.{slice_get_past, slice_get_within}
use Rattle.plcs_base.specs.ListLeft.{past_where_none}
use Rattle.code_patch.specs.CodeForest.{code_nodes}
use Rattle.code_patch.specs.Private.LocatedNode.{PlainLocated, child_start, located_inside}
use Rattle.code_patch.specs.Private.LocatedView.{plain_located}
use Rattle.code_patch.proofs.FoundInstrs.{child_weight}
use Rattle.code_patch.proofs.FurtherNodes.{found_further, further_on, none_further}
use Rattle.code_patch.proofs.LocatedNodes.{child_fits, left_first, left_here, left_next, left_none, left_within}
use Rattle.code_patch.proofs.code_node.CodeNode.+located_inside.Goals as goal

pub loop-k-init : goal.loop-k-init
loop-k-init g t c = record {
  left = left_first c.args.slot.0 0 c.args.self.now;
  within = omega arith;
}

pub returns-then-slot-clause-found : goal.returns-then-slot-clause-found
returns-then-slot-clause-found g t c =
    let self = c.args.self.now in
    let child = c.in-Some.child.now in
    let k = c.loop-k.k in
    let there : slice_get (code_nodes self.inner) k ≡ Some child = sym c.in-Some.ensures in
    let same = c.slot.ensures in
    ap (λ (n : ℕ). Some (record { start = n; node = child })) c.child_start-begin.ensures
    ∙ left_here c.args.slot.0 0 self k child there c.loop-k.invariant.left (omega (arith, same, c.if-slot.true))

pub returns-then-slot-clause-short : goal.returns-then-slot-clause-short
returns-then-slot-clause-short g t c =
    let self = c.args.self.now in
    let child = c.in-Some.child.now in
    let k = c.loop-k.k in
    let there : slice_get (code_nodes self.inner) k ≡ Some child = sym c.in-Some.ensures in
    omega (arith, child_fits c.args.slot.0 0 self k child there, c.child_start-begin.ensures)

pub located_inside-requires : goal.located_inside-requires
located_inside-requires g t c κs within =
    let self = c.args.self.now in
    let child = c.in-Some.child.now in
    let k = c.loop-k.k in
    let there : slice_get (code_nodes self.inner) k ≡ Some child = sym c.in-Some.ensures in
    (omega (arith, child_weight self.inner k child there), (within, omega (arith, child_fits c.args.slot.0 0 self k child there, c.requires)))

pub overflow_add-result : goal.overflow_add-result
overflow_add-result g t c =
    let self = c.args.self.now in
    let child = c.in-Some.child.now in
    let k = c.loop-k.k in
    let there : slice_get (code_nodes self.inner) k ≡ Some child = sym c.in-Some.ensures in
    omega
    (arith, child_fits c.args.slot.0 0 self k child there, c.child_start-ahead.ensures, c.in-Some-located_inside.ensures.short, c.requires)

pub returns-in-Some-located_inside-clause-found : goal.returns-in-Some-located_inside-clause-found
returns-in-Some-located_inside-clause-found g t c =
    let self = c.args.self.now in
    let child = c.in-Some.child.now in
    let k = c.loop-k.k in
    let there : slice_get (code_nodes self.inner) k ≡ Some child = sym c.in-Some.ensures in
    let found : PlainLocated = plain_located c.in-Some-located_inside.located in
    let inside = found_further c.args.slot.0 (child_start 0 self k) child found c.in-Some-located_inside.ensures.found in
    ap (λ (n : ℕ). Some (further_on n found)) c.child_start-ahead.ensures
    ∙ left_within c.args.slot.0 0 self k child there c.loop-k.invariant.left (further_on (child_start 0 self k) found)
    (λ same. c.if-slot.false (omega (arith, c.slot.ensures, same))) inside

pub returns-in-Some-located_inside-clause-short : goal.returns-in-Some-located_inside-clause-short
returns-in-Some-located_inside-clause-short g t c =
    let self = c.args.self.now in
    let child = c.in-Some.child.now in
    let k = c.loop-k.k in
    let there : slice_get (code_nodes self.inner) k ≡ Some child = sym c.in-Some.ensures in
    omega (arith, child_fits c.args.slot.0 0 self k child there, c.child_start-ahead.ensures, c.in-Some-located_inside.ensures.short)

pub loop-k-smaller : goal.loop-k-smaller
loop-k-smaller g t c =
    let there : slice_get (code_nodes c.args.self.now.inner) c.loop-k.k ≡ Some c.in-Some.child.now = sym c.in-Some.ensures in
    omega (arith, slice_get_within (code_nodes c.args.self.now.inner) c.loop-k.k c.in-Some.child.now there)

pub loop-k-preserved : goal.loop-k-preserved
loop-k-preserved g t c =
    let self = c.args.self.now in
    let child = c.in-Some.child.now in
    let k = c.loop-k.k in
    let there : slice_get (code_nodes self.inner) k ≡ Some child = sym c.in-Some.ensures in
    let inside = none_further c.args.slot.0 (child_start 0 self k) child c.in_default-located_inside.ensures.found in
    record {
      left = left_next c.args.slot.0 0 self k child there c.loop-k.invariant.left (λ same. c.if-slot.false (omega (arith, c.slot.ensures, same))) inside;
      within = omega (arith, slice_get_within (code_nodes self.inner) k child there);
    }

pub unreachable-requires : goal.unreachable-requires
unreachable-requires g t c =
    let past = past_where_none (code_nodes c.args.self.now.inner) c.loop-k.k (sym c.in_default.ensures) in
    omega (arith, past, c.count.ensures, c.loop-k-test.true)

pub returns-clause-found : goal.returns-clause-found
returns-clause-found g t c =
    left_none c.args.slot.0 0 c.args.self.now c.loop-k.k
    (slice_get_past (code_nodes c.args.self.now.inner) c.loop-k.k (omega (arith, c.count.ensures, c.loop-k-test.false))) c.loop-k.invariant.left
