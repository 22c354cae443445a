-- The node that the way comes to stands in the slot, or what is found further on is inside it; so it is the one that is
-- located there, since the slot stands but once.
use Rattle.std.specs.Prelude.{◌≡◌, ℕ, Some, slice_get}
use Rattle.std.proofs.Common.{arith, ap, sym, ◌∙◌}
use Rattle.code_patch.specs.CodeForest.{code_nodes}
use Rattle.code_patch.specs.Private.LocatedNode.{child_start, located_inside}
use Rattle.code_patch.specs.Private.LocatedView.{plain_located}
use Rattle.code_patch.proofs.AdvisedNodes.{child_here, child_once, child_within}
use Rattle.code_patch.proofs.LocatedNodes.{child_fits}
use Rattle.code_patch.proofs.code_node.CodeNode.+located_by.Goals as goal

pub returns-then-slot-clause-found : goal.returns-then-slot-clause-found
returns-then-slot-clause-found g t c =
    let self = c.args.self.now in
    let child = c.in-Some-child.child.now in
    let k = c.in-Some-number_near.k in
    let there : slice_get (code_nodes self.inner) k ≡ Some child = sym c.in-Some-child.ensures in
    let same = c.slot.ensures in
    ap (λ (n : ℕ). Some (record { start = n; node = child })) c.child_start-begin.ensures
    ∙ child_here c.args.slot.0 c.args.start self k child there c.requires.once (omega (arith, same, c.if-slot.true))

pub returns-then-slot-clause-short : goal.returns-then-slot-clause-short
returns-then-slot-clause-short g t c =
    let self = c.args.self.now in
    let child = c.in-Some-child.child.now in
    let k = c.in-Some-number_near.k in
    let there : slice_get (code_nodes self.inner) k ≡ Some child = sym c.in-Some-child.ensures in
    omega (arith, child_fits c.args.slot.0 c.args.start self k child there, c.child_start-begin.ensures)

pub located_by-requires : goal.located_by-requires
located_by-requires g t c κs within =
    let self = c.args.self.now in
    let child = c.in-Some-child.child.now in
    let k = c.in-Some-number_near.k in
    let there : slice_get (code_nodes self.inner) k ≡ Some child = sym c.in-Some-child.ensures in
    (omega (arith, c.in-Some.ensures), (within, (omega (arith, child_fits c.args.slot.0 c.args.start self k child there, c.child_start-begin.ensures, c.requires.short), child_once c.args.slot.0 c.args.start self k child there c.requires.once)))

pub returns-clause-found : goal.returns-clause-found
returns-clause-found g t c =
    let self = c.args.self.now in
    let child = c.in-Some-child.child.now in
    let k = c.in-Some-number_near.k in
    let there : slice_get (code_nodes self.inner) k ≡ Some child = sym c.in-Some-child.ensures in
    let found = c.in-Some-located_by.located in
    let inside : Some (plain_located found) ≡ located_inside c.args.slot.0 (child_start c.args.start self k) child =
    c.in-Some-located_by.ensures.found ∙ ap (λ (n : ℕ). located_inside c.args.slot.0 n child) c.child_start-begin.ensures in
    child_within c.args.slot.0 c.args.start self k child there c.requires.once (plain_located found) inside

pub returns-clause-short : goal.returns-clause-short
returns-clause-short g t c =
    let self = c.args.self.now in
    let child = c.in-Some-child.child.now in
    let k = c.in-Some-number_near.k in
    let there : slice_get (code_nodes self.inner) k ≡ Some child = sym c.in-Some-child.ensures in
    omega (arith, child_fits c.args.slot.0 c.args.start self k child there, c.child_start-begin.ensures, c.in-Some-located_by.ensures.short)
