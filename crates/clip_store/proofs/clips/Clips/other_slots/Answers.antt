-- The slots that are kept, but for those of the fragment that is found.
use Rattle.std.proofs.Common.{◌≡◌, Some, None, sym, arith}
use Rattle.clip_store.specs.PlainFragment.{plain_fragment}
use Rattle.clip_store.specs.PlainClips.{clip_named, slots_held}
use Rattle.clip_store.proofs.PutPairs.{slots_held-absent, slots_held-held}
use Rattle.clip_store.proofs.clips.Clips.other_slots.Goals as goal

pub overflow_sub-result : goal.overflow_sub-result
overflow_sub-result c =
    let pairs = c.args.self.now.pairs in
    let old = plain_fragment c.in-Some.fragment.now in
    let held : clip_named c.args.name.now pairs ≡ Some old = sym (rw c.in-Some.is at c.get.ensures.found) in
    let kept : c.self.inside.slots ≡ slots_held pairs = rw (← c.self.view_is) c.self.invariant.slots in
    omega (arith, slots_held-held c.args.name.now pairs old held)

pub returns-in-None-clause-sum : goal.returns-in-None-clause-sum
returns-in-None-clause-sum c =
    let pairs = c.args.self.now.pairs in
    let absent : clip_named c.args.name.now pairs ≡ None = sym (rw c.in-None.is at c.get.ensures.found) in
    let kept : c.self.inside.slots ≡ slots_held pairs = rw (← c.self.view_is) c.self.invariant.slots in
    omega (arith, slots_held-absent c.args.name.now pairs absent)

pub returns-in-Some-clause-sum : goal.returns-in-Some-clause-sum
returns-in-Some-clause-sum c =
    let pairs = c.args.self.now.pairs in
    let old = plain_fragment c.in-Some.fragment.now in
    let held : clip_named c.args.name.now pairs ≡ Some old = sym (rw c.in-Some.is at c.get.ensures.found) in
    let kept : c.self.inside.slots ≡ slots_held pairs = rw (← c.self.view_is) c.self.invariant.slots in
    omega (arith, slots_held-held c.args.name.now pairs old held)
