-- The names that the map holds, but for the one that is found.
use Rattle.std.proofs.Common.{◌≡◌, ◌∙◌, Some, None, sym, length, arith}
use Rattle.clip_store.specs.PlainFragment.{plain_fragment}
use Rattle.clip_store.specs.PlainClips.{clip_named}
use Rattle.clip_store.proofs.MapPairs.{length-pairs}
use Rattle.clip_store.proofs.PutPairs.{length-absent, length-held}
use Rattle.clip_store.proofs.clips.Clips.other_names.Goals as goal

pub returns-in-None : goal.returns-in-None
returns-in-None c =
    let pairs = c.args.self.now.pairs in
    let absent : clip_named c.args.name.now pairs ≡ None = sym (rw c.in-None.is at c.get.ensures.found) in
    let all : length pairs ≡ c.len.result =
    rw (← c.self.view_is) (length-pairs c.self.inside.fragments.entries ∙ sym c.len.ensures.len) in
    omega (arith, length-absent c.args.name.now pairs absent)

pub returns-in-Some : goal.returns-in-Some
returns-in-Some c =
    let pairs = c.args.self.now.pairs in
    let old = plain_fragment c.in-Some.field-0.now in
    let held : clip_named c.args.name.now pairs ≡ Some old = sym (rw c.in-Some.is at c.get.ensures.found) in
    let all : length pairs ≡ c.len-in-Some.result =
    rw (← c.self.view_is) (length-pairs c.self.inside.fragments.entries ∙ sym c.len-in-Some.ensures.len) in
    omega (arith, length-held c.args.name.now pairs old held)
