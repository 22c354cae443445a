-- What the map finds is the fragment under the name, and what is kept of each fragment holds of it.
use Rattle.clip_store.specs.PlainClips.{clip_named}
use Rattle.clip_store.specs.ClipLimit.{IsClip}
use Rattle.clip_store.specs.Private.ClipsView.{pairs_of}
use Rattle.clip_store.proofs.MapPairs.{lent-pairs, lent_holds}
use Rattle.clip_store.proofs.ClipLimits.{IsClip-named}
use Rattle.clip_store.proofs.clips.Clips.get.Goals as goal

pub returns-clause-found : goal.returns-clause-found
returns-clause-found c =
    rw (← c.self.view_is)
    (lent-pairs c.args.name.now c.get.result c.self.inside.fragments.entries c.get.ensures.value)

pub returns-clause-clip : goal.returns-clause-clip
returns-clause-clip c =
    let pairs = pairs_of c.self.inside.fragments.entries in
    lent_holds IsClip c.get.result (clip_named c.args.name.now pairs)
    (lent-pairs c.args.name.now c.get.result c.self.inside.fragments.entries c.get.ensures.value)
    (IsClip-named c.args.name.now pairs c.self.invariant.clips)
