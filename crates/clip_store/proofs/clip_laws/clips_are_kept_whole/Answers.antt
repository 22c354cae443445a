use Rattle.clip_store.specs.PlainFragment.{kept_fragment}
use Rattle.clip_store.proofs.RoomlessFragments.{slots_kept, whole_goes_once}
use Rattle.clip_store.proofs.MappedPairs.{clip_named_mapped, full_mapped, with_clip_mapped}
use Rattle.clip_store.proofs.clip_laws.clips_are_kept_whole.Goals as goal

pub returns-clause-once : goal.returns-clause-once
returns-clause-once c = whole_goes_once

pub returns-clause-clips : goal.returns-clause-clips
returns-clause-clips c = clip_named_mapped kept_fragment

pub returns-clause-puts : goal.returns-clause-puts
returns-clause-puts c = with_clip_mapped kept_fragment

pub returns-clause-fullness : goal.returns-clause-fullness
returns-clause-fullness c name = full_mapped kept_fragment name (slots_kept c.room_is_not_shown.ensures.counts)

pub returns-clause-slots : goal.returns-clause-slots
returns-clause-slots c = slots_kept c.room_is_not_shown.ensures.counts
