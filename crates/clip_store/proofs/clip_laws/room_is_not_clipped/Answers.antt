use Rattle.clip_store.proofs.RoomlessFragments.{fragment_once, slots_roomless, whole_fragment_once, whole_fragment_roomless}
use Rattle.clip_store.specs.PlainFragment.{roomless_fragment}
use Rattle.clip_store.proofs.MappedPairs.{clip_named_mapped, full_mapped, with_clip_mapped}
use Rattle.clip_store.proofs.clip_laws.room_is_not_clipped.Goals as goal

pub returns-clause-once : goal.returns-clause-once
returns-clause-once c = fragment_once c.room_is_not_shown.ensures.once

pub returns-clause-clips : goal.returns-clause-clips
returns-clause-clips c = clip_named_mapped roomless_fragment

pub returns-clause-puts : goal.returns-clause-puts
returns-clause-puts c = with_clip_mapped roomless_fragment

pub returns-clause-fullness : goal.returns-clause-fullness
returns-clause-fullness c name = full_mapped roomless_fragment name (slots_roomless c.room_is_not_shown.ensures.counts)

pub returns-clause-slots : goal.returns-clause-slots
returns-clause-slots c = slots_roomless c.room_is_not_shown.ensures.counts

pub returns-clause-whole : goal.returns-clause-whole
returns-clause-whole c = whole_fragment_roomless

pub returns-clause-whole_once : goal.returns-clause-whole_once
returns-clause-whole_once c = whole_fragment_once c.room_is_not_shown.ensures.once
