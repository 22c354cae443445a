-- The value of each limit.
use Rattle.std.specs.Prelude.{◌≡◌, refl}
use Rattle.clip_store.specs.ClipLimit.{most_clips, most_clip_slots}

most_clips_is : most_clips ≡ 64
most_clips_is = refl

most_clip_slots_is : most_clip_slots ≡ 20000
most_clip_slots_is = refl
