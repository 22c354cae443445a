-- ---- fragments and clips as plain data
pub mod PlainFragment
pub mod PlainClips
-- ---- what they may be, and which are refused
pub mod ClipLimit
-- ---- the laws
pub mod ClipRoomLaws
pub mod KeptClipLaws
-- ---- what private contracts alone cite
pub mod Private
