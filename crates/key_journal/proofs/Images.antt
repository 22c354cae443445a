-- What a disk reads as is one of the images that a crash may leave of it.
use Rattle.std.proofs.Common.{refl}
use Rattle.key_journal.specs.Disk.{SyncsMakeImages, TearsKeepImages, WritesKeepImages}
use Rattle.key_journal.specs.Private.ReadImage.{torn_written}

pub torn_image : TearsKeepImages
torn_image state at count bytes torn reads = (state.bytes, reads, torn)

pub written_image : WritesKeepImages
written_image state at piece within reads =
    (state.bytes, reads, torn_written at piece state.bytes within)

pub synced_image : SyncsMakeImages
synced_image state = refl
