-- What regular files of the system are seen as, where nothing is told of their bytes.
use Rattle.std.specs.Prelude.{Option, Some, None}
use Rattle.synth_outside.specs.Files.{NewContent}
use Rattle.regular_files.specs.declared.beside.Beside.{Beside}

-- the new content that was begun in regular files, if one was: the name that it is for, as it was said; its bytes
-- aren't told
abbrev pub untold_begun : Option Beside → Option NewContent
untold_begun None = None
untold_begun (Some beside) = Some (record { name = beside.name.items; bytes = None })
