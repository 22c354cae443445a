-- What files of the system are seen as, where nothing is told of their bytes.
use Rattle.std.specs.Prelude.{Option, Some, None}
use Rattle.synth_outside.specs.Files.{NewContent}
use Rattle.synth_outside.specs.declared.std_files.Beside.{Beside}

-- the new content that was begun in files of the system, if one was: the name that it is for; its
-- bytes aren't told
abbrev pub untold_content : Option Beside → Option NewContent
untold_content None = None
untold_content (Some beside) = Some (record { name = beside.name.items; bytes = None })
