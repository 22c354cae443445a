-- The entries of files in memory.
use Rattle.std.specs.Prelude.{ℕ, Bool, List, bytes_eq}
use Rattle.std.specs.Coded.{Coded, coded_ℕ, coded_list}
use Rattle.std.specs.FinMap.{code}
use Rattle.synth_outside.specs.Files.{FileMap}

-- maps of files are told apart by their entries
abbrev pub file_map_code : Coded FileMap
file_map_code = code (coded_list coded_ℕ) (coded_list coded_ℕ)

-- whether an entry of files in memory has the name
abbrev pub is_named : List ℕ → List ℕ × List ℕ → Bool
is_named name entry = bytes_eq entry.0 name
