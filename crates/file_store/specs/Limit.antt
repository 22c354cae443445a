-- The limits of files.
use Rattle.std.specs.Prelude.{ℕ}
use Rattle.file_store.specs.declared.limit.TheConstants.{LONGEST_LISTING, LONGEST_INPUT}

-- how many bytes a listing file may have
abbrev pub longest_listing : ℕ
longest_listing = LONGEST_LISTING

-- how many bytes a program's input may have
abbrev pub longest_input : ℕ
longest_input = LONGEST_INPUT
