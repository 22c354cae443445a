-- The text of an instruction as it is put into a row of code.
use Rattle.std.specs.Prelude.{◌≡◌, ℕ, [], ◌∷◌, ◌++◌, take}
use Rattle.synth_session.specs.declared.code_rows.CodeLine.{CodeLine}
use Rattle.synth_session.specs.declared.code_rows.TheConstants.{LONGEST_CODE_ROW}

-- a byte came behind the text that is put into a line of code, as far as the line has room
abbrev pub PutsInCodeLine : CodeLine → ℕ → CodeLine → Type 0
PutsInCodeLine before byte after = after.bytes.items ≡ take LONGEST_CODE_ROW (before.bytes.items ++ byte ∷ [])
