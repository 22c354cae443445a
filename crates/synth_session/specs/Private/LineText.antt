-- The text of a phrase as it is put into a typed line.
use Rattle.std.specs.Prelude.{◌≡◌, ℕ, [], ◌∷◌, ◌++◌, take}
use Rattle.synth_session.specs.declared.typed_line.LineText.{LineText}
use Rattle.synth_session.specs.declared.typed_line.TheConstants.{LINE_LIMIT}

-- a byte came behind the text that is put into a typed line, as far as the line has room
abbrev pub PutsInLine : LineText → ℕ → LineText → Type 0
PutsInLine before byte after = after.bytes.items ≡ take LINE_LIMIT (before.bytes.items ++ byte ∷ [])
