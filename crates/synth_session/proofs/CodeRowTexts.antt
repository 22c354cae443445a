-- `text` of fill_row: bytes put one by one into a row of code, as far as that has room.
use Rattle.std.proofs.Common.{◌≡◌, ◌≤◌, ◌<◌, ℕ, List, [], ◌∷◌, ◌++◌, length, take, refl, sym, ap, ◌∙◌, arith}
use Rattle.std.proofs.lemmas.List.{append_assoc, append-nil, length-append, take_all}
use Rattle.plcs_base.specs.Put.{PutsAll, puts_nothing, puts_next}
use Rattle.synth_session.specs.declared.code_rows.CodeLine.{CodeLine}
use Rattle.synth_session.specs.declared.code_rows.TheConstants.{LONGEST_CODE_ROW}
use Rattle.synth_session.specs.Private.CodeLine.{PutsInCodeLine}
use Rattle.synth_session.proofs.LineTexts.{front_short, take_again}

-- bytes put one after the other come behind those of the row, as far as it has room
puts_row : {before after : CodeLine} {bytes : List ℕ} → length before.bytes.items ≤ LONGEST_CODE_ROW
    → PutsAll PutsInCodeLine before bytes after → after.bytes.items ≡ take LONGEST_CODE_ROW (before.bytes.items ++ bytes)
puts_row {before = before} fits puts_nothing =
    sym (ap (take LONGEST_CODE_ROW) (append-nil before.bytes.items) ∙ take_all LONGEST_CODE_ROW before.bytes.items fits)
puts_row {before = before} {bytes = byte ∷ bytes} fits (puts_next {between = between} put rest) =
    puts_row (rw put (front_short LONGEST_CODE_ROW (before.bytes.items ++ byte ∷ []))) rest
    ∙ ap (λ (front : List ℕ). take LONGEST_CODE_ROW (front ++ bytes)) put
    ∙ take_again LONGEST_CODE_ROW (before.bytes.items ++ byte ∷ []) bytes
    ∙ ap (take LONGEST_CODE_ROW) (append_assoc before.bytes.items (byte ∷ []) bytes)

-- a text put into an empty row
pub row_text : {before after : CodeLine} (bytes : List ℕ) → before.bytes.items ≡ [] → PutsAll PutsInCodeLine before bytes after
    → after.bytes.items ≡ take LONGEST_CODE_ROW bytes
row_text {before = before} bytes empty puts =
    puts_row (let none = ap length empty in omega (arith, none)) puts
    ∙ ap (λ (front : List ℕ). take LONGEST_CODE_ROW (front ++ bytes)) empty

-- a byte that the row has room for
pub byte_within : (xs : List ℕ) (byte : ℕ) → length xs < LONGEST_CODE_ROW → xs ++ byte ∷ [] ≡ take LONGEST_CODE_ROW (xs ++ byte ∷ [])
byte_within xs byte room = sym (take_all LONGEST_CODE_ROW (xs ++ byte ∷ []) (let one = length-append xs (byte ∷ []) in omega (arith, one)))
