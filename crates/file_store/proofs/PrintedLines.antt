-- The bytes of a line that some listing has.
use Rattle.std.specs.Prelude.{◌≡◌, refl, ℕ, Bool, true, false, ◌||◌, IsTrue, List, [], ◌∷◌}
use Rattle.std.specs.List.{list_all}
use Rattle.std.proofs.Common.{ap, sym, ◌∙◌, subst}
use Rattle.std.proofs.Math.Bool.{true≢false}
use Rattle.std.proofs.lemmas.Bool.{and_parts, and_from}
use Rattle.plcs_base.specs.Byte.{is_printable}
use Rattle.lane_rows.specs.TextByte.{is_line_end, is_text_byte}
use Rattle.file_store.specs.Private.LineLaws.{LineLaws}
use Rattle.file_store.specs.Private.LineReading.{SaysNothing}
use Rattle.file_store.proofs.Texts.{line_printable}

or_right : (a b : Bool) → b ≡ true → (a || b) ≡ true
or_right true b e = refl
or_right false b e = e

right_of_or : (a b : Bool) → (a || b) ≡ false → b ≡ false
right_of_or true b e = absurd (true≢false e)
right_of_or false b e = e

text_bytes : (x : List ℕ) → IsTrue (list_all is_printable x) → list_all is_text_byte x ≡ true
text_bytes [] h = refl
text_bytes (byte ∷ x) h =
    let both = and_parts (is_printable byte) (list_all is_printable x) h in
    and_from (is_text_byte byte) (list_all is_text_byte x) (or_right (is_line_end byte) (is_printable byte) both.0) (text_bytes x both.1)

-- a line with a byte that isn't printable says nothing
pub unprintable : LineLaws → (known : Bool) (line : List ℕ) → (known || list_all is_text_byte line) ≡ false → SaysNothing line
unprintable laws known line e said h is =
    true≢false
    (sym (text_bytes line (subst (λ x. IsTrue (list_all is_printable x)) is (line_printable laws said h)))
    ∙ right_of_or known (list_all is_text_byte line) e)
