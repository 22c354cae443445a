-- Texts that begin and end with a byte of a token, not with a blank.
use Rattle.std.proofs.Common.{◌≡◌, ℕ, zero, suc, ◌+◌, ◌<◌, ◌≤◌, ◌%◌, ◌/◌, Bool, true, false, List, [], ◌∷◌, ◌++◌, decimal, refl, ap, ◌∙◌, arith, inl, inr}
use Rattle.std.specs.Prelude.{◌&&◌, ◌||◌, ◌==◌, nat_le, nat_lt, IsTrue}
use Rattle.std.specs.List.{list_all}
use Rattle.std.specs.Fmt.{digits, digits_onto, digit_glyph}
use Rattle.std.proofs.lemmas.Bool.{and_parts, and_from, cond_both, cond-true, leb-true, le-leb, lt-ltb, or_cases, eqb-true}
use Rattle.std.proofs.lemmas.List.Folds.{list_all-append}
use Rattle.plcs_base.specs.Byte.{is_letter, is_digit, is_name_byte, is_printable}
use Rattle.plcs_base.specs.Name.{is_word, IsName}
use Rattle.plcs_grammar.specs.Token.{quote, is_quote, doubled, with_quotes_doubled, quoted}

-- whether a phrase may begin or end with the byte: no blank, no brace
abbrev pub is_edge : ℕ → Bool
is_edge byte = nat_le 33 byte && nat_le byte 122

-- the text begins with a byte that a phrase may begin with
abbrev pub BeginsWithEdge : List ℕ → Type 0
BeginsWithEdge [] = ⊥
BeginsWithEdge (byte ∷ rest) = IsTrue (is_edge byte)

-- the text ends with a byte that a phrase may end with
abbrev pub EndsWithEdge : List ℕ → Type 0
EndsWithEdge [] = ⊥
EndsWithEdge (byte ∷ []) = IsTrue (is_edge byte)
EndsWithEdge (byte ∷ next ∷ rest) = EndsWithEdge (next ∷ rest)

-- the text is solid: it begins and ends as a phrase may, and is printable
pub record IsSolid (x : List ℕ) : Type 0 where
  pub begins : BeginsWithEdge x
  pub ends : EndsWithEdge x
  pub printable : IsTrue (list_all is_printable x)

pub begins_append : (a b : List ℕ) → BeginsWithEdge a → BeginsWithEdge (a ++ b)
begins_append [] b h = absurd h
begins_append (byte ∷ a) b h = h

ends_next : (byte : ℕ) (b : List ℕ) → EndsWithEdge b → EndsWithEdge (byte ∷ b)
ends_next byte [] h = absurd h
ends_next byte (c ∷ b) h = h

pub ends_append : (a b : List ℕ) → EndsWithEdge b → EndsWithEdge (a ++ b)
ends_append [] b h = h
ends_append (byte ∷ a) b h = ends_next byte (a ++ b) (ends_append a b h)

pub printable_append : (a b : List ℕ) → IsTrue (list_all is_printable a) → IsTrue (list_all is_printable b) → IsTrue (list_all is_printable (a ++ b))
printable_append a b h k = list_all-append is_printable a b ∙ and_from (list_all is_printable a) (list_all is_printable b) h k

-- solid texts, one behind the other, with anything printable between, are a solid text
pub solid_between : (a m b : List ℕ) → IsSolid a → IsTrue (list_all is_printable m) → IsSolid b → IsSolid (a ++ (m ++ b))
solid_between a m b one middle other = record {
  begins = begins_append a (m ++ b) one.begins;
  ends = ends_append a (m ++ b) (ends_append m b other.ends);
  printable = printable_append a (m ++ b) one.printable (printable_append m b middle other.printable);
}

pub solid_append : (a b : List ℕ) → IsSolid a → IsSolid b → IsSolid (a ++ b)
solid_append a b one other = solid_between a [] b one refl other

-- the bytes that phrases begin or end with are printable
edge_printable : (byte : ℕ) → is_edge byte ≡ true → is_printable byte ≡ true
edge_printable byte h =
    let parts = and_parts (nat_le 33 byte) (nat_le byte 122) h in
    let low : 33 ≤ byte = leb-true 33 byte parts.0 in
    let high : byte ≤ 122 = leb-true byte 122 parts.1 in
    and_from (nat_le 32 byte) (nat_le byte 126) (le-leb 32 byte (omega arith)) (le-leb byte 126 (omega arith))

edges_printable : (x : List ℕ) → list_all is_edge x ≡ true → list_all is_printable x ≡ true
edges_printable [] h = refl
edges_printable (byte ∷ x) h =
    let parts = and_parts (is_edge byte) (list_all is_edge x) h in
    and_from (is_printable byte) (list_all is_printable x) (edge_printable byte parts.0) (edges_printable x parts.1)

edges_end : (byte : ℕ) (x : List ℕ) → list_all is_edge (byte ∷ x) ≡ true → EndsWithEdge (byte ∷ x)
edges_end byte [] h = (and_parts (is_edge byte) true h).0
edges_end byte (next ∷ x) h = edges_end next x (and_parts (is_edge byte) (list_all is_edge (next ∷ x)) h).1

pub solid_edges : (byte : ℕ) (x : List ℕ) → list_all is_edge (byte ∷ x) ≡ true → IsSolid (byte ∷ x)
solid_edges byte x h = record {
  begins = (and_parts (is_edge byte) (list_all is_edge x) h).0;
  ends = edges_end byte x h;
  printable = edges_printable (byte ∷ x) h;
}

-- bytes in a range are ones that a phrase may begin or end with
edge_between : (low high byte : ℕ) → 33 ≤ low → high ≤ 122 → (nat_le low byte && nat_le byte high) ≡ true → is_edge byte ≡ true
edge_between low high byte bottom top h =
    let parts = and_parts (nat_le low byte) (nat_le byte high) h in
    let from : low ≤ byte = leb-true low byte parts.0 in
    let upto : byte ≤ high = leb-true byte high parts.1 in
    and_from (nat_le 33 byte) (nat_le byte 122) (le-leb 33 byte (omega arith)) (le-leb byte 122 (omega arith))

letter_edge : (byte : ℕ) → is_letter byte ≡ true → is_edge byte ≡ true
letter_edge byte h = elim (or_cases (nat_le 97 byte && nat_le byte 122) (nat_le 65 byte && nat_le byte 90) h) [
  | inl small ↦ edge_between 97 122 byte (omega arith) (omega arith) small
  | inr capital ↦ edge_between 65 90 byte (omega arith) (omega arith) capital
]

name_byte_edge : (byte : ℕ) → is_name_byte byte ≡ true → is_edge byte ≡ true
name_byte_edge byte h = elim (or_cases (is_letter byte) (is_digit byte || (byte == 95)) h) [
  | inl letter ↦ letter_edge byte letter
  | inr other ↦ elim (or_cases (is_digit byte) (byte == 95) other) [
    | inl digit ↦ edge_between 48 57 byte (omega arith) (omega arith) digit
    | inr underscore ↦ ap is_edge (eqb-true byte 95 underscore)
  ]
]

name_bytes_edges : (x : List ℕ) → list_all is_name_byte x ≡ true → list_all is_edge x ≡ true
name_bytes_edges [] h = refl
name_bytes_edges (byte ∷ x) h =
    let parts = and_parts (is_name_byte byte) (list_all is_name_byte x) h in
    and_from (is_edge byte) (list_all is_edge x) (name_byte_edge byte parts.0) (name_bytes_edges x parts.1)

-- a name is a solid text
pub name_solid : (name : List ℕ) → IsName name → IsSolid name
name_solid [] h = absurd cc
name_solid (byte ∷ rest) h =
    let word = (and_parts (is_word (byte ∷ rest)) _ h).0 in
    let parts = and_parts (is_letter byte) (list_all is_name_byte rest) word in
    solid_edges byte rest (and_from (is_edge byte) (list_all is_edge rest) (letter_edge byte parts.0) (name_bytes_edges rest parts.1))

-- the bytes are a row of digits, one at least
abbrev IsRow : List ℕ → Type 0
IsRow [] = ⊥
IsRow (byte ∷ x) = IsTrue (list_all is_edge (byte ∷ x))

glyph_edge : (n : ℕ) → is_edge (digit_glyph false (n % 10)) ≡ true
glyph_edge n =
    let small : n % 10 < 10 = omega arith in
    let glyph : digit_glyph false (n % 10) ≡ 48 + n % 10 = cond-true (nat_lt (n % 10) 10) (48 + n % 10) (87 + n % 10) (lt-ltb (n % 10) 10 small) in
    ap is_edge glyph
    ∙ and_from (nat_le 33 (48 + n % 10)) (nat_le (48 + n % 10) 122) (le-leb 33 (48 + n % 10) (omega arith)) (le-leb (48 + n % 10) 122 (omega arith))

row_more : (byte : ℕ) (x : List ℕ) → is_edge byte ≡ true → list_all is_edge x ≡ true → IsRow (byte ∷ x)
row_more byte x h k = and_from (is_edge byte) (list_all is_edge x) h k

row_onto : (k n byte : ℕ) (x : List ℕ) → IsRow (byte ∷ x) → IsRow (digits_onto k 10 false n (byte ∷ x))
row_onto zero n byte x row = row
row_onto (suc k) n byte x row =
    let glyph = digit_glyph false (n % 10) in
    cond_both (n / 10 == 0) (glyph ∷ byte ∷ x) (digits_onto k 10 false (n / 10) (glyph ∷ byte ∷ x)) IsRow
    (λ e. row_more glyph (byte ∷ x) (glyph_edge n) row)
    (λ e. row_onto k (n / 10) glyph (byte ∷ x) (row_more glyph (byte ∷ x) (glyph_edge n) row))

row_digits : (k n : ℕ) → IsRow (digits_onto (suc k) 10 false n [])
row_digits k n =
    let glyph = digit_glyph false (n % 10) in
    cond_both (n / 10 == 0) (glyph ∷ []) (digits_onto k 10 false (n / 10) (glyph ∷ [])) IsRow
    (λ e. row_more glyph [] (glyph_edge n) refl)
    (λ e. row_onto k (n / 10) glyph [] (row_more glyph [] (glyph_edge n) refl))

row_solid : (x : List ℕ) → IsRow x → IsSolid x
row_solid [] row = absurd row
row_solid (byte ∷ x) row = solid_edges byte x row

pub decimal_solid : (n : ℕ) → IsSolid (decimal n)
unfolding digits
decimal_solid n = row_solid (digits_onto 64 10 false n []) (row_digits 63 n)

-- a text between quotes is solid: its quotes doubled it stays printable
doubled_printable : (x : List ℕ) → IsTrue (list_all is_printable x) → IsTrue (list_all is_printable (with_quotes_doubled x))
doubled_printable [] h = refl
doubled_printable (byte ∷ x) h =
    let parts = and_parts (is_printable byte) (list_all is_printable x) h in
    printable_append (doubled byte) (with_quotes_doubled x)
    (cond_both (is_quote byte) (quote ∷ quote ∷ []) (byte ∷ []) (λ z. IsTrue (list_all is_printable z)) (λ e. refl)
    (λ e. and_from (is_printable byte) true parts.0 refl))
    (doubled_printable x parts.1)

pub quoted_solid : (value : List ℕ) → IsTrue (list_all is_printable value) → IsSolid (quoted value)
quoted_solid value h =
    solid_between (quote ∷ []) (with_quotes_doubled value) (quote ∷ []) (solid_edges quote [] refl) (doubled_printable value h) (solid_edges quote [] refl)
