-- Character constants: the bytes between quotes, with each quote written twice.
use Rattle.std.proofs.Common.{◌≡◌, ℕ, ◌+◌, ◌≤◌, true, false, cond, List, [], ◌∷◌, ◌++◌, length, refl, sym, ap, ◌∙◌, subst, arith, Option, Some, None}
use Rattle.std.specs.Prelude.{nat_le}
use Rattle.std.specs.List.{list_all}
use Rattle.std.proofs.lemmas.List.{append_assoc, length-append}
use Rattle.std.proofs.lemmas.Option.{cond_some, none-some}
use Rattle.std.proofs.lemmas.Bool.{and_parts, and_from, cond-true, cond-false, cond_both, leb-true, le-leb, eqb-true}
use Rattle.plcs_base.specs.Text.{longest_text}
use Rattle.plcs_base.specs.Byte.{is_printable}
use Rattle.plcs_grammar.specs.Token.{begins_with, is_quote, doubled, with_quotes_doubled, quoted}
use Rattle.phrase_parser.specs.Private.Front.{constant_end, constant_end_at_quote, end_if_short}

-- a constant that is read up to here, and of whose value so much, ends there
pub record ClosesAt (read content : ℕ) (x : List ℕ) (end : ℕ) : Type 0 where
  pub value : List ℕ
  pub behind : List ℕ
  pub whole : x ≡ with_quotes_doubled value ++ (39 ∷ behind)
  pub end_is : end ≡ read + length (with_quotes_doubled value) + 1
  pub short : content + length value ≤ longest_text
  pub printable : list_all is_printable value ≡ true
  pub closed : begins_with is_quote behind ≡ false

-- a constant goes on over one byte more that isn't a quote
closes_byte : (read content byte : ℕ) (x : List ℕ) (end : ℕ) → is_quote byte ≡ false → is_printable byte ≡ true
    → ClosesAt (read + 1) (content + 1) x end → ClosesAt read content (byte ∷ x) end
closes_byte read content byte x end plain printable c =
    let one : doubled byte ≡ byte ∷ [] = cond-false (is_quote byte) (39 ∷ 39 ∷ []) (byte ∷ []) plain in
    let all : with_quotes_doubled (byte ∷ c.value) ≡ byte ∷ with_quotes_doubled c.value =
    ap (λ (front : List ℕ). front ++ with_quotes_doubled c.value) one in
    record {
      value = byte ∷ c.value;
      behind = c.behind;
      whole = ap (λ (rest : List ℕ). byte ∷ rest) c.whole ∙ ap (λ (front : List ℕ). front ++ (39 ∷ c.behind)) (sym all);
      end_is = omega (arith, c.end_is, ap length all);
      short = omega (arith, c.short);
      printable = and_from (is_printable byte) (list_all is_printable c.value) printable c.printable;
      closed = c.closed;
    }

-- a constant goes on over a doubled quote
closes_quotes : (read content : ℕ) (x : List ℕ) (end : ℕ)
    → ClosesAt (read + 2) (content + 1) x end → ClosesAt read content (39 ∷ 39 ∷ x) end
closes_quotes read content x end c = record {
  value = 39 ∷ c.value;
  behind = c.behind;
  whole = ap (λ (rest : List ℕ). 39 ∷ 39 ∷ rest) c.whole;
  end_is = omega (arith, c.end_is);
  short = omega (arith, c.short);
  printable = c.printable;
  closed = c.closed;
}

-- a constant ends at its closing quote
closes_here : (read content : ℕ) (x : List ℕ) (end : ℕ) → begins_with is_quote x ≡ false
    → end_if_short (read + 1) content ≡ Some end → ClosesAt read content (39 ∷ x) end
closes_here read content x end behind h =
    let ends : (nat_le content longest_text ≡ true) × (read + 1 ≡ end) = cond_some (nat_le content longest_text) (read + 1) end h in
    record {
      value = [];
      behind = x;
      whole = refl;
      end_is = omega (arith, ends.1);
      short = omega (arith, leb-true content longest_text ends.0);
      printable = refl;
      closed = behind;
    }

-- what the reading of a constant tells of the text
mutual
  pub constant_end_tells : (read content : ℕ) (x : List ℕ) (end : ℕ) → constant_end read content x ≡ Some end
      → ClosesAt read content x end
  constant_end_tells read content [] end h = absurd (none-some end h)
  constant_end_tells read content (byte ∷ rest) end h =
      cond_both (is_quote byte) (constant_end_at_quote read content rest)
      (cond (is_printable byte) (constant_end (read + 1) (content + 1) rest) None)
      (λ (o : Option ℕ). o ≡ Some end → ClosesAt read content (byte ∷ rest) end)
      (λ quote e. subst (λ (b : ℕ). ClosesAt read content (b ∷ rest) end) (sym (eqb-true byte 39 quote)) (at_quote_tells read content rest end e))
      (λ plain. cond_both (is_printable byte) (constant_end (read + 1) (content + 1) rest) None
      (λ (o : Option ℕ). o ≡ Some end → ClosesAt read content (byte ∷ rest) end)
      (λ printable e. closes_byte read content byte rest end plain printable (constant_end_tells (read + 1) (content + 1) rest end e))
      (λ _ e. absurd (none-some end e)))
      h

  pub at_quote_tells : (read content : ℕ) (x : List ℕ) (end : ℕ) → constant_end_at_quote read content x ≡ Some end
      → ClosesAt read content (39 ∷ x) end
  at_quote_tells read content [] end h = closes_here read content [] end refl h
  at_quote_tells read content (byte ∷ rest) end h =
      cond_both (is_quote byte) (constant_end (read + 2) (content + 1) rest) (end_if_short (read + 1) content)
      (λ (o : Option ℕ). o ≡ Some end → ClosesAt read content (39 ∷ byte ∷ rest) end)
      (λ quote e. subst (λ (b : ℕ). ClosesAt read content (39 ∷ b ∷ rest) end) (sym (eqb-true byte 39 quote))
      (closes_quotes read content rest end (constant_end_tells (read + 2) (content + 1) rest end e)))
      (λ plain e. closes_here read content (byte ∷ rest) end plain e)
      h

-- a value of printable bytes is read up to its closing quote
pub value_read : (value behind : List ℕ) (read content end total : ℕ) → list_all is_printable value ≡ true
    → end ≡ read + length (with_quotes_doubled value) → total ≡ content + length value
    → constant_end read content (with_quotes_doubled value ++ (39 ∷ behind)) ≡ constant_end_at_quote end total behind
value_read [] behind read content end total printable at sum =
    let here : read ≡ end = omega arith in
    let same : content ≡ total = omega arith in
    ap (λ (n : ℕ). constant_end_at_quote n content behind) here ∙ ap (λ (n : ℕ). constant_end_at_quote end n behind) same
value_read (byte ∷ value) behind read content end total printable at sum =
    let parts = and_parts (is_printable byte) (list_all is_printable value) printable in
    cond_both (is_quote byte) (39 ∷ 39 ∷ []) (byte ∷ [])
    (λ (front : List ℕ). end ≡ read + length (front ++ with_quotes_doubled value)
    → constant_end read content ((front ++ with_quotes_doubled value) ++ (39 ∷ behind)) ≡ constant_end_at_quote end total behind)
    (λ _ far. value_read value behind (read + 2) (content + 1) end total parts.1 (omega (arith, far)) (omega (arith, sum)))
    (λ plain far.
    cond-false (is_quote byte) (constant_end_at_quote read content (with_quotes_doubled value ++ (39 ∷ behind)))
    (cond (is_printable byte) (constant_end (read + 1) (content + 1) (with_quotes_doubled value ++ (39 ∷ behind))) None) plain
    ∙ cond-true (is_printable byte) (constant_end (read + 1) (content + 1) (with_quotes_doubled value ++ (39 ∷ behind))) None parts.0
    ∙ value_read value behind (read + 1) (content + 1) end total parts.1 (omega (arith, far)) (omega (arith, sum)))
    at

-- a value of printable bytes ends at its closing quote, where no further quote follows
pub quote_closes : (read content : ℕ) (behind : List ℕ) → content ≤ longest_text → begins_with is_quote behind ≡ false
    → constant_end_at_quote read content behind ≡ Some (read + 1)
quote_closes read content [] short closed = cond-true (nat_le content longest_text) (Some (read + 1)) None (le-leb content longest_text short)
quote_closes read content (byte ∷ rest) short closed =
    cond-false (is_quote byte) (constant_end (read + 2) (content + 1) rest) (end_if_short (read + 1) content) closed
    ∙ cond-true (nat_le content longest_text) (Some (read + 1)) None (le-leb content longest_text short)

-- a constant without its opening quote has the same bytes behind it as before it
pub quoted_append : (value behind : List ℕ) → quoted value ++ behind ≡ 39 ∷ (with_quotes_doubled value ++ (39 ∷ behind))
quoted_append value behind = ap (λ (rest : List ℕ). 39 ∷ rest) (append_assoc (with_quotes_doubled value) (39 ∷ []) behind)

-- two quotes stand round the value
pub length_quoted : (value : List ℕ) → length (quoted value) ≡ length (with_quotes_doubled value) + 2
length_quoted value = omega (arith, length-append (with_quotes_doubled value) (39 ∷ []))

-- a character constant is read to its end
pub quoted_read : (value behind : List ℕ) → length value ≤ longest_text → list_all is_printable value ≡ true
    → begins_with is_quote behind ≡ false → constant_end 1 0 (with_quotes_doubled value ++ (39 ∷ behind)) ≡ Some (length (quoted value))
quoted_read value behind short printable closed =
    let end = 1 + length (with_quotes_doubled value) in
    let total : length value ≡ 0 + length value = omega arith in
    let last : end + 1 ≡ length (quoted value) = omega (arith, length_quoted value) in
    value_read value behind 1 0 end (length value) printable refl total
    ∙ quote_closes end (length value) behind short closed ∙ ap (λ (n : ℕ). Some n) last
