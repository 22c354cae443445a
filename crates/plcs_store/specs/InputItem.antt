-- How items of the input are read.
use Rattle.std.specs.Prelude.{ℕ, ◌+◌, ◌==◌, nat_le, ℤ, pos, neg_ℤ, Bool, true, false, not, ◌&&◌, ◌||◌, if◌then◌else◌, bytes_eq, List, [], ◌∷◌, codes, drop, length, take, Option, Some, None, ok_or, option_map, option_and_then, Result, Ok, Err}
use Rattle.std.specs.List.{list_all, prefix_len}
use Rattle.plcs_base.specs.Byte.{is_digit, is_printable}
use Rattle.plcs_base.specs.Text.{longest_text}
use Rattle.plcs_base.specs.declared.declared.ItemType.{ItemType}
use Rattle.plcs_base.specs.declared.value.Value.{Value}
use Rattle.plcs_grammar.specs.Token.{is_quote, numeral_value}
use Rattle.plcs_store.specs.declared.input_item.ItemFault.{ItemFault}
use Rattle.plcs_store.specs.Operator.{is_fixed}

-- ---- where an item ends

-- whether a byte of the input is a blank
abbrev pub is_input_blank : ℕ → Bool
is_input_blank byte = (byte == 9) || ((byte == 10) || ((byte == 13) || (byte == 32)))

-- whether a byte of the input is a comma
abbrev pub is_comma : ℕ → Bool
is_comma byte = byte == 44

-- whether a byte of the input goes on with an item
abbrev pub is_item_byte : ℕ → Bool
is_item_byte byte = not (is_input_blank byte || is_comma byte)

-- how many blanks stand at the front of the input
abbrev pub blanks_before : List ℕ → ℕ
blanks_before input = prefix_len is_input_blank input

-- how many bytes at the front of the input go on with an item
abbrev pub item_bytes_before : List ℕ → ℕ
item_bytes_before input = prefix_len is_item_byte input

-- how many bytes a constant in an item of the input has behind its opening quote, with its closing quote: the first
-- that isn't doubled; none where there is no such quote. So many of them stand before these bytes, and a quote among
-- them as the last one may be the closing one, or the first of two
abbrev pub closed_at : (count : ℕ) → (behind_quote : Bool) → List ℕ → Option ℕ
closed_at count false [] = None
closed_at count true [] = Some count
closed_at count false (byte ∷ rest) = closed_at (count + 1) (is_quote byte) rest
closed_at count true (byte ∷ rest) = if is_quote byte then closed_at (count + 1) false rest else Some count

-- how many bytes an item of the input has of which a quote stood before these: to the closing quote, and on as any
-- other
abbrev pub quoted_length : List ℕ → Option ℕ
quoted_length rest = option_map (λ n. 1 + n + item_bytes_before (drop n rest)) (closed_at 0 false rest)

-- how many bytes an item of the input has: to the next blank, comma or end; one that begins with a quote goes to its
-- closing quote first, and has no length where there is none
abbrev pub item_length : List ℕ → Option ℕ
item_length [] = Some 0
item_length (byte ∷ rest) = if is_quote byte then quoted_length rest else Some (item_bytes_before (byte ∷ rest))

-- how many bytes a comma has that stands at the front of the input, with the blanks behind it
abbrev pub comma_length : List ℕ → ℕ
comma_length [] = 0
comma_length (byte ∷ rest) = if is_comma byte then blanks_before rest + 1 else 0

-- how many bytes of the input stand between an item and the next one
abbrev pub separator_length : List ℕ → ℕ
separator_length input = blanks_before input + comma_length (drop (blanks_before input) input)

-- ---- what an item says

-- whether the bytes of an item are digits, and one at least
abbrev pub are_digits : List ℕ → Bool
are_digits [] = false
are_digits (byte ∷ rest) = list_all is_digit (byte ∷ rest)

-- the number that an item is, if it is in range
abbrev pub number_in_range : ℤ → Option Value
number_in_range z = if is_fixed z then Some (Value.Fixed z) else None

-- the number that digits write, if they are digits, and it is in range
abbrev pub positive_item : List ℕ → Option Value
positive_item digits = if are_digits digits then number_in_range (pos (numeral_value digits)) else None

-- the number that digits write behind a minus, if they are digits, and it is in range
abbrev pub negative_item : List ℕ → Option Value
negative_item digits = if are_digits digits then number_in_range (neg_ℤ (pos (numeral_value digits))) else None

-- the whole number that an item is, if it is one: perhaps a sign, and digits
abbrev pub fixed_item : List ℕ → Option Value
fixed_item [] = None
fixed_item (byte ∷ rest) =
    if byte == 45 then negative_item rest else (if byte == 43 then positive_item rest else positive_item (byte ∷ rest))

-- the truth value that an item is, if it is one
abbrev pub bit_item : List ℕ → Option Value
bit_item item =
    if bytes_eq item (codes "0") || bytes_eq item (codes "'0'B") then Some (Value.Bit false)
    else (if bytes_eq item (codes "1") || bytes_eq item (codes "'1'B") then Some (Value.Bit true) else None)

-- the bytes of a constant's value in the input: what stands between its quotes, each two quotes as one
abbrev pub unquoted : (behind_quote : Bool) → List ℕ → List ℕ
unquoted behind_quote [] = []
unquoted false (byte ∷ rest) = if is_quote byte then unquoted true rest else byte ∷ unquoted false rest
unquoted true (byte ∷ rest) = if is_quote byte then byte ∷ unquoted false rest else []

-- the text of these bytes of an item, if it isn't too long and each may stand in a constant
abbrev pub readable_text : List ℕ → Option Value
readable_text x = if nat_le (length x) longest_text && list_all is_printable x then Some (Value.Text x) else None

-- the text of a constant whose opening quote stood before these bytes, if nothing stands behind its closing quote
abbrev pub whole_constant : List ℕ → Option Value
whole_constant rest =
    option_and_then (λ n. if n == length rest then readable_text (unquoted false rest) else None)
    (closed_at 0 false rest)

-- the text that an item is, if it is one: a quoted constant that ends the item, or the bytes as they are
abbrev pub text_item : List ℕ → Option Value
text_item [] = None
text_item (byte ∷ rest) = if is_quote byte then whole_constant rest else readable_text (byte ∷ rest)

-- the value of the type that an item is, if it is one
abbrev pub item_value : ItemType → List ℕ → Option Value
item_value ItemType.Fixed item = fixed_item item
item_value ItemType.Bit item = bit_item item
item_value (ItemType.Text n) item = text_item item

-- ---- the next item

-- what the item of so many bytes at the front is read as, with how many bytes it takes
abbrev pub cut_item : ItemType → List ℕ → ℕ → Result (Value × ℕ) ItemFault
cut_item ty input n =
    ok_or
    (option_map (λ value. (value, n + separator_length (drop n input))) (item_value ty (take n input)))
    ItemFault.Conversion

-- what the item at the front is read as, if its length is known
abbrev pub cut_or_wanted : ItemType → List ℕ → Option ℕ → Result (Value × ℕ) ItemFault
cut_or_wanted ty input None = Err ItemFault.Wanted
cut_or_wanted ty input (Some n) = cut_item ty input n

-- what the item at the front is read as, where no blank stands before it: nothing is there, it isn't whole yet, or it
-- is there
abbrev pub item_at_front : ItemType → List ℕ → Result (Value × ℕ) ItemFault
item_at_front ty [] = Err ItemFault.Wanted
item_at_front ty (byte ∷ rest) = cut_or_wanted ty (byte ∷ rest) (item_length (byte ∷ rest))

-- an item of the input with the blanks before it
abbrev pub behind_blanks : ℕ → Result (Value × ℕ) ItemFault → Result (Value × ℕ) ItemFault
behind_blanks n (Ok found) = Ok (found.0, n + found.1)
behind_blanks n (Err fault) = Err fault

-- what the next item of the input is read as, with how many bytes it takes, the blanks before it among them
abbrev pub next_item : ItemType → List ℕ → Result (Value × ℕ) ItemFault
next_item ty input =
    behind_blanks (blanks_before input) (item_at_front ty (drop (blanks_before input) input))
