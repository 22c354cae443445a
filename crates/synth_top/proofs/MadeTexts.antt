-- The text that makes a program, and the keys that the maker presses for it.
use Rattle.std.proofs.Common.{◌≡◌, ◌<◌, ◌≤◌, ◌-◌, subst, append-nil, ◌^◌, ℕ, zero, suc, ◌+◌, Bool, true, false, ◌&&◌, eqb, if◌then◌else◌, ◌==◌, ◌||◌, List, [], ◌∷◌, ◌++◌, All, codes, decimal, refl, sym, ap, ◌∙◌, append_assoc, arith}
use Rattle.std.specs.Int.{IsInRange}
use Rattle.std.specs.List.{list_all}
use Rattle.std.specs.Prelude.{drop, get_or, length, map, take}
use Rattle.std.proofs.lemmas.Bool.Decides.{nat_tests}
use Rattle.std.proofs.lemmas.Fmt.{decimal_is_IsNumeral}
use Rattle.std.proofs.lemmas.Grind.{common_steps}
use Rattle.std.proofs.lemmas.List.{map-append, take_more}
use Rattle.std.proofs.lemmas.List.Elements.{All-from_get_or, All-head, All-tail, All-weaker}
use Rattle.std.proofs.lemmas.Str.Parse.{digit_at}
use Rattle.plcs_base.specs.Byte.{is_printable}
use Rattle.synth_session.specs.declared.key.Key.{Key}
use Rattle.synth_session.specs.declared.key.Key.TheVariants.{Char, Enter, Erase, Clear, Tab, Up, Down, Other}
use Rattle.synth_top.specs.Keys.{IsFront, key_of, keys}
use Rattle.synth_top.specs.MadeText.{down_bytes, line_of, made_text, one_more, statement_text, statements_text, up_bytes}
use Rattle.synth_top.specs.Private.MakingText.{all_keys, first_keys, last_keys, line_keys, one_more_keys, statements_keys, text_keys}
use Rattle.synth_top.proofs.KeyLists.{keys_first}

-- ---- printable texts

abbrev IsShown : ℕ → Type 0
IsShown byte = is_printable byte ≡ true

-- each byte of a text is printable
abbrev AreShown : List ℕ → Type 0
AreShown [] = Unit {0}
AreShown (byte ∷ rest) = IsShown byte × AreShown rest

from_all : (text : List ℕ) → All IsShown text → AreShown text
from_all [] all = tt
from_all (byte ∷ rest) all = (All-head IsShown byte rest all, from_all rest (All-tail IsShown byte rest all))

shown_both : (xs ys : List ℕ) → AreShown xs → AreShown ys → AreShown (xs ++ ys)
shown_both [] ys first second = second
shown_both (x ∷ xs) ys first second = (first.0, shown_both xs ys first.1 second)

both_true : (a b : Bool) → (a && b) ≡ true → (a ≡ true) × (b ≡ true)
both_true true b is = (refl, is)
both_true false b is = absurd (cc)

-- a text written out, whose bytes are tested
shown_text : (text : List ℕ) → list_all is_printable text ≡ true → AreShown text
shown_text [] all = tt
shown_text (byte ∷ rest) all =
    let parts = both_true (is_printable byte) (list_all is_printable rest) all in (parts.0, shown_text rest parts.1)

-- a number in decimal digits
shown_number : (n : ℕ) → n < 2 ^ 64 → AreShown (decimal n)
shown_number n fits =
    from_all (decimal n) (All-weaker (IsInRange 48 57) IsShown (λ byte digit. grind (arith, nat_tests)) (decimal n)
    (All-from_get_or (IsInRange 48 57) (decimal n) 0 λ i within. digit_at (decimal n) i
    (decimal_is_IsNumeral n fits).0.1 within))

-- ---- the keys of texts and lines

-- the key of a byte that isn't printable
abbrev other_key : ℕ → Key
other_key byte =
    if byte == 13 || byte == 10 then Enter
    else (if byte == 127 || byte == 8 then Erase
    else (if byte == 21 then Clear
    else (if byte == 9 then Tab
    else Other)))

key_shown : (byte : ℕ) → IsShown byte → key_of byte ≡ Char byte
key_shown byte is = ap (λ (b : Bool). if b then Char byte else other_key byte) is

-- the keys of a printable text, byte by byte
keys_shown : (text : List ℕ) → AreShown text → map key_of text ≡ text_keys text
keys_shown [] all = refl
keys_shown (byte ∷ text) all =
    ap (λ (k : Key). k ∷ map key_of text) (key_shown byte all.0)
    ∙ ap (λ (l : List Key). Char byte ∷ l) (keys_shown text all.1)

not_escape : (byte : ℕ) → IsShown byte → eqb byte 27 ≡ false
not_escape byte is = grind (arith, nat_tests, is)

keys_text : (text rest : List ℕ) → AreShown text → keys (text ++ rest) ≡ text_keys text ++ keys rest
keys_text [] rest all = refl
keys_text (byte ∷ text) rest all =
    keys_first byte (text ++ rest) (not_escape byte all.0)
    ∙ ap (λ (k : Key). k ∷ keys (text ++ rest)) (key_shown byte all.0)
    ∙ ap (λ (l : List Key). Char byte ∷ l) (keys_text text rest all.1)

keys_line : (text rest : List ℕ) → AreShown text → keys (line_of text ++ rest) ≡ line_keys text ++ keys rest
keys_line text rest all =
    ap keys (append_assoc text (13 ∷ []) rest)
    ∙ keys_text text (13 ∷ rest) all
    ∙ ap (λ (l : List Key). text_keys text ++ l) (keys_first 13 rest refl)
    ∙ sym (append_assoc (text_keys text) (Enter ∷ []) (keys rest))

keys_up : (rest : List ℕ) → keys (up_bytes ++ rest) ≡ Up ∷ keys rest
unfolding keys
keys_up rest = refl

keys_down : (rest : List ℕ) → keys (down_bytes ++ rest) ≡ Down ∷ keys rest
unfolding keys
keys_down rest = refl

-- ---- the statements

shown_statement : (n : ℕ) → n < 2 ^ 64 → AreShown (statement_text n)
shown_statement n fits =
    shown_both (codes "x = MOD(x * 3 + ") (decimal n ++ codes ", 1000)") (shown_text (codes "x = MOD(x * 3 + ") refl)
    (shown_both (decimal n) (codes ", 1000)") (shown_number n fits) (shown_text (codes ", 1000)") refl))

-- what is pressed for a statement, in three parts, of which the first has the line before it too
pub statement_keys : (n : ℕ) → n < 2 ^ 64
    → (line_keys (codes ".after") ++ text_keys (codes "x = MOD(x * 3 + "))
    ++ (map key_of (decimal n) ++ line_keys (codes ", 1000)")) ≡ one_more_keys n
statement_keys n fits =
    let hole = line_keys (codes ".after") in
    let lead = codes "x = MOD(x * 3 + " in
    let tail = codes ", 1000)" in
    append_assoc hole (text_keys lead) (map key_of (decimal n) ++ line_keys tail)
    ∙ ap (λ (l : List Key). hole ++ l)
    (ap (λ (l : List Key). text_keys lead ++ l)
    (ap (λ (l : List Key). l ++ line_keys tail) (keys_shown (decimal n) (shown_number n fits))
    ∙ sym (append_assoc (text_keys (decimal n)) (text_keys tail) (Enter ∷ []))
    ∙ ap (λ (l : List Key). l ++ Enter ∷ []) (sym (map-append Char (decimal n) tail)))
    ∙ sym (append_assoc (text_keys lead) (text_keys (decimal n ++ tail)) (Enter ∷ []))
    ∙ ap (λ (l : List Key). l ++ Enter ∷ []) (sym (map-append Char lead (decimal n ++ tail))))

keys_one_more : (n : ℕ) (rest : List ℕ) → n < 2 ^ 64 → keys (one_more n ++ rest) ≡ one_more_keys n ++ keys rest
keys_one_more n rest fits =
    ap keys (append_assoc (line_of (codes ".after")) (line_of (statement_text n)) rest)
    ∙ keys_line (codes ".after") (line_of (statement_text n) ++ rest) (shown_text (codes ".after") refl)
    ∙ ap (λ (l : List Key). line_keys (codes ".after") ++ l)
    (keys_line (statement_text n) rest (shown_statement n fits))
    ∙ sym (append_assoc (line_keys (codes ".after")) (line_keys (statement_text n)) (keys rest))

keys_statements : (n : ℕ) (rest : List ℕ) → n < 2 ^ 64
    → keys (statements_text n ++ rest) ≡ statements_keys n ++ keys rest
unfolding statements_text statements_keys
keys_statements zero rest fits = refl
keys_statements (suc n) rest fits =
    ap keys (append_assoc (statements_text n) (one_more (suc n)) rest)
    ∙ keys_statements n (one_more (suc n) ++ rest) (omega arith)
    ∙ ap (λ (l : List Key). statements_keys n ++ l) (keys_one_more (suc n) rest fits)
    ∙ sym (append_assoc (statements_keys n) (one_more_keys (suc n)) (keys rest))

-- the keys for one statement more come after those for the others
pub statements_more : (n : ℕ) → statements_keys n ++ one_more_keys (n + 1) ≡ statements_keys (n + 1)
unfolding statements_keys
statements_more n = subst (λ (m : ℕ). statements_keys n ++ one_more_keys m ≡ statements_keys m) (next n) refl where
  next : (m : ℕ) → suc m ≡ m + 1
  next m = omega arith

pub no_statements : statements_keys 0 ≡ []
unfolding statements_keys
no_statements = refl

-- ---- the whole text

abbrev last_text : List ℕ
last_text = line_of (codes ".after") ++ (line_of (codes ".puts") ++ (line_of (codes "x") ++ line_of (codes ".run")))

keys_last : keys last_text ≡ last_keys
unfolding keys
keys_last = refl

-- the first keys in front of others
first_apart : (more : List Key)
    → first_keys ++ more ≡ Up ∷
    (line_keys (codes ".fixed") ++ (line_keys (codes "x") ++ (Down ∷ (line_keys (codes "x = 0") ++ more))))
first_apart more = refl

keys_first_text : (rest : List ℕ)
    → keys (up_bytes ++ (line_of (codes ".fixed")
    ++ (line_of (codes "x") ++ (down_bytes ++ (line_of (codes "x = 0") ++ rest))))) ≡ first_keys ++ keys rest
keys_first_text rest =
    keys_up _
    ∙ ap (λ (l : List Key). Up ∷ l)
    (keys_line (codes ".fixed") _ (shown_text (codes ".fixed") refl)
    ∙ ap (λ (l : List Key). line_keys (codes ".fixed") ++ l)
    (keys_line (codes "x") _ (shown_text (codes "x") refl)
    ∙ ap (λ (l : List Key). line_keys (codes "x") ++ l)
    (keys_down _ ∙ ap (λ (l : List Key). Down ∷ l)
    (keys_line (codes "x = 0") rest (shown_text (codes "x = 0") refl)))))
    ∙ sym (first_apart (keys rest))

-- what the maker presses are the keys of the text
pub made_keys : (n : ℕ) → n < 2 ^ 64 → all_keys n ≡ keys (made_text n)
unfolding made_text
made_keys n fits =
    sym (keys_first_text (statements_text n ++ last_text)
    ∙ ap (λ (l : List Key). first_keys ++ l)
    (keys_statements n last_text fits ∙ ap (λ (l : List Key). statements_keys n ++ l) keys_last))

-- ---- a text byte by byte

pub text_more : (text : List ℕ) (i : ℕ) → i < length text
    → map key_of (take i text) ++ key_of (get_or text i 0) ∷ [] ≡ map key_of (take (i + 1) text)
text_more text i within =
    sym (ap (map key_of) (take_more text i 0 within) ∙ map-append key_of (take i text) (get_or text i 0 ∷ []))

both_parts : (text : List ℕ) (i : ℕ) → take i text ++ drop i text ≡ text
both_parts text i = simp common_steps

pub text_whole : (text : List ℕ) (i : ℕ) → i < length text
    → (map key_of (take i text) ++ key_of (get_or text i 0) ∷ []) ++ map key_of (drop (i + 1) text) ≡ map key_of text
text_whole text i within =
    ap (λ (l : List Key). l ++ map key_of (drop (i + 1) text)) (text_more text i within)
    ∙ sym (map-append key_of (take (i + 1) text) (drop (i + 1) text))
    ∙ ap (map key_of) (both_parts text (i + 1))

-- all bytes of it
pub text_all : (text : List ℕ) (i : ℕ) → i ≡ length text → map key_of (take i text) ≡ map key_of text
text_all text i all = ap (map key_of) (grind (arith, common_steps, all))

-- ---- statements one by one

-- the keys for some statements are the first ones of those for so many more
front_by : (few more : ℕ) → IsFront (statements_keys few) (statements_keys (few + more))
unfolding statements_keys
front_by few zero = subst (λ (n : ℕ). IsFront (statements_keys few) (statements_keys n)) (none few)
    ([], sym (append-nil (statements_keys few))) where
      none : (n : ℕ) → n ≡ n + 0
      none n = omega arith
front_by few (suc more) =
    let before = front_by few more in
    subst (λ (n : ℕ). IsFront (statements_keys few) (statements_keys n)) (one_later few more) (
      before.0 ++ one_more_keys (suc (few + more)),
      ap (λ (l : List Key). l ++ one_more_keys (suc (few + more))) before.1
          ∙ append_assoc (statements_keys few) before.0 (one_more_keys (suc (few + more))),
    )
  where
    one_later : (n m : ℕ) → suc (n + m) ≡ n + suc m
    one_later n m = omega arith

-- and so of those for as many or more
pub statements_front : (few many : ℕ) → few ≤ many → IsFront (statements_keys few) (statements_keys many)
statements_front few many within =
    let all : few + (many - few) ≡ many = omega (arith, within) in
    subst (λ (n : ℕ). IsFront (statements_keys few) (statements_keys n)) all (front_by few (many - few))
