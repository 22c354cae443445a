-- Which bytes are a name.
use Rattle.std.specs.Prelude.{ℕ, Bool, false, ◌&&◌, not, nat_le, bytes_eq, List, [], ◌∷◌, length, codes, IsTrue}
use Rattle.std.specs.List.{list_all, list_any}
use Rattle.plcs_base.specs.declared.name.TheConstants.{LONGEST_NAME}
use Rattle.plcs_base.specs.Byte.{is_letter, is_name_byte}

-- the keywords, which are no names
abbrev pub keywords : List (List ℕ)
keywords =
    codes "BIT" ∷ codes "BY" ∷ codes "CALL" ∷ codes "CHARACTER" ∷ codes "DECLARE" ∷ codes "DO" ∷ codes "ELSE"
    ∷ codes "END" ∷ codes "FIXED" ∷ codes "FLOAT" ∷ codes "GET" ∷ codes "IF" ∷ codes "LIST" ∷ codes "MAIN"
    ∷ codes "OPTIONS" ∷ codes "OTHERWISE" ∷ codes "PROCEDURE" ∷ codes "PUT" ∷ codes "RETURN" ∷ codes "SELECT"
    ∷ codes "SKIP" ∷ codes "THEN" ∷ codes "TO" ∷ codes "UNTIL" ∷ codes "VARYING" ∷ codes "WHEN" ∷ codes "WHILE" ∷ []

-- whether the bytes are one of the keywords; capitals and small letters differ
unfoldable pub is_keyword : List ℕ → Bool
is_keyword bytes = list_any (bytes_eq bytes) keywords

-- whether the bytes are a word, as a name or a keyword is: a letter, then letters, digits or `_`
abbrev pub is_word : List ℕ → Bool
is_word [] = false
is_word (first ∷ rest) = is_letter first && list_all is_name_byte rest

-- how many bytes a name may have
abbrev pub longest_name : ℕ
longest_name = LONGEST_NAME

-- whether the bytes are a name: a word, not too long, that is no keyword
abbrev pub is_name : List ℕ → Bool
is_name bytes = is_word bytes && (nat_le (length bytes) longest_name && not (is_keyword bytes))

-- the bytes are a name
abbrev pub IsName : List ℕ → Type 0
IsName bytes = IsTrue (is_name bytes)
