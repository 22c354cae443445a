-- The keys of the text that makes a program, as the maker presses them.
use Rattle.std.specs.Prelude.{ℕ, zero, suc, List, [], ◌∷◌, ◌++◌, codes, map}
use Rattle.synth_session.specs.declared.key.Key.{Key}
use Rattle.synth_session.specs.declared.key.Key.TheVariants.{Char, Enter, Up, Down}
use Rattle.synth_top.specs.MadeText.{statement_text}

-- the keys of printable bytes of a text that the maker presses
abbrev pub text_keys : List ℕ → List Key
text_keys text = map Char text

-- the keys of a line that the maker presses
abbrev pub line_keys : List ℕ → List Key
line_keys text = text_keys text ++ Enter ∷ []

-- the keys that the maker presses for one statement more
abbrev pub one_more_keys : (number : ℕ) → List Key
one_more_keys number = line_keys (codes ".after") ++ line_keys (statement_text number)

-- the keys that the maker presses for the statements from the first to the one of this number
unfoldable pub statements_keys : (number : ℕ) → List Key
statements_keys zero = []
statements_keys (suc number) = statements_keys number ++ one_more_keys (suc number)

-- the keys that the maker presses before those for the statements
abbrev pub first_keys : List Key
first_keys =
    (Up ∷ []) ++ (line_keys (codes ".fixed") ++ (line_keys (codes "x") ++ ((Down ∷ []) ++ line_keys (codes "x = 0"))))

-- the keys that the maker presses after those for the statements
abbrev pub last_keys : List Key
last_keys =
    line_keys (codes ".after") ++ (line_keys (codes ".puts") ++ (line_keys (codes "x") ++ line_keys (codes ".run")))

-- all keys that the maker presses for a program of so many statements
abbrev pub all_keys : (number : ℕ) → List Key
all_keys number = first_keys ++ (statements_keys number ++ last_keys)
