-- The text whose keys make a program of so many statements: what a person would type for it.
use Rattle.std.specs.Prelude.{ℕ, zero, suc, List, [], ◌∷◌, ◌++◌, codes, decimal}

-- a line of the text that makes a program: it ends with the byte of Enter
abbrev pub line_of : List ℕ → List ℕ
line_of text = text ++ 13 ∷ []

-- the bytes of the keys Up and Down in the text that makes a program: ESC, `[`, and `A` or `B`
abbrev pub up_bytes : List ℕ
up_bytes = 27 ∷ 91 ∷ 65 ∷ []

abbrev pub down_bytes : List ℕ
down_bytes = 27 ∷ 91 ∷ 66 ∷ []

-- the statement of this number in a program that is made
abbrev pub statement_text : (number : ℕ) → List ℕ
statement_text number = codes "x = MOD(x * 3 + " ++ (decimal number ++ codes ", 1000)")

-- the text that makes one statement more of a program: a hole after the others, and the statement in it
abbrev pub one_more : (number : ℕ) → List ℕ
one_more number = line_of (codes ".after") ++ line_of (statement_text number)

-- the text that makes the statements of a program from the first to the one of this number
unfoldable pub statements_text : (number : ℕ) → List ℕ
statements_text zero = []
statements_text (suc number) = statements_text number ++ one_more (suc number)

-- the text that makes a program of so many statements and runs it: it declares one variable, sets it to 0, has the
-- statements work on it one after the other, and puts it out
unfoldable pub made_text : (number : ℕ) → List ℕ
made_text number =
    up_bytes ++ (line_of (codes ".fixed") ++ (line_of (codes "x") ++ (down_bytes ++ (line_of (codes "x = 0")
    ++ (statements_text number
    ++ (line_of (codes ".after") ++ (line_of (codes ".puts") ++ (line_of (codes "x") ++ line_of (codes ".run")))))))))
