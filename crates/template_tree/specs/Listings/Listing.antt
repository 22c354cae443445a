-- The listing of a program, and programs without what it doesn't show.
use Rattle.std.specs.Prelude.{◌≡◌, ℕ, false, List, [], ◌∷◌, ◌++◌, if◌then◌else◌, ◌==◌, map}
use Rattle.template_tree.specs.Listings.Line.{Line, line_bytes, listing_lines}
use Rattle.template_tree.specs.Programs.PlainTree.{Forest}
use Rattle.template_tree.specs.Programs.Program.{IsProgram}

-- the bytes of lines as a listing has them, each with its line end behind it
abbrev pub bytes_of_lines : List Line → List ℕ
bytes_of_lines [] = []
bytes_of_lines (line ∷ lines) = line_bytes line ++ (10 ∷ bytes_of_lines lines)

-- the listing of a program; slots and elision play no part
abbrev pub Listing : Forest → List ℕ
Listing items = bytes_of_lines (listing_lines items)

-- nodes without what a listing doesn't show: their slots, their elision and the room of their lists
abbrev pub Bare : Forest → Forest
Bare Forest.nil = Forest.nil
Bare (Forest.cons label inner rest) =
    Forest.cons (record label { slot = 0; elided = false; spare = 0 }) (Bare inner) (Bare rest)

-- the text is the listing of a program, which the nodes are
pub record Spells (items : Forest) (x : List ℕ) : Type 0 where
  pub program : IsProgram items
  pub listed : x ≡ Listing items

-- a listing split at its line ends: the stretches of a text between its bytes 10, where `front` is what the first
-- begins with; the last one has no byte 10 behind it
abbrev pub split_at_ends : (front : List ℕ) → List ℕ → List (List ℕ)
split_at_ends front [] = front ∷ []
split_at_ends front (byte ∷ rest) =
    if byte == 10 then front ∷ split_at_ends [] rest else split_at_ends (front ++ (byte ∷ [])) rest

-- what the listing of a program is, split at each byte 10: its lines, and nothing behind the last line end
abbrev pub ListingSplitsInLines : Type 0
ListingSplitsInLines =
    (items : Forest) → IsProgram items
    → split_at_ends [] (Listing items) ≡ map line_bytes (listing_lines items) ++ ([] ∷ [])
