-- What tree the bytes of a file are the listing of, or at which line they go wrong.
use Rattle.std.specs.Prelude.{◌≡◌, ◌⊎◌, ℕ, ◌+◌, ◌<◌, ◌≤◌, true, if◌then◌else◌, List, [], ◌∷◌, ◌++◌, length, All, Result, Ok, Err}
use Rattle.template_tree.specs.Edits.Edit.{whole}
use Rattle.template_tree.specs.Programs.Limit.{deepest_path, most_slots}
use Rattle.template_tree.specs.Listings.Line.{line_bytes}
use Rattle.template_tree.specs.Listings.Listing.{Bare, Spells}
use Rattle.template_tree.specs.Programs.PlainTree.{Forest, PlainTree}
use Rattle.template_tree.specs.Programs.Program.{IsProgram}
use Rattle.template_tree.specs.Programs.Slots.{count, with_slots_from}
use Rattle.template_tree.specs.Programs.Tree.{IsTree}
use Rattle.file_store.specs.declared.refusal.FileRefusal.{FileRefusal}
use Rattle.file_store.specs.Limit.{longest_listing}
use Rattle.file_store.specs.ListedLine.{ListedLine, listed_program, text_of_lines}

-- the bytes are the listing of the tree, whose slots are drawn from 0 in listing order, and in which nothing is elided
pub record IsListingOf (x : List ℕ) (tree : PlainTree) : Type 0 where
  pub spells : Spells tree.items x
  pub is_tree : IsTree tree
  pub slots : with_slots_from 0 tree.items ≡ tree.items
  pub drawn : tree.drawn ≡ count tree.items
  pub unelided : whole tree.items ≡ tree.items

-- the listing of some program, of any size and any depth, begins with the lines
abbrev pub BeginsListing : List ListedLine → Type 0
BeginsListing rows =
    (items : Forest) × (more : List ListedLine) × IsProgram items × (listed_program items ≡ rows ++ more)

-- how many nodes begin in these lines of a file; where they are too many, its bytes go wrong as the listing of a tree
abbrev pub opened : List ListedLine → ℕ
opened [] = 0
opened (row ∷ rows) = (if row.opens then 1 else 0) + opened rows

-- trouble in a line of a file: a node begins in it whose path has too many numbers, one more than the line's level
abbrev pub OpensTooDeep : ListedLine → Type 0
OpensTooDeep row = (row.opens ≡ true) × (deepest_path ≤ row.line.level)

-- trouble in a line of a file: a node begins in it, and as many as may be begin before it
abbrev pub OpensTooMany : List ListedLine → ListedLine → Type 0
OpensTooMany before row = (row.opens ≡ true) × (most_slots ≤ opened before)

-- the bytes begin with these whole lines, in which no trouble stands: some listing begins with them, and no node that
-- begins in them is past a limit
pub record Fine (x : List ℕ) (rows : List ListedLine) (rest : List ℕ) : Type 0 where
  pub is : x ≡ text_of_lines rows ++ rest
  pub begins : BeginsListing rows
  pub shallow : All (λ row. ¬ (OpensTooDeep row)) rows
  pub few : opened rows ≤ most_slots

-- none of these bytes, which are left of a listing file, ends a line
abbrev pub HasNoEnd : List ℕ → Type 0
HasNoEnd [] = Unit {0}
HasNoEnd (byte ∷ rest) = ¬ (byte ≡ 10) × HasNoEnd rest

-- behind lines without trouble, no listing begins with the next whole line; or no whole line is left, and the bytes are
-- no listing
abbrev pub NoListing : List ℕ → List ListedLine → List ℕ → Type 0
NoListing x rows rest =
    ((line behind : List ℕ) × (rest ≡ line ++ (10 ∷ behind)) × HasNoEnd line
    × ((items : Forest) (y : List ℕ) → ¬ (Spells items (text_of_lines rows ++ (line ++ (10 ∷ y))))))
    ⊎ (HasNoEnd rest × ((items : Forest) → ¬ (Spells items x)))

-- in the bytes of a file, behind lines without trouble, stands a line with which some listing goes on, and of which
-- this holds
abbrev pub NextLine : List ℕ → (List ListedLine → ListedLine → Type 0) → Type 0
NextLine x P =
    (rows : List ListedLine) × (row : ListedLine) × (rest : List ℕ)
    × Fine x rows (line_bytes row.line ++ (10 ∷ rest)) × BeginsListing (rows ++ (row ∷ [])) × P rows row

-- the bytes are refused for this: they are too many; else the first line in which trouble stands decides. In one line
-- it is first that no listing goes on so, then the depth, then the number of nodes
abbrev pub Refused : List ℕ → FileRefusal → Type 0
Refused x FileRefusal.TooLong = longest_listing < length x
Refused x (FileRefusal.NotAListing k) =
    (length x ≤ longest_listing)
    × ((rows : List ListedLine) × (rest : List ℕ) × Fine x rows rest × (k ≡ length rows + 1) × NoListing x rows rest)
Refused x FileRefusal.TooDeep = (length x ≤ longest_listing) × NextLine x (λ rows row. OpensTooDeep row)
Refused x FileRefusal.TooLarge =
    (length x ≤ longest_listing) × NextLine x (λ rows row. ¬ (OpensTooDeep row) × OpensTooMany rows row)
Refused x FileRefusal.NoFile = ⊥
Refused x FileRefusal.FileFault = ⊥
Refused x FileRefusal.OutOfMemory = ⊥

-- what a refusal says of the bytes of a listing file; want of memory says nothing
abbrev pub RefusalSays : List ℕ → FileRefusal → Type 0
RefusalSays x FileRefusal.OutOfMemory = Unit {0}
RefusalSays x refusal = Refused x refusal

-- what bytes are read as: the tree whose listing they are, or why they are refused
abbrev pub Loaded : List ℕ → Result PlainTree FileRefusal → Type 0
Loaded x (Ok tree) = IsListingOf x tree
Loaded x (Err refusal) = RefusalSays x refusal

-- the bytes of a file are the listing of no other program than this, unless memory ran out
abbrev pub ReadsOnly : Result PlainTree FileRefusal → Forest → Type 0
ReadsOnly (Ok tree) items = Bare tree.items ≡ Bare items
ReadsOnly (Err refusal) items = refusal ≡ FileRefusal.OutOfMemory

-- the bytes of a file go wrong as a listing for no other reason than this, unless memory ran out
abbrev pub RefusesOnly : Result PlainTree FileRefusal → FileRefusal → Type 0
RefusesOnly (Ok tree) refusal = ⊥
RefusesOnly (Err own) refusal = (own ≡ refusal) ⊎ (own ≡ FileRefusal.OutOfMemory)
