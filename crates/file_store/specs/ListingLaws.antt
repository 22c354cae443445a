-- The laws of listings that are read: a text is that of one program at most, and is refused for one reason at most.
use Rattle.std.specs.Prelude.{◌≡◌, ℕ, ◌≤◌, List, length, map}
use Rattle.template_tree.specs.Programs.Limit.{deepest_path, most_slots}
use Rattle.template_tree.specs.Listings.Line.{listing_lines}
use Rattle.template_tree.specs.Listings.Listing.{Bare, Listing, Spells}
use Rattle.template_tree.specs.Programs.PlainTree.{Forest}
use Rattle.template_tree.specs.Programs.Program.{IsProgram}
use Rattle.template_tree.specs.Programs.Slots.{count, depth}
use Rattle.file_store.specs.declared.refusal.FileRefusal.{FileRefusal}
use Rattle.file_store.specs.Limit.{longest_listing}
use Rattle.file_store.specs.ListedLine.{listed_program}
use Rattle.file_store.specs.Loaded.{Refused, opened}

-- the law that a text is the listing of at most one program, whose slots, elision and room play no part
abbrev pub OneListing : Type 0
OneListing = (a b : Forest) (x : List ℕ) → Spells a x → Spells b x → Bare a ≡ Bare b

-- the law that a text is refused as a listing for one reason at most
abbrev pub OneRefusal : Type 0
OneRefusal = (x : List ℕ) (a b : FileRefusal) → Refused x a → Refused x b → a ≡ b

-- the listing of a program within the limits is refused for no reason
abbrev pub ListingsAreNotRefused : Type 0
ListingsAreNotRefused =
    (items : Forest) (x : List ℕ) (refusal : FileRefusal) → Spells items x → depth items ≤ deepest_path
    → count items ≤ most_slots
    → ¬ (Refused x refusal)

-- the listing of a program within the limits is no longer than a listing file may be
abbrev pub ListingsAreShort : Type 0
ListingsAreShort =
    (items : Forest) → IsProgram items → depth items ≤ deepest_path → count items ≤ most_slots
    → length (Listing items) ≤ longest_listing

-- the law of listings that the lines of which it is told whether a node begins in them are those of the listing
abbrev pub ListedLinesAreLines : Type 0
ListedLinesAreLines = (items : Forest) → map (λ row. row.line) (listed_program items) ≡ listing_lines items

-- in the lines of a program's listing as many nodes begin as the program has
abbrev pub NodesBeginInLines : Type 0
NodesBeginInLines = (items : Forest) → opened (listed_program items) ≡ count items
