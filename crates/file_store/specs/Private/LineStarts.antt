-- Where the lines of a text start that is read as a listing.
use Rattle.std.specs.Prelude.{◌≡◌, ℕ, List, [], ◌∷◌, ◌++◌, length}
use Rattle.file_store.specs.Loaded.{HasNoEnd}

-- the lines behind the line ends of the text start where so many of its bytes are left, one after the other
abbrev pub AreStarts : List ℕ → List ℕ → Type 0
AreStarts text [] = HasNoEnd text
AreStarts text (start ∷ starts) =
    (line more : List ℕ) × (text ≡ line ++ (10 ∷ more)) × HasNoEnd line × (start ≡ length more) × AreStarts more starts
