-- The keys that bytes stand for.
use Rattle.std.specs.Prelude.{◌≡◌, ◌⊎◌, ℕ, ◌==◌, ◌||◌, ◌&&◌, Bool, List, [], ◌∷◌, ◌++◌, option_to_list, if◌then◌else◌}
use Rattle.plcs_base.specs.Byte.{is_printable}
use Rattle.synth_session.specs.declared.key.Key.{Key}
use Rattle.synth_session.specs.declared.key.Key.TheVariants.{Char, Enter, Erase, Clear, Tab, Up, Down, Left, Right, Other}
use Rattle.synth_top.specs.declared.key.Keys.{Keys}
use Rattle.synth_top.specs.declared.key.Held.{Held}
use Rattle.synth_top.specs.declared.key.Held.TheVariants.{Nothing, Escape, Bracket}

-- ---- the key of a byte, and of a move

-- the key of a byte by itself: a printable byte is itself, both line ends are Enter, and a byte that
-- stands for nothing is Other, as ESC is where no move follows
abbrev pub key_of : ℕ → Key
key_of byte =
    if is_printable byte then Char byte
    else (if byte == 13 || byte == 10 then Enter
    else (if byte == 127 || byte == 8 then Erase
    else (if byte == 21 then Clear
    else (if byte == 9 then Tab
    else Other))))

-- the key that the bytes ESC, [ and this one stand for
abbrev pub move_of : ℕ → Key
move_of byte =
    if byte == 65 then Up
    else (if byte == 66 then Down
    else (if byte == 67 then Right
    else (if byte == 68 then Left
    else Other)))

-- whether two bytes begin a move: ESC and [, after which one byte more makes a key
abbrev pub begins_move : ℕ → ℕ → Bool
begins_move byte next = byte == 27 && next == 91

-- the keys of bytes after which nothing comes: what isn't complete at their end is one Other
unfoldable pub keys : List ℕ → List Key
keys [] = []
keys (byte ∷ []) = key_of byte ∷ []
keys (byte ∷ next ∷ []) =
    if begins_move byte next then Other ∷ [] else key_of byte ∷ keys (next ∷ [])
keys (byte ∷ next ∷ last ∷ rest) =
    if begins_move byte next then move_of last ∷ keys rest
    else key_of byte ∷ keys (next ∷ last ∷ rest)

-- the keys of bytes after which others may come: what isn't complete at their end is none yet
unfoldable pub completed : List ℕ → List Key
completed [] = []
completed (byte ∷ []) = if byte == 27 then [] else key_of byte ∷ []
completed (byte ∷ next ∷ []) =
    if begins_move byte next then [] else key_of byte ∷ completed (next ∷ [])
completed (byte ∷ next ∷ last ∷ rest) =
    if begins_move byte next then move_of last ∷ completed rest
    else key_of byte ∷ completed (next ∷ last ∷ rest)

-- ---- the reader

-- the bytes that the reader of keys holds back: they are read and are no key yet
abbrev pub held_bytes : Held → List ℕ
held_bytes Nothing = []
held_bytes Escape = 27 ∷ []
held_bytes Bracket = 27 ∷ 91 ∷ []

-- the keys that the reader gives for one byte, in their order: those which the byte completes
abbrev pub listed_keys : Keys → List Key
listed_keys keys = option_to_list keys.first ++ option_to_list keys.second

-- a byte after those held back gives these keys, and leaves those bytes held back: whatever comes
-- after it, the keys of all are these and then the others'
pub record Feeds (held : List ℕ) (byte : ℕ) (given : Keys) (now : List ℕ) : Type 0 where
  pub all : (rest : List ℕ) → keys (held ++ byte ∷ rest) ≡ listed_keys given ++ keys (now ++ rest)
  pub complete : (rest : List ℕ) →
      completed (held ++ byte ∷ rest) ≡ listed_keys given ++ completed (now ++ rest)

-- bytes that the reader of keys may hold back: none, ESC, or ESC and [
abbrev pub IsHeld : List ℕ → Type 0
IsHeld bytes = (bytes ≡ []) ⊎ ((bytes ≡ 27 ∷ []) ⊎ (bytes ≡ 27 ∷ 91 ∷ []))

-- some keys that bytes stand for are the first ones of others
abbrev pub IsFront : List Key → List Key → Type 0
IsFront front whole = (rest : List Key) × (whole ≡ front ++ rest)
