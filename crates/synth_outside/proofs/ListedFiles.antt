-- Files in memory, as the map of a list of entries.
use Rattle.std.proofs.Common.{◌≡◌, ℕ, Bool, true, false, List, [], ◌∷◌, ◌++◌, Some, None, set, refl, sym, ap, ◌∙◌, arith, position, option_map}
use Rattle.std.proofs.lemmas.Grind.{common_steps}
use Rattle.std.proofs.lemmas.Slice.Eq.{bytes_eq-Decides}
use Rattle.std.specs.List.{find}
use Rattle.std.specs.Bool.{Decides, if◌then◌else◌}
use Rattle.std.specs.Ordering.{nat_cmp}
use Rattle.std.specs.Cmp.Lexicographic.{slice_cmp}
use Rattle.std.specs.FinMap.{get, insert, from_entries, get-empty}
use Rattle.synth_outside.specs.Private.Entries.{is_named}
use Rattle.synth_outside.specs.Files.{FileMap}
use Rattle.synth_outside.proofs.Maps.{get_set, set_again, set_both}
use Rattle.synth_outside.proofs.Placing.{with_content, at_place, behind}

-- the files that a list of entries stands for
abbrev pub files_of : List (List ℕ × List ℕ) → FileMap
files_of = from_entries

-- a name's entry in the list is what it has in the map
pub content_in_map : (name : List ℕ) (entries : List (List ℕ × List ℕ)) →
    option_map (λ entry. entry.1) (find (is_named name) entries) ≡ get (files_of entries) name
content_in_map name [] = sym (get-empty (slice_cmp nat_cmp) name)
content_in_map name (entry ∷ entries) =
    grind (
      arith,
      common_steps,
      bytes_eq-Decides,
      get_set (files_of entries) entry.0 entry.1 name,
      content_in_map name entries,
    )

-- an entry in front has the name, or doesn't
set_in_front : (b : Bool) (name bytes other others : List ℕ)
    (entries rest : List (List ℕ × List ℕ)) → Decides b (other ≡ name) →
    files_of rest ≡ insert (files_of entries) name bytes →
    files_of (if b then (name, bytes) ∷ entries else (other, others) ∷ rest) ≡
    insert (insert (files_of entries) other others) name bytes
set_in_front true name bytes other others entries rest is e =
    rw (is.0 refl) (sym (set_again (files_of entries) name others bytes))
set_in_front false name bytes other others entries rest is e =
    rw e (set_both (files_of entries) name bytes other others (λ same. grind (arith, common_steps, is.1 same)))

-- setting a name in the list sets it in the map
set_in_map : (name bytes : List ℕ) (entries : List (List ℕ × List ℕ)) →
    files_of (with_content name bytes entries) ≡ insert (files_of entries) name bytes
set_in_map name bytes [] = refl
set_in_map name bytes (entry ∷ entries) =
    set_in_front (is_named name entry) name bytes entry.0 entry.1 entries
    (with_content name bytes entries) (bytes_eq-Decides entry.0 name)
    (set_in_map name bytes entries)

-- where the name has an entry, it is written over
pub put_at_place : (name bytes : List ℕ) (entries : List (List ℕ × List ℕ)) (place : ℕ) →
    position (is_named name) entries ≡ Some place →
    files_of (set entries place (name, bytes)) ≡ insert (files_of entries) name bytes
put_at_place name bytes entries place found =
    ap files_of (at_place name bytes entries place found) ∙ set_in_map name bytes entries

-- where it has none, one is put behind
pub put_behind : (name bytes : List ℕ) (entries : List (List ℕ × List ℕ)) →
    position (is_named name) entries ≡ None →
    files_of (entries ++ (name, bytes) ∷ []) ≡ insert (files_of entries) name bytes
put_behind name bytes entries missing =
    ap files_of (behind name bytes entries missing) ∙ set_in_map name bytes entries
