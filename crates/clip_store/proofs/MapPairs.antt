-- The pairs that the map's entries are.
use Rattle.std.proofs.Common.{◌≡◌, ℕ, Bool, true, false, cond, if◌then◌else◌, List, [], ◌∷◌, ◌∙◌, length, Option, Some, None, option_map, IfSome, Bor, refl, ap, sym, subst}
use Rattle.std.proofs.lemmas.List.{length-map}
use Rattle.std.specs.Option.{option_copied}
use Rattle.std.specs.Map.{keys_of, lookup}
use Rattle.std.specs.Str.{bytes_eq}
use Rattle.indexmap.specs.IndexMap.{insert_entry}
use Rattle.clip_store.specs.declared.fragment.Fragment.{Fragment}
use Rattle.clip_store.specs.PlainFragment.{PlainFragment, plain_fragment}
use Rattle.clip_store.specs.PlainClips.{clip_named, with_clip}
use Rattle.clip_store.specs.Private.ClipsView.{pairs_of}

-- they have the same names
pub keys_of-pairs : (entries : List (List ℕ × Fragment)) → keys_of (pairs_of entries) ≡ keys_of entries
keys_of-pairs [] = refl
keys_of-pairs (entry ∷ entries) = ap (λ names. entry.0 ∷ names) (keys_of-pairs entries)

-- as many
pub length-pairs : (entries : List (List ℕ × Fragment)) → length (pairs_of entries) ≡ length entries
length-pairs entries = length-map entries (λ entry. (entry.0, plain_fragment entry.1))

-- what is lent is seen as its plain form
lent : (found : Option (Bor Fragment)) → option_map (λ fragment. plain_fragment fragment.now) found ≡ option_map plain_fragment (option_copied found)
lent None = refl
lent (Some fragment) = refl

-- and what holds of the plain form holds of what is lent
pub lent_holds : (P : PlainFragment → Type 0) (found : Option (Bor Fragment)) (plain : Option PlainFragment)
    → option_map (λ fragment. plain_fragment fragment.now) found ≡ plain → IfSome plain P
    → IfSome found (λ fragment. P (plain_fragment fragment.now))
lent_holds P None plain is holds = tt
lent_holds P (Some fragment) plain is holds = subst (λ p. IfSome p P) (sym is) holds

-- and of what is given out
pub given_holds : (P : PlainFragment → Type 0) (found : Option Fragment) (plain : Option PlainFragment)
    → option_map plain_fragment found ≡ plain → IfSome plain P → IfSome found (λ fragment. P (plain_fragment fragment))
given_holds P None plain is holds = tt
given_holds P (Some fragment) plain is holds = subst (λ p. IfSome p P) (sym is) holds

module _ (name : List ℕ) where
  -- under a name there is what the map finds
  pub clip_named-pairs : (entries : List (List ℕ × Fragment)) → option_map plain_fragment (lookup (bytes_eq name) entries) ≡ clip_named name (pairs_of entries)
  clip_named-pairs [] = refl
  clip_named-pairs (entry ∷ entries) = by (bytes_eq name entry.0) (clip_named-pairs entries)
    where
      by : (here : Bool)
          → option_map plain_fragment (lookup (bytes_eq name) entries) ≡ clip_named name (pairs_of entries)
          → option_map plain_fragment (cond here (Some entry.1) (lookup (bytes_eq name) entries))
          ≡ cond here (Some (plain_fragment entry.1)) (clip_named name (pairs_of entries))
      by true rest = refl
      by false rest = rest

  -- also where it lends it
  pub lent-pairs : (found : Option (Bor Fragment)) (entries : List (List ℕ × Fragment)) → option_copied found ≡ lookup (bytes_eq name) entries
      → option_map (λ fragment. plain_fragment fragment.now) found ≡ clip_named name (pairs_of entries)
  lent-pairs found entries is = lent found ∙ ap (option_map plain_fragment) is ∙ clip_named-pairs entries

  -- and a fragment comes where the map puts it
  pub with_clip-pairs : (fragment : Fragment) (entries : List (List ℕ × Fragment))
      → pairs_of (insert_entry bytes_eq entries name fragment) ≡ with_clip name (plain_fragment fragment) (pairs_of entries)
  with_clip-pairs fragment [] = refl
  with_clip-pairs fragment (entry ∷ entries) = by (bytes_eq name entry.0) (with_clip-pairs fragment entries)
    where
      by : (here : Bool)
          → pairs_of (insert_entry bytes_eq entries name fragment) ≡ with_clip name (plain_fragment fragment) (pairs_of entries)
          → pairs_of (if here then (entry.0, fragment) ∷ entries else entry ∷ insert_entry bytes_eq entries name fragment)
          ≡ (if here then (entry.0, plain_fragment fragment) ∷ pairs_of entries
          else (entry.0, plain_fragment entry.1) ∷ with_clip name (plain_fragment fragment) (pairs_of entries))
      by true rest = refl
      by false rest = ap (λ pairs. (entry.0, plain_fragment entry.1) ∷ pairs) rest
