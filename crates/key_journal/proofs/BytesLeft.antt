-- The bytes that are left of a journal: the kept keys that weren't given, and then those of its source.
use Rattle.std.proofs.Common.{◌≡◌, ℕ, zero, suc, ◌+◌, ◌-◌, ◌≤◌, ◌<◌, ◌⊎◌, inl, inr, List, [], ◌∷◌, ◌++◌, length, take, drop, refl, sym, ap, ◌∙◌, subst, arith, append_assoc, Ok, Err, Some, None, Option, length-drop, set}
use Rattle.std.proofs.lemmas.List.{drop-append-le}
use Rattle.std.specs.Prelude.{slice_get}
use Rattle.std.specs.Io.KnownBytes.{Consumes, IsAtEnd}
use Rattle.synth_outside.specs.Source.{GivesBytes, LosesAtMost}
use Rattle.key_journal.specs.Crash.{LeavesAtLeast, LeavesOneOf, Throughout}
use Rattle.key_journal.specs.Disk.{DiskState, Newest}
use Rattle.key_journal.specs.Journal.{left_of_both}
use Rattle.key_journal.specs.JournalRead.{Ends, ReadsKey}
use Rattle.key_journal.specs.Recovered.{recovered, kept_keys}
use Rattle.key_journal.proofs.Moments.{newest_after, not_empty, throughout_weaker}

-- the element at a place, as the first behind it
pub drop_at : (keys : List ℕ) (place key : ℕ) → slice_get keys place ≡ Some key →
    drop place keys ≡ key ∷ drop (place + 1) keys
drop_at [] place key found = cc
drop_at (first ∷ keys) zero key found = cc
drop_at (first ∷ keys) (suc place) key found =
    let more : suc place + 1 ≡ suc (place + 1) = omega arith in
    rw more (drop_at keys place key found)

-- a place at which there is an element is within the list
pub get_below : (keys : List ℕ) (place key : ℕ) → slice_get keys place ≡ Some key → place < length keys
get_below [] place key found = absurd (cc)
get_below (first ∷ keys) zero key found = omega arith
get_below (first ∷ keys) (suc place) key found = omega (arith, get_below keys place key found)

-- a list with nothing behind a place is no longer
pub ends_before : (keys : List ℕ) (place : ℕ) → drop place keys ≡ [] → length keys ≤ place
ends_before keys place none =
    let gone : length keys - place ≡ 0 = sym (length-drop place keys) ∙ ap length none in
    omega (arith, gone)

-- a buffer whose first byte was set begins with it
pub set_first : (buf : List ℕ) (key : ℕ) → 0 < length buf → take 1 (set buf 0 key) ≡ key ∷ []
set_first [] key room = absurd (omega arith)
set_first (first ∷ buf) key room = refl

-- a journal that tells nothing gives what it gives
untold_key : {E : Type 0} (left_after : Option (List ℕ)) (buf : List ℕ) → 1 ≤ length buf →
    GivesBytes {E = E} None left_after buf (Ok 1)
untold_key left_after buf room =
    record { count = room; given = tt; ended = λ never. absurd (omega (arith, never)); exact_end = tt; lost = tt }

-- a told disk goes on being told
pub told_after : (P : DiskState → Type 0) (state : DiskState) (past : List DiskState) →
    Throughout P (state ∷ past) [] → ⊥
told_after P state past each = not_empty each.0 state past (sym each.1)

-- a key was given: it was the first that was left
pub gives_key : {E : Type 0} (left left_after : Option (List ℕ)) (given key : ℕ)
    (past now : List DiskState) (buf : List ℕ) → Newest (LeavesAtLeast given) past →
    ReadsKey {E = E} left left_after given past now (Ok (Some key)) → take 1 buf ≡ key ∷ [] →
    1 ≤ length buf →
    GivesBytes {E = E} (left_of_both left past given) (left_of_both left_after now (given + 1)) buf (Ok 1)
gives_key None left_after given key past now buf least reads first room = untold_key _ buf room
gives_key (Some left) None given key past now buf least reads first room = absurd reads.consumes
gives_key (Some left) (Some left_after) given key [] now buf least reads first room = untold_key _ buf room
gives_key (Some left) (Some left_after) given key (state ∷ past) [] buf least reads first room =
    absurd (told_after _ state past reads.each)
gives_key (Some left) (Some left_after) given key (state ∷ past) (next ∷ now) buf least reads first room =
    let keys : List ℕ = recovered state.bytes in
    let found : drop given (keys ++ reads.taken) ≡ key ∷ drop (given + 1) (keys ++ reads.taken) =
    drop_at (keys ++ reads.taken) given key reads.answer.next in
    let front : drop given (keys ++ reads.taken) ≡ drop given keys ++ reads.taken =
    drop-append-le given keys reads.taken least.reads in
    let behind : drop (given + 1) (recovered next.bytes) ≡ drop (given + 1) (keys ++ reads.taken) =
    ap (λ (keys : List ℕ). drop (given + 1) keys) reads.answer.safe.reads in
    let same : drop given keys ++ left ≡ key ∷ (drop (given + 1) (recovered next.bytes) ++ left_after) =
    ap (λ (bytes : List ℕ). drop given keys ++ bytes) reads.consumes ∙
    sym (append_assoc (drop given keys) reads.taken left_after) ∙
    ap (λ (bytes : List ℕ). bytes ++ left_after) (sym front ∙ found) ∙
    ap (λ (bytes : List ℕ). key ∷ (bytes ++ left_after)) (sym behind) in
    record {
      count = room;
      given = same ∙ ap (λ (bytes : List ℕ). bytes ++ (drop (given + 1) (recovered next.bytes) ++ left_after)) (sym first);
      ended = λ never. absurd (omega (arith, never));
      exact_end = (λ never. absurd (omega (arith, never)), λ none. absurd (not_nil _ _ (sym same ∙ none)));
      lost = tt;
    } where
      not_nil : (key : ℕ) (rest : List ℕ) → key ∷ rest ≡ [] → ⊥
      not_nil key rest never = cc

-- nothing is left behind the end
ends_left : (given : ℕ) (state : DiskState) (past : List DiskState) (next : DiskState)
    (now : List DiskState) (left_after : List ℕ) {taken : List ℕ} →
    Ends (Some left_after) given (recovered state.bytes) taken (next ∷ now) →
    drop given (recovered next.bytes) ++ left_after ≡ []
ends_left given state past next now left_after ends =
    ap (λ (keys : List ℕ). drop given keys ++ left_after) ends.safe.reads ∙
    ap (λ (bytes : List ℕ). bytes ++ left_after) ends.all ∙ ends.source

-- it was the end: none was left
untold_end : {E : Type 0} (left_after : Option (List ℕ)) (buf : List ℕ) → IsAtEnd left_after →
    GivesBytes {E = E} None left_after buf (Ok 0)
untold_end left_after buf ended =
    record { count = omega arith; given = tt; ended = λ _. ended; exact_end = tt; lost = tt }

pub gives_end : {E : Type 0} (left left_after : Option (List ℕ)) (given : ℕ)
    (past now : List DiskState) (buf : List ℕ) →
    ReadsKey {E = E} left left_after given past now (Ok None) →
    GivesBytes {E = E} (left_of_both left past given) (left_of_both left_after now given) buf (Ok 0)
gives_end None None given past now buf reads = untold_end None buf tt
gives_end None (Some left_after) given past [] buf reads = untold_end None buf tt
gives_end None (Some left_after) given [] (next ∷ now) buf reads = absurd (not_nil (reads.each)) where
  not_nil : next ∷ now ≡ [] → ⊥
  not_nil never = cc
gives_end None (Some left_after) given (state ∷ past) (next ∷ now) buf reads =
    untold_end _ buf (ends_left given state past next now left_after reads.answer)
gives_end (Some left) None given past now buf reads = absurd reads.consumes
gives_end (Some left) (Some left_after) given [] now buf reads =
    untold_end _ buf (subst (λ (states : List DiskState). IsAtEnd (left_of_both (Some left_after) states given)) (sym reads.each) tt)
gives_end (Some left) (Some left_after) given (state ∷ past) [] buf reads =
    absurd (told_after _ state past reads.each)
gives_end (Some left) (Some left_after) given (state ∷ past) (next ∷ now) buf reads =
    let after : drop given (recovered next.bytes) ++ left_after ≡ [] =
    ends_left given state past next now left_after reads.answer in
    let before : drop given (recovered state.bytes) ++ left ≡ [] =
    ap (λ (bytes : List ℕ). bytes ++ left) reads.answer.all ∙ reads.consumes ∙
    ap (λ (bytes : List ℕ). bytes ++ left_after) reads.answer.none ∙ reads.answer.source in
    record {
      count = omega arith;
      given = before ∙ sym after;
      ended = λ _. after;
      exact_end = (λ _. before, λ _. refl);
      lost = tt;
    }

-- a byte may have been lost
pub gives_fault : {E : Type 0} (left left_after : Option (List ℕ)) (given : ℕ)
    (past now : List DiskState) (buf : List ℕ) (fault : E) → Newest (LeavesAtLeast given) past →
    ReadsKey {E = E} left left_after given past now (Err fault) → 1 ≤ length buf →
    GivesBytes {E = E} (left_of_both left past given) (left_of_both left_after now given) buf (Err fault)
gives_fault left left_after given past now buf fault least reads room = record {
  count = tt;
  given = tt;
  ended = tt;
  exact_end = tt;
  lost = loses left left_after past now least reads.few reads.consumes reads.behind reads.each;
} where
  none_lost : (before now : Option (List ℕ)) → Consumes before now [] → LosesAtMost before now (length buf)
  none_lost before now consumes = ([], omega arith, consumes)

  told : (keys left left_after found : List ℕ) → given ≤ length keys → length reads.taken ≤ 1 →
      left ≡ reads.taken ++ left_after → (reads.taken ≡ []) ⊎ (drop given keys ≡ []) →
      (found ≡ keys) ⊎ (found ≡ keys ++ reads.taken) →
      LosesAtMost (Some (drop given keys ++ left)) (Some (drop given found ++ left_after)) (length buf)
  told keys left left_after found enough few consumes behind (inr more) = (
    [],
    omega arith,
    ap (λ (bytes : List ℕ). drop given keys ++ bytes) consumes ∙
        sym (append_assoc (drop given keys) reads.taken left_after) ∙
        ap (λ (bytes : List ℕ). bytes ++ left_after)
        (sym (drop-append-le given keys reads.taken enough) ∙ ap (λ (keys : List ℕ). drop given keys) (sym more)),
  )
  told keys left left_after found enough few consumes (inl none) (inl same) = (
    [],
    omega arith,
    ap (λ (bytes : List ℕ). drop given keys ++ bytes) (consumes ∙ ap (λ (bytes : List ℕ). bytes ++ left_after) none) ∙
        ap (λ (keys : List ℕ). drop given keys ++ left_after) (sym same),
  )
  told keys left left_after found enough few consumes (inr none) (inl same) = (
    reads.taken,
    omega (arith, few, room),
    ap (λ (bytes : List ℕ). bytes ++ left) none ∙ consumes ∙
        ap (λ (bytes : List ℕ). reads.taken ++ (bytes ++ left_after)) (sym (ap (λ (keys : List ℕ). drop given keys) same ∙ none)),
  )

  loses : (left left_after : Option (List ℕ)) (past now : List DiskState) → Newest (LeavesAtLeast given) past →
      length reads.taken ≤ 1 → Consumes left left_after reads.taken →
      (reads.taken ≡ []) ⊎ (drop given (kept_keys past) ≡ []) →
      Throughout (LeavesOneOf (kept_keys past) reads.taken) past now →
      LosesAtMost (left_of_both left past given) (left_of_both left_after now given) (length buf)
  loses None left_after past now least few consumes behind each =
      none_lost None (left_of_both left_after now given) tt
  loses (Some left) None past now least few consumes behind each = absurd consumes
  loses (Some left) (Some left_after) [] now least few consumes behind each =
      none_lost None (left_of_both (Some left_after) now given) tt
  loses (Some left) (Some left_after) (state ∷ past) [] least few consumes behind each =
      absurd (told_after (LeavesOneOf (recovered state.bytes) reads.taken) state past each)
  loses (Some left) (Some left_after) (state ∷ past) (next ∷ now) least few consumes behind each =
      told (recovered state.bytes) left left_after (recovered next.bytes) least.reads few consumes behind
      (newest_after (λ other. (recovered other.bytes ≡ recovered state.bytes) ⊎ (recovered other.bytes ≡ recovered state.bytes ++ reads.taken))
      (state ∷ past) (next ∷ now) (inl refl)
      (throughout_weaker (LeavesOneOf (recovered state.bytes) reads.taken)
      (λ other. (recovered other.bytes ≡ recovered state.bytes) ⊎ (recovered other.bytes ≡ recovered state.bytes ++ reads.taken))
      (state ∷ past) (next ∷ now)
      (λ (other : DiskState) (one : LeavesOneOf (recovered state.bytes) reads.taken other). one.reads) each))
