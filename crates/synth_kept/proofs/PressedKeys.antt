-- The keys that were pressed are among those that a crash leaves.
use Rattle.std.proofs.Common.{◌≡◌, ℕ, ◌⊎◌, inl, inr, refl, List, [], ◌∷◌, ◌++◌, sym, ap, ◌∙◌, append-nil}
use Rattle.key_journal.specs.Crash.{LeavesAllOf, LeavesOneOf}
use Rattle.key_journal.specs.Disk.{DiskState, Newest}
use Rattle.key_journal.specs.Recovered.{recovered}
use Rattle.synth_kept.specs.KeptWholeRun.{AreKeys}
use Rattle.synth_kept.proofs.Moments.{newest_weaker}

-- of two lists that are empty together each is
none_of_both : (taken last : List ℕ) → taken ++ last ≡ [] → (taken ≡ []) × (last ≡ [])
none_of_both [] last none = (refl, none)
none_of_both (byte ∷ taken) last none = absurd (cc)

-- bytes that are keys begin all keys
begin : (keys taken last bytes found : List ℕ) → AreKeys keys taken last bytes →
    (found ≡ keys ++ taken) ⊎ (found ≡ (keys ++ taken) ++ last) → (rest : List ℕ) × (found ≡ bytes ++ rest)
begin keys taken last bytes found (inl all) (inl same) = ([], same ∙ sym all ∙ sym (append-nil bytes))
begin keys taken last bytes found (inl all) (inr more) = (last, more ∙ ap (λ (l : List ℕ). l ++ last) (sym all))
begin keys taken last bytes found (inr front) (inl same) =
    let none = none_of_both taken last front.0 in
    (front.1.0, same ∙ ap (λ (l : List ℕ). keys ++ l) none.0 ∙ append-nil keys ∙ front.1.1)
begin keys taken last bytes found (inr front) (inr more) =
    let none = none_of_both taken last front.0 in
    (front.1.0, more ∙ ap (λ (l : List ℕ). (keys ++ taken) ++ l) none.1 ∙ append-nil (keys ++ taken) ∙ ap (λ (l : List ℕ). keys ++ l) none.0 ∙ append-nil keys ∙ front.1.1)

-- where a crash leaves all keys, it leaves the bytes that are keys
pub leaves_given : (keys taken last bytes : List ℕ) (past : List DiskState) → AreKeys keys taken last bytes →
    Newest (LeavesOneOf (keys ++ taken) last) past → Newest (LeavesAllOf bytes) past
leaves_given keys taken last bytes past are leaves =
    newest_weaker _ _ past
    (λ (state : DiskState) (one : LeavesOneOf (keys ++ taken) last state). record {
      images = λ image left. begin keys taken last bytes (recovered image) are (one.images image left);
      reads = begin keys taken last bytes (recovered state.bytes) are one.reads;
    })
    leaves
