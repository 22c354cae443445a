-- What a journal's fields keep: no key that was given is lost.
use Rattle.std.proofs.Common.{◌≡◌, ℕ, ◌+◌, ◌≤◌, ◌⊎◌, inl, inr, List, [], ◌∷◌, ◌++◌, length, sym, ap, ◌∙◌, subst, arith, length-append, Option, Result}
use Rattle.key_journal.specs.JournalRead.{ReadsKey}
use Rattle.key_journal.specs.Crash.{LeavesAtLeast, LeavesOneOf, Throughout}
use Rattle.key_journal.specs.Disk.{DiskState, Newest}
use Rattle.key_journal.specs.Recovered.{recovered, kept_keys}
use Rattle.key_journal.specs.Private.Stages.{HoldsAt, Stays}
use Rattle.key_journal.specs.declared.stage.Stage.{Stage}
use Rattle.key_journal.specs.declared.stage.Stage.TheVariants.{Unsynced, Replaying, Appending}
use Rattle.key_journal.proofs.Blocks.{shut_count}
use Rattle.key_journal.proofs.FoundKeys.{synced_leaves}
use Rattle.key_journal.proofs.Moments.{newest_after, throughout_weaker}
use Rattle.key_journal.specs.Private.Writes.{IsSynced}

-- a synced disk with so many keys leaves as many
synced_least : (given : ℕ) (state : DiskState) → IsSynced state → given ≤ length (recovered state.bytes) →
    LeavesAtLeast given state
synced_least given state synced enough = record {
  images = λ image left.
      subst (λ (keys : List ℕ). given ≤ length keys) (sym ((synced_leaves state synced).images image left)) enough;
  reads = enough;
}

-- at each stage a crash leaves at least the keys that were given
pub holds_least : (stage : Stage) (given : ℕ) (past : List DiskState) → HoldsAt stage given past →
    Newest (LeavesAtLeast given) past
holds_least Unsynced given past holds = holds
holds_least Replaying given [] holds = tt
holds_least Replaying given (state ∷ past) holds = synced_least given state holds.synced holds.enough
holds_least Appending given [] holds = tt
holds_least Appending given (state ∷ past) holds =
    let many : length (recovered state.bytes) ≡ given =
    ap length (shut_count given state.bytes holds.shut) ∙ holds.shut.many in
    synced_least given state holds.synced (omega arith)

-- a call that leaves the kept keys or more leaves at least as many
pub least_after : (given : ℕ) (taken : List ℕ) (past now : List DiskState) →
    Newest (LeavesAtLeast given) past → Throughout (LeavesOneOf (kept_keys past) taken) past now →
    Newest (LeavesAtLeast given) now
least_after given taken [] now least each =
    newest_after (LeavesAtLeast given) [] now tt each
least_after given taken (state ∷ past) now least each =
    newest_after (LeavesAtLeast given) (state ∷ past) now least
    (throughout_weaker _ _ (state ∷ past) now
    (λ (next : DiskState) (one : LeavesOneOf (recovered state.bytes) taken next). record {
      images = λ image left. enough (recovered image) (one.images image left);
      reads = enough (recovered next.bytes) one.reads;
    })
    each) where
      enough : (found : List ℕ) →
          (found ≡ recovered state.bytes) ⊎ (found ≡ recovered state.bytes ++ taken) → given ≤ length found
      enough found (inl same) = subst (λ (keys : List ℕ). given ≤ length keys) (sym same) least.reads
      enough found (inr more) =
          let many : length found ≡ length (recovered state.bytes) + length taken =
          ap length more ∙ length-append (recovered state.bytes) taken in
          omega (arith, many, least.reads)

-- at least so many keys are at least fewer ones
pub least_fewer : (fewer given : ℕ) (past : List DiskState) → fewer ≤ given →
    Newest (LeavesAtLeast given) past → Newest (LeavesAtLeast fewer) past
least_fewer fewer given [] few least = tt
least_fewer fewer given (state ∷ past) few least = record {
  images = λ image left. let many : given ≤ length (recovered image) = least.images image left in omega (arith, few, many);
  reads = omega (arith, few, least.reads);
}

-- a read that wasn't Ok leaves a journal that isn't synced
pub stays_unsynced : {E : Type 0} (stage : Stage) (left left_after : Option (List ℕ)) (given : ℕ)
    (past now : List DiskState) (result : Result (Option ℕ) E) → Stays stage given past →
    ReadsKey {E = E} left left_after given past now result → Newest (LeavesAtLeast given) now
stays_unsynced stage left left_after given past now result stays reads =
    least_after given reads.taken past now (holds_least stage given past stays.holds) reads.each
