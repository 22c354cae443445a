-- What holds at each moment of a call, and of calls one after the other.
use Rattle.std.proofs.Common.{◌≡◌, ℕ, List, [], ◌∷◌, ◌++◌, refl, sym, ap, ◌∙◌, append_assoc, inl}
use Rattle.std.specs.Prelude.{◌≢◌}
use Rattle.key_journal.specs.Crash.{EachState, LeavesOnly, LeavesOneOf, Throughout}
use Rattle.key_journal.specs.Disk.{DiskState, Newest}

-- a list with something behind isn't empty
not_empty : (added : List DiskState) (state : DiskState) (past : List DiskState) → [] ≡ added ++ state ∷ past → ⊥
not_empty [] state past never = cc
not_empty (first ∷ added) state past never = cc

-- a disk that told before tells
pub still_told : (P : DiskState → Type 0) (past now : List DiskState) → Throughout P past now → past ≢ [] → now ≢ []
still_told P [] now each told none = told refl
still_told P (state ∷ past) [] each told none = not_empty each.0 state past each.1
still_told P (state ∷ past) (next ∷ now) each told none = absurd (cc (none))

-- what holds of each of two lists of states holds of both
each_append : (P : DiskState → Type 0) (states others : List DiskState) → EachState P states →
    EachState P others → EachState P (states ++ others)
each_append P [] others all more = more
each_append P (state ∷ states) others all more = (all.0, each_append P states others all.1 more)

-- two calls, one after the other
pub throughout_both : (P : DiskState → Type 0) (past between now : List DiskState) →
    Throughout P past between → Throughout P between now → Throughout P past now
throughout_both P [] [] now first second = second
throughout_both P [] (state ∷ between) now first second = absurd (cc (first))
throughout_both P (state ∷ past) [] now first second = absurd (not_empty first.0 state past first.1)
throughout_both P (state ∷ past) (newest ∷ between) now first second = (
  second.0 ++ first.0,
  second.1 ∙ ap (λ (states : List DiskState). second.0 ++ states) first.1 ∙ sym (append_assoc second.0 first.0 (state ∷ past)),
  each_append P second.0 first.0 second.2 first.2,
)

-- what holds of each state holds of each where it is weakened
each_weaker : (P Q : DiskState → Type 0) (states : List DiskState) →
    ((state : DiskState) → P state → Q state) → EachState P states → EachState Q states
each_weaker P Q [] weaker all = tt
each_weaker P Q (state ∷ states) weaker all =
    (weaker state all.0, each_weaker P Q states weaker all.1)

-- the same over a call
pub throughout_weaker : (P Q : DiskState → Type 0) (past now : List DiskState) →
    ((state : DiskState) → P state → Q state) → Throughout P past now → Throughout Q past now
throughout_weaker P Q [] now weaker all = all
throughout_weaker P Q (state ∷ past) now weaker all =
    (all.0, all.1, each_weaker P Q all.0 weaker all.2)

-- and of the newest one
pub newest_weaker : (P Q : DiskState → Type 0) (past : List DiskState) →
    ((state : DiskState) → P state → Q state) → Newest P past → Newest Q past
newest_weaker P Q [] weaker newest = tt
newest_weaker P Q (state ∷ past) weaker newest = weaker state newest

-- a call that changed nothing has no moment of its own
pub throughout_same : (P : DiskState → Type 0) (past : List DiskState) → Throughout P past past
throughout_same P [] = refl
throughout_same P (state ∷ past) = ([], refl, tt)

-- a crash that leaves all keys leaves all and then perhaps nothing more
pub one_of_all : (keys : List ℕ) (state : DiskState) → LeavesOnly keys state → LeavesOneOf keys [] state
one_of_all keys state only =
    record { images = λ image left. inl (only.images image left); reads = inl only.reads }
