-- What holds at each moment of a call, and of calls one after the other.
use Rattle.std.proofs.Common.{◌≡◌, List, [], ◌∷◌, ◌++◌, sym, ap, ◌∙◌, append_assoc, subst}
use Rattle.key_journal.specs.Disk.{DiskState, Newest}
use Rattle.key_journal.specs.Crash.{EachState, Throughout}

-- a call that changed nothing has no moment of its own
pub throughout_same : (P : DiskState → Type 0) (past now : List DiskState) → now ≡ past →
    Throughout P past now
throughout_same P [] now same = same
throughout_same P (state ∷ past) now same = ([], same, tt)

-- a call that put one state in front
pub throughout_one : (P : DiskState → Type 0) (state : DiskState) (past : List DiskState)
    (next : DiskState) (now : List DiskState) → now ≡ next ∷ state ∷ past → P next →
    Throughout P (state ∷ past) now
throughout_one P state past next now is holds = (next ∷ [], is, (holds, tt))

-- a list with something behind isn't empty
pub not_empty : (added : List DiskState) (state : DiskState) (past : List DiskState) →
    added ++ state ∷ past ≡ [] → ⊥
not_empty [] state past never = cc
not_empty (first ∷ added) state past never = cc

-- what holds of each of two lists of states holds of both
each_append : (P : DiskState → Type 0) (states others : List DiskState) → EachState P states →
    EachState P others → EachState P (states ++ others)
each_append P [] others all more = more
each_append P (state ∷ states) others all more = (all.0, each_append P states others all.1 more)

-- two calls, one after the other
pub throughout_both : (P : DiskState → Type 0) (past between now : List DiskState) →
    Throughout P past between → Throughout P between now → Throughout P past now
throughout_both P [] [] now first second = second
throughout_both P [] (state ∷ between) now first second = absurd (cc (first))
throughout_both P (state ∷ past) [] now first second =
    absurd (not_empty first.0 state past (sym first.1))
throughout_both P (state ∷ past) (newest ∷ between) now first second = (
  second.0 ++ first.0,
  second.1 ∙ ap (λ states. second.0 ++ states) first.1 ∙ sym (append_assoc second.0 first.0 (state ∷ past)),
  each_append P second.0 first.0 second.2 first.2,
)

-- what holds of each state holds of each where it is weakened
pub each_weaker : (P Q : DiskState → Type 0) (states : List DiskState) →
    ((state : DiskState) → P state → Q state) → EachState P states → EachState Q states
each_weaker P Q [] weaker all = tt
each_weaker P Q (state ∷ states) weaker all =
    (weaker state all.0, each_weaker P Q states weaker all.1)

-- the same over a call
pub throughout_weaker : (P Q : DiskState → Type 0) (past now : List DiskState) →
    ((state : DiskState) → P state → Q state) → Throughout P past now → Throughout Q past now
throughout_weaker P Q [] now weaker all = all
throughout_weaker P Q (state ∷ past) now weaker all =
    (all.0, all.1, each_weaker P Q all.0 weaker all.2)

-- what holds of the newest state and at each moment of a call holds of the newest one behind it
pub newest_after : (P : DiskState → Type 0) (past now : List DiskState) → Newest P past →
    Throughout P past now → Newest P now
newest_after P [] now newest all = subst (Newest P) (sym all) tt
newest_after P (state ∷ past) now newest all =
    subst (Newest P) (sym all.1) (front all.0 all.2) where
      front : (added : List DiskState) → EachState P added → Newest P (added ++ state ∷ past)
      front [] all = newest
      front (first ∷ added) all = all.0
