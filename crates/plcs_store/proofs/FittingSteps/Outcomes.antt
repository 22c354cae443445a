-- What parts of steps come to that aren't undefined.
use Rattle.std.specs.Prelude.{◌≡◌, Bool, true, false, if◌then◌else◌, Option, Some, None}
use Rattle.std.proofs.Common.{sym, subst}
use Rattle.plcs_store.specs.Outcome.{Outcome, if_there, then_gives}

-- the part isn't undefined, and what it gives, if it gives something, is so
abbrev pub Gives : {A : Type 0} → (A → Type 0) → Outcome A → Type 0
Gives is (Outcome.gives a) = is a
Gives is (Outcome.stops reason) = Unit {0}
Gives is Outcome.undefined = ⊥

-- it is there, and it is so
abbrev pub Has : {A : Type 0} → (A → Type 0) → Option A → Type 0
Has is None = ⊥
Has is (Some a) = is a

pub has_found : {A : Type 0} (Is : A → Type 0) (found : Option A) (a : A) → found ≡ Some a → Is a → Has Is found
has_found Is found a e is = subst (Has Is) (sym e) is

pub then_so : {A B : Type 0} (Is : A → Type 0) (Then : B → Type 0) (part : Outcome A) (make : A → Outcome B) → Gives Is part
    → ((a : A) → Is a → Gives Then (make a)) → Gives Then (then_gives part make)
then_so Is Then (Outcome.gives a) make is more = more a is
then_so Is Then (Outcome.stops reason) make is more = tt
then_so Is Then Outcome.undefined make is more = absurd is

-- what is there is used
pub there_so : {A B : Type 0} (Then : B → Type 0) (found : Option A) (a : A) (make : A → Outcome B) → found ≡ Some a
    → Gives Then (make a) → Gives Then (then_gives (if_there found) make)
there_so {A} Then found a make e is = subst (λ (o : Option A). Gives Then (then_gives (if_there o) make)) (sym e) is

pub either_so : {A : Type 0} (Is : A → Type 0) (test : Bool) (one other : Outcome A) → Gives Is one → Gives Is other
    → Gives Is (if test then one else other)
either_so Is true one other is or_is = is
either_so Is false one other is or_is = or_is

-- what a test chooses between two things
pub chosen_so : {A : Type 0} (Is : A → Type 0) (test : Bool) (one other : A) → Is one → Is other → Is (if test then one else other)
chosen_so Is true one other is or_is = is
chosen_so Is false one other is or_is = or_is
