-- What the code is told by an answer that is there or not.
use Rattle.std.specs.Prelude.{◌≡◌, refl, true, false, Option, Some, None, option_map, IsSome, IsSomeAnd}
use Rattle.std.specs.Option.{is_some}
use Rattle.std.proofs.Common.{sym}
use Rattle.std.proofs.Math.Bool.{false≢true}

-- an answer that is there stands for one
pub told : {A X : Type 0} (now : A → X) (answer : Option A) (found : Option X) → option_map now answer ≡ found → is_some answer ≡ true
    → (x : X) × (found ≡ Some x)
told now None found e h = absurd (false≢true h)
told now (Some a) found e h = (now a, sym e)

-- one that isn't, for none
pub untold : {A X : Type 0} (now : A → X) (answer : Option A) (found : Option X) → option_map now answer ≡ found → is_some answer ≡ false
    → found ≡ None
untold now None found e h = sym e
untold now (Some a) found e h = absurd (false≢true (sym h))

-- what is known to be there
pub known : {X : Type 0} (found : Option X) → IsSome found → (x : X) × (found ≡ Some x)
known None h = absurd (false≢true h)
known (Some x) h = (x, refl)

-- what holds of the node that is there
pub holds : {X : Type 0} (P : X → Type 0) (found : Option X) (x : X) → found ≡ Some x → P x → IsSomeAnd found P
holds P found x e h = rw e h
