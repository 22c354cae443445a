-- What is found in a list by a test.
use Rattle.std.proofs.Common.{◌≡◌, Bool, true, List, [], ◌∷◌, Option, Some, subst, find}
use Rattle.std.proofs.lemmas.Bool.{cond_both}
use Rattle.std.proofs.lemmas.Option.{none-some, same_Some}

-- an element that is found passes the test
pub found_passes : {X : Type 0} (test : X → Bool) (among : List X) (x : X) → find test among ≡ Some x → test x ≡ true
found_passes test [] x h = absurd (none-some x h)
found_passes {X = X} test (first ∷ others) x h =
    cond_both (test first) (Some first) (find test others) (λ (found : Option X). found ≡ Some x → test x ≡ true)
    (λ passes e. subst (λ (y : X). test y ≡ true) (same_Some first x e) passes)
    (λ _ e. found_passes test others x e)
    h
