-- `History::held`, `note`, `back`: the configurations before a run's, of which the oldest are let go and the latest is
-- gone back to.
use Rattle.std.specs.Prelude.{◌≡◌, refl, ℕ, zero, suc, List, [], ◌∷◌, length, take, drop, slice_get, Some}
use Rattle.std.proofs.Common.{ap, sym, ◌∙◌}
use Rattle.std.proofs.lemmas.List.Elements.{All-cons, All-rest, All-same, All-take}
use Rattle.std.proofs.lemmas.Option.{none-some, same_Some}
use Rattle.plcs_store.specs.declared.undo.Undo.{Undo}
use Rattle.plcs_store.specs.Configuration.{PlainConfiguration}
use Rattle.plcs_store.specs.Undone.{step_undone}
use Rattle.back_steps.specs.EarlierConfigurations.{CanGoBack, GoesBack, KeepsRunLimits, configurations_before}

-- there are as many configurations before as records
pub as_many_before : (undos : List Undo) (c : PlainConfiguration) → length (configurations_before undos c) ≡ length undos
as_many_before [] c = refl
as_many_before (undo ∷ undos) c = ap suc (as_many_before undos (step_undone undo c))

-- ---- a record noted

-- the configurations before, by the latest records alone, are the latest of them
latest_before : (n : ℕ) (undos : List Undo) (c : PlainConfiguration) → configurations_before (take n undos) c ≡ take n (configurations_before undos c)
latest_before zero undos c = refl
latest_before (suc n) [] c = refl
latest_before (suc n) (undo ∷ undos) c = ap (λ (before : List PlainConfiguration). step_undone undo c ∷ before) (latest_before n undos (step_undone undo c))

pub noted_before : (n : ℕ) (undo : Undo) (undos : List Undo) (old new : PlainConfiguration) → step_undone undo new ≡ old
    → configurations_before (take n (undo ∷ undos)) new ≡ take n (old ∷ configurations_before undos old)
noted_before n undo undos old new is =
    latest_before n (undo ∷ undos) new
    ∙ ap (λ (c : PlainConfiguration). take n (c ∷ configurations_before undos c)) is

pub noted_can : (n : ℕ) (undo : Undo) (undos : List Undo) (old new : PlainConfiguration) → step_undone undo new ≡ old → KeepsRunLimits old
    → CanGoBack undos old → CanGoBack (take n (undo ∷ undos)) new
noted_can n undo undos old new is keeps others =
    let before = configurations_before undos old in
    All-same KeepsRunLimits (configurations_before (take n (undo ∷ undos)) new) (take n (old ∷ before)) (noted_before n undo undos old new is)
    (All-take KeepsRunLimits n (old ∷ before) (All-cons KeepsRunLimits old before keeps others))

-- ---- the latest record

first_of : (undos : List Undo) (undo : Undo) → Some undo ≡ slice_get undos 0 → undos ≡ undo ∷ drop 1 undos
first_of [] undo e = absurd (none-some undo (sym e))
first_of (one ∷ undos) undo e = ap (λ (first : Undo). first ∷ undos) (same_Some one undo (sym e))

goes_back : (undos : List Undo) (undo : Undo) (c before : PlainConfiguration) → Some undo ≡ slice_get undos 0 → before ≡ step_undone undo c
    → GoesBack undos c (drop 1 undos) before
goes_back undos undo c before e is =
    ap (λ (us : List Undo). configurations_before us c) (first_of undos undo e)
    ∙ ap (λ (d : PlainConfiguration). d ∷ configurations_before (drop 1 undos) d) (sym is)

pub can_again : (undos : List Undo) (undo : Undo) (c before : PlainConfiguration) → Some undo ≡ slice_get undos 0 → before ≡ step_undone undo c
    → CanGoBack undos c → CanGoBack (drop 1 undos) before
can_again undos undo c before e is can =
    All-rest KeepsRunLimits before (configurations_before (drop 1 undos) before) (configurations_before undos c)
    (goes_back undos undo c before e is) can
