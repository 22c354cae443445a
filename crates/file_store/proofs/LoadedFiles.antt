-- What a file with a content that is told is loaded as.
use Rattle.std.specs.Prelude.{◌≡◌, refl, ℕ, ◌≤◌, List, Option, Some, None, Result, Ok, Err}
use Rattle.std.specs.FinMap.{get}
use Rattle.std.proofs.Common.{sym, ◌∙◌, subst, inl, inr}
use Rattle.std.proofs.lemmas.Option.{none-some}
use Rattle.synth_outside.specs.Files.{FileMap}
use Rattle.template_tree.specs.Programs.Limit.{deepest_path, most_slots}
use Rattle.template_tree.specs.Listings.Listing.{Spells}
use Rattle.template_tree.specs.Programs.PlainTree.{Forest, PlainTree}
use Rattle.template_tree.specs.Programs.Slots.{count, depth}
use Rattle.file_store.specs.declared.refusal.FileRefusal.{FileRefusal}
use Rattle.file_store.specs.FileReading.{HasContent, HasNoContent, Holds, LoadingSays, LoadsOnly, RefusesLoad}
use Rattle.file_store.specs.Loaded.{Refused}
use Rattle.file_store.specs.Private.LineLaws.{LineLaws}
use Rattle.file_store.proofs.Fillings.{some_is}
use Rattle.file_store.proofs.ListedLines.{one_program}
use Rattle.file_store.proofs.OneOutcome.{never_refused}
use Rattle.file_store.proofs.Outcomes.{one_refusal}

-- what holds of the content holds of these bytes
of_content : (map : FileMap) (name x : List ℕ) (P : List ℕ → Type 0) → get map name ≡ Some x → Holds (Some map) name P → P x
of_content map name x P content h = subst P (some_is (sym h.1 ∙ content)) h.2

pub loads_only : LineLaws → (stored : Option FileMap) (name x : List ℕ) (items : Forest) (result : Result PlainTree FileRefusal) → HasContent stored name x
    → Spells items x → depth items ≤ deepest_path → count items ≤ most_slots → LoadingSays stored name result → LoadsOnly result items
loads_only laws None name x items result content spells deep many says = absurd content
loads_only laws (Some map) name x items (Ok tree) content spells deep many says =
    one_program laws tree.items items x (subst (λ z. Spells tree.items z) (some_is (sym says.1 ∙ content)) says.2.spells) spells
loads_only laws (Some map) name x items (Err FileRefusal.NoFile) content spells deep many says = absurd (none-some x (sym says ∙ content))
loads_only laws (Some map) name x items (Err FileRefusal.FileFault) content spells deep many says = inl refl
loads_only laws (Some map) name x items (Err FileRefusal.OutOfMemory) content spells deep many says = inr refl
loads_only laws (Some map) name x items (Err FileRefusal.TooLong) content spells deep many says =
    absurd (never_refused laws items x FileRefusal.TooLong spells deep many (of_content map name x (λ z. Refused z FileRefusal.TooLong) content says))
loads_only laws (Some map) name x items (Err (FileRefusal.NotAListing k)) content spells deep many says =
    absurd (never_refused laws items x (FileRefusal.NotAListing k) spells deep many (of_content map name x (λ z. Refused z (FileRefusal.NotAListing k)) content says))
loads_only laws (Some map) name x items (Err FileRefusal.TooDeep) content spells deep many says =
    absurd (never_refused laws items x FileRefusal.TooDeep spells deep many (of_content map name x (λ z. Refused z FileRefusal.TooDeep) content says))
loads_only laws (Some map) name x items (Err FileRefusal.TooLarge) content spells deep many says =
    absurd (never_refused laws items x FileRefusal.TooLarge spells deep many (of_content map name x (λ z. Refused z FileRefusal.TooLarge) content says))

pub refuses_load : LineLaws → (stored : Option FileMap) (name x : List ℕ) (refusal : FileRefusal) (result : Result PlainTree FileRefusal) → HasContent stored name x
    → Refused x refusal → LoadingSays stored name result → RefusesLoad result refusal
refuses_load laws None name x refusal result content h says = absurd content
refuses_load laws (Some map) name x refusal (Ok tree) content h says =
    let is = some_is (sym says.1 ∙ content) in
    never_refused laws tree.items x refusal (subst (λ z. Spells tree.items z) is says.2.spells) says.2.is_tree.shallow says.2.is_tree.few h
refuses_load laws (Some map) name x refusal (Err FileRefusal.NoFile) content h says = absurd (none-some x (sym says ∙ content))
refuses_load laws (Some map) name x refusal (Err FileRefusal.FileFault) content h says = inr (inl refl)
refuses_load laws (Some map) name x refusal (Err FileRefusal.OutOfMemory) content h says = inr (inr refl)
refuses_load laws (Some map) name x refusal (Err FileRefusal.TooLong) content h says =
    inl (one_refusal laws x FileRefusal.TooLong refusal (of_content map name x (λ z. Refused z FileRefusal.TooLong) content says) h)
refuses_load laws (Some map) name x refusal (Err (FileRefusal.NotAListing k)) content h says =
    inl (one_refusal laws x (FileRefusal.NotAListing k) refusal (of_content map name x (λ z. Refused z (FileRefusal.NotAListing k)) content says) h)
refuses_load laws (Some map) name x refusal (Err FileRefusal.TooDeep) content h says =
    inl (one_refusal laws x FileRefusal.TooDeep refusal (of_content map name x (λ z. Refused z FileRefusal.TooDeep) content says) h)
refuses_load laws (Some map) name x refusal (Err FileRefusal.TooLarge) content h says =
    inl (one_refusal laws x FileRefusal.TooLarge refusal (of_content map name x (λ z. Refused z FileRefusal.TooLarge) content says) h)

pub misses_load : (stored : Option FileMap) (name : List ℕ) (result : Result PlainTree FileRefusal) → HasNoContent stored name → LoadingSays stored name result
    → RefusesLoad result FileRefusal.NoFile
misses_load None name result none says = absurd none
misses_load (Some map) name (Ok tree) none says = none-some says.0 (sym none ∙ says.1)
misses_load (Some map) name (Err FileRefusal.NoFile) none says = inl refl
misses_load (Some map) name (Err FileRefusal.FileFault) none says = inr (inl refl)
misses_load (Some map) name (Err FileRefusal.OutOfMemory) none says = inr (inr refl)
misses_load (Some map) name (Err FileRefusal.TooLong) none says = absurd (none-some says.0 (sym none ∙ says.1))
misses_load (Some map) name (Err (FileRefusal.NotAListing k)) none says = absurd (none-some says.0 (sym none ∙ says.1))
misses_load (Some map) name (Err FileRefusal.TooDeep) none says = absurd (none-some says.0 (sym none ∙ says.1))
misses_load (Some map) name (Err FileRefusal.TooLarge) none says = absurd (none-some says.0 (sym none ∙ says.1))
