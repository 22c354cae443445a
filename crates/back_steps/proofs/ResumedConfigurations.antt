-- `resuming_leaves_earlier`: to resume a run changes at most the place of its newest frame, and each record of a step
-- puts that frame at a place of its own or takes it off. A cell and the place of the newest frame are changed
-- independently of each other.
use Rattle.std.specs.Prelude.{◌≡◌, refl, ℕ, zero, suc, ◌-◌, List, [], ◌∷◌, ◌++◌, take}
use Rattle.std.proofs.Common.{ap, sym, ◌∙◌}
use Rattle.plcs_base.specs.declared.place.Place.{Place}
use Rattle.template_tree.specs.Positions.Place.{PlainPlace}
use Rattle.template_tree.specs.Programs.PlainTree.{Forest}
use Rattle.plcs_store.specs.declared.cell.Cell.{Cell}
use Rattle.plcs_store.specs.declared.cell.Location.{Location}
use Rattle.plcs_store.specs.declared.frame.Frame.{Frame}
use Rattle.plcs_store.specs.declared.undo.Undo.{Undo}
use Rattle.plcs_store.specs.Act.{newest_at, with_newest, without_loop, without_newest}
use Rattle.plcs_store.specs.CellAt.{changed_at, newest, with_cell, with_element_named}
use Rattle.plcs_store.specs.Configuration.{PlainConfiguration, frame_at, plain_place}
use Rattle.plcs_store.specs.Resume.{resolved, resolved_frame}
use Rattle.plcs_store.specs.Undone.{step_undone, stored_back, with_loop_at}
use Rattle.back_steps.specs.EarlierConfigurations.{configurations_before}
use Rattle.back_steps.specs.HistoryLaws.{IsRecorded, ResumingLeavesEarlier}
use Rattle.back_steps.proofs.LoopRoom.{changed_behind, changed_length}

-- ---- lists of which one item is changed

-- one change after another of the same item
changed_twice : {A : Type 0} (k : ℕ) (f g : A → A) (xs : List A) → changed_at k f (changed_at k g xs) ≡ changed_at k (λ a. f (g a)) xs
changed_twice k f g [] = refl
changed_twice zero f g (x ∷ xs) = refl
changed_twice {A} (suc k) f g (x ∷ xs) =
    ap (changed_at (suc k) f) (changed_behind k g x xs) ∙ changed_behind k f x (changed_at k g xs)
    ∙ ap (λ (rest : List A). x ∷ rest) (changed_twice k f g xs) ∙ sym (changed_behind k (λ a. f (g a)) x xs)

-- changes that commute on items commute on a list
changed_either : {A : Type 0} (j k : ℕ) (f g : A → A) → ((a : A) → f (g a) ≡ g (f a)) → (xs : List A)
    → changed_at j f (changed_at k g xs) ≡ changed_at k g (changed_at j f xs)
changed_either j k f g same [] = refl
changed_either {A} zero zero f g same (x ∷ xs) = ap (λ (a : A). a ∷ xs) (same x)
changed_either zero (suc k) f g same (x ∷ xs) = ap (changed_at 0 f) (changed_behind k g x xs) ∙ sym (changed_behind k g (f x) xs)
changed_either (suc j) zero f g same (x ∷ xs) = changed_behind j f (g x) xs ∙ ap (changed_at 0 g) (sym (changed_behind j f x xs))
changed_either {A} (suc j) (suc k) f g same (x ∷ xs) =
    ap (changed_at (suc j) f) (changed_behind k g x xs) ∙ changed_behind j f x (changed_at k g xs)
    ∙ ap (λ (rest : List A). x ∷ rest) (changed_either j k f g same xs)
    ∙ sym (ap (changed_at (suc k) g) (changed_behind j f x xs) ∙ changed_behind k g x (changed_at j f xs))

-- a change leaves what stands before its item
changed_after : {A : Type 0} (k : ℕ) (f : A → A) (xs : List A) → take k (changed_at k f xs) ≡ take k xs
changed_after k f [] = refl
changed_after zero f (x ∷ xs) = refl
changed_after {A} (suc k) f (x ∷ xs) =
    ap (take (suc k)) (changed_behind k f x xs) ∙ ap (λ (rest : List A). x ∷ rest) (changed_after k f xs)

-- ---- the newest frame, which stands at another place

place_same : (program : Forest) (place : PlainPlace) (frames : List Frame)
    → newest_at place (with_newest (resolved_frame program) frames) ≡ newest_at place frames
place_same program place frames =
    let moved : List Frame = with_newest (resolved_frame program) frames in
    ap (λ (n : ℕ). changed_at (n - 1) (frame_at place) moved) (changed_length (newest frames) (resolved_frame program) frames)
    ∙ changed_twice (newest frames) (frame_at place) (resolved_frame program) frames

stored_same : (program : Forest) (place : Place) (location : Location) (cell : Cell) (frames : List Frame)
    → stored_back place location cell (with_newest (resolved_frame program) frames) ≡ stored_back place location cell frames
stored_same program place location cell frames =
    let set : Frame → Frame = λ frame. record frame { cells = with_element_named location.name location.element cell frame.cells } in
    let stored : List Frame = with_cell location cell frames in
    let to : PlainPlace = plain_place place in
    ap (newest_at to) (changed_either location.frame (newest frames) set (resolved_frame program) (λ frame. refl) frames)
    ∙ ap (λ (n : ℕ). newest_at to (changed_at (n - 1) (resolved_frame program) stored)) (sym (changed_length location.frame set frames))
    ∙ place_same program to stored

others_same : (program : Forest) (frames : List Frame) → without_newest (with_newest (resolved_frame program) frames) ≡ without_newest frames
others_same program frames =
    ap (λ (n : ℕ). take (n - 1) (with_newest (resolved_frame program) frames)) (changed_length (newest frames) (resolved_frame program) frames)
    ∙ changed_after (newest frames) (resolved_frame program) frames

-- ---- a step taken back

undone_same : (program : Forest) (undo : Undo) (c : PlainConfiguration) → IsRecorded undo → step_undone undo (resolved program c) ≡ step_undone undo c
undone_same program Undo.Empty c recorded = absurd (recorded refl)
undone_same program (Undo.Moved place) c recorded =
    ap (λ (frames : List Frame). record c { frames = frames }) (place_same program (plain_place place) c.frames)
undone_same program (Undo.Stored place location cell) c recorded =
    ap (λ (frames : List Frame). record c { frames = frames }) (stored_same program place location cell c.frames)
undone_same program (Undo.Entered place location cell) c recorded =
    ap (λ (frames : List Frame). record c { frames = with_newest without_loop frames }) (stored_same program place location cell c.frames)
undone_same program (Undo.Finished place location cell kept number) c recorded =
    ap (λ (frames : List Frame). record c { frames = with_newest (with_loop_at number kept) frames })
    (stored_same program place location cell c.frames)
undone_same program (Undo.Read place location cell taken) c recorded =
    ap (λ (frames : List Frame). record c { frames = frames; taken = taken }) (stored_same program place location cell c.frames)
undone_same program (Undo.Wrote place count) c recorded =
    ap (λ (frames : List Frame). record c { frames = frames; output = take count c.output }) (place_same program (plain_place place) c.frames)
undone_same program (Undo.Called place) c recorded =
    ap (λ (frames : List Frame). record c { frames = newest_at (plain_place place) frames }) (others_same program c.frames)
undone_same program (Undo.Left place frame) c recorded =
    ap (λ (frames : List Frame). record c { frames = frames ++ (frame ∷ []) }) (place_same program (plain_place place) c.frames)

pub resuming_leaves_earlier : ResumingLeavesEarlier
resuming_leaves_earlier program undo undos c recorded =
    ap (λ (before : PlainConfiguration). before ∷ configurations_before undos before) (undone_same program undo c recorded)
