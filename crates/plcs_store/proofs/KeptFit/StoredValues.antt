-- A value stored in a cell keeps the fit: it is of the cell's kind, and names, types and sizes stay.
-- A variable is found under each name as before, perhaps with one cell of it set; what refers to that cell finds no
-- reference there.
use Rattle.std.specs.Prelude.{◌≡◌, refl, ℕ, suc, ◌<◌, ◌≤◌, Bool, true, false, cond, bytes_eq, List, [], ◌∷◌, length, slice_get, slice_set, Option, Some, None, option_and_then, option_map, ◌⊎◌}
use Rattle.std.specs.List.{IsDistinct}
use Rattle.std.specs.Map.{lookup, set_value}
use Rattle.std.specs.Option.{option_map_or}
use Rattle.std.proofs.Common.{ap, sym, ◌∙◌, subst, inl, inr}
use Rattle.std.proofs.lemmas.List.{length-set}
use Rattle.std.proofs.lemmas.Map.{keys-set_value}
use Rattle.std.proofs.lemmas.Option.{none-some, same_Some}
use Rattle.plcs_base.specs.declared.declared.Declared.{Declared}
use Rattle.plcs_base.specs.declared.value.Kind.{Kind}
use Rattle.plcs_base.specs.declared.value.Value.{Value}
use Rattle.template_tree.specs.Checks.Environment.{cells_in, Items, kind_of_type}
use Rattle.template_tree.specs.Programs.PlainTree.{Forest}
use Rattle.plcs_store.specs.declared.cell.Cell.{Cell}
use Rattle.plcs_store.specs.declared.cell.Location.{Location}
use Rattle.plcs_store.specs.declared.frame.Frame.{Frame}
use Rattle.plcs_store.specs.declared.variable.Variable.{Variable}
use Rattle.plcs_store.specs.CellAt.{Variables, variable_at, variable_named, with_cell, with_element, with_element_named}
use Rattle.plcs_store.specs.Fits.{AreVariables, HoldsRight, IsNoReference, IsOfMain, IsTarget, StandsAtStart, ValuesFit, kind_of_value, variable_part}
use Rattle.plcs_store.specs.Limit.{most_frames}
use Rattle.plcs_store.proofs.TakenBack.{changed_length, set_in_frame}
use Rattle.plcs_store.proofs.KeptFit.ChangedItems.{changed_related, item_still, set_item}
use Rattle.plcs_store.proofs.KeptFit.FittingFrames.{FrameFits, FramesFit}

-- the value may be kept at the location: there is a variable of its kind
pub record MayKeep (frames : List Frame) (location : Location) (value : Value) : Type 0 where
  pub variable : Variable
  pub there : variable_at frames location.frame location.name ≡ Some variable
  pub kind : kind_of_value value ≡ kind_of_type variable.ty

-- ---- a variable before and after

-- a variable as it was, or with the cell set, if it is the one in which it is set
abbrev Became : (own : Variable) → (element : ℕ) → Cell → (was is : Variable) → Type 0
Became own element cell was is = (is ≡ was) ⊎ ((was ≡ own) × (is ≡ with_element element cell own))

-- what is found under a name before and after
abbrev FoundBecame : (own : Variable) → (element : ℕ) → Cell → (was is : Option Variable) → Type 0
FoundBecame own element cell None None = Unit {0}
FoundBecame own element cell None (Some is) = ⊥
FoundBecame own element cell (Some was) None = ⊥
FoundBecame own element cell (Some was) (Some is) = Became own element cell was is

same_found : (own : Variable) (element : ℕ) (cell : Cell) (found : Option Variable) → FoundBecame own element cell found found
same_found own element cell None = tt
same_found own element cell (Some variable) = inl refl

-- what was there is there
found_after : (own : Variable) (element : ℕ) (cell : Cell) (was is : Option Variable) (variable : Variable) → FoundBecame own element cell was is
    → was ≡ Some variable → (after : Variable) × (is ≡ Some after) × Became own element cell variable after
found_after own element cell None is variable became e = absurd (none-some variable e)
found_after own element cell (Some one) None variable became e = absurd became
found_after own element cell (Some one) (Some other) variable became e =
    (other, refl, subst (λ (was : Variable). Became own element cell was other) (same_Some one variable e) became)

-- what is there was there
found_before : (own : Variable) (element : ℕ) (cell : Cell) (was is : Option Variable) (variable : Variable) → FoundBecame own element cell was is
    → is ≡ Some variable → (before : Variable) × (was ≡ Some before) × Became own element cell before variable
found_before own element cell was None variable became e = absurd (none-some variable e)
found_before own element cell None (Some other) variable became e = absurd became
found_before own element cell (Some one) (Some other) variable became e =
    (one, refl, subst (λ (is : Variable). Became own element cell one is) (same_Some other variable e) became)

-- ---- the variables of a frame

set_became : (test other : List ℕ → Bool) (own : Variable) (element : ℕ) (cell : Cell) (variables : Variables)
    → lookup test variables ≡ Some own
    → FoundBecame own element cell (lookup other variables) (lookup other (set_value test variables (with_element element cell own)))
set_became test other own element cell [] found = absurd (none-some own found)
set_became test other own element cell (entry ∷ variables) found =
    by (test entry.0) (other entry.0) refl refl found (set_became test other own element cell variables)
  where
    new : Variable
    new = with_element element cell own

    by : (a b : Bool) → test entry.0 ≡ a → other entry.0 ≡ b → cond a (Some entry.1) (lookup test variables) ≡ Some own
        → (lookup test variables ≡ Some own → FoundBecame own element cell (lookup other variables) (lookup other (set_value test variables new)))
        → FoundBecame own element cell (cond b (Some entry.1) (lookup other variables))
        (lookup other (cond a ((entry.0, new) ∷ variables) (entry ∷ set_value test variables new)))
    by true true is also h later =
        subst (λ (x : Bool). FoundBecame own element cell (Some entry.1) (cond x (Some new) (lookup other variables))) (sym also)
        (inr (same_Some entry.1 own h, refl))
    by true false is also h later =
        subst (λ (x : Bool). FoundBecame own element cell (lookup other variables) (cond x (Some new) (lookup other variables))) (sym also)
        (same_found own element cell (lookup other variables))
    by false true is also h later =
        subst (λ (x : Bool). FoundBecame own element cell (Some entry.1) (cond x (Some entry.1) (lookup other (set_value test variables new)))) (sym also)
        (inl refl)
    by false false is also h later =
        subst
        (λ (x : Bool). FoundBecame own element cell (lookup other variables) (cond x (Some entry.1) (lookup other (set_value test variables new))))
        (sym also) (later h)

-- the part of a variable that is declared stays
same_part : (own : Variable) (element : ℕ) (cell : Cell) (was is : Option Variable) → FoundBecame own element cell was is
    → option_map variable_part is ≡ option_map variable_part was
same_part own element cell None None became = refl
same_part own element cell None (Some is) became = absurd became
same_part own element cell (Some was) None became = absurd became
same_part own element cell (Some was) (Some is) (inl same) = ap (λ (v : Variable). Some (variable_part v)) same
same_part own element cell (Some was) (Some is) (inr (mine, set)) =
    ap (λ (v : Variable). Some (variable_part v)) set ∙ ap (λ (v : Variable). Some (variable_part v)) (sym mine)

still_whole : (own : Variable) (element : ℕ) (cell : Cell) (was is : Variable) → Became own element cell was is
    → length was.cells ≡ cells_in was.size → length is.cells ≡ cells_in is.size
still_whole own element cell was is (inl same) whole = subst (λ (v : Variable). length v.cells ≡ cells_in v.size) (sym same) whole
still_whole own element cell was is (inr (mine, set)) whole =
    subst (λ (v : Variable). length v.cells ≡ cells_in v.size) (sym set)
    (length-set own.cells element cell ∙ subst (λ (v : Variable). length v.cells ≡ cells_in v.size) mine whole)

-- variables with this in a cell of the one that is found
set_variables : (items : List Declared) (name : List ℕ) (element : ℕ) (cell : Cell) (variables : Variables) (own : Variable)
    → variable_named name variables ≡ Some own → AreVariables items variables
    → AreVariables items (set_value (bytes_eq name) variables (with_element element cell own))
set_variables items name element cell variables own found are =
    let after : Variables = set_value (bytes_eq name) variables (with_element element cell own) in
    let became : (other : List ℕ) → FoundBecame own element cell (variable_named other variables) (variable_named other after) =
    λ other. set_became (bytes_eq name) (bytes_eq other) own element cell variables found in
    record {
      once = subst (IsDistinct bytes_eq) (sym (keys-set_value (bytes_eq name) variables (with_element element cell own))) are.once;
      same =
          λ other. same_part own element cell (variable_named other variables) (variable_named other after) (became other) ∙ are.same other;
      whole =
          λ other variable there.
          let before = found_before own element cell (variable_named other variables) (variable_named other after) variable (became other) there in
          still_whole own element cell before.0 variable before.2 (are.whole other before.0 before.1);
    }

abbrev set_as : (name : List ℕ) → ℕ → Cell → Variables → Option Variable → Variables
set_as name element cell variables got =
    option_map_or (λ variable. set_value (bytes_eq name) variables (with_element element cell variable)) got variables

-- the variables of a frame are as many and the same, whatever is set in them
pub still_variables : (items : List Declared) (name : List ℕ) (element : ℕ) (cell : Cell) (variables : Variables)
    → AreVariables items variables → AreVariables items (with_element_named name element cell variables)
still_variables items name element cell variables are = by (variable_named name variables) refl
  where
    by : (got : Option Variable) → variable_named name variables ≡ got → AreVariables items (set_as name element cell variables got)
    by None found = are
    by (Some own) found = set_variables items name element cell variables own found are

-- ---- the variables of frames

-- the variable under a name in one frame
abbrev pub named_in : List ℕ → Option Frame → Option Variable
named_in name frame = option_and_then (λ one. variable_named name one.cells) frame

-- what is found in each frame before and after a cell is set
frames_became : (location : Location) (cell : Cell) (frames : List Frame) (own : Variable) → variable_at frames location.frame location.name ≡ Some own
    → (k : ℕ) (name : List ℕ)
    → FoundBecame own location.element cell (variable_at frames k name) (variable_at (with_cell location cell frames) k name)
frames_became location cell frames own there k name =
    changed_related
    (λ (was is : Option Frame). FoundBecame own location.element cell (named_in name was) (named_in name is))
    location.frame (set_in_frame location cell) frames
    (λ found. same_found own location.element cell (named_in name found))
    (λ frame found.
    by frame (variable_named location.name frame.cells) refl (ap (named_in location.name) (sym found) ∙ there))
    k
  where
    by : (frame : Frame) (got : Option Variable) → variable_named location.name frame.cells ≡ got → got ≡ Some own
        → FoundBecame own location.element cell (variable_named name frame.cells)
        (variable_named name (set_as location.name location.element cell frame.cells got))
    by frame None is e = absurd (none-some own e)
    by frame (Some one) is e =
        subst
        (λ (v : Variable).
        FoundBecame own location.element cell (variable_named name frame.cells)
        (variable_named name (set_value (bytes_eq location.name) frame.cells (with_element location.element cell v))))
        (sym (same_Some one own e))
        (set_became (bytes_eq location.name) (bytes_eq name) own location.element cell frame.cells (is ∙ e))

-- ---- what is in cells

-- a cell that is none of a reference stays none where a value is stored
target_stays : (frames : List Frame) (location : Location) (value : Value) (own : Variable)
    → variable_at frames location.frame location.name ≡ Some own → (kind : Kind) (other : Location)
    → IsTarget frames kind other → IsTarget (with_cell location (Cell.Held value) frames) kind other
target_stays frames location value own there kind other target =
    let cell : Cell = Cell.Held value in
    let found =
    found_after own location.element cell (variable_at frames other.frame other.name)
    (variable_at (with_cell location cell frames) other.frame other.name) target.variable
    (frames_became location cell frames own there other.frame other.name) target.there in
    by found.0 found.1 found.2
  where
    set : (after : Variable) → variable_at (with_cell location (Cell.Held value) frames) other.frame other.name ≡ Some after
        → target.variable ≡ own → after ≡ with_element location.element (Cell.Held value) own
        → (cell : Cell) → slice_get (slice_set own.cells location.element (Cell.Held value)) other.element ≡ Some cell
        → (cell ≡ Cell.Held value) ⊎ (cell ≡ target.cell)
        → IsTarget (with_cell location (Cell.Held value) frames) kind other
    set after is mine same cell held (inl new) =
        record {
          variable = after;
          there = is;
          kind_is = ap (λ (v : Variable). kind_of_type v.ty) (same ∙ sym (ap (with_element location.element (Cell.Held value)) mine)) ∙ target.kind_is;
          cell = cell;
          cell_there = ap (λ (v : Variable). slice_get v.cells other.element) same ∙ held;
          plain = subst IsNoReference (sym new) tt;
        }
    set after is mine same cell held (inr old) =
        record {
          variable = after;
          there = is;
          kind_is = ap (λ (v : Variable). kind_of_type v.ty) (same ∙ sym (ap (with_element location.element (Cell.Held value)) mine)) ∙ target.kind_is;
          cell = cell;
          cell_there = ap (λ (v : Variable). slice_get v.cells other.element) same ∙ held;
          plain = subst IsNoReference (sym old) target.plain;
        }

    by : (after : Variable) → variable_at (with_cell location (Cell.Held value) frames) other.frame other.name ≡ Some after
        → Became own location.element (Cell.Held value) target.variable after
        → IsTarget (with_cell location (Cell.Held value) frames) kind other
    by after is (inl same) =
        record {
          variable = after;
          there = is;
          kind_is = ap (λ (v : Variable). kind_of_type v.ty) same ∙ target.kind_is;
          cell = target.cell;
          cell_there = ap (λ (v : Variable). slice_get v.cells other.element) same ∙ target.cell_there;
          plain = target.plain;
        }
    by after is (inr (mine, same)) =
        let still =
        item_still own.cells location.element (Cell.Held value) other.element target.cell
        (subst (λ (v : Variable). slice_get v.cells other.element ≡ Some target.cell) mine target.cell_there) in
        set after is mine same still.0 still.1 still.2

right_stays : (frames : List Frame) (location : Location) (value : Value) (own : Variable)
    → variable_at frames location.frame location.name ≡ Some own → (k : ℕ) (kind : Kind) (cell : Cell)
    → HoldsRight frames k kind cell → HoldsRight (with_cell location (Cell.Held value) frames) k kind cell
right_stays frames location value own there k kind Cell.Unset right = tt
right_stays frames location value own there k kind (Cell.Held held) right = right
right_stays frames location value own there k kind (Cell.Ref other) right =
    (right.0, target_stays frames location value own there kind other right.1)

pub values_stored : (frames : List Frame) (location : Location) (value : Value) → MayKeep frames location value → ValuesFit frames
    → ValuesFit (with_cell location (Cell.Held value) frames)
values_stored frames location value may fit k element name variable cell there held =
    let own : Variable = may.variable in
    let found =
    found_before own location.element (Cell.Held value) (variable_at frames k name) (variable_at (with_cell location (Cell.Held value) frames) k name)
    variable (frames_became location (Cell.Held value) frames own may.there k name) there in
    by found.0 found.1 found.2
  where
    after : List Frame
    after = with_cell location (Cell.Held value) frames

    kept : (was : Variable) → variable_at frames k name ≡ Some was → kind_of_type variable.ty ≡ kind_of_type was.ty
        → slice_get was.cells element ≡ Some cell → HoldsRight after k (kind_of_type variable.ty) cell
    kept was is same_kind had =
        subst (λ (kind : Kind). HoldsRight after k kind cell) (sym same_kind)
        (right_stays frames location value may.variable may.there k (kind_of_type was.ty) cell (fit k element name was cell is had))

    set : (was : Variable) → variable_at frames k name ≡ Some was → was ≡ may.variable
        → variable ≡ with_element location.element (Cell.Held value) may.variable
        → (cell ≡ Cell.Held value) ⊎ (slice_get may.variable.cells element ≡ Some cell) → HoldsRight after k (kind_of_type variable.ty) cell
    set was is mine same (inl new) =
        subst (HoldsRight after k (kind_of_type variable.ty)) (sym new) (may.kind ∙ sym (ap (λ (v : Variable). kind_of_type v.ty) same))
    set was is mine same (inr had) =
        kept was is (ap (λ (v : Variable). kind_of_type v.ty) same ∙ ap (λ (v : Variable). kind_of_type v.ty) (sym mine))
        (ap (λ (v : Variable). slice_get v.cells element) mine ∙ had)

    by : (was : Variable) → variable_at frames k name ≡ Some was → Became may.variable location.element (Cell.Held value) was variable
        → HoldsRight after k (kind_of_type variable.ty) cell
    by was is (inl same) =
        kept was is (ap (λ (v : Variable). kind_of_type v.ty) same) (ap (λ (v : Variable). slice_get v.cells element) (sym same) ∙ held)
    by was is (inr (mine, same)) =
        set was is mine same
        (set_item may.variable.cells location.element (Cell.Held value) element cell
        (ap (λ (v : Variable). slice_get v.cells element) (sym same) ∙ held))

-- ---- the frames

-- a frame in which a cell is set fits as before
frame_stored : (program : Forest) (waits : Bool) (location : Location) (cell : Cell) (frame : Frame) → FrameFits program waits frame
    → FrameFits program waits (set_in_frame location cell frame)
frame_stored program waits location cell frame fit =
    record {
      stands = (
        fit.stands.0,
        fit.stands.1,
        record { stands = fit.stands.2.stands; exists = fit.stands.2.exists; procedure = fit.stands.2.procedure; waiting = fit.stands.2.waiting },
      );
      cells = still_variables (Items program frame.procedure.0) location.name location.element cell frame.cells fit.cells;
      loops = fit.loops;
    }

-- a frame is as it was, or a cell is set in it
abbrev FrameBecame : Location → Cell → (was is : Option Frame) → Type 0
FrameBecame location cell was is =
    (frame : Frame) → is ≡ Some frame → (before : Frame) × (was ≡ Some before) × ((frame ≡ before) ⊎ (frame ≡ set_in_frame location cell before))

frame_became : (location : Location) (cell : Cell) (frames : List Frame) (k : ℕ)
    → FrameBecame location cell (slice_get frames k) (slice_get (with_cell location cell frames) k)
frame_became location cell frames k =
    changed_related (FrameBecame location cell) location.frame (set_in_frame location cell) frames (λ found frame is. (frame, is, inl refl))
    (λ one there frame is. (one, refl, inr (sym (same_Some (set_in_frame location cell one) frame is)))) k

main_stored : (location : Location) (cell : Cell) (frames : List Frame) (program : Forest) → IsOfMain program frames
    → IsOfMain program (with_cell location cell frames)
main_stored location cell frames Forest.nil main = main
main_stored location cell frames (Forest.cons label inner rest) main =
    changed_related
    (λ (was is : Option Frame). option_map (λ frame. frame.procedure.0) is ≡ option_map (λ frame. frame.procedure.0) was)
    location.frame (set_in_frame location cell) frames (λ found. refl) (λ frame found. refl) 0
    ∙ main

pub frames_stored : (program : Forest) (frames : List Frame) (location : Location) (value : Value) → FramesFit program frames
    → MayKeep frames location value → FramesFit program (with_cell location (Cell.Held value) frames)
frames_stored program frames location value fit may =
    record {
      some = subst (λ (n : ℕ). 1 ≤ n) (sym same) fit.some;
      few = subst (λ (n : ℕ). n ≤ most_frames) (sym same) fit.few;
      main = main_stored location cell frames program fit.main;
      lower =
          λ k frame found more.
          let before = frame_became location cell frames k frame found in
          lower frame before.0 (fit.lower k before.0 before.1 (subst (λ (n : ℕ). suc k < n) same more)) before.2;
      top =
          λ k frame found last.
          let before = frame_became location cell frames k frame found in
          top frame before.0 (fit.top k before.0 before.1 (last ∙ same)) before.2;
      values = values_stored frames location value may fit.values;
    }
  where
    cell : Cell
    cell = Cell.Held value

    same : length (with_cell location cell frames) ≡ length frames
    same = changed_length location.frame (set_in_frame location cell) frames

    lower : (frame before : Frame) → FrameFits program true before → (frame ≡ before) ⊎ (frame ≡ set_in_frame location cell before)
        → FrameFits program true frame
    lower frame before fit (inl is) = subst (FrameFits program true) (sym is) fit
    lower frame before fit (inr is) = subst (FrameFits program true) (sym is) (frame_stored program true location cell before fit)

    top : (frame before : Frame) → FrameFits program false before × StandsAtStart program before
        → (frame ≡ before) ⊎ (frame ≡ set_in_frame location cell before) → FrameFits program false frame × StandsAtStart program frame
    top frame before fit (inl is) = subst (λ (f : Frame). FrameFits program false f × StandsAtStart program f) (sym is) fit
    top frame before fit (inr is) =
        subst (λ (f : Frame). FrameFits program false f × StandsAtStart program f) (sym is)
        (frame_stored program false location cell before fit.0, fit.1)
