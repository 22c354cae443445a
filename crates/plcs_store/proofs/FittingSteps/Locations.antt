-- A declared name stands for a cell of its kind: what is read there is of the kind, and what is stored there is kept.
use Rattle.std.specs.Prelude.{◌≡◌, refl, ℕ, zero, suc, ◌-◌, ◌<◌, ◌≤◌, ◌==◌, nat_le, ℤ, pos, negsuc, Bool, true, false, ◌&&◌, if◌then◌else◌, List, [], ◌∷◌, length, take, slice_get, Option, Some, None, IsSome, option_and_then, option_map, is_some}
use Rattle.std.proofs.Common.{ap, sym, ◌∙◌, subst, arith}
use Rattle.std.proofs.Math.Bool.{false≢true}
use Rattle.std.proofs.lemmas.Bool.{leb-true, ne_eqb}
use Rattle.std.proofs.lemmas.Option.{none-some, same_Some}
use Rattle.plcs_base.specs.declared.declared.Declared.{Declared}
use Rattle.plcs_base.specs.declared.declared.ItemType.{ItemType}
use Rattle.plcs_base.specs.declared.value.Kind.{Kind}
use Rattle.plcs_base.specs.declared.value.Value.{Value}
use Rattle.template_tree.specs.Checks.Environment.{cells_in, item_named, kind_of_type}
use Rattle.template_tree.specs.Checks.KindTable.{same_kind}
use Rattle.plcs_store.specs.declared.cell.Cell.{Cell}
use Rattle.plcs_store.specs.declared.cell.Location.{Location}
use Rattle.plcs_store.specs.declared.fault_kind.FaultKind.{FaultKind}
use Rattle.plcs_store.specs.declared.frame.Frame.{Frame}
use Rattle.plcs_store.specs.declared.variable.Variable.{Variable}
use Rattle.plcs_store.specs.CellAt.{cell_at, element_of, final_location, kept_value, located, newest, own_location, stands_for, value_at, value_in_cell, variable_at, variable_named}
use Rattle.plcs_store.specs.Fits.{AreVariables, HoldsRight, IsNoReference, IsTarget, ValuesFit, declared_part, kind_of_value, variable_part}
use Rattle.plcs_store.specs.Outcome.{Outcome, faults, if_there, then_gives}
use Rattle.plcs_store.specs.Step.{storing}
use Rattle.plcs_store.proofs.FittingSteps.Found.{and_both}
use Rattle.plcs_store.proofs.FittingSteps.Outcomes.{Gives, then_so, there_so}
use Rattle.plcs_store.proofs.FittingSteps.Values.{IsOf}

-- ---- the variables of the newest frame

-- the newest frame has a variable for each of the items, and each cell holds what is right
pub record HasItems (frames : List Frame) (items : List Declared) : Type 0 where
  pub frame : Frame
  pub top : slice_get frames (newest frames) ≡ Some frame
  pub variables : AreVariables items frame.cells
  pub values : ValuesFit frames

-- the variable of an item: its type, and all its cells
pub record HasVariable (frames : List Frame) (name : List ℕ) (ty : ItemType) : Type 0 where
  pub variable : Variable
  pub there : variable_at frames (newest frames) name ≡ Some variable
  pub ty_is : variable.ty ≡ ty
  pub whole : length variable.cells ≡ cells_in variable.size

mapped : {A B : Type 0} (f : A → B) (found : Option A) (b : B) → option_map f found ≡ Some b → (a : A) × (found ≡ Some a) × (f a ≡ b)
mapped f None b e = absurd (none-some b e)
mapped f (Some a) b e = (a, refl, same_Some (f a) b e)

pub item_variable : (frames : List Frame) (items : List Declared) (has : HasItems frames items) (name : List ℕ) (item : Declared)
    → item_named name items ≡ Some item → HasVariable frames name item.ty
item_variable frames items has name item e =
    let (variable, found, part) =
    mapped variable_part (variable_named name has.frame.cells) (declared_part item) (has.variables.same name ∙ ap (option_map declared_part) e) in
    record {
      variable = variable;
      there = ap (option_and_then (λ (one : Frame). variable_named name one.cells)) has.top ∙ found;
      ty_is = ap (λ (p : ItemType × ℕ). p.0) part;
      whole = has.variables.whole name variable found;
    }

-- ---- which cell is meant

not_zero : (size : ℕ) → (let n : ℕ = if suc size == 0 then 1 else suc size in n) ≡ suc size
not_zero size = ap (λ (b : Bool). if b then 1 else suc size) (ne_eqb (suc size) 0 (λ same. omega (arith, same)))

some_cell : (size n : ℕ) → n ≡ (if size == 0 then 1 else size) → 0 < n
some_cell zero n e = let same : n ≡ 1 = e in omega (arith, same)
some_cell (suc size) n e = let same : n ≡ suc size = e ∙ not_zero size in omega (arith, same)

within_size : (size n k : ℕ) → 1 ≤ k → k ≤ size → n ≡ (if size == 0 then 1 else size) → k - 1 < n
within_size zero n k some few e = omega (arith, some, few)
within_size (suc size) n k some few e = let same : n ≡ suc size = e ∙ not_zero size in omega (arith, some, few, same)

element_so : (variable : Variable) (subscript : Option ℤ) → length variable.cells ≡ cells_in variable.size
    → Gives (λ k. k < length variable.cells) (element_of variable subscript)
element_so variable None whole = some_cell variable.size (length variable.cells) whole
element_so variable (Some (pos n)) whole =
    by (nat_le 1 n && nat_le n variable.size) refl
  where
    by : (right : Bool) → (nat_le 1 n && nat_le n variable.size) ≡ right
        → Gives (λ k. k < length variable.cells)
        (if right then (let o : Outcome ℕ = Outcome.gives (n - 1) in o) else faults FaultKind.SubscriptRange)
    by true e =
        let both = and_both (nat_le 1 n) (nat_le n variable.size) e in
        within_size variable.size (length variable.cells) n (leb-true 1 n both.0) (leb-true n variable.size both.1) whole
    by false e = tt
element_so variable (Some (negsuc n)) whole = tt

cell_there : (cells : List Cell) (k : ℕ) → k < length cells → (cell : Cell) × (slice_get cells k ≡ Some cell)
cell_there [] k few = absurd (omega (arith, few))
cell_there (cell ∷ cells) zero few = (cell, refl)
cell_there (cell ∷ cells) (suc k) few = cell_there cells k (omega (arith, few))

-- ---- where a variable finally stands

target_of : (frames : List Frame) (own : Location) (variable : Variable) (cell : Cell) → variable_at frames own.frame own.name ≡ Some variable
    → slice_get variable.cells own.element ≡ Some cell → HoldsRight frames own.frame (kind_of_type variable.ty) cell
    → IsTarget frames (kind_of_type variable.ty) (stands_for own cell)
target_of frames own variable Cell.Unset there held right =
    record { variable = variable; there = there; kind_is = refl; cell = Cell.Unset; cell_there = held; plain = tt }
target_of frames own variable (Cell.Held value) there held right =
    record { variable = variable; there = there; kind_is = refl; cell = Cell.Held value; cell_there = held; plain = tt }
target_of frames own variable (Cell.Ref location) there held right = right.1

pub located_so : (frames : List Frame) (items : List Declared) (has : HasItems frames items) (name : List ℕ) (subscript : Option ℤ) (item : Declared)
    → item_named name items ≡ Some item → Gives (IsTarget frames (kind_of_type item.ty)) (located frames name subscript)
located_so frames items has name subscript item e =
    let its = item_variable frames items has name item e in
    subst (λ (ty : ItemType). Gives (IsTarget frames (kind_of_type ty)) (located frames name subscript)) its.ty_is
    (there_so (IsTarget frames (kind_of_type its.variable.ty)) (variable_at frames (newest frames) name) its.variable
    (λ variable. then_gives (element_of variable subscript) (λ element. if_there (final_location frames (own_location frames name element)))) its.there
    (then_so (λ k. k < length its.variable.cells) (IsTarget frames (kind_of_type its.variable.ty)) (element_of its.variable subscript)
    (λ element. if_there (final_location frames (own_location frames name element))) (element_so its.variable subscript its.whole)
    (λ element few.
    let own : Location = own_location frames name element in
    let (cell, held) = cell_there its.variable.cells element few in
    let there : cell_at frames own ≡ Some cell = ap (option_and_then (λ (one : Variable). slice_get one.cells element)) its.there ∙ held in
    let target : IsTarget frames (kind_of_type its.variable.ty) (stands_for own cell) =
    target_of frames own its.variable cell its.there held
    (has.values (newest frames) element name its.variable cell its.there held) in
    subst (λ (o : Option Location). Gives (IsTarget frames (kind_of_type its.variable.ty)) (if_there o))
    (sym (ap (option_map (stands_for own)) there)) target)))

-- ---- what is read and stored there

-- the cell of a target is there
pub target_cell : (frames : List Frame) (kind : Kind) (location : Location) (target : IsTarget frames kind location)
    → cell_at frames location ≡ Some target.cell
target_cell frames kind location target =
    ap (option_and_then (λ (one : Variable). slice_get one.cells location.element)) target.there ∙ target.cell_there

pub target_some : (frames : List Frame) (kind : Kind) (location : Location) → IsTarget frames kind location → IsSome (cell_at frames location)
target_some frames kind location target = ap is_some (target_cell frames kind location target)

in_cell_so : (frames : List Frame) (frame : ℕ) (kind : Kind) (cell : Cell) → IsNoReference cell → HoldsRight frames frame kind cell
    → Gives (IsOf kind) (value_in_cell cell)
in_cell_so frames frame kind Cell.Unset plain right = tt
in_cell_so frames frame kind (Cell.Held value) plain right = right
in_cell_so frames frame kind (Cell.Ref location) plain right = absurd plain

pub read_so : (frames : List Frame) (kind : Kind) (location : Location) → ValuesFit frames → IsTarget frames kind location
    → Gives (IsOf kind) (value_at frames location)
read_so frames kind location values target =
    there_so (IsOf kind) (cell_at frames location) target.cell value_in_cell (target_cell frames kind location target)
    (subst (λ (k : Kind). Gives (IsOf k) (value_in_cell target.cell)) target.kind_is
    (in_cell_so frames location.frame (kind_of_type target.variable.ty) target.cell target.plain
    (values location.frame location.element location.name target.variable target.cell target.there target.cell_there)))

pub kept_there : (ty : ItemType) (value : Value) → kind_of_value value ≡ kind_of_type ty → (kept : Value) × (kept_value ty value ≡ Some kept)
kept_there ItemType.Fixed (Value.Fixed z) kind = (Value.Fixed z, refl)
kept_there ItemType.Fixed (Value.Bit b) kind = absurd (false≢true (ap (same_kind Kind.Fixed) kind))
kept_there ItemType.Fixed (Value.Text x) kind = absurd (false≢true (ap (same_kind Kind.Fixed) kind))
kept_there ItemType.Bit (Value.Fixed z) kind = absurd (false≢true (ap (same_kind Kind.Bit) kind))
kept_there ItemType.Bit (Value.Bit b) kind = (Value.Bit b, refl)
kept_there ItemType.Bit (Value.Text x) kind = absurd (false≢true (ap (same_kind Kind.Bit) kind))
kept_there (ItemType.Text n) (Value.Fixed z) kind = absurd (false≢true (ap (same_kind Kind.Text) kind))
kept_there (ItemType.Text n) (Value.Bit b) kind = absurd (false≢true (ap (same_kind Kind.Text) kind))
kept_there (ItemType.Text n) (Value.Text x) kind = (Value.Text (take n x), refl)

-- a value is stored in a cell of its kind
pub stored_so : {A : Type 0} (Is : A → Type 0) (frames : List Frame) (kind : Kind) (location : Location) (value : Value) (make : Value → A)
    → IsTarget frames kind location → IsOf kind value → ((kept : Value) → Is (make kept)) → Gives Is (storing frames location value make)
stored_so Is frames kind location value make target is all =
    let (kept, e) = kept_there target.variable.ty value (is ∙ sym target.kind_is) in
    there_so Is (option_and_then (λ (one : Variable). kept_value one.ty value) (variable_at frames location.frame location.name)) kept
    (λ stored. Outcome.gives (make stored))
    (ap (option_and_then (λ (one : Variable). kept_value one.ty value)) target.there ∙ e) (all kept)
