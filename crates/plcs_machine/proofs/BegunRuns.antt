-- What is left of the code of main once some of its cells are made: it begins the same run, with the fetches behind
-- those so far.
use Rattle.std.proofs.Common.{ℕ, ◌+◌, ◌≤◌, ◌≡◌, refl, ap, sym, ◌∙◌, subst, arith}
use Rattle.std.proofs.Math.Bool.{false≢true}
use Rattle.std.specs.Prelude.{Bool, true, false, List, [], ◌∷◌, ◌++◌, drop, slice_get, Option, Some, None, IsSome, is_none, option_and_then, option_map, if◌then◌else◌, ◌&&◌, nat_le, length}
use Rattle.plcs_base.specs.ListLeft.{left_from}
use Rattle.plcs_base.specs.declared.declared.ItemType.{ItemType}
use Rattle.plcs_base.specs.declared.place.Place.{Place}
use Rattle.plcs_code.specs.declared.instr.Instr.{Instr}
use Rattle.plcs_code.specs.PlainInstr.{PlainInstr, plain_instr}
use Rattle.plcs_store.specs.declared.variable.Variable.{Variable}
use Rattle.plcs_store.specs.CellAt.{Variables, new_variable, variable_named}
use Rattle.template_tree.specs.Positions.Place.{PlainPlace}
use Rattle.template_tree.specs.Programs.Limit.{most_cells}
use Rattle.plcs_machine.specs.Enter.{begun_passing, begun_in}
use Rattle.plcs_machine.specs.Fetched.{Fetched, behind_one, fetches_of}
use Rattle.plcs_machine.specs.Passing.{Landing, cell_count, landing, passing_of, with_unset}
use Rattle.plcs_machine.specs.Private.CountedSteps.{behind_many}
use Rattle.plcs_machine.proofs.CountedFetches.{behind_next}

-- what is left of the code at an address, behind the cells that are made so far
abbrev pub begun_at : List PlainInstr → (address : ℕ) → Variables → Option (Fetched Landing)
begun_at instrs address variables = option_map (behind_many address) (begun_in (drop address instrs) variables)

-- what is left begins with the instruction that is found
pub begun_by : (instrs : List PlainInstr) (address : ℕ) (instr : PlainInstr) (variables : Variables) → slice_get instrs address ≡ Some instr
    → begun_at instrs address variables
    ≡ option_map (behind_many address) (option_and_then (begun_passing variables (begun_in (drop (address + 1) instrs))) (passing_of instr))
begun_by instrs address instr variables there =
    ap (λ (left : List PlainInstr). option_map (behind_many address) (begun_in left variables)) (left_from instrs address instr there)

-- at a place it ends there
pub begun_place : (instrs : List PlainInstr) (address : ℕ) (place : PlainPlace) (variables : Variables)
    → slice_get instrs address ≡ Some (PlainInstr.place place)
    → begun_at instrs address variables ≡ Some record { result = landing place variables; fetches = 1 + address }
begun_place instrs address place variables there = begun_by instrs address (PlainInstr.place place) variables there

-- at a cell it goes on behind that
pub begun_cell : (instrs : List PlainInstr) (address : ℕ) (name : List ℕ) (ty : ItemType) (size : ℕ) (variables : Variables)
    → slice_get instrs address ≡ Some (PlainInstr.cell name ty size)
    → begun_at instrs address variables
    ≡ option_map (behind_many address)
    (option_map behind_one (option_and_then (begun_in (drop (address + 1) instrs)) (with_unset name ty size variables)))
begun_cell instrs address name ty size variables there = begun_by instrs address (PlainInstr.cell name ty size) variables there

-- ---- the cells that are made

abbrev made_if : {A : Type 0} → Bool → A → Option A
made_if test a = if test then Some a else None

-- what is there under two tests passes both
is_made : {A : Type 0} (fresh few : Bool) (a : A) → IsSome (made_if (fresh && few) a) → (fresh ≡ true) × (made_if (fresh && few) a ≡ Some a)
is_made true true a made = (refl, refl)
is_made true false a made = absurd (false≢true made)
is_made false few a made = absurd (false≢true made)

-- nothing is there where it is told that nothing is
none_is : {A : Type 0} (found : Option A) → is_none found ≡ true → found ≡ None
none_is None told = refl
none_is (Some a) told = absurd (false≢true told)

-- what is made of something is there where that is
some_inside : {X A : Type 0} (make : X → Option (Fetched A)) (k : ℕ) (found : Option X)
    → IsSome (option_map (behind_many k) (option_map behind_one (option_and_then make found))) → IsSome found
some_inside make k None there = there
some_inside make k (Some x) there = refl

-- a cell of main that is defined has a new name, and stands behind those so far
pub cell_made : (instrs : List PlainInstr) (address : ℕ) (name : List ℕ) (ty : ItemType) (size : ℕ) (variables : Variables)
    → slice_get instrs address ≡ Some (PlainInstr.cell name ty size) → IsSome (begun_at instrs address variables)
    → (variable_named name variables ≡ None) × (with_unset name ty size variables ≡ Some (variables ++ ((name, new_variable ty size) ∷ [])))
cell_made instrs address name ty size variables there whole =
    let cell = begun_cell instrs address name ty size variables there in
    let inside : IsSome (with_unset name ty size variables) =
    some_inside (begun_in (drop (address + 1) instrs)) address (with_unset name ty size variables)
    (subst (λ (o : Option (Fetched Landing)). IsSome o) cell whole) in
    let new : Variable = new_variable ty size in
    let both = is_made (is_none (variable_named name variables)) (nat_le (cell_count variables + length new.cells) most_cells)
    (variables ++ ((name, new) ∷ [])) inside in
    (none_is (variable_named name variables) both.0, both.1)

-- and what is left behind it begins the same run
pub begun_next : (instrs : List PlainInstr) (address : ℕ) (name : List ℕ) (ty : ItemType) (size : ℕ) (variables : Variables)
    → slice_get instrs address ≡ Some (PlainInstr.cell name ty size) → IsSome (begun_at instrs address variables)
    → begun_at instrs address variables ≡ begun_at instrs (address + 1) (variables ++ ((name, new_variable ty size) ∷ []))
begun_next instrs address name ty size variables there whole =
    let more = variables ++ ((name, new_variable ty size) ∷ []) in
    begun_cell instrs address name ty size variables there
    ∙ ap (λ (made : Option Variables).
    option_map (behind_many address) (option_map behind_one (option_and_then (begun_in (drop (address + 1) instrs)) made)))
    (cell_made instrs address name ty size variables there whole).1
    ∙ sym (behind_next address (begun_in (drop (address + 1) instrs) more))

-- ---- how many instructions are fetched

-- behind one more than so many there are as many at least
more_behind : {A : Type 0} (k : ℕ) (fetched : Option (Fetched A)) → IsSome (option_map (behind_many k) (option_map behind_one fetched))
    → k + 1 ≤ fetches_of (option_map (behind_many k) (option_map behind_one fetched))
more_behind k None there = absurd (false≢true there)
more_behind k (Some fetched) there = omega arith

-- the instruction of a cell is one of those that are fetched
pub cell_counts : (instrs : List PlainInstr) (address : ℕ) (name : List ℕ) (ty : ItemType) (size : ℕ) (variables : Variables)
    → slice_get instrs address ≡ Some (PlainInstr.cell name ty size) → IsSome (begun_at instrs address variables)
    → address + 1 ≤ fetches_of (begun_at instrs address variables)
cell_counts instrs address name ty size variables there whole =
    let cell = begun_cell instrs address name ty size variables there in
    let inside = option_and_then (begun_in (drop (address + 1) instrs)) (with_unset name ty size variables) in
    let more = more_behind address inside (subst (λ (o : Option (Fetched Landing)). IsSome o) cell whole) in
    let same : fetches_of (begun_at instrs address variables) ≡ fetches_of (option_map (behind_many address) (option_map behind_one inside)) =
    ap (λ (o : Option (Fetched Landing)). fetches_of o) cell in
    omega (arith, more, same)

-- ---- nothing else comes

-- before main's first place nothing comes but cells
pub no_other : (instr : Instr) (variables : Variables) (go : Variables → Option (Fetched Landing))
    → ((place : Place) → instr ≡ Instr.At place → ⊥) → ((name : List ℕ) (ty : ItemType) (size : ℕ) → instr ≡ Instr.Cell name ty size → ⊥)
    → option_and_then (begun_passing variables go) (passing_of (plain_instr instr)) ≡ None
no_other (Instr.At at) variables go no_place no_cell = absurd (no_place at refl)
no_other Instr.SuspendPlaceholder variables go no_place no_cell = refl
no_other Instr.SuspendMarked variables go no_place no_cell = refl
no_other (Instr.PushNumber z) variables go no_place no_cell = refl
no_other (Instr.PushBit b) variables go no_place no_cell = refl
no_other (Instr.PushText text) variables go no_place no_cell = refl
no_other (Instr.Load name) variables go no_place no_cell = refl
no_other (Instr.LoadAt name) variables go no_place no_cell = refl
no_other (Instr.Store name) variables go no_place no_cell = refl
no_other (Instr.StoreAt name) variables go no_place no_cell = refl
no_other (Instr.Prefix op) variables go no_place no_cell = refl
no_other (Instr.Infix op) variables go no_place no_cell = refl
no_other (Instr.Builtin function n) variables go no_place no_cell = refl
no_other (Instr.Jump d) variables go no_place no_cell = refl
no_other (Instr.JumpFalse d) variables go no_place no_cell = refl
no_other (Instr.ForEnter slot name d) variables go no_place no_cell = refl
no_other (Instr.ForNext slot name d) variables go no_place no_cell = refl
no_other (Instr.Get name) variables go no_place no_cell = refl
no_other (Instr.GetAt name) variables go no_place no_cell = refl
no_other (Instr.Put n) variables go no_place no_cell = refl
no_other (Instr.PutSkip n) variables go no_place no_cell = refl
no_other (Instr.Ref name) variables go no_place no_cell = refl
no_other (Instr.RefAt name) variables go no_place no_cell = refl
no_other Instr.Dummy variables go no_place no_cell = refl
no_other (Instr.Call name n) variables go no_place no_cell = refl
no_other (Instr.Param name ty) variables go no_place no_cell = refl
no_other (Instr.Cell name ty n) variables go no_place no_cell = absurd (no_cell name ty n refl)
no_other Instr.Leave variables go no_place no_cell = refl
