-- Where a step ends that makes a frame: each parameter takes the next argument, and each variable has a new name.
use Rattle.std.specs.Prelude.{◌≡◌, refl, ℕ, ◌+◌, ◌-◌, ◌<◌, nat_le, ℤ, Bool, true, false, if◌then◌else◌, ◌&&◌, List, [], ◌∷◌, ◌++◌, length, slice_get, Option, Some, None, IsSome, is_none, is_some, option_and_then, option_map}
use Rattle.std.proofs.Common.{ap, sym, ◌∙◌, arith, subst}
use Rattle.std.proofs.Math.Bool.{false≢true}
use Rattle.plcs_base.specs.declared.declared.ItemType.{ItemType}
use Rattle.plcs_base.specs.declared.place.Place.{Place}
use Rattle.plcs_base.specs.declared.value.Value.{Value}
use Rattle.plcs_code.specs.declared.instr.Instr.{Instr}
use Rattle.plcs_code.specs.PlainInstr.{PlainInstr, plain_instr}
use Rattle.plcs_store.specs.declared.argument.Argument.{Argument}
use Rattle.plcs_store.specs.declared.cell.Cell.{Cell}
use Rattle.plcs_store.specs.declared.frame.Frame.{Frame}
use Rattle.plcs_store.specs.declared.variable.Variable.{Variable}
use Rattle.plcs_store.specs.CellAt.{Variables, kept_value, new_variable, scalar_variable, variable_at, variable_named}
use Rattle.plcs_store.specs.NewFrame.{parameter_of, reference_parameter}
use Rattle.template_tree.specs.Checks.Environment.{kind_of_type}
use Rattle.template_tree.specs.Checks.KindTable.{same_kind}
use Rattle.template_tree.specs.Programs.Limit.{most_cells}
use Rattle.plcs_machine.specs.Fetched.{Fetched, behind_one}
use Rattle.plcs_machine.specs.Passing.{Landing, Making, cell_count, passed, passing_of, settle, with_unset, with_variable, with_variables}
use Rattle.plcs_machine.specs.Private.MakingFrame.{argument_cell, making_of, with_argument}
use Rattle.plcs_machine.proofs.SettledCode.{settle_by}

abbrev made_if : Bool → Variables → Option Variables
made_if test variables = if test then Some variables else None

-- what is there under two tests passes both
is_made : (fresh few : Bool) (variables : Variables) → IsSome (made_if (fresh && few) variables)
    → (fresh ≡ true) × (made_if (fresh && few) variables ≡ Some variables)
is_made true true variables made = (refl, refl)
is_made true false variables made = absurd (false≢true made)
is_made false few variables made = absurd (false≢true made)

none_is : {A : Type 0} (found : Option A) → is_none found ≡ true → found ≡ None
none_is None told = refl
none_is (Some a) told = absurd (false≢true told)

-- one more variable has a new name, and stands behind the others
pub variable_added : (name : List ℕ) (variable : Variable) (variables : Variables) → IsSome (with_variable name variable variables)
    → (variable_named name variables ≡ None) × (with_variable name variable variables ≡ Some (variables ++ ((name, variable) ∷ [])))
variable_added name variable variables made =
    let both = is_made (is_none (variable_named name variables)) (nat_le (cell_count variables + length variable.cells) most_cells)
    (variables ++ ((name, variable) ∷ [])) made in
    (none_is (variable_named name variables) both.0, both.1)

-- the cell of a parameter
pub record ParameterCell (ty : ItemType) (argument : Argument) (parameter : Variable) : Type 0 where
  pub cell : Cell
  pub is : argument_cell ty argument ≡ Some cell
  pub parameter_is : parameter ≡ scalar_variable ty cell

-- what is made of an option that is there
some_same : {A : Type 0} (a b : A) → Some a ≡ Some b → a ≡ b
some_same {A = A} a b same = ap (option_or_else a) same
  where
    option_or_else : A → Option A → A
    option_or_else other None = other
    option_or_else other (Some found) = found

-- the parameter for an argument has the cell for it
parameter_cell : (frames : List Frame) (ty : ItemType) (argument : Argument) (parameter : Variable) → parameter_of frames ty argument ≡ Some parameter
    → ParameterCell ty argument parameter
parameter_cell frames ty (Argument.Reference location) parameter is = by (variable_at frames location.frame location.name) is
  where
    own : Variable
    own = scalar_variable ty (Cell.Ref location)

    test : (right : Bool) → (if right then Some own else None) ≡ Some parameter → ParameterCell ty (Argument.Reference location) parameter
    test true is = record { cell = Cell.Ref location; is = refl; parameter_is = sym (some_same own parameter is) }
    test false is = absurd (false≢true (ap (λ (o : Option Variable). is_some o) is))

    by : (found : Option Variable) → option_and_then (reference_parameter ty location) found ≡ Some parameter
        → ParameterCell ty (Argument.Reference location) parameter
    by None is = absurd (false≢true (ap (λ (o : Option Variable). is_some o) is))
    by (Some variable) is = test (same_kind (kind_of_type ty) (kind_of_type variable.ty)) is
parameter_cell frames ty (Argument.Dummy value) parameter is = by (kept_value ty value) refl is
  where
    by : (found : Option Value) → kept_value ty value ≡ found → option_map (λ kept. scalar_variable ty (Cell.Held kept)) found ≡ Some parameter
        → ParameterCell ty (Argument.Dummy value) parameter
    by None kept is = absurd (false≢true (ap (λ (o : Option Variable). is_some o) is))
    by (Some one) kept is =
        record {
          cell = Cell.Held one;
          is = ap (option_map Cell.Held) kept;
          parameter_is = sym (some_same (scalar_variable ty (Cell.Held one)) parameter is);
        }

-- ---- cells that aren't set

abbrev made_next : (go : Option Making → Option (Fetched Landing)) → Making → Option Variables → Option (Fetched Landing)
made_next go making made = option_map behind_one (option_and_then (λ more. go (Some more)) (option_map (with_variables making) made))

made_next_there : (go : Option Making → Option (Fetched Landing)) (making : Making) (made : Option Variables)
    → IsSome (made_next go making made) → IsSome made
made_next_there go making None whole = whole
made_next_there go making (Some variables) whole = refl

module _ (frames : List Frame) (instrs : List PlainInstr) (left address : ℕ) where
  -- where a step ends from here on, or from behind this instruction on
  abbrev pub from_here : Variables → List Argument → Option (Fetched Landing)
  from_here variables arguments = settle frames instrs left address (Some (making_of variables arguments))

  abbrev pub from_next : Variables → List Argument → Option (Fetched Landing)
  from_next variables arguments = settle frames instrs (left - 1) (address + 1) (Some (making_of variables arguments))

  settle_cell : (name : List ℕ) (ty : ItemType) (size : ℕ) (variables : Variables) (arguments : List Argument) → 0 < left
      → slice_get instrs address ≡ Some (PlainInstr.cell name ty size)
      → from_here variables arguments
      ≡ made_next (settle frames instrs (left - 1) (address + 1)) (making_of variables arguments) (with_unset name ty size variables)
  settle_cell name ty size variables arguments some there =
      settle_by frames instrs left address (Some (making_of variables arguments)) (PlainInstr.cell name ty size) some there

  -- cells that aren't set have a new name
  pub cell_new : (name : List ℕ) (ty : ItemType) (size : ℕ) (variables : Variables) (arguments : List Argument) → 0 < left
      → slice_get instrs address ≡ Some (PlainInstr.cell name ty size) → IsSome (from_here variables arguments)
      → (variable_named name variables ≡ None) × (with_unset name ty size variables ≡ Some (variables ++ ((name, new_variable ty size) ∷ [])))
  cell_new name ty size variables arguments some there whole =
      variable_added name (new_variable ty size) variables
      (made_next_there (settle frames instrs (left - 1) (address + 1)) (making_of variables arguments) (with_unset name ty size variables)
      (subst (λ (o : Option (Fetched Landing)). IsSome o) (settle_cell name ty size variables arguments some there) whole))

  -- and it goes on behind them
  pub cell_next : (name : List ℕ) (ty : ItemType) (size : ℕ) (variables : Variables) (arguments : List Argument) → 0 < left
      → slice_get instrs address ≡ Some (PlainInstr.cell name ty size) → IsSome (from_here variables arguments)
      → from_here variables arguments
      ≡ option_map behind_one (from_next (variables ++ ((name, new_variable ty size) ∷ [])) arguments)
  cell_next name ty size variables arguments some there whole =
      settle_cell name ty size variables arguments some there
      ∙ ap (made_next (settle frames instrs (left - 1) (address + 1)) (making_of variables arguments)) (cell_new name ty size variables arguments some there whole).1

  -- ---- parameters

  -- an argument is taken: its cell is there, its parameter has a new name, and it goes on behind that
  pub record TakesOne (name : List ℕ) (ty : ItemType) (variables : Variables) (argument : Argument) (others : List Argument) : Type 0 where
    pub there : IsSome (argument_cell ty argument)
    pub new : variable_named name variables ≡ None
    pub next :
        (now : Variables) → with_argument name ty argument variables ≡ Some now
        → from_here variables (argument ∷ others) ≡ option_map behind_one (from_next now others)

  settle_parameter : (name : List ℕ) (ty : ItemType) (variables : Variables) (argument : Argument) (others : List Argument) → 0 < left
      → slice_get instrs address ≡ Some (PlainInstr.parameter name ty)
      → from_here variables (argument ∷ others)
      ≡ made_next (settle frames instrs (left - 1) (address + 1)) (making_of variables others)
      (option_and_then (λ parameter. with_variable name parameter variables) (parameter_of frames ty argument))
  settle_parameter name ty variables argument others some there =
      settle_by frames instrs left address (Some (making_of variables (argument ∷ others))) (PlainInstr.parameter name ty) some there

  -- an argument is taken where a frame is made that comes to its first place
  pub takes_one : (name : List ℕ) (ty : ItemType) (variables : Variables) (argument : Argument) (others : List Argument) → 0 < left
      → slice_get instrs address ≡ Some (PlainInstr.parameter name ty) → IsSome (from_here variables (argument ∷ others))
      → TakesOne name ty variables argument others
  takes_one name ty variables argument others some there whole =
      by (parameter_of frames ty argument) refl
      (made_next_there (settle frames instrs (left - 1) (address + 1)) (making_of variables others)
      (option_and_then (λ parameter. with_variable name parameter variables) (parameter_of frames ty argument))
      (subst (λ (o : Option (Fetched Landing)). IsSome o) (settle_parameter name ty variables argument others some there) whole))
    where
      with_cell_of : (parameter : Variable) → parameter_of frames ty argument ≡ Some parameter → ParameterCell ty argument parameter
          → IsSome (with_variable name parameter variables) → TakesOne name ty variables argument others
      with_cell_of parameter is its made =
          let added = variable_added name parameter variables made in
          record {
            there = ap (λ (o : Option Cell). is_some o) its.is;
            new = added.0;
            next =
                λ now told.
                let stands : Some (variables ++ ((name, scalar_variable ty its.cell) ∷ [])) ≡ Some now =
                sym (ap (option_map (λ (cell : Cell). variables ++ ((name, scalar_variable ty cell) ∷ []))) its.is) ∙ told in
                let same : with_variable name parameter variables ≡ Some now =
                added.1
                ∙ ap (λ (variable : Variable). let o : Option Variables = Some (variables ++ ((name, variable) ∷ [])) in o) its.parameter_is
                ∙ stands in
                settle_parameter name ty variables argument others some there
                ∙ ap (made_next (settle frames instrs (left - 1) (address + 1)) (making_of variables others))
                (ap (option_and_then (λ (one : Variable). with_variable name one variables)) is ∙ same);
          }

      by : (found : Option Variable) → parameter_of frames ty argument ≡ found
          → IsSome (option_and_then (λ parameter. with_variable name parameter variables) found) → TakesOne name ty variables argument others
      by None is made = absurd (false≢true made)
      by (Some parameter) is made = with_cell_of parameter is (parameter_cell frames ty argument parameter is) made

  -- there is an argument for a parameter
  pub argument_there : (name : List ℕ) (ty : ItemType) (variables : Variables) (arguments : List Argument) → length arguments ≡ 0 → 0 < left
      → slice_get instrs address ≡ Some (PlainInstr.parameter name ty) → IsSome (from_here variables arguments) → ⊥
  argument_there name ty variables [] none some there whole =
      false≢true
      (sym (ap (λ (o : Option (Fetched Landing)). is_some o)
      (settle_by frames instrs left address (Some (making_of variables [])) (PlainInstr.parameter name ty) some there)) ∙ whole)
  argument_there name ty variables (argument ∷ arguments) none some there whole = absurd (omega (arith, none))

-- nothing else comes where a frame is made
pub no_other_making : (frames : List Frame) (next : ℕ) (making : Making) (instr : Instr) (go : ℕ → Option Making → Option (Fetched Landing))
    → ((place : Place) → instr ≡ Instr.At place → ⊥) → ((by : ℤ) → instr ≡ Instr.Jump by → ⊥)
    → ((name : List ℕ) (ty : ItemType) → instr ≡ Instr.Param name ty → ⊥)
    → ((name : List ℕ) (ty : ItemType) (size : ℕ) → instr ≡ Instr.Cell name ty size → ⊥)
    → option_and_then (passed frames next (Some making) go) (passing_of (plain_instr instr)) ≡ None
no_other_making frames next making (Instr.At at) go no_place no_jump no_parameter no_cell = absurd (no_place at refl)
no_other_making frames next making Instr.SuspendPlaceholder go no_place no_jump no_parameter no_cell = refl
no_other_making frames next making Instr.SuspendMarked go no_place no_jump no_parameter no_cell = refl
no_other_making frames next making (Instr.PushNumber z) go no_place no_jump no_parameter no_cell = refl
no_other_making frames next making (Instr.PushBit b) go no_place no_jump no_parameter no_cell = refl
no_other_making frames next making (Instr.PushText text) go no_place no_jump no_parameter no_cell = refl
no_other_making frames next making (Instr.Load name) go no_place no_jump no_parameter no_cell = refl
no_other_making frames next making (Instr.LoadAt name) go no_place no_jump no_parameter no_cell = refl
no_other_making frames next making (Instr.Store name) go no_place no_jump no_parameter no_cell = refl
no_other_making frames next making (Instr.StoreAt name) go no_place no_jump no_parameter no_cell = refl
no_other_making frames next making (Instr.Prefix op) go no_place no_jump no_parameter no_cell = refl
no_other_making frames next making (Instr.Infix op) go no_place no_jump no_parameter no_cell = refl
no_other_making frames next making (Instr.Builtin function n) go no_place no_jump no_parameter no_cell = refl
no_other_making frames next making (Instr.Jump d) go no_place no_jump no_parameter no_cell = absurd (no_jump d refl)
no_other_making frames next making (Instr.JumpFalse d) go no_place no_jump no_parameter no_cell = refl
no_other_making frames next making (Instr.ForEnter slot name d) go no_place no_jump no_parameter no_cell = refl
no_other_making frames next making (Instr.ForNext slot name d) go no_place no_jump no_parameter no_cell = refl
no_other_making frames next making (Instr.Get name) go no_place no_jump no_parameter no_cell = refl
no_other_making frames next making (Instr.GetAt name) go no_place no_jump no_parameter no_cell = refl
no_other_making frames next making (Instr.Put n) go no_place no_jump no_parameter no_cell = refl
no_other_making frames next making (Instr.PutSkip n) go no_place no_jump no_parameter no_cell = refl
no_other_making frames next making (Instr.Ref name) go no_place no_jump no_parameter no_cell = refl
no_other_making frames next making (Instr.RefAt name) go no_place no_jump no_parameter no_cell = refl
no_other_making frames next making Instr.Dummy go no_place no_jump no_parameter no_cell = refl
no_other_making frames next making (Instr.Call name n) go no_place no_jump no_parameter no_cell = refl
no_other_making frames next making (Instr.Param name ty) go no_place no_jump no_parameter no_cell = absurd (no_parameter name ty refl)
no_other_making frames next making (Instr.Cell name ty n) go no_place no_jump no_parameter no_cell = absurd (no_cell name ty n refl)
no_other_making frames next making Instr.Leave go no_place no_jump no_parameter no_cell = refl
