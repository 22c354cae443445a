-- Where a step ends, one instruction after the other.
use Rattle.std.specs.Prelude.{◌≡◌, refl, ℕ, zero, suc, ◌+◌, ◌-◌, ◌<◌, ◌≤◌, ◌^◌, length, ℤ, true, false, List, [], ◌∷◌, slice_get, Option, Some, None, IsSome, is_some, option_and_then, option_map}
use Rattle.std.specs.Option.{option_map_or}
use Rattle.std.proofs.lemmas.Bool.{lt-ltb}
use Rattle.std.proofs.Common.{ap, sym, ◌∙◌, arith, subst}
use Rattle.std.proofs.Math.Bool.{false≢true}
use Rattle.plcs_code.specs.declared.instr.Instr.{Instr}
use Rattle.plcs_code.specs.PlainInstr.{PlainInstr, plain_instr}
use Rattle.plcs_base.specs.declared.place.Place.{Place}
use Rattle.plcs_store.specs.declared.frame.Frame.{Frame}
use Rattle.template_tree.specs.Positions.Place.{PlainPlace}
use Rattle.plcs_machine.specs.Fetched.{Fetched, at_once, behind_one, fetches_of}
use Rattle.plcs_machine.specs.Lead.{jump_target}
use Rattle.plcs_machine.specs.Private.CountedSteps.{behind_many}
use Rattle.plcs_machine.specs.Private.PlainLed.{has_target, is_address}
use Rattle.plcs_machine.specs.Passing.{Landing, Making, Passing, landing, passed, passing_of, settle, variables_made, with_parameter, with_unset, with_variables}

-- what is there stands inside
pub get_inside : {X : Type 0} (xs : List X) (k : ℕ) → IsSome (slice_get xs k) → k < length xs
get_inside [] k there = absurd (false≢true there)
get_inside (x ∷ xs) zero there = omega arith
get_inside (x ∷ xs) (suc k) there =
    let inside = get_inside xs k there in
    omega (arith, inside)

-- the instruction that is found, from what was fetched and what that is
pub found_instr : (instrs : List PlainInstr) (address : ℕ) (fetched : PlainInstr) (instr told : Instr) → Some fetched ≡ slice_get instrs address
    → plain_instr instr ≡ fetched → instr ≡ told → slice_get instrs address ≡ Some (plain_instr told)
found_instr instrs address fetched instr told there is same =
    sym there ∙ ap (λ (one : PlainInstr). let o : Option PlainInstr = Some one in o) (sym is ∙ ap plain_instr same)

-- what comes of an instruction that is there
pub settle_by : (frames : List Frame) (instrs : List PlainInstr) (left address : ℕ) (making : Option Making) (instr : PlainInstr) → 0 < left
    → slice_get instrs address ≡ Some instr
    → settle frames instrs left address making
    ≡ option_and_then (passed frames (address + 1) making (settle frames instrs (left - 1))) (passing_of instr)
settle_by frames instrs zero address making instr some there = absurd (omega (arith, some))
settle_by frames instrs (suc left) address making instr some there =
    let less : suc left - 1 ≡ left = omega arith in
    ap (λ (found : Option PlainInstr). option_and_then (passed frames (address + 1) making (settle frames instrs left)) (option_and_then passing_of found))
    there
    ∙ ap (λ (n : ℕ). option_and_then (passed frames (address + 1) making (settle frames instrs n)) (passing_of instr)) (sym less)

-- at a place the step ends
pub settle_place : (frames : List Frame) (instrs : List PlainInstr) (left address : ℕ) (making : Option Making) (place : PlainPlace) → 0 < left
    → slice_get instrs address ≡ Some (PlainInstr.place place)
    → settle frames instrs left address making ≡ Some (at_once (landing place (variables_made making)))
settle_place frames instrs left address making place some there =
    settle_by frames instrs left address making (PlainInstr.place place) some there

-- what a jump to an address, if there is one, comes to
abbrev pub jumped_to : (go : ℕ → Option (Fetched Landing)) → Option ℕ → Option (Fetched Landing)
jumped_to go to = option_map behind_one (option_and_then go to)

-- it goes on where it jumps
pub settle_jump : (frames : List Frame) (instrs : List PlainInstr) (left address : ℕ) (making : Option Making) (d : ℤ) → 0 < left
    → slice_get instrs address ≡ Some (PlainInstr.jump d)
    → settle frames instrs left address making
    ≡ jumped_to (λ target. settle frames instrs (left - 1) target making) (jump_target (address + 1) d)
settle_jump frames instrs left address making d some there =
    settle_by frames instrs left address making (PlainInstr.jump d) some there

-- what is left of something comes to something
pub left_there : {A : Type 0} (k : ℕ) (left whole : Option (Fetched A)) → option_map (behind_many k) left ≡ whole → IsSome whole → IsSome left
left_there {A = A} k None whole is there = absurd (false≢true (ap (λ (o : Option (Fetched A)). is_some o) is ∙ there))
left_there k (Some fetched) whole is there = refl

-- something is there where the step ends
pub settle_inside : (frames : List Frame) (instrs : List PlainInstr) (left address : ℕ) (making : Option Making)
    → IsSome (settle frames instrs left address making) → IsSome (slice_get instrs address)
settle_inside frames instrs zero address making whole = absurd (false≢true whole)
settle_inside frames instrs (suc left) address making whole = by (slice_get instrs address) whole
  where
    by : (found : Option PlainInstr)
        → IsSome (option_and_then (passed frames (address + 1) making (settle frames instrs left)) (option_and_then passing_of found)) → IsSome found
    by None whole = whole
    by (Some instr) whole = refl

-- where nothing may be fetched any more, the step doesn't end
pub ends_before : (frames : List Frame) (instrs : List PlainInstr) (left address : ℕ) (making : Option Making) → left ≤ 0
    → IsSome (settle frames instrs left address making) → ⊥
ends_before frames instrs zero address making none whole = false≢true whole
ends_before frames instrs (suc left) address making none whole = absurd (omega (arith, none))

-- ---- how many are fetched

one_more_fetched : (found : Option (Fetched Landing)) → IsSome (option_map behind_one found) → 1 ≤ fetches_of (option_map behind_one found)
one_more_fetched None whole = absurd (false≢true whole)
one_more_fetched (Some fetched) whole = omega arith

-- an instruction is fetched at least where the step ends
pub settle_fetches : (frames : List Frame) (instrs : List PlainInstr) (left address : ℕ) (making : Option Making)
    → IsSome (settle frames instrs left address making) → 1 ≤ fetches_of (settle frames instrs left address making)
settle_fetches frames instrs zero address making whole = absurd (false≢true whole)
settle_fetches frames instrs (suc left) address making whole = by (option_and_then passing_of (slice_get instrs address)) whole
  where
    by : (passing : Option Passing)
        → IsSome (option_and_then (passed frames (address + 1) making (settle frames instrs left)) passing)
        → 1 ≤ fetches_of (option_and_then (passed frames (address + 1) making (settle frames instrs left)) passing)
    by None whole = absurd (false≢true whole)
    by (Some (Passing.lands place)) whole = omega arith
    by (Some (Passing.jumps d)) whole =
        one_more_fetched (option_and_then (λ target. settle frames instrs left target making) (jump_target (address + 1) d)) whole
    by (Some (Passing.takes name ty)) whole =
        one_more_fetched
        (option_and_then (λ more. settle frames instrs left (address + 1) (Some more))
        (option_and_then (λ now. with_parameter frames name ty now.variables now.arguments) making)) whole
    by (Some (Passing.makes name ty size)) whole =
        one_more_fetched
        (option_and_then (λ more. settle frames instrs left (address + 1) (Some more))
        (option_and_then (λ now. option_map (with_variables now) (with_unset name ty size now.variables)) making)) whole

-- the first of those that are left is one of all
pub fetched_within : {A : Type 0} (k : ℕ) (left whole : Option (Fetched A)) → option_map (behind_many k) left ≡ whole → IsSome whole
    → 1 ≤ fetches_of left → k + 1 ≤ fetches_of whole
fetched_within {A = A} k None whole is there some = absurd (false≢true (ap (λ (o : Option (Fetched A)). is_some o) is ∙ there))
fetched_within {A = A} k (Some fetched) whole is there some =
    let total : fetches_of whole ≡ fetched.fetches + k = ap (λ (o : Option (Fetched A)). fetches_of o) (sym is) in
    omega (arith, some, total)

-- ---- jumps

-- where something is jumped to that comes to something
pub record JumpsOn (go : ℕ → Option (Fetched Landing)) (to : Option ℕ) : Type 0 where
  pub target : ℕ
  pub is : to ≡ Some target
  pub whole : IsSome (go target)

-- a jump that comes to something has a target
jumped_some : (go : ℕ → Option (Fetched Landing)) (to : Option ℕ) → IsSome (jumped_to go to) → JumpsOn go to
jumped_some go None whole = absurd (false≢true whole)
jumped_some go (Some target) whole = record { target = target; is = refl; whole = by (go target) whole }
  where
    by : (found : Option (Fetched Landing)) → IsSome (option_map behind_one found) → IsSome found
    by None whole = whole
    by (Some fetched) whole = refl

-- a jump on the way to where the step ends goes to where it ends, too
pub settle_jumps : (frames : List Frame) (instrs : List PlainInstr) (left address : ℕ) (making : Option Making) (d : ℤ) → 0 < left
    → slice_get instrs address ≡ Some (PlainInstr.jump d) → IsSome (settle frames instrs left address making)
    → JumpsOn (λ target. settle frames instrs (left - 1) target making) (jump_target (address + 1) d)
settle_jumps frames instrs left address making d some there whole =
    jumped_some (λ target. settle frames instrs (left - 1) target making) (jump_target (address + 1) d)
    (subst (λ (o : Option (Fetched Landing)). IsSome o) (settle_jump frames instrs left address making d some there) whole)

-- and that is where an address is
pub jump_has_target : (frames : List Frame) (instrs : List PlainInstr) (left address : ℕ) (making : Option Making) (d : ℤ) → 0 < left
    → slice_get instrs address ≡ Some (PlainInstr.jump d) → IsSome (settle frames instrs left address making) → length instrs ≤ 4294967295
    → has_target (address + 1) d ≡ true
jump_has_target frames instrs left address making d some there whole short =
    let jumps = settle_jumps frames instrs left address making d some there whole in
    let inside : jumps.target < length instrs = get_inside instrs jumps.target (settle_inside frames instrs (left - 1) jumps.target making jumps.whole) in
    ap (λ (to : Option ℕ). option_map_or is_address to false) jumps.is ∙ lt-ltb jumps.target (2 ^ 32) (omega (arith, short, inside))

-- where the target is known
pub settle_jump_to : (frames : List Frame) (instrs : List PlainInstr) (left address : ℕ) (making : Option Making) (d : ℤ) (target : ℕ) → 0 < left
    → slice_get instrs address ≡ Some (PlainInstr.jump d) → jump_target (address + 1) d ≡ Some target
    → settle frames instrs left address making ≡ option_map behind_one (settle frames instrs (left - 1) target making)
settle_jump_to frames instrs left address making d target some there to =
    settle_jump frames instrs left address making d some there
    ∙ ap (jumped_to (λ (one : ℕ). settle frames instrs (left - 1) one making)) to

-- where no frame is made nothing else comes
pub no_other_passing : (frames : List Frame) (next : ℕ) (instr : Instr) (go : ℕ → Option Making → Option (Fetched Landing))
    → ((place : Place) → instr ≡ Instr.At place → ⊥) → ((by : ℤ) → instr ≡ Instr.Jump by → ⊥)
    → option_and_then (passed frames next None go) (passing_of (plain_instr instr)) ≡ None
no_other_passing frames next (Instr.At at) go no_place no_jump = absurd (no_place at refl)
no_other_passing frames next Instr.SuspendPlaceholder go no_place no_jump = refl
no_other_passing frames next Instr.SuspendMarked go no_place no_jump = refl
no_other_passing frames next (Instr.PushNumber z) go no_place no_jump = refl
no_other_passing frames next (Instr.PushBit b) go no_place no_jump = refl
no_other_passing frames next (Instr.PushText text) go no_place no_jump = refl
no_other_passing frames next (Instr.Load name) go no_place no_jump = refl
no_other_passing frames next (Instr.LoadAt name) go no_place no_jump = refl
no_other_passing frames next (Instr.Store name) go no_place no_jump = refl
no_other_passing frames next (Instr.StoreAt name) go no_place no_jump = refl
no_other_passing frames next (Instr.Prefix op) go no_place no_jump = refl
no_other_passing frames next (Instr.Infix op) go no_place no_jump = refl
no_other_passing frames next (Instr.Builtin function n) go no_place no_jump = refl
no_other_passing frames next (Instr.Jump d) go no_place no_jump = absurd (no_jump d refl)
no_other_passing frames next (Instr.JumpFalse d) go no_place no_jump = refl
no_other_passing frames next (Instr.ForEnter slot name d) go no_place no_jump = refl
no_other_passing frames next (Instr.ForNext slot name d) go no_place no_jump = refl
no_other_passing frames next (Instr.Get name) go no_place no_jump = refl
no_other_passing frames next (Instr.GetAt name) go no_place no_jump = refl
no_other_passing frames next (Instr.Put n) go no_place no_jump = refl
no_other_passing frames next (Instr.PutSkip n) go no_place no_jump = refl
no_other_passing frames next (Instr.Ref name) go no_place no_jump = refl
no_other_passing frames next (Instr.RefAt name) go no_place no_jump = refl
no_other_passing frames next Instr.Dummy go no_place no_jump = refl
no_other_passing frames next (Instr.Call name n) go no_place no_jump = refl
no_other_passing frames next (Instr.Param name ty) go no_place no_jump = refl
no_other_passing frames next (Instr.Cell name ty n) go no_place no_jump = refl
no_other_passing frames next Instr.Leave go no_place no_jump = refl
