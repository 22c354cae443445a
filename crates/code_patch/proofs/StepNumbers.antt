-- The steps of a block, one instruction after the other.
use Rattle.std.proofs.Common.{◌≡◌, ℕ, suc, ◌+◌, ◌-◌, Bool, true, false, List, drop, Option, Some, None, refl, ap, sym, ◌∙◌, arith}
use Rattle.std.specs.Prelude.{if◌then◌else◌, option_map, slice_get}
use Rattle.std.specs.Option.{option_or}
use Rattle.plcs_base.specs.ListLeft.{left_from, none_left}
use Rattle.template_tree.specs.Positions.Place.{PlainPlace, place_at}
use Rattle.plcs_code.specs.PlainInstr.{PlainInstr}
use Rattle.code_patch.specs.Private.LocatedNode.{PlainLocated, is_step, own_address, passed_address, step_number}
use Rattle.code_patch.specs.Private.PlainCodeNode.{kept_length, length_behind}

module _ (place : PlainPlace) (code : List PlainInstr) where
  -- the step is where it is found in what is left from a number on
  abbrev pub Left : ℕ → Type 0
  Left k = option_map (λ n. k + n) (step_number place (drop k code)) ≡ step_number place code

  pub left_first : Left 0
  left_first = unmoved (step_number place code)
    where
      unmoved : (o : Option ℕ) → option_map (λ n. 0 + n) o ≡ o
      unmoved None = refl
      unmoved (Some n) = ap (λ (m : ℕ). Some m) (omega arith)

  module _ (k : ℕ) (instr : PlainInstr) (there : slice_get code k ≡ Some instr) (left : Left k) where
    step : option_map (λ n. k + n) (if is_step place instr then Some 0 else option_map suc (step_number place (drop (k + 1) code)))
        ≡ step_number place code
    step = ap (λ is. option_map (λ n. k + n) (step_number place is)) (sym (left_from code k instr there)) ∙ left

    pub left_here : is_step place instr ≡ true → Some k ≡ step_number place code
    left_here is =
        ap (λ (m : ℕ). Some m) (omega arith)
        ∙ sym (ap (λ (b : Bool). option_map (λ n. k + n) (if b then Some 0 else option_map suc (step_number place (drop (k + 1) code)))) is)
        ∙ step

    pub left_next : is_step place instr ≡ false → Left (k + 1)
    left_next is =
        moved (step_number place (drop (k + 1) code))
        ∙ sym (ap (λ (b : Bool). option_map (λ n. k + n) (if b then Some 0 else option_map suc (step_number place (drop (k + 1) code)))) is)
        ∙ step
      where
        moved : (o : Option ℕ) → option_map (λ n. k + 1 + n) o ≡ option_map (λ n. k + n) (option_map suc o)
        moved None = refl
        moved (Some n) = ap (λ (m : ℕ). Some m) (omega arith)

  pub left_none : (k : ℕ) → slice_get code k ≡ None → Left k → None ≡ step_number place code
  left_none k past left = sym (ap (λ is. option_map (λ n. k + n) (step_number place is)) (none_left code k past)) ∙ left

-- ---- the address of a point of a located node

module _ (found : PlainLocated) (point : ℕ) where
  -- the steps in its two pieces
  abbrev pub before : Option ℕ
  before = step_number (place_at found.node.own.slot point) found.node.own.pieces.before

  abbrev pub behind : Option ℕ
  behind = step_number (place_at found.node.own.slot point) found.node.own.pieces.behind

  -- the address of the point, by these three
  abbrev pub address_by : (passed first last : Option ℕ) → Option ℕ
  address_by passed first last =
      option_or passed
      (option_or (option_map (λ k. found.start + k) first)
      (option_map (λ k. found.start + kept_length found.node - length_behind found.node + k) last))

  pub address_passed : (a : ℕ) → Some a ≡ passed_address found point → Some a ≡ own_address found point
  address_passed a is = ap (λ (o : Option ℕ). address_by o before behind) is

  pub address_before : (k : ℕ) → None ≡ passed_address found point → Some k ≡ before → Some (found.start + k) ≡ own_address found point
  address_before k none is = (λ i. address_by (none i) (is i) behind)

  pub address_behind : (k a : ℕ) → None ≡ passed_address found point → None ≡ before → Some k ≡ behind
      → a ≡ found.start + kept_length found.node - length_behind found.node + k → Some a ≡ own_address found point
  address_behind k a none other is at = ap (λ (n : ℕ). Some n) at ∙ (λ i. address_by (none i) (other i) (is i))

  pub address_none : None ≡ passed_address found point → None ≡ before → None ≡ behind → None ≡ own_address found point
  address_none none other last = (λ i. address_by (none i) (other i) (last i))
