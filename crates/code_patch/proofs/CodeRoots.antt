-- The root of a code tree has no own code, so what it has inside is the whole code.
use Rattle.std.proofs.Common.{◌≡◌, ℕ, List, [], ◌∷◌, ◌++◌, sum, refl, ap, ◌∙◌, append-nil, arith}
use Rattle.std.specs.Option.{option_to_list}
use Rattle.plcs_code.specs.Gen.{codes_around, codes_joined}
use Rattle.plcs_code.specs.OwnCode.{PlainOwnCode, jumps_beside, no_own_code}
use Rattle.plcs_code.specs.PlainInstr.{PlainInstr}
use Rattle.code_patch.specs.CodeForest.{count_around, kept_codes, kept_lengths, PlainCodeNode}
use Rattle.code_patch.specs.Private.LocatedNode.{located_among, located_inside}
use Rattle.code_patch.specs.Private.PlainCodeNode.{instrs_inside, kept_length}

-- codes with nothing behind the first one are joined
around_nothing : (codes : List (List PlainInstr)) → codes_around [] codes ++ [] ≡ codes_joined codes
around_nothing [] = refl
around_nothing (code ∷ codes) = append-nil (code ++ codes_joined codes)

module _ (root : PlainCodeNode) (none : root.own ≡ no_own_code) where
  -- with the own code that it has
  abbrev bare : (own : PlainOwnCode) → PlainCodeNode
  bare own = record { own = own; spare = root.spare; inner = root.inner }

  -- what stands inside it is the whole code
  pub root_instrs : instrs_inside root ≡ codes_joined (kept_codes root.inner)
  root_instrs = ap (λ (own : PlainOwnCode). instrs_inside (bare own)) none ∙ around_nothing (kept_codes root.inner)

  -- a slot is located inside it as among all
  pub root_located : (slot : ℕ) → located_inside slot 0 root ≡ located_among slot 0 0 root.inner
  root_located slot = ap (λ (own : PlainOwnCode). located_inside slot 0 (bare own)) none

  -- it is as long as all
  pub root_length : kept_length root ≡ sum (kept_lengths root.inner)
  root_length = ap (λ (own : PlainOwnCode). kept_length (bare own)) none ∙ omega arith

-- ---- jumps

module _ (own : PlainOwnCode) (none : own ≡ no_own_code) (lengths : List ℕ) where
  -- there are none, whatever stands inside
  pub none_ahead : option_to_list (jumps_beside own lengths).ahead ≡ []
  none_ahead = ap (λ (o : PlainOwnCode). option_to_list (jumps_beside o lengths).ahead) none

  pub none_between : option_to_list (jumps_beside own lengths).between ≡ []
  none_between = ap (λ (o : PlainOwnCode). option_to_list (jumps_beside o lengths).between) none

  pub none_back : option_to_list (jumps_beside own lengths).back ≡ []
  none_back = ap (λ (o : PlainOwnCode). option_to_list (jumps_beside o lengths).back) none

  -- and all that counts is what stands inside
  pub none_count : count_around own lengths ≡ sum lengths
  none_count = ap (λ (o : PlainOwnCode). count_around o lengths) none ∙ omega arith
