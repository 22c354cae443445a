use Rattle.std.proofs.Common.{ℕ, List, [], ◌∷◌, ◌≡◌, Bool, true, false, length, refl, ap, sym, suc, ◌∙◌, ne_eqb, arith}
use Rattle.std.specs.Prelude.{◌==◌}
use Rattle.code_patch.specs.Private.NearCode.{leads_to_item}
use Rattle.code_patch.proofs.plan.leads_to_item.Goals as goal

-- a path of as many numbers
item_by : (k : ℕ) (path rest : List ℕ) (short : Bool) → path ≡ k ∷ rest → short ≡ (length rest == 0) → short ≡ leads_to_item path
item_by k path [] short way is = is ∙ sym (ap leads_to_item way)
item_by k path (j ∷ rest) short way is = is ∙ ne_eqb (suc (length rest)) 0 (λ e. omega (arith, e)) ∙ sym (ap leads_to_item way)

none_by : (path : List ℕ) → length path ≡ 0 → true ≡ leads_to_item path
none_by [] none = refl
none_by (k ∷ path) none = absurd (omega (arith, none))

pub returns-in_default : goal.returns-in_default
returns-in_default c = none_by c.args.way.now c.in_default.ensures.cases

pub returns-then-is_empty : goal.returns-then-is_empty
returns-then-is_empty c = item_by c.in-Some.k.now c.args.way.now c.in-Some.rest.now true c.in-Some.ensures.cases.0 c.if-is_empty.ensures

pub returns : goal.returns
returns c = item_by c.in-Some.k.now c.args.way.now c.in-Some.rest.now false c.in-Some.ensures.cases.0 c.if-is_empty.ensures
