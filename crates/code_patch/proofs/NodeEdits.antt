-- What is new of a kept node that is mended: its own code, its jumps beside what is inside it then, and how long it
-- is.
use Rattle.std.specs.Prelude.{◌≡◌, ℕ, ◌+◌, ◌-◌, ◌≤◌, Bool, false, List, length, sum, take, Option, Some, None, Result, Ok, Err, IfNone, IfOk, IfSome, is_some, unwrap_or}
use Rattle.std.specs.Option.{option_to_list}
use Rattle.std.proofs.Common.{[], ◌∷◌, ap, refl, sym, ◌∙◌, arith, subst, true≢false}
use Rattle.template_tree.specs.Programs.PlainTree.{Label, PlainNode}
use Rattle.plcs_code.specs.BlockLimit.{most_instrs}
use Rattle.plcs_code.specs.OwnCode.{PlainOwnCode, jumps_around, jumps_beside, own_code_by}
use Rattle.plcs_code.specs.Pieces.{CodeJumps}
use Rattle.code_patch.specs.declared.code_edit.Step.{Step}
use Rattle.code_patch.specs.declared.list_edit.ListEdit.{ListEdit}
use Rattle.code_patch.specs.declared.list_edit.NodeEdit.{NodeEdit}
use Rattle.code_patch.specs.CodeEdit.{CodeEdit, PreparedJumps, edited_code, roomless_code}
use Rattle.code_patch.specs.CodeForest.{CodeForest, count_around, kept_code, kept_lengths, PlainCodeNode}
use Rattle.code_patch.specs.PreparedEdit.{AreJumps, StepsFit}
use Rattle.code_patch.specs.Private.MadeJumps.{AreMadeJumps}
use Rattle.code_patch.specs.Private.NearCode.{OwnNear, PlainPlan, is_remade}
use Rattle.code_patch.specs.Private.NodeEditBy.{IsEditBy}
use Rattle.code_patch.specs.Private.PlainCodeNode.{kept_node, roomless_code_node}
use Rattle.code_patch.specs.Private.PreparedNodes.{IsListEdit, IsNodeEdit, made_by}
use Rattle.code_patch.specs.Private.StepsView.{edit_of_steps, plain_jumps}
use Rattle.code_patch.proofs.MadeCode.{around_is, one_at_most, own_short}

-- the own code that a node has then is that after the edit: it is made anew, or is near that
pub own_then : (plan : PlainPlan) (ends : Bool) (own : Option PlainOwnCode) (was : PlainOwnCode) (label : Label)
    → IfNone own (is_remade plan ends was label ≡ false) → IfSome own (λ new. new ≡ own_code_by plan.marks plan.items label)
    → OwnNear plan ends was label → unwrap_or own was ≡ own_code_by plan.marks plan.items label
own_then plan ends None was label none some near = near none
own_then plan ends (Some new) was label none some near = some

module _ (own : PlainOwnCode) (inner : CodeForest) (first total : ℕ) (one : first ≡ sum (take 1 (kept_lengths inner)))
    (all : total ≡ sum (kept_lengths inner)) (jumps : PreparedJumps)
    (are : AreMadeJumps (jumps_around own first (total - first)) jumps)
    (short : length own.pieces.before + length own.pieces.behind + total + 5 ≤ most_instrs) where
  beside : jumps_around own first (total - first) ≡ jumps_beside own (kept_lengths inner)
  beside = around_is own (kept_lengths inner) first total one all

  -- its jumps are those beside what is inside it then
  pub jumps_beside_codes : AreJumps own inner jumps
  jumps_beside_codes =
      record {
        ahead = are.ahead ∙ ap (λ (j : CodeJumps). option_to_list j.ahead) beside;
        between = are.between ∙ ap (λ (j : CodeJumps). option_to_list j.between) beside;
        back = are.back ∙ ap (λ (j : CodeJumps). option_to_list j.back) beside;
        short = own_short own (kept_lengths inner) (omega (arith, short, all));
      }

  -- and so long is its code
  pub length_then : length own.pieces.before + length own.pieces.behind + total
      + (length jumps.ahead + length jumps.between + length jumps.back) ≡ count_around own (kept_lengths inner)
  length_then =
      let its = jumps_beside_codes in
      omega (arith, all, ap length its.ahead, ap length its.between, ap length its.back)

-- there are no more than three of them
pub three_at_most : (around : CodeJumps) (jumps : PreparedJumps) → AreMadeJumps around jumps
    → length jumps.ahead + length jumps.between + length jumps.back ≤ 3
three_at_most around jumps are =
    omega
    (arith, ap length are.ahead, ap length are.between, ap length are.back, one_at_most around.ahead, one_at_most around.between, one_at_most around.back)

-- what is prepared by its own code and what becomes of the list inside it makes of it what is kept after the edit
pub node_edited : {W : Type 0} (plan : PlainPlan) (edit : NodeEdit W) (new : Option PlainOwnCode) (list : ListEdit W) (kept : PlainCodeNode)
    (node : PlainNode) → IsListEdit list kept.spare kept.inner → unwrap_or new kept.own ≡ own_code_by plan.marks plan.items node.label
    → roomless_code (made_by list kept.inner) ≡ kept_code plan.marks plan.items node.inner → IsEditBy edit new list kept
    → IsNodeEdit edit plan kept node
node_edited plan edit new list kept node fits its made is =
    let own = sym is.own in
    let inner = sym is.inner in
    record {
      own = ap (λ (o : Option PlainOwnCode). unwrap_or o kept.own) is.own ∙ its;
      inner = ap (λ (e : CodeEdit). roomless_code (edited_code e kept.inner)) is.inner ∙ made;
      fit = subst (λ (e : CodeEdit). StepsFit e kept.spare kept.inner) inner fits.fit;
      jumps =
          subst
          (λ (o : Option PlainOwnCode). AreJumps (unwrap_or o kept.own) (edited_code edit.mending.inner kept.inner) (plain_jumps edit.mending.jumps)) own
          (subst (λ (e : CodeEdit). AreJumps (unwrap_or new kept.own) (edited_code e kept.inner) (plain_jumps edit.mending.jumps)) inner is.jumps);
      length =
          is.length ∙ (λ i. count_around (unwrap_or (own i) kept.own) (kept_lengths (edited_code (inner i) kept.inner)));
    }

-- what holds of what is answered where nothing fails holds of this answer
pub if_ok : {T E : Type 0} (P : T → Type 0) (r : Result T E) (t : T) → r ≡ Ok t → IfOk r P → P t
if_ok {T} {E} P r t is holds = subst (λ (o : Result T E). IfOk o P) is holds

-- what holds of each node's edit that is prepared holds where one is
pub if_edited : {E O : Type 0} {P Q : O → Type 0} (r : Result (Option O) E) → ((o : O) → P o → Q o)
    → IfOk r (λ edit. IfSome edit P) → IfOk r (λ edit. IfSome edit Q)
if_edited (Ok (Some o)) follows holds = follows o holds
if_edited (Ok None) follows holds = holds
if_edited (Err e) follows holds = holds

-- and so does what holds where none is
pub if_none : {E O P Q : Type 0} (r : Result (Option O) E) → (P → Q) → IfOk r (λ edit. IfNone edit P) → IfOk r (λ edit. IfNone edit Q)
if_none (Ok (Some o)) follows holds = holds
if_none (Ok None) follows holds = follows holds
if_none (Err e) follows holds = holds

-- where neither its own code is new nor something becomes of what is inside it, it is what is kept after the edit
pub unchanged_node : {W : Type 0} (plan : PlainPlan) (own : Option PlainOwnCode) (list : ListEdit W) (kept : PlainCodeNode) (node : PlainNode)
    → is_some own ≡ false → length list.steps.items ≡ 0 → unwrap_or own kept.own ≡ own_code_by plan.marks plan.items node.label
    → roomless_code (made_by list kept.inner) ≡ kept_code plan.marks plan.items node.inner
    → roomless_code_node kept ≡ kept_node plan.marks plan.items node
unchanged_node {W} plan own list kept node none fresh its made =
    (λ i. record { own = was own none its i; spare = 0; inner = inside list.steps.items refl fresh i })
  where
    was : (o : Option PlainOwnCode) → is_some o ≡ false → unwrap_or o kept.own ≡ own_code_by plan.marks plan.items node.label
        → kept.own ≡ own_code_by plan.marks plan.items node.label
    was None e is = is
    was (Some other) e is = absurd (true≢false e)

    inside : (steps : List (Step W)) → list.steps.items ≡ steps → length steps ≡ 0
        → roomless_code kept.inner ≡ kept_code plan.marks plan.items node.inner
    inside [] same e = sym (ap (λ (ss : List (Step W)). roomless_code (edited_code (edit_of_steps ss) kept.inner)) same) ∙ made
    inside (step ∷ steps) same e = absurd (omega (arith, e))
