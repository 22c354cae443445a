-- A kept node of a list for which something is prepared: the steps can be made then, and it becomes what is kept of the
-- node after the edit.
use Rattle.std.specs.Prelude.{◌≡◌, ℕ, ◌==◌, if◌then◌else◌, false, true, ◌∷◌, [], Bool, IfNone, IfOk, IfSome, None, OnOk, Option, Some, Result, Ok, Err, slice_get, unwrap_or}
use Rattle.std.specs.Result.{result_and}
use Rattle.std.proofs.Common.{ap, arith, refl, subst, sym, ◌∙◌, true≢false}
use Rattle.std.proofs.lemmas.Option.{slice_get_within}
use Rattle.code_patch.specs.declared.code_edit.Act.{Act}
use Rattle.code_patch.specs.declared.list_edit.ListEdit.{ListEdit}
use Rattle.code_patch.specs.declared.list_edit.NodeEdit.{NodeEdit}
use Rattle.template_tree.specs.Programs.PlainTree.{PlainNode}
use Rattle.code_patch.specs.CodeEdit.{edited_code, mended_node, room_after}
use Rattle.code_patch.specs.CodeForest.{CodeForest, PlainCodeNode, code_nodes}
use Rattle.code_patch.specs.Private.ListSteps.{IsExchanged, IsMended}
use Rattle.code_patch.specs.Private.NearCode.{PlainPlan}
use Rattle.code_patch.specs.Private.PlainCodeNode.{code_forest, kept_length, kept_node, roomless_code_node}
use Rattle.code_patch.specs.Private.PreparedNodes.{ChildEdited, IsListEdit, IsNodeEdit, made_by}
use Rattle.code_patch.proofs.ExchangedNodes.{within_sum}
use Rattle.code_patch.proofs.PreparedLists.{exchanged_list, exchanged_node, node_stays}

module _ {W : Type 0} (plan : PlainPlan) (old new : ListEdit W) (spare : ℕ) (kept : CodeForest) (k : ℕ) (child : PlainCodeNode) (node : PlainNode)
    (was : ℕ) (long : was ≡ kept_length child) (list : IsListEdit old spare kept)
    (there : slice_get (code_nodes (made_by old kept)) k ≡ Some child) where
  -- another one comes in its place
  pub put_child : (fresh : PlainCodeNode) (after : ℕ) → after ≡ kept_length fresh → roomless_code_node fresh ≡ kept_node plan.marks plan.items node
      → IsExchanged old new k (Act.Put fresh) was after
      → IsListEdit new spare kept × ChildEdited plan k (made_by old kept) (made_by new kept) node
  put_child fresh after whole its is =
      let within = within_sum (made_by old kept) k child there in (
        exchanged_list old new spare kept k (Act.Put fresh) child fresh (λ was spare within. code_forest (fresh ∷ [])) (λ nodes. refl) refl is.step
            there list (slice_get_within (code_nodes (made_by old kept)) k child there)
            (omega (arith, is.total, within, list.total, whole, long)) (is.first ∙ ap (λ (n : ℕ). if k == 0 then n else old.first) whole) is.short,
        exchanged_node old new spare kept k (Act.Put fresh) child fresh (λ was spare within. code_forest (fresh ∷ [])) (λ nodes. refl) refl is.step
            there plan node its,
      )

  -- it is mended
  mend_child : (edit : NodeEdit W) → IsNodeEdit edit plan child node → IsExchanged old new k (Act.Mend edit.mending) was edit.length
      → IsListEdit new spare kept × ChildEdited plan k (made_by old kept) (made_by new kept) node
  mend_child edit its is =
      let mending = edit.mending in
      let change = mended_node mending.own (edited_code mending.inner) (room_after mending.inner) in
      let other : PlainCodeNode =
      record {
        own = unwrap_or mending.own child.own;
        spare = room_after mending.inner child.spare;
        inner = edited_code mending.inner child.inner;
      } in
      let within = within_sum (made_by old kept) k child there in (
        exchanged_list old new spare kept k (Act.Mend mending) child other change (λ nodes. refl) refl is.step there list
            (child, there, its.fit, its.jumps) (omega (arith, is.total, within, list.total, its.length, long))
            (is.first ∙ ap (λ (n : ℕ). if k == 0 then n else old.first) its.length) is.short,
        exchanged_node old new spare kept k (Act.Mend mending) child other change (λ nodes. refl) refl is.step there plan node
            (λ i. record { own = its.own i; spare = 0; inner = its.inner i }),
      )

  -- or stays, if nothing becomes of it
  pub mended_child : (edit : Option (NodeEdit W)) → IfNone edit (roomless_code_node child ≡ kept_node plan.marks plan.items node)
      → IfSome edit (λ e. IsNodeEdit e plan child node) → IsMended old new k edit was
      → IsListEdit new spare kept × ChildEdited plan k (made_by old kept) (made_by new kept) node
  mended_child None its none same =
      let still = node_stays plan k (made_by old kept) child node there its in
      let P : ListEdit W → Type 0 =
      λ (l : ListEdit W). IsListEdit l spare kept × ChildEdited plan k (made_by old kept) (made_by l kept) node in
      subst P (sym same) (list, still)
  mended_child (Some edit) none its is = mend_child edit its is

-- where nothing becomes of it there is no other step
pub mended_still : {W : Type 0} (old new : ListEdit W) (k was : ℕ) (moves : Bool) (edit : Option (NodeEdit W)) → IfSome edit (λ e. moves ≡ true)
    → IsMended old new k edit was → moves ≡ false → new.steps.items ≡ old.steps.items
mended_still old new k was moves None is same none = ap (λ l. l.steps.items) same
mended_still old new k was moves (Some edit) is step none = absurd (true≢false (sym is ∙ none))

-- what follows from what is said of Ok is said of it too
pub then_ok : {T E P Q : Type 0} (r : Result T E) → (P → Q) → OnOk r P → OnOk r Q
then_ok (Ok t) follows holds = follows holds
then_ok (Err e) follows holds = holds

-- and of what comes with Ok
pub ok_with : {A B E P : Type 0} (r : Result A E) (b : B) (whole : Result B E) (S : B → Type 0) → whole ≡ result_and r (Ok b) → (P → S b)
    → OnOk r P → IfOk whole S
ok_with {A} {B} {E} {P} r b whole S is follows holds = subst (λ (w : Result B E). IfOk w S) (sym is) (by r holds)
  where
    by : (o : Result A E) → OnOk o P → IfOk (result_and o (Ok b)) S
    by (Ok a) of_it = follows of_it
    by (Err e) of_it = of_it
