-- What is left of the steps makes of the nodes what all of them made of the first nodes; each step is made in the list
-- and in the lengths alike.
use Rattle.std.specs.Prelude.{◌≡◌, ◌∷◌, [], ℕ, Some, min, slice_get, sum, unwrap_or}
use Rattle.std.proofs.Common.{arith, ap, sym, subst, ◌∙◌, refl}
use Rattle.std.proofs.lemmas.Option.{same_Some, slice_get_within}
use Rattle.plcs_code.specs.OwnCode.{PlainOwnCode}
use Rattle.code_patch.specs.declared.code_edit.Act.{Act}
use Rattle.code_patch.specs.CodeEdit.{CodeEdit, edited_code, mended_node, room_after}
use Rattle.code_patch.specs.CodeForest.{CodeForest, kept_lengths, PlainCodeNode}
use Rattle.code_patch.specs.PreparedEdit.{AreJumps, StepsFit}
use Rattle.code_patch.specs.Private.CodeEditCode.{code_edit_weight}
use Rattle.code_patch.specs.Private.PlainCodeNode.{code_forest, kept_lengths_forest}
use Rattle.code_patch.specs.Private.PlainSteps.{ActFits, after_act, room_acted, room_stepped, stepped}
use Rattle.code_patch.specs.Private.StepsView.{plain_jumps, step_then}
use Rattle.code_patch.proofs.ActedNodes.{forest_many, forest_put, mended_ahead, mended_back, mended_between, mended_short, numbers_many, taken_many}
use Rattle.code_patch.proofs.GivenWay.{forest_get, forest_set}
use Rattle.code_patch.proofs.ActedSteps.{acted_as, can_act_as, set_fits, set_made}
use Rattle.code_patch.proofs.MadeSteps.{act_next, act_weight, edited_next, fits_next, fits_short, room_next, weight_next}
use Rattle.code_patch.proofs.+make_steps.Goals as goal

-- ---- the steps in turn

pub commitment::make_steps-loop-step-init : goal.commitment::make_steps-loop-step-init
commitment::make_steps-loop-step-init g t c = record {
  edited = refl;
  room = refl;
  fit = c.requires.fit;
  lengths = c.requires.lengths;
  weight = omega arith;
}

pub commitment::make_steps-make_step-requires : goal.commitment::make_steps-make_step-requires
commitment::make_steps-make_step-requires g t c κs within =
    let step = c.in-Some.step in
    let rest = c.next.new.self in
    let spare = min c.loop-step.inner.spare c.loop-step.lengths.spare in
    let nodes = code_forest c.loop-step.inner.items in
    let is : c.loop-step.left ≡ step_then step rest = c.in-Some.ensures in
    let fit = fits_next step rest spare nodes (subst (λ (e : CodeEdit). StepsFit e spare nodes) is c.loop-step.invariant.fit) in
    let less = act_next step rest in
    (omega (arith, less, ap code_edit_weight is, c.loop-step.invariant.weight), (within, record { lengths = c.loop-step.invariant.lengths; fit = fit.1; short = fits_short rest (room_stepped step spare) (stepped step nodes) fit.2 }))

pub commitment::make_steps-loop-step-smaller : goal.commitment::make_steps-loop-step-smaller
commitment::make_steps-loop-step-smaller g t c =
    let is : c.loop-step.left ≡ step_then c.in-Some.step c.next.new.self = c.in-Some.ensures in
    omega (arith, weight_next c.in-Some.step c.next.new.self, ap code_edit_weight is)

pub commitment::make_steps-loop-step-preserved : goal.commitment::make_steps-loop-step-preserved
commitment::make_steps-loop-step-preserved g t c =
    let step = c.in-Some.step in
    let rest = c.next.new.self in
    let spare = min c.loop-step.inner.spare c.loop-step.lengths.spare in
    let nodes = code_forest c.loop-step.inner.items in
    let is : c.loop-step.left ≡ step_then step rest = c.in-Some.ensures in
    let fit = fits_next step rest spare nodes (subst (λ (e : CodeEdit). StepsFit e spare nodes) is c.loop-step.invariant.fit) in
    let made = c.make_step.ensures in
    record {
      edited =
          ap (edited_code rest) made.items ∙ sym (edited_next step rest nodes)
          ∙ sym (ap (λ (e : CodeEdit). edited_code e nodes) is) ∙ c.loop-step.invariant.edited;
      room =
          ap (room_after rest) made.spare ∙ sym (room_next step rest spare)
          ∙ sym (ap (λ (e : CodeEdit). room_after e spare) is) ∙ c.loop-step.invariant.room;
      fit =
          subst (λ (n : ℕ). StepsFit rest n (code_forest c.make_step.new.inner.items)) (sym made.spare)
          (subst (λ (f : CodeForest). StepsFit rest (room_stepped step spare) f) (sym made.items) fit.2);
      lengths = made.lengths;
      weight = omega (arith, weight_next step rest, ap code_edit_weight is, c.loop-step.invariant.weight);
    }

pub commitment::make_steps-returns-clause-short : goal.commitment::make_steps-returns-clause-short
commitment::make_steps-returns-clause-short g t c =
    let items = c.loop-step.inner.items in
    let are : sum c.loop-step.lengths.numbers ≡ sum (kept_lengths (code_forest items)) =
    ap sum (c.loop-step.invariant.lengths ∙ sym (kept_lengths_forest items)) in
    omega
    (arith, are, fits_short c.loop-step.left (min c.loop-step.inner.spare c.loop-step.lengths.spare) (code_forest items) c.loop-step.invariant.fit)

-- ---- a step by what it does

pub commitment::make_step-mend_node-requires : goal.commitment::make_step-mend_node-requires
commitment::make_step-mend_node-requires g t c κs within =
    let act = c.args.step.act in
    let weight : act_weight act ≡ code_edit_weight c.in-Mend.mending.inner = ap act_weight c.in-Mend.is in
    (omega (arith, weight), (within, can_act_as act (Act.Mend c.in-Mend.mending) c.in-Mend.is c.args.step.number c.args.inner.now c.args.lengths.now c.requires))

pub commitment::make_step-returns-in-Mend : goal.commitment::make_step-returns-in-Mend
commitment::make_step-returns-in-Mend g t c =
    acted_as c.args.step.act (Act.Mend c.in-Mend.mending) c.in-Mend.is c.args.step.number c.args.inner.now c.mend_node.new.inner c.args.lengths.now
    c.mend_node.new.lengths c.mend_node.ensures

pub commitment::make_step-add_node-requires : goal.commitment::make_step-add_node-requires
commitment::make_step-add_node-requires g t c =
    can_act_as c.args.step.act (Act.Add c.in-Add.node) c.in-Add.is c.args.step.number c.args.inner.now c.args.lengths.now c.requires

pub commitment::make_step-returns-in-Add : goal.commitment::make_step-returns-in-Add
commitment::make_step-returns-in-Add g t c =
    acted_as c.args.step.act (Act.Add c.in-Add.node) c.in-Add.is c.args.step.number c.args.inner.now c.add_node.new.inner c.args.lengths.now
    c.add_node.new.lengths c.add_node.ensures

pub commitment::make_step-drop_node-requires : goal.commitment::make_step-drop_node-requires
commitment::make_step-drop_node-requires g t c =
    can_act_as c.args.step.act Act.Drop c.in-Drop.is c.args.step.number c.args.inner.now c.args.lengths.now c.requires

pub commitment::make_step-returns-in-Drop : goal.commitment::make_step-returns-in-Drop
commitment::make_step-returns-in-Drop g t c =
    acted_as c.args.step.act Act.Drop c.in-Drop.is c.args.step.number c.args.inner.now c.drop_node.new.inner c.args.lengths.now
    c.drop_node.new.lengths c.drop_node.ensures

-- ---- a node that is mended

pub commitment::mend_node-take-requires : goal.commitment::mend_node-take-requires
commitment::mend_node-take-requires g t c =
    let items = c.args.inner.now.items in
    let number = c.args.k in
    let fit = c.requires.fit in
    let there : slice_get items number ≡ Some fit.0 = sym (forest_get items number) ∙ fit.1 in
    record { there = omega (arith, slice_get_within items number fit.0 there) }

pub commitment::mend_node-mended-node-requires : goal.commitment::mend_node-mended-node-requires
commitment::mend_node-mended-node-requires g t c κs within =
    let items = c.args.inner.now.items in
    let number = c.args.k in
    let mending = c.args.mending in
    let fit = c.requires.fit in
    let there : slice_get items number ≡ Some fit.0 = sym (forest_get items number) ∙ fit.1 in
    let same : fit.0 ≡ c.take.result = same_Some fit.0 c.take.result (sym there ∙ sym c.take.ensures.taken) in
    (omega arith, (within, (subst (λ (n : PlainCodeNode). StepsFit mending.inner n.spare n.inner) same fit.2, subst (λ (n : PlainCodeNode). AreJumps (unwrap_or mending.own n.own) (edited_code mending.inner n.inner) (plain_jumps mending.jumps)) same fit.3)))

pub commitment::mend_node-put_node-requires-clause-there : goal.commitment::mend_node-put_node-requires-clause-there
commitment::mend_node-put_node-requires-clause-there g t c =
    let items = c.args.inner.now.items in
    let number = c.args.k in
    let many = taken_many number c.args.inner.now c.take.new.self c.mended-node.result (c.take.ensures.rest c.mended-node.result) in
    omega (arith, many, slice_get_within items number c.take.result (sym c.take.ensures.taken))

pub commitment::mend_node-put_node-requires-clause-many : goal.commitment::mend_node-put_node-requires-clause-many
commitment::mend_node-put_node-requires-clause-many g t c =
    let number = c.args.k in
    let many = taken_many number c.args.inner.now c.take.new.self c.mended-node.result (c.take.ensures.rest c.mended-node.result) in
    numbers_many c.args.inner.now.items c.args.lengths.now.numbers number c.requires.lengths ∙ sym many

pub commitment::mend_node-put_node-requires-clause-fits : goal.commitment::mend_node-put_node-requires-clause-fits
commitment::mend_node-put_node-requires-clause-fits g t c =
    let old = c.args.inner.now in
    let number = c.args.k in
    let mending = c.args.mending in
    let change = mended_node mending.own (edited_code mending.inner) (room_after mending.inner) in
    let is = forest_set change number old.items c.take.result c.mended-node.result (sym c.take.ensures.taken)
    (sym (ap (λ (n : PlainCodeNode). code_forest (n ∷ [])) c.mended-node.ensures)) in
    set_fits (Act.Mend mending) (λ spare. refl) number c.mended-node.result old old c.args.lengths.now c.args.lengths.now c.requires.lengths is
    c.requires.short

pub commitment::mend_node-returns : goal.commitment::mend_node-returns
commitment::mend_node-returns g t c =
    let old = c.args.inner.now in
    let number = c.args.k in
    let mending = c.args.mending in
    let change = mended_node mending.own (edited_code mending.inner) (room_after mending.inner) in
    let is = forest_set change number old.items c.take.result c.mended-node.result (sym c.take.ensures.taken)
    (sym (ap (λ (n : PlainCodeNode). code_forest (n ∷ [])) c.mended-node.ensures)) in
    set_made (Act.Mend mending) (λ spare. refl) number c.mended-node.result old c.put_node.new.inner c.args.lengths.now c.put_node.new.lengths
    c.requires.lengths is (c.put_node.ensures.items ∙ c.take.ensures.rest c.mended-node.result) c.put_node.ensures.lengths

-- ---- a node in the place of which another one comes

pub commitment::make_step-put_node-requires-clause-there : goal.commitment::make_step-put_node-requires-clause-there
commitment::make_step-put_node-requires-clause-there g t c =
    let items = c.args.inner.now.items in
    let number = c.args.step.number in
    let fit =
    subst (λ (act : Act _). ActFits number act (min c.args.inner.now.spare c.args.lengths.now.spare) (code_forest items)) c.in-Put.is
    c.requires.fit in
    omega (arith, fit, forest_many items)

pub commitment::make_step-put_node-requires-clause-many : goal.commitment::make_step-put_node-requires-clause-many
commitment::make_step-put_node-requires-clause-many g t c =
    numbers_many c.args.inner.now.items c.args.lengths.now.numbers c.args.step.number c.requires.lengths

pub commitment::make_step-put_node-requires-clause-fits : goal.commitment::make_step-put_node-requires-clause-fits
commitment::make_step-put_node-requires-clause-fits g t c =
    let old = c.args.inner.now in
    let number = c.args.step.number in
    let node = c.in-Put.node in
    let fit =
    subst (λ (act : Act _). ActFits number act (min old.spare c.args.lengths.now.spare) (code_forest old.items)) c.in-Put.is c.requires.fit in
    let is = forest_put number old.items node (omega (arith, fit, forest_many old.items)) in
    set_fits c.args.step.act (λ spare. ap (λ (act : Act _). room_acted act spare) c.in-Put.is) number node old old c.args.lengths.now
    c.args.lengths.now c.requires.lengths (is ∙ sym (ap (λ (act : Act _). after_act number act (code_forest old.items)) c.in-Put.is))
    c.requires.short

pub commitment::make_step-returns-in-Put : goal.commitment::make_step-returns-in-Put
commitment::make_step-returns-in-Put g t c =
    let old = c.args.inner.now in
    let number = c.args.step.number in
    let node = c.in-Put.node in
    let fit =
    subst (λ (act : Act _). ActFits number act (min old.spare c.args.lengths.now.spare) (code_forest old.items)) c.in-Put.is c.requires.fit in
    let is = forest_put number old.items node (omega (arith, fit, forest_many old.items)) in
    let made =
    acted_as c.args.step.act (Act.Put node) c.in-Put.is number old c.put_node.new.inner c.args.lengths.now c.put_node.new.lengths
    (set_made (Act.Put node) (λ spare. refl) number node old c.put_node.new.inner c.args.lengths.now c.put_node.new.lengths
    c.requires.lengths is c.put_node.ensures.items c.put_node.ensures.lengths) in
    made

-- ---- a node mended by value

pub code_node::CodeNode::mended-make_steps-requires : goal.code_node::CodeNode::mended-make_steps-requires
code_node::CodeNode::mended-make_steps-requires g t c κs within =
    let inside = c.self.inside in
    let spare : min inside.inner.spare inside.lengths.spare ≡ c.args.self.spare = ap (λ (n : PlainCodeNode). n.spare) c.self.view_is in
    let inner : code_forest inside.inner.items ≡ c.args.self.inner = ap (λ (n : PlainCodeNode). n.inner) c.self.view_is in
    (omega arith, (within, (c.self.invariant.lengths, subst (λ (n : ℕ). StepsFit c.args.mending.inner n (code_forest inside.inner.items)) (sym spare) (subst (λ (f : CodeForest). StepsFit c.args.mending.inner c.args.self.spare f) (sym inner) c.requires.fit))))

pub code_node::CodeNode::mended-invariant_of-result : goal.code_node::CodeNode::mended-invariant_of-result
code_node::CodeNode::mended-invariant_of-result g t c =
    let inside = c.self.inside in
    let mending = c.args.mending in
    let own : unwrap_or mending.own inside.own ≡ unwrap_or mending.own c.args.self.own =
    ap (λ (n : PlainCodeNode). unwrap_or mending.own n.own) c.self.view_is in
    let made = c.make_steps.new.inner.items in
    let is : code_forest made ≡ edited_code mending.inner c.args.self.inner =
    c.make_steps.ensures.items ∙ ap (λ (n : PlainCodeNode). edited_code mending.inner n.inner) c.self.view_is in
    let whole : c.unwrap_or.result ≡ unwrap_or mending.own c.args.self.own = c.unwrap_or.ensures ∙ own in
    let are =
    subst (λ (o : PlainOwnCode). AreJumps o (edited_code mending.inner c.args.self.inner) (plain_jumps mending.jumps)) (sym whole)
    c.requires.jumps in
    record {
      lengths = c.make_steps.ensures.lengths;
      ahead = mended_ahead c.unwrap_or.result (edited_code mending.inner c.args.self.inner) (plain_jumps mending.jumps) made is are;
      between = mended_between c.unwrap_or.result (edited_code mending.inner c.args.self.inner) (plain_jumps mending.jumps) made is are;
      back = mended_back c.unwrap_or.result (edited_code mending.inner c.args.self.inner) (plain_jumps mending.jumps) made is are;
      short = mended_short c.unwrap_or.result (edited_code mending.inner c.args.self.inner) (plain_jumps mending.jumps) made is are;
    }

pub code_node::CodeNode::mended-returns : goal.code_node::CodeNode::mended-returns
code_node::CodeNode::mended-returns g t c =
    let mending = c.args.mending in
    let own : c.unwrap_or.result ≡ unwrap_or mending.own c.args.self.own =
    c.unwrap_or.ensures ∙ ap (λ (n : PlainCodeNode). unwrap_or mending.own n.own) c.self.view_is in
    let spare : min c.make_steps.new.inner.spare c.make_steps.new.lengths.spare ≡ room_after mending.inner c.args.self.spare =
    c.make_steps.ensures.spare ∙ ap (λ (n : PlainCodeNode). room_after mending.inner n.spare) c.self.view_is in
    let inner : code_forest c.make_steps.new.inner.items ≡ edited_code mending.inner c.args.self.inner =
    c.make_steps.ensures.items ∙ ap (λ (n : PlainCodeNode). edited_code mending.inner n.inner) c.self.view_is in
    (λ i. record { own = own i; spare = spare i; inner = inner i })
