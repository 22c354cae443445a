-- A node without own code has no jumps, whatever stands inside it; so all that changes is what is kept inside.
use Rattle.std.specs.Prelude.{◌≡◌, ◌≤◌, ℕ, List, map, min, sum}
use Rattle.std.proofs.Common.{arith, ap, sym, subst, ◌∙◌}
use Rattle.plcs_code.specs.BlockLimit.{most_instrs}
use Rattle.code_patch.specs.CodeEdit.{edited_code, room_after}
use Rattle.code_patch.specs.CodeForest.{CodeForest, count_around, PlainCodeNode}
use Rattle.code_patch.specs.PreparedEdit.{StepsFit}
use Rattle.code_patch.specs.Private.PlainCodeNode.{code_forest, kept_length, kept_lengths_forest}
use Rattle.code_patch.proofs.CodeRoots.{none_ahead, none_back, none_between, none_count}
use Rattle.code_patch.proofs.Opened.{own_is}
use Rattle.code_patch.proofs.code_node.CodeNode.make.Goals as goal

pub make_steps-requires-clause-fit : goal.make_steps-requires-clause-fit
make_steps-requires-clause-fit g c =
    let inside = c.self.inside in
    let spare : min inside.inner.spare inside.lengths.spare ≡ c.args.self.now.spare = ap (λ (n : PlainCodeNode). n.spare) c.self.view_is in
    let inner : code_forest inside.inner.items ≡ c.args.self.now.inner = ap (λ (n : PlainCodeNode). n.inner) c.self.view_is in
    subst (λ (n : ℕ). StepsFit c.args.steps n (code_forest inside.inner.items)) (sym spare)
    (subst (λ (f : CodeForest). StepsFit c.args.steps c.args.self.now.spare f) (sym inner) c.requires.fit)

pub invariant_of-self : goal.invariant_of-self
invariant_of-self g c =
    let own = c.self.inside.own in
    let none = own_is c.self.inside c.args.self.now c.self.view_is c.self.invariant ∙ c.requires.own in
    let old = map kept_length c.self.inside.inner.items in
    let new = map kept_length c.make_steps.new.inner.items in
    let whole : sum c.make_steps.new.lengths.numbers ≡ sum new = ap sum c.make_steps.ensures.lengths in
    record {
      lengths = c.make_steps.ensures.lengths;
      ahead = c.self.invariant.ahead ∙ none_ahead own none old ∙ sym (none_ahead own none new);
      between = c.self.invariant.between ∙ none_between own none old ∙ sym (none_between own none new);
      back = c.self.invariant.back ∙ none_back own none old ∙ sym (none_back own none new);
      short = omega (arith, none_count own none new, whole, c.make_steps.ensures.short);
    }

pub returns-clause-made : goal.returns-clause-made
returns-clause-made g c =
    let own = ap (λ (n : PlainCodeNode). n.own) c.self.view_is in
    let spare : min c.make_steps.new.inner.spare c.make_steps.new.lengths.spare ≡ room_after c.args.steps c.args.self.now.spare =
    c.make_steps.ensures.spare ∙ ap (λ (n : PlainCodeNode). room_after c.args.steps n.spare) c.self.view_is in
    let inner : code_forest c.make_steps.new.inner.items ≡ edited_code c.args.steps c.args.self.now.inner =
    c.make_steps.ensures.items ∙ ap (λ (n : PlainCodeNode). edited_code c.args.steps n.inner) c.self.view_is in
    (λ i. record { own = own i; spare = spare i; inner = inner i })

pub returns-clause-short : goal.returns-clause-short
returns-clause-short g c =
    let own = c.self.inside.own in
    let none = own_is c.self.inside c.args.self.now c.self.view_is c.self.invariant ∙ c.requires.own in
    let items = c.make_steps.new.inner.items in
    let whole : sum c.make_steps.new.lengths.numbers ≡ sum (map kept_length items) = ap sum c.make_steps.ensures.lengths in
    let short : count_around own (map kept_length items) ≤ most_instrs =
    omega (arith, none_count own none (map kept_length items), whole, c.make_steps.ensures.short) in
    subst (λ (ns : List ℕ). count_around own ns ≤ most_instrs) (sym (kept_lengths_forest items)) short
