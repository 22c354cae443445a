use Rattle.std.specs.Prelude.{◌≡◌, min}
use Rattle.std.proofs.Common.{ap}
use Rattle.code_patch.specs.CodeForest.{PlainCodeNode}
use Rattle.code_patch.specs.Private.PlainCodeNode.{code_forest}
use Rattle.code_patch.specs.Private.StepsView.{plain_jumps}
use Rattle.code_patch.proofs.ActedNodes.{mended_ahead, mended_back, mended_between, mended_short}
use Rattle.code_patch.proofs.code_node.CodeNode.completed.Goals as goal

pub invariant_of-result : goal.invariant_of-result
invariant_of-result g c =
    let items = c.self.inside.inner.items in
    let inner = c.args.self.inner in
    let jumps = plain_jumps c.args.jumps in
    let is : code_forest items ≡ inner = ap (λ (n : PlainCodeNode). n.inner) c.self.view_is in
    record {
      lengths = c.self.invariant.lengths;
      ahead = mended_ahead c.args.own inner jumps items is c.requires.jumps;
      between = mended_between c.args.own inner jumps items is c.requires.jumps;
      back = mended_back c.args.own inner jumps items is c.requires.jumps;
      short = mended_short c.args.own inner jumps items is c.requires.jumps;
    }

pub returns : goal.returns
returns g c =
    let inside = c.self.inside in
    let spare : min inside.inner.spare inside.lengths.spare ≡ c.args.self.spare = ap (λ (n : PlainCodeNode). n.spare) c.self.view_is in
    let inner : code_forest inside.inner.items ≡ c.args.self.inner = ap (λ (n : PlainCodeNode). n.inner) c.self.view_is in
    (λ i. record { own = c.args.own; spare = spare i; inner = inner i })
