use Rattle.std.specs.Prelude.{◌-◌, vec_capacity, vec_len}
use Rattle.std.proofs.Common.{List, ap, ◌∙◌}
use Rattle.std.proofs.Math.Seq.{set-set}
use Rattle.code_patch.specs.CodeForest.{PlainCodeNode}
use Rattle.code_patch.specs.Private.PlainCodeNode.{PlainCodeNodes, with_code_set}
use Rattle.code_patch.proofs.code_node.CodeNodes.take.Goals as goal

pub returns-clause-rest : goal.returns-clause-rest
returns-clause-rest g c node =
    let list = c.self.inside.list in
    let spare = vec_capacity list - vec_len list in
    ap (λ (items : List PlainCodeNode). let l : PlainCodeNodes = record { items = items; spare = spare } in l)
    (set-set list.items c.args.k c.replace.new.dest node)
    ∙ ap (λ (l : PlainCodeNodes). with_code_set l c.args.k node) c.self.view_is
