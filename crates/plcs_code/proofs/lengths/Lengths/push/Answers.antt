use Rattle.std.proofs.Common.{◌∷◌, [], List, reverse, ap, ◌∙◌}
use Rattle.std.proofs.lemmas.List.{reverse-append}
use Rattle.plcs_code.specs.declared.lengths.NodeLength.{NodeLength}
use Rattle.plcs_code.proofs.lengths.Lengths.push.Goals as goal

pub returns : goal.returns
returns c =
    ap reverse c.in-Ok.ensures.items
    ∙ reverse-append c.self.inside.list.items (c.args.length ∷ [])
    ∙ ap (λ (lengths : List NodeLength). c.args.length ∷ lengths) c.self.view_is
