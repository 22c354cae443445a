use Rattle.std.proofs.Common.{ap, sym, ◌∙◌}
use Rattle.code_patch.specs.CodeEdit.{PlainCodeTree}
use Rattle.std.specs.Prelude.{length}
use Rattle.plcs_code.specs.Gen.{codes_joined}
use Rattle.code_patch.specs.CodeForest.{kept_codes}
use Rattle.code_patch.proofs.FoundInstrs.{all_length}
use Rattle.code_patch.proofs.code_tree.CodeTreeCodeView.length.Goals as goal

pub returns : goal.returns
returns g c =
    c.length_inside.ensures.sum ∙ sym (all_length c.self.inside.root.inner)
    ∙ ap (λ (t : PlainCodeTree). length (codes_joined (kept_codes t.items))) c.self.view_is
