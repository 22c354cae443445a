use Rattle.std.specs.Prelude.{length, slice_get}
use Rattle.std.proofs.Common.{List, arith, ap, ◌∙◌}
use Rattle.plcs_code.specs.Gen.{codes_joined}
use Rattle.plcs_code.specs.PlainInstr.{PlainInstr}
use Rattle.code_patch.specs.CodeEdit.{PlainCodeTree}
use Rattle.code_patch.specs.CodeForest.{kept_codes}
use Rattle.code_patch.proofs.CodeRoots.{root_instrs}
use Rattle.code_patch.proofs.code_tree.CodeTreeCodeView.fetch.Goals as goal

pub instr_inside-requires : goal.instr_inside-requires
instr_inside-requires g c =
    let inside = root_instrs c.self.inside.root c.self.invariant.own in
    let same = ap (λ (t : PlainCodeTree). length (codes_joined (kept_codes t.items))) c.self.view_is in
    omega (arith, ap (λ (is : List PlainInstr). length is) inside, same, c.requires)

pub returns-clause-fetched : goal.returns-clause-fetched
returns-clause-fetched g c =
    let inside = root_instrs c.self.inside.root c.self.invariant.own in
    c.instr_inside.ensures ∙ ap (λ (is : List PlainInstr). slice_get is c.args.address) inside
    ∙ ap (λ (t : PlainCodeTree). slice_get (codes_joined (kept_codes t.items)) c.args.address) c.self.view_is
