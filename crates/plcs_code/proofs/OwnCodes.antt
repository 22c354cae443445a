-- The code of a program is as long as the own codes of all its nodes together: the code of a node is its own and those
-- inside it.
use Rattle.std.proofs.Common.{◌≡◌, ◌+◌, length, Option, refl, ap, ◌∙◌, arith}
use Rattle.std.specs.Prelude.{sum}
use Rattle.std.proofs.lemmas.List.Sums.{sum_by-cons}
use Rattle.plcs_base.specs.Mark.{MarkMap}
use Rattle.plcs_base.specs.Scope.{ItemMap}
use Rattle.template_tree.specs.Positions.Place.{Site}
use Rattle.template_tree.specs.Programs.PlainTree.{Forest}
use Rattle.plcs_code.specs.CodeLaws.{OwnCodesAddUp, OwnCodesAreTold, own_lengths}
use Rattle.plcs_code.specs.Gen.{length_around, node_codes, node_lengths, site_code}
use Rattle.plcs_code.proofs.CodeLengths.{joined_length, lengths_told, own_lengths_stay}

-- the lengths of codes together are those of the own codes
lengths_add_up : (marks : MarkMap) (items : ItemMap) (nodes : Forest) → sum (node_lengths marks items nodes) ≡ own_lengths marks items nodes
lengths_add_up marks items Forest.nil = refl
lengths_add_up marks items (Forest.cons label inner rest) =
    let total : sum (node_lengths marks items (Forest.cons label inner rest)) ≡ length_around marks items label (node_lengths marks items inner) + sum (node_lengths marks items rest) =
    sum_by-cons (λ n. n) (length_around marks items label (node_lengths marks items inner)) (node_lengths marks items rest) in
    omega (arith, total, lengths_add_up marks items inner, lengths_add_up marks items rest)

pub own_codes_add_up : OwnCodesAddUp
own_codes_add_up marks items program =
    joined_length (node_codes marks items program) ∙ ap sum (lengths_told marks items program) ∙ lengths_add_up marks items program

pub own_codes_are_told : OwnCodesAreTold
own_codes_are_told marks items program slot found e =
    ap (λ (site : Option Site). length (site_code marks items site)) e
    ∙ own_lengths_stay marks items found.label (node_lengths marks items found.inner)
