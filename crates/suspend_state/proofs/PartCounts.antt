-- A node has few parts: as many as its row asks for.
use Rattle.std.specs.Prelude.{◌≡◌, refl, ℕ, suc, ◌<◌, List, [], ◌∷◌, length, Option}
use Rattle.std.proofs.Common.{ap, arith}
use Rattle.plcs_grammar.specs.declared.category.Category.{Category}
use Rattle.plcs_grammar.specs.declared.node_kind.NodeKind.{NodeKind}
use Rattle.plcs_grammar.specs.declared.template.Template.{Template}
use Rattle.plcs_grammar.specs.PlainPhrase.{PlainPhrase}
use Rattle.plcs_grammar.specs.Template.{row_of}
use Rattle.template_tree.specs.Programs.PlainTree.{PlainNode}
use Rattle.template_tree.specs.Programs.Program.{AreParts, IsSubtree, parts_of}

same_count : (categories : List Category) (parts : List (Option PlainPhrase)) → AreParts categories parts → length parts ≡ length categories
same_count [] [] are = refl
same_count [] (part ∷ parts) are = absurd are
same_count (category ∷ categories) [] are = absurd are
same_count (category ∷ categories) (part ∷ parts) are = ap (λ (n : ℕ). suc n) (same_count categories parts are.1)

few_in_template : (template : Template) → length (parts_of (row_of (NodeKind.Filled template)).line) < 256
few_in_template Template.Fixed = omega arith
few_in_template Template.Bit = omega arith
few_in_template Template.Char = omega arith
few_in_template Template.If = omega arith
few_in_template Template.IfElse = omega arith
few_in_template Template.While = omega arith
few_in_template Template.For = omega arith
few_in_template Template.Until = omega arith
few_in_template Template.Group = omega arith
few_in_template Template.Get = omega arith
few_in_template Template.Put = omega arith
few_in_template Template.PutSkip = omega arith
few_in_template Template.Call = omega arith
few_in_template Template.Return = omega arith
few_in_template Template.Comment = omega arith
few_in_template Template.Proc = omega arith
few_in_template Template.ProcP = omega arith

few_in_row : (kind : NodeKind) → length (parts_of (row_of kind).line) < 256
few_in_row NodeKind.DeclarationHole = omega arith
few_in_row NodeKind.StatementHole = omega arith
few_in_row NodeKind.ProcedureHole = omega arith
few_in_row NodeKind.Main = omega arith
few_in_row NodeKind.Assign = omega arith
few_in_row (NodeKind.Filled template) = few_in_template template

pub few_parts : (node : PlainNode) → IsSubtree node → length node.label.parts < 256
few_parts node is =
    let same = same_count (parts_of (row_of node.label.kind).line) node.label.parts is.0.parts in
    let few = few_in_row node.label.kind in
    omega (arith, same, few)
