-- Nodes that are no declarations declare nothing.
use Rattle.std.proofs.Common.{◌≡◌, false, List, [], Option, None, refl, ap, true≢false}
use Rattle.plcs_base.specs.declared.declared.ItemType.{ItemType}
use Rattle.plcs_grammar.specs.PlainPhrase.{PlainPhrase}
use Rattle.plcs_grammar.specs.declared.node_kind.NodeKind.{NodeKind}
use Rattle.plcs_grammar.specs.declared.template.Template.{Template}
use Rattle.template_tree.specs.Checks.Environment.{declares, list_items, type_given, with_type}
use Rattle.template_tree.specs.Programs.PlainTree.{Label}
use Rattle.template_tree.specs.Programs.Program.{sort_of}
use Rattle.code_patch.specs.Bill.{is_declaration}

no_type : (kind : NodeKind) (parts : List (Option PlainPhrase)) → is_declaration (sort_of kind) ≡ false → type_given kind parts ≡ None
no_type NodeKind.DeclarationHole parts other = refl
no_type NodeKind.StatementHole parts other = refl
no_type NodeKind.ProcedureHole parts other = refl
no_type NodeKind.Main parts other = refl
no_type NodeKind.Assign parts other = refl
no_type (NodeKind.Filled Template.Fixed) parts other = absurd (true≢false other)
no_type (NodeKind.Filled Template.Bit) parts other = absurd (true≢false other)
no_type (NodeKind.Filled Template.Char) parts other = absurd (true≢false other)
no_type (NodeKind.Filled Template.If) parts other = refl
no_type (NodeKind.Filled Template.IfElse) parts other = refl
no_type (NodeKind.Filled Template.While) parts other = refl
no_type (NodeKind.Filled Template.For) parts other = refl
no_type (NodeKind.Filled Template.Until) parts other = refl
no_type (NodeKind.Filled Template.Group) parts other = refl
no_type (NodeKind.Filled Template.Get) parts other = refl
no_type (NodeKind.Filled Template.Put) parts other = refl
no_type (NodeKind.Filled Template.PutSkip) parts other = refl
no_type (NodeKind.Filled Template.Call) parts other = refl
no_type (NodeKind.Filled Template.Return) parts other = refl
no_type (NodeKind.Filled Template.Comment) parts other = refl
no_type (NodeKind.Filled Template.Proc) parts other = refl
no_type (NodeKind.Filled Template.ProcP) parts other = refl

pub declares_nothing : (label : Label) → is_declaration (sort_of label.kind) ≡ false → declares label ≡ []
declares_nothing label other =
    ap (λ (t : Option ItemType). with_type t (list_items label.parts)) (no_type label.kind label.parts other)
