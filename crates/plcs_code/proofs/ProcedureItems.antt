-- The items of a procedure, as a scope tells them one by one, and the nodes whose code doesn't depend on any.
use Rattle.std.proofs.Common.{◌≡◌, ℕ, false, List, [], take, Option, Some, None, slice_get, refl}
use Rattle.std.specs.Prelude.{option_and_then, unwrap_or}
use Rattle.std.specs.FinMap.{get}
use Rattle.plcs_base.specs.Mark.{MarkMap}
use Rattle.plcs_base.specs.Scope.{ItemMap, item_at}
use Rattle.plcs_base.specs.declared.declared.Declared.{Declared}
use Rattle.plcs_grammar.specs.declared.node_kind.NodeKind.{NodeKind}
use Rattle.plcs_grammar.specs.declared.template.Template.{Template}
use Rattle.plcs_grammar.specs.PlainPhrase.{PlainPhrase}
use Rattle.template_tree.specs.Programs.PlainTree.{Label}
use Rattle.template_tree.specs.Programs.Program.{sort_of}
use Rattle.template_tree.specs.Checks.ProgramMaps.{items_in}
use Rattle.plcs_code.specs.Pieces.{kind_pieces, own_pieces, suspension, template_pieces}
use Rattle.plcs_code.specs.PlainInstr.{PlainInstr}
use Rattle.plcs_code.specs.Private.LaidCode.{has_items}

-- the item of a number is that of the list of all
pub item_listed : (map : ItemMap) (slot k : ℕ) → item_at map slot k ≡ slice_get (items_in map slot) k
item_listed map slot k = by (get map slot)
  where
    by : (items : Option (List Declared)) → option_and_then (λ items. slice_get items k) items ≡ slice_get (unwrap_or items []) k
    by None = refl
    by (Some items) = refl

template_itemless : (slot : ℕ) (all one : Option PlainInstr) (parts : List (Option PlainPhrase)) (items others : List Declared) (template : Template)
    → has_items (sort_of (NodeKind.Filled template)) ≡ false
    → template_pieces slot all one parts items template ≡ template_pieces slot all one parts others template
template_itemless slot all one parts items others Template.Fixed none = refl
template_itemless slot all one parts items others Template.Bit none = refl
template_itemless slot all one parts items others Template.Char none = refl
template_itemless slot all one parts items others Template.If none = refl
template_itemless slot all one parts items others Template.IfElse none = refl
template_itemless slot all one parts items others Template.While none = refl
template_itemless slot all one parts items others Template.For none = refl
template_itemless slot all one parts items others Template.Until none = refl
template_itemless slot all one parts items others Template.Group none = refl
template_itemless slot all one parts items others Template.Get none = refl
template_itemless slot all one parts items others Template.Put none = refl
template_itemless slot all one parts items others Template.PutSkip none = refl
template_itemless slot all one parts items others Template.Call none = refl
template_itemless slot all one parts items others Template.Return none = refl
template_itemless slot all one parts items others Template.Comment none = refl
template_itemless slot all one parts items others Template.Proc none = absurd (cc)
template_itemless slot all one parts items others Template.ProcP none = absurd (cc)

kind_itemless : (slot : ℕ) (all one : Option PlainInstr) (parts : List (Option PlainPhrase)) (items others : List Declared) (kind : NodeKind)
    → has_items (sort_of kind) ≡ false → kind_pieces slot all one parts items kind ≡ kind_pieces slot all one parts others kind
kind_itemless slot all one parts items others NodeKind.DeclarationHole none = refl
kind_itemless slot all one parts items others NodeKind.StatementHole none = refl
kind_itemless slot all one parts items others NodeKind.ProcedureHole none = refl
kind_itemless slot all one parts items others NodeKind.Main none = absurd (cc)
kind_itemless slot all one parts items others NodeKind.Assign none = refl
kind_itemless slot all one parts items others (NodeKind.Filled template) none = template_itemless slot all one parts items others template none

-- the pieces of what is no procedure don't depend on items
pub itemless : (marks : MarkMap) (items others : List Declared) (label : Label) → has_items (sort_of label.kind) ≡ false
    → own_pieces marks items label ≡ own_pieces marks others label
itemless marks items others label none =
    kind_itemless label.slot (suspension marks label.slot label.parts) (suspension marks label.slot (take 1 label.parts)) label.parts items others label.kind none
