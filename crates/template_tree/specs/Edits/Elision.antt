-- Comments whose refinement is hidden.
use Rattle.std.specs.Prelude.{ℕ, Bool, true, false, not, if◌then◌else◌, List, [], ◌∷◌, Option, Some, None}
use Rattle.plcs_grammar.specs.declared.node_kind.NodeKind.{NodeKind}
use Rattle.plcs_grammar.specs.declared.template.Template.{Template}
use Rattle.template_tree.specs.Programs.PlainTree.{PlainNode, PlainTree}
use Rattle.template_tree.specs.Edits.Edit.{edit_at}

-- whether the template is a comment, so that its refinement can be hidden
abbrev pub is_comment_template : Template → Bool
is_comment_template Template.Fixed = false
is_comment_template Template.Bit = false
is_comment_template Template.Char = false
is_comment_template Template.If = false
is_comment_template Template.IfElse = false
is_comment_template Template.While = false
is_comment_template Template.For = false
is_comment_template Template.Until = false
is_comment_template Template.Group = false
is_comment_template Template.Get = false
is_comment_template Template.Put = false
is_comment_template Template.PutSkip = false
is_comment_template Template.Call = false
is_comment_template Template.Return = false
is_comment_template Template.Comment = true
is_comment_template Template.Proc = false
is_comment_template Template.ProcP = false

-- whether nodes of the kind are comments, so that their refinements can be hidden
abbrev pub is_comment : NodeKind → Bool
is_comment NodeKind.DeclarationHole = false
is_comment NodeKind.StatementHole = false
is_comment NodeKind.ProcedureHole = false
is_comment NodeKind.Main = false
is_comment NodeKind.Assign = false
is_comment (NodeKind.Filled template) = is_comment_template template

-- whether the refinement of a comment is hidden once the comment is turned; no other node can be turned
abbrev pub hidden_after_toggle : PlainNode → Option Bool
hidden_after_toggle node = if is_comment node.label.kind then Some (not node.label.elided) else None

-- a comment turned, from shown to hidden or back, or another node as it is
abbrev pub toggled : PlainNode → List PlainNode
toggled node =
    (if is_comment node.label.kind
    then record node { label = record node.label { elided = not node.label.elided } } else node) ∷ []

-- the tree with the comment at the path turned
abbrev pub with_toggled_at : List ℕ → PlainTree → PlainTree
with_toggled_at path tree = record tree { items = edit_at toggled path tree.items }
