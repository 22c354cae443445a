use Rattle.std.specs.Prelude.{◌≡◌, List, Option, Some, None, false, option_map}
use Rattle.std.specs.Option.{option_map_or}
use Rattle.std.proofs.Common.{ℕ, ap, refl, ◌∙◌}
use Rattle.plcs_grammar.specs.declared.node_kind.NodeKind.{NodeKind}
use Rattle.template_tree.specs.Programs.Program.{sort_of}
use Rattle.code_patch.specs.CodeForest.{PlainCodeNode}
use Rattle.code_patch.specs.Bill.{is_declaration}
use Rattle.code_patch.specs.Private.KeptPaths.{kept_below, kept_declares, root_of}
use Rattle.code_patch.proofs.RoomlessCode.{root_is}
use Rattle.code_patch.proofs.code_tree.CodeTree.keeps_declaration.Goals as goal

-- a kept node declares something by its kind
by_kind : (o : Option PlainCodeNode)
    → option_map_or (λ (kind : NodeKind). is_declaration (sort_of kind)) (option_map (λ (n : PlainCodeNode). n.own.kind) o) false ≡ kept_declares o
by_kind None = refl
by_kind (Some node) = refl

-- what is known of the kind at a path below the root
told : (root root_too : PlainCodeNode) (way path : List ℕ) (kind : Option NodeKind)
    → kind ≡ option_map (λ (n : PlainCodeNode). n.own.kind) (kept_below root way) → root ≡ root_too → way ≡ path
    → option_map_or (λ (kind : NodeKind). is_declaration (sort_of kind)) kind false ≡ kept_declares (kept_below root_too path)
told root root_too way path kind is same on =
    ap (λ (o : Option NodeKind). option_map_or (λ (kind : NodeKind). is_declaration (sort_of kind)) o false) is
    ∙ by_kind (kept_below root way)
    ∙ (λ i. kept_declares (kept_below (same i) (on i)))

pub returns-in_default : goal.returns-in_default
returns-in_default g c =
    told c.self.inside.root (root_of c.args.self.now) c.as_slice.result.now c.args.way.now.items None c.in_default.ensures
    (root_is c.self.inside c.args.self.now c.self.view_is c.self.invariant) c.as_slice.ensures.value

pub returns : goal.returns
returns g c =
    c.declares.ensures
    ∙ told c.self.inside.root (root_of c.args.self.now) c.as_slice.result.now c.args.way.now.items (Some c.in-Some.kind) c.in-Some.ensures
    (root_is c.self.inside c.args.self.now c.self.view_is c.self.invariant) c.as_slice.ensures.value
