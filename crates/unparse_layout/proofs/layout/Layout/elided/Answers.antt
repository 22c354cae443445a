use Rattle.std.specs.Prelude.{◌≡◌, refl}
use Rattle.std.proofs.Common.{arith, ap, sym, ◌∙◌}
use Rattle.plcs_grammar.specs.Template.{program_sections}
use Rattle.template_tree.specs.Programs.PlainTree.{PlainTree}
use Rattle.unparse_layout.specs.Bones.{bones_of, bone_count}
use Rattle.unparse_layout.specs.Private.PlainNodeLayout.{PlainNodeLayout}
use Rattle.unparse_layout.specs.Private.NodeLayoutLend.{with_elision}
use Rattle.unparse_layout.proofs.Heights.{count_bones}
use Rattle.unparse_layout.proofs.TurnedBones.{count_elision, layout_kept, turned_layout}
use Rattle.unparse_layout.proofs.layout.Layout.elided.Goals as goal

pub returns-in_default : goal.returns-in_default
returns-in_default g c =
    let before = c.requires.before.before in
    c.requires.before.agrees
    ∙ layout_kept c.args.tree.now.items before.items c.args.path.now.items (ap (λ (t : PlainTree). t.items) c.requires.before.turned)
    (sym c.in_default.ensures.found)

pub set_elision-requires : goal.set_elision-requires
set_elision-requires g c =
    let before = c.requires.before.before in
    let turned =
    turned_layout c.args.tree.now.items before.items c.args.path.now.items c.in-Some.node.now.label.elided c.self.inside.root
    c.in-Some.node.now (c.self.view_is ∙ c.requires.before.agrees) (ap (λ (t : PlainTree). t.items) c.requires.before.turned)
    (sym c.in-Some.ensures.found) refl in
    let count : bone_count c.self.inside.root.inner ≡ bone_count (bones_of program_sections c.args.tree.now.items) =
    sym (count_elision c.args.path.now.items c.in-Some.node.now.label.elided c.self.inside.root) ∙ ap bone_count turned in
    record { few = omega (arith, count, count_bones program_sections c.args.tree.now.items, c.requires.tree.few) }

pub returns : goal.returns
returns g c =
    let before = c.requires.before.before in
    ap (λ (o : PlainNodeLayout). o.inner) (c.set_elision.ensures
    ∙ ap (λ p. with_elision p c.is_elided.result c.self.inside.root) c.deref.ensures.0)
    ∙ turned_layout c.args.tree.now.items before.items c.args.path.now.items c.is_elided.result c.self.inside.root c.in-Some.node.now
    (c.self.view_is ∙ c.requires.before.agrees) (ap (λ (t : PlainTree). t.items) c.requires.before.turned)
    (sym c.in-Some.ensures.found) (sym c.is_elided.ensures)
