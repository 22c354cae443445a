use Rattle.std.proofs.Common.{◌≡◌, ◌∙◌, ◌∷◌, ◌++◌, [], List, Some, cond, false, is_some, sym, ap, subst}
use Rattle.std.specs.Prelude.{bytes_eq}
use Rattle.plcs_base.specs.declared.declared.Declared.{Declared}
use Rattle.template_tree.specs.Checks.Environment.{item_named}
use Rattle.decl_table.specs.Private.ItemsView.{items_of, shaped}
use Rattle.decl_table.proofs.ItemLists.{inserted, on_err, put_named}
use Rattle.decl_table.proofs.items.Items.put.Goals as goal

pub returns-clause-last : goal.returns-clause-last
returns-clause-last c =
    let name = c.args.name.now in
    let entries = c.self.inside.shapes.entries in
    λ absent.
    subst (λ (items : List Declared). items_of c.insert.new.self.entries ≡ items ++ (shaped name c.args.shape ∷ [])) c.self.view_is
    (inserted name c.args.shape entries c.copy.result c.insert.new.self.entries c.copy.ensures c.in_ok-insert.ensures.entries
    (subst (λ (items : List Declared). is_some (item_named name items) ≡ false) (sym c.self.view_is) absent))

pub returns-clause-named : goal.returns-clause-named
returns-clause-named c =
    let name = c.args.name.now in
    let entries = c.self.inside.shapes.entries in
    λ other.
    put_named name c.args.shape entries c.insert.new.self.entries c.copy.result c.copy.ensures (λ q. c.in_ok-insert.ensures.updates.0 q) other
    ∙ ap (λ (items : List Declared). cond (bytes_eq name other) (Some (shaped name c.args.shape)) (item_named other items)) c.self.view_is

pub returns-in_err-insert-clause-refused : goal.returns-in_err-insert-clause-refused
returns-in_err-insert-clause-refused c = on_err c.from_residual.result (ap items_of c.in_err-insert.ensures.err ∙ c.self.view_is)
