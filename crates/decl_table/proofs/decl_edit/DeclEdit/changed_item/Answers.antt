-- The items of one procedure alone may change, and those that come stand in the table of the edit.
use Rattle.std.proofs.Common.{ap, sym, ◌∙◌}
use Rattle.plcs_base.specs.Scope.{item_at}
use Rattle.decl_table.specs.DeclEdit.{PlainDeclEdit}
use Rattle.decl_table.specs.declared.decl_edit.DeclEdit.TheInside.{Inside}
use Rattle.decl_table.proofs.ChangedItems.{all_stay, gone_elsewhere, gone_own, set_elsewhere, set_own}
use Rattle.decl_table.proofs.decl_edit.DeclEdit.changed_item.Goals as goal

pub returns-in-Stay-clause-none : goal.returns-in-Stay-clause-none
returns-in-Stay-clause-none c =
    λ items.
    all_stay c.args.self.now.items c.self.inside.items c.self.inside.table.items (ap (λ (e : PlainDeclEdit). e.items) c.self.view_is)
    c.args.procedure.0 c.args.k items (sym (ap (λ (i : Inside). i.items) c.self-inside.view_is) ∙ c.in-Stay.is)

pub returns-then-slot-procedure-clause-none : goal.returns-then-slot-procedure-clause-none
returns-then-slot-procedure-clause-none c =
    λ items.
    set_elsewhere c.args.self.now.items c.self.inside.items c.self.inside.table.items (ap (λ (e : PlainDeclEdit). e.items) c.self.view_is)
    c.args.procedure.0 c.args.k items c.in-Set.slot (sym (ap (λ (i : Inside). i.items) c.self-inside.view_is) ∙ c.in-Set.is)
    c.if-slot-procedure.true

pub returns-then-slot-procedure-2-clause-none : goal.returns-then-slot-procedure-2-clause-none
returns-then-slot-procedure-2-clause-none c =
    λ items.
    gone_elsewhere c.args.self.now.items c.self.inside.items c.self.inside.table.items (ap (λ (e : PlainDeclEdit). e.items) c.self.view_is)
    c.args.procedure.0 c.args.k items c.in-Gone.slot (sym (ap (λ (i : Inside). i.items) c.self-inside.view_is) ∙ c.in-Gone.is)
    c.if-slot-procedure-2.true

pub returns-else-slot-procedure-clause-changed : goal.returns-else-slot-procedure-clause-changed
returns-else-slot-procedure-clause-changed c =
    λ items.
    set_own c.args.self.now.items c.self.inside.items c.self.inside.table.items (ap (λ (e : PlainDeclEdit). e.items) c.self.view_is)
    c.args.procedure.0 c.args.k items c.in-Set.slot (sym (ap (λ (i : Inside). i.items) c.self-inside.view_is) ∙ c.in-Set.is)
    c.if-slot-procedure.false
    ∙ sym (c.numbered.ensures ∙ ap (λ (i : Inside). item_at i.table.items c.args.procedure.0 c.args.k) c.self-inside.view_is)

pub returns-else-slot-procedure-2-clause-changed : goal.returns-else-slot-procedure-2-clause-changed
returns-else-slot-procedure-2-clause-changed c =
    λ items.
    gone_own c.args.self.now.items c.self.inside.items c.self.inside.table.items (ap (λ (e : PlainDeclEdit). e.items) c.self.view_is)
    c.args.procedure.0 c.args.k items c.in-Gone.slot (sym (ap (λ (i : Inside). i.items) c.self-inside.view_is) ∙ c.in-Gone.is)
    c.if-slot-procedure-2.false
