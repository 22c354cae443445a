-- The table has nothing at first, and then the items that come.
use Rattle.std.proofs.Common.{◌∙◌, List, sym, subst}
use Rattle.std.specs.Option.{option_copied}
use Rattle.plcs_base.specs.declared.place.PhraseAt.{PhraseAt}
use Rattle.template_tree.specs.Checks.ProgramMaps.{items_in}
use Rattle.decl_table.specs.Private.DuePlaces.{AreDueBy}
use Rattle.decl_table.proofs.decls.Decls.gather.Goals as goal

pub returns-clause-due : goal.returns-clause-due
returns-clause-due c =
    subst
    (λ (due : List PhraseAt).
    AreDueBy c.args.reach c.args.nodes.now.part (option_copied c.args.nodes.now.old) (option_copied c.args.nodes.now.new) c.args.self.now
    c.args.pieces.now.uses.uses (items_in c.args.self.now.items c.args.change.now.procedure.0)
    (items_in c.take_items.new.table.items c.args.change.now.procedure.0) (option_copied c.args.procedure) due)
    (sym c.replace.ensures.after) c.in_ok-due.ensures

pub returns-clause-items : goal.returns-clause-items
returns-clause-items c = c.in_ok-items.ensures.items

pub returns-clause-there : goal.returns-clause-there
returns-clause-there c = c.in_ok-items.ensures.there

pub returns-clause-only : goal.returns-clause-only
returns-clause-only c = c.in_ok-items.ensures.only c.requires.items

pub returns-clause-headings : goal.returns-clause-headings
returns-clause-headings c = c.in_ok-items.ensures.headings ∙ c.requires.headings
