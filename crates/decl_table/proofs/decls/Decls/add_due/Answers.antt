-- The places that were put in come first, then the lists of names, then the places under the names that are affected.
use Rattle.std.specs.Prelude.{◌++◌, List, flat_map}
use Rattle.std.specs.Option.{option_copied}
use Rattle.std.proofs.Common.{ap, ◌∙◌, subst}
use Rattle.plcs_base.specs.declared.place.PhraseAt.{PhraseAt}
use Rattle.decl_table.specs.PlainDecls.{PlainDecls}
use Rattle.decl_table.specs.Private.DuePlaces.{due_lists, uses_now}
use Rattle.decl_table.specs.Private.ReachView.{has_lists}
use Rattle.decl_table.specs.Private.UsesView.{IsSettled}
use Rattle.decl_table.proofs.decls.Decls.add_due.Goals as goal

pub returns : goal.returns
returns c =
    let changed = c.args.uses.now.uses in
    let names = c.args.affected.now in
    let lists = due_lists (has_lists c.args.reach) (option_copied c.args.procedure) in
    subst (λ (ps : List PhraseAt). IsSettled ps c.settle.new.self)
    (c.in_ok-add_uses.ensures
    ∙ ap (λ (d : PlainDecls). c.add_due_lists.new.places ++ flat_map (uses_now d.uses changed) names) c.self.view_is
    ∙ ap (λ (ps : List PhraseAt). ps ++ flat_map (uses_now c.args.self.now.uses changed) names)
    (c.in_ok-add_due_lists.ensures ∙ ap (λ (ps : List PhraseAt). ps ++ lists) c.in_ok-add_put_in.ensures))
    c.settle.ensures
