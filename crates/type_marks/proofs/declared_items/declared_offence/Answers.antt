use Rattle.std.proofs.Common.{rules, ◌≡◌, ◌∙◌, ◌+◌, [], ◌∷◌, suc, add-one, drop, drop-cons, sym, ap, false}
use Rattle.std.specs.Option.{is_none}
use Rattle.template_tree.specs.Checks.ProgramMaps.{items_in}
use Rattle.template_tree.specs.Checks.Environment.{declared_as, effective, item_named, with_type}
use Rattle.template_tree.specs.Checks.Marks.{declared_before, type_in}
use Rattle.template_tree.specs.Checks.Verdict.{declared_offence}
use Rattle.type_marks.specs.Private.DeclaredItems.{judged_item}
use Rattle.type_marks.proofs.DeclaredOffences.{earlier, judged_there, offence_behind, offence_here, some_given}
use Rattle.type_marks.proofs.declared_items.declared_offence.Goals as goal

pub returns-in-Some : goal.returns-in-Some
returns-in-Some c =
    let items = c.args.items.now in
    let i = c.loop-i.i in
    let item = c.index-items-i.result in
    let procedure = c.args.procedure.now in
    let slot = c.args.slot.0 in
    let decls = c.args.decls.now in
    let left : drop i items ≡ item ∷ drop (i + 1) items =
    drop-cons items i item c.loop-i-test.true ∙ ap (λ x. x ∷ drop (suc i) items) (sym c.index-items-i.is) ∙ ap (λ n. item ∷ drop n items) (sym (add-one i)) in
    let told : is_none c.type_in.result ≡ false = search rules in
    some_given (type_in procedure.inner slot) (ap is_none (sym c.type_in.ensures) ∙ told)
    (λ ty gives.
    offence_here decls procedure slot items c.requires.listed c.requires.known ty gives i item c.in-Some.offence left
    (c.in-Some.ensures ty
    ∙ ap (judged_item (earlier decls procedure slot items c.requires.listed c.requires.known ty gives i) (declared_as ty item))
    (c.type_of-effective.ensures ∙ ap (λ s. item_named item.name (items_in decls.items s)) c.slot.ensures)
    ∙ judged_there decls procedure slot items c.requires.listed c.requires.known ty gives i item left)
    ∙ c.loop-i.invariant ty gives
    ∙ ap (λ o. declared_offence (effective [] (declared_before procedure.inner slot)) (with_type o items)) (sym gives))

pub loop-i-preserved : goal.loop-i-preserved
loop-i-preserved c =
    let items = c.args.items.now in
    let i = c.loop-i.i in
    let item = c.index-items-i.result in
    let procedure = c.args.procedure.now in
    let slot = c.args.slot.0 in
    let decls = c.args.decls.now in
    let left : drop i items ≡ item ∷ drop (i + 1) items =
    drop-cons items i item c.loop-i-test.true ∙ ap (λ x. x ∷ drop (suc i) items) (sym c.index-items-i.is) ∙ ap (λ n. item ∷ drop n items) (sym (add-one i)) in
    λ ty gives.
    offence_behind decls procedure slot items c.requires.listed c.requires.known ty gives i item left
    (c.in_default.ensures ty
    ∙ ap (judged_item (earlier decls procedure slot items c.requires.listed c.requires.known ty gives i) (declared_as ty item))
    (c.type_of-effective.ensures ∙ ap (λ s. item_named item.name (items_in decls.items s)) c.slot.ensures)
    ∙ judged_there decls procedure slot items c.requires.listed c.requires.known ty gives i item left)
    ∙ c.loop-i.invariant ty gives
