-- As in `check_phrase`, but that the offence of a declared list, which stands in a node of its procedure, is taken from
-- those of all lists of the procedure.
use Rattle.std.proofs.Common.{◌≡◌, ◌∙◌, Some, refl, sym, ap, subst, arith}
use Rattle.plcs_grammar.specs.PlainPhrase.{plain_phrase}
use Rattle.type_marks.proofs.CheckedPlaces.{is_kept, not_dead, not_empty, slot_of_node}
use Rattle.type_marks.proofs.ListedVerdicts.{listed_verdict}
use Rattle.type_marks.proofs.due_checks.due_verdict.Goals as goal

pub unreachable-requires : goal.unreachable-requires
unreachable-requires g c =
    not_dead c.args.tree.now c.args.at c.requires.tree c.requires.filled (c.in_default.ensures.none.0 refl)

pub unreachable-requires-in_default-phrase_in : goal.unreachable-requires-in_default-phrase_in
unreachable-requires-in_default-phrase_in g c =
    let items = c.args.tree.now.items in
    let path = c.in-Some.path.items in
    let node = c.in-Some-node.node.now in
    let found = sym c.in-Some-node.ensures.found in
    not_empty c.args.tree.now c.args.at c.requires.tree c.requires.filled path node c.in-Some-procedure_item_on.procedure.now found
    (slot_of_node items path node c.args.at.slot.0 found c.in-Some.ensures.path) (sym c.in-Some-procedure_item_on.ensures.item)
    (sym c.in_default-phrase_in.ensures)

pub checked-requires-clause-there : goal.checked-requires-clause-there
checked-requires-clause-there g c =
    let place =
    is_kept c.args.tree.now c.args.at c.in-Some.path.items c.in-Some-node.node.now c.in-Some-procedure_item_on.procedure.now (plain_phrase c.in-Some-phrase_in.phrase.now)
    c.requires.tree c.requires.filled c.in-Some.ensures.path c.in-Some-node.ensures.found c.in-Some-node.ensures.subtree c.in-Some-procedure_item_on.ensures.item
    c.in-Some-procedure_item_on.ensures.subtree c.in-Some-procedure_item_on.ensures.few c.in-Some-phrase_in.ensures in
    place.found

pub checked-requires-clause-known : goal.checked-requires-clause-known
checked-requires-clause-known g c =
    let place =
    is_kept c.args.tree.now c.args.at c.in-Some.path.items c.in-Some-node.node.now c.in-Some-procedure_item_on.procedure.now (plain_phrase c.in-Some-phrase_in.phrase.now)
    c.requires.tree c.requires.filled c.in-Some.ensures.path c.in-Some-node.ensures.found c.in-Some-node.ensures.subtree c.in-Some-procedure_item_on.ensures.item
    c.in-Some-procedure_item_on.ensures.subtree c.in-Some-procedure_item_on.ensures.few c.in-Some-phrase_in.ensures in
    c.requires.known c.in-Some-procedure_item_on.procedure.now (plain_phrase c.in-Some-phrase_in.phrase.now) place.stands

pub checked-requires-clause-listed : goal.checked-requires-clause-listed
checked-requires-clause-listed g c =
    let place =
    is_kept c.args.tree.now c.args.at c.in-Some.path.items c.in-Some-node.node.now c.in-Some-procedure_item_on.procedure.now (plain_phrase c.in-Some-phrase_in.phrase.now)
    c.requires.tree c.requires.filled c.in-Some.ensures.path c.in-Some-node.ensures.found c.in-Some-node.ensures.subtree c.in-Some-procedure_item_on.ensures.item
    c.in-Some-procedure_item_on.ensures.subtree c.in-Some-procedure_item_on.ensures.few c.in-Some-phrase_in.ensures in
    place.listed

pub returns-in_ok-offence-in-Some-list_number-clause-verdict : goal.returns-in_ok-offence-in-Some-list_number-clause-verdict
returns-in_ok-offence-in-Some-list_number-clause-verdict g c =
    listed_verdict c.list_offences_are_verdicts.ensures c.args.tree.now c.args.at c.in-Some.path.items c.in-Some-node.node.now
    c.in-Some-procedure_item_on.procedure.now (plain_phrase c.in-Some-phrase_in.phrase.now) c.in-Some-list_number.k
    c.requires.tree c.requires.filled c.in-Some.ensures.path c.in-Some-node.ensures.found c.in-Some-node.ensures.subtree c.in-Some-procedure_item_on.ensures.item
    c.in-Some-procedure_item_on.ensures.subtree c.in-Some-procedure_item_on.ensures.few c.in-Some-phrase_in.ensures c.in-Some-list_number.ensures
    ∙ ap (λ offence. Some offence) (sym (c.counted.ensures.verdict ∙ c.in_ok-offence-in-Some-list_number.ensures.offence))

pub returns-in-None-clause-verdict : goal.returns-in-None-clause-verdict
returns-in-None-clause-verdict g c =
    let place =
    is_kept c.args.tree.now c.args.at c.in-Some.path.items c.in-Some-node.node.now c.in-Some-procedure_item_on.procedure.now (plain_phrase c.in-Some-phrase_in.phrase.now)
    c.requires.tree c.requires.filled c.in-Some.ensures.path c.in-Some-node.ensures.found c.in-Some-node.ensures.subtree c.in-Some-procedure_item_on.ensures.item
    c.in-Some-procedure_item_on.ensures.subtree c.in-Some-procedure_item_on.ensures.few c.in-Some-phrase_in.ensures in
    place.verdict_is ∙ ap (λ offence. Some offence) (sym c.checked.ensures.verdict)
