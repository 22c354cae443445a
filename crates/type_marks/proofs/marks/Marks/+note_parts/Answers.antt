-- The parts behind this one are noted first, by the recursion; an empty part adds no verdict and no check, and a
-- filled one adds its own before theirs, for one check. Behind the last part nothing is noted, and nothing is left to
-- note.
use Rattle.std.proofs.Common.{◌≡◌, ℕ, ◌+◌, Some, None, drop, length, slice_get, refl, sym, ap, subst, ◌∙◌, arith}
use Rattle.std.proofs.lemmas.Option.{slice_get_within}
use Rattle.std.specs.Option.{option_flatten}
use Rattle.plcs_base.specs.declared.place.PhraseAt.{PhraseAt}
use Rattle.plcs_grammar.specs.PlainPhrase.{plain_phrase}
use Rattle.template_tree.specs.Checks.Marks.{VerdictList, part_verdicts, surroundings}
use Rattle.template_tree.specs.Checks.Mention.{phrase_at}
use Rattle.template_tree.specs.Programs.PlainPhrasePlace.{plain_phrase_place}
use Rattle.template_tree.specs.Checks.Verdict.{verdict}
use Rattle.type_marks.specs.Private.DeclaredItems.{IsListIn}
use Rattle.type_marks.specs.MarkEdit.{with_all}
use Rattle.type_marks.proofs.NotedVerdicts.{at_most, noted_none, noted_part, part_empty, part_filled, parts_shorter, then_ok}
use Rattle.type_marks.proofs.marks.Marks.+note_parts.Goals as goal

pub returns-in_default-clause-noted : goal.returns-in_default-clause-noted
returns-in_default-clause-noted g t c =
    let slot = c.args.node.now.label.slot in
    noted_none (surroundings c.args.tree.now.items c.args.procedure.now slot) slot c.args.part c.args.node.now.label.parts c.args.self.now.verdicts
    (sym c.in_default.ensures)

pub returns-in_default-clause-counts : goal.returns-in_default-clause-counts
returns-in_default-clause-counts g t c =
    let slot = c.args.node.now.label.slot in
    c.counts_add_up.ensures.checks.none
    (length (part_verdicts (surroundings c.args.tree.now.items c.args.procedure.now slot) slot c.args.part (drop c.args.part c.args.node.now.label.parts)))
    (g.W.Work.counts c.args.work.now) (g.W.Work.counts c.args.work.now) refl

pub overflow_add-part : goal.overflow_add-part
overflow_add-part g t c =
    omega (arith, slice_get_within c.args.node.now.label.parts c.args.part (plain_phrase_place c.in-Some.place.now) (sym c.in-Some.ensures), c.requires.few)

pub note_parts-requires : goal.note_parts-requires
note_parts-requires g t c κs within =
    let there = slice_get_within c.args.node.now.label.parts c.args.part (plain_phrase_place c.in-Some.place.now) (sym c.in-Some.ensures) in (
      omega (arith, there),
      (within, (c.requires.tree, (c.requires.decls, (c.requires.item, (c.requires.listed, c.requires.few))))),
    )

pub returns-in_err-note_parts-clause-counts : goal.returns-in_err-note_parts-clause-counts
returns-in_err-note_parts-clause-counts g t c =
    let slot = c.args.node.now.label.slot in
    let parts = c.args.node.now.label.parts in
    let part = c.args.part in
    let around = surroundings c.args.tree.now.items c.args.procedure.now slot in
    at_most (length (part_verdicts around slot (part + 1) (drop (part + 1) parts))) (length (part_verdicts around slot part (drop part parts)))
    (g.W.Work.counts c.args.work.now) (g.W.Work.counts c.note_parts.new.work)
    (parts_shorter around slot part parts (plain_phrase_place c.in-Some.place.now) (sym c.in-Some.ensures)) c.note_parts.ensures.counts

pub returns-in_default-place-clause-noted : goal.returns-in_default-place-clause-noted
returns-in_default-place-clause-noted g t c =
    let slot = c.args.node.now.label.slot in
    let parts = c.args.node.now.label.parts in
    let there : slice_get parts c.args.part ≡ Some None = sym c.in-Some.ensures ∙ ap (λ p. Some (plain_phrase_place p)) c.in_default-place.is in
    c.in_ok-note_parts.ensures.noted
    ∙ ap (λ (verdicts : VerdictList). with_all verdicts c.args.self.now.verdicts)
    (sym (part_empty (surroundings c.args.tree.now.items c.args.procedure.now slot) slot c.args.part parts there))

pub returns-in_default-place-clause-counts : goal.returns-in_default-place-clause-counts
returns-in_default-place-clause-counts g t c =
    let slot = c.args.node.now.label.slot in
    let parts = c.args.node.now.label.parts in
    let part = c.args.part in
    let around = surroundings c.args.tree.now.items c.args.procedure.now slot in
    at_most (length (part_verdicts around slot (part + 1) (drop (part + 1) parts))) (length (part_verdicts around slot part (drop part parts)))
    (g.W.Work.counts c.args.work.now) (g.W.Work.counts c.note_parts.new.work)
    (parts_shorter around slot part parts (plain_phrase_place c.in-Some.place.now) (sym c.in-Some.ensures)) c.note_parts.ensures.counts

pub checked-verdict-requires-clause-listed : goal.checked-verdict-requires-clause-listed
checked-verdict-requires-clause-listed g t c =
    let parts = c.args.node.now.label.parts in
    let phrase = plain_phrase c.in-Filled.phrase in
    let there : slice_get parts c.args.part ≡ Some (Some phrase) = sym c.in-Some.ensures ∙ ap (λ p. Some (plain_phrase_place p)) c.in-Filled.is in
    subst (λ (slot : ℕ). IsListIn c.args.procedure.now.inner slot phrase) (sym c.slot-2.ensures)
    (c.requires.listed c.args.part phrase (ap option_flatten there))

pub returns-clause-noted : goal.returns-clause-noted
returns-clause-noted g t c =
    let program = c.args.tree.now.items in
    let procedure = c.args.procedure.now in
    let slot = c.args.node.now.label.slot in
    let parts = c.args.node.now.label.parts in
    let part = c.args.part in
    let phrase = plain_phrase c.in-Filled.phrase in
    let there : slice_get parts part ≡ Some (Some phrase) = sym c.in-Some.ensures ∙ ap (λ p. Some (plain_phrase_place p)) c.in-Filled.is in
    let at : PhraseAt = record { slot = c.slot.result; part = part } in
    let at_is : at ≡ phrase_at slot part = ap (λ (n : ℕ). phrase_at n part) c.slot.ensures in
    let found_is : c.checked-verdict.result ≡ verdict (surroundings program procedure slot) phrase =
    c.checked-verdict.ensures.verdict ∙ ap (λ (n : ℕ). verdict (surroundings program procedure n) phrase) c.slot-2.ensures in
    then_ok c.note.result
    (noted_part (surroundings program procedure slot) slot part parts phrase c.args.self.now.verdicts c.note_parts.new.self.verdicts c.note.new.self.verdicts at c.checked-verdict.result there at_is found_is
    c.in_ok-note_parts.ensures.noted)
    c.note.ensures

pub returns-clause-counts : goal.returns-clause-counts
returns-clause-counts g t c =
    let slot = c.args.node.now.label.slot in
    let parts = c.args.node.now.label.parts in
    let part = c.args.part in
    let phrase = plain_phrase c.in-Filled.phrase in
    let there : slice_get parts part ≡ Some (Some phrase) = sym c.in-Some.ensures ∙ ap (λ p. Some (plain_phrase_place p)) c.in-Filled.is in
    let around = surroundings c.args.tree.now.items c.args.procedure.now slot in
    let more = part_filled around slot part parts phrase there in
    let between = g.W.Work.counts c.note_parts.new.work in
    let now = g.W.Work.counts c.checked-verdict.new.work in
    c.counts_add_up.ensures.checks.joined (length (part_verdicts around slot (part + 1) (drop (part + 1) parts))) 1
    (length (part_verdicts around slot part (drop part parts))) (g.W.Work.counts c.args.work.now) between now
    (omega (arith, ap (λ (verdicts : VerdictList). length verdicts) more)) c.note_parts.ensures.counts
    (c.counts_add_up.ensures.checks.one 1 between now (omega arith) c.checked-verdict.ensures.counts)
