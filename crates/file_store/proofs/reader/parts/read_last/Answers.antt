use Rattle.std.proofs.Common.{[], ◌∷◌, map, refl}
use Rattle.plcs_grammar.specs.Template.{PlainSegment}
use Rattle.template_tree.specs.Programs.PlainPhrasePlace.{plain_phrase_place}
use Rattle.file_store.specs.Private.LineReading.{AreNoSegments, IsFrontAfter, IsNoPart, IsPartAfter}
use Rattle.file_store.proofs.PartTexts.{finds_too, last_after, no_last_part}
use Rattle.file_store.proofs.reader.parts.read_last.Goals as goal

pub returns : goal.returns
returns c =
    let words = PlainSegment.words c.args.words.now ∷ [] in
    let parts = map plain_phrase_place c.args.parts.now.items in
    let next = map plain_phrase_place c.read_part.new.parts.items in
    finds_too (λ (done : Unit {0}). IsPartAfter c.args.category c.in-Some.part.now parts next)
    (λ (done : Unit {0}). IsFrontAfter c.args.category words c.args.text.now parts next [] [])
    (IsNoPart c.args.category c.in-Some.part.now) (AreNoSegments (PlainSegment.part c.args.category ∷ words) c.args.text.now) c.read_part.result
    (λ done h. last_after c.args.category c.args.words.now c.args.text.now c.in-Some.part.now parts next words refl c.in-Some.ensures h)
    (λ none. no_last_part c.args.category c.args.words.now c.args.text.now c.in-Some.part.now words refl c.in-Some.ensures none)
    c.read_part.ensures
