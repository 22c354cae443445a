use Rattle.std.proofs.Common.{map}
use Rattle.plcs_grammar.specs.Template.{plain_segment}
use Rattle.template_tree.specs.Programs.PlainPhrasePlace.{plain_phrase_place}
use Rattle.file_store.specs.Private.LineReading.{AreNoSegments, AreReadAfter}
use Rattle.file_store.proofs.PartTexts.{finds_too, front_read, no_front_read, no_words_read, words_read}
use Rattle.file_store.proofs.reader.parts.+read_segments.Goals as goal

pub returns-in-Some : goal.returns-in-Some
returns-in-Some t c =
    let segments = map plain_segment c.args.segments.now in
    let later = map plain_segment c.in-Words.later.now in
    let parts = map plain_phrase_place c.args.parts.now.items in
    let all = map plain_phrase_place c.read_segments.new.parts.items in
    finds_too (λ (done : Unit {0}). AreReadAfter later c.in-Some.rest.now parts all)
    (λ (done : Unit {0}). AreReadAfter segments c.args.text.now parts all)
    (AreNoSegments later c.in-Some.rest.now) (AreNoSegments segments c.args.text.now) c.read_segments.result
    (λ done h. words_read c.in-Words.words.now c.args.text.now c.in-Some.rest.now segments later parts all c.in-Words.ensures c.in-Some.ensures h)
    (λ none. no_words_read c.in-Words.words.now c.args.text.now c.in-Some.rest.now segments later c.in-Words.ensures c.in-Some.ensures none)
    c.read_segments.ensures

pub returns-in_ok-front-in-Part : goal.returns-in_ok-front-in-Part
returns-in_ok-front-in-Part t c =
    let segments = map plain_segment c.args.segments.now in
    let behind = map plain_segment c.in-Part.later.now in
    let later = map plain_segment c.in_ok-front-in-Part.front.later.now in
    let rest = c.in_ok-front-in-Part.front.rest.now in
    let parts = map plain_phrase_place c.args.parts.now.items in
    let next = map plain_phrase_place c.read_front.new.parts.items in
    let all = map plain_phrase_place c.read_segments-in-Part.new.parts.items in
    finds_too (λ (done : Unit {0}). AreReadAfter later rest next all)
    (λ (done : Unit {0}). AreReadAfter segments c.args.text.now parts all)
    (AreNoSegments later rest) (AreNoSegments segments c.args.text.now) c.read_segments-in-Part.result
    (λ done h. front_read c.in-Part.category c.args.text.now rest segments behind later parts next all c.in-Part.ensures c.in_ok-front-in-Part.ensures h)
    (λ none. no_front_read c.in-Part.category c.args.text.now rest segments behind later parts next c.in-Part.ensures c.in_ok-front-in-Part.ensures none)
    c.read_segments-in-Part.ensures
