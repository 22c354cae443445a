use Rattle.std.proofs.Common.{◌≡◌, [], ◌∷◌, ◌++◌, map}
use Rattle.template_tree.specs.Programs.PlainPhrasePlace.{plain_phrase_place}
use Rattle.file_store.specs.Private.LineReading.{IsNoPart, IsPartAfter}
use Rattle.file_store.proofs.PartTexts.{finds_too}
use Rattle.file_store.proofs.reader.parts.read_part.Goals as goal

pub returns-in-Ok : goal.returns-in-Ok
returns-in-Ok c =
    let place = plain_phrase_place c.in-Ok.place in
    let parts = map plain_phrase_place c.args.parts.now.items in
    let next = map plain_phrase_place c.put_place.new.parts.items in
    finds_too (λ (done : Unit {0}). next ≡ parts ++ (place ∷ [])) (λ (done : Unit {0}). IsPartAfter c.args.category c.args.text.now parts next) ⊥
    (IsNoPart c.args.category c.args.text.now) c.put_place.result (λ done is. record { part = place; pushed = is; read = c.in-Ok.ensures })
    (λ none. absurd none) c.put_place.ensures
