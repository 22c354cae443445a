use Rattle.std.proofs.Common.{map, refl}
use Rattle.plcs_grammar.specs.Template.{plain_segment}
use Rattle.template_tree.specs.Programs.PlainPhrasePlace.{plain_phrase_place}
use Rattle.file_store.proofs.PartTexts.{divided_after}
use Rattle.file_store.proofs.reader.parts.read_divided.Goals as goal

pub returns-in-Ok : goal.returns-in-Ok
returns-in-Ok c =
    divided_after c.line_laws.ensures c.args.category c.args.words.now c.args.text.now c.in-Some.part.now c.in-Some.rest.now
    (map plain_phrase_place c.args.parts.now.items) (map plain_phrase_place c.read_part.new.parts.items) _ (map plain_segment c.args.later.now) refl
    c.requires.some c.requires.cut c.in-Some.ensures c.in-Ok.ensures
