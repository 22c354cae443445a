use Rattle.std.specs.Prelude.{◌≡◌, take, map}
use Rattle.template_tree.specs.Programs.PlainPhrasePlace.{plain_phrase_place}
use Rattle.template_tree.proofs.copy.copy_phrase_places.Given as goal

abbrev pub invariant-loop-place : goal.invariant-loop-place
invariant-loop-place l = map plain_phrase_place l.copies.items ≡ map plain_phrase_place (take l.place-index l.places)
