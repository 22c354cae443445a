-- The parts of a node stand where its row has parts.
use Rattle.std.specs.Prelude.{◌≡◌, refl, ℕ, zero, suc, ◌<◌, List, [], ◌∷◌, length, map, get_or, Option, Some, option_map, slice_get, slice_set}
use Rattle.std.proofs.Common.{ap, ◌∙◌, arith}
use Rattle.std.proofs.lemmas.List.{map-set}
use Rattle.std.proofs.lemmas.Option.{slice_get-map, slice_get_read}
use Rattle.plcs_grammar.specs.declared.category.Category.{Category}
use Rattle.plcs_grammar.specs.PlainPhrase.{PlainPhrase}
use Rattle.template_tree.specs.Programs.Program.{AreParts}
use Rattle.plcs_grammar.specs.Template.{row_of}
use Rattle.template_tree.specs.declared.phrase_place.PhrasePlace.{PhrasePlace}
use Rattle.template_tree.specs.Programs.PlainPhrasePlace.{plain_phrase_place}
use Rattle.template_tree.specs.Programs.PlainTree.{PlainNode}
use Rattle.template_tree.specs.Programs.Program.{parts_of}
use Rattle.template_tree.specs.Programs.Part.{Takes, part_category}

-- as many parts as categories
pub parts_length : (categories : List Category) (parts : List (Option PlainPhrase)) → AreParts categories parts → length categories ≡ length parts
parts_length [] [] h = refl
parts_length [] (part ∷ parts) h = absurd h
parts_length (category ∷ categories) [] h = absurd h
parts_length (category ∷ categories) (part ∷ parts) h = ap suc (parts_length categories parts h.1)

-- a part that takes something is there
pub takes_there : (categories : List Category) (k : ℕ) (place : Option PlainPhrase) → Takes (slice_get categories k) place → k < length categories
takes_there [] k place t = absurd t
takes_there (category ∷ categories) zero place t = omega arith
takes_there (category ∷ categories) (suc k) place t = omega (arith, takes_there categories k place t)

-- the same in a node
pub takes_in_node : (node : PlainNode) (part : ℕ) (place : Option PlainPhrase)
    → AreParts (parts_of (row_of node.label.kind).line) node.label.parts → Takes (part_category node.label.kind part) place
    → part < length node.label.parts
takes_in_node node part place parts takes =
    rw (← parts_length (parts_of (row_of node.label.kind).line) node.label.parts parts)
    (takes_there (parts_of (row_of node.label.kind).line) part place takes)

-- what is read of a part in memory
pub part_read : (parts : List PhrasePlace) (part : ℕ) (there : PhrasePlace) → part < length parts → there ≡ get_or parts part there
    → slice_get (map plain_phrase_place parts) part ≡ Some (plain_phrase_place there)
part_read parts part there within is =
    slice_get-map plain_phrase_place parts part ∙ ap (option_map plain_phrase_place) (slice_get_read parts (length parts) part there refl within is)

-- what is written to one
pub part_written : (parts : List PhrasePlace) (part : ℕ) (new place : PhrasePlace) → new ≡ place
    → map plain_phrase_place (slice_set parts part new) ≡ slice_set (map plain_phrase_place parts) part (plain_phrase_place place)
part_written parts part new place same = map-set plain_phrase_place parts part new ∙ ap (λ p. slice_set (map plain_phrase_place parts) part (plain_phrase_place p)) same
