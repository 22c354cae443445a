-- The names that are kept of a program tell where each name is mentioned and where phrases stand, as the program does.
use Rattle.std.proofs.Common.{◌≡◌, ℕ, ◌+◌, Bool, true, false, List, [], ◌∷◌, ◌++◌, map, Option, Some, None, option_map, refl, ap, ◌∙◌, arith}
use Rattle.std.specs.Prelude.{◌||◌, bytes_eq, if◌then◌else◌, reverse}
use Rattle.std.specs.List.{list_any}
use Rattle.std.proofs.lemmas.List.{length-map, reverse-append}
use Rattle.std.proofs.lemmas.List.Folds.{list_any-append}
use Rattle.plcs_base.specs.declared.place.PhraseAt.{PhraseAt}
use Rattle.plcs_grammar.specs.PlainPhrase.{PlainPhrase}
use Rattle.template_tree.specs.Checks.Mention.{mention, mentioned, mentions, part_mentions, phrase_at}
use Rattle.template_tree.specs.Programs.PlainTree.{Forest}
use Rattle.template_tree.specs.Programs.Program.{AreNodes}
use Rattle.decl_table.specs.Due.{filled_place, filled_places, phrase_places}
use Rattle.decl_table.specs.Names.{kept_names, names_of}
use Rattle.decl_table.specs.Private.PlainNameNode.{HaveFewParts, kept_mention, kept_mentions, kept_part_mentions, kept_place, kept_places, name_places}
use Rattle.decl_table.proofs.MadeNames.{few_parts}

turned : (a b : Bool) → (a || (b || false)) ≡ (b || a)
turned true true = refl
turned true false = refl
turned false true = refl
turned false false = refl

-- a name is among names from the last one on where it is among them
pub any_reverse : (test : List ℕ → Bool) (names : List (List ℕ)) → list_any test (reverse names) ≡ list_any test names
any_reverse test [] = refl
any_reverse test (x ∷ xs) =
    ap (list_any test) (reverse-append (x ∷ []) xs)
    ∙ list_any-append test (reverse xs) (x ∷ [])
    ∙ ap (λ b. b || (test x || false)) (any_reverse test xs)
    ∙ turned (list_any test xs) (test x)

pub mention_is : (name : List ℕ) (at : PhraseAt) (place : Option PlainPhrase)
    → kept_mention name at (option_map kept_names place) ≡ mention name at place
mention_is name at None = refl
mention_is name at (Some phrase) =
    ap (λ (b : Bool). let l : List PhraseAt = if b then at ∷ [] else [] in l) (any_reverse (bytes_eq name) (mentioned phrase))

part_mentions_are : (name : List ℕ) (slot part : ℕ) (parts : List (Option PlainPhrase))
    → kept_part_mentions name slot part (map (option_map kept_names) parts) ≡ part_mentions name slot part parts
part_mentions_are name slot part [] = refl
part_mentions_are name slot part (place ∷ parts) =
    λ i. mention_is name (phrase_at slot part) place i ++ part_mentions_are name slot (part + 1) parts i

-- the places where a name is mentioned
pub mentions_are : (name : List ℕ) (items : Forest) → kept_mentions name (names_of items) ≡ mentions name items
mentions_are name Forest.nil = refl
mentions_are name (Forest.cons label inner rest) =
    λ i. part_mentions_are name label.slot 0 label.parts i ++ (mentions_are name inner i ++ mentions_are name rest i)

pub place_is : (at : PhraseAt) (place : Option PlainPhrase) → kept_place at (option_map kept_names place) ≡ filled_place at place
place_is at None = refl
place_is at (Some phrase) = refl

part_places_are : (slot part : ℕ) (parts : List (Option PlainPhrase))
    → kept_places slot part (map (option_map kept_names) parts) ≡ filled_places slot part parts
part_places_are slot part [] = refl
part_places_are slot part (place ∷ parts) =
    λ i. place_is (phrase_at slot part) place i ++ part_places_are slot (part + 1) parts i

-- the places where phrases stand
pub places_are : (items : Forest) → name_places (names_of items) ≡ phrase_places items
places_are Forest.nil = refl
places_are (Forest.cons label inner rest) =
    λ i. part_places_are label.slot 0 label.parts i ++ (places_are inner i ++ places_are rest i)

-- no node has more parts than there are numbers for places
pub names_few : (items : Forest) → AreNodes items → HaveFewParts (names_of items)
names_few Forest.nil are = tt
names_few (Forest.cons label inner rest) are =
    let few = few_parts record { label = label; inner = inner } (are.0, are.1) in
    let same = length-map label.parts (option_map kept_names) in
    (omega (arith, few, same), names_few inner are.1, names_few rest are.2)
