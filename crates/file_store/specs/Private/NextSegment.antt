-- What comes first of the segments of a line.
use Rattle.std.specs.Prelude.{◌≡◌, List, [], ◌∷◌, map}
use Rattle.plcs_grammar.specs.Template.{PlainSegment, plain_segment}
use Rattle.file_store.specs.declared.reader.parts.Next.{Next}
use Rattle.file_store.specs.declared.reader.parts.Next.TheVariants.{End, Words, Part}

-- this is what comes first of the segments, with those behind it
abbrev pub IsNext : List PlainSegment → Next → Type 0
IsNext segments End = segments ≡ []
IsNext segments (Words words later) = segments ≡ PlainSegment.words words.now ∷ map plain_segment later.now
IsNext segments (Part category later) = segments ≡ PlainSegment.part category ∷ map plain_segment later.now
