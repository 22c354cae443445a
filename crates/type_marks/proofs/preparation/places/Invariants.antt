use Rattle.std.proofs.Common.{take}
use Rattle.type_marks.specs.Private.CheckedLists.{AreSamePlaces}
use Rattle.type_marks.proofs.preparation.places.Given as goal

abbrev pub invariant-loop-at : goal.invariant-loop-at
invariant-loop-at l = AreSamePlaces (take l.at-index l.gone) l.places.keys
