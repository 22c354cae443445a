use Rattle.std.specs.Prelude.{◌≡◌, ◌++◌, map, drop}
use Rattle.template_tree.specs.Programs.PlainPhrasePlace.{plain_phrase_place}
use Rattle.template_tree.proofs.Puts.FreshNodes.{empty_parts}
use Rattle.template_tree.proofs.fill.empty_parts.Given as goal

abbrev pub invariant-loop-segment : goal.invariant-loop-segment
invariant-loop-segment l = record {
  so_far : map plain_phrase_place l.parts.items ++ empty_parts (drop l.segment-index l.line) ≡ empty_parts l.line;
}
