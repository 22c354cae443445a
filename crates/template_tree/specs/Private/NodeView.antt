-- What a node in memory is seen as.
use Rattle.std.specs.Prelude.{map}
use Rattle.template_tree.specs.declared.node.Node.TheInside.{Inside}
use Rattle.template_tree.specs.Programs.PlainTree.{PlainNode, forest}
use Rattle.template_tree.specs.Programs.PlainPhrasePlace.{plain_phrase_place}

-- what a node in memory is seen as: its fields, with the parts in plain form and the list of what stands inside as a
-- forest
abbrev pub seen : Inside → PlainNode
seen a =
    record {
      label =
          record {
            slot = a.slot.0;
            kind = a.kind;
            parts = map plain_phrase_place a.parts.items;
            elided = a.elided;
            spare = a.inner.spare;
          };
      inner = forest a.inner.items;
    }
