-- What a node in memory whose names are kept is seen as.
use Rattle.decl_table.specs.declared.name_node.NameNode.TheInside.{Inside}
use Rattle.decl_table.specs.Private.PlainNameNode.{PlainNameNode, name_forest}

-- what a node in memory whose names are kept is seen as
abbrev pub seen_names : Inside → PlainNameNode
seen_names a =
    record {
      label = record { slot = a.slot.0; kind = a.kind; parts = a.parts.items };
      inner = name_forest a.inner.items;
    }
