-- The uses of names once phrases went and came.
use Rattle.std.specs.Prelude.{ℕ, List, Option}
use Rattle.decl_table.specs.PlainDecls.{PlainUses, mentions_of}
use Rattle.decl_table.specs.Private.ChangeBefore.{places_of}
use Rattle.decl_table.specs.Private.PlainNameNode.{PlainNameNode}
use Rattle.decl_table.specs.Private.UsesView.{IsNameMended, IsSettled}

-- the uses of names once the phrases went that stood in a node, and those came that stand in one: with what went and
-- what came under each name
pub record AreUsesMended (part : Option ℕ) (stood stands : Option PlainNameNode) (before mended : PlainUses) : Type 0
  where
    pub gone : PlainUses
    pub came : PlainUses
    pub gone_is : (name : List ℕ) → IsSettled (places_of part stood name) (mentions_of name gone)
    pub came_is : (name : List ℕ) → IsSettled (places_of part stands name) (mentions_of name came)
    pub each : (name : List ℕ) → IsNameMended before gone came mended name
