-- What a table of declarations keeps of the nodes of a program: which names their phrases mention.
use Rattle.std.specs.Prelude.{ℕ, List, map, reverse, Option, option_map}
use Rattle.plcs_grammar.specs.declared.node_kind.NodeKind.{NodeKind}
use Rattle.plcs_grammar.specs.PlainPhrase.{PlainPhrase}
use Rattle.template_tree.specs.Checks.Mention.{mentioned}
use Rattle.template_tree.specs.Programs.PlainTree.{Forest}

-- the names that are kept of a phrase: those that it mentions, from the last one on, since a phrase is gone through
-- from its end
abbrev pub kept_names : PlainPhrase → List (List ℕ)
kept_names phrase = reverse (mentioned phrase)

-- what is kept of a node beside the names of those inside it: its slot, its kind, and the names of the phrase in each
-- of its parts, or none where a part is empty
pub record NameLabel : Type 0 where
  pub slot : ℕ
  pub kind : NodeKind
  pub parts : List (Option (List (List ℕ)))

-- nodes in order, of each of which the names are kept that its phrases mention, with what stands inside it
pub data NameForest : Type 0 where
  nil : NameForest
  cons : (label : NameLabel) (inner rest : NameForest) → NameForest

-- the names that are kept of the nodes of a program
abbrev pub names_of : Forest → NameForest
names_of Forest.nil = NameForest.nil
names_of (Forest.cons label inner rest) =
    NameForest.cons record { slot = label.slot; kind = label.kind; parts = map (option_map kept_names) label.parts }
    (names_of inner) (names_of rest)
