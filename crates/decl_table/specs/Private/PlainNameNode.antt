-- Nodes whose names are kept, one by one, as plain data, and what they mention.
use Rattle.std.specs.Prelude.{◌≡◌, refl, ℕ, ◌+◌, ◌-◌, ◌<◌, length, if◌then◌else◌, bytes_eq, List, [], ◌∷◌, ◌++◌, map, slice_set, Option, Some, None, option_map}
use Rattle.std.specs.List.{insert, list_any, remove}
use Rattle.std.proofs.Common.{ap}
use Rattle.plcs_base.specs.declared.place.PhraseAt.{PhraseAt}
use Rattle.template_tree.specs.Checks.Mention.{phrase_at}
use Rattle.template_tree.specs.Programs.PlainTree.{PlainNode}
use Rattle.decl_table.specs.Names.{NameForest, NameLabel, kept_names, names_of}

-- a node whose names are kept, with what stands inside it
pub record PlainNameNode : Type 0 where
  pub label : NameLabel
  pub inner : NameForest

-- a list of nodes whose names are kept, with how many more it has room for
pub record PlainNameNodes : Type 0 where
  pub items : List PlainNameNode
  pub spare : ℕ

-- nodes in order whose names are kept, as a list
abbrev pub name_nodes : NameForest → List PlainNameNode
name_nodes NameForest.nil = []
name_nodes (NameForest.cons label inner rest) = record { label = label; inner = inner } ∷ name_nodes rest

-- a list of nodes whose names are kept, as nodes in order
abbrev pub name_forest : List PlainNameNode → NameForest
name_forest [] = NameForest.nil
name_forest (node ∷ rest) = NameForest.cons node.label node.inner (name_forest rest)

-- a list of nodes whose names are kept, made nodes in order and a list again, is that list
pub name_nodes_forest : (items : List PlainNameNode) → name_nodes (name_forest items) ≡ items
name_nodes_forest [] = refl
name_nodes_forest (node ∷ rest) = ap (λ items. node ∷ items) (name_nodes_forest rest)

-- nodes in order whose names are kept, made a list and nodes in order again, are those nodes
pub name_forest_nodes : (names : NameForest) → name_forest (name_nodes names) ≡ names
name_forest_nodes NameForest.nil = refl
name_forest_nodes (NameForest.cons label inner rest) = ap (λ others. NameForest.cons label inner others) (name_forest_nodes rest)

-- what is kept of the names of a node
abbrev pub name_node_of : PlainNode → PlainNameNode
name_node_of node =
    record {
      label =
          record
          { slot = node.label.slot; kind = node.label.kind; parts = map (option_map kept_names) node.label.parts };
      inner = names_of node.inner;
    }

-- a node whose names are kept with one more behind those inside it
abbrev pub with_last_name_node : PlainNameNode → PlainNameNode → PlainNameNode
with_last_name_node node item = record node { inner = name_forest (name_nodes node.inner ++ (item ∷ [])) }

-- a node whose names are kept with what is kept of one more part
abbrev pub with_last_part : PlainNameNode → Option (List (List ℕ)) → PlainNameNode
with_last_part node names = record node { label = record node.label { parts = node.label.parts ++ (names ∷ []) } }

-- each of the nodes, and of those inside them, has no more parts than there are numbers for the places of phrases
abbrev pub HaveFewParts : NameForest → Type 0
HaveFewParts NameForest.nil = Unit {0}
HaveFewParts (NameForest.cons label inner rest) =
    (length label.parts < 256) × HaveFewParts inner × HaveFewParts rest

-- a node whose names are kept, alone in a list
abbrev pub node_names : PlainNameNode → NameForest
node_names node = NameForest.cons node.label node.inner NameForest.nil

-- a list of nodes whose names are kept with another one in the place of this number
abbrev pub with_name_node_set : PlainNameNodes → ℕ → PlainNameNode → PlainNameNodes
with_name_node_set list k node = record list { items = slice_set list.items k node }

-- a list of nodes whose names are kept with one more before the one of this number, in room that was there
abbrev pub with_name_node_inserted : PlainNameNodes → ℕ → PlainNameNode → PlainNameNodes
with_name_node_inserted list k node = record { items = insert list.items k node; spare = list.spare - 1 }

-- a list of nodes whose names are kept without the one of this number, whose room is left
abbrev pub with_name_node_removed : PlainNameNodes → ℕ → PlainNameNodes
with_name_node_removed list k = record { items = remove list.items k; spare = list.spare + 1 }

-- the place, if names are kept of a phrase there
abbrev pub kept_place : PhraseAt → Option (List (List ℕ)) → List PhraseAt
kept_place at None = []
kept_place at (Some names) = at ∷ []

-- the places in the parts of a node, from the part of this number on, where names are kept of a phrase
abbrev pub kept_places : (slot part : ℕ) → List (Option (List (List ℕ))) → List PhraseAt
kept_places slot part [] = []
kept_places slot part (names ∷ parts) = kept_place (phrase_at slot part) names ++ kept_places slot (part + 1) parts

-- the places in nodes in order where names are kept of a phrase
abbrev pub name_places : NameForest → List PhraseAt
name_places NameForest.nil = []
name_places (NameForest.cons label inner rest) =
    kept_places label.slot 0 label.parts ++ (name_places inner ++ name_places rest)

-- the place, if a phrase stands there of which these names are kept, and the name is among them
abbrev pub kept_mention : List ℕ → PhraseAt → Option (List (List ℕ)) → List PhraseAt
kept_mention name at None = []
kept_mention name at (Some names) = if list_any (bytes_eq name) names then at ∷ [] else []

-- the places in the parts of a node, from the part of this number on, where the name is among those that are kept
abbrev pub kept_part_mentions : List ℕ → (slot part : ℕ) → List (Option (List (List ℕ))) → List PhraseAt
kept_part_mentions name slot part [] = []
kept_part_mentions name slot part (names ∷ parts) =
    kept_mention name (phrase_at slot part) names ++ kept_part_mentions name slot (part + 1) parts

-- the places in nodes in order where the name is among those that are kept
abbrev pub kept_mentions : List ℕ → NameForest → List PhraseAt
kept_mentions name NameForest.nil = []
kept_mentions name (NameForest.cons label inner rest) =
    kept_part_mentions name label.slot 0 label.parts ++ (kept_mentions name inner ++ kept_mentions name rest)
