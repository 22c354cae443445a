-- Nodes and trees as plain data.
use Rattle.std.specs.Prelude.{◌≡◌, ℕ, Bool, List, [], ◌∷◌, Option, refl}
use Rattle.std.proofs.Common.{ap}
use Rattle.plcs_grammar.specs.declared.node_kind.NodeKind.{NodeKind}
use Rattle.plcs_grammar.specs.PlainPhrase.{PlainPhrase}

-- the label of a node as plain data: its slot, its kind, its parts in the order shown with nothing where one is empty,
-- whether it is elided, and how many more items its list has room for
pub record Label : Type 0 where
  pub slot : ℕ
  pub kind : NodeKind
  pub parts : List (Option PlainPhrase)
  pub elided : Bool
  pub spare : ℕ

-- a forest: nodes in order as plain data, each with what stands inside it
pub data Forest : Type 0 where
  nil : Forest
  cons : (label : Label) (inner rest : Forest) → Forest

-- a node as plain data: its label, with what stands inside it
pub record PlainNode : Type 0 where
  pub label : Label
  pub inner : Forest

-- a node as plain data whose list has this much room
abbrev pub with_spare : ℕ → PlainNode → PlainNode
with_spare spare node = record node { label = record node.label { spare = spare } }

-- the nodes of a forest as a list
abbrev pub nodes : Forest → List PlainNode
nodes nil = []
nodes (cons label inner rest) = record { label = label; inner = inner } ∷ nodes rest

-- a list of nodes as plain data, made a forest
abbrev pub forest : List PlainNode → Forest
forest [] = nil
forest (node ∷ rest) = cons node.label node.inner (forest rest)

-- a list of nodes as plain data, made a forest and then a list of nodes again, is the same list
pub nodes_forest : (items : List PlainNode) → nodes (forest items) ≡ items
nodes_forest [] = refl
nodes_forest (node ∷ rest) = ap (λ items. node ∷ items) (nodes_forest rest)

-- a forest, which is nodes as plain data, made a list of nodes and then a forest again, is the same forest
pub forest_nodes : (items : Forest) → forest (nodes items) ≡ items
forest_nodes nil = refl
forest_nodes (cons label inner rest) = ap (λ items. cons label inner items) (forest_nodes rest)

-- two forests joined: the nodes of the one, and those of the other behind them
abbrev pub join : Forest → Forest → Forest
join nil others = others
join (cons label inner rest) others = cons label inner (join rest others)

-- a forest without the room of the lists in it
abbrev pub roomless : Forest → Forest
roomless nil = nil
roomless (cons label inner rest) = cons (record label { spare = 0 }) (roomless inner) (roomless rest)

-- a node as plain data without the room of the lists in it
abbrev pub roomless_node : PlainNode → PlainNode
roomless_node node = record { label = record node.label { spare = 0 }; inner = roomless node.inner }

-- a list of nodes of a tree as plain data, with how many more it has room for
pub record PlainNodes : Type 0 where
  pub items : List PlainNode
  pub spare : ℕ

-- a tree as plain data: main and the procedures in order with the room for more, how many slots were drawn, and how
-- many are live
pub record PlainTree : Type 0 where
  pub items : Forest
  pub spare : ℕ
  pub drawn : ℕ
  pub live : ℕ

-- a tree as plain data without the room of the lists in it
abbrev pub roomless_tree : PlainTree → PlainTree
roomless_tree tree = record { items = roomless tree.items; spare = 0; drawn = tree.drawn; live = tree.live }
