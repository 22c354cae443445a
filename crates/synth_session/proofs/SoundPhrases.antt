-- A phrase at the cursor may stand in a part of its category.
use Rattle.std.proofs.Common.{◌≡◌, ℕ, zero, suc, List, [], ◌∷◌, Option, Some, None, option_and_then, sym, subst}
use Rattle.std.specs.Prelude.{IfSome, slice_get}
use Rattle.plcs_grammar.specs.Canon.{Canon}
use Rattle.plcs_grammar.specs.declared.category.Category.{Category}
use Rattle.plcs_grammar.specs.PlainPhrase.{PlainPhrase, category_of}
use Rattle.plcs_grammar.specs.Template.{row_of}
use Rattle.template_tree.specs.Programs.Part.{part_at}
use Rattle.template_tree.specs.Positions.Path.{below, node_at}
use Rattle.template_tree.specs.Programs.PlainTree.{Forest, PlainNode, PlainTree, nodes}
use Rattle.template_tree.specs.Programs.Program.{AreNodes, AreParts, IsPartPhrase, IsSubtree, parts_of}
use Rattle.template_tree.specs.Positions.Stop.{PlainStop}
use Rattle.template_tree.specs.Programs.Tree.{IsTree}
use Rattle.screen_window.specs.LowerRows.{cursor_part}
use Rattle.phrase_parser.specs.ReadingLaws.{ReadingHasCategory}
use Rattle.synth_session.specs.TypedLine.{cursor_phrase}

-- a phrase of a category is one of its own
own_phrase : ReadingHasCategory → (c : Category) (p : PlainPhrase) → IsPartPhrase c p → IsPartPhrase (category_of p) p
own_phrase law c p is = subst (λ (d : Category). IsPartPhrase d p) (sym (law c (Canon p) p is.well_formed.0)) is

-- a phrase among parts is one
part_sound : ReadingHasCategory → (categories : List Category) (parts : List (Option PlainPhrase)) (k : ℕ) → AreParts categories parts
    → IfSome (part_at parts k) (λ p. IsPartPhrase (category_of p) p)
part_sound law [] [] k are = tt
part_sound law [] (part ∷ parts) k are = absurd are
part_sound law (c ∷ cs) [] k are = absurd are
part_sound law (c ∷ cs) (None ∷ parts) zero are = tt
part_sound law (c ∷ cs) (Some p ∷ parts) zero are = own_phrase law c p are.0
part_sound law (c ∷ cs) (part ∷ parts) (suc k) are = part_sound law cs parts k are.1

-- a node of sound nodes is a part of a program
subtree_among : (items : Forest) (k : ℕ) → AreNodes items → IfSome (slice_get (nodes items) k) IsSubtree
subtree_among Forest.nil k sound = tt
subtree_among (Forest.cons label inner rest) zero sound = (sound.0, sound.1)
subtree_among (Forest.cons label inner rest) (suc k) sound = subtree_among rest k sound.2

-- what holds of a node's inner nodes holds of the one that is found
subtree_in : (path : List ℕ) → ((node : PlainNode) → IsSubtree node → IfSome (below node path) IsSubtree) → (found : Option PlainNode)
    → IfSome found IsSubtree → IfSome (option_and_then (λ item. below item path) found) IsSubtree
subtree_in path each None is = tt
subtree_in path each (Some node) is = each node is

subtree_below : (path : List ℕ) (node : PlainNode) → IsSubtree node → IfSome (below node path) IsSubtree
subtree_below [] node is = is
subtree_below (k ∷ path) node is =
    subtree_in path (subtree_below path) (slice_get (nodes node.inner) k) (subtree_among node.inner k is.1)

-- so is the node at a path
subtree_at : (items : Forest) (path : List ℕ) → AreNodes items → IfSome (node_at items path) IsSubtree
subtree_at items [] sound = tt
subtree_at items (k ∷ path) sound = subtree_in path (subtree_below path) (slice_get (nodes items) k) (subtree_among items k sound)

-- the phrase in a part of a node
phrase_of_node : ReadingHasCategory → (node : PlainNode) (part : Option ℕ) → IsSubtree node
    → IfSome (option_and_then (λ part. part_at node.label.parts part) part) (λ p. IsPartPhrase (category_of p) p)
phrase_of_node law node None is = tt
phrase_of_node law node (Some part) is = part_sound law (parts_of (row_of node.label.kind).line) node.label.parts part is.0.parts

phrase_of_found : ReadingHasCategory → (found : Option PlainNode) (part : Option ℕ) → IfSome found IsSubtree
    → IfSome (option_and_then (λ node. option_and_then (λ part. part_at node.label.parts part) (cursor_part node.label.kind part)) found)
    (λ p. IsPartPhrase (category_of p) p)
phrase_of_found law None part is = tt
phrase_of_found law (Some node) part is = phrase_of_node law node (cursor_part node.label.kind part) is

-- the phrase at the cursor
pub cursor_phrase_sound : ReadingHasCategory → (tree : PlainTree) (stop : PlainStop) → IsTree tree
    → IfSome (cursor_phrase tree stop) (λ p. IsPartPhrase (category_of p) p)
unfolding cursor_phrase
cursor_phrase_sound law tree stop is = phrase_of_found law (node_at tree.items stop.path) stop.part (subtree_at tree.items stop.path is.program.sound)

-- so may a phrase equal to it
pub copied_sound : ReadingHasCategory → (tree : PlainTree) (stop : PlainStop) → IsTree tree → (p q : PlainPhrase) → Some p ≡ cursor_phrase tree stop → q ≡ p
    → IsPartPhrase (category_of q) q
copied_sound law tree stop is p q there same =
    subst (λ (r : PlainPhrase). IsPartPhrase (category_of r) r) (sym same)
    (subst (λ (found : Option PlainPhrase). IfSome found (λ p. IsPartPhrase (category_of p) p)) (sym there) (cursor_phrase_sound law tree stop is))
