-- Open nodes in a list, the innermost last.
use Rattle.std.specs.Prelude.{◌≡◌, refl, ℕ, suc, ◌+◌, ◌<◌, ◌≤◌, Option, Some, None, option_and_then, List, [], ◌∷◌, ◌++◌, length, option_map}
use Rattle.std.proofs.Common.{ap, arith}
use Rattle.std.proofs.lemmas.Bool.{lt-leb, eq-eqb, ne_eqb}
use Rattle.std.proofs.lemmas.List.{length-append}
use Rattle.phrase_parser.specs.NotRead.{Fails}
use Rattle.phrase_parser.specs.declared.not_read.NotRead.{NotRead}
use Rattle.template_tree.specs.Programs.PlainTree.{Forest, PlainNode, forest, join, nodes, roomless}
use Rattle.file_store.specs.Private.Reader.{at_height, led_in, led_sections, lowered, shut, with_filling}
use Rattle.file_store.specs.Private.Reader as machine
use Rattle.file_store.specs.Private.Views.{open_node_of, open_nodes_on}
use Rattle.file_store.specs.declared.reader.open_list.OpenNode.{OpenNode}

-- the last one is the innermost
pub frames_push : (outer : List machine.OpenNode) (frames : List OpenNode) (frame : OpenNode)
    → open_nodes_on outer (frames ++ (frame ∷ [])) ≡ open_node_of frame ∷ open_nodes_on outer frames
frames_push outer [] frame = refl
frames_push outer (first ∷ frames) frame = frames_push (open_node_of first ∷ outer) frames frame

pub frames_length : (outer : List machine.OpenNode) (frames : List OpenNode) → length (open_nodes_on outer frames) ≡ length outer + length frames
frames_length outer [] = omega arith
frames_length outer (first ∷ frames) = omega (arith, frames_length (open_node_of first ∷ outer) frames)

-- the line before a section, where some node is open: how far the list has come behind it, as it was found
pub led_by : {F : Type 0} (text : List ℕ) (stack : machine.OpenNodes) (outer : List machine.OpenNode) → 1 ≤ length outer
    → (view : F → machine.Filling) (found : Option F) → option_map view found ≡ led_sections text stack.own.filling.left
    → option_map (λ filling. with_filling stack (view filling)) found ≡ led_in text stack outer
led_by text stack [] h view found e = absurd (omega (arith, h))
led_by text stack (frame ∷ outer) h view (Some filling) e = ap (option_map (with_filling stack)) e
led_by text stack (frame ∷ outer) h view None e = ap (option_map (with_filling stack)) e

-- one item more
pub roomless_push : (items : List PlainNode) (node : PlainNode)
    → roomless (forest (items ++ (node ∷ []))) ≡ join (roomless (forest items)) (roomless (Forest.cons node.label node.inner Forest.nil))
roomless_push [] node = refl
roomless_push (first ∷ items) node = ap (λ rest. Forest.cons (record first.label { spare = 0 }) (roomless first.inner) rest) (roomless_push items node)

pub roomless_length : (items : List PlainNode) → length (nodes (roomless (forest items))) ≡ length items
roomless_length [] = refl
roomless_length (first ∷ items) = omega (arith, roomless_length items)

-- the innermost node ends, or doesn't
pub lowered_by : (level : ℕ) (own : machine.OpenList) (frames before : List OpenNode) (frame : OpenNode) (o : Option machine.OpenList)
    → frames ≡ before ++ (frame ∷ []) → level < length frames → shut own (open_node_of frame) ≡ o
    → lowered level own (open_nodes_on [] frames) ≡ option_and_then (λ list. lowered level list (open_nodes_on [] before)) o
lowered_by level own frames before frame o is above e =
    rw (is, frames_push [] before frame, lt-leb (suc (length (open_nodes_on [] before))) level (low before frames is above), e) refl
  where
    low : (before frames : List OpenNode) → frames ≡ before ++ (frame ∷ []) → level < length frames → level < suc (length (open_nodes_on [] before))
    low before frames is above = omega (arith, above, ap length is, length-append before (frame ∷ []), frames_length [] before)

-- a fault that comes of another
pub fails_too : {X Y : Type 0} (fault : NotRead) (o : Option X) (p : Option Y) → (o ≡ None → p ≡ None) → Fails fault o → Fails fault p
fails_too NotRead.OutOfMemory o p f h = h
fails_too NotRead.Refused o p f h = f h

pub high_enough : (level : ℕ) (o : Option machine.OpenNodes) (stack : machine.OpenNodes) → o ≡ Some stack → length stack.outer ≡ level
    → option_and_then (at_height level) o ≡ Some stack
high_enough level o stack e h = rw (e, eq-eqb (length stack.outer) level h) refl

pub not_high : (level : ℕ) (o : Option machine.OpenNodes) (stack : machine.OpenNodes) → o ≡ Some stack → (length stack.outer ≡ level → ⊥)
    → option_and_then (at_height level) o ≡ None
not_high level o stack e h = rw (e, ne_eqb (length stack.outer) level h) refl
