-- The procedure in which a slot stands is the first item on the way to it.
use Rattle.std.specs.Prelude.{◌≡◌, refl, ℕ, zero, suc, ◌≤◌, nat_lt, Bool, true, false, List, [], ◌∷◌, find, Option, Some, None, IfSome, IsSome, IsSomeAnd, is_some, option_map}
use Rattle.std.proofs.Common.{ap, sym, ◌∙◌, subst, arith}
use Rattle.std.proofs.lemmas.Bool.{lt-ltb, le-ltb}
use Rattle.std.proofs.lemmas.Option.{none-some}
use Rattle.template_tree.specs.Programs.PlainTree.{Forest, PlainNode, nodes, forest}
use Rattle.template_tree.specs.Positions.Path.{node_at}
use Rattle.template_tree.specs.Programs.Slots.{times}
use Rattle.template_tree.specs.Edits.Edit.{edit_at, procedure_of}
use Rattle.template_tree.specs.Private.Exchange.{first_item}
use Rattle.template_tree.proofs.Edits.SlotEdits.{present}
use Rattle.template_tree.proofs.Edits.EditedNodes.{node_there, first_slot}

-- a slot that stands in an item or not
abbrev pub has : ℕ → PlainNode → Bool
has slot item = nat_lt 0 (times slot (forest (item ∷ [])))

-- the slot of the item that is found among these
abbrev pub slot_found : (PlainNode → Bool) → List PlainNode → Option ℕ
slot_found test items = option_map (λ item. item.label.slot) (find test items)

-- the first item has it
found_first : (test : PlainNode → Bool) (item : PlainNode) (items : List PlainNode) → test item ≡ true
    → slot_found test (item ∷ items) ≡ Some item.label.slot
found_first test item items e = rw e refl

-- the first item hasn't
pub found_later : (test : PlainNode → Bool) (item : PlainNode) (items : List PlainNode) → test item ≡ false
    → slot_found test (item ∷ items) ≡ slot_found test items
found_later test item items e = rw e refl

-- the node at a path stands in the first item on the way
pub procedure_there : (items : Forest) (path : List ℕ) (node : PlainNode) → node_at items path ≡ Some node
    → times node.label.slot items ≤ 1
    → procedure_of items node.label.slot ≡ option_map (λ item. item.label.slot) (first_item items path)
procedure_there items [] node e once = absurd (none-some node e)
procedure_there Forest.nil (k ∷ path) node e once = absurd (none-some node e)
procedure_there (Forest.cons label inner rest) (zero ∷ path) node e once =
    let item : PlainNode = record { label = label; inner = inner } in
    let stands : 1 ≤ times node.label.slot (forest (item ∷ [])) = present (forest (item ∷ [])) (zero ∷ path) node e in
    found_first (has node.label.slot) item (nodes rest) (lt-ltb 0 _ stands)
procedure_there (Forest.cons label inner rest) (suc k ∷ path) node e once =
    let item : PlainNode = record { label = label; inner = inner } in
    let stands : 1 ≤ times node.label.slot rest = present rest (k ∷ path) node e in
    found_later (has node.label.slot) item (nodes rest) (le-ltb 0 _ (omega (arith, once, stands)))
    ∙ procedure_there rest (k ∷ path) node e (omega (arith, once))

-- what holds of what is there
if_some : (o : Option PlainNode) (slot : ℕ) → IfSome o (λ item. slot ≡ item.label.slot) → (there : PlainNode) → o ≡ Some there
    → option_map (λ item. item.label.slot) o ≡ Some slot
if_some None slot h there e = absurd (none-some there e)
if_some (Some item) slot h there e = ap Some (sym h)

-- a node that stands somewhere has a first item on the way
way_there : (items : Forest) (path : List ℕ) (node : PlainNode) → node_at items path ≡ Some node → (item : PlainNode) × (first_item items path ≡ Some item)
way_there items [] node e = absurd (none-some node e)
way_there Forest.nil (k ∷ path) node e = absurd (none-some node e)
way_there (Forest.cons label inner rest) (zero ∷ path) node e = (record { label = label; inner = inner }, refl)
way_there (Forest.cons label inner rest) (suc k ∷ path) node e = way_there rest (k ∷ path) node e

pub on_the_way : (items : Forest) (path : List ℕ) (node : PlainNode) → node_at items path ≡ Some node → IsSome (first_item items path)
on_the_way items path node e = ap is_some (way_there items path node e).1

-- the same for a node of which something holds
pub way_where : (found : Option PlainNode) (Holds : PlainNode → Type 0) (items : Forest) (path : List ℕ) → node_at items path ≡ found
    → IsSomeAnd found Holds → IsSome (first_item items path)
way_where None Holds items path e h = absurd h
way_where (Some node) Holds items path e h = on_the_way items path node e

-- the procedure of a slot at whose path a node came
pub procedure_after : (items : Forest) (path : List ℕ) (old new : PlainNode) (procedure : ℕ) → node_at items path ≡ Some old
    → new.label.slot ≡ old.label.slot → times old.label.slot (edit_at (λ _. new ∷ []) path items) ≤ 1
    → IfSome (first_item items path) (λ item. procedure ≡ item.label.slot)
    → procedure_of (edit_at (λ _. new ∷ []) path items) old.label.slot ≡ Some procedure
procedure_after items path old new procedure there slot once first =
    let after = edit_at (λ _. new ∷ []) path items in
    let way = way_there items path old there in
    let found : procedure_of after new.label.slot ≡ option_map (λ item. item.label.slot) (first_item after path) =
    procedure_there after path new (node_there old new items path there) (subst (λ s. times s after ≤ 1) (sym slot) once)
    in
    ap (procedure_of after) (sym slot)
    ∙ (found ∙ (first_slot old new items path there slot ∙ if_some (first_item items path) procedure first way.0 way.1))
