-- A kept node that gets room in a list inside it.
use Rattle.std.specs.Prelude.{◌≡◌, ◌==◌, ◌<◌, ◌∷◌, [], ℕ, zero, suc, false, true, List, Some, length, map, slice_get, slice_set}
use Rattle.std.proofs.Common.{arith, ap, refl, sym, subst, ◌∙◌, ne_eqb, true≢false}
use Rattle.std.proofs.lemmas.Option.{same_Some}
use Rattle.code_patch.specs.CodeEdit.{roomless_code}
use Rattle.code_patch.specs.CodeForest.{CodeForest, count_around, PlainCodeNode, code_nodes}
use Rattle.code_patch.specs.Private.PlainCodeNode.{code_forest, kept_length, roomless_code_node}
use Rattle.code_patch.specs.Private.PreparedNodes.{LeadsToList, RoomAt}
use Rattle.code_patch.proofs.ToldCode.{roomless_lengths}

-- a path without numbers asks for no room
pub room_short : (way : List ℕ) (node : PlainCodeNode) → length way ≡ 0 → RoomAt way node
room_short [] node none = tt
room_short (k ∷ way) node none = absurd (omega (arith, none))

-- one of one number asks for room here
pub room_here : (k : ℕ) (rest way : List ℕ) (node : PlainCodeNode) → way ≡ k ∷ rest → true ≡ (length rest == 0) → 0 < node.spare
    → RoomAt way node
room_here k [] way node is short room = subst (λ (w : List ℕ). RoomAt w node) (sym is) room
room_here k (j ∷ rest) way node is short room =
    absurd (true≢false (short ∙ ne_eqb (suc (length rest)) 0 (λ e. omega (arith, e))))

-- another one goes on
pub room_on : (k : ℕ) (rest way : List ℕ) (node child : PlainCodeNode) → way ≡ k ∷ rest → false ≡ (length rest == 0)
    → slice_get (code_nodes node.inner) k ≡ Some child → RoomAt rest child → RoomAt way node
room_on k [] way node child is long there room = absurd (true≢false (sym long))
room_on k (j ∷ rest) way node child is long there room =
    subst (λ (w : List ℕ). RoomAt w node) (sym is)
    (λ other found. subst (λ (n : PlainCodeNode). RoomAt (j ∷ rest) n) (same_Some child other (sym there ∙ found)) room)

pub leads_on : (k : ℕ) (rest way : List ℕ) (node : PlainCodeNode) → way ≡ k ∷ rest → false ≡ (length rest == 0) → LeadsToList way node
    → (child : PlainCodeNode) × (slice_get (code_nodes node.inner) k ≡ Some child) × LeadsToList rest child
leads_on k [] way node is long leads = absurd (true≢false (sym long))
leads_on k (j ∷ rest) way node is long leads = subst (λ (w : List ℕ). LeadsToList w node) is leads

-- ---- a node that is put back with room

-- as long as before
pub same_length : (one other : PlainCodeNode) → roomless_code_node one ≡ roomless_code_node other → kept_length one ≡ kept_length other
same_length one other same =
    sym (ap (λ (ns : List ℕ). count_around one.own ns) (roomless_lengths one.inner))
    ∙ ap kept_length same
    ∙ ap (λ (ns : List ℕ). count_around other.own ns) (roomless_lengths other.inner)

pub same_lengths : (items : List PlainCodeNode) (k : ℕ) (old new : PlainCodeNode) → slice_get items k ≡ Some old
    → roomless_code_node new ≡ roomless_code_node old → map kept_length (slice_set items k new) ≡ map kept_length items
same_lengths [] zero old new there same = refl
same_lengths [] (suc k) old new there same = refl
same_lengths (node ∷ rest) zero old new there same =
    let is : node ≡ old = same_Some node old there in
    ap (λ (n : ℕ). n ∷ map kept_length rest) (same_length new old same ∙ ap kept_length (sym is))
same_lengths (node ∷ rest) (suc k) old new there same =
    ap (λ (ns : List ℕ). kept_length node ∷ ns) (same_lengths rest k old new there same)

-- and the same without room
pub same_roomless : (items : List PlainCodeNode) (k : ℕ) (old new : PlainCodeNode) → slice_get items k ≡ Some old
    → roomless_code_node new ≡ roomless_code_node old → roomless_code (code_forest (slice_set items k new)) ≡ roomless_code (code_forest items)
same_roomless [] zero old new there same = refl
same_roomless [] (suc k) old new there same = refl
same_roomless (node ∷ rest) zero old new there same =
    let is : node ≡ old = same_Some node old there in
    let one : roomless_code_node new ≡ roomless_code_node node = same ∙ ap roomless_code_node (sym is) in
    (λ i. CodeForest.cons (one i).own (one i).spare (one i).inner (roomless_code (code_forest rest)))
same_roomless (node ∷ rest) (suc k) old new there same =
    ap (λ (f : CodeForest). CodeForest.cons node.own 0 (roomless_code node.inner) f) (same_roomless rest k old new there same)

-- it stands there then
pub put_there : (items : List PlainCodeNode) (k : ℕ) (new : PlainCodeNode) → k < length items → slice_get (slice_set items k new) k ≡ Some new
put_there [] k new within = absurd (omega (arith, within))
put_there (node ∷ rest) zero new within = refl
put_there (node ∷ rest) (suc k) new within = put_there rest k new (omega (arith, within))
