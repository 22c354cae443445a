-- Room plays no part in how near kept nodes are to what is kept after an edit.
use Rattle.std.proofs.Common.{◌≡◌, ℕ, zero, suc, ◌+◌, Bool, true, false, List, length, Option, Some, None, refl, ap, sym, subst, ◌∙◌, arith}
use Rattle.std.specs.Prelude.{◌&&◌, if◌then◌else◌, slice_get}
use Rattle.std.specs.Option.{option_map_or}
use Rattle.plcs_base.specs.Mark.{MarkMap}
use Rattle.plcs_base.specs.Scope.{ItemMap}
use Rattle.template_tree.specs.Programs.PlainTree.{Forest, PlainNode, nodes}
use Rattle.plcs_code.specs.OwnCode.{PlainOwnCode, no_own_code, own_code_by}
use Rattle.code_patch.specs.Bill.{is_of_node}
use Rattle.code_patch.specs.CodeEdit.{code_added, code_gives_way, roomless_code}
use Rattle.code_patch.specs.CodeForest.{CodeForest, kept_code, PlainCodeNode, code_nodes}
use Rattle.code_patch.specs.Private.NearCode.{Near, OwnNear, PlainPlan, ends_here, is_added, is_visited, item_edited, item_number, kept_item, near_as, way_below}
use Rattle.code_patch.specs.Private.PlainCodeNode.{kept_node, roomless_code_node}
use Rattle.code_patch.proofs.MadeCode.{roomless_join}

-- ---- an item that came or went

-- a node that comes among nodes, without room
pub roomless_added : (one : CodeForest) (k : ℕ) (kept : CodeForest)
    → roomless_code (code_added one k kept) ≡ code_added (roomless_code one) k (roomless_code kept)
roomless_added one zero kept = roomless_join one kept
roomless_added one (suc k) CodeForest.nil = refl
roomless_added one (suc k) (CodeForest.cons own spare inner rest) =
    ap (λ (f : CodeForest). CodeForest.cons own 0 (roomless_code inner) f) (roomless_added one k rest)

-- a node that goes, without room
roomless_dropped : (k : ℕ) (kept : CodeForest)
    → roomless_code (code_gives_way (λ was spare within. CodeForest.nil) k kept)
    ≡ code_gives_way (λ was spare within. CodeForest.nil) k (roomless_code kept)
roomless_dropped k CodeForest.nil = refl
roomless_dropped zero (CodeForest.cons own spare inner rest) = refl
roomless_dropped (suc k) (CodeForest.cons own spare inner rest) =
    ap (λ (f : CodeForest). CodeForest.cons own 0 (roomless_code inner) f) (roomless_dropped k rest)

module _ (plan : PlainPlan) (way : Option (List ℕ)) (after : Forest) where
  -- the nodes without room once the item came or went, by those without room before
  abbrev edited_of : (roomless : CodeForest) → CodeForest
  edited_of roomless =
      option_map_or
      (λ k.
      if is_added plan.what then code_added (roomless_code (kept_item plan k after)) k roomless
      else code_gives_way (λ was spare within. CodeForest.nil) k roomless)
      (item_number plan.what way) roomless

  roomless_edited : (kept : CodeForest) → roomless_code (item_edited plan way kept after) ≡ edited_of (roomless_code kept)
  roomless_edited kept = by (item_number plan.what way) (is_added plan.what)
    where
      by : (o : Option ℕ) (added : Bool)
          → roomless_code
          (option_map_or
          (λ k.
          if added then code_added (kept_item plan k after) k kept
          else code_gives_way (λ was spare within. CodeForest.nil) k kept)
          o kept)
          ≡ option_map_or
          (λ k.
          if added then code_added (roomless_code (kept_item plan k after)) k (roomless_code kept)
          else code_gives_way (λ was spare within. CodeForest.nil) k (roomless_code kept))
          o (roomless_code kept)
      by None added = refl
      by (Some k) true = roomless_added (kept_item plan k after) k kept
      by (Some k) false = roomless_dropped k kept

  pub item_roomless : (one other : CodeForest) → roomless_code one ≡ roomless_code other
      → roomless_code (item_edited plan way one after) ≡ roomless_code (item_edited plan way other after)
  item_roomless one other same = roomless_edited one ∙ ap edited_of same ∙ sym (roomless_edited other)

-- ---- nodes in order

-- of three facts about a node the one that is asked, from those about another one
pub near_from : (visited put : Bool) (A B C D : Type 0) → (A → C) → (B → D) → near_as visited put A B → near_as visited put C D
near_from false put A B C D one other near = one near
near_from true true A B C D one other near = near
near_from true false A B C D one other near = other near

-- of kept nodes that are the same the first ones have the same own code, the same stands inside them, and the same
-- behind them
abbrev pub own_of : CodeForest → PlainOwnCode
own_of CodeForest.nil = no_own_code
own_of (CodeForest.cons own spare inner rest) = own

abbrev pub inner_of : CodeForest → CodeForest
inner_of CodeForest.nil = CodeForest.nil
inner_of (CodeForest.cons own spare inner rest) = inner

abbrev pub rest_of : CodeForest → CodeForest
rest_of CodeForest.nil = CodeForest.nil
rest_of (CodeForest.cons own spare inner rest) = rest

module _ (plan : PlainPlan) where
  pub near_roomless : (way : Option (List ℕ)) (k : ℕ) (one other : CodeForest) (after : Forest)
      → roomless_code one ≡ roomless_code other → Near plan way k one after → Near plan way k other after
  near_roomless way k CodeForest.nil CodeForest.nil after same near = near
  near_roomless way k CodeForest.nil (CodeForest.cons own spare inner rest) after same near =
      absurd (differ (ap (λ (f : CodeForest). length (code_nodes f)) same))
    where
      differ : 0 ≡ suc (length (code_nodes (roomless_code rest))) → ⊥
      differ e = omega (arith, e)
  near_roomless way k (CodeForest.cons own spare inner rest) CodeForest.nil after same near =
      absurd (differ (ap (λ (f : CodeForest). length (code_nodes f)) same))
    where
      differ : suc (length (code_nodes (roomless_code rest))) ≡ 0 → ⊥
      differ e = omega (arith, e)
  near_roomless way k (CodeForest.cons o s i r) (CodeForest.cons own spare inner rest) Forest.nil same near = absurd near
  near_roomless way k (CodeForest.cons o s i r) (CodeForest.cons own spare inner rest) (Forest.cons label within others) same near =
      let its : o ≡ own = ap own_of same in
      let inside : roomless_code i ≡ roomless_code inner = ap inner_of same in
      let behind : roomless_code r ≡ roomless_code rest = ap rest_of same in
      let below = way_below plan.what way k in
      let ends = ends_here below in (
        near_from (is_visited plan way k) (ends && is_of_node plan.what)
            ((o ≡ own_code_by plan.marks plan.items label) × (roomless_code i ≡ kept_code plan.marks plan.items within))
            (OwnNear plan ends o label × Near plan below 0 (item_edited plan below i within) within)
            ((own ≡ own_code_by plan.marks plan.items label) × (roomless_code inner ≡ kept_code plan.marks plan.items within))
            (OwnNear plan ends own label × Near plan below 0 (item_edited plan below inner within) within)
            (λ is. (sym its ∙ is.0, sym inside ∙ is.1))
            (λ is. (
              subst (λ (was : PlainOwnCode). OwnNear plan ends was label) its is.0,
              near_roomless below 0 (item_edited plan below i within)
                  (item_edited plan below inner within) within (item_roomless plan below within i inner inside) is.1,
            ))
            near.0,
        near_roomless way (k + 1) r rest others behind near.1,
      )

-- ---- the whole from each

-- kept nodes of which each is what is kept of the node of its number are what is kept of all
pub all_kept : (marks : MarkMap) (items : ItemMap) (made : CodeForest) (all : Forest) → length (code_nodes made) ≡ length (nodes all)
    → ((j : ℕ) (node : PlainNode) → slice_get (nodes all) j ≡ Some node
    → (child : PlainCodeNode) × (slice_get (code_nodes made) j ≡ Some child) × (roomless_code_node child ≡ kept_node marks items node))
    → roomless_code made ≡ kept_code marks items all
all_kept marks items CodeForest.nil Forest.nil many each = refl
all_kept marks items CodeForest.nil (Forest.cons label within others) many each = absurd (omega (arith, many))
all_kept marks items (CodeForest.cons own spare inner rest) Forest.nil many each = absurd (omega (arith, many))
all_kept marks items (CodeForest.cons own spare inner rest) (Forest.cons label within others) many each =
    let (child, found, is) = each 0 (record { label = label; inner = within }) refl in
    let first : PlainCodeNode = record { own = own; spare = spare; inner = inner } in
    let same : first ≡ child = cc in
    let one : roomless_code_node first ≡ kept_node marks items (record { label = label; inner = within }) = ap roomless_code_node same ∙ is in
    let fewer : length (code_nodes rest) ≡ length (nodes others) = omega (arith, many) in
    let behind = all_kept marks items rest others fewer (λ j node there. each (suc j) node there) in
    (λ i. CodeForest.cons (one i).own (one i).spare (one i).inner (behind i))
