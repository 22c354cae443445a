-- The room of a tree's lists plays no part in what is kept of it, nor in how near that is after an edit.
use Rattle.std.proofs.Common.{◌≡◌, ℕ, zero, suc, ◌+◌, List, [], ◌∷◌, length, Option, Some, None, refl, ap, sym, subst, ◌∙◌, arith}
use Rattle.std.specs.Prelude.{◌&&◌, if◌then◌else◌, slice_get}
use Rattle.std.specs.Option.{option_map_or}
use Rattle.plcs_base.specs.Mark.{MarkMap}
use Rattle.plcs_base.specs.Scope.{ItemMap}
use Rattle.template_tree.specs.Programs.PlainTree.{Forest, Label, PlainNode, forest, nodes, roomless, roomless_node}
use Rattle.plcs_code.specs.OwnCode.{own_code_by}
use Rattle.code_patch.specs.Bill.{is_of_node}
use Rattle.code_patch.specs.CodeEdit.{code_added, code_gives_way, roomless_code}
use Rattle.code_patch.specs.CodeForest.{CodeForest, kept_code}
use Rattle.code_patch.specs.Private.NearCode.{Near, OwnNear, PlainPlan, ends_here, is_added, is_visited, item_edited, item_number, kept_item, way_below}
use Rattle.code_patch.proofs.NearRooms.{near_from}

-- what is kept of nodes is that of them without room
pub kept_roomless : (marks : MarkMap) (items : ItemMap) (program : Forest)
    → kept_code marks items (roomless program) ≡ kept_code marks items program
kept_roomless marks items Forest.nil = refl
kept_roomless marks items (Forest.cons label inner rest) =
    (λ i. CodeForest.cons (own_code_by marks items label) 0 (kept_roomless marks items inner i) (kept_roomless marks items rest i))

-- and so are the nodes that are the same but for room
pub kept_alike : (marks : MarkMap) (items : ItemMap) (one other : Forest) → roomless one ≡ roomless other
    → kept_code marks items one ≡ kept_code marks items other
kept_alike marks items one other same =
    sym (kept_roomless marks items one) ∙ ap (kept_code marks items) same ∙ kept_roomless marks items other

-- the node of a number, of nodes that are the same but for room
pub nodes_roomless : (program : Forest) (k : ℕ)
    → slice_get (nodes (roomless program)) k ≡ (option_map_or (λ (node : PlainNode). Some (roomless_node node)) (slice_get (nodes program) k) None)
nodes_roomless Forest.nil zero = refl
nodes_roomless Forest.nil (suc k) = refl
nodes_roomless (Forest.cons label inner rest) zero = refl
nodes_roomless (Forest.cons label inner rest) (suc k) = nodes_roomless rest k

module _ (plan : PlainPlan) where
  -- what is kept of an item that came
  item_roomless : (k : ℕ) (after : Forest) → kept_item plan k (roomless after) ≡ kept_item plan k after
  item_roomless k after =
      ap
      (λ (o : Option PlainNode).
      option_map_or (λ node. kept_code plan.marks plan.items (forest (node ∷ []))) o CodeForest.nil)
      (nodes_roomless after k)
      ∙ by (slice_get (nodes after) k)
    where
      by : (o : Option PlainNode)
          → option_map_or (λ node. kept_code plan.marks plan.items (forest (node ∷ [])))
          (option_map_or (λ (node : PlainNode). Some (roomless_node node)) o None) CodeForest.nil
          ≡ option_map_or (λ node. kept_code plan.marks plan.items (forest (node ∷ []))) o CodeForest.nil
      by None = refl
      by (Some node) =
          ap (λ (f : CodeForest). CodeForest.cons (own_code_by plan.marks plan.items node.label) 0 f CodeForest.nil)
          (kept_roomless plan.marks plan.items node.inner)

  item_alike : (k : ℕ) (one other : Forest) → roomless one ≡ roomless other → kept_item plan k one ≡ kept_item plan k other
  item_alike k one other same =
      sym (item_roomless k one) ∙ ap (kept_item plan k) same ∙ item_roomless k other

  pub edited_alike : (way : Option (List ℕ)) (kept : CodeForest) (one other : Forest) → roomless one ≡ roomless other
      → item_edited plan way kept one ≡ item_edited plan way kept other
  edited_alike way kept one other same =
      ap
      (λ (came : ℕ → CodeForest).
      option_map_or
      (λ k.
      if is_added plan.what then code_added (came k) k kept
      else code_gives_way (λ was spare within. CodeForest.nil) k kept)
      (item_number plan.what way) kept)
      (λ i k. item_alike k one other same i)

  -- the first label, and what stands inside it and behind it, of nodes that are the same but for room
  abbrev label_of : Label → Forest → Label
  label_of none Forest.nil = none
  label_of none (Forest.cons label inner rest) = label

  abbrev inside_of : Forest → Forest
  inside_of Forest.nil = Forest.nil
  inside_of (Forest.cons label inner rest) = inner

  abbrev behind_of : Forest → Forest
  behind_of Forest.nil = Forest.nil
  behind_of (Forest.cons label inner rest) = rest

  pub near_alike : (way : Option (List ℕ)) (k : ℕ) (kept : CodeForest) (one other : Forest) → roomless one ≡ roomless other
      → Near plan way k kept one → Near plan way k kept other
  near_alike way k CodeForest.nil Forest.nil Forest.nil same near = tt
  near_alike way k CodeForest.nil Forest.nil (Forest.cons label within others) same near =
      absurd (differ (ap (λ (f : Forest). length (nodes f)) same))
    where
      differ : 0 ≡ suc (length (nodes (roomless others))) → ⊥
      differ e = omega (arith, e)
  near_alike way k CodeForest.nil (Forest.cons label within others) other same near = absurd near
  near_alike way k (CodeForest.cons own spare inner rest) Forest.nil other same near = absurd near
  near_alike way k (CodeForest.cons own spare inner rest) (Forest.cons label within others) Forest.nil same near =
      absurd (differ (ap (λ (f : Forest). length (nodes f)) same))
    where
      differ : suc (length (nodes (roomless others))) ≡ 0 → ⊥
      differ e = omega (arith, e)
  near_alike way k (CodeForest.cons own spare inner rest) (Forest.cons label within others) (Forest.cons tag inside behind) same near =
      let its : record label { spare = 0 } ≡ record tag { spare = 0 } = ap (label_of label) same in
      let inner_same : roomless within ≡ roomless inside = ap inside_of same in
      let below = way_below plan.what way k in
      let ends = ends_here below in
      let kept_same = kept_alike plan.marks plan.items within inside inner_same in (
        near_from (is_visited plan way k) (ends && is_of_node plan.what)
            ((own ≡ own_code_by plan.marks plan.items label) × (roomless_code inner ≡ kept_code plan.marks plan.items within))
            (OwnNear plan ends own label × Near plan below 0 (item_edited plan below inner within) within)
            ((own ≡ own_code_by plan.marks plan.items tag) × (roomless_code inner ≡ kept_code plan.marks plan.items inside))
            (OwnNear plan ends own tag × Near plan below 0 (item_edited plan below inner inside) inside)
            (λ is. (is.0 ∙ ap (own_code_by plan.marks plan.items) its, is.1 ∙ kept_same))
            (λ is. (
              subst (λ (l : Label). OwnNear plan ends own l) its is.0,
              subst (λ (f : CodeForest). Near plan below 0 f inside) (edited_alike below inner within inside inner_same)
                  (near_alike below 0 (item_edited plan below inner within) within inside inner_same is.1),
            ))
            near.0,
        near_alike way (k + 1) rest others behind (ap behind_of same) near.1,
      )
