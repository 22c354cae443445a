-- What is kept of a program is near what is kept of it after an edit: beside the way to what the edit changed nodes
-- stay, and on the way what stands inside them is near again.
use Rattle.std.proofs.Common.{◌≡◌, ℕ, zero, suc, ◌+◌, ◌≤◌, Bool, true, false, List, [], ◌∷◌, length, Option, Some, None, refl, ap, sym, subst, ◌∙◌, arith, eq-eqb, ne_eqb, true≢false}
use Rattle.std.specs.Prelude.{not, ◌&&◌, ◌||◌, ◌==◌, if◌then◌else◌, IsSome, option_and_then, slice_get}
use Rattle.std.specs.Option.{option_map_or}
use Rattle.std.proofs.lemmas.Option.{none-some, same_Some}
use Rattle.plcs_base.specs.Mark.{MarkMap}
use Rattle.plcs_base.specs.Scope.{ItemMap}
use Rattle.template_tree.specs.Edits.Edit.{edit_below, give_way}
use Rattle.template_tree.specs.Positions.Path.{below, node_at}
use Rattle.template_tree.specs.Programs.PlainTree.{Forest, Label, PlainNode, forest, join, nodes}
use Rattle.plcs_code.specs.OwnCode.{PlainOwnCode, own_code_by}
use Rattle.code_patch.specs.Bill.{is_of_node}
use Rattle.code_patch.specs.CodeEdit.{code_added, code_gives_way, roomless_code}
use Rattle.code_patch.specs.CodeForest.{CodeForest, kept_code, code_nodes}
use Rattle.code_patch.specs.Private.NearCode.{Near, OwnNear, PlainPlan, ends_here, first_number, is_added, is_of_item, is_visited, item_edited, item_number, kept_item, near_as, way_below}
use Rattle.code_patch.proofs.MadeCode.{roomless_kept}
use Rattle.code_patch.proofs.NearRooms.{inner_of, own_of, rest_of}

module _ (plan : PlainPlan) (marks : MarkMap) (items : ItemMap) where
  -- what is kept of a node by the marks and items before stays: where every node is gone to it is near what is kept
  -- after the edit, or else it is that
  abbrev pub LabelStays : (everywhere : Bool) → Label → Type 0
  LabelStays everywhere label =
      near_as everywhere false (own_code_by marks items label ≡ own_code_by plan.marks plan.items label)
      (OwnNear plan false (own_code_by marks items label) label)

  -- and so of all
  abbrev pub AllStay : (everywhere : Bool) → Forest → Type 0
  AllStay everywhere Forest.nil = Unit {0}
  AllStay everywhere (Forest.cons label inner rest) =
      LabelStays everywhere label × AllStay everywhere inner × AllStay everywhere rest

  pub kept_same : (program : Forest) → AllStay false program → kept_code marks items program ≡ kept_code plan.marks plan.items program
  kept_same Forest.nil stay = refl
  kept_same (Forest.cons label inner rest) stay =
      (λ i. CodeForest.cons (stay.0 i) 0 (kept_same inner stay.1 i) (kept_same rest stay.2 i))

  -- a node that stays is near what is kept after the edit
  pub stays_near : (b : Bool) (label : Label) → LabelStays b label → OwnNear plan false (own_code_by marks items label) label
  stays_near true label stay = stay
  stays_near false label stay = λ same. stay

  -- what is said of a node, by whether it is gone to and how the way goes on below it
  abbrev pub NodeIs : (visited : Bool) (below : Option (List ℕ)) → PlainOwnCode → (inner : CodeForest) → Label → (within : Forest) → Type 0
  NodeIs visited below own inner label within =
      near_as visited (ends_here below && is_of_node plan.what)
      ((own ≡ own_code_by plan.marks plan.items label) × (roomless_code inner ≡ kept_code plan.marks plan.items within))
      (OwnNear plan (ends_here below) own label × Near plan below 0 (item_edited plan below inner within) within)

  -- where no item came or went the nodes are those that were kept
  pub edited_same : (way : Option (List ℕ)) (kept : CodeForest) (after : Forest) → item_number plan.what way ≡ None
      → item_edited plan way kept after ≡ kept
  edited_same way kept after none =
      ap
      (λ (o : Option ℕ).
      option_map_or
      (λ k.
      if is_added plan.what then code_added (kept_item plan k after) k kept
      else code_gives_way (λ was spare within. CodeForest.nil) k kept)
      o kept)
      none

  -- a way that leads elsewhere goes on nowhere below
  pub off_below : (way : Option (List ℕ)) (k : ℕ) → (first_number way ≡ Some k → ⊥) → way_below plan.what way k ≡ None
  off_below None k off = refl
  off_below (Some []) k off = refl
  off_below (Some (first ∷ [])) k off =
      ap (λ (b : Bool). if b && not (is_of_item plan.what) then Some [] else None) (ne_eqb first k (λ same. off (ap (λ (n : ℕ). Some n) same)))
  off_below (Some (first ∷ next ∷ path)) k off =
      ap (λ (b : Bool). if b then Some (next ∷ path) else None) (ne_eqb first k (λ same. off (ap (λ (n : ℕ). Some n) same)))

  -- a node below which the way doesn't go on, by what stands inside it
  pub node_beside : (way : Option (List ℕ)) (k : ℕ) (own : PlainOwnCode) (inner : CodeForest) (label : Label) (within : Forest)
      → way_below plan.what way k ≡ None → own ≡ own_code_by marks items label → roomless_code inner ≡ kept_code marks items within
      → LabelStays plan.everywhere label → AllStay plan.everywhere within → Near plan None 0 inner within
      → NodeIs (is_visited plan way k) (way_below plan.what way k) own inner label within
  node_beside way k own inner label within below its inside stay stays near =
      subst (λ (on : Option (List ℕ)). NodeIs (is_visited plan way k) on own inner label within) (sym below)
      (by plan.everywhere (option_map_or (λ first. first == k) (first_number way) false) refl)
    where
      own_near : OwnNear plan false own label
      own_near = subst (λ (was : PlainOwnCode). OwnNear plan false was label) (sym its) (stays_near plan.everywhere label stay)

      by : (everywhere here : Bool) → plan.everywhere ≡ everywhere → NodeIs (everywhere || here) None own inner label within
      by true here e = (own_near, near)
      by false true e = (own_near, near)
      by false false e = (
        its ∙ subst (λ (b : Bool). LabelStays b label) e stay,
        inside ∙ kept_same within (subst (λ (b : Bool). AllStay b within) e stays),
      )

  -- nodes below which the way doesn't go on
  pub near_beside : (way : Option (List ℕ)) (k : ℕ) (kept : CodeForest) (program : Forest)
      → ((j : ℕ) → k ≤ j → way_below plan.what way j ≡ None) → roomless_code kept ≡ kept_code marks items program
      → AllStay plan.everywhere program → Near plan way k kept program
  near_beside way k CodeForest.nil Forest.nil below is stay = tt
  near_beside way k CodeForest.nil (Forest.cons label within others) below is stay =
      absurd (differ (ap (λ (f : CodeForest). length (code_nodes f)) is))
    where
      differ : 0 ≡ suc (length (code_nodes (kept_code marks items others))) → ⊥
      differ e = omega (arith, e)
  near_beside way k (CodeForest.cons own spare inner rest) Forest.nil below is stay =
      absurd (differ (ap (λ (f : CodeForest). length (code_nodes f)) is))
    where
      differ : suc (length (code_nodes (roomless_code rest))) ≡ 0 → ⊥
      differ e = omega (arith, e)
  near_beside way k (CodeForest.cons own spare inner rest) (Forest.cons label within others) below is stay =
      let its : own ≡ own_code_by marks items label = ap own_of is in
      let inside : roomless_code inner ≡ kept_code marks items within = ap inner_of is in
      let behind : roomless_code rest ≡ kept_code marks items others = ap rest_of is in (
        node_beside way k own inner label within (below k (omega arith)) its inside stay.0 stay.1
            (near_beside None 0 inner within (λ j le. refl) inside stay.1),
        near_beside way (k + 1) rest others (λ j le. below j (omega (arith, le))) behind stay.2,
      )

  -- the way leads to a node of its first number
  pub on_visited : (k : ℕ) (path : List ℕ) → is_visited plan (Some (k ∷ path)) k ≡ true
  on_visited k path = ap (λ (b : Bool). plan.everywhere || b) (eq-eqb k k refl) ∙ either plan.everywhere
    where
      either : (b : Bool) → (b || true) ≡ true
      either true = refl
      either false = refl

  -- and goes on below it
  pub goes_on : (k next : ℕ) (path : List ℕ) → way_below plan.what (Some (k ∷ next ∷ path)) k ≡ Some (next ∷ path)
  goes_on k next path = ap (λ (b : Bool). if b then Some (next ∷ path) else None) (eq-eqb k k refl)

  -- ---- along a way

  -- nodes in order stay but for that of a number, of which something else is so
  abbrev pub StayBut : (PlainNode → Type 0) → (k : ℕ) → Forest → Type 0
  StayBut It k Forest.nil = Unit {0}
  StayBut It zero (Forest.cons label inner rest) = It (record { label = label; inner = inner }) × AllStay plan.everywhere rest
  StayBut It (suc k) (Forest.cons label inner rest) =
      LabelStays plan.everywhere label × AllStay plan.everywhere inner × StayBut It k rest

  -- a node stays with all inside it but for that at the path below it, of which something else is so
  abbrev pub StayAlong : (PlainNode → Type 0) → (path : List ℕ) → PlainNode → Type 0
  StayAlong It [] node = It node
  StayAlong It (k ∷ path) node = LabelStays plan.everywhere node.label × StayBut (StayAlong It path) k node.inner

  module _ (change : PlainNode → List PlainNode) where
    -- a node of which something is so becomes another one by an edit below it, near which what is kept is, where the
    -- way goes on so below it
    abbrev pub BecomesNear : (PlainNode → Type 0) → (path : List ℕ) → Type 0
    BecomesNear It path =
        (own : PlainOwnCode) (inner : CodeForest) (node : PlainNode) → own ≡ own_code_by marks items node.label
        → roomless_code inner ≡ kept_code marks items node.inner → It node
        → (other : PlainNode) × (edit_below change path node ≡ other ∷ []) × NodeIs true (Some path) own inner other.label other.inner

    -- nodes in order, the first of which has a number, of which the one to which the way leads becomes another one
    pub near_list : (It : PlainNode → Type 0) (path : List ℕ) → BecomesNear It path → (before : Forest) (kept : CodeForest) (k j d : ℕ)
        → k ≡ j + d → way_below plan.what (Some (k ∷ path)) k ≡ Some path → roomless_code kept ≡ kept_code marks items before
        → StayBut It d before → Near plan (Some (k ∷ path)) j kept (give_way (edit_below change path) d before)
    near_list It path becomes Forest.nil CodeForest.nil k j d at on is stay = tt
    near_list It path becomes Forest.nil (CodeForest.cons own spare inner rest) k j d at on is stay =
        absurd (differ (ap (λ (f : CodeForest). length (code_nodes f)) is))
      where
        differ : suc (length (code_nodes (roomless_code rest))) ≡ 0 → ⊥
        differ e = omega (arith, e)
    near_list It path becomes (Forest.cons label within others) CodeForest.nil k j d at on is stay =
        absurd (differ (ap (λ (f : CodeForest). length (code_nodes f)) is))
      where
        differ : 0 ≡ suc (length (code_nodes (kept_code marks items others))) → ⊥
        differ e = omega (arith, e)
    near_list It path becomes (Forest.cons label within others) (CodeForest.cons own spare inner rest) k j zero at on is stay =
        let way = Some (k ∷ path) in
        let here : k ≡ j = omega (arith, at) in
        let (other, gives, node) = becomes own inner (record { label = label; inner = within }) (ap own_of is) (ap inner_of is) stay.0 in
        let visited : is_visited plan way j ≡ true = ap (λ (n : ℕ). is_visited plan way n) (sym here) ∙ on_visited k path in
        let below : way_below plan.what way j ≡ Some path = ap (λ (n : ℕ). way_below plan.what way n) (sym here) ∙ on in
        let first : NodeIs (is_visited plan way j) (way_below plan.what way j) own inner other.label other.inner =
        subst (λ (b : Bool). NodeIs b (way_below plan.what way j) own inner other.label other.inner) (sym visited)
        (subst (λ (on : Option (List ℕ)). NodeIs true on own inner other.label other.inner) (sym below) node) in
        let later =
        near_beside way (j + 1) rest others (λ n le. off_below way n (λ e. omega (arith, le, here, same_Some k n e))) (ap rest_of is)
        stay.1 in
        subst (λ (ns : List PlainNode). Near plan way j (CodeForest.cons own spare inner rest) (join (forest ns) others)) (sym gives)
        (first, later)
    near_list It path becomes (Forest.cons label within others) (CodeForest.cons own spare inner rest) k j (suc d) at on is stay =
        let way = Some (k ∷ path) in
        let inside : roomless_code inner ≡ kept_code marks items within = ap inner_of is in
        let off : way_below plan.what way j ≡ None = off_below way j (λ e. omega (arith, at, same_Some k j e)) in (
          node_beside way j own inner label within off (ap own_of is) inside stay.0 stay.1
              (near_beside None 0 inner within (λ n le. refl) inside stay.1),
          near_list It path becomes others rest k (j + 1) d (omega (arith, at)) on (ap rest_of is) stay.2,
        )

    -- where no item is at the end of the way
    module _ (no_item : is_of_item plan.what ≡ false) where
      -- the way goes on below the node to which it leads
      on_below : (k : ℕ) (path : List ℕ) → way_below plan.what (Some (k ∷ path)) k ≡ Some path
      on_below k [] = (λ i. if (eq-eqb k k refl i && not (no_item i)) then Some [] else None)
      on_below k (next ∷ path) = goes_on k next path

      no_number : (way : Option (List ℕ)) → item_number plan.what way ≡ None
      no_number None = refl
      no_number (Some []) = refl
      no_number (Some (k ∷ [])) = ap (λ (b : Bool). if b then Some k else None) no_item
      no_number (Some (k ∷ next ∷ path)) = refl

      -- a node after an edit at a path below it
      near_path : (It : PlainNode → Type 0) (path : List ℕ) → BecomesNear It [] → BecomesNear (StayAlong It path) path
      near_path It [] base = base
      near_path It (k ∷ path) base = (λ own inner node its inside stay.
          let within = give_way (edit_below change path) k node.inner in
          let other : PlainNode = record node { inner = within } in
          let near = near_list (StayAlong It path) path (near_path It path base) node.inner inner k 0 k (omega arith) (on_below k path) inside stay.1 in
          let own_near : OwnNear plan false own node.label =
          subst (λ (was : PlainOwnCode). OwnNear plan false was node.label) (sym its) (stays_near plan.everywhere node.label stay.0) in
          let same : item_edited plan (Some (k ∷ path)) inner within ≡ inner =
          edited_same (Some (k ∷ path)) inner within (no_number (Some (k ∷ path))) in
          (other, refl, (own_near, subst (λ (f : CodeForest). Near plan (Some (k ∷ path)) 0 f within) (sym same) near)))

      -- a program after an edit at a path
      pub near_program : (It : PlainNode → Type 0) (k : ℕ) (path : List ℕ) (kept : CodeForest) (before : Forest) → BecomesNear It []
          → roomless_code kept ≡ kept_code marks items before → StayBut (StayAlong It path) k before
          → Near plan (Some (k ∷ path)) 0 (item_edited plan (Some (k ∷ path)) kept (give_way (edit_below change path) k before))
          (give_way (edit_below change path) k before)
      near_program It k path kept before base is stay =
          let after = give_way (edit_below change path) k before in
          let near = near_list (StayAlong It path) path (near_path It path base) before kept k 0 k (omega arith) (on_below k path) is stay in
          let same = edited_same (Some (k ∷ path)) kept after (no_number (Some (k ∷ path))) in
          subst (λ (f : CodeForest). Near plan (Some (k ∷ path)) 0 f after) (sym same) near

    -- ---- where the way ends

    -- another node comes
    pub comes_near : (node : PlainNode) → ((was : PlainNode) → change was ≡ node ∷ []) → is_of_node plan.what ≡ true
        → BecomesNear (λ was. Unit {0}) []
    comes_near node gives puts = (λ own inner was its inside stay. (
      node,
      gives was,
      subst
          (λ (b : Bool).
          near_as true b
          ((own ≡ own_code_by plan.marks plan.items node.label)
          × (roomless_code inner ≡ kept_code plan.marks plan.items node.inner))
          (OwnNear plan true own node.label × Near plan (Some []) 0 inner node.inner))
          (sym puts) tt,
    ))

    -- a part is another one
    pub part_near : ((was : PlainNode) → (label : Label) × (change was ≡ (record { label = label; inner = was.inner }) ∷ []))
        → is_of_node plan.what ≡ false → BecomesNear (λ was. AllStay plan.everywhere was.inner) []
    part_near gives puts = (λ own inner was its inside stay.
        let (label, is) = gives was in (
          record { label = label; inner = was.inner },
          is,
          subst
              (λ (b : Bool).
              near_as true b
              ((own ≡ own_code_by plan.marks plan.items label)
              × (roomless_code inner ≡ kept_code plan.marks plan.items was.inner))
              (OwnNear plan true own label × Near plan (Some []) 0 inner was.inner))
              (sym puts)
              ((λ remade. absurd (true≢false remade)), near_beside (Some []) 0 inner was.inner (λ j le. refl) inside stay),
        ))

-- ---- an item goes

-- where an item is at the end of the way, it goes on below no node of its list
pub item_below : (plan : PlainPlan) → is_of_item plan.what ≡ true → (k j : ℕ) → way_below plan.what (Some (k ∷ [])) j ≡ None
item_below plan item k j = (λ i. if ((k == j) && not (item i)) then Some [] else None) ∙ by (k == j)
  where
    by : (b : Bool) → ◌≡◌ {A = Option (List ℕ)} (if (b && false) then Some [] else None) None
    by true = refl
    by false = refl

module _ (plan : PlainPlan) (marks : MarkMap) (items : ItemMap) (item : is_of_item plan.what ≡ true) (went : is_added plan.what ≡ false) where
  -- nodes in order without the one of this number, kept and after the edit
  dropped_list : (k j d : ℕ) (before : Forest) (kept : CodeForest) → roomless_code kept ≡ kept_code marks items before
      → StayBut plan marks items (λ node. Unit {0}) d before
      → Near plan (Some (k ∷ [])) j (code_gives_way (λ was spare within. CodeForest.nil) d kept) (give_way (λ node. []) d before)
  dropped_list k j d Forest.nil CodeForest.nil is stay = tt
  dropped_list k j d Forest.nil (CodeForest.cons own spare inner rest) is stay =
      absurd (differ (ap (λ (f : CodeForest). length (code_nodes f)) is))
    where
      differ : suc (length (code_nodes (roomless_code rest))) ≡ 0 → ⊥
      differ e = omega (arith, e)
  dropped_list k j d (Forest.cons label within others) CodeForest.nil is stay =
      absurd (differ (ap (λ (f : CodeForest). length (code_nodes f)) is))
    where
      differ : 0 ≡ suc (length (code_nodes (kept_code marks items others))) → ⊥
      differ e = omega (arith, e)
  dropped_list k j zero (Forest.cons label within others) (CodeForest.cons own spare inner rest) is stay =
      near_beside plan marks items (Some (k ∷ [])) j rest others (λ n le. item_below plan item k n) (ap rest_of is) stay.1
  dropped_list k j (suc d) (Forest.cons label within others) (CodeForest.cons own spare inner rest) is stay =
      let inside : roomless_code inner ≡ kept_code marks items within = ap inner_of is in (
        node_beside plan marks items (Some (k ∷ [])) j own inner label within (item_below plan item k j) (ap own_of is) inside stay.0 stay.1
            (near_beside plan marks items None 0 inner within (λ n le. refl) inside stay.1),
        dropped_list k (j + 1) d others rest (ap rest_of is) stay.2,
      )

  -- a program after an item at a path went
  pub near_dropped : (path : List ℕ) (k : ℕ) (kept : CodeForest) (before : Forest) → roomless_code kept ≡ kept_code marks items before
      → StayBut plan marks items (StayAlong plan marks items (λ node. Unit {0}) path) k before
      → Near plan (Some (k ∷ path)) 0 (item_edited plan (Some (k ∷ path)) kept (give_way (edit_below (λ node. []) path) k before))
      (give_way (edit_below (λ node. []) path) k before)
  near_dropped [] k kept before is stay =
      let after = give_way (λ node. []) k before in
      let number : item_number plan.what (Some (k ∷ [])) ≡ Some k = ap (λ (b : Bool). if b then Some k else None) item in
      let edited : item_edited plan (Some (k ∷ [])) kept after ≡ code_gives_way (λ was spare within. CodeForest.nil) k kept =
      (λ i.
      option_map_or
      (λ n.
      if went i then code_added (kept_item plan n after) n kept
      else code_gives_way (λ was spare within. CodeForest.nil) n kept)
      (number i) kept) in
      subst (λ (f : CodeForest). Near plan (Some (k ∷ [])) 0 f after) (sym edited) (dropped_list k 0 k before kept is stay)
  near_dropped (next ∷ path) k kept before is stay =
      near_list plan marks items (λ node. []) (StayAlong plan marks items (λ node. Unit {0}) (next ∷ path)) (next ∷ path)
      (λ own inner node its inside stays. (
        record node { inner = give_way (edit_below (λ node. []) path) next node.inner },
        refl,
        (subst (λ (was : PlainOwnCode). OwnNear plan false was node.label) (sym its) (stays_near plan marks items plan.everywhere node.label stays.0), near_dropped path next inner node.inner inside stays.1),
      ))
      before kept k 0 k (omega arith) (goes_on plan marks items k next path) is stay

-- ---- an item comes

-- what is kept of a node after an edit stays
module _ (plan : PlainPlan) where
  own_stays : (b : Bool) (label : Label) → LabelStays plan plan.marks plan.items b label
  own_stays true label = λ same. refl
  own_stays false label = refl

  own_all : (b : Bool) (program : Forest) → AllStay plan plan.marks plan.items b program
  own_all b Forest.nil = tt
  own_all b (Forest.cons label inner rest) = (own_stays b label, own_all b inner, own_all b rest)

module _ (plan : PlainPlan) (marks : MarkMap) (items : ItemMap) (item : is_of_item plan.what ≡ true) (came : is_added plan.what ≡ true) where
  -- nodes in order with one more at this number, kept and after the edit
  added_list : (k j d : ℕ) (after : Forest) (node : PlainNode) (kept : CodeForest) → slice_get (nodes after) d ≡ Some node
      → roomless_code kept ≡ kept_code marks items (give_way (λ node. []) d after)
      → AllStay plan marks items plan.everywhere (give_way (λ node. []) d after)
      → Near plan (Some (k ∷ [])) j (code_added (kept_code plan.marks plan.items (forest (node ∷ []))) d kept) after
  added_list k j d Forest.nil node kept there is stay = absurd (none-some node there)
  added_list k j zero (Forest.cons label within others) node kept there is stay =
      let same : record { label = label; inner = within } ≡ node = same_Some (record { label = label; inner = within }) node there in
      let inside = kept_code plan.marks plan.items within in
      let first =
      node_beside plan plan.marks plan.items (Some (k ∷ [])) j (own_code_by plan.marks plan.items label) inside label within
      (item_below plan item k j) refl (roomless_kept plan.marks plan.items within) (own_stays plan plan.everywhere label)
      (own_all plan plan.everywhere within)
      (near_beside plan plan.marks plan.items None 0 inside within (λ n le. refl) (roomless_kept plan.marks plan.items within)
      (own_all plan plan.everywhere within)) in
      let later = near_beside plan marks items (Some (k ∷ [])) (j + 1) kept others (λ n le. item_below plan item k n) is stay in
      subst
      (λ (n : PlainNode).
      Near plan (Some (k ∷ [])) j (code_added (kept_code plan.marks plan.items (forest (n ∷ []))) zero kept) (Forest.cons label within others))
      same (first, later)
  added_list k j (suc d) (Forest.cons label within others) node CodeForest.nil there is stay =
      absurd (differ (ap (λ (f : CodeForest). length (code_nodes f)) is))
    where
      differ : 0 ≡ suc (length (code_nodes (kept_code marks items (give_way (λ node. []) d others)))) → ⊥
      differ e = omega (arith, e)
  added_list k j (suc d) (Forest.cons label within others) node (CodeForest.cons own spare inner rest) there is stay =
      let inside : roomless_code inner ≡ kept_code marks items within = ap inner_of is in (
        node_beside plan marks items (Some (k ∷ [])) j own inner label within (item_below plan item k j) (ap own_of is) inside stay.0 stay.1
            (near_beside plan marks items None 0 inner within (λ n le. refl) inside stay.1),
        added_list k (j + 1) d others node rest there (ap rest_of is) stay.2,
      )

  -- nodes in order, of which the one to which the way leads has an item more inside it, or inside a node there
  added_inside : (next : ℕ) (path : List ℕ)
      → ((inner : CodeForest) (within : Forest)
      → roomless_code inner ≡ kept_code marks items (give_way (edit_below (λ node. []) path) next within)
      → AllStay plan marks items plan.everywhere (give_way (edit_below (λ node. []) path) next within) → IsSome (node_at within (next ∷ path))
      → Near plan (Some (next ∷ path)) 0 (item_edited plan (Some (next ∷ path)) inner within) within)
      → (k j d : ℕ) → k ≡ j + d → (after : Forest) (kept : CodeForest) → IsSome (node_at after (d ∷ next ∷ path))
      → roomless_code kept ≡ kept_code marks items (give_way (edit_below (λ node. []) (next ∷ path)) d after)
      → AllStay plan marks items plan.everywhere (give_way (edit_below (λ node. []) (next ∷ path)) d after)
      → Near plan (Some (k ∷ next ∷ path)) j kept after
  added_inside next path again k j d at Forest.nil kept there is stay = absurd (true≢false (sym there))
  added_inside next path again k j zero at (Forest.cons label within others) CodeForest.nil there is stay =
      absurd (differ (ap (λ (f : CodeForest). length (code_nodes f)) is))
    where
      differ : 0 ≡ suc (length (code_nodes (kept_code marks items others))) → ⊥
      differ e = omega (arith, e)
  added_inside next path again k j zero at (Forest.cons label within others) (CodeForest.cons own spare inner rest) there is stay =
      let way = Some (k ∷ next ∷ path) in
      let here : k ≡ j = omega (arith, at) in
      let its : own ≡ own_code_by marks items label = ap own_of is in
      let own_near : OwnNear plan false own label =
      subst (λ (was : PlainOwnCode). OwnNear plan false was label) (sym its) (stays_near plan marks items plan.everywhere label stay.0) in
      let near = again inner within (ap inner_of is) stay.1 there in
      let visited : is_visited plan way j ≡ true =
      ap (λ (n : ℕ). is_visited plan way n) (sym here) ∙ on_visited plan marks items k (next ∷ path) in
      let below : way_below plan.what way j ≡ Some (next ∷ path) =
      ap (λ (n : ℕ). way_below plan.what way n) (sym here) ∙ goes_on plan marks items k next path in
      let first : NodeIs plan marks items (is_visited plan way j) (way_below plan.what way j) own inner label within =
      subst (λ (b : Bool). NodeIs plan marks items b (way_below plan.what way j) own inner label within) (sym visited)
      (subst (λ (on : Option (List ℕ)). NodeIs plan marks items true on own inner label within) (sym below) (own_near, near)) in (
        first,
        near_beside plan marks items way (j + 1) rest others
            (λ n le. off_below plan marks items way n (λ e. omega (arith, le, here, same_Some k n e))) (ap rest_of is) stay.2,
      )
  added_inside next path again k j (suc d) at (Forest.cons label within others) CodeForest.nil there is stay =
      absurd (differ (ap (λ (f : CodeForest). length (code_nodes f)) is))
    where
      differ : 0 ≡ suc (length (code_nodes (kept_code marks items (give_way (edit_below (λ node. []) (next ∷ path)) d others)))) → ⊥
      differ e = omega (arith, e)
  added_inside next path again k j (suc d) at (Forest.cons label within others) (CodeForest.cons own spare inner rest) there is stay =
      let way = Some (k ∷ next ∷ path) in
      let inside : roomless_code inner ≡ kept_code marks items within = ap inner_of is in
      let off : way_below plan.what way j ≡ None = off_below plan marks items way j (λ e. omega (arith, at, same_Some k j e)) in (
        node_beside plan marks items way j own inner label within off (ap own_of is) inside stay.0 stay.1
            (near_beside plan marks items None 0 inner within (λ n le. refl) inside stay.1),
        added_inside next path again k (j + 1) d (omega (arith, at)) others rest there (ap rest_of is) stay.2,
      )

  -- a program after an item at a path came
  pub near_added : (path : List ℕ) (k : ℕ) (kept : CodeForest) (after : Forest)
      → roomless_code kept ≡ kept_code marks items (give_way (edit_below (λ node. []) path) k after)
      → AllStay plan marks items plan.everywhere (give_way (edit_below (λ node. []) path) k after) → IsSome (node_at after (k ∷ path))
      → Near plan (Some (k ∷ path)) 0 (item_edited plan (Some (k ∷ path)) kept after) after
  near_added [] k kept after is stay there = by (slice_get (nodes after) k) refl there
    where
      by : (o : Option PlainNode) → slice_get (nodes after) k ≡ o → IsSome (option_and_then (λ item. below item []) o)
          → Near plan (Some (k ∷ [])) 0 (item_edited plan (Some (k ∷ [])) kept after) after
      by None e some = absurd (true≢false (sym some))
      by (Some node) e some =
          let number : item_number plan.what (Some (k ∷ [])) ≡ Some k = ap (λ (b : Bool). if b then Some k else None) item in
          let one : kept_item plan k after ≡ kept_code plan.marks plan.items (forest (node ∷ [])) =
          ap
          (λ (o : Option PlainNode). option_map_or (λ node. kept_code plan.marks plan.items (forest (node ∷ []))) o CodeForest.nil)
          e in
          let edited : item_edited plan (Some (k ∷ [])) kept after ≡ code_added (kept_code plan.marks plan.items (forest (node ∷ []))) k kept =
          (λ i.
          option_map_or
          (λ n.
          if came i then code_added (kept_item plan n after) n kept
          else code_gives_way (λ was spare within. CodeForest.nil) n kept)
          (number i) kept)
          ∙ ap (λ (f : CodeForest). code_added f k kept) one in
          subst (λ (f : CodeForest). Near plan (Some (k ∷ [])) 0 f after) (sym edited) (added_list k 0 k after node kept e is stay)
  near_added (next ∷ path) k kept after is stay there =
      added_inside next path (λ inner within its stays some. near_added path next inner within its stays some) k 0 k (omega arith) after kept
      there is stay
