-- The bill for an edit covers what its preparation costs: of each kept node that is gone to, and so of lists of them,
-- along the path to what the edit changed.
use Rattle.std.proofs.Common.{◌≡◌, ℕ, zero, suc, ◌+◌, ◌≤◌, ◌⊎◌, inl, inr, Bool, true, false, List, [], ◌∷◌, Option, Some, None, refl, ap, sym, subst, ◌∙◌, arith, eq-eqb, ltb-true, true≢false, ◌-◌}
use Rattle.std.specs.Prelude.{not, ◌&&◌, ◌||◌, ◌==◌, nat_lt, if◌then◌else◌, min, sum, is_some, MatchOption, option_and_then, slice_get}
use Rattle.std.specs.Option.{option_map_or}
use Rattle.std.proofs.lemmas.List.Sums.{sum_by-cons}
use Rattle.std.proofs.lemmas.Option.{none-some, same_Some}
use Rattle.plcs_base.specs.Mark.{MarkMap}
use Rattle.plcs_base.specs.Scope.{ItemMap}
use Rattle.template_tree.specs.declared.change.What.{What}
use Rattle.template_tree.specs.Positions.Path.{below}
use Rattle.template_tree.specs.Programs.PlainTree.{Forest, Label, PlainNode, nodes}
use Rattle.plcs_code.specs.Gen.{node_lengths, own_length}
use Rattle.plcs_code.specs.OwnCode.{PlainOwnCode, own_code_by}
use Rattle.code_patch.specs.Bill.{billed, encloses_touched, has_touched, is_of_node}
use Rattle.code_patch.specs.CodeEdit.{roomless_code}
use Rattle.code_patch.specs.CodeForest.{CodeForest, kept_code, PlainCodeNode, code_nodes}
use Rattle.code_patch.specs.Private.EditCosts.{child_moves, gone_cost, is_put, kept_for, list_cost, list_moves, node_cost, node_moves, nodes_cost, nodes_move, own_cost, visited_cost}
use Rattle.code_patch.specs.Private.NearCode.{PlainPlan, is_added, is_dropped, is_of_item, is_remade, is_visited, item_number, way_below}
use Rattle.code_patch.specs.Private.PlainCodeNode.{node_length}
use Rattle.code_patch.proofs.KeptItems.{item_is}
use Rattle.code_patch.proofs.KeptPlaces.{first_item, kept_child}

-- ---- tests

pub or_first : (a b : Bool) → a ≡ true → (a || b) ≡ true
or_first true b holds = refl
or_first false b holds = absurd (true≢false (sym holds))

pub or_second : (a b : Bool) → b ≡ true → (a || b) ≡ true
or_second true b holds = refl
or_second false b holds = holds

pub or_either : (a b : Bool) → (a || b) ≡ true → (a ≡ true) ⊎ (b ≡ true)
or_either true b holds = inl refl
or_either false b holds = inr holds

or_wider : (a b c : Bool) → (a || b) ≡ true → (a || (b || c)) ≡ true
or_wider true b c holds = refl
or_wider false true c holds = refl
or_wider false false c holds = absurd (true≢false (sym holds))

or_last : (a b c : Bool) → c ≡ true → (a || (b || c)) ≡ true
or_last a b c holds = or_second a (b || c) (or_second b c holds)

-- own code costs no more than is billed for it, where it is touched if it is made anew, and else something inside is if
-- something moves there
own_paid : (n : ℕ) (touched inside made moved : Bool) → (made ≡ true → touched ≡ true) → (moved ≡ true → inside ≡ true)
    → (if made then n else (if moved then min 2 n else 0)) ≤ (if touched then n else (if inside then 2 else 0))
own_paid n true inside true moved one other = omega arith
own_paid n true inside false true one other = omega arith
own_paid n true inside false false one other = omega arith
own_paid n false inside true moved one other = absurd (true≢false (sym (one refl)))
own_paid n false true false true one other = omega arith
own_paid n false true false false one other = omega arith
own_paid n false false false true one other = absurd (true≢false (sym (other refl)))
own_paid n false false false false one other = omega arith

module _ (plan : PlainPlan) (is_touched : ℕ → Bool) (before : Forest) where
  -- what is billed for nodes in order, and for the own code of one
  abbrev pub bill : Forest → ℕ
  bill after = billed is_touched before plan.marks plan.items after

  abbrev own_bill : Label → (within : Forest) → ℕ
  own_bill label within =
      if is_touched label.slot then own_length plan.marks plan.items label
      else (if has_touched is_touched within || encloses_touched is_touched before label.slot then 2 else 0)

  -- whether a node or one inside it is touched
  abbrev touched_in : PlainNode → Bool
  touched_in node = is_touched node.label.slot || has_touched is_touched node.inner

  -- all nodes, and those inside them, are touched
  abbrev pub AllTouched : Forest → Type 0
  AllTouched Forest.nil = Unit {0}
  AllTouched (Forest.cons label inner rest) = (is_touched label.slot ≡ true) × AllTouched inner × AllTouched rest

  -- what a node costs is billed for it, and where something becomes of it, something of it is touched, or else this is
  -- so
  abbrev pub NodePaid : (Else : Type 0) → (cost : ℕ) → (moved : Bool) → PlainNode → Type 0
  NodePaid Else cost moved node =
      (cost ≤ own_bill node.label node.inner + bill node.inner) × (moved ≡ true → (touched_in node ≡ true) ⊎ Else)

  -- and so of nodes in order
  abbrev pub ListPaid : (Else : Type 0) → (cost : ℕ) → (moved : Bool) → Forest → Type 0
  ListPaid Else cost moved after = (cost ≤ bill after) × (moved ≡ true → (has_touched is_touched after ≡ true) ⊎ Else)

  nothing_paid : (Else : Type 0) (node : PlainNode) → NodePaid Else 0 false node
  nothing_paid Else node = (omega arith, λ holds. absurd (true≢false (sym holds)))

  -- where what else may be so is another thing
  else_paid : (One Other : Type 0) → (One → Other) → (cost : ℕ) (moved : Bool) (node : PlainNode) → NodePaid One cost moved node
      → NodePaid Other cost moved node
  else_paid One Other so cost moved node paid = (paid.0, λ holds. by (paid.1 holds))
    where
      by : (touched_in node ≡ true) ⊎ One → (touched_in node ≡ true) ⊎ Other
      by (inl e) = inl e
      by (inr e) = inr (so e)

  -- a node and those behind it
  both_paid : (Else : Type 0) (a b : ℕ) (m n : Bool) (label : Label) (within others : Forest)
      → NodePaid Else a m (record { label = label; inner = within }) → ListPaid Else b n others
      → ListPaid Else (a + b) (m || n) (Forest.cons label within others)
  both_paid Else a b m n label within others one rest = (
    omega (arith, one.0, rest.0),
    λ holds. by (or_either m n holds),
  )
    where
      first : (touched_in (record { label = label; inner = within }) ≡ true) ⊎ Else → (has_touched is_touched (Forest.cons label within others) ≡ true) ⊎ Else
      first (inl e) = inl (or_wider (is_touched label.slot) (has_touched is_touched within) (has_touched is_touched others) e)
      first (inr e) = inr e

      later : (has_touched is_touched others ≡ true) ⊎ Else → (has_touched is_touched (Forest.cons label within others) ≡ true) ⊎ Else
      later (inl e) = inl (or_last (is_touched label.slot) (has_touched is_touched within) (has_touched is_touched others) e)
      later (inr e) = inr e

      by : (m ≡ true) ⊎ (n ≡ true) → (has_touched is_touched (Forest.cons label within others) ≡ true) ⊎ Else
      by (inl e) = first (one.1 e)
      by (inr e) = later (rest.1 e)

  -- a node whose own code may be made anew, by what is inside it
  mended_paid : (Else : Type 0) (label : Label) (within : Forest) (made moved : Bool) (inside : ℕ)
      → (made ≡ true → is_touched label.slot ≡ true) → (Else → encloses_touched is_touched before label.slot ≡ true)
      → ListPaid Else inside moved within
      → NodePaid Else (own_cost plan made moved label + inside) (made || moved) (record { label = label; inner = within })
  mended_paid Else label within made moved inside touched encloses list =
      let own =
      own_paid (own_length plan.marks plan.items label) (is_touched label.slot)
      (has_touched is_touched within || encloses_touched is_touched before label.slot) made moved touched (λ holds. enclosed (list.1 holds)) in (
        omega (arith, own, list.0),
        λ holds. by (or_either made moved holds),
      )
    where
      enclosed : (has_touched is_touched within ≡ true) ⊎ Else → (has_touched is_touched within || encloses_touched is_touched before label.slot) ≡ true
      enclosed (inl e) = or_first (has_touched is_touched within) (encloses_touched is_touched before label.slot) e
      enclosed (inr e) = or_second (has_touched is_touched within) (encloses_touched is_touched before label.slot) (encloses e)

      inner : (has_touched is_touched within ≡ true) ⊎ Else → (touched_in (record { label = label; inner = within }) ≡ true) ⊎ Else
      inner (inl e) = inl (or_second (is_touched label.slot) (has_touched is_touched within) e)
      inner (inr e) = inr e

      by : (made ≡ true) ⊎ (moved ≡ true) → (touched_in (record { label = label; inner = within }) ≡ true) ⊎ Else
      by (inl e) = inl (or_first (is_touched label.slot) (has_touched is_touched within) (touched e))
      by (inr e) = inner (list.1 e)

  -- ---- all of a node is touched

  lengths_paid : (after : Forest) → AllTouched after → sum (node_lengths plan.marks plan.items after) ≤ bill after
  lengths_paid Forest.nil all = omega arith
  lengths_paid (Forest.cons label inner rest) all =
      let whole = node_length plan.marks plan.items (record { label = label; inner = inner }) in
      let own : own_bill label inner ≡ own_length plan.marks plan.items label =
      ap
      (λ (b : Bool).
      if b then own_length plan.marks plan.items label
      else (if has_touched is_touched inner || encloses_touched is_touched before label.slot then 2 else 0))
      all.0 in
      omega
      (arith, own, lengths_paid inner all.1, lengths_paid rest all.2, sum_by-cons (λ (n : ℕ). n) whole (node_lengths plan.marks plan.items rest))

  put_paid : (Else : Type 0) (moved : Bool) (node : PlainNode) → is_touched node.label.slot ≡ true → AllTouched node.inner
      → NodePaid Else (node_length plan.marks plan.items node) moved node
  put_paid Else moved node here all =
      let own : own_bill node.label node.inner ≡ own_length plan.marks plan.items node.label =
      ap
      (λ (b : Bool).
      if b then own_length plan.marks plan.items node.label
      else (if has_touched is_touched node.inner || encloses_touched is_touched before node.label.slot then 2 else 0))
      here in (
        omega (arith, own, lengths_paid node.inner all),
        λ holds. inl (or_first (is_touched node.label.slot) (has_touched is_touched node.inner) here),
      )

  -- something is touched where a node of it is
  pub touched_there : (after : Forest) (j : ℕ) (node : PlainNode) → slice_get (nodes after) j ≡ Some node → touched_in node ≡ true
      → has_touched is_touched after ≡ true
  touched_there Forest.nil zero node there is = absurd (none-some node there)
  touched_there Forest.nil (suc j) node there is = absurd (none-some node there)
  touched_there (Forest.cons label inner rest) zero node there is =
      let same : record { label = label; inner = inner } ≡ node = cc in
      or_wider (is_touched label.slot) (has_touched is_touched inner) (has_touched is_touched rest) (ap touched_in same ∙ is)
  touched_there (Forest.cons label inner rest) (suc j) node there is =
      or_last (is_touched label.slot) (has_touched is_touched inner) (has_touched is_touched rest) (touched_there rest j node there is)

  -- a node is touched, or something inside it, where a node at a path below it is
  pub below_touched : (path : List ℕ) (item node : PlainNode) → below item path ≡ Some node → is_touched node.label.slot ≡ true
      → touched_in item ≡ true
  below_touched [] item node on here =
      let same : item ≡ node = same_Some item node on in
      or_first (is_touched item.label.slot) (has_touched is_touched item.inner) (ap (λ (m : PlainNode). is_touched m.label.slot) same ∙ here)
  below_touched (j ∷ path) item node on here =
      let (kid, first, rest) = first_item item.inner j path node on in
      or_second (is_touched item.label.slot) (has_touched is_touched item.inner)
      (touched_there item.inner j kid first (below_touched path kid node rest here))

  pub inner_touched : (j : ℕ) (path : List ℕ) (item node : PlainNode) → below item (j ∷ path) ≡ Some node → is_touched node.label.slot ≡ true
      → has_touched is_touched item.inner ≡ true
  inner_touched j path item node on here =
      let (kid, first, rest) = first_item item.inner j path node on in
      touched_there item.inner j kid first (below_touched path kid node rest here)

  -- ---- nodes in order, by what each costs

  module _ (Else : Type 0) (way : Option (List ℕ)) (kept : CodeForest) where
    -- a node of a number, by what is paid for what was kept of it
    abbrev Visited : (k : ℕ) → PlainNode → Type 0
    Visited k node =
        NodePaid Else (visited_cost plan way kept k node) (is_visited plan way k && child_moves plan way kept k node) node

    abbrev Gone : (k : ℕ) → PlainNode → Type 0
    Gone k node =
        (child : PlainCodeNode) → kept_for plan.what way kept k ≡ Some child
        → NodePaid Else (gone_cost plan (way_below plan.what way k) child node)
        (is_put plan (way_below plan.what way k) || node_moves plan (way_below plan.what way k) child node) node

    visited_paid : (k : ℕ) (node : PlainNode) → Gone k node → Visited k node
    visited_paid k node gone = by (is_visited plan way k) (kept_for plan.what way kept k) refl
      where
        by : (b : Bool) (o : Option PlainCodeNode) → kept_for plan.what way kept k ≡ o
            → NodePaid Else
            (if b then option_map_or (λ (c : PlainCodeNode). gone_cost plan (way_below plan.what way k) c node) o 0 else 0)
            (b
            && option_map_or
            (λ (c : PlainCodeNode).
            is_put plan (way_below plan.what way k) || node_moves plan (way_below plan.what way k) c node)
            o false)
            node
        by false o e = nothing_paid Else node
        by true None e = nothing_paid Else node
        by true (Some child) e = gone child e

    all_paid : (after : Forest) (k : ℕ) → ((j : ℕ) (node : PlainNode) → slice_get (nodes after) j ≡ Some node → Visited (k + j) node)
        → ListPaid Else (nodes_cost plan way kept k after) (nodes_move plan way kept k after) after
    all_paid Forest.nil k each = (omega arith, λ holds. absurd (true≢false (sym holds)))
    all_paid (Forest.cons label within others) k each =
        let first : PlainNode = record { label = label; inner = within } in
        let at : k + 0 ≡ k = omega arith in
        both_paid Else (visited_cost plan way kept k first) (nodes_cost plan way kept (k + 1) others)
        (is_visited plan way k && child_moves plan way kept k first) (nodes_move plan way kept (k + 1) others) label within others
        (subst (λ (n : ℕ). Visited n first) at (each 0 first refl))
        (all_paid others (k + 1)
        (λ j node there.
        let next : k + suc j ≡ k + 1 + j = omega arith in
        subst (λ (n : ℕ). Visited n node) next (each (suc j) node there)))

    -- with an item that came among them
    with_item : (item : PlainNode) → is_touched item.label.slot ≡ true → AllTouched item.inner → (after : Forest) (k j : ℕ)
        → slice_get (nodes after) j ≡ Some item → kept_for plan.what way kept (k + j) ≡ None
        → ((i : ℕ) (node : PlainNode) → slice_get (nodes after) i ≡ Some node → Visited (k + i) node)
        → node_length plan.marks plan.items item + nodes_cost plan way kept k after ≤ bill after
    with_item item here all Forest.nil k zero there none each = absurd (none-some item there)
    with_item item here all Forest.nil k (suc j) there none each = absurd (none-some item there)
    with_item item here all (Forest.cons label within others) k zero there none each =
        let first : PlainNode = record { label = label; inner = within } in
        let same : first ≡ item = cc in
        let at : k + 0 ≡ k = omega arith in
        let absent : kept_for plan.what way kept k ≡ None = sym (ap (λ (n : ℕ). kept_for plan.what way kept n) at) ∙ none in
        let nothing : visited_cost plan way kept k first ≡ 0 =
        (λ i.
        if is_visited plan way k
        then option_map_or (λ (c : PlainCodeNode). gone_cost plan (way_below plan.what way k) c first) (absent i) 0
        else 0)
        ∙ either (is_visited plan way k) in
        let paid = (put_paid Else true item here all).0 in
        let bills : own_bill item.label item.inner + bill item.inner ≡ own_bill label within + bill within =
        ap (λ (m : PlainNode). own_bill m.label m.inner + bill m.inner) (sym same) in
        let rest =
        all_paid others (k + 1)
        (λ j node found.
        let next : k + suc j ≡ k + 1 + j = omega arith in
        subst (λ (n : ℕ). Visited n node) next (each (suc j) node found)) in
        omega (arith, nothing, paid, bills, rest.0)
      where
        either : (b : Bool) → ◌≡◌ {A = ℕ} (if b then 0 else 0) 0
        either true = refl
        either false = refl
    with_item item here all (Forest.cons label within others) k (suc j) there none each =
        let first : PlainNode = record { label = label; inner = within } in
        let at : k + 0 ≡ k = omega arith in
        let on : k + suc j ≡ k + 1 + j = omega arith in
        let one = (subst (λ (n : ℕ). Visited n first) at (each 0 first refl)).0 in
        let rest =
        with_item item here all others (k + 1) j there (sym (ap (λ (n : ℕ). kept_for plan.what way kept n) on) ∙ none)
        (λ i node found.
        let next : k + suc i ≡ k + 1 + i = omega arith in
        subst (λ (n : ℕ). Visited n node) next (each (suc i) node found)) in
        omega (arith, one, rest)

  -- where an item went
  pub item_gone : (way : Option (List ℕ)) (k : ℕ) → item_number plan.what way ≡ Some k → is_added plan.what ≡ false → is_dropped plan.what ≡ true
  item_gone way k is other = by plan.what (item_is plan.what way k is) other
    where
      by : (what : What) → is_of_item what ≡ true → is_added what ≡ false → is_dropped what ≡ true
      by What.Node item none = absurd (true≢false (sym item))
      by (What.Part part) item none = absurd (true≢false (sym item))
      by What.Added item none = absurd (true≢false none)
      by What.Dropped item none = refl

  -- an item that came was not kept
  pub item_absent : (way : Option (List ℕ)) (kept : CodeForest) (k : ℕ) → item_number plan.what way ≡ Some k → is_added plan.what ≡ true
      → kept_for plan.what way kept k ≡ None
  item_absent way kept k is came =
      ap (λ (o : Option ℕ). option_and_then (λ (n : ℕ). slice_get (code_nodes kept) n) o)
      ((λ i.
      option_map_or
      (λ (item : ℕ).
      if nat_lt k item then Some k
      else (if came i then (if k == item then None else Some (k - 1)) else Some (k + 1)))
      (is i) (Some k))
      ∙ here)
    where
      here : (if nat_lt k k then Some k else (if k == k then None else Some (k - 1))) ≡ None
      here = by (nat_lt k k) (k == k) refl (eq-eqb k k refl)
        where
          by : (less same : Bool) → nat_lt k k ≡ less → same ≡ true
              → (if less then Some k else (if same then None else Some (k - 1))) ≡ None
          by true same e f = absurd (omega (arith, ltb-true k k e))
          by false true e f = refl
          by false false e f = absurd (true≢false (sym f))

  -- an item that came is touched, and all inside it
  abbrev pub ItemTouched : (way : Option (List ℕ)) → (after : Forest) → Type 0
  ItemTouched way after =
      (k : ℕ) → item_number plan.what way ≡ Some k → is_added plan.what ≡ true
      → (item : PlainNode) × (slice_get (nodes after) k ≡ Some item) × (is_touched item.label.slot ≡ true)
      × AllTouched item.inner

  -- a list, by what is paid for each that was kept
  list_paid : (Else : Type 0) → (is_dropped plan.what ≡ true → Else) → (way : Option (List ℕ)) (kept : CodeForest) (after : Forest)
      → ItemTouched way after → ((k : ℕ) (node : PlainNode) → slice_get (nodes after) k ≡ Some node → Gone Else way kept k node)
      → ListPaid Else (list_cost plan way kept after) (list_moves plan way kept after) after
  list_paid Else went way kept after item each = by (item_number plan.what way) (is_added plan.what) refl refl
    where
      paid : (j : ℕ) (node : PlainNode) → slice_get (nodes after) j ≡ Some node → Visited Else way kept (0 + j) node
      paid j node there =
          let at : j ≡ 0 + j = omega arith in
          subst (λ (n : ℕ). Visited Else way kept n node) at (visited_paid Else way kept j node (each j node there))

      nodes_paid : ListPaid Else (nodes_cost plan way kept 0 after) (nodes_move plan way kept 0 after) after
      nodes_paid = all_paid Else way kept after 0 paid

      by : (o : Option ℕ) (added : Bool) → item_number plan.what way ≡ o → is_added plan.what ≡ added
          → ListPaid Else
          (option_map_or
          (λ (k : ℕ).
          if added
          then option_map_or (λ (node : PlainNode). node_length plan.marks plan.items node) (slice_get (nodes after) k) 0
          else 0)
          o 0
          + nodes_cost plan way kept 0 after)
          (is_some o || nodes_move plan way kept 0 after) after
      by None added e f = (omega (arith, nodes_paid.0), nodes_paid.1)
      by (Some k) false e f = (omega (arith, nodes_paid.0), λ holds. inr (went (item_gone way k e f)))
      by (Some k) true e f =
          let (node, there, here, all) = item k e f in
          let at : k ≡ 0 + k = omega arith in
          let cost : option_map_or (λ (m : PlainNode). node_length plan.marks plan.items m) (slice_get (nodes after) k) 0 ≡ node_length plan.marks plan.items node =
          ap (λ (o : Option PlainNode). option_map_or (λ (m : PlainNode). node_length plan.marks plan.items m) o 0) there in
          let absent : kept_for plan.what way kept (0 + k) ≡ None =
          sym (ap (λ (n : ℕ). kept_for plan.what way kept n) at) ∙ item_absent way kept k e f in
          let both = with_item Else way kept node here all after 0 k there absent paid in (
            omega (arith, cost, both),
            λ holds. inl (touched_there after k node there (or_first (is_touched node.label.slot) (has_touched is_touched node.inner) here)),
          )

  -- a list in which no item came or went
  no_item_paid : (Else : Type 0) (way : Option (List ℕ)) (kept : CodeForest) (after : Forest) → item_number plan.what way ≡ None
      → ListPaid Else (nodes_cost plan way kept 0 after) (nodes_move plan way kept 0 after) after
      → ListPaid Else (list_cost plan way kept after) (list_moves plan way kept after) after
  no_item_paid Else way kept after none paid = by (item_number plan.what way) none
    where
      by : (o : Option ℕ) → o ≡ None
          → ListPaid Else
          (option_map_or
          (λ (k : ℕ).
          if is_added plan.what
          then option_map_or (λ (node : PlainNode). node_length plan.marks plan.items node) (slice_get (nodes after) k) 0
          else 0)
          o 0
          + nodes_cost plan way kept 0 after)
          (is_some o || nodes_move plan way kept 0 after) after
      by None e = (omega (arith, paid.0), paid.1)
      by (Some k) e = absurd (none-some k (sym e))

  -- ---- where nothing was changed

  module _ (marks : MarkMap) (items : ItemMap) where
    -- what was kept of a node is that of it by the marks and items before
    abbrev pub Unchanged : PlainCodeNode → PlainNode → Type 0
    Unchanged child node =
        (child.own ≡ own_code_by marks items node.label) × (roomless_code child.inner ≡ kept_code marks items node.inner)

    -- what was kept of the nodes of a list: nothing was changed but below the node to which the way goes on, of which
    -- this is so
    abbrev pub Listed : (PlainCodeNode → PlainNode → Type 0) → (way : Option (List ℕ)) → CodeForest → Forest → Type 0
    Listed It way kept after =
        (k : ℕ) (node : PlainNode) (child : PlainCodeNode) → slice_get (nodes after) k ≡ Some node
        → kept_for plan.what way kept k ≡ Some child
        → MatchOption (way_below plan.what way k) (Unchanged child node) (λ below. It child node)

    -- what was kept of a node, and what stands there after an edit at the path below it
    abbrev pub Along : (path : List ℕ) → PlainCodeNode → PlainNode → Type 0
    Along [] child node =
        (is_touched node.label.slot ≡ true) × (is_of_node plan.what ≡ true → AllTouched node.inner)
        × (is_of_node plan.what ≡ false → roomless_code child.inner ≡ kept_code marks items node.inner)
    Along (k ∷ path) child node =
        (child.own ≡ own_code_by marks items node.label)
        × (is_dropped plan.what ≡ true → encloses_touched is_touched before node.label.slot ≡ true)
        × Listed (Along path) (Some (k ∷ path)) child.inner node.inner × ItemTouched (Some (k ∷ path)) node.inner

  -- where own code is made anew of what is touched alone
  module _ (marks : MarkMap) (items : ItemMap)
      (remade : (own : PlainOwnCode) (label : Label) → own ≡ own_code_by marks items label → is_remade plan false own label ≡ true
      → is_touched label.slot ≡ true) where
    unchanged_list : (after : Forest) (kept : CodeForest) (k : ℕ)
        → ((j : ℕ) (node : PlainNode) (child : PlainCodeNode) → slice_get (nodes after) j ≡ Some node
        → slice_get (code_nodes kept) (k + j) ≡ Some child → Unchanged marks items child node)
        → ListPaid ⊥ (nodes_cost plan None kept k after) (nodes_move plan None kept k after) after
    unchanged_list Forest.nil kept k each = (omega arith, λ holds. absurd (true≢false (sym holds)))
    unchanged_list (Forest.cons label within others) kept k each =
        let first : PlainNode = record { label = label; inner = within } in
        let at : k ≡ k + 0 = omega arith in
        both_paid ⊥ (visited_cost plan None kept k first) (nodes_cost plan None kept (k + 1) others)
        (is_visited plan None k && child_moves plan None kept k first) (nodes_move plan None kept (k + 1) others) label within others
        (visited_paid ⊥ None kept k first
        (λ child found.
        let same = each 0 first child refl (ap (λ (n : ℕ). slice_get (code_nodes kept) n) (sym at) ∙ found) in
        mended_paid ⊥ label within (is_remade plan false child.own label) (list_moves plan None child.inner within)
        (list_cost plan None child.inner within) (remade child.own label same.0) (λ none. absurd none)
        (no_item_paid ⊥ None child.inner within refl
        (unchanged_list within child.inner 0
        (λ j node kid there kept_there.
        let zeroth : j ≡ 0 + j = omega arith in
        kept_child marks items child.inner within j kid node same.1
        (ap (λ (n : ℕ). slice_get (code_nodes child.inner) n) zeroth ∙ kept_there) there)))))
        (unchanged_list others kept (k + 1)
        (λ j node child there kept_there.
        let on : k + suc j ≡ k + 1 + j = omega arith in
        each (suc j) node child there (ap (λ (n : ℕ). slice_get (code_nodes kept) n) on ∙ kept_there)))

    -- a node below which the way doesn't go on
    unchanged_paid : (Else : Type 0) (child : PlainCodeNode) (node : PlainNode) → Unchanged marks items child node
        → NodePaid Else (gone_cost plan None child node) (is_put plan None || node_moves plan None child node) node
    unchanged_paid Else child node same =
        else_paid ⊥ Else (λ none. absurd none) (gone_cost plan None child node) (is_put plan None || node_moves plan None child node) node
        (mended_paid ⊥ node.label node.inner (is_remade plan false child.own node.label) (list_moves plan None child.inner node.inner)
        (list_cost plan None child.inner node.inner) (remade child.own node.label same.0) (λ none. absurd none)
        (no_item_paid ⊥ None child.inner node.inner refl
        (unchanged_list node.inner child.inner 0
        (λ j inner kid there kept_there.
        let zeroth : j ≡ 0 + j = omega arith in
        kept_child marks items child.inner node.inner j kid inner same.1
        (ap (λ (n : ℕ). slice_get (code_nodes child.inner) n) zeroth ∙ kept_there) there))))

    -- ---- along the path

    below_is : (k i : ℕ) (path below : List ℕ) → way_below plan.what (Some (k ∷ path)) i ≡ Some below → path ≡ below
    below_is k i [] below is = by ((k == i) && not (is_of_item plan.what)) is
      where
        by : (b : Bool) → (if b then Some [] else None) ≡ Some below → [] ≡ below
        by true e = same_Some [] below e
        by false e = absurd (none-some below e)
    below_is k i (next ∷ path) below is = by (k == i) is
      where
        by : (b : Bool) → (if b then Some (next ∷ path) else None) ≡ Some below → next ∷ path ≡ below
        by true e = same_Some (next ∷ path) below e
        by false e = absurd (none-some below e)

    -- what is paid for a node by the way below it
    abbrev Below : (Else : Type 0) → Option (List ℕ) → PlainCodeNode → PlainNode → Type 0
    Below Else below child node =
        NodePaid Else (gone_cost plan below child node) (is_put plan below || node_moves plan below child node) node

    -- a list, by what is so of the node to which the way goes on
    along_list : (Else : Type 0) → (is_dropped plan.what ≡ true → Else) → (k : ℕ) (path : List ℕ) (It : PlainCodeNode → PlainNode → Type 0)
        → ((child : PlainCodeNode) (node : PlainNode) → It child node → Below Else (Some path) child node)
        → (kept : CodeForest) (after : Forest) → Listed marks items It (Some (k ∷ path)) kept after → ItemTouched (Some (k ∷ path)) after
        → ListPaid Else (list_cost plan (Some (k ∷ path)) kept after) (list_moves plan (Some (k ∷ path)) kept after) after
    along_list Else went k path It paid kept after listed item =
        list_paid Else went (Some (k ∷ path)) kept after item
        (λ i node there child found.
        by i node child (way_below plan.what (Some (k ∷ path)) i) refl (listed i node child there found))
      where
        by : (i : ℕ) (node : PlainNode) (child : PlainCodeNode) (o : Option (List ℕ)) → way_below plan.what (Some (k ∷ path)) i ≡ o
            → MatchOption o (Unchanged marks items child node) (λ below. It child node) → Below Else o child node
        by i node child None e same = unchanged_paid Else child node same
        by i node child (Some below) e it =
            subst (λ (p : List ℕ). Below Else (Some p) child node) (below_is k i path below e) (paid child node it)

    -- a node, along the path below it
    along_paid : (path : List ℕ) (child : PlainCodeNode) (node : PlainNode) → Along marks items path child node
        → Below (is_dropped plan.what ≡ true) (Some path) child node
    along_paid [] child node along = by (is_of_node plan.what) refl
      where
        inside : is_of_node plan.what ≡ false
            → ListPaid ⊥ (nodes_cost plan (Some []) child.inner 0 node.inner) (nodes_move plan (Some []) child.inner 0 node.inner) node.inner
        inside e =
            all_paid ⊥ (Some []) child.inner node.inner 0
            (λ j inner there.
            let at : j ≡ 0 + j = omega arith in
            subst (λ (n : ℕ). Visited ⊥ (Some []) child.inner n inner) at
            (visited_paid ⊥ (Some []) child.inner j inner
            (λ kid found.
            unchanged_paid ⊥ kid inner
            (kept_child marks items child.inner node.inner j kid inner (along.2 e) found there))))

        by : (b : Bool) → is_of_node plan.what ≡ b
            → NodePaid (is_dropped plan.what ≡ true) (if b then node_length plan.marks plan.items node else node_cost plan (Some []) child node)
            (b || node_moves plan (Some []) child node) node
        by true e = put_paid (is_dropped plan.what ≡ true) true node along.0 (along.1 e)
        by false e =
            else_paid ⊥ (is_dropped plan.what ≡ true) (λ none. absurd none) (node_cost plan (Some []) child node) (node_moves plan (Some []) child node) node
            (mended_paid ⊥ node.label node.inner (is_remade plan true child.own node.label) (list_moves plan (Some []) child.inner node.inner)
            (list_cost plan (Some []) child.inner node.inner) (λ made. along.0) (λ none. absurd none)
            (no_item_paid ⊥ (Some []) child.inner node.inner refl (inside e)))
    along_paid (k ∷ path) child node along =
        mended_paid (is_dropped plan.what ≡ true) node.label node.inner (is_remade plan false child.own node.label)
        (list_moves plan (Some (k ∷ path)) child.inner node.inner) (list_cost plan (Some (k ∷ path)) child.inner node.inner)
        (remade child.own node.label along.0) along.1
        (along_list (is_dropped plan.what ≡ true) (λ holds. holds) k path (Along marks items path) (λ kid inner it. along_paid path kid inner it) child.inner
        node.inner along.2 along.3)

    -- a program, along the path to what an edit changed
    pub program_paid : (k : ℕ) (path : List ℕ) (kept : CodeForest) (after : Forest) → Listed marks items (Along marks items path) (Some (k ∷ path)) kept after
        → ItemTouched (Some (k ∷ path)) after → list_cost plan (Some (k ∷ path)) kept after ≤ bill after
    program_paid k path kept after listed item =
        (along_list (is_dropped plan.what ≡ true) (λ holds. holds) k path (Along marks items path) (along_paid path) kept after listed item).0
