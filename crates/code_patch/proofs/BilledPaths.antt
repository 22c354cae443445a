-- Along the path to what an edit changed, what was kept of nodes is that of those after it: nothing else was changed.
use Rattle.std.proofs.Common.{◌≡◌, ℕ, zero, suc, ◌+◌, ◌-◌, ◌<◌, ◌≤◌, Bool, true, false, List, [], ◌∷◌, Option, Some, None, refl, ap, sym, subst, ◌∙◌, arith, eq-eqb, eqb-true, false-eqb, ltb-false, ltb-true, true≢false}
use Rattle.std.specs.Prelude.{not, ◌&&◌, ◌==◌, nat_lt, if◌then◌else◌, MatchOption, option_and_then, slice_get}
use Rattle.std.specs.Option.{option_map_or}
use Rattle.std.proofs.lemmas.Option.{none-some, same_Some}
use Rattle.plcs_base.specs.Mark.{MarkMap}
use Rattle.plcs_base.specs.Scope.{ItemMap}
use Rattle.template_tree.specs.declared.change.What.{What}
use Rattle.template_tree.specs.Edits.Edit.{edit_below, give_way}
use Rattle.template_tree.specs.Positions.Path.{below, node_at}
use Rattle.template_tree.specs.Programs.PlainTree.{Forest, Label, PlainNode, forest, join, nodes, roomless, roomless_node}
use Rattle.plcs_code.specs.OwnCode.{own_code_by}
use Rattle.code_patch.specs.Bill.{encloses_touched, has_touched, is_of_node}
use Rattle.code_patch.specs.CodeEdit.{roomless_code}
use Rattle.code_patch.specs.CodeForest.{CodeForest, kept_code, PlainCodeNode, code_nodes}
use Rattle.code_patch.specs.Private.EditCosts.{kept_for}
use Rattle.code_patch.specs.Private.NearCode.{PlainPlan, is_added, is_dropped, is_of_item, item_number, way_below}
use Rattle.code_patch.proofs.BilledNodes.{AllTouched, Along, ItemTouched, Listed, Unchanged, inner_touched}
use Rattle.code_patch.proofs.KeptPlaces.{first_item, given_child, kept_child}
use Rattle.code_patch.proofs.NearPaths.{goes_on, item_below, off_below}
use Rattle.code_patch.proofs.RoomlessTrees.{kept_alike, nodes_roomless}

-- ---- nodes of a number

-- a node without room, if there is one
abbrev bare : Option PlainNode → Option PlainNode
bare o = option_map_or (λ (n : PlainNode). Some (roomless_node n)) o None

-- the node of a number, of nodes that are the same but for room
alike_at : (one other : Forest) → roomless one ≡ roomless other → (k : ℕ) (node : PlainNode) → slice_get (nodes one) k ≡ Some node
    → (was : PlainNode) × (slice_get (nodes other) k ≡ Some was) × (roomless_node node ≡ roomless_node was)
alike_at one other same k node there = by (slice_get (nodes other) k) refl
  where
    both : Some (roomless_node node) ≡ bare (slice_get (nodes other) k)
    both =
        sym (ap bare there)
        ∙ sym (nodes_roomless one k)
        ∙ ap (λ (f : Forest). slice_get (nodes f) k) same
        ∙ nodes_roomless other k

    by : (o : Option PlainNode) → slice_get (nodes other) k ≡ o
        → (was : PlainNode) × (slice_get (nodes other) k ≡ Some was) × (roomless_node node ≡ roomless_node was)
    by None e = absurd (none-some (roomless_node node) (sym (both ∙ ap bare e)))
    by (Some was) e = (was, e, same_Some (roomless_node node) (roomless_node was) (both ∙ ap bare e))

-- another node than the one that gives way to one other
given_other : (gives : PlainNode → List PlainNode) (other : PlainNode) (k i : ℕ) (program : Forest) (item : PlainNode)
    → slice_get (nodes program) k ≡ Some item → gives item ≡ other ∷ [] → (i ≡ k → ⊥)
    → slice_get (nodes (give_way gives k program)) i ≡ slice_get (nodes program) i
given_other gives other zero i Forest.nil item there is apart = absurd (cc)
given_other gives other (suc k) i Forest.nil item there is apart = absurd (cc)
given_other gives other zero zero (Forest.cons label inner rest) item there is apart = absurd (apart refl)
given_other gives other zero (suc i) (Forest.cons label inner rest) item there is apart =
    let same : record { label = label; inner = inner } ≡ item = cc in
    ap (λ (ns : List PlainNode). slice_get (nodes (join (forest ns) rest)) (suc i)) (ap gives same ∙ is)
given_other gives other (suc k) zero (Forest.cons label inner rest) item there is apart = refl
given_other gives other (suc k) (suc i) (Forest.cons label inner rest) item there is apart =
    given_other gives other k i rest item there is (λ same. apart (ap suc same))

-- a node before one that goes, and one behind it
gone_before : (k i : ℕ) (program : Forest) → i < k → slice_get (nodes (give_way (λ other. []) k program)) i ≡ slice_get (nodes program) i
gone_before zero i program less = absurd (omega (arith, less))
gone_before (suc k) i Forest.nil less = refl
gone_before (suc k) zero (Forest.cons label inner rest) less = refl
gone_before (suc k) (suc i) (Forest.cons label inner rest) less = gone_before k i rest (omega (arith, less))

gone_behind : (k i : ℕ) (program : Forest) → k ≤ i → slice_get (nodes (give_way (λ other. []) k program)) i ≡ slice_get (nodes program) (suc i)
gone_behind zero i Forest.nil more = refl
gone_behind zero i (Forest.cons label inner rest) more = refl
gone_behind (suc k) i Forest.nil more = refl
gone_behind (suc k) zero (Forest.cons label inner rest) more = absurd (omega (arith, more))
gone_behind (suc k) (suc i) (Forest.cons label inner rest) more = gone_behind k i rest (omega (arith, more))

-- ---- what was kept of a node

module _ (plan : PlainPlan) (way : Option (List ℕ)) (kept : CodeForest) (i : ℕ) where
  -- where no item came or went it has the same number
  at_none : item_number plan.what way ≡ None → kept_for plan.what way kept i ≡ slice_get (code_nodes kept) i
  at_none none =
      ap
      (λ (o : Option ℕ).
      option_and_then (λ (n : ℕ). slice_get (code_nodes kept) n)
      (option_map_or
      (λ (item : ℕ).
      if nat_lt i item then Some i
      else (if is_added plan.what then (if i == item then None else Some (i - 1)) else Some (i + 1)))
      o (Some i)))
      none

  -- where one did, it is that by the number of the item
  at_item : (k : ℕ) (added less : Bool) → item_number plan.what way ≡ Some k → is_added plan.what ≡ added → nat_lt i k ≡ less
      → kept_for plan.what way kept i
      ≡ option_and_then (λ (n : ℕ). slice_get (code_nodes kept) n)
      (if less then Some i else (if added then (if i == k then None else Some (i - 1)) else Some (i + 1)))
  at_item k added less is did e =
      (λ j.
      option_and_then (λ (n : ℕ). slice_get (code_nodes kept) n)
      (option_map_or
      (λ (item : ℕ).
      if nat_lt i item then Some i
      else (if did j then (if i == item then None else Some (i - 1)) else Some (i + 1)))
      (is j) (Some i)))
      ∙ (λ j.
      option_and_then (λ (n : ℕ). slice_get (code_nodes kept) n)
      (if e j then Some i else (if added then (if i == k then None else Some (i - 1)) else Some (i + 1))))

module _ (plan : PlainPlan) (is_touched : ℕ → Bool) (before : Forest) (marks : MarkMap) (items : ItemMap) where
  -- what was kept of a node by its number among the nodes that were kept
  child_of : (kept : CodeForest) (program : Forest) (n : ℕ) (child : PlainCodeNode) (was node : PlainNode)
      → roomless_code kept ≡ kept_code marks items program → slice_get (code_nodes kept) n ≡ Some child → slice_get (nodes program) n ≡ Some was
      → roomless_node node ≡ roomless_node was → Unchanged plan is_touched before marks items child node
  child_of kept program n child was node is found there same =
      let its = kept_child marks items kept program n child was is found there in (
        its.0 ∙ ap (λ (m : PlainNode). own_code_by marks items m.label) (sym same),
        its.1 ∙ kept_alike marks items was.inner node.inner (ap (λ (m : PlainNode). m.inner) (sym same)),
      )

  -- what was kept of a node, by whether the way goes on below it
  abbrev WayIs : (PlainCodeNode → PlainNode → Type 0) → PlainCodeNode → PlainNode → Option (List ℕ) → Type 0
  WayIs It child node o = MatchOption o (Unchanged plan is_touched before marks items child node) (λ below. It child node)

  -- a list in which no item came or went, by its nodes
  on_list : (It : PlainCodeNode → PlainNode → Type 0) (k : ℕ) (path : List ℕ) (kept : CodeForest) (after : Forest)
      → item_number plan.what (Some (k ∷ path)) ≡ None → way_below plan.what (Some (k ∷ path)) k ≡ Some path
      → ((i : ℕ) (node : PlainNode) (child : PlainCodeNode) → (i ≡ k → ⊥) → slice_get (nodes after) i ≡ Some node
      → slice_get (code_nodes kept) i ≡ Some child → Unchanged plan is_touched before marks items child node)
      → ((node : PlainNode) (child : PlainCodeNode) → slice_get (nodes after) k ≡ Some node → slice_get (code_nodes kept) k ≡ Some child
      → It child node)
      → Listed plan is_touched before marks items It (Some (k ∷ path)) kept after
  on_list It k path kept after none on others one i node child there found = by (k == i) refl
    where
      kid : slice_get (code_nodes kept) i ≡ Some child
      kid = sym (at_none plan (Some (k ∷ path)) kept i none) ∙ found

      by : (b : Bool) → (k == i) ≡ b → WayIs It child node (way_below plan.what (Some (k ∷ path)) i)
      by true e =
          let same : k ≡ i = eqb-true k i e in
          subst (WayIs It child node) (sym on ∙ ap (λ (n : ℕ). way_below plan.what (Some (k ∷ path)) n) same)
          (one node child (ap (λ (n : ℕ). slice_get (nodes after) n) same ∙ there)
          (ap (λ (n : ℕ). slice_get (code_nodes kept) n) same ∙ kid))
      by false e =
          let apart : k ≡ i → ⊥ = false-eqb k i (sym e) in
          subst (WayIs It child node)
          (sym (off_below plan marks items (Some (k ∷ path)) i (λ same. apart (same_Some k i same))))
          (others i node child (λ same. apart (sym same)) there kid)

  -- no item is at the end of a way that goes deeper
  no_item : (k j : ℕ) (path : List ℕ) (after : Forest) → ItemTouched plan is_touched before (Some (k ∷ j ∷ path)) after
  no_item k j path after n is came = absurd (none-some n is)

  -- ---- an edit that leaves a node at the path, or drops one

  -- what of a program encloses something touched does so before the edit
  abbrev pub Encloses : Forest → Type 0
  Encloses program =
      (k : ℕ) (path : List ℕ) (item : PlainNode) → node_at program (k ∷ path) ≡ Some item → has_touched is_touched item.inner ≡ true
      → encloses_touched is_touched before item.label.slot ≡ true

  module _ (gives : PlainNode → List PlainNode) (node : PlainNode) (here : is_touched node.label.slot ≡ true) where
    -- what is so of the list in which the path ends
    abbrev pub Ends : Type 0
    Ends =
        (k : ℕ) (kept : CodeForest) (program after : Forest) → roomless_code kept ≡ kept_code marks items program
        → roomless after ≡ roomless (give_way gives k program) → slice_get (nodes program) k ≡ Some node
        → Listed plan is_touched before marks items (Along plan is_touched before marks items []) (Some (k ∷ [])) kept after
        × ItemTouched plan is_touched before (Some (k ∷ [])) after

    pub gave : Ends → (path : List ℕ) (k : ℕ) (kept : CodeForest) (program after : Forest)
        → roomless_code kept ≡ kept_code marks items program → roomless after ≡ roomless (give_way (edit_below gives path) k program)
        → node_at program (k ∷ path) ≡ Some node → Encloses program
        → Listed plan is_touched before marks items (Along plan is_touched before marks items path) (Some (k ∷ path)) kept after
        × ItemTouched plan is_touched before (Some (k ∷ path)) after
    gave ends [] k kept program after is same there encloses =
        let (item, first, on) = first_item program k [] node there in
        ends k kept program after is same (first ∙ on)
    gave ends (j ∷ path) k kept program after is same there encloses =
        let (item, first, on) = first_item program k (j ∷ path) node there in
        let given = give_way (edit_below gives (j ∷ path)) k program in
        let other : PlainNode = record item { inner = give_way (edit_below gives path) j item.inner } in (
          on_list (Along plan is_touched before marks items (j ∷ path)) k (j ∷ path) kept after refl (goes_on plan marks items k j path)
              (λ i inner child apart at found.
              let (was, was_there, alike) = alike_at after given same i inner at in
              child_of kept program i child was inner is found
              (sym (given_other (edit_below gives (j ∷ path)) other k i program item first refl apart) ∙ was_there) alike)
              (λ inner child at found.
              let (was, was_there, alike) = alike_at after given same k inner at in
              let its_other : was ≡ other =
              same_Some was other (sym was_there ∙ given_child (edit_below gives (j ∷ path)) other k program item first refl) in
              let its : roomless_node inner ≡ roomless_node other = alike ∙ ap roomless_node its_other in
              let slot : item.label.slot ≡ inner.label.slot = ap (λ (m : PlainNode). m.label.slot) (sym its) in
              let child_is = kept_child marks items kept program k child item is found first in
              let item_there : node_at program (k ∷ []) ≡ Some item =
              ap (λ (o : Option PlainNode). option_and_then (λ (n : PlainNode). below n []) o) first in
              let (listed, came) =
              gave ends path j child.inner item.inner inner.inner child_is.1 (ap (λ (m : PlainNode). m.inner) its) on
              (λ l way found_item at_item.
              encloses k (l ∷ way) found_item
              (ap (λ (o : Option PlainNode). option_and_then (λ (n : PlainNode). below n (l ∷ way)) o) first ∙ at_item)) in (
                child_is.0 ∙ ap (λ (m : PlainNode). own_code_by marks items m.label) (sym its),
                (λ went.
                    subst (λ (n : ℕ). encloses_touched is_touched before n ≡ true) slot
                    (encloses k [] item item_there (inner_touched plan is_touched before j path item node on here))),
                listed,
                came,
              )),
          no_item k j path after,
        )

  -- ---- another node comes

  pub put_ends : (new node : PlainNode) → is_of_item plan.what ≡ false → is_of_node plan.what ≡ true → is_touched new.label.slot ≡ true
      → ((m : PlainNode) → roomless_node m ≡ roomless_node new → AllTouched plan is_touched before m.inner)
      → (here : is_touched node.label.slot ≡ true) → Ends (λ other. new ∷ []) node here
  put_ends new node no_item puts came all here k kept program after is same first = (
    on_list (Along plan is_touched before marks items []) k [] kept after number on
        (λ i inner child apart at found.
        let (was, was_there, alike) = alike_at after (give_way (λ other. new ∷ []) k program) same i inner at in
        child_of kept program i child was inner is found
        (sym (given_other (λ other. new ∷ []) new k i program node first refl apart) ∙ was_there) alike)
        (λ inner child at found.
        let (was, was_there, alike) = alike_at after (give_way (λ other. new ∷ []) k program) same k inner at in
        let its_new : was ≡ new = same_Some was new (sym was_there ∙ given_child (λ other. new ∷ []) new k program node first refl) in
        let its : roomless_node inner ≡ roomless_node new = alike ∙ ap roomless_node its_new in (
          ap (λ (m : PlainNode). is_touched m.label.slot) its ∙ came,
          (λ holds. all inner its),
          (λ none. absurd (true≢false (sym puts ∙ none))),
        )),
    (λ n e holds. absurd (none-some n (sym number ∙ e))),
  )
    where
      number : item_number plan.what (Some (k ∷ [])) ≡ None
      number = ap (λ (b : Bool). if b then Some k else None) no_item

      on : way_below plan.what (Some (k ∷ [])) k ≡ Some []
      on = (λ i. if (eq-eqb k k refl i && not (no_item i)) then Some [] else None)

  -- ---- a part is another one

  -- a node with another label
  abbrev pub with_label : Label → PlainNode → PlainNode
  with_label label node = record { label = label; inner = node.inner }

  pub part_ends : (label : Label) (gives : PlainNode → List PlainNode) (node : PlainNode) → is_of_item plan.what ≡ false
      → is_of_node plan.what ≡ false → gives node ≡ with_label label node ∷ [] → label.slot ≡ node.label.slot
      → (here : is_touched node.label.slot ≡ true) → Ends gives node here
  part_ends label gives node no_item puts gave_one slot here k kept program after is same first = (
    on_list (Along plan is_touched before marks items []) k [] kept after number on
        (λ i inner child apart at found.
        let (was, was_there, alike) = alike_at after (give_way gives k program) same i inner at in
        child_of kept program i child was inner is found
        (sym (given_other gives (with_label label node) k i program node first gave_one apart) ∙ was_there) alike)
        (λ inner child at found.
        let (was, was_there, alike) = alike_at after (give_way gives k program) same k inner at in
        let its_new : was ≡ with_label label node = same_Some was (with_label label node) (sym was_there ∙ given_child gives (with_label label node) k program node first gave_one) in
        let its : roomless_node inner ≡ roomless_node (with_label label node) = alike ∙ ap roomless_node its_new in
        let child_is = kept_child marks items kept program k child node is found first in (
          ap (λ (m : PlainNode). is_touched m.label.slot) its ∙ ap is_touched slot ∙ here,
          (λ holds. absurd (true≢false (sym holds ∙ puts))),
          (λ none. child_is.1 ∙ kept_alike marks items node.inner inner.inner (ap (λ (m : PlainNode). m.inner) (sym its))),
        )),
    (λ n e holds. absurd (none-some n (sym number ∙ e))),
  )
    where
      number : item_number plan.what (Some (k ∷ [])) ≡ None
      number = ap (λ (b : Bool). if b then Some k else None) no_item

      on : way_below plan.what (Some (k ∷ [])) k ≡ Some []
      on = (λ i. if (eq-eqb k k refl i && not (no_item i)) then Some [] else None)

  -- ---- an item goes

  pub drop_ends : (node : PlainNode) → (item : is_of_item plan.what ≡ true) → (went : is_added plan.what ≡ false)
      → (here : is_touched node.label.slot ≡ true) → Ends (λ other. []) node here
  drop_ends node item went here k kept program after is same first = (
    (λ i inner child at found.
        let (was, was_there, alike) = alike_at after (give_way (λ other. []) k program) same i inner at in
        subst (λ (o : Option (List ℕ)). MatchOption o (Unchanged plan is_touched before marks items child inner) (λ below. Along plan is_touched before marks items [] child inner))
        (sym (item_below plan item k i)) (by i inner child was alike was_there found (nat_lt i k) refl)),
    (λ n e holds. absurd (true≢false (sym holds ∙ went))),
  )
    where
      number : item_number plan.what (Some (k ∷ [])) ≡ Some k
      number = ap (λ (b : Bool). if b then Some k else None) item

      by : (i : ℕ) (inner : PlainNode) (child : PlainCodeNode) (was : PlainNode) → roomless_node inner ≡ roomless_node was
          → slice_get (nodes (give_way (λ other. []) k program)) i ≡ Some was → kept_for plan.what (Some (k ∷ [])) kept i ≡ Some child
          → (less : Bool) → nat_lt i k ≡ less → Unchanged plan is_touched before marks items child inner
      by i inner child was alike was_there found true e =
          child_of kept program i child was inner is (sym (at_item plan (Some (k ∷ [])) kept i k false true number went e) ∙ found)
          (sym (gone_before k i program (ltb-true i k e)) ∙ was_there) alike
      by i inner child was alike was_there found false e =
          let next : suc i ≡ i + 1 = omega arith in
          child_of kept program (i + 1) child was inner is
          (sym (at_item plan (Some (k ∷ [])) kept i k false false number went e) ∙ found)
          (sym (ap (λ (n : ℕ). slice_get (nodes program) n) next)
          ∙ sym (gone_behind k i program (ltb-false i k e))
          ∙ was_there)
          alike

  -- ---- an item comes

  not_both : (what : What) → is_added what ≡ true → is_dropped what ≡ true → ⊥
  not_both What.Node came went = true≢false (sym came)
  not_both (What.Part part) came went = true≢false (sym came)
  not_both What.Added came went = true≢false (sym went)
  not_both What.Dropped came went = true≢false (sym came)

  module _ (node : PlainNode) (here : is_touched node.label.slot ≡ true) (all : AllTouched plan is_touched before node.inner)
      (item : is_of_item plan.what ≡ true) (came : is_added plan.what ≡ true) where
    came_listed : (k : ℕ) (kept : CodeForest) (after : Forest) → roomless_code kept ≡ kept_code marks items (give_way (λ other. []) k after)
        → (i : ℕ) (inner : PlainNode) (child : PlainCodeNode) → slice_get (nodes after) i ≡ Some inner
        → kept_for plan.what (Some (k ∷ [])) kept i ≡ Some child → (less same : Bool) → nat_lt i k ≡ less → (i == k) ≡ same
        → Unchanged plan is_touched before marks items child inner
    came_listed k kept after is i inner child at found true same e f =
        child_of kept (give_way (λ other. []) k after) i child inner inner is
        (sym (at_item plan (Some (k ∷ [])) kept i k true true (ap (λ (b : Bool). if b then Some k else None) item) came e) ∙ found)
        (gone_before k i after (ltb-true i k e) ∙ at) refl
    came_listed k kept after is i inner child at found false true e f =
        absurd
        (none-some child
        (sym
        (at_item plan (Some (k ∷ [])) kept i k true false (ap (λ (b : Bool). if b then Some k else None) item) came e
        ∙ ap
        (λ (b : Bool).
        option_and_then (λ (n : ℕ). slice_get (code_nodes kept) n) (if b then None else Some (i - 1)))
        f)
        ∙ found))
    came_listed k kept after is i inner child at found false false e f =
        let apart : i ≡ k → ⊥ = false-eqb i k (sym f) in
        let more : k ≤ i = ltb-false i k e in
        let before_it : k ≤ i - 1 = omega (arith, more, apart) in
        let next : suc (i - 1) ≡ i = omega (arith, more, apart) in
        child_of kept (give_way (λ other. []) k after) (i - 1) child inner inner is
        (sym
        (at_item plan (Some (k ∷ [])) kept i k true false (ap (λ (b : Bool). if b then Some k else None) item) came e
        ∙ ap
        (λ (b : Bool).
        option_and_then (λ (n : ℕ). slice_get (code_nodes kept) n) (if b then None else Some (i - 1)))
        f)
        ∙ found)
        (gone_behind k (i - 1) after before_it ∙ ap (λ (n : ℕ). slice_get (nodes after) n) next ∙ at) refl

    pub came_along : (path : List ℕ) (k : ℕ) (kept : CodeForest) (after : Forest)
        → roomless_code kept ≡ kept_code marks items (give_way (edit_below (λ other. []) path) k after) → node_at after (k ∷ path) ≡ Some node
        → Listed plan is_touched before marks items (Along plan is_touched before marks items path) (Some (k ∷ path)) kept after
        × ItemTouched plan is_touched before (Some (k ∷ path)) after
    came_along [] k kept after is there =
        let (first, found, on) = first_item after k [] node there in (
          (λ i inner child at kid.
              subst
              (λ (o : Option (List ℕ)).
              MatchOption o (Unchanged plan is_touched before marks items child inner)
              (λ below. Along plan is_touched before marks items [] child inner))
              (sym (item_below plan item k i)) (came_listed k kept after is i inner child at kid (nat_lt i k) (i == k) refl refl)),
          (λ n e holds.
              let number : item_number plan.what (Some (k ∷ [])) ≡ Some k = ap (λ (b : Bool). if b then Some k else None) item in
              let same : k ≡ n = same_Some k n (sym number ∙ e) in
              (node, ap (λ (m : ℕ). slice_get (nodes after) m) (sym same) ∙ found ∙ on, here, all)),
        )
    came_along (j ∷ path) k kept after is there =
        let (first, found, on) = first_item after k (j ∷ path) node there in
        let given = give_way (edit_below (λ other. []) (j ∷ path)) k after in
        let other : PlainNode = record first { inner = give_way (edit_below (λ other. []) path) j first.inner } in (
          on_list (Along plan is_touched before marks items (j ∷ path)) k (j ∷ path) kept after refl (goes_on plan marks items k j path)
              (λ i inner child apart at kid.
              child_of kept given i child inner inner is kid
              (given_other (edit_below (λ other. []) (j ∷ path)) other k i after first found refl apart ∙ at) refl)
              (λ inner child at kid.
              let one : first ≡ inner = same_Some first inner (sym found ∙ at) in
              let child_is =
              kept_child marks items kept given k child other is kid
              (given_child (edit_below (λ other. []) (j ∷ path)) other k after first found refl) in
              let (listed, item_came) = came_along path j child.inner first.inner child_is.1 on in
              subst (λ (m : PlainNode). Along plan is_touched before marks items (j ∷ path) child m) one (
                child_is.0,
                (λ went. absurd (not_both plan.what came went)),
                listed,
                item_came,
              )),
          no_item k j path after,
        )
