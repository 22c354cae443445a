-- What is prepared in a list of kept nodes, node by node: a step more, and the nodes that are gone through.
use Rattle.std.proofs.Common.{◌≡◌, ℕ, ◌+◌, ◌-◌, ◌<◌, ◌≤◌, Bool, true, false, List, [], ◌∷◌, ◌++◌, length, sum, take, Option, Some, None, refl, ap, sym, subst, ◌∙◌, arith, eq-eqb, eqb-true, true≢false}
use Rattle.std.specs.Prelude.{not, ◌&&◌, ◌||◌, ◌==◌, if◌then◌else◌, MatchOption, slice_get}
use Rattle.std.specs.Option.{option_map_or}
use Rattle.std.proofs.lemmas.Option.{same_Some, slice_get_within}
use Rattle.template_tree.specs.declared.change.What.{What}
use Rattle.template_tree.specs.Programs.PlainTree.{Forest, PlainNode, nodes}
use Rattle.plcs_base.specs.ListLeft.{past_where_none}
use Rattle.plcs_code.specs.BlockLimit.{most_instrs}
use Rattle.plcs_code.specs.OwnCode.{PlainOwnCode, own_code_by}
use Rattle.code_patch.specs.declared.code_edit.Act.{Act}
use Rattle.code_patch.specs.declared.code_edit.Step.{Step}
use Rattle.code_patch.specs.declared.list_edit.ListEdit.{ListEdit}
use Rattle.code_patch.specs.Bill.{is_of_node}
use Rattle.code_patch.specs.CodeEdit.{code_added, code_gives_way, edited_code, roomless_code, room_after}
use Rattle.code_patch.specs.CodeForest.{CodeForest, kept_code, kept_lengths, PlainCodeNode, code_nodes}
use Rattle.code_patch.specs.PreparedEdit.{StepsFit}
use Rattle.code_patch.specs.Private.NearCode.{Near, NodeNear, PlainPlan, ends_here, first_number, is_of_item, is_visited, kept_number, near_as, way_below}
use Rattle.code_patch.specs.Private.PlainCodeNode.{code_forest, kept_length, kept_node, roomless_code_node}
use Rattle.code_patch.specs.Private.PlainSteps.{ActFits, after_act}
use Rattle.code_patch.specs.Private.PreparedNodes.{ChildEdited, ChildNear, GoneTo, IsListEdit, KeptStay, MendNear, WayFits, made_by}
use Rattle.code_patch.specs.Private.StepsView.{step_at, edit_of_steps}
use Rattle.code_patch.proofs.ExchangedNodes.{added_first, added_sum, dropped_first, dropped_sum, given_first, given_here, given_many, given_others, given_sum}
use Rattle.code_patch.proofs.MadeSteps.{edited_behind, fits_behind, fits_made}
use Rattle.code_patch.proofs.NearNodes.{near_at, near_length, node_same, not_visited}
use Rattle.code_patch.proofs.NearRooms.{all_kept}

-- ---- a step more

module _ {W : Type 0} (old new : ListEdit W) (spare : ℕ) (kept : CodeForest) (k : ℕ) (act : Act W)
    (step : new.steps.items ≡ old.steps.items ++ step_at k act ∷ []) where
  -- what is made then
  pub made_then : made_by new kept ≡ after_act k act (made_by old kept)
  made_then =
      ap (λ (steps : List (Step W)). edited_code (edit_of_steps steps) kept) step ∙ edited_behind old.steps.items (step_at k act) kept

  -- and it can be made
  pub list_then : IsListEdit old spare kept → ActFits k act (room_after (edit_of_steps old.steps.items) spare) (made_by old kept)
      → new.first ≡ sum (take 1 (kept_lengths (after_act k act (made_by old kept))))
      → new.total ≡ sum (kept_lengths (after_act k act (made_by old kept))) → new.total ≤ most_instrs → IsListEdit new spare kept
  list_then edit fits first total short =
      let brief : sum (kept_lengths (after_act k act (made_by old kept))) ≤ most_instrs = omega (arith, total, short) in
      record {
        fit =
            subst (λ (steps : List (Step W)). StepsFit (edit_of_steps steps) spare kept) (sym step)
            (fits_behind old.steps.items (step_at k act) spare kept edit.fit fits brief);
        first = first ∙ sym (ap (λ (f : CodeForest). sum (take 1 (kept_lengths f))) made_then);
        total = total ∙ sym (ap (λ (f : CodeForest). sum (kept_lengths f)) made_then);
      }

-- ---- by which a node gives way to another one

module _ {W : Type 0} (old new : ListEdit W) (spare : ℕ) (kept : CodeForest) (k : ℕ) (act : Act W) (child other : PlainCodeNode)
    (change : PlainOwnCode → ℕ → CodeForest → CodeForest)
    (gives : (nodes : CodeForest) → after_act k act nodes ≡ code_gives_way change k nodes)
    (is : change child.own child.spare child.inner ≡ code_forest (other ∷ []))
    (step : new.steps.items ≡ old.steps.items ++ step_at k act ∷ [])
    (there : slice_get (code_nodes (made_by old kept)) k ≡ Some child) where
  way_then : made_by new kept ≡ code_gives_way change k (made_by old kept)
  way_then = made_then old new spare kept k act step ∙ gives (made_by old kept)

  pub exchanged_list : IsListEdit old spare kept → ActFits k act (room_after (edit_of_steps old.steps.items) spare) (made_by old kept)
      → new.total + kept_length child ≡ old.total + kept_length other
      → new.first ≡ (if k == 0 then kept_length other else old.first) → new.total ≤ most_instrs → IsListEdit new spare kept
  exchanged_list edit fits total first short =
      let before = made_by old kept in
      let acts = gives before in
      let longer = given_sum change child other is before k there in
      let same : sum (kept_lengths (after_act k act before)) ≡ sum (kept_lengths (code_gives_way change k before)) =
      ap (λ (f : CodeForest). sum (kept_lengths f)) acts in
      list_then old new spare kept k act step edit fits
      (first
      ∙ ap (λ (n : ℕ). if k == 0 then kept_length other else n) edit.first
      ∙ sym (given_first change child other is before k there)
      ∙ sym (ap (λ (f : CodeForest). sum (take 1 (kept_lengths f))) acts))
      (omega (arith, same, longer, total, edit.total)) short

  pub exchanged_node : (plan : PlainPlan) (node : PlainNode) → roomless_code_node other ≡ kept_node plan.marks plan.items node
      → ChildEdited plan k (made_by old kept) (made_by new kept) node
  exchanged_node plan node its =
      let before = made_by old kept in
      record {
        at = (
          other,
          ap (λ (f : CodeForest). slice_get (code_nodes f) k) way_then ∙ given_here change child other is before k there,
          its,
        );
        others = λ j differs.
            ap (λ (f : CodeForest). slice_get (code_nodes f) j) way_then ∙ given_others change child other is before k j there differs;
        many = ap (λ (f : CodeForest). length (code_nodes f)) way_then ∙ given_many change child other is before k there;
      }

-- ---- the first step of all, by which an item comes or goes

module _ {W : Type 0} (old new : ListEdit W) (spare : ℕ) (kept : CodeForest) (k : ℕ) (fresh : old.steps.items ≡ []) where
  -- nothing is made before
  pub before_is : made_by old kept ≡ kept
  before_is = ap (λ (steps : List (Step W)). edited_code (edit_of_steps steps) kept) fresh

  room_is : room_after (edit_of_steps old.steps.items) spare ≡ spare
  room_is = ap (λ (steps : List (Step W)). room_after (edit_of_steps steps) spare) fresh

  -- an item comes
  module _ (node : PlainCodeNode) (step : new.steps.items ≡ old.steps.items ++ step_at k (Act.Add node) ∷ []) where
    pub added_made : made_by new kept ≡ code_added (code_forest (node ∷ [])) k kept
    added_made =
        made_then old new spare kept k (Act.Add node) step
        ∙ ap (λ (f : CodeForest). code_added (code_forest (node ∷ [])) k f) before_is

    pub added_list : IsListEdit old spare kept → k ≤ length (code_nodes kept) → 0 < spare → new.total ≡ old.total + kept_length node
        → new.first ≡ (if k == 0 then kept_length node else old.first) → new.total ≤ most_instrs → IsListEdit new spare kept
    added_list edit within room total first short =
        let before = made_by old kept in
        let many : length (code_nodes before) ≡ length (code_nodes kept) = ap (λ (f : CodeForest). length (code_nodes f)) before_is in
        let there : k ≤ length (code_nodes before) = omega (arith, many, within) in
        list_then old new spare kept k (Act.Add node) step edit (there, omega (arith, room, room_is))
        (first ∙ ap (λ (n : ℕ). if k == 0 then kept_length node else n) edit.first ∙ sym (added_first node before k there))
        (omega (arith, total, edit.total, added_sum node before k)) short

  -- an item goes
  module _ (child : PlainCodeNode) (there : slice_get (code_nodes kept) k ≡ Some child)
      (step : new.steps.items ≡ old.steps.items ++ step_at k Act.Drop ∷ []) where
    pub dropped_made : made_by new kept ≡ code_gives_way (λ was spare within. CodeForest.nil) k kept
    dropped_made =
        made_then old new spare kept k Act.Drop step
        ∙ ap (λ (f : CodeForest). code_gives_way (λ was spare within. CodeForest.nil) k f) before_is

    pub dropped_list : IsListEdit old spare kept → new.total + kept_length child ≡ old.total
        → new.first ≡ (if k == 0 then sum (take 2 (kept_lengths kept)) - sum (take 1 (kept_lengths kept)) else old.first)
        → new.total ≤ most_instrs → IsListEdit new spare kept
    dropped_list edit total first short =
        let before = made_by old kept in
        let found : slice_get (code_nodes before) k ≡ Some child =
        ap (λ (f : CodeForest). slice_get (code_nodes f) k) before_is ∙ there in
        let within : k < length (code_nodes before) = slice_get_within (code_nodes before) k child found in
        list_then old new spare kept k Act.Drop step edit within
        (first
        ∙ (λ i. if k == 0 then sum (take 2 (kept_lengths (sym before_is i))) - sum (take 1 (kept_lengths (sym before_is i))) else edit.first i)
        ∙ sym (dropped_first before k within))
        (omega (arith, total, edit.total, dropped_sum before k child found)) short

-- where nothing is prepared yet
pub list_fresh : {W : Type 0} (list : ListEdit W) (spare : ℕ) (kept : CodeForest) → list.steps.items ≡ []
    → sum (kept_lengths kept) ≤ most_instrs → list.first ≡ sum (take 1 (kept_lengths kept)) → list.total ≡ sum (kept_lengths kept)
    → IsListEdit list spare kept
list_fresh {W} list spare kept fresh short first total =
    record {
      fit = subst (λ (steps : List (Step W)). StepsFit (edit_of_steps steps) spare kept) (sym fresh) short;
      first =
          first ∙ sym (ap (λ (steps : List (Step W)). sum (take 1 (kept_lengths (edited_code (edit_of_steps steps) kept)))) fresh);
      total = total ∙ sym (ap (λ (steps : List (Step W)). sum (kept_lengths (edited_code (edit_of_steps steps) kept))) fresh);
    }

-- what is made so far isn't too long
pub list_short : {W : Type 0} (list : ListEdit W) (spare : ℕ) (kept : CodeForest) → IsListEdit list spare kept
    → sum (kept_lengths (made_by list kept)) ≤ most_instrs
list_short list spare kept edit = fits_made (edit_of_steps list.steps.items) spare kept edit.fit

-- a node for which nothing is to be done
pub node_stays : (plan : PlainPlan) (k : ℕ) (made : CodeForest) (child : PlainCodeNode) (node : PlainNode)
    → slice_get (code_nodes made) k ≡ Some child → roomless_code_node child ≡ kept_node plan.marks plan.items node
    → ChildEdited plan k made made node
node_stays plan k made child node there its =
    record { at = (child, there, its); others = λ j differs. refl; many = refl }

-- ---- nodes gone through in order

-- the nodes up to a number were gone through: they are what is kept after the edit, and the others are as at the start
pub record GoneThrough (plan : PlainPlan) (k : ℕ) (start made : CodeForest) (all : Forest) : Type 0 where
  pub done :
      (j : ℕ) (node : PlainNode) → j < k → slice_get (nodes all) j ≡ Some node
      → (child : PlainCodeNode) × (slice_get (code_nodes made) j ≡ Some child)
      × (roomless_code_node child ≡ kept_node plan.marks plan.items node)
  pub left : (j : ℕ) → k ≤ j → slice_get (code_nodes made) j ≡ slice_get (code_nodes start) j
  pub many : length (code_nodes made) ≡ length (code_nodes start)

-- kept nodes have at this number what is kept of the node after the edit
abbrev HasKept : PlainPlan → (made : CodeForest) → (k : ℕ) → PlainNode → Type 0
HasKept plan made k node =
    (child : PlainCodeNode) × (slice_get (code_nodes made) k ≡ Some child)
    × (roomless_code_node child ≡ kept_node plan.marks plan.items node)

module _ (plan : PlainPlan) (start : CodeForest) (all : Forest) where
  pub through_first : GoneThrough plan 0 start start all
  through_first =
      record { done = λ j node before there. absurd (omega (arith, before)); left = λ j behind. refl; many = refl }

  pub through_next : (k : ℕ) (made new : CodeForest) (node : PlainNode) → slice_get (nodes all) k ≡ Some node
      → GoneThrough plan k start made all → ChildEdited plan k made new node → GoneThrough plan (k + 1) start new all
  through_next k made new node there through edited =
      record {
        done = λ j other before found. by j other before found (j == k) refl;
        left = λ j behind.
            edited.others j (λ same. omega (arith, behind, same)) ∙ through.left j (omega (arith, behind));
        many = edited.many ∙ through.many;
      }
    where
      by : (j : ℕ) (other : PlainNode) → j < k + 1 → slice_get (nodes all) j ≡ Some other → (b : Bool) → (j == k) ≡ b
          → HasKept plan new j other
      by j other before found true e =
          let same : j ≡ k = eqb-true j k e in
          let one : node ≡ other = same_Some node other (sym there ∙ ap (λ (n : ℕ). slice_get (nodes all) n) (sym same) ∙ found) in
          subst (λ (n : PlainNode). HasKept plan new j n) one (subst (λ (n : ℕ). HasKept plan new n node) (sym same) edited.at)
      by j other before found false e =
          let differs : j ≡ k → ⊥ = (λ same. true≢false (sym (eq-eqb j k same) ∙ e)) in
          let (child, at, is) = through.done j other (omega (arith, before, differs)) found in
          (child, edited.others j differs ∙ at, is)

  -- where all were gone through, all is what is kept after the edit
  pub through_all : (k : ℕ) (made : CodeForest) → slice_get (nodes all) k ≡ None → length (code_nodes start) ≡ length (nodes all)
      → GoneThrough plan k start made all → roomless_code made ≡ kept_code plan.marks plan.items all
  through_all k made none many through =
      all_kept plan.marks plan.items made all (through.many ∙ many)
      (λ j node there.
      through.done j node (omega (arith, slice_get_within (nodes all) j node there, past_where_none (nodes all) k none)) there)

-- ---- a node that is gone to

-- of three facts the same one is asked, whatever stands for a node that isn't gone to
near_visited : (put : Bool) (A B C : Type 0) → (visited : Bool) → visited ≡ true → near_as visited put A B → near_as true put C B
near_visited true A B C true is near = near
near_visited false A B C true is near = near
near_visited put A B C false is near = absurd (true≢false (sym is))

-- a node to which the way leads is gone to
pub way_visited : (plan : PlainPlan) (way : Option (List ℕ)) (k : ℕ) → first_number way ≡ Some k → is_visited plan way k ≡ true
way_visited plan way k is =
    ap (λ (o : Option ℕ). plan.everywhere || option_map_or (λ first. first == k) o false) is
    ∙ ap (λ (b : Bool). plan.everywhere || b) (eq-eqb k k refl) ∙ either plan.everywhere
  where
    either : (b : Bool) → (b || true) ≡ true
    either true = refl
    either false = refl

-- and each where marks may have changed anywhere
pub all_visited : (plan : PlainPlan) (way : Option (List ℕ)) (k : ℕ) → plan.everywhere ≡ true → is_visited plan way k ≡ true
all_visited plan way k is = ap (λ (b : Bool). b || option_map_or (λ first. first == k) (first_number way) false) is

-- a way below a node fits there
module _ (what : What) (kept : PlainCodeNode) (all : Forest) (k : ℕ) (node : PlainNode) (there : slice_get (nodes all) k ≡ Some node)
    (number : ℕ) (child : PlainCodeNode) (found : slice_get (code_nodes kept.inner) number ≡ Some child) where
  pub fits_below : (way : Option (List ℕ)) → kept_number what way k ≡ Some number → WayFits what way kept all
      → WayFits what (way_below what way k) child node.inner
  fits_below None its fits = tt
  fits_below (Some []) its fits = tt
  fits_below (Some (first ∷ [])) its fits = by ((first == k) && not (is_of_item what))
    where
      by : (b : Bool) → WayFits what (if b then Some [] else None) child node.inner
      by true = tt
      by false = tt
  fits_below (Some (first ∷ next ∷ path)) its fits = by (first == k) refl
    where
      by : (b : Bool) → (first == k) ≡ b → WayFits what (if b then Some (next ∷ path) else None) child node.inner
      by true e =
          let first_is : first ≡ k = eqb-true first k e in
          let number_is : k ≡ number = same_Some k number its in
          fits child node
          (ap (λ (n : ℕ). slice_get (code_nodes kept.inner) n) (first_is ∙ number_is) ∙ found)
          (ap (λ (n : ℕ). slice_get (nodes all) n) first_is ∙ there)
      by false e = tt

module _ (plan : PlainPlan) (way : Option (List ℕ)) (kept : PlainCodeNode) (start : CodeForest) (all : Forest)
    (near : Near plan way 0 start all) (stay : KeptStay plan way kept start all) where
  -- as many are kept as there are after the edit
  pub start_many : length (code_nodes start) ≡ length (nodes all)
  start_many = near_length plan way 0 start all near

  -- a node that is gone to is near, or was added
  pub child_near : (k : ℕ) (node : PlainNode) (made : CodeForest) → slice_get (nodes all) k ≡ Some node → WayFits plan.what way kept all
      → is_visited plan way k ≡ true → slice_get (code_nodes made) k ≡ slice_get (code_nodes start) k
      → ChildNear plan way k kept made node
  child_near k node made there fits visited same = by (kept_number plan.what way k) refl (stay k node there)
    where
      by : (o : Option ℕ) → kept_number plan.what way k ≡ o
          → MatchOption o
          ((child : PlainCodeNode) × (slice_get (code_nodes start) k ≡ Some child)
          × (roomless_code_node child ≡ kept_node plan.marks plan.items node))
          (λ number. slice_get (code_nodes start) k ≡ slice_get (code_nodes kept.inner) number)
          → (child : PlainCodeNode) × (slice_get (code_nodes made) k ≡ Some child)
          × MatchOption o (roomless_code_node child ≡ kept_node plan.marks plan.items node)
          (λ number.
          (slice_get (code_nodes kept.inner) number ≡ Some child) × GoneTo plan (way_below plan.what way k) child node)
      by None e added = (added.0, same ∙ added.1, added.2)
      by (Some number) e stays =
          let (child, found, its) = near_at plan way 0 start all k node near there in
          let at : 0 + k ≡ k = omega arith in
          let below = way_below plan.what way k in
          let here : NodeNear plan way k child node = subst (λ (n : ℕ). NodeNear plan way n child node) at its in
          let was : slice_get (code_nodes kept.inner) number ≡ Some child = sym stays ∙ found in
          let gone : GoneTo plan below child node = (
            near_visited (ends_here below && is_of_node plan.what)
                ((child.own ≡ own_code_by plan.marks plan.items node.label)
                × (roomless_code child.inner ≡ kept_code plan.marks plan.items node.inner))
                (MendNear plan below child node) (Unit {0}) (is_visited plan way k) visited here,
            fits_below plan.what kept all k node there number child was way e fits,
          ) in
          (child, same ∙ found, (was, gone))

  -- where no node is gone to but one that there isn't, all is what is kept after the edit
  pub all_stay : plan.everywhere ≡ false → ((k : ℕ) (node : PlainNode) → slice_get (nodes all) k ≡ Some node → first_number way ≡ Some k → ⊥)
      → roomless_code start ≡ kept_code plan.marks plan.items all
  all_stay one none =
      all_kept plan.marks plan.items start all start_many
      (λ j node there.
      let (child, found, its) = near_at plan way 0 start all j node near there in
      let at : 0 + j ≡ j = omega arith in
      let here : NodeNear plan way j child node = subst (λ (n : ℕ). NodeNear plan way n child node) at its in
      (child, found, node_same plan way j child node here (not_visited plan way j one (none j node there))))

  -- where one node is gone to, it becomes what is kept after the edit, as the others are
  pub one_edited : plan.everywhere ≡ false → (k : ℕ) (node : PlainNode) (made : CodeForest) → slice_get (nodes all) k ≡ Some node
      → first_number way ≡ Some k → ChildEdited plan k start made node → roomless_code made ≡ kept_code plan.marks plan.items all
  one_edited one k node made there first edited =
      all_kept plan.marks plan.items made all (edited.many ∙ start_many) (λ j other found. by j other found (j == k) refl)
    where
      by : (j : ℕ) (other : PlainNode) → slice_get (nodes all) j ≡ Some other → (b : Bool) → (j == k) ≡ b → HasKept plan made j other
      by j other found true e =
          let same : j ≡ k = eqb-true j k e in
          let it : node ≡ other = same_Some node other (sym there ∙ ap (λ (n : ℕ). slice_get (nodes all) n) (sym same) ∙ found) in
          subst (λ (n : PlainNode). HasKept plan made j n) it (subst (λ (n : ℕ). HasKept plan made n node) (sym same) edited.at)
      by j other found false e =
          let differs : j ≡ k → ⊥ = (λ same. true≢false (sym (eq-eqb j k same) ∙ e)) in
          let (child, at, its) = near_at plan way 0 start all j other near found in
          let here : NodeNear plan way j child other = subst (λ (n : ℕ). NodeNear plan way n child other) (omega arith) its in
          let one_first : first_number way ≡ Some j → ⊥ = (λ is. differs (same_Some j k (sym is ∙ first))) in
          (child, edited.others j differs ∙ at, node_same plan way j child other here (not_visited plan way j one one_first))

-- ---- a node by what is to be done with it

module _ (plan : PlainPlan) (way : Option (List ℕ)) (k : ℕ) (kept : PlainCodeNode) (made : CodeForest) (node : PlainNode)
    (near : ChildNear plan way k kept made node) where
  -- a node that was added is what is kept of it after the edit
  pub added_child : kept_number plan.what way k ≡ None → roomless_code_node near.0 ≡ kept_node plan.marks plan.items node
  added_child is =
      subst
      (λ (o : Option ℕ).
      MatchOption o (roomless_code_node near.0 ≡ kept_node plan.marks plan.items node)
      (λ number.
      (slice_get (code_nodes kept.inner) number ≡ Some near.0) × GoneTo plan (way_below plan.what way k) near.0 node))
      is near.2

  -- another one is gone to
  pub gone_child : (number : ℕ) → kept_number plan.what way k ≡ Some number
      → (slice_get (code_nodes kept.inner) number ≡ Some near.0) × GoneTo plan (way_below plan.what way k) near.0 node
  gone_child number is =
      subst
      (λ (o : Option ℕ).
      MatchOption o (roomless_code_node near.0 ≡ kept_node plan.marks plan.items node)
      (λ number.
      (slice_get (code_nodes kept.inner) number ≡ Some near.0) × GoneTo plan (way_below plan.what way k) near.0 node))
      is near.2

  -- it is found in what is made so far
  pub found_child : (number : ℕ) (child : PlainCodeNode) → kept_number plan.what way k ≡ Some number
      → slice_get (code_nodes kept.inner) number ≡ Some child → slice_get (code_nodes made) k ≡ Some child
  found_child number child is there =
      let gone = gone_child number is in
      near.1 ∙ ap (λ (n : PlainCodeNode). Some n) (same_Some near.0 child (sym gone.0 ∙ there))

-- a node in the place of which no other one comes is mended
pub near_mended : (plan : PlainPlan) (below : Option (List ℕ)) (child : PlainCodeNode) (node : PlainNode)
    → near_as true (ends_here below && is_of_node plan.what) (Unit {0}) (MendNear plan below child node)
    → (ends_here below && is_of_node plan.what) ≡ false → MendNear plan below child node
near_mended plan below child node near is = subst (λ (b : Bool). near_as true b (Unit {0}) (MendNear plan below child node)) is near
