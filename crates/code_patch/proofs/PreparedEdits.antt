-- How an edit is prepared fits it: an item can come or go along the way, what is kept is near what is kept of the
-- program after the edit, and the bill covers what it costs.
use Rattle.std.proofs.Common.{◌≡◌, ℕ, ◌≤◌, ◌⊎◌, inl, inr, Bool, true, false, List, [], ◌∷◌, Option, Some, None, refl, ap, sym, subst, ◌∙◌, arith, true≢false}
use Rattle.std.specs.Prelude.{not, ◌&&◌, ◌||◌, if◌then◌else◌, option_map, slice_get}
use Rattle.std.specs.Option.{option_map_or}
use Rattle.std.proofs.lemmas.Option.{none-some, same_Some}
use Rattle.plcs_base.specs.Mark.{MarkMap}
use Rattle.plcs_base.specs.Scope.{ItemMap}
use Rattle.plcs_grammar.specs.PlainPhrase.{PlainPhrase}
use Rattle.template_tree.specs.declared.change.Change.{Change}
use Rattle.template_tree.specs.declared.change.What.{What}
use Rattle.template_tree.specs.Checks.Environment.{declares}
use Rattle.template_tree.specs.Checks.Marks.{Marks}
use Rattle.template_tree.specs.Checks.ProgramMaps.{ScopeTells}
use Rattle.template_tree.specs.Edits.Edit.{DifferBy, changed_in, edit_below, edit_slot, give_way, procedure_of}
use Rattle.template_tree.specs.Laws.CheckLaws.{ChecksIgnoreRoom}
use Rattle.template_tree.specs.Laws.RoomLaws.{NodesIgnoreRoom}
use Rattle.template_tree.specs.Laws.TreeLaws.{SlotEditIsPathEdit}
use Rattle.template_tree.specs.Positions.Path.{below, node_at, slot_at}
use Rattle.template_tree.specs.Programs.Part.{with_part}
use Rattle.template_tree.specs.Programs.PlainTree.{Forest, PlainNode, nodes, roomless, roomless_node}
use Rattle.template_tree.specs.Programs.Program.{sort_of}
use Rattle.template_tree.specs.Programs.Slots.{times}
use Rattle.plcs_code.specs.OwnCode.{PlainOwnCode, own_code_by}
use Rattle.plcs_code.specs.ProgramCode.{ProgramItemsTell, program_items}
use Rattle.code_patch.specs.Private.CoversTouched.{CoversTouched}
use Rattle.code_patch.specs.Bill.{Bill, billed, is_declaration, is_declaration_at, is_of_node}
use Rattle.code_patch.specs.CodeEdit.{roomless_code}
use Rattle.code_patch.specs.CodeForest.{kept_code, PlainCodeNode}
use Rattle.code_patch.specs.Private.EditCosts.{list_cost}
use Rattle.code_patch.specs.Private.ItemNames.{numbered_items}
use Rattle.code_patch.specs.Private.KeptPaths.{LeadsToChange, changes_declaration, kept_below, kept_declares, slot_kept_at, node_declares, times_sought}
use Rattle.code_patch.specs.Private.NearCode.{Near, PlainPlan, is_added, is_dropped, is_of_item, is_short, item_edited, leads_to_item, plan_of}
use Rattle.code_patch.specs.Private.PreparedNodes.{LeadsToList, RoomAt, WayFits}
use Rattle.code_patch.proofs.BilledEdits.{add_billed, bill_is, drop_billed, part_billed, put_billed}
use Rattle.code_patch.proofs.BilledNodes.{or_either, or_first, or_second}
use Rattle.code_patch.proofs.EditPaths.{GivesOne, item_slot, numbers_edited, path_back}
use Rattle.code_patch.proofs.EditedPrograms.{PlanFits, path_edit, times_alike}
use Rattle.code_patch.proofs.ItemsStay.{procedure_is, procedure_live}
use Rattle.code_patch.proofs.KeptPlaces.{first_item, fits_added, fits_dropped, fits_node, fits_part, given_at, kept_path, leads_added}
use Rattle.code_patch.proofs.NearEdits.{near_came, near_gone, near_node, near_part}
use Rattle.code_patch.proofs.QuietEdits.{AreQuiet, GivesQuietly}
use Rattle.code_patch.proofs.QuietNodes.{declares_nothing}
use Rattle.code_patch.proofs.RoomlessTrees.{kept_alike}
use Rattle.code_patch.proofs.Sites.{declaration_there}
use Rattle.code_patch.proofs.SoundCode.{times_of}

-- ---- answers of a test that are all no

or_left : (a b : Bool) → (a || b) ≡ false → a ≡ false
or_left true b e = absurd (true≢false e)
or_left false b e = refl

or_right : (a b : Bool) → (a || b) ≡ false → b ≡ false
or_right true b e = absurd (true≢false e)
or_right false b e = e

-- a node whose slot is known
node_of : (o : Option PlainNode) (slot : ℕ) → option_map (λ (n : PlainNode). n.label.slot) o ≡ Some slot
    → (node : PlainNode) × (o ≡ Some node) × (node.label.slot ≡ slot)
node_of None slot is = absurd (none-some slot is)
node_of (Some node) slot is = (node, refl, same_Some node.label.slot slot is)

-- the slot of a node is that without room
slots_roomless : (o : Option PlainNode)
    → option_map (λ (n : PlainNode). n.label.slot) (option_map roomless_node o) ≡ option_map (λ (n : PlainNode). n.label.slot) o
slots_roomless None = refl
slots_roomless (Some node) = refl

-- an item becomes one item in its slot where the node below it becomes one in its own
below_one : (gives : PlainNode → List PlainNode) (path : List ℕ) (item node new : PlainNode) → below item path ≡ Some node
    → gives node ≡ new ∷ [] → new.label.slot ≡ node.label.slot
    → (other : PlainNode) × (edit_below gives path item ≡ other ∷ []) × (other.label.slot ≡ item.label.slot)
below_one gives [] item node new on came own =
    let same : item ≡ node = same_Some item node on in
    (new, ap gives same ∙ came, own ∙ sym (ap (λ (n : PlainNode). n.label.slot) same))
below_one gives (j ∷ path) item node new on came own =
    (record item { inner = give_way (edit_below gives path) j item.inner }, refl, refl)

-- what is kept of a node declares something where the node does
kept_declares_own : (o : Option PlainCodeNode)
    → kept_declares o ≡ option_map_or (λ (own : PlainOwnCode). is_declaration (sort_of own.kind)) (option_map (λ (n : PlainCodeNode). n.own) o) false
kept_declares_own None = refl
kept_declares_own (Some node) = refl

node_declares_own : (marks : MarkMap) (items : ItemMap) (o : Option PlainNode)
    → option_map_or (λ (own : PlainOwnCode). is_declaration (sort_of own.kind)) (option_map (λ (n : PlainNode). own_code_by marks items n.label) o) false
    ≡ node_declares o
node_declares_own marks items None = refl
node_declares_own marks items (Some node) = refl

-- nor does room
node_declares_roomless : (o : Option PlainNode) → node_declares (option_map roomless_node o) ≡ node_declares o
node_declares_roomless None = refl
node_declares_roomless (Some node) = refl

-- what an edit that is prepared has of the way: it fits there, what is kept is near what is kept after the edit, where
-- no item of the program changed the names of the items stay, and it costs no more than its bill
pub record EditFits (plan : PlainPlan) (change : Change) (root : PlainCodeNode) (before after : Forest) (way : List ℕ) : Type 0 where
  pub fits : WayFits plan.what (Some way) root after
  pub near : Near plan (Some way) 0 (item_edited plan (Some way) root.inner after) after
  pub names : leads_to_item way ≡ false → numbered_items 0 before ≡ numbered_items 0 after
  pub cost :
      (is_touched : ℕ → Bool) → CoversTouched before after change is_touched
      → list_cost plan (Some way) root.inner after ≤ Bill before after is_touched

module _ (room : ChecksIgnoreRoom) (at_room : NodesIgnoreRoom) (by_path : SlotEditIsPathEdit) (tell : ProgramItemsTell)
    (plan : PlainPlan) (change : Change) (before after : Forest) (root : PlainCodeNode)
    (its : roomless_code root.inner ≡ kept_code (Marks before) (program_items before) before)
    (once : (n : ℕ) → times n before ≤ 1) (once_after : (n : ℕ) → times n after ≤ 1)
    (marked : plan.marks ≡ Marks after) (scope : ScopeTells plan.items after)
    (within : procedure_of (changed_in change.what before after) change.slot.0 ≡ Some change.procedure.0)
    (k : ℕ) (path : List ℕ) (declared : Bool)
    (planned : plan ≡ plan_of plan.marks plan.items change declared (is_short path))
    (told : declared ≡ changes_declaration change.what (kept_below root (k ∷ path)) (node_at after (k ∷ path))) where
  what_is : plan.what ≡ change.what
  what_is = ap (λ (p : PlainPlan). p.what) planned

  -- what is kept at the path declares what the node before did
  kept_told : kept_declares (kept_below root (k ∷ path)) ≡ node_declares (node_at before (k ∷ path))
  kept_told =
      kept_declares_own (kept_below root (k ∷ path))
      ∙ ap (λ (o : Option PlainOwnCode). option_map_or (λ (own : PlainOwnCode). is_declaration (sort_of own.kind)) o false)
      (kept_path (Marks before) (program_items before) path k root.inner before its)
      ∙ node_declares_own (Marks before) (program_items before) (node_at before (k ∷ path))

  -- how it is prepared, by what is known of what changed
  plan_fits : (gives : PlainNode → List PlainNode) (item node : PlainNode)
      → (declared ≡ false → GivesQuietly node.label.slot gives node) → item.label.slot ≡ change.procedure.0
      → PlanFits plan declared gives path item node
  plan_fits gives item node quiet its_procedure =
      record {
        everywhere = ap (λ (p : PlainPlan). p.everywhere) planned;
        quiet = quiet;
        procedure = λ does.
            ap (λ (p : PlainPlan). p.procedure) planned
            ∙ ap (λ (b : Bool). if b then Some change.procedure.0 else None) does
            ∙ ap (λ (n : ℕ). Some n) (sym its_procedure);
      }

  -- where it is prepared as that of a declaration, it is one
  declares_there : (is_added change.what ≡ false
      → (node : PlainNode) × (node_at before (k ∷ path) ≡ Some node) × (node.label.slot ≡ change.slot.0))
      → (is_dropped change.what ≡ false
      → (node : PlainNode) × (node_at after (k ∷ path) ≡ Some node) × (node.label.slot ≡ change.slot.0))
      → declared ≡ true → (is_declaration_at before change.slot.0 || is_declaration_at after change.slot.0) ≡ true
  declares_there old new holds = by (is_added change.what) (is_dropped change.what) refl refl
    where
      was : is_added change.what ≡ false → kept_declares (kept_below root (k ∷ path)) ≡ true
          → (is_declaration_at before change.slot.0 || is_declaration_at after change.slot.0) ≡ true
      was added declares =
          let (node, there, own) = old added in
          or_first (is_declaration_at before change.slot.0) (is_declaration_at after change.slot.0)
          (ap (is_declaration_at before) (sym own)
          ∙ declaration_there before k path node there (once node.label.slot)
          ∙ sym (kept_told ∙ ap node_declares there)
          ∙ declares)

      is : is_dropped change.what ≡ false → node_declares (node_at after (k ∷ path)) ≡ true
          → (is_declaration_at before change.slot.0 || is_declaration_at after change.slot.0) ≡ true
      is dropped declares =
          let (node, there, own) = new dropped in
          or_second (is_declaration_at before change.slot.0) (is_declaration_at after change.slot.0)
          (ap (is_declaration_at after) (sym own)
          ∙ declaration_there after k path node there (once_after node.label.slot)
          ∙ sym (ap node_declares there)
          ∙ declares)

      of : (added dropped : Bool)
          → ((not added && kept_declares (kept_below root (k ∷ path))) || (not dropped && node_declares (node_at after (k ∷ path)))) ≡ true
          → ((added ≡ false) × (kept_declares (kept_below root (k ∷ path)) ≡ true))
          ⊎ ((dropped ≡ false) × (node_declares (node_at after (k ∷ path)) ≡ true))
      of true true some = absurd (true≢false (sym some))
      of true false some = inr (refl, some)
      of false true some = by_left (kept_declares (kept_below root (k ∷ path))) refl some
        where
          by_left : (b : Bool) → kept_declares (kept_below root (k ∷ path)) ≡ b → (b || false) ≡ true
              → ((false ≡ false) × (kept_declares (kept_below root (k ∷ path)) ≡ true))
              ⊎ ((true ≡ false) × (node_declares (node_at after (k ∷ path)) ≡ true))
          by_left true e some = inl (refl, e)
          by_left false e some = absurd (true≢false (sym some))
      of false false some =
          by_either (or_either (kept_declares (kept_below root (k ∷ path))) (node_declares (node_at after (k ∷ path))) some)
        where
          by_either : (kept_declares (kept_below root (k ∷ path)) ≡ true) ⊎ (node_declares (node_at after (k ∷ path)) ≡ true)
              → ((false ≡ false) × (kept_declares (kept_below root (k ∷ path)) ≡ true))
              ⊎ ((false ≡ false) × (node_declares (node_at after (k ∷ path)) ≡ true))
          by_either (inl e) = inl (refl, e)
          by_either (inr e) = inr (refl, e)

      to : (added dropped : Bool) → is_added change.what ≡ added → is_dropped change.what ≡ dropped
          → ((added ≡ false) × (kept_declares (kept_below root (k ∷ path)) ≡ true))
          ⊎ ((dropped ≡ false) × (node_declares (node_at after (k ∷ path)) ≡ true))
          → (is_declaration_at before change.slot.0 || is_declaration_at after change.slot.0) ≡ true
      to added dropped e f (inl (none, declares)) = was (e ∙ none) declares
      to added dropped e f (inr (none, declares)) = is (f ∙ none) declares

      by : (added dropped : Bool) → is_added change.what ≡ added → is_dropped change.what ≡ dropped
          → (is_declaration_at before change.slot.0 || is_declaration_at after change.slot.0) ≡ true
      by added dropped e f =
          to added dropped e f
          (of added dropped
          (sym
          (told
          ∙ (λ i.
          (not (e i) && kept_declares (kept_below root (k ∷ path))) || (not (f i) && node_declares (node_at after (k ∷ path)))))
          ∙ holds))

  -- what is billed by the plan is the bill
  billed_plan : (is_touched : ℕ → Bool) (cost : ℕ) → cost ≤ billed is_touched before plan.marks plan.items after
      → cost ≤ Bill before after is_touched
  billed_plan is_touched cost paid = omega (arith, paid, bill_is plan is_touched before after marked scope (tell after))

  -- ---- an edit that leaves a node at the path

  module _ (gives : PlainNode → List PlainNode) (new : PlainNode) (node : PlainNode) (there : node_at before (k ∷ path) ≡ Some node)
      (came : gives node ≡ new ∷ []) (own : new.label.slot ≡ node.label.slot) (its_slot : node.label.slot ≡ change.slot.0)
      (is : roomless after ≡ roomless (edit_slot node.label.slot gives before)) where
    given : roomless after ≡ roomless (give_way (edit_below gives path) k before)
    given = is ∙ ap roomless (path_edit room by_path before after gives k path node there once is)

    -- it declares what the one after does
    after_told : node_declares (node_at after (k ∷ path)) ≡ is_declaration (sort_of new.label.kind)
    after_told =
        sym (node_declares_roomless (node_at after (k ∷ path)))
        ∙ ap node_declares (sym (at_room after (k ∷ path)) ∙ ap (λ (f : Forest). node_at f (k ∷ path)) given ∙ at_room (give_way (edit_below gives path) k before) (k ∷ path))
        ∙ node_declares_roomless (node_at (give_way (edit_below gives path) k before) (k ∷ path))
        ∙ ap node_declares (given_at gives new path k before node there came)

    before_told : kept_declares (kept_below root (k ∷ path)) ≡ is_declaration (sort_of node.label.kind)
    before_told = kept_told ∙ ap node_declares there

    -- where neither declares anything the edit is quiet
    edit_quiet : is_added change.what ≡ false → is_dropped change.what ≡ false → declared ≡ false → GivesQuietly node.label.slot gives node
    edit_quiet added dropped none =
        let both : (is_declaration (sort_of node.label.kind) || is_declaration (sort_of new.label.kind)) ≡ false =
        (λ i. (not (sym added i) && sym before_told i) || (not (sym dropped i) && sym after_told i)) ∙ sym told ∙ none in (
          declares_nothing node.label
              (or_left (is_declaration (sort_of node.label.kind)) (is_declaration (sort_of new.label.kind)) both),
          subst (λ (ns : List PlainNode). AreQuiet node.label.slot ns) (sym came) (
            own,
            declares_nothing new.label
                (or_right (is_declaration (sort_of node.label.kind)) (is_declaration (sort_of new.label.kind)) both),
            tt,
          ),
        )

    -- the item on the way is the procedure of the change
    item_procedure : (item : PlainNode) → slice_get (nodes before) k ≡ Some item → below item path ≡ Some node
        → slot_at after (k ∷ path) ≡ Some change.slot.0 → changed_in change.what before after ≡ after
        → item.label.slot ≡ change.procedure.0
    item_procedure item first on leads in_after =
        let (last, at, last_slot) = node_of (node_at after (k ∷ path)) change.slot.0 leads in
        let (later, found, later_on) = first_item after k path last at in
        let (other, gives_it, other_slot) = below_one gives path item node new on came own in
        let stays : later.label.slot ≡ item.label.slot =
        item_slot (edit_below gives path) other k before after item later first gives_it other_slot given found in
        let procedure : procedure_of after last.label.slot ≡ Some later.label.slot =
        procedure_is after k path later last found at (once_after last.label.slot) in
        same_Some item.label.slot change.procedure.0
        (ap (λ (n : ℕ). Some n) (sym stays)
        ∙ sym procedure
        ∙ ap (λ (n : ℕ). procedure_of after n) last_slot
        ∙ ap (λ (f : Forest). procedure_of f change.slot.0) (sym in_after)
        ∙ within)

    -- and so is the edit prepared
    edit_planned : (item : PlainNode) → slice_get (nodes before) k ≡ Some item → below item path ≡ Some node
        → slot_at after (k ∷ path) ≡ Some change.slot.0 → changed_in change.what before after ≡ after
        → is_added change.what ≡ false → is_dropped change.what ≡ false → PlanFits plan declared gives path item node
    edit_planned item first on leads in_after added dropped =
        plan_fits gives item node (edit_quiet added dropped) (item_procedure item first on leads in_after)

    edit_names : is_short path ≡ false → numbered_items 0 before ≡ numbered_items 0 after
    edit_names deep = numbers_edited gives path k before after given deep

  -- ---- each change

  -- the path that leads to the slot after the edit led to it before
  slot_back : (gives : PlainNode → List PlainNode) → GivesOne change.slot.0 gives
      → roomless after ≡ roomless (edit_slot change.slot.0 gives before) → slot_at after (k ∷ path) ≡ Some change.slot.0
      → (node : PlainNode) × (node_at before (k ∷ path) ≡ Some node) × (node.label.slot ≡ change.slot.0)
  slot_back gives one is leads =
      let edited = edit_slot change.slot.0 gives before in
      let slots : (o : Option PlainNode) → Option ℕ = option_map (λ (n : PlainNode). n.label.slot) in
      let found : slots (node_at edited (k ∷ path)) ≡ Some change.slot.0 =
      sym (slots_roomless (node_at edited (k ∷ path)))
      ∙ ap slots (sym (at_room edited (k ∷ path)) ∙ ap (λ (f : Forest). node_at f (k ∷ path)) (sym is) ∙ at_room after (k ∷ path))
      ∙ slots_roomless (node_at after (k ∷ path))
      ∙ leads in
      let (node, there, own) = node_of (node_at edited (k ∷ path)) change.slot.0 found in
      let single : times change.slot.0 edited ≤ 1 = omega (arith, times_alike change.slot.0 after edited is, once_after change.slot.0) in
      path_back change.slot.0 gives one before single k path node there own

  -- another node comes
  put_fits : change.what ≡ What.Node → (new : PlainNode) → new.label.slot ≡ change.slot.0
      → roomless after ≡ roomless (edit_slot change.slot.0 (λ other. new ∷ []) before)
      → slot_at after (k ∷ path) ≡ Some change.slot.0 → EditFits plan change root before after (k ∷ path)
  put_fits did new new_slot is leads =
      let gives : PlainNode → List PlainNode = (λ other. new ∷ []) in
      let one : GivesOne change.slot.0 gives = (λ other here. (new, refl, new_slot)) in
      let (node, there, own) = slot_back gives one is leads in
      let same : roomless after ≡ roomless (edit_slot node.label.slot gives before) =
      is ∙ ap (λ (n : ℕ). roomless (edit_slot n gives before)) (sym own) in
      let (item, first, on) = first_item before k path node there in
      let what : plan.what ≡ What.Node = what_is ∙ did in
      let fits =
      edit_planned gives new node there refl (new_slot ∙ sym own) own same item first on leads
      (ap (λ (w : What). changed_in w before after) did) (ap is_added did) (ap is_dropped did) in
      record {
        fits = subst (λ (w : What). WayFits w (Some (k ∷ path)) root after) (sym what) (fits_node path k root after);
        near =
            near_node room by_path plan before after (program_items before) root.inner its once once_after marked scope (tell before) k path
            item node new declared fits first there (new_slot ∙ sym own) same (ap is_of_item what) (ap is_of_node what);
        names = edit_names gives new node there refl (new_slot ∙ sym own) own same;
        cost = λ is_touched touched.
            billed_plan is_touched (list_cost plan (Some (k ∷ path)) root.inner after)
            (put_billed change before after is_touched touched plan (program_items before) root.inner its once once_after marked declared
            (ap (λ (p : PlainPlan). p.procedure) planned)
            (declares_there (λ other. (node, there, own)) (λ other. node_of (node_at after (k ∷ path)) change.slot.0 leads)) k path at_room
            node new there own new_slot (given gives new node there refl (new_slot ∙ sym own) own same) did (ap is_of_item what)
            (ap is_of_node what));
      }

  -- a part is another one
  set_fits : (part : ℕ) → change.what ≡ What.Part part → (place : Option PlainPhrase)
      → roomless after ≡ roomless (edit_slot change.slot.0 (λ other. with_part part place other ∷ []) before)
      → slot_at after (k ∷ path) ≡ Some change.slot.0 → EditFits plan change root before after (k ∷ path)
  set_fits part did place is leads =
      let gives : PlainNode → List PlainNode = (λ other. with_part part place other ∷ []) in
      let one : GivesOne change.slot.0 gives = (λ other here. (with_part part place other, refl, here)) in
      let (node, there, own) = slot_back gives one is leads in
      let same : roomless after ≡ roomless (edit_slot node.label.slot gives before) =
      is ∙ ap (λ (n : ℕ). roomless (edit_slot n gives before)) (sym own) in
      let (item, first, on) = first_item before k path node there in
      let what : plan.what ≡ What.Part part = what_is ∙ did in
      let fits =
      edit_planned gives (with_part part place node) node there refl refl own same item first on leads
      (ap (λ (w : What). changed_in w before after) did) (ap is_added did) (ap is_dropped did) in
      record {
        fits = subst (λ (w : What). WayFits w (Some (k ∷ path)) root after) (sym what) (fits_part part path k root after);
        near =
            near_part room by_path plan before after (program_items before) root.inner its once once_after marked scope (tell before) k path
            item node part place declared fits first there same (ap is_of_item what) (ap is_of_node what);
        names = edit_names gives (with_part part place node) node there refl refl own same;
        cost = λ is_touched touched.
            billed_plan is_touched (list_cost plan (Some (k ∷ path)) root.inner after)
            (part_billed change before after is_touched touched plan (program_items before) root.inner its once once_after marked declared
            (ap (λ (p : PlainPlan). p.procedure) planned)
            (declares_there (λ other. (node, there, own)) (λ other. node_of (node_at after (k ∷ path)) change.slot.0 leads)) k path part
            place node there own (given gives (with_part part place node) node there refl refl own same) (ap is_of_item what)
            (ap is_of_node what));
      }

  -- an item goes
  drop_fits : change.what ≡ What.Dropped → roomless after ≡ roomless (edit_slot change.slot.0 (λ other. []) before)
      → slot_kept_at root (k ∷ path) ≡ Some change.slot.0 → EditFits plan change root before after (k ∷ path)
  drop_fits did is leads =
      let gives : PlainNode → List PlainNode = (λ other. []) in
      let (node, there, own) =
      node_of (node_at before (k ∷ path)) change.slot.0
      (sym (kept_slots (node_at before (k ∷ path)))
      ∙ ap (λ (o : Option PlainOwnCode). option_map (λ (own : PlainOwnCode). own.slot) o)
      (sym (kept_path (Marks before) (program_items before) path k root.inner before its))
      ∙ own_slots (kept_below root (k ∷ path))
      ∙ leads) in
      let same : roomless after ≡ roomless (edit_slot node.label.slot gives before) =
      is ∙ ap (λ (n : ℕ). roomless (edit_slot n gives before)) (sym own) in
      let (item, first, on) = first_item before k path node there in
      let what : plan.what ≡ What.Dropped = what_is ∙ did in
      let tells : declared ≡ is_declaration (sort_of node.label.kind) =
      told
      ∙ ap (λ (w : What). changes_declaration w (kept_below root (k ∷ path)) (node_at after (k ∷ path))) did
      ∙ none_behind (kept_declares (kept_below root (k ∷ path)))
      ∙ kept_told ∙ ap node_declares there in
      let procedure : item.label.slot ≡ change.procedure.0 =
      same_Some item.label.slot change.procedure.0
      (sym (procedure_is before k path item node first there (once node.label.slot))
      ∙ ap (λ (n : ℕ). procedure_of before n) own
      ∙ ap (λ (w : What). procedure_of (changed_in w before after) change.slot.0) (sym did)
      ∙ within) in
      let fits =
      plan_fits gives item node (λ none. (declares_nothing node.label (sym tells ∙ none), tt)) procedure in
      record {
        fits =
            subst (λ (w : What). WayFits w (Some (k ∷ path)) root after) (sym what)
            (fits_dropped (Marks before) (program_items before) path k root before after node its there);
        near =
            near_gone room by_path plan before after (program_items before) root.inner its once once_after marked scope (tell before) k path
            item node declared fits first there same (ap is_of_item what) (ap is_added what);
        names = numbers_edited gives path k before after (same ∙ ap roomless (path_edit room by_path before after gives k path node there once same));
        cost = λ is_touched touched.
            billed_plan is_touched (list_cost plan (Some (k ∷ path)) root.inner after)
            (drop_billed change before after is_touched touched plan (program_items before) root.inner its once once_after marked declared
            (ap (λ (p : PlainPlan). p.procedure) planned)
            (declares_there (λ other. (node, there, own)) (λ other. absurd (true≢false (sym (ap is_dropped did) ∙ other)))) k path node there
            own (same ∙ ap roomless (path_edit room by_path before after gives k path node there once same)) (ap is_of_item what)
            (ap is_added what));
      }
    where
      none_behind : (b : Bool) → ((true && b) || (false && node_declares (node_at after (k ∷ path)))) ≡ b
      none_behind true = refl
      none_behind false = refl

      kept_slots : (o : Option PlainNode)
          → option_map (λ (own : PlainOwnCode). own.slot) (option_map (λ (n : PlainNode). own_code_by (Marks before) (program_items before) n.label) o)
          ≡ option_map (λ (n : PlainNode). n.label.slot) o
      kept_slots None = refl
      kept_slots (Some node) = refl

      own_slots : (o : Option PlainCodeNode)
          → option_map (λ (own : PlainOwnCode). own.slot) (option_map (λ (n : PlainCodeNode). n.own) o) ≡ option_map (λ (n : PlainCodeNode). n.own.slot) o
      own_slots None = refl
      own_slots (Some node) = refl

  -- what is kept is that of the program after the edit without the item that comes
  came_its : (gives : PlainNode → List PlainNode) → roomless before ≡ roomless (give_way (edit_below gives path) k after)
      → roomless_code root.inner ≡ kept_code (Marks before) (program_items before) (give_way (edit_below gives path) k after)
  came_its gives less = its ∙ kept_alike (Marks before) (program_items before) before (give_way (edit_below gives path) k after) less

  -- an item comes
  add_fits : change.what ≡ What.Added → roomless before ≡ roomless (edit_slot change.slot.0 (λ other. []) after)
      → slot_at after (k ∷ path) ≡ Some change.slot.0 → RoomAt (k ∷ path) root → EditFits plan change root before after (k ∷ path)
  add_fits did is leads roomy =
      let gives : PlainNode → List PlainNode = (λ other. []) in
      let (node, there, own) = node_of (node_at after (k ∷ path)) change.slot.0 leads in
      let same : roomless before ≡ roomless (edit_slot node.label.slot gives after) =
      is ∙ ap (λ (n : ℕ). roomless (edit_slot n gives after)) (sym own) in
      let (item, first, on) = first_item after k path node there in
      let what : plan.what ≡ What.Added = what_is ∙ did in
      let tells : declared ≡ is_declaration (sort_of node.label.kind) =
      told
      ∙ ap (λ (w : What). changes_declaration w (kept_below root (k ∷ path)) (node_at after (k ∷ path))) did
      ∙ ap node_declares there in
      let procedure : item.label.slot ≡ change.procedure.0 =
      same_Some item.label.slot change.procedure.0
      (sym (procedure_is after k path item node first there (once_after node.label.slot))
      ∙ ap (λ (n : ℕ). procedure_of after n) own
      ∙ ap (λ (w : What). procedure_of (changed_in w before after) change.slot.0) (sym did)
      ∙ within) in
      let fits =
      plan_fits gives item node (λ none. (declares_nothing node.label (sym tells ∙ none), tt)) procedure in
      let less : roomless before ≡ roomless (give_way (edit_below gives path) k after) =
      same ∙ ap roomless (path_edit room by_path after before gives k path node there once_after same) in
      record {
        fits =
            subst (λ (w : What). WayFits w (Some (k ∷ path)) root after) (sym what)
            (fits_added (Marks before) (program_items before) path k root after node (came_its gives less) there roomy);
        near =
            near_came room by_path plan before after (program_items before) root.inner its once once_after marked scope (tell before) k path
            item node declared fits first there same (ap is_of_item what) (ap is_added what);
        names = λ deep. sym (numbers_edited gives path k after before less deep);
        cost = λ is_touched touched.
            billed_plan is_touched (list_cost plan (Some (k ∷ path)) root.inner after)
            (add_billed change before after is_touched touched plan (program_items before) root.inner its once once_after marked declared
            (ap (λ (p : PlainPlan). p.procedure) planned)
            (declares_there (λ other. absurd (true≢false (sym (ap is_added did) ∙ other))) (λ other. (node, there, own))) k path node there
            own less (came_its gives less) (ap is_of_item what) (ap is_added what));
      }

  -- each of these
  pub edit_fits : DifferBy change.what change.slot.0 before after → LeadsToChange (is_dropped change.what) change.slot.0 (k ∷ path) root after
      → (is_added change.what ≡ true → RoomAt (k ∷ path) root) → EditFits plan change root before after (k ∷ path)
  edit_fits differ leads roomy = by change.what refl differ leads roomy
    where
      by : (w : What) → change.what ≡ w → DifferBy w change.slot.0 before after → LeadsToChange (is_dropped w) change.slot.0 (k ∷ path) root after
          → (is_added w ≡ true → RoomAt (k ∷ path) root) → EditFits plan change root before after (k ∷ path)
      by What.Node did d on r = put_fits did d.0 d.1 d.2 on
      by (What.Part part) did d on r = set_fits part did d.0 d.1 on
      by What.Dropped did d on r = drop_fits did d.1 on
      by What.Added did d on r = add_fits did d.1 on (r refl)

-- ---- any way

-- where an item came, its list is among what is kept
came_leads : SlotEditIsPathEdit → ChecksIgnoreRoom → (before after : Forest) (slot : ℕ) (root : PlainCodeNode)
    → roomless_code root.inner ≡ kept_code (Marks before) (program_items before) before → ((n : ℕ) → times n after ≤ 1)
    → roomless before ≡ roomless (edit_slot slot (λ other. []) after) → (path : List ℕ) → slot_at after path ≡ Some slot → LeadsToList path root
came_leads by_path room before after slot root its once_after is [] leads = tt
came_leads by_path room before after slot root its once_after is (k ∷ path) leads =
    let gives : PlainNode → List PlainNode = (λ other. []) in
    let (node, there, own) = node_of (node_at after (k ∷ path)) slot leads in
    let same : roomless before ≡ roomless (edit_slot node.label.slot gives after) =
    is ∙ ap (λ (n : ℕ). roomless (edit_slot n gives after)) (sym own) in
    let less : roomless before ≡ roomless (give_way (edit_below gives path) k after) =
    same ∙ ap roomless (path_edit room by_path after before gives k path node there once_after same) in
    leads_added (Marks before) (program_items before) path k root after node
    (its ∙ kept_alike (Marks before) (program_items before) before (give_way (edit_below gives path) k after) less) there

module _ (room : ChecksIgnoreRoom) (at_room : NodesIgnoreRoom) (by_path : SlotEditIsPathEdit) (tell : ProgramItemsTell)
    (change : Change) (before after : Forest) (root : PlainCodeNode)
    (its : roomless_code root.inner ≡ kept_code (Marks before) (program_items before) before)
    (once : (n : ℕ) → times n before ≤ 1) (once_after : (n : ℕ) → times n after ≤ 1)
    (differ : DifferBy change.what change.slot.0 before after)
    (within : procedure_of (changed_in change.what before after) change.slot.0 ≡ Some change.procedure.0) where
  pub way_fits : (plan : PlainPlan) → plan.marks ≡ Marks after → ScopeTells plan.items after → (declared : Bool) (way : List ℕ)
      → plan ≡ plan_of plan.marks plan.items change declared (leads_to_item way)
      → declared ≡ changes_declaration change.what (kept_below root way) (node_at after way)
      → LeadsToChange (is_dropped change.what) change.slot.0 way root after → (is_added change.what ≡ true → RoomAt way root)
      → EditFits plan change root before after way
  way_fits plan marked scope declared [] planned told leads roomy = absurd (nowhere (is_dropped change.what) leads)
    where
      nowhere : (b : Bool) → LeadsToChange b change.slot.0 [] root after → ⊥
      nowhere true on = on
      nowhere false on = none-some change.slot.0 on
  way_fits plan marked scope declared (k ∷ path) planned told leads roomy =
      edit_fits room at_room by_path tell plan change before after root its once once_after marked scope within k path declared planned told differ leads
      roomy

  -- where an item came, its list is among what is kept
  pub way_leads : (way : List ℕ) → LeadsToChange (is_dropped change.what) change.slot.0 way root after → is_added change.what ≡ true → LeadsToList way root
  way_leads way leads came = by change.what refl differ leads came
    where
      by : (w : What) → change.what ≡ w → DifferBy w change.slot.0 before after → LeadsToChange (is_dropped w) change.slot.0 way root after
          → is_added w ≡ true → LeadsToList way root
      by What.Node did d on is = absurd (true≢false (sym is))
      by (What.Part part) did d on is = absurd (true≢false (sym is))
      by What.Added did d on is = came_leads by_path room before after change.slot.0 root its once_after d.1 way on
      by What.Dropped did d on is = absurd (true≢false (sym is))

  -- the slot of the change stands where it is sought
  pub way_there : 1 ≤ times_sought (is_dropped change.what) change.slot.0 root.inner after
  way_there = by change.what refl
    where
      live : 1 ≤ times change.slot.0 (changed_in change.what before after)
      live = procedure_live (changed_in change.what before after) change.slot.0 change.procedure.0 within

      by : (w : What) → change.what ≡ w → 1 ≤ times_sought (is_dropped w) change.slot.0 root.inner after
      by What.Node did = subst (λ (w : What). 1 ≤ times change.slot.0 (changed_in w before after)) did live
      by (What.Part part) did = subst (λ (w : What). 1 ≤ times change.slot.0 (changed_in w before after)) did live
      by What.Added did = subst (λ (w : What). 1 ≤ times change.slot.0 (changed_in w before after)) did live
      by What.Dropped did =
          subst (λ (n : ℕ). 1 ≤ n) (sym (times_of (Marks before) (program_items before) change.slot.0 root.inner before its))
          (subst (λ (w : What). 1 ≤ times change.slot.0 (changed_in w before after)) did live)
