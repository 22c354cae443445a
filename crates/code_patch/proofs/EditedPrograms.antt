-- What an edit at a path leaves of a program beside the node there: marks, effective items, and so own code.
use Rattle.std.proofs.Common.{◌≡◌, ℕ, ◌≤◌, ◌⊎◌, inl, inr, Bool, true, false, List, [], ◌∷◌, Option, Some, refl, ap, sym, subst, ◌∙◌, arith, eq-eqb, eqb-true, true≢false}
use Rattle.std.specs.Prelude.{not, ◌||◌, ◌==◌, option_and_then, slice_get}
use Rattle.std.proofs.lemmas.Option.{same_Some}
use Rattle.std.specs.FinMap.{get}
use Rattle.std.specs.Option.{option_map_or}
use Rattle.plcs_base.specs.Mark.{MarkMap}
use Rattle.plcs_base.specs.Scope.{ItemMap}
use Rattle.plcs_base.specs.declared.place.PhraseAt.{PhraseAt}
use Rattle.template_tree.specs.Checks.Environment.{Items}
use Rattle.template_tree.specs.Checks.Marks.{Marks, offences}
use Rattle.template_tree.specs.Checks.Mention.{phrase_at}
use Rattle.template_tree.specs.Checks.ProgramMaps.{items_in}
use Rattle.template_tree.specs.Edits.Edit.{edit_below, edit_slot, give_way}
use Rattle.template_tree.specs.Laws.CheckLaws.{ChecksIgnoreRoom}
use Rattle.template_tree.specs.Laws.TreeLaws.{SlotEditIsPathEdit}
use Rattle.template_tree.specs.Positions.Path.{below, node_at}
use Rattle.template_tree.specs.Programs.PlainTree.{Forest, Label, PlainNode, nodes, roomless}
use Rattle.template_tree.specs.Programs.Slots.{times}
use Rattle.plcs_code.specs.OwnCode.{own_code_by}
use Rattle.code_patch.specs.Private.NearCode.{OwnNear, PlainPlan, is_short, stops_as}
use Rattle.code_patch.proofs.ItemsStay.{AreIn, items_beside, items_quiet}
use Rattle.code_patch.proofs.MarksStay.{FoundAlike, mark_stays}
use Rattle.code_patch.proofs.NearPaths.{LabelStays}
use Rattle.code_patch.proofs.QuietEdits.{AtSlot, GivesQuietly, NoItem}
use Rattle.code_patch.proofs.RemadeCode.{own_near, own_stays_by}
use Rattle.code_patch.proofs.SlotNodes.{at_slot_path, no_item}

-- ---- programs that are the same but for room

pub times_roomless : (n : ℕ) (program : Forest) → times n (roomless program) ≡ times n program
times_roomless n Forest.nil = refl
times_roomless n (Forest.cons label inner rest) = omega (arith, times_roomless n inner, times_roomless n rest)

pub times_alike : (n : ℕ) (one other : Forest) → roomless one ≡ roomless other → times n one ≡ times n other
times_alike n one other same = sym (times_roomless n one) ∙ ap (times n) same ∙ times_roomless n other

marks_alike : ChecksIgnoreRoom → (one other : Forest) → roomless one ≡ roomless other → Marks one ≡ Marks other
marks_alike room one other same =
    sym (ap offences (room one).verdicts) ∙ ap Marks same ∙ ap offences (room other).verdicts

items_alike : ChecksIgnoreRoom → (one other : Forest) → roomless one ≡ roomless other → (slot : ℕ) → Items one slot ≡ Items other slot
items_alike room one other same slot =
    sym ((room one).items slot) ∙ ap (λ (f : Forest). Items f slot) same ∙ (room other).items slot

-- ---- an edit at a path

module _ (room : ChecksIgnoreRoom) (by_path : SlotEditIsPathEdit) (one other : Forest) (change : PlainNode → List PlainNode)
    (k : ℕ) (path : List ℕ) (node : PlainNode) (there : node_at one (k ∷ path) ≡ Some node)
    (once : (n : ℕ) → times n one ≤ 1) (is : roomless other ≡ roomless (edit_slot node.label.slot change one)) where
  -- it is the edit of the node at the path
  pub path_edit : edit_slot node.label.slot change one ≡ give_way (edit_below change path) k one
  path_edit = by_path change one (k ∷ path) node (once node.label.slot) there

  quiet_all : GivesQuietly node.label.slot change node → AtSlot node.label.slot (GivesQuietly node.label.slot change) one
  quiet_all quiet =
      at_slot_path node.label.slot (GivesQuietly node.label.slot change) one k path node there refl (once node.label.slot) quiet

  none_deep : (on : List ℕ) → path ≡ on → is_short on ≡ false → NoItem node.label.slot one
  none_deep [] same deep = absurd (true≢false deep)
  none_deep (j ∷ rest) same deep =
      no_item node.label.slot one k j rest node
      (subst (λ (p : List ℕ). node_at one (k ∷ p) ≡ Some node) same there) refl (once node.label.slot)

  -- the marks of another slot, where no declaration changes
  pub marks_edited : GivesQuietly node.label.slot change node → is_short path ≡ false → (at : PhraseAt) → (at.slot.0 ≡ node.label.slot → ⊥)
      → FoundAlike node.label.slot change at node → get (Marks one) at ≡ get (Marks other) at
  marks_edited quiet deep at apart alike =
      mark_stays node.label.slot change at one (quiet_all quiet) (none_deep path refl deep) apart
      (at_slot_path node.label.slot (FoundAlike node.label.slot change at) one k path node there refl (once node.label.slot) alike)
      ∙ ap (λ (m : MarkMap). get m at) (sym (marks_alike room other (edit_slot node.label.slot change one) is))

  -- the items of all procedures then
  pub items_edited : GivesQuietly node.label.slot change node → is_short path ≡ false → (slot : ℕ) → Items one slot ≡ Items other slot
  items_edited quiet deep slot =
      items_quiet node.label.slot change slot one (quiet_all quiet) (none_deep path refl deep)
      ∙ sym (items_alike room other (edit_slot node.label.slot change one) is slot)

  -- and else those of others
  pub items_others : (item : PlainNode) → slice_get (nodes one) k ≡ Some item → AreIn node.label.slot (change node) → (slot : ℕ)
      → (slot ≡ item.label.slot → ⊥) → Items one slot ≡ Items other slot
  items_others item first came slot apart =
      items_beside (edit_below change path) slot k one item first (stay path refl) apart
      ∙ ap (λ (f : Forest). Items f slot) (sym path_edit)
      ∙ sym (items_alike room other (edit_slot node.label.slot change one) is slot)
    where
      stay : (on : List ℕ) → path ≡ on → AreIn item.label.slot (edit_below change on item)
      stay [] same =
          let at : node_at one (k ∷ []) ≡ Some node = subst (λ (p : List ℕ). node_at one (k ∷ p) ≡ Some node) same there in
          let found : Some item ≡ Some node = sym (ap (λ (o : Option PlainNode). option_and_then (λ (n : PlainNode). below n []) o) first) ∙ at in
          subst (λ (n : PlainNode). AreIn n.label.slot (change n)) (sym (same_Some item node found)) came
      stay (j ∷ rest) same = (refl, tt)

-- ---- own code

-- where an edit changes a declaration or not, how it is prepared: it goes everywhere but where it changes no
-- declaration inside an item
pub record PlanFits (plan : PlainPlan) (declares : Bool) (change : PlainNode → List PlainNode) (path : List ℕ) (item node : PlainNode)
    : Type 0 where
  pub everywhere : plan.everywhere ≡ (declares || is_short path)
  pub quiet : declares ≡ false → GivesQuietly node.label.slot change node
  pub procedure : declares ≡ true → plan.procedure ≡ Some item.label.slot

module _ (plan : PlainPlan) (marks : MarkMap) (items : ItemMap) (label : Label) where
  -- the own code of a touched procedure is made anew
  touched_near : plan.procedure ≡ Some label.slot → OwnNear plan false (own_code_by marks items label) label
  touched_near touched remade =
      let stops = stops_as plan.marks (own_code_by marks items label) label in
      absurd
      (true≢false
      (sym
      (ap (λ (o : Option ℕ). option_map_or (λ procedure. procedure == label.slot) o false || not stops) touched
      ∙ ap (λ (b : Bool). b || not stops) (eq-eqb label.slot label.slot refl))
      ∙ remade))

  -- a node stays, where its marks and its items do, or it is gone to and its items stay, or it is a touched procedure
  pub label_stays : (plan.everywhere ≡ false
      → ((part : ℕ) → get marks (phrase_at label.slot part) ≡ get plan.marks (phrase_at label.slot part))
      × (items_in items label.slot ≡ items_in plan.items label.slot))
      → (plan.everywhere ≡ true → (items_in items label.slot ≡ items_in plan.items label.slot) ⊎ (plan.procedure ≡ Some label.slot))
      → LabelStays plan marks items plan.everywhere label
  label_stays far wide = by plan.everywhere refl
    where
      near : (items_in items label.slot ≡ items_in plan.items label.slot) ⊎ (plan.procedure ≡ Some label.slot)
          → OwnNear plan false (own_code_by marks items label) label
      near (inl same) = own_near plan marks items label same
      near (inr touched) = touched_near touched

      by : (b : Bool) → plan.everywhere ≡ b → LabelStays plan marks items b label
      by false e = own_stays_by plan marks items label (far e).0 (far e).1
      by true e = near (wide e)

  -- and so, where something is known of the edit at the path
  pub stays_by : (declares : Bool) (change : PlainNode → List PlainNode) (path : List ℕ) (item node : PlainNode)
      → PlanFits plan declares change path item node → (path ≡ [] → item ≡ node) → (label.slot ≡ node.label.slot → ⊥)
      → (GivesQuietly node.label.slot change node → is_short path ≡ false
      → ((part : ℕ) → get marks (phrase_at label.slot part) ≡ get plan.marks (phrase_at label.slot part))
      × (items_in items label.slot ≡ items_in plan.items label.slot))
      → ((label.slot ≡ item.label.slot → ⊥) → items_in items label.slot ≡ items_in plan.items label.slot)
      → LabelStays plan marks items plan.everywhere label
  stays_by declares change path item node fits short apart quiet others =
      label_stays (λ e. far declares (is_short path) refl refl (sym fits.everywhere ∙ e)) (wide (label.slot == item.label.slot) refl)
    where
      far : (d ends : Bool) → declares ≡ d → is_short path ≡ ends → (d || ends) ≡ false
          → ((part : ℕ) → get marks (phrase_at label.slot part) ≡ get plan.marks (phrase_at label.slot part))
          × (items_in items label.slot ≡ items_in plan.items label.slot)
      far true ends e f none = absurd (true≢false none)
      far false true e f none = absurd (true≢false none)
      far false false e f none = quiet (fits.quiet e) f

      touched : (d : Bool) (on : List ℕ) → declares ≡ d → path ≡ on → label.slot ≡ item.label.slot → plan.everywhere ≡ true
          → plan.procedure ≡ Some label.slot
      touched true on f g same all = fits.procedure f ∙ ap (λ (n : ℕ). Some n) (sym same)
      touched false [] f g same all = absurd (apart (same ∙ ap (λ (n : PlainNode). n.label.slot) (short g)))
      touched false (j ∷ rest) f g same all =
          absurd (true≢false (sym all ∙ fits.everywhere ∙ (λ i. f i || is_short (g i))))

      wide : (own : Bool) → (label.slot == item.label.slot) ≡ own → plan.everywhere ≡ true
          → (items_in items label.slot ≡ items_in plan.items label.slot) ⊎ (plan.procedure ≡ Some label.slot)
      wide false e all = inl (others (λ is. true≢false (sym (eq-eqb label.slot item.label.slot is) ∙ e)))
      wide true e all = inr (touched declares path refl refl (eqb-true label.slot item.label.slot e) all)

-- the item at which a path ends is the node there
pub item_is_node : (program : Forest) (k : ℕ) (path : List ℕ) (item node : PlainNode) → slice_get (nodes program) k ≡ Some item
    → node_at program (k ∷ path) ≡ Some node → path ≡ [] → item ≡ node
item_is_node program k path item node first there short =
    let at : node_at program (k ∷ []) ≡ Some node = subst (λ (p : List ℕ). node_at program (k ∷ p) ≡ Some node) short there in
    same_Some item node (sym (ap (λ (o : Option PlainNode). option_and_then (λ (n : PlainNode). below n []) o) first) ∙ at)
