-- Where an edit was made inside main or a procedure, the effective heading of a name is another one exactly where the
-- procedure has it, and a parameter in it gets another kind.
use Rattle.std.proofs.Common.{◌≡◌, ◌≢◌, ℕ, suc, ◌≤◌, Bool, true, false, List, [], ◌∷◌, Option, Some, None, refl, ap, sym, subst, ◌∙◌, true≢false}
use Rattle.std.specs.Prelude.{◌&&◌, bytes_eq, if◌then◌else◌, option_and_then, option_map, slice_get}
use Rattle.std.specs.Option.{option_or}
use Rattle.std.proofs.lemmas.Option.{none-some, same_Some}
use Rattle.plcs_base.specs.declared.declared.Declared.{Declared}
use Rattle.template_tree.specs.Checks.Environment.{Heading, Items, Sig, Signature, heading_of, items_inside, may_be_called, parameter_kinds, signature_for, signature_of}
use Rattle.template_tree.specs.Laws.CheckLaws.{ChecksIgnoreRoom}
use Rattle.template_tree.specs.Programs.PlainTree.{Forest, Label, PlainNode, PlainTree, forest, nodes}
use Rattle.template_tree.specs.Programs.Tree.{IsTree}
use Rattle.decl_table.specs.PlainDecls.{PlainHeadings, slot_of}
use Rattle.decl_table.specs.Private.AffectedView.{HeadingTurns, kind_in}
use Rattle.decl_table.proofs.AffectedHeadings.{kind_by, kinds_told}
use Rattle.decl_table.proofs.AffectedNames.{headed_inside}
use Rattle.decl_table.proofs.EditProcedures.{IsEditedItem, edited_item, item_alike, same_item}
use Rattle.decl_table.proofs.EditedHeadings.{deep_at, headed, headed_alike}
use Rattle.decl_table.proofs.EditedNodes.{HasGapOf}
use Rattle.decl_table.proofs.EditedScopes.{items_alike, items_there}
use Rattle.decl_table.proofs.Gaps.{filled}
use Rattle.decl_table.proofs.PreparedNames.{same_times}

-- ---- who has an effective heading

-- the signature is that of the heading of one of the items
pub record IsHeaded (items : Forest) (s : Signature) : Type 0 where
  pub number : ℕ
  pub node : PlainNode
  pub heading : Heading
  pub there : slice_get (nodes items) number ≡ Some node
  pub has : heading_of node.label.kind node.label.parts ≡ Some heading
  pub is : s ≡ signature_of node heading

signature_found : (name : List ℕ) (node : PlainNode) (s : Signature) → signature_for name node ≡ Some s
    → (heading : Heading) × (heading_of node.label.kind node.label.parts ≡ Some heading) × (s ≡ signature_of node heading)
signature_found name node s found = by (heading_of node.label.kind node.label.parts) refl found
  where
    Found : Type 0
    Found = (heading : Heading) × (heading_of node.label.kind node.label.parts ≡ Some heading) × (s ≡ signature_of node heading)

    judged : (heading : Heading) → heading_of node.label.kind node.label.parts ≡ Some heading → (b : Bool)
        → (if b then Some (signature_of node heading) else None) ≡ Some s → Found
    judged heading has true is = (heading, has, sym (same_Some (signature_of node heading) s is))
    judged heading has false is = absurd (none-some s is)

    by : (o : Option Heading) → heading_of node.label.kind node.label.parts ≡ o
        → option_and_then
        (λ (h : Heading). if bytes_eq name h.name && may_be_called name then Some (signature_of node h) else None) o
        ≡ Some s → Found
    by None has is = absurd (none-some s is)
    by (Some heading) has is = judged heading has (bytes_eq name heading.name && may_be_called name) is

sig_found : (name : List ℕ) (items : Forest) (s : Signature) → Sig items name ≡ Some s → IsHeaded items s
sig_found name Forest.nil s found = absurd (none-some s found)
sig_found name (Forest.cons label inner rest) s found =
    by (signature_for name (record { label = label; inner = inner })) refl found (λ later. sig_found name rest s later)
  where
    by : (o : Option Signature) → signature_for name (record { label = label; inner = inner }) ≡ o → option_or o (Sig rest name) ≡ Some s
        → (Sig rest name ≡ Some s → IsHeaded rest s) → IsHeaded (Forest.cons label inner rest) s
    by None own is again =
        let later = again is in
        record {
          number = suc later.number;
          node = later.node;
          heading = later.heading;
          there = later.there;
          has = later.has;
          is = later.is;
        }
    by (Some t) own is again =
        let first = signature_found name record { label = label; inner = inner } t own in
        record {
          number = 0;
          node = record { label = label; inner = inner };
          heading = first.0;
          there = refl;
          has = first.1;
          is = sym (same_Some t s is) ∙ first.2;
        }

taken_signature : (o : Option Signature) (own : ℕ) → option_map (λ (s : Signature). s.slot) o ≡ Some own
    → (s : Signature) × (o ≡ Some s) × (s.slot ≡ own)
taken_signature None own is = absurd (none-some own is)
taken_signature (Some s) own is = (s, refl, same_Some s.slot own is)

-- a heading, by a label without its room
bare_heading : (one other : Label) → record one { spare = 0 } ≡ record other { spare = 0 }
    → heading_of one.kind one.parts ≡ heading_of other.kind other.parts
bare_heading one other same = ap (λ (l : Label). heading_of l.kind l.parts) same

-- ---- inside main or a procedure

module _ (room : ChecksIgnoreRoom) (before after : PlainTree) (tree : IsTree before) (is : IsTree after) (k j : ℕ) (path : List ℕ)
    (old new : List PlainNode) (gap : HasGapOf (k ∷ (j ∷ path)) before.items after.items old new) where
  abbrev pub edited : IsEditedItem before.items after.items k
  edited = edited_item k j path before.items after.items old new gap

  slots_same : edited.was.label.slot ≡ edited.is.label.slot
  slots_same = ap (λ (l : Label). l.slot) edited.same

  was_items : Items before.items edited.was.label.slot ≡ items_inside edited.was.inner
  was_items = items_there before.items k edited.was edited.was_there (tree.once edited.was.label.slot)

  is_items : Items after.items edited.is.label.slot ≡ items_inside edited.is.inner
  is_items = items_there after.items k edited.is edited.is_there (is.once edited.is.label.slot)

  module _ (headings : PlainHeadings) (are : (name : List ℕ) → slot_of name headings ≡ headed name before.items) (own : ℕ)
      (in_own : edited.is.label.slot ≡ own) (olds news : List Declared) (olds_are : olds ≡ Items before.items own)
      (news_are : news ≡ Items after.items own) where
    olds_inside : olds ≡ items_inside edited.was.inner
    olds_inside = olds_are ∙ ap (Items before.items) (sym (slots_same ∙ in_own)) ∙ was_items

    news_inside : news ≡ items_inside edited.is.inner
    news_inside = news_are ∙ ap (Items after.items) (sym in_own) ∙ is_items

    -- where a parameter gets another kind, the heading is another one
    pub turned_sig : (name : List ℕ) → HeadingTurns headings olds news edited.is name → Sig before.items name ≢ Sig after.items name
    turned_sig name t same =
        let s = taken_signature (Sig before.items name) edited.is.label.slot (sym (are name) ∙ t.effective) in
        let one = sig_found name before.items s.0 s.1 in
        let other = sig_found name after.items s.0 (sym same ∙ s.1) in
        let slot_one : one.node.label.slot ≡ edited.was.label.slot =
        sym (ap (λ (x : Signature). x.slot) one.is) ∙ s.2 ∙ sym slots_same in
        let slot_other : other.node.label.slot ≡ edited.is.label.slot = sym (ap (λ (x : Signature). x.slot) other.is) ∙ s.2 in
        let first : one.node ≡ edited.was =
        same_item before.items one.number k one.node edited.was one.there edited.was_there slot_one (tree.once one.node.label.slot) in
        let second : other.node ≡ edited.is =
        same_item after.items other.number k other.node edited.is other.there edited.is_there slot_other (is.once other.node.label.slot) in
        let heading_one : one.heading ≡ t.heading =
        same_Some one.heading t.heading
        (sym one.has ∙ ap (λ (n : PlainNode). heading_of n.label.kind n.label.parts) first
        ∙ bare_heading edited.was.label edited.is.label edited.same
        ∙ t.has) in
        let heading_other : other.heading ≡ t.heading =
        same_Some other.heading t.heading
        (sym other.has ∙ ap (λ (n : PlainNode). heading_of n.label.kind n.label.parts) second ∙ t.has) in
        let kinds : parameter_kinds (items_inside edited.was.inner) [] t.heading.parameters
        ≡ parameter_kinds (items_inside edited.is.inner) [] t.heading.parameters =
        sym (λ i. parameter_kinds (items_inside ((first i).inner)) [] ((heading_one i).parameters))
        ∙ sym (ap (λ (x : Signature). x.parameters) one.is)
        ∙ ap (λ (x : Signature). x.parameters) other.is
        ∙ (λ i. parameter_kinds (items_inside ((second i).inner)) [] ((heading_other i).parameters)) in
        t.turns
        (ap (λ (l : List Declared). kind_in l t.parameter) olds_inside
        ∙ kinds_told (items_inside edited.was.inner) (items_inside edited.is.inner) [] t.heading.parameters
        (λ none there. absurd (true≢false (sym there))) kinds t.parameter t.among
        ∙ sym (ap (λ (l : List Declared). kind_in l t.parameter) news_inside))

    -- and where the heading is another one, a parameter does
    pub sig_turned : (name : List ℕ) → Sig before.items name ≢ Sig after.items name → HeadingTurns headings olds news edited.is name
    sig_turned name differs =
        let d =
        headed_inside room before.items after.items old new gap.gap gap.was gap.is (deep_at k j path gap.gap gap.place) name differs in
        let at = d.own.item k j path gap.place in
        let was =
        item_alike (filled (forest old) gap.gap) before.items k record { label = d.own.label; inner = d.own.was } (sym gap.was) at.0 in
        let now =
        item_alike (filled (forest new) gap.gap) after.items k record { label = d.own.label; inner = d.own.is } (sym gap.is) at.1 in
        let label_is : record edited.is.label { spare = 0 } ≡ record d.own.label { spare = 0 } =
        ap (λ (n : PlainNode). record n.label { spare = 0 }) (same_Some edited.is now.0 (sym edited.is_there ∙ now.1))
        ∙ ap (λ (n : PlainNode). n.label) now.2 in
        let slot_is : edited.is.label.slot ≡ d.own.label.slot = ap (λ (l : Label). l.slot) label_is in
        let mine : own ≡ d.own.label.slot = sym in_own ∙ slot_is in
        let olds_own : olds ≡ items_inside d.own.was =
        olds_are
        ∙ ap (Items before.items) mine
        ∙ items_alike d.own.label.slot before.items (filled (forest old) gap.gap) gap.was
        ∙ items_there (filled (forest old) gap.gap) k record { label = d.own.label; inner = d.own.was } at.0 (gap.once d.own.label.slot) in
        let news_own : news ≡ items_inside d.own.is =
        news_are
        ∙ ap (Items after.items) mine
        ∙ items_alike d.own.label.slot after.items (filled (forest new) gap.gap) gap.is
        ∙ items_there (filled (forest new) gap.gap) k record { label = d.own.label; inner = d.own.is } at.1
        (subst (λ (n : ℕ). n ≤ 1) (same_times d.own.label.slot after.items (filled (forest new) gap.gap) gap.is) (is.once d.own.label.slot)) in
        record {
          heading = d.own.heading;
          has = ap (λ (l : Label). heading_of l.kind l.parts) label_is ∙ d.own.has;
          named = d.own.named;
          effective =
              are name
              ∙ headed_alike name before.items (filled (forest old) gap.gap) gap.was
              ∙ ap (option_map (λ (s : Signature). s.slot)) d.own.before
              ∙ ap (λ (n : ℕ). Some n) (sym slot_is);
          parameter = d.kinds.parameter;
          among = d.kinds.among;
          turns =
              λ same.
              d.kinds.differs
              (sym (ap (λ (l : List Declared). kind_by l d.kinds.parameter) olds_own)
              ∙ same
              ∙ ap (λ (l : List Declared). kind_by l d.kinds.parameter) news_own);
        }

  -- where all items stay, no heading is another one
  pub sig_quiet : ((slot : ℕ) → Items before.items slot ≡ Items after.items slot) → (name : List ℕ)
      → Sig before.items name ≢ Sig after.items name → ⊥
  sig_quiet stay name differs =
      let d =
      headed_inside room before.items after.items old new gap.gap gap.was gap.is (deep_at k j path gap.gap gap.place) name differs in
      let at = d.own.item k j path gap.place in
      let was : Items before.items d.own.label.slot ≡ items_inside d.own.was =
      items_alike d.own.label.slot before.items (filled (forest old) gap.gap) gap.was
      ∙ items_there (filled (forest old) gap.gap) k record { label = d.own.label; inner = d.own.was } at.0 (gap.once d.own.label.slot) in
      let now : Items after.items d.own.label.slot ≡ items_inside d.own.is =
      items_alike d.own.label.slot after.items (filled (forest new) gap.gap) gap.is
      ∙ items_there (filled (forest new) gap.gap) k record { label = d.own.label; inner = d.own.is } at.1
      (subst (λ (n : ℕ). n ≤ 1) (same_times d.own.label.slot after.items (filled (forest new) gap.gap) gap.is) (is.once d.own.label.slot)) in
      d.kinds.differs
      (ap (λ (l : List Declared). kind_by l d.kinds.parameter) (sym was ∙ stay d.own.label.slot ∙ now))
