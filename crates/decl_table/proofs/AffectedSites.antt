-- A name is gathered as one that an edit affects exactly where the edit affects it.
use Rattle.std.proofs.Common.{◌≡◌, ◌≢◌, ℕ, Bool, true, false, List, [], ◌∷◌, length, Option, Some, None, refl, ap, sym, subst, ◌∙◌, ◌⊎◌, inl, inr, eq-eqb, eqb-true, true≢false}
use Rattle.std.specs.Prelude.{◌==◌, ◌&&◌, ◌||◌, if◌then◌else◌, nat_lt, slice_get}
use Rattle.std.proofs.lemmas.Map.Views.{Contains-from_any}
use Rattle.std.proofs.lemmas.Option.{same_Some}
use Rattle.plcs_base.specs.Scope.{ItemMap}
use Rattle.template_tree.specs.declared.change.Change.{Change}
use Rattle.template_tree.specs.Checks.Environment.{Items, Sig, item_named}
use Rattle.template_tree.specs.Checks.ProgramMaps.{ScopeTells, items_in}
use Rattle.template_tree.specs.Edits.Edit.{changed_in, procedure_of}
use Rattle.template_tree.specs.Laws.CheckLaws.{ChecksIgnoreRoom}
use Rattle.template_tree.specs.Laws.RoomLaws.{NodesIgnoreRoom, SlotsIgnoreRoom}
use Rattle.template_tree.specs.Laws.TreeLaws.{SlotEditIsPathEdit}
use Rattle.template_tree.specs.Programs.PlainTree.{PlainNode, PlainTree, nodes}
use Rattle.template_tree.specs.Programs.Program.{sort_of}
use Rattle.template_tree.specs.Programs.Tree.{IsTree}
use Rattle.decl_table.specs.DeclEdit.{PlainNameEdit}
use Rattle.decl_table.specs.Due.{IsAffected, binds_at, binds_names, changed_names}
use Rattle.decl_table.specs.Names.{NameForest}
use Rattle.decl_table.specs.PlainDecls.{PlainDecls, slot_of}
use Rattle.decl_table.specs.Private.AffectedView.{HeadingTurns, IsGathered}
use Rattle.decl_table.specs.Private.ChangeBefore.{IsBeforeChange, IsEditOf, IsNewNode, old_node, part_of}
use Rattle.decl_table.specs.Private.ItemChangeView.{procedure_left}
use Rattle.decl_table.specs.Private.NameTests.{bound_has, bound_of, parts_have}
use Rattle.decl_table.specs.Private.PlainNameNode.{PlainNameNode}
use Rattle.decl_table.specs.Private.ReachView.{has_items, has_lists, item_reach, names_bind, reach_of}
use Rattle.decl_table.specs.declared.reach.Reach.{Reach}
use Rattle.decl_table.proofs.AffectedHeadings.{among, is_in, is_name, or_right, or_split}
use Rattle.decl_table.proofs.BoundSites.{IsBoundBy, bind_twice, bound_after, bound_before}
use Rattle.decl_table.proofs.EditGaps.{EditGap, edit_gap, items_apart, items_stay, long, short}
use Rattle.decl_table.proofs.EditProcedures.{IsOwnProcedure, edited_item, fresh_before, gone_after, own_procedure}
use Rattle.decl_table.proofs.EditedHeadings.{headed}
use Rattle.decl_table.proofs.EditedItems.{left_inside}
use Rattle.decl_table.proofs.EditedNodes.{HasGapOf, StandsAt}
use Rattle.decl_table.proofs.TopEdits.{IsQuietName, set_binds, top_binds, top_quiet}
use Rattle.decl_table.proofs.TurnedHeadings.{sig_quiet, sig_turned, turned_sig}

or_left : (a b : Bool) → a ≡ true → (a || b) ≡ true
or_left a b is = ap (λ (x : Bool). x || b) is

and_split : (a b : Bool) → (a && b) ≡ true → (a ≡ true) × (b ≡ true)
and_split true b is = (refl, is)
and_split false b is = absurd (true≢false (sym is))

-- a node binds names of which some are bound there
side : (part : Option ℕ) (found : Option PlainNameNode) (name : List ℕ) → ((number : ℕ) → part ≡ Some number → names_bind found ≡ true)
    → bound_of part found name ≡ true → (names_bind found && bound_of part found name) ≡ true
side None None name own there = absurd (true≢false (sym there))
side None (Some node) name own there =
    sym (bind_twice (binds_names (sort_of node.label.kind)) (parts_have node.label.parts name || bound_has node.inner name)) ∙ there
side (Some number) found name own there =
    ap (λ (b : Bool). b && bound_of (Some number) found name) (own number refl) ∙ there

-- ---- by how far an edit reaches

top_lists : (part : Option ℕ) → has_lists (item_reach part) ≡ true
top_lists None = refl
top_lists (Some number) = refl

all_lists : (inside : Bool) (part : Option ℕ) → has_lists (reach_of inside true part) ≡ true
all_lists true part = refl
all_lists false part = top_lists part

inner_lists : (binds : Bool) (part : Option ℕ) → has_lists (reach_of true binds part) ≡ true → binds ≡ true
inner_lists true part has = refl
inner_lists false part has = absurd (true≢false (sym has))

no_declaration : (part : Option ℕ) → item_reach part ≡ Reach.Declaration → ⊥
no_declaration None is = cc
no_declaration (Some number) is = cc

no_items : (number : ℕ) → has_items (item_reach (Some number)) ≡ false
no_items number = refl

-- ---- the names that an edit affects

module _ (law : SlotEditIsPathEdit) (rooms : NodesIgnoreRoom) (slots : SlotsIgnoreRoom) (room : ChecksIgnoreRoom) (names : NameForest)
    (change : Change) (after : PlainTree) (is : IsTree after) (b : IsBeforeChange change.what change.slot.0 names after) (edit : PlainNameEdit)
    (of : IsEditOf change.what change.slot.0 b.before.items after.items edit) (root : PlainNameNode) (inner : root.inner ≡ names)
    (new : Option PlainNameNode) (is_new : IsNewNode edit.mend new)
    (within : procedure_of (changed_in change.what b.before.items after.items) change.slot.0 ≡ Some change.procedure.0)
    (decls : PlainDecls) (tells : ScopeTells decls.items b.before.items)
    (heads : (name : List ℕ) → slot_of name decls.headings ≡ headed name b.before.items) (table : ItemMap) (reach : Reach)
    (reach_is : reach ≡ reach_of (nat_lt 1 (length edit.path)) (names_bind (old_node edit root) || names_bind new) (part_of change.what))
    (procedure : Option PlainNode) (procedure_is : procedure ≡ procedure_left change.what edit.path after.items)
    (taken : has_items reach ≡ true → items_in table change.procedure.0 ≡ Items after.items change.procedure.0) where
  abbrev pub Gathers : List ℕ → Type 0
  Gathers name =
      IsGathered reach (part_of change.what) (old_node edit root) new decls.headings (items_in decls.items change.procedure.0)
      (items_in table change.procedure.0) procedure name

  abbrev pub Affects : List ℕ → Type 0
  Affects name = IsAffected b.before.items after.items change name

  abbrev binds : Bool
  binds = names_bind (old_node edit root) || names_bind new

  pub gaps : EditGap (part_of change.what) change.slot.0 edit.path b.before.items after.items (old_node edit root) new
  gaps = edit_gap law rooms slots change.what names change.slot.0 after is b edit of root inner new is_new

  pub mine : IsOwnProcedure after.items change.slot.0 change.procedure.0 edit.path (procedure_left change.what edit.path after.items)
  mine = own_procedure law change.what names change.slot.0 change.procedure.0 after is b edit of within edit.path refl

  pub was : (name : List ℕ)
      → IsBoundBy name (part_of change.what) (old_node edit root) (is_in name (changed_names change.what change.slot.0 b.before.items))
      (binds_at b.before.items change.slot.0)
  was name =
      bound_before name change.what names change.slot.0 after b edit of root inner
      (fresh_before law change.what names change.slot.0 after is b edit of)

  pub now : (name : List ℕ)
      → IsBoundBy name (part_of change.what) new (is_in name (changed_names change.what change.slot.0 after.items))
      (binds_at after.items change.slot.0)
  now name =
      bound_after name change.what names change.slot.0 after is b edit of new is_new
      (gone_after law change.what names change.slot.0 after b edit of)

  elsewhere : (q : ℕ) → (change.procedure.0 ≡ q → ⊥) → Items b.before.items q ≡ Items after.items q
  elsewhere q other = by edit.path refl gaps.gap.place
    where
      by : (path : List ℕ) → edit.path ≡ path → StandsAt path gaps.gap.gap → Items b.before.items q ≡ Items after.items q
      by [] way at = absurd at
      by (k ∷ rest) way at =
          items_apart (part_of change.what) change.slot.0 edit.path b.before.items after.items (old_node edit root) new gaps slots k rest way
          change.procedure.0 (λ none. mine.top k (way ∙ ap (λ (p : List ℕ). k ∷ p) none))
          (λ j others longer. mine.inside k j others (way ∙ ap (λ (p : List ℕ). k ∷ p) longer)) q other

  -- ---- what binds names

  -- main and procedures do
  item_bind : (k : ℕ) → edit.path ≡ k ∷ [] → binds ≡ true
  item_bind k way = by (top_binds change.what names change.slot.0 after is b edit of k way)
    where
      by : (binds_at b.before.items change.slot.0 ≡ true) ⊎ (binds_at after.items change.slot.0 ≡ true) → binds ≡ true
      by (inl e) = or_left (names_bind (old_node edit root)) (names_bind new) (sym (was []).sort ∙ e)
      by (inr e) = or_right (names_bind (old_node edit root)) (names_bind new) (sym (now []).sort ∙ e)

  pub bind_lists : binds ≡ true → has_lists reach ≡ true
  bind_lists e =
      ap has_lists (reach_is ∙ ap (λ (x : Bool). reach_of (nat_lt 1 (length edit.path)) x (part_of change.what)) e)
      ∙ all_lists (nat_lt 1 (length edit.path)) (part_of change.what)

  pub lists_bind : has_lists reach ≡ true → binds ≡ true
  lists_bind has = by edit.path refl gaps.gap.place
    where
      by : (path : List ℕ) → edit.path ≡ path → StandsAt path gaps.gap.gap → binds ≡ true
      by [] way at = absurd at
      by (k ∷ []) way at = item_bind k way
      by (k ∷ (j ∷ rest)) way at =
          inner_lists binds (part_of change.what)
          (sym
          (ap has_lists
          (reach_is
          ∙ ap (λ (p : List ℕ). reach_of (nat_lt 1 (length p)) binds (part_of change.what)) way
          ∙ ap (λ (x : Bool). reach_of x binds (part_of change.what)) (long k j rest)))
          ∙ has)

  -- so do both nodes of which a part was set
  both_bind : (number : ℕ) → part_of change.what ≡ Some number → has_lists reach ≡ true
      → (names_bind (old_node edit root) ≡ true) × (names_bind new ≡ true)
  both_bind number set has =
      by (or_split (names_bind (old_node edit root)) (names_bind new) (lists_bind has))
    where
      same : names_bind (old_node edit root) ≡ names_bind new
      same = sym (was []).sort ∙ set_binds law rooms change.what names change.slot.0 after is b edit of number set ∙ (now []).sort

      by : (names_bind (old_node edit root) ≡ true) ⊎ (names_bind new ≡ true)
          → (names_bind (old_node edit root) ≡ true) × (names_bind new ≡ true)
      by (inl e) = (e, sym same ∙ e)
      by (inr e) = (same ∙ e, e)

  -- ---- the item around the edit

  -- of an edit inside main or a procedure
  pub record IsInside (k j : ℕ) (rest : List ℕ) : Type 0 where
    pub gap : HasGapOf (k ∷ (j ∷ rest)) b.before.items after.items gaps.gone gaps.came
    pub there : procedure ≡ Some (edited_item k j rest b.before.items after.items gaps.gone gaps.came gap).is
    pub in_own : (edited_item k j rest b.before.items after.items gaps.gone gaps.came gap).is.label.slot ≡ change.procedure.0
    pub reaches : reach ≡ (if binds then Reach.Declaration else Reach.Statement)

  inside : (k j : ℕ) (rest : List ℕ) → edit.path ≡ k ∷ (j ∷ rest) → IsInside k j rest
  inside k j rest way =
      let gap = subst (λ (p : List ℕ). HasGapOf p b.before.items after.items gaps.gone gaps.came) way gaps.gap in
      let item = edited_item k j rest b.before.items after.items gaps.gone gaps.came gap in
      let found : procedure_left change.what edit.path after.items ≡ Some item.is =
      ap (λ (p : List ℕ). procedure_left change.what p after.items) way
      ∙ left_inside change.what j rest (slice_get (nodes after.items) k)
      ∙ item.is_there in
      record {
        gap = gap;
        there = procedure_is ∙ found;
        in_own = mine.in_slot item.is found;
        reaches =
            reach_is
            ∙ ap (λ (p : List ℕ). reach_of (nat_lt 1 (length p)) binds (part_of change.what)) way
            ∙ ap (λ (x : Bool). reach_of x binds (part_of change.what)) (long k j rest);
      }

  -- ---- what is gathered is affected

  bound_affected : has_lists reach ≡ true → (name : List ℕ)
      → (bound_of (part_of change.what) (old_node edit root) name || bound_of (part_of change.what) new name) ≡ true → Affects name
  bound_affected has name there =
      by (or_split (bound_of (part_of change.what) (old_node edit root) name) (bound_of (part_of change.what) new name) there)
    where
      by : (bound_of (part_of change.what) (old_node edit root) name ≡ true) ⊎ (bound_of (part_of change.what) new name ≡ true)
          → Affects name
      by (inl e) =
          IsAffected.stood
          (Contains-from_any is_name name (changed_names change.what change.slot.0 b.before.items)
          ((was name).names
          ∙ side (part_of change.what) (old_node edit root) name (λ number set. (both_bind number set has).0) e))
      by (inr e) =
          IsAffected.stands
          (Contains-from_any is_name name (changed_names change.what change.slot.0 after.items)
          ((now name).names
          ∙ side (part_of change.what) new name (λ number set. (both_bind number set has).1) e))

  item_affected : reach ≡ Reach.Declaration → (name : List ℕ)
      → item_named name (items_in decls.items change.procedure.0) ≢ item_named name (items_in table change.procedure.0) → Affects name
  item_affected reaches name differs =
      IsAffected.declared change.procedure.0
      (λ same.
      differs
      (ap (item_named name) (tells change.procedure.0) ∙ same ∙ sym (ap (item_named name) (taken (ap has_items reaches)))))

  heading_affected : reach ≡ Reach.Declaration → (own : PlainNode) → procedure ≡ Some own → (name : List ℕ)
      → HeadingTurns decls.headings (items_in decls.items change.procedure.0) (items_in table change.procedure.0) own name → Affects name
  heading_affected reaches own there name turns = by edit.path refl gaps.gap.place
    where
      by : (path : List ℕ) → edit.path ≡ path → StandsAt path gaps.gap.gap → Affects name
      by [] way at = absurd at
      by (k ∷ []) way at =
          absurd
          (no_declaration (part_of change.what)
          (sym
          (reach_is
          ∙ ap (λ (p : List ℕ). reach_of (nat_lt 1 (length p)) binds (part_of change.what)) way
          ∙ ap (λ (x : Bool). reach_of x binds (part_of change.what)) (short k))
          ∙ reaches))
      by (k ∷ (j ∷ rest)) way at =
          let i = inside k j rest way in
          let item = edited_item k j rest b.before.items after.items gaps.gone gaps.came i.gap in
          IsAffected.headed
          (turned_sig room b.before after b.tree is k j rest gaps.gone gaps.came i.gap decls.headings heads change.procedure.0 i.in_own
          (items_in decls.items change.procedure.0) (items_in table change.procedure.0) (tells change.procedure.0) (taken (ap has_items reaches)) name
          (subst
          (λ (n : PlainNode).
          HeadingTurns decls.headings (items_in decls.items change.procedure.0) (items_in table change.procedure.0) n name)
          (same_Some own item.is (sym there ∙ i.there)) turns))

  pub gathered_affected : (name : List ℕ) → Gathers name → Affects name
  gathered_affected name (IsGathered.bound has there) = bound_affected has name there
  gathered_affected name (IsGathered.item reaches own there differs) = item_affected reaches name differs
  gathered_affected name (IsGathered.headed reaches own there turns) = heading_affected reaches own there name turns

  -- ---- and what is affected is gathered

  stood_gathered : (name : List ℕ) → is_in name (changed_names change.what change.slot.0 b.before.items) ≡ true → Gathers name
  stood_gathered name there =
      let both = and_split (names_bind (old_node edit root)) (bound_of (part_of change.what) (old_node edit root) name)
      (sym (was name).names ∙ there) in
      IsGathered.bound (bind_lists (or_left (names_bind (old_node edit root)) (names_bind new) both.0))
      (or_left (bound_of (part_of change.what) (old_node edit root) name) (bound_of (part_of change.what) new name) both.1)

  stands_gathered : (name : List ℕ) → is_in name (changed_names change.what change.slot.0 after.items) ≡ true → Gathers name
  stands_gathered name there =
      let both = and_split (names_bind new) (bound_of (part_of change.what) new name) (sym (now name).names ∙ there) in
      IsGathered.bound (bind_lists (or_right (names_bind (old_node edit root)) (names_bind new) both.0))
      (or_right (bound_of (part_of change.what) (old_node edit root) name) (bound_of (part_of change.what) new name) both.1)

  -- main or a procedure was changed: what isn't bound there is quiet
  quiet_top : (k : ℕ) → edit.path ≡ k ∷ [] → (name : List ℕ) → Gathers name ⊎ IsQuietName name b.before.items after.items
  quiet_top k way name =
      by (is_in name (changed_names change.what change.slot.0 b.before.items)) (is_in name (changed_names change.what change.slot.0 after.items))
      refl refl
    where
      set : (number : ℕ) → part_of change.what ≡ Some number → (q : ℕ) → Items b.before.items q ≡ Items after.items q
      set number some =
          items_stay (part_of change.what) change.slot.0 edit.path b.before.items after.items (old_node edit root) new gaps
          (ap (λ (p : List ℕ). has_items (reach_of (nat_lt 1 (length p)) binds (part_of change.what))) way
          ∙ ap (λ (x : Bool). has_items (reach_of x binds (part_of change.what))) (short k)
          ∙ ap (λ (o : Option ℕ). has_items (item_reach o)) some
          ∙ no_items number)

      by : (one other : Bool) → is_in name (changed_names change.what change.slot.0 b.before.items) ≡ one
          → is_in name (changed_names change.what change.slot.0 after.items) ≡ other
          → Gathers name ⊎ IsQuietName name b.before.items after.items
      by true other e f = inl (stood_gathered name e)
      by false true e f = inl (stands_gathered name f)
      by false false e f =
          inr
          (top_quiet law rooms slots room change.what names change.slot.0 after is b edit of k way
          (λ q apart. elsewhere q (λ same. apart (sym (mine.top k way) ∙ same))) set name e f)

  -- inside main or a procedure nothing was declared: all items stay
  quiet_inside : (k j : ℕ) (rest : List ℕ) → edit.path ≡ k ∷ (j ∷ rest) → binds ≡ false → (q : ℕ)
      → Items b.before.items q ≡ Items after.items q
  quiet_inside k j rest way none =
      items_stay (part_of change.what) change.slot.0 edit.path b.before.items after.items (old_node edit root) new gaps
      (ap (λ (p : List ℕ). has_items (reach_of (nat_lt 1 (length p)) binds (part_of change.what))) way
      ∙ ap (λ (x : Bool). has_items (reach_of x binds (part_of change.what))) (long k j rest)
      ∙ ap (λ (x : Bool). has_items (reach_of true x (part_of change.what))) none)

  item_gathered : (name : List ℕ) (slot : ℕ) → item_named name (Items b.before.items slot) ≢ item_named name (Items after.items slot)
      → Gathers name
  item_gathered name slot differs = by edit.path refl gaps.gap.place
    where
      top : Gathers name ⊎ IsQuietName name b.before.items after.items → Gathers name
      top (inl e) = e
      top (inr quiet) = absurd (differs (quiet.items slot))

      own : (x : Bool) → (change.procedure.0 == slot) ≡ x
          → item_named name (Items b.before.items change.procedure.0) ≢ item_named name (Items after.items change.procedure.0)
      own true e =
          subst (λ (n : ℕ). item_named name (Items b.before.items n) ≢ item_named name (Items after.items n))
          (sym (eqb-true change.procedure.0 slot e)) differs
      own false e =
          absurd
          (differs
          (ap (item_named name) (elsewhere slot (λ same. true≢false (sym (eq-eqb change.procedure.0 slot same) ∙ e)))))

      deep : (k j : ℕ) (rest : List ℕ) → edit.path ≡ k ∷ (j ∷ rest) → (x : Bool) → binds ≡ x → Gathers name
      deep k j rest way false none = absurd (differs (ap (item_named name) (quiet_inside k j rest way none slot)))
      deep k j rest way true some =
          let i = inside k j rest way in
          let reaches : reach ≡ Reach.Declaration =
          i.reaches ∙ ap (λ (x : Bool). if x then Reach.Declaration else Reach.Statement) some in
          IsGathered.item reaches (edited_item k j rest b.before.items after.items gaps.gone gaps.came i.gap).is i.there
          (λ same.
          own (change.procedure.0 == slot) refl
          (sym (ap (item_named name) (tells change.procedure.0)) ∙ same ∙ ap (item_named name) (taken (ap has_items reaches))))

      by : (path : List ℕ) → edit.path ≡ path → StandsAt path gaps.gap.gap → Gathers name
      by [] way at = absurd at
      by (k ∷ []) way at = top (quiet_top k way name)
      by (k ∷ (j ∷ rest)) way at = deep k j rest way binds refl

  heading_gathered : (name : List ℕ) → Sig b.before.items name ≢ Sig after.items name → Gathers name
  heading_gathered name differs = by edit.path refl gaps.gap.place
    where
      top : Gathers name ⊎ IsQuietName name b.before.items after.items → Gathers name
      top (inl e) = e
      top (inr quiet) = absurd (differs quiet.heading)

      deep : (k j : ℕ) (rest : List ℕ) → edit.path ≡ k ∷ (j ∷ rest) → (x : Bool) → binds ≡ x → Gathers name
      deep k j rest way false none =
          let i = inside k j rest way in
          absurd
          (sig_quiet room b.before after b.tree is k j rest gaps.gone gaps.came i.gap (quiet_inside k j rest way none) name differs)
      deep k j rest way true some =
          let i = inside k j rest way in
          let reaches : reach ≡ Reach.Declaration =
          i.reaches ∙ ap (λ (x : Bool). if x then Reach.Declaration else Reach.Statement) some in
          IsGathered.headed reaches (edited_item k j rest b.before.items after.items gaps.gone gaps.came i.gap).is i.there
          (sig_turned room b.before after b.tree is k j rest gaps.gone gaps.came i.gap decls.headings heads change.procedure.0 i.in_own
          (items_in decls.items change.procedure.0) (items_in table change.procedure.0) (tells change.procedure.0) (taken (ap has_items reaches)) name
          differs)

      by : (path : List ℕ) → edit.path ≡ path → StandsAt path gaps.gap.gap → Gathers name
      by [] way at = absurd at
      by (k ∷ []) way at = top (quiet_top k way name)
      by (k ∷ (j ∷ rest)) way at = deep k j rest way binds refl

  pub affected_gathered : (name : List ℕ) → Affects name → Gathers name
  affected_gathered name (IsAffected.stood there) =
      stood_gathered name (among name (changed_names change.what change.slot.0 b.before.items) there)
  affected_gathered name (IsAffected.stands there) =
      stands_gathered name (among name (changed_names change.what change.slot.0 after.items) there)
  affected_gathered name (IsAffected.declared slot differs) = item_gathered name slot differs
  affected_gathered name (IsAffected.headed differs) = heading_gathered name differs
