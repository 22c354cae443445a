-- The maps of the table, and what they find.
use Rattle.std.proofs.Common.{◌≡◌, ℕ, suc, length, Bool, true, false, cond, List, [], ◌∷◌, ◌++◌, Option, Some, None, option_map, slice_get, refl, sym, ap, ◌∙◌, eq-eqb, ne_eqb}
use Rattle.std.specs.Prelude.{bytes_eq, nat_eq, ◌&&◌, option_and_then, unwrap_or}
use Rattle.std.specs.FinMap.{find, from_entries, get, get-from_entries, get-insert, get-remove, insert, nat_cmp-IsAntisymmetric, remove, same_map}
use Rattle.std.specs.Map.{lookup}
use Rattle.std.specs.Option.{option_or}
use Rattle.std.specs.Ordering.{eq_by_cmp, nat_cmp}
use Rattle.std.proofs.lemmas.Cmp.{nat_cmp_total, nat_eq_equiv}
use Rattle.std.proofs.lemmas.Slice.Eq.{bytes_eq-Decides}
use Rattle.plcs_base.specs.Scope.{ItemMap, item_at}
use Rattle.plcs_base.specs.declared.declared.Declared.{Declared}
use Rattle.template_tree.specs.Checks.Environment.{Heading, Signature, heading_of, may_be_called, signature_for, signature_of}
use Rattle.template_tree.specs.Checks.ProgramMaps.{items_in}
use Rattle.template_tree.specs.Programs.PlainTree.{PlainNode}
use Rattle.plcs_base.specs.declared.place.Slot.{Slot}
use Rattle.decl_table.specs.declared.heading_changes.HeadingChange.{HeadingChange}
use Rattle.decl_table.specs.Private.HeadingChangesView.{plain_heading_changes}
use Rattle.decl_table.proofs.AddedUses.{same_name}
use Rattle.plcs_base.specs.PlaceOrder.{nat_ties}

-- ---- the items of procedures

-- the map finds what the entries have
pub found : (entries : List (ℕ × List Declared)) (slot : ℕ) → get (let m : ItemMap = from_entries entries in m) slot ≡ lookup (nat_eq slot) entries
found entries slot = get-from_entries nat_cmp_total entries slot ∙ listed entries
  where
    listed : (entries : List (ℕ × List Declared)) → find nat_cmp slot entries ≡ lookup (nat_eq slot) entries
    listed [] = refl
    listed (entry ∷ entries) =
        ap (λ b. cond b (Some entry.1) (find nat_cmp slot entries)) (sym (nat_ties slot entry.0))
        ∙ ap (λ o. cond (nat_eq slot entry.0) (Some entry.1) o) (listed entries)

-- what is put under a slot is inserted
pub put : (slot : ℕ) (items : List Declared) (old new : List (ℕ × List Declared))
    → ((q : ℕ) → lookup (nat_eq q) new ≡ cond (nat_eq slot q) (Some items) (lookup (nat_eq q) old))
    → (let m : ItemMap = from_entries new in m) ≡ insert (let m : ItemMap = from_entries old in m) slot items
put slot items old new is =
    same_map nat_cmp_total nat_cmp-IsAntisymmetric _ _
    (λ q. found new q
    ∙ is q
    ∙ ap (λ b. cond b (Some items) (lookup (nat_eq q) old)) (nat_eq_equiv.symm slot q ∙ nat_ties q slot)
    ∙ ap (λ o. cond (eq_by_cmp nat_cmp q slot) (Some items) o) (sym (found old q))
    ∙ sym (get-insert nat_cmp_total (let m : ItemMap = from_entries old in m) slot items q))

-- what is taken out from under a slot is removed
pub taken : (slot : ℕ) (old new : List (ℕ × List Declared))
    → ((q : ℕ) → lookup (nat_eq q) new ≡ cond (nat_eq slot q) None (lookup (nat_eq q) old))
    → (let m : ItemMap = from_entries new in m) ≡ remove (let m : ItemMap = from_entries old in m) slot
taken slot old new is =
    same_map nat_cmp_total nat_cmp-IsAntisymmetric _ _
    (λ q. found new q
    ∙ is q
    ∙ ap (λ b. cond b None (lookup (nat_eq q) old)) (nat_eq_equiv.symm slot q ∙ nat_ties q slot)
    ∙ ap (λ o. cond (eq_by_cmp nat_cmp q slot) None o) (sym (found old q))
    ∙ sym (get-remove nat_cmp_total (let m : ItemMap = from_entries old in m) slot q))

-- ---- headings

-- the signature that a heading of the name gives
pub given : (node : PlainNode) (key : List ℕ) (heading : Option Heading) → heading_of node.label.kind node.label.parts ≡ heading
    → Some key ≡ option_map (λ (h : Heading). h.name) heading → may_be_called key ≡ true → (name : List ℕ)
    → option_map (λ (s : Signature). s.slot) (signature_for name node) ≡ cond (bytes_eq key name) (Some node.label.slot) None
given node key None is named called name = absurd (cc)
given node key (Some heading) is named called name =
    let same : key ≡ heading.name = cc in
    rw is
    (ap (λ n. option_map (λ (s : Signature). s.slot) (cond (bytes_eq name n && may_be_called name) (Some (signature_of node heading)) None)) (sym same)
    ∙ by (bytes_eq name key) refl
    ∙ ap (λ b. cond b (Some node.label.slot) None) (same_name name key))
  where
    by : (here : Bool) → bytes_eq name key ≡ here
        → option_map (λ (s : Signature). s.slot) (cond (here && may_be_called name) (Some (signature_of node heading)) None)
        ≡ cond here (Some node.label.slot) None
    by true here =
        ap (λ b. option_map (λ (s : Signature). s.slot) (cond b (Some (signature_of node heading)) None))
        (ap may_be_called ((bytes_eq-Decides name key).0 here) ∙ called)
    by false here = refl

-- a heading comes before later ones
pub first : (here : Bool) (slot : ℕ) (later : Option ℕ) → cond here (Some slot) later ≡ option_or (cond here (Some slot) None) later
first true slot later = refl
first false slot later = refl

-- ---- changes of headings

-- one more change behind the others
pub changes_turn : (changes : List HeadingChange) (change : HeadingChange)
    → plain_heading_changes (changes ++ (change ∷ []))
    ≡ plain_heading_changes changes ++ ((change.name, option_map (λ (slot : Slot). slot.0) change.slot) ∷ [])
changes_turn [] change = refl
changes_turn (first ∷ changes) change =
    ap (λ rest. (first.name, option_map (λ (slot : Slot). slot.0) first.slot) ∷ rest) (changes_turn changes change)

-- as many pairs as changes
pub as_many_changes : (changes : List HeadingChange) → length (plain_heading_changes changes) ≡ length changes
as_many_changes [] = refl
as_many_changes (change ∷ changes) = ap (λ n. suc n) (as_many_changes changes)

-- ---- the items of one procedure after a change

module _ (items : ItemMap) (slot : ℕ) (procedure k : ℕ) where
  -- of the procedure that gets others
  pub item_set : (list : List Declared) → slot ≡ procedure → item_at (insert items slot list) procedure k ≡ slice_get list k
  item_set list same =
      ap (option_and_then (λ all. slice_get all k))
      (get-insert nat_cmp_total items slot list procedure
      ∙ ap (λ b. cond b (Some list) (get items procedure)) (sym (nat_ties procedure slot) ∙ eq-eqb procedure slot (sym same)))

  -- of one that is one no more
  pub item_gone : slot ≡ procedure → item_at (remove items slot) procedure k ≡ None
  item_gone same =
      ap (option_and_then (λ all. slice_get all k))
      (get-remove nat_cmp_total items slot procedure
      ∙ ap (λ b. cond b None (get items procedure)) (sym (nat_ties procedure slot) ∙ eq-eqb procedure slot (sym same)))

  -- of another one
  pub item_other : (list : List Declared) → (slot ≡ procedure → ⊥) → item_at (insert items slot list) procedure k ≡ item_at items procedure k
  item_other list apart =
      ap (option_and_then (λ all. slice_get all k))
      (get-insert nat_cmp_total items slot list procedure
      ∙ ap (λ b. cond b (Some list) (get items procedure)) (sym (nat_ties procedure slot) ∙ ne_eqb procedure slot (λ same. apart (sym same))))

  pub item_left : (slot ≡ procedure → ⊥) → item_at (remove items slot) procedure k ≡ item_at items procedure k
  item_left apart =
      ap (option_and_then (λ all. slice_get all k))
      (get-remove nat_cmp_total items slot procedure
      ∙ ap (λ b. cond b None (get items procedure)) (sym (nat_ties procedure slot) ∙ ne_eqb procedure slot (λ same. apart (sym same))))

-- the item at a number in a map is that in the list under the slot
pub item_listed : (table : ItemMap) (slot procedure k : ℕ) → slot ≡ procedure → item_at table procedure k ≡ slice_get (items_in table slot) k
item_listed table slot procedure k same = by (get table procedure) ∙ ap (λ (n : ℕ). slice_get (items_in table n) k) (sym same)
  where
    by : (o : Option (List Declared)) → option_and_then (λ all. slice_get all k) o ≡ slice_get (unwrap_or o []) k
    by None = refl
    by (Some list) = refl
