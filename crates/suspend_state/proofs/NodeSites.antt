-- A node that is found at the path of a slot tells where a run begins that comes to the slot, and what is held of it.
use Rattle.std.specs.Prelude.{◌≡◌, ℕ, false, List, Some, None, option_map}
use Rattle.std.proofs.Common.{ap, sym, ◌∙◌, subst}
use Rattle.std.proofs.lemmas.Option.{none-some, same_Some}
use Rattle.template_tree.specs.Positions.Path.{node_at, slot_at}
use Rattle.template_tree.specs.Positions.Place.{PlainPlace, Site, Start, place_at, site, site_start}
use Rattle.template_tree.specs.Programs.PlainTree.{Forest, PlainNode, PlainTree}
use Rattle.template_tree.specs.Programs.Slots.{times}
use Rattle.template_tree.specs.Programs.Tree.{IsTree}
use Rattle.plcs_store.specs.declared.held_template.HeldTemplate.{HeldTemplate}
use Rattle.plcs_store.specs.Resume.{template_held}
use Rattle.suspend_state.specs.Private.NodeSite.{site_of}
use Rattle.suspend_state.proofs.FoundSites.{IsSiteOf, found_site, no_site}

-- a path that leads to a slot leads to a node
pub path_leads : (items : Forest) (path : List ℕ) (slot : ℕ) → slot_at items path ≡ Some slot → node_at items path ≡ None → ⊥
path_leads items path slot at none =
    none-some slot (sym (ap (option_map (λ (node : PlainNode). node.label.slot)) none) ∙ at)

-- the site of the slot is of the node
node_site : (tree : PlainTree) (path : List ℕ) (slot : ℕ) (node : PlainNode) → IsTree tree → slot_at tree.items path ≡ Some slot
    → node_at tree.items path ≡ Some node → IsSiteOf node (site tree.items slot)
node_site tree path slot node is at found =
    let same : node.label.slot ≡ slot =
    same_Some node.label.slot slot (sym (ap (option_map (λ (node : PlainNode). node.label.slot)) found) ∙ at) in
    subst (λ (own : ℕ). IsSiteOf node (site tree.items own)) same
    (found_site tree.items path node false (place_at 0 1) found (is.once node.label.slot))

pub start_found : (tree : PlainTree) (path : List ℕ) (slot start : ℕ) (node : PlainNode) → IsTree tree → slot_at tree.items path ≡ Some slot
    → node_at tree.items path ≡ Some node → ((after : PlainPlace) → site_start (site_of node after) ≡ place_at start 0)
    → Some (place_at start 0) ≡ Start tree.items slot
start_found tree path slot start node is at found begins =
    let there = node_site tree path slot node is at found in
    sym (ap (option_map site_start) there.1 ∙ ap (λ (p : PlainPlace). Some p) (begins there.0))

pub start_none : (items : Forest) (slot : ℕ) → times slot items ≡ 0 → None ≡ Start items slot
start_none items slot none = sym (ap (option_map site_start) (no_site items slot false (place_at 0 1) none))

pub held_found : (tree : PlainTree) (path : List ℕ) (slot : ℕ) (node : PlainNode) → IsTree tree → slot_at tree.items path ≡ Some slot
    → node_at tree.items path ≡ Some node
    → template_held tree.items slot ≡ Some (record { kind = node.label.kind; parts = node.label.parts })
held_found tree path slot node is at found =
    let there = node_site tree path slot node is at found in
    ap (option_map (λ (one : Site). let held : HeldTemplate = record { kind = one.label.kind; parts = one.label.parts } in held)) there.1
