-- A run that comes to a group, a comment or an Until goes to its first item, at which it begins.
use Rattle.std.specs.Prelude.{◌≡◌, refl, ℕ, ◌<◌, ◌≤◌, Bool, true, false, if◌then◌else◌, List, [], ◌∷◌, ◌++◌, length, slice_get, slice_index_or, Some, None}
use Rattle.std.proofs.Common.{ap, sym, ◌∙◌, subst, arith}
use Rattle.std.proofs.Math.Bool.{false≢true}
use Rattle.std.proofs.lemmas.Option.{none-some}
use Rattle.plcs_grammar.specs.declared.node_kind.NodeKind.{NodeKind}
use Rattle.plcs_grammar.specs.declared.node_kind.Sort.{Sort}
use Rattle.plcs_grammar.specs.declared.template.Template.{Template}
use Rattle.plcs_grammar.specs.Template.{PlainSection, list_of, row_of}
use Rattle.template_tree.specs.Positions.Place.{PlainPlace, begin, begins_run, passes_in, place_at, site_start}
use Rattle.template_tree.specs.Programs.PlainTree.{Forest, PlainNode, nodes}
use Rattle.template_tree.specs.Programs.Program.{Fill, IsSubtree, sorts}
use Rattle.suspend_state.specs.Private.NodeSite.{site_of}
use Rattle.suspend_state.proofs.FoundSites.{node_or}

-- a run begins at the first of the sorts
abbrev pub StartsRun : List Sort → Type 0
StartsRun [] = ⊥
StartsRun (sort ∷ others) = begins_run sort ≡ true

list_starts : (sort : Sort) (own others : List Sort) → begins_run sort ≡ true → 1 ≤ length own
    → ((k : ℕ) (d : Sort) → k < length own → slice_index_or own k d ≡ sort) → StartsRun (own ++ others)
list_starts sort [] others begins some all = absurd (omega (arith, some))
list_starts sort (first ∷ own) others begins some all = ap begins_run (all 0 sort (omega (arith, some))) ∙ begins

filled_starts : (sort : Sort) (sections : List PlainSection) (items : List Sort) → begins_run sort ≡ true → Fill (list_of sort ∷ sections) items
    → StartsRun items
filled_starts sort sections items begins (own, others, same, are, fill) =
    subst StartsRun (sym same) (list_starts sort own others begins are.0 are.1)

template_starts : (template : Template) (items : List Sort) → passes_in (NodeKind.Filled template) ≡ true
    → Fill (row_of (NodeKind.Filled template)).sections items → StartsRun items
template_starts Template.Until items e fill = filled_starts Sort.Statement [] items refl fill
template_starts Template.Group items e fill = filled_starts Sort.Statement [] items refl fill
template_starts Template.Comment items e fill = filled_starts Sort.Statement [] items refl fill
template_starts other items e fill = absurd (false≢true e)

kind_starts : (kind : NodeKind) (items : List Sort) → passes_in kind ≡ true → Fill (row_of kind).sections items → StartsRun items
kind_starts (NodeKind.Filled template) items e fill = template_starts template items e fill
kind_starts other items e fill = absurd (false≢true e)

-- what passes a run on to its first item has one there at which a run begins
pub starts_inside : (node : PlainNode) → IsSubtree node → passes_in node.label.kind ≡ true → StartsRun (sorts node.inner)
starts_inside node is pass = kind_starts node.label.kind (sorts node.inner) pass is.0.inner

none_first : (inner : Forest) → StartsRun (sorts inner) → slice_get (nodes inner) 0 ≡ None → ⊥
none_first Forest.nil starts none = starts
none_first (Forest.cons label inner rest) starts none = none-some (record { label = label; inner = inner }) (sym none)

-- there is a first item
pub has_first : (node : PlainNode) → IsSubtree node → passes_in node.label.kind ≡ true → slice_get (nodes node.inner) 0 ≡ None → ⊥
has_first node is pass none = none_first node.inner (starts_inside node is pass) none

first_begins : (inner : Forest) (first : PlainNode) (after : PlainPlace) → StartsRun (sorts inner)
    → slice_get (nodes inner) 0 ≡ Some first → begin inner after ≡ site_start (site_of first after)
first_begins Forest.nil first after starts e = absurd starts
first_begins (Forest.cons label inner rest) first after starts e =
    let item : PlainNode = record { label = label; inner = inner } in
    ap (λ (b : Bool). let p : PlainPlace = if b then site_start (site_of item after) else begin rest after in p) starts
    ∙ ap (λ (n : PlainNode). site_start (site_of n after)) (ap (node_or item) e)

-- a run that comes to the node begins where one does that comes to its first item
pub begins_inside : (node first : PlainNode) (after : PlainPlace) → IsSubtree node → passes_in node.label.kind ≡ true
    → slice_get (nodes node.inner) 0 ≡ Some first → site_start (site_of node after) ≡ site_start (site_of first after)
begins_inside node first after is pass e =
    ap (λ (b : Bool). let p : PlainPlace = if b then begin node.inner after else place_at node.label.slot 0 in p) pass
    ∙ first_begins node.inner first after (starts_inside node is pass) e

-- a run that comes to another node begins there
pub begins_there : (node : PlainNode) (after : PlainPlace) → passes_in node.label.kind ≡ false
    → site_start (site_of node after) ≡ place_at node.label.slot 0
begins_there node after pass =
    ap (λ (b : Bool). let p : PlainPlace = if b then begin node.inner after else place_at node.label.slot 0 in p) pass
