-- The site of a slot is of a node of the program, which has that slot.
use Rattle.std.specs.Prelude.{◌≡◌, refl, ℕ, ◌==◌, Bool, true, false, if◌then◌else◌, Option, Some, None}
use Rattle.std.specs.Option.{option_or}
use Rattle.std.proofs.Common.{subst}
use Rattle.std.proofs.lemmas.Bool.{eqb-true}
use Rattle.std.proofs.lemmas.Option.{none-some, same_Some}
use Rattle.plcs_grammar.specs.Template.{row_of}
use Rattle.template_tree.specs.Positions.Place.{PlainPlace, Site, begin, end_at, in_turn, inner_end, site_among}
use Rattle.template_tree.specs.Programs.PlainTree.{Forest}
use Rattle.template_tree.specs.Programs.Program.{AreNodes, IsNode, sorts}

-- a site is of a node in the slot
pub record IsOfNode (slot : ℕ) (found : Site) : Type 0 where
  pub slot_is : found.label.slot ≡ slot
  pub node : IsNode found.label (sorts found.inner)

site_level : (slot : ℕ) (same : Bool) (own : Site) (within behind : Option Site) (found : Site) → (own.label.slot == slot) ≡ same
    → IsNode own.label (sorts own.inner) → (within ≡ Some found → IsOfNode slot found) → (behind ≡ Some found → IsOfNode slot found)
    → (if same then Some own else option_or within behind) ≡ Some found → IsOfNode slot found
site_level slot true own within behind found is node inside later e =
    subst (IsOfNode slot) (same_Some own found e) record { slot_is = eqb-true own.label.slot slot is; node = node }
site_level slot false own None behind found is node inside later e = later e
site_level slot false own (Some one) behind found is node inside later e = inside e

pub site_is : (slot : ℕ) (turn : Bool) (nodes : Forest) (behind : PlainPlace) (found : Site) → AreNodes nodes
    → site_among slot turn nodes behind ≡ Some found → IsOfNode slot found
site_is slot turn Forest.nil behind found are e = absurd (none-some found e)
site_is slot turn (Forest.cons label inner rest) behind found are e =
    let after : PlainPlace = if turn then begin rest behind else behind in
    let place = end_at label.slot (inner_end label.kind) after in
    site_level slot (label.slot == slot) (let own : Site = record { label = label; inner = inner; after = after } in own)
    (site_among slot (in_turn (row_of label.kind).sections) inner place) (site_among slot turn rest behind) found refl are.0
    (λ inside. site_is slot (in_turn (row_of label.kind).sections) inner place found are.1 inside)
    (λ later. site_is slot turn rest behind found are.2 later) e
