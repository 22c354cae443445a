-- The site of a slot among nodes: it is that of the first node in the slot, so it is found in a node, inside it or
-- behind it. A slot has a site exactly where it stands once or more.
use Rattle.std.proofs.Common.{◌≡◌, ℕ, ◌≤◌, Bool, true, false, ◌⊎◌, inl, inr, Option, Some, None, refl, ap, sym, subst, ◌∙◌, arith}
use Rattle.std.specs.Prelude.{◌==◌, if◌then◌else◌}
use Rattle.std.specs.Option.{option_or}
use Rattle.std.proofs.Math.Bool.{false≢true}
use Rattle.std.proofs.lemmas.Bool.{eqb-true, eq-eqb}
use Rattle.std.proofs.lemmas.Option.{none-some}
use Rattle.plcs_grammar.specs.Template.{row_of}
use Rattle.template_tree.specs.Positions.Place.{PlainPlace, Site, begin, end_at, in_turn, inner_end, site_among}
use Rattle.template_tree.specs.Programs.PlainTree.{Forest, Label}
use Rattle.template_tree.specs.Programs.Program.{AreNodes, IsNode, sorts}
use Rattle.template_tree.specs.Programs.Slots.{times}

-- the site, or else another
abbrev pub site_or : Site → Option Site → Site
site_or found None = found
site_or found (Some there) = there

-- ---- a site that is found

-- it is that of the node itself, or stands inside it, or behind it
pub site_cases : {R : Type 0} (same : Bool) (own : Site) (within behind : Option Site) (found : Site)
    → (if same then Some own else option_or within behind) ≡ Some found
    → (same ≡ true → own ≡ found → R) → (same ≡ false → within ≡ Some found → R)
    → (same ≡ false → within ≡ None → behind ≡ Some found → R) → R
site_cases true own within behind found e here inside later = here refl (ap (site_or own) e)
site_cases false own (Some one) behind found e here inside later = inside refl e
site_cases false own None behind found e here inside later = later refl refl e

-- none is found
pub none_cases : (same : Bool) (own : Site) (within behind : Option Site) → (if same then Some own else option_or within behind) ≡ None
    → (same ≡ false) × (within ≡ None) × (behind ≡ None)
none_cases true own within behind e = absurd (none-some own (sym e))
none_cases false own (Some one) behind e = absurd (none-some one (sym e))
none_cases false own None behind e = (refl, refl, e)

-- where a run goes on behind a node, done in turn or alone
abbrev pub after_node : Bool → (rest : Forest) → PlainPlace → PlainPlace
after_node turn rest behind = if turn then begin rest behind else behind

-- the site of the slot inside a node
abbrev pub site_within : ℕ → Bool → Label → (inner rest : Forest) → PlainPlace → Option Site
site_within slot turn label inner rest behind =
    site_among slot (in_turn (row_of label.kind).sections) inner (end_at label.slot (inner_end label.kind) (after_node turn rest behind))

-- the site of a node
abbrev pub site_of : Bool → Label → (inner rest : Forest) → PlainPlace → Site
site_of turn label inner rest behind = record { label = label; inner = inner; after = after_node turn rest behind }

-- the site has the slot
pub site_slot : (slot : ℕ) (turn : Bool) (nodes : Forest) (behind : PlainPlace) (found : Site)
    → site_among slot turn nodes behind ≡ Some found → found.label.slot ≡ slot
site_slot slot turn Forest.nil behind found e = absurd (none-some found e)
site_slot slot turn (Forest.cons label inner rest) behind found e =
    site_cases (label.slot == slot) (site_of turn label inner rest behind) (site_within slot turn label inner rest behind)
    (site_among slot turn rest behind) found e
    (λ same own. ap (λ (there : Site). there.label.slot) (sym own) ∙ eqb-true label.slot slot same)
    (λ other within. site_slot slot (in_turn (row_of label.kind).sections) inner (end_at label.slot (inner_end label.kind) (after_node turn rest behind)) found within)
    (λ other none later. site_slot slot turn rest behind found later)

-- and is of one of the nodes of a program
pub site_node : (slot : ℕ) (turn : Bool) (nodes : Forest) (behind : PlainPlace) (found : Site) → AreNodes nodes
    → site_among slot turn nodes behind ≡ Some found → IsNode found.label (sorts found.inner)
site_node slot turn Forest.nil behind found are e = absurd (none-some found e)
site_node slot turn (Forest.cons label inner rest) behind found are e =
    site_cases (label.slot == slot) (site_of turn label inner rest behind) (site_within slot turn label inner rest behind)
    (site_among slot turn rest behind) found e
    (λ same own. subst (λ (there : Site). IsNode there.label (sorts there.inner)) own are.0)
    (λ other within. site_node slot (in_turn (row_of label.kind).sections) inner (end_at label.slot (inner_end label.kind) (after_node turn rest behind)) found are.1 within)
    (λ other none later. site_node slot turn rest behind found are.2 later)

-- with the nodes inside it
pub site_inner : (slot : ℕ) (turn : Bool) (nodes : Forest) (behind : PlainPlace) (found : Site) → AreNodes nodes
    → site_among slot turn nodes behind ≡ Some found → AreNodes found.inner
site_inner slot turn Forest.nil behind found are e = absurd (none-some found e)
site_inner slot turn (Forest.cons label inner rest) behind found are e =
    site_cases (label.slot == slot) (site_of turn label inner rest behind) (site_within slot turn label inner rest behind)
    (site_among slot turn rest behind) found e
    (λ same own. subst (λ (there : Site). AreNodes there.inner) own are.1)
    (λ other within. site_inner slot (in_turn (row_of label.kind).sections) inner (end_at label.slot (inner_end label.kind) (after_node turn rest behind)) found are.1 within)
    (λ other none later. site_inner slot turn rest behind found are.2 later)

-- ---- how often a slot stands

abbrev pub one_if : Bool → ℕ
one_if b = if b then 1 else 0

counted : (b : Bool) → b ≡ true → one_if b ≡ 1
counted b e = rw e refl

uncounted : (b : Bool) → b ≡ false → one_if b ≡ 0
uncounted b e = rw e refl

-- a node whose slot doesn't count has another one
pub other_slot : (b : Bool) → one_if b ≤ 0 → b ≡ false
other_slot true none = absurd (omega (arith, none))
other_slot false none = refl

-- a slot with a site stands somewhere
pub site_counted : (slot : ℕ) (turn : Bool) (nodes : Forest) (behind : PlainPlace) (found : Site)
    → site_among slot turn nodes behind ≡ Some found → 1 ≤ times slot nodes
site_counted slot turn Forest.nil behind found e = absurd (none-some found e)
site_counted slot turn (Forest.cons label inner rest) behind found e =
    site_cases (label.slot == slot) (site_of turn label inner rest behind) (site_within slot turn label inner rest behind)
    (site_among slot turn rest behind) found e
    (λ same own. let one : one_if (label.slot == slot) ≡ 1 = counted (label.slot == slot) same in omega (arith, one))
    (λ other within.
    let some : 1 ≤ times slot inner =
    site_counted slot (in_turn (row_of label.kind).sections) inner (end_at label.slot (inner_end label.kind) (after_node turn rest behind)) found within in
    omega (arith, some))
    (λ other none later. let some : 1 ≤ times slot rest = site_counted slot turn rest behind found later in omega (arith, some))

-- and one without a site nowhere
pub siteless_nowhere : (slot : ℕ) (turn : Bool) (nodes : Forest) (behind : PlainPlace)
    → site_among slot turn nodes behind ≡ None → times slot nodes ≤ 0
siteless_nowhere slot turn Forest.nil behind e = omega arith
siteless_nowhere slot turn (Forest.cons label inner rest) behind e =
    let none =
    none_cases (label.slot == slot) (site_of turn label inner rest behind) (site_within slot turn label inner rest behind)
    (site_among slot turn rest behind) e in
    let own : one_if (label.slot == slot) ≡ 0 = uncounted (label.slot == slot) none.0 in
    let within : times slot inner ≤ 0 =
    siteless_nowhere slot (in_turn (row_of label.kind).sections) inner (end_at label.slot (inner_end label.kind) (after_node turn rest behind)) none.1 in
    let later : times slot rest ≤ 0 = siteless_nowhere slot turn rest behind none.2 in
    omega (arith, own, within, later)

-- ---- nodes of which something holds

-- it holds of one of the nodes, or of one inside them
abbrev pub Somewhere : (P : Label → Type 0) → Forest → Type 0
Somewhere P Forest.nil = ⊥
Somewhere P (Forest.cons label inner rest) = P label ⊎ (Somewhere P inner ⊎ Somewhere P rest)

pub somewhere_map : (P Q : Label → Type 0) → ((label : Label) → P label → Q label) → (nodes : Forest) → Somewhere P nodes → Somewhere Q nodes
somewhere_map P Q gives Forest.nil holds = absurd holds
somewhere_map P Q gives (Forest.cons label inner rest) (inl holds) = inl (gives label holds)
somewhere_map P Q gives (Forest.cons label inner rest) (inr (inl holds)) = inr (inl (somewhere_map P Q gives inner holds))
somewhere_map P Q gives (Forest.cons label inner rest) (inr (inr holds)) = inr (inr (somewhere_map P Q gives rest holds))

-- of a node at a site
pub site_somewhere : (P : Label → Type 0) (slot : ℕ) (turn : Bool) (nodes : Forest) (behind : PlainPlace) (found : Site)
    → site_among slot turn nodes behind ≡ Some found → P found.label → Somewhere P nodes
site_somewhere P slot turn Forest.nil behind found e holds = absurd (none-some found e)
site_somewhere P slot turn (Forest.cons label inner rest) behind found e holds =
    site_cases (label.slot == slot) (site_of turn label inner rest behind) (site_within slot turn label inner rest behind)
    (site_among slot turn rest behind) found e
    (λ same own. inl (subst (λ (there : Site). P there.label) (sym own) holds))
    (λ other within.
    inr (inl (site_somewhere P slot (in_turn (row_of label.kind).sections) inner (end_at label.slot (inner_end label.kind) (after_node turn rest behind)) found within holds)))
    (λ other none later. inr (inr (site_somewhere P slot turn rest behind found later holds)))

-- of a node in the slot
abbrev pub InSlot : (P : Label → Type 0) (slot : ℕ) → Label → Type 0
InSlot P slot label = (label.slot ≡ slot) × P label

somewhere_counted : (P : Label → Type 0) (slot : ℕ) (nodes : Forest) → Somewhere (InSlot P slot) nodes → 1 ≤ times slot nodes
somewhere_counted P slot Forest.nil holds = absurd holds
somewhere_counted P slot (Forest.cons label inner rest) (inl holds) =
    let one : one_if (label.slot == slot) ≡ 1 = counted (label.slot == slot) (eq-eqb label.slot slot holds.0) in omega (arith, one)
somewhere_counted P slot (Forest.cons label inner rest) (inr (inl holds)) =
    let some : 1 ≤ times slot inner = somewhere_counted P slot inner holds in omega (arith, some)
somewhere_counted P slot (Forest.cons label inner rest) (inr (inr holds)) =
    let some : 1 ≤ times slot rest = somewhere_counted P slot rest holds in omega (arith, some)

-- the site that is found, of which it holds
abbrev pub SiteWith : (P : Label → Type 0) → Option Site → Type 0
SiteWith P site = (found : Site) × (site ≡ Some found) × P found.label

own_found : (P : Label → Type 0) (same : Bool) (own : Site) (within behind : Option Site) → same ≡ true → P own.label
    → SiteWith P (if same then Some own else option_or within behind)
own_found P true own within behind e holds = (own, refl, holds)
own_found P false own within behind e holds = absurd (false≢true e)

within_found : (P : Label → Type 0) (same : Bool) (own : Site) (within behind : Option Site) → same ≡ false → SiteWith P within
    → SiteWith P (if same then Some own else option_or within behind)
within_found P true own within behind e holds = absurd (false≢true (sym e))
within_found P false own None behind e holds = absurd (none-some holds.0 holds.1)
within_found P false own (Some one) behind e holds = holds

behind_found : (P : Label → Type 0) (same : Bool) (own : Site) (within behind : Option Site) → same ≡ false
    → ((found : Site) → within ≡ Some found → ⊥) → SiteWith P behind
    → SiteWith P (if same then Some own else option_or within behind)
behind_found P true own within behind e none holds = absurd (false≢true (sym e))
behind_found P false own None behind e none holds = holds
behind_found P false own (Some one) behind e none holds = absurd (none one refl)

-- what holds of a node in a slot that stands but once holds of the node at its site
pub somewhere_site : (P : Label → Type 0) (slot : ℕ) (turn : Bool) (nodes : Forest) (behind : PlainPlace) → times slot nodes ≤ 1
    → Somewhere (InSlot P slot) nodes → SiteWith P (site_among slot turn nodes behind)
somewhere_site P slot turn Forest.nil behind once holds = absurd holds
somewhere_site P slot turn (Forest.cons label inner rest) behind once (inl holds) =
    own_found P (label.slot == slot) (site_of turn label inner rest behind) (site_within slot turn label inner rest behind)
    (site_among slot turn rest behind) (eq-eqb label.slot slot holds.0) holds.1
somewhere_site P slot turn (Forest.cons label inner rest) behind once (inr (inl holds)) =
    let some : 1 ≤ times slot inner = somewhere_counted P slot inner holds in
    let none : one_if (label.slot == slot) ≤ 0 = omega (arith, once, some) in
    within_found P (label.slot == slot) (site_of turn label inner rest behind) (site_within slot turn label inner rest behind)
    (site_among slot turn rest behind) (other_slot (label.slot == slot) none)
    (somewhere_site P slot (in_turn (row_of label.kind).sections) inner (end_at label.slot (inner_end label.kind) (after_node turn rest behind))
    (omega (arith, once)) holds)
somewhere_site P slot turn (Forest.cons label inner rest) behind once (inr (inr holds)) =
    let some : 1 ≤ times slot rest = somewhere_counted P slot rest holds in
    let none : one_if (label.slot == slot) ≤ 0 = omega (arith, once, some) in
    behind_found P (label.slot == slot) (site_of turn label inner rest behind) (site_within slot turn label inner rest behind)
    (site_among slot turn rest behind) (other_slot (label.slot == slot) none)
    (λ found within.
    let twice : 1 ≤ times slot inner =
    site_counted slot (in_turn (row_of label.kind).sections) inner (end_at label.slot (inner_end label.kind) (after_node turn rest behind)) found within in
    omega (arith, once, some, twice))
    (somewhere_site P slot turn rest behind (omega (arith, once)) holds)
