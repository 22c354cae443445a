-- The site of a slot that stands but once is of the node that is found at its path.
use Rattle.std.specs.Prelude.{◌≡◌, refl, ℕ, zero, suc, ◌+◌, ◌≤◌, ◌==◌, Bool, true, false, if◌then◌else◌, List, [], ◌∷◌, Option, Some, None}
use Rattle.std.specs.Option.{option_or}
use Rattle.std.proofs.Common.{ap, sym, ◌∙◌, subst, arith}
use Rattle.std.proofs.Math.Bool.{false≢true}
use Rattle.std.proofs.lemmas.Bool.{eq-eqb}
use Rattle.std.proofs.lemmas.Option.{none-some}
use Rattle.plcs_grammar.specs.Template.{row_of}
use Rattle.template_tree.specs.Positions.Path.{node_at}
use Rattle.template_tree.specs.Positions.Place.{PlainPlace, Site, begin, end_at, in_turn, inner_end, site_among}
use Rattle.template_tree.specs.Programs.PlainTree.{Forest, PlainNode}
use Rattle.template_tree.specs.Programs.Slots.{times}
use Rattle.suspend_state.specs.Private.NodeSite.{site_of}

-- the node that is there, or else another
abbrev pub node_or : PlainNode → Option PlainNode → PlainNode
node_or other None = other
node_or other (Some node) = node

-- ---- a slot that isn't live has no site

level_none : (same : Bool) (own : Site) (within behind : Option Site) (more : ℕ) → (if same then 1 else 0) + more ≡ 0
    → within ≡ None → behind ≡ None → (if same then Some own else option_or within behind) ≡ None
level_none true own within behind more none a b = absurd (omega (arith, none))
level_none false own within behind more none a b = ap (λ (w : Option Site). option_or w behind) a ∙ b

pub no_site : (items : Forest) (slot : ℕ) (turn : Bool) (behind : PlainPlace) → times slot items ≡ 0 → site_among slot turn items behind ≡ None
no_site Forest.nil slot turn behind none = refl
no_site (Forest.cons label inner rest) slot turn behind none =
    let after : PlainPlace = if turn then begin rest behind else behind in
    let inner_turn : Bool = in_turn (row_of label.kind).sections in
    let inner_end_place : PlainPlace = end_at label.slot (inner_end label.kind) after in
    level_none (label.slot == slot) (record { label = label; inner = inner; after = after })
    (site_among slot inner_turn inner inner_end_place) (site_among slot turn rest behind) (times slot inner + times slot rest) none
    (no_site inner slot inner_turn inner_end_place (omega (arith, none)))
    (no_site rest slot turn behind (omega (arith, none)))

-- ---- a node that is found is counted

abbrev one_if : ℕ → ℕ → ℕ
one_if own slot = if own == slot then 1 else 0

counted : (own slot : ℕ) → own ≡ slot → one_if own slot ≡ 1
counted own slot same = ap (λ (b : Bool). let n : ℕ = if b then 1 else 0 in n) (eq-eqb own slot same)

pub found_counted : (items : Forest) (path : List ℕ) (node : PlainNode) → node_at items path ≡ Some node → 1 ≤ times node.label.slot items
found_counted Forest.nil [] node e = absurd (none-some node e)
found_counted Forest.nil (k ∷ path) node e = absurd (none-some node e)
found_counted (Forest.cons label inner rest) [] node e = absurd (none-some node e)
found_counted (Forest.cons label inner rest) (zero ∷ []) node e =
    let item : PlainNode = record { label = label; inner = inner } in
    let here = counted label.slot node.label.slot (ap (λ (o : Option PlainNode). (node_or item o).label.slot) e) in
    omega (arith, here)
found_counted (Forest.cons label inner rest) (zero ∷ (j ∷ path)) node e =
    let within = found_counted inner (j ∷ path) node e in omega (arith, within)
found_counted (Forest.cons label inner rest) (suc k ∷ path) node e =
    let behind = found_counted rest (k ∷ path) node e in omega (arith, behind)

-- ---- its site

-- what is found is the site of the node, wherever a run goes on behind that
abbrev pub IsSiteOf : PlainNode → Option Site → Type 0
IsSiteOf node found = (after : PlainPlace) × (found ≡ Some (site_of node after))

elsewhere : (same : Bool) (more : ℕ) → 1 ≤ more → (if same then 1 else 0) + more ≤ 1 → same ≡ false
elsewhere true more some once = absurd (omega (arith, some, once))
elsewhere false more some once = refl

level_found : (same : Bool) (node : PlainNode) (own : Site) (others : Option Site) → same ≡ false → IsSiteOf node others
    → IsSiteOf node (if same then Some own else others)
level_found true node own others e found = absurd (false≢true (sym e))
level_found false node own others e found = found

pub found_site : (items : Forest) (path : List ℕ) (node : PlainNode) (turn : Bool) (behind : PlainPlace) → node_at items path ≡ Some node
    → times node.label.slot items ≤ 1 → IsSiteOf node (site_among node.label.slot turn items behind)
found_site Forest.nil [] node turn behind e once = absurd (none-some node e)
found_site Forest.nil (k ∷ path) node turn behind e once = absurd (none-some node e)
found_site (Forest.cons label inner rest) [] node turn behind e once = absurd (none-some node e)
found_site (Forest.cons label inner rest) (zero ∷ []) node turn behind e once =
    let item : PlainNode = record { label = label; inner = inner } in
    let after : PlainPlace = if turn then begin rest behind else behind in
    let inner_turn : Bool = in_turn (row_of label.kind).sections in
    let others : Option Site =
    option_or (site_among label.slot inner_turn inner (end_at label.slot (inner_end label.kind) after)) (site_among label.slot turn rest behind) in
    subst (λ (n : PlainNode). IsSiteOf n (site_among n.label.slot turn (Forest.cons label inner rest) behind)) (ap (node_or item) e)
    (after, ap (λ (b : Bool). let o : Option Site = if b then Some (site_of item after) else others in o) (eq-eqb label.slot label.slot refl))
found_site (Forest.cons label inner rest) (zero ∷ (j ∷ path)) node turn behind e once =
    let slot : ℕ = node.label.slot in
    let after : PlainPlace = if turn then begin rest behind else behind in
    let inner_turn : Bool = in_turn (row_of label.kind).sections in
    let inner_end_place : PlainPlace = end_at label.slot (inner_end label.kind) after in
    let within = found_counted inner (j ∷ path) node e in
    let found = found_site inner (j ∷ path) node inner_turn inner_end_place e (omega (arith, once)) in
    level_found (label.slot == slot) node (record { label = label; inner = inner; after = after })
    (option_or (site_among slot inner_turn inner inner_end_place) (site_among slot turn rest behind))
    (elsewhere (label.slot == slot) (times slot inner + times slot rest) (omega (arith, within)) once)
    (found.0, ap (λ (w : Option Site). option_or w (site_among slot turn rest behind)) found.1)
found_site (Forest.cons label inner rest) (suc k ∷ path) node turn behind e once =
    let slot : ℕ = node.label.slot in
    let after : PlainPlace = if turn then begin rest behind else behind in
    let inner_turn : Bool = in_turn (row_of label.kind).sections in
    let inner_end_place : PlainPlace = end_at label.slot (inner_end label.kind) after in
    let later = found_counted rest (k ∷ path) node e in
    let found = found_site rest (k ∷ path) node turn behind e (omega (arith, once)) in
    level_found (label.slot == slot) node (record { label = label; inner = inner; after = after })
    (option_or (site_among slot inner_turn inner inner_end_place) (site_among slot turn rest behind))
    (elsewhere (label.slot == slot) (times slot inner + times slot rest) (omega (arith, later)) once) (
      found.0,
      ap (λ (w : Option Site). option_or w (site_among slot turn rest behind)) (no_site inner slot inner_turn inner_end_place (omega (arith, later, once)))
          ∙ found.1,
    )
