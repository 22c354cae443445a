-- The site of a slot that stands but once is at the node there, wherever it stands.
use Rattle.std.proofs.Common.{◌≡◌, ℕ, zero, suc, ◌≤◌, Bool, true, false, List, [], ◌∷◌, Option, Some, None, refl, ap, ◌∙◌, arith, eq-eqb, ne_eqb}
use Rattle.std.specs.Prelude.{◌==◌, if◌then◌else◌}
use Rattle.std.specs.Option.{option_map_or, option_or}
use Rattle.plcs_grammar.specs.Template.{row_of}
use Rattle.template_tree.specs.Positions.Path.{node_at}
use Rattle.template_tree.specs.Positions.Place.{PlainPlace, Site, begin, end_at, in_turn, inner_end, place_at, site, site_among}
use Rattle.template_tree.specs.Programs.PlainTree.{Forest, Label, PlainNode}
use Rattle.template_tree.specs.Programs.Program.{sort_of}
use Rattle.template_tree.specs.Programs.Slots.{times}
use Rattle.code_patch.specs.Bill.{is_declaration, encloses_touched, has_touched, is_declaration_at, times_inside}
use Rattle.code_patch.proofs.SlotNodes.{once_here, slot_there}

-- where the slot doesn't stand there is no site
site_absent : (slot : ℕ) (turn : Bool) (nodes : Forest) (behind : PlainPlace) → times slot nodes ≡ 0 → site_among slot turn nodes behind ≡ None
site_absent slot turn Forest.nil behind absent = refl
site_absent slot turn (Forest.cons label inner rest) behind absent =
    let after : PlainPlace = if turn then begin rest behind else behind in
    let its_site : Site = record { label = label; inner = inner; after = after } in
    let inside = site_among slot (in_turn (row_of label.kind).sections) inner (end_at label.slot (inner_end label.kind) after) in
    let apart : (label.slot == slot) ≡ false =
    ne_eqb label.slot slot (λ same. omega (arith, once_here label.slot slot same, absent)) in
    let within : inside ≡ None =
    site_absent slot (in_turn (row_of label.kind).sections) inner (end_at label.slot (inner_end label.kind) after) (omega (arith, absent)) in
    ap
    (λ (b : Bool).
    if b then Some its_site
    else option_or inside (site_among slot turn rest behind))
    apart
    ∙ ap (λ (o : Option Site). option_or o (site_among slot turn rest behind)) within
    ∙ site_absent slot turn rest behind (omega (arith, absent))

-- where it stands once the site is at the node of its path
abbrev SiteOf : Option Site → PlainNode → Type 0
SiteOf found node = (at : Site) × (found ≡ Some at) × (at.label ≡ node.label) × (at.inner ≡ node.inner)

site_path : (turn : Bool) (nodes : Forest) (behind : PlainPlace) (k : ℕ) (path : List ℕ) (node : PlainNode) → node_at nodes (k ∷ path) ≡ Some node
    → times node.label.slot nodes ≤ 1 → SiteOf (site_among node.label.slot turn nodes behind) node
site_path turn Forest.nil behind zero path node there once = absurd (cc)
site_path turn Forest.nil behind (suc k) path node there once = absurd (cc)
site_path turn (Forest.cons label inner rest) behind zero [] node there once =
    let after : PlainPlace = if turn then begin rest behind else behind in
    let its_site : Site = record { label = label; inner = inner; after = after } in
    let same : record { label = label; inner = inner } ≡ node = cc in
    let here : (label.slot == node.label.slot) ≡ true =
    eq-eqb label.slot node.label.slot (ap (λ (m : PlainNode). m.label.slot) same) in (
      its_site,
      ap
          (λ (b : Bool).
          if b then Some its_site
          else
          option_or
          (site_among node.label.slot (in_turn (row_of label.kind).sections) inner (end_at label.slot (inner_end label.kind) after))
          (site_among node.label.slot turn rest behind))
          here,
      ap (λ (m : PlainNode). m.label) same,
      ap (λ (m : PlainNode). m.inner) same,
    )
site_path turn (Forest.cons label inner rest) behind zero (j ∷ path) node there once =
    let slot = node.label.slot in
    let after : PlainPlace = if turn then begin rest behind else behind in
    let its_site : Site = record { label = label; inner = inner; after = after } in
    let inside : node_at inner (j ∷ path) ≡ Some node = there in
    let live : 1 ≤ times slot inner = slot_there inner j path node inside in
    let apart : (label.slot == slot) ≡ false =
    ne_eqb label.slot slot (λ same. omega (arith, once_here label.slot slot same, live, once)) in
    let within = site_among slot (in_turn (row_of label.kind).sections) inner (end_at label.slot (inner_end label.kind) after) in
    let (at, found, its, in_it) =
    site_path (in_turn (row_of label.kind).sections) inner (end_at label.slot (inner_end label.kind) after) j path node inside
    (omega (arith, once)) in (
      at,
      ap
          (λ (b : Bool).
          if b then Some its_site
          else option_or within (site_among slot turn rest behind))
          apart
          ∙ ap (λ (o : Option Site). option_or o (site_among slot turn rest behind)) found,
      its,
      in_it,
    )
site_path turn (Forest.cons label inner rest) behind (suc k) path node there once =
    let slot = node.label.slot in
    let after : PlainPlace = if turn then begin rest behind else behind in
    let its_site : Site = record { label = label; inner = inner; after = after } in
    let later : node_at rest (k ∷ path) ≡ Some node = there in
    let live : 1 ≤ times slot rest = slot_there rest k path node later in
    let apart : (label.slot == slot) ≡ false =
    ne_eqb label.slot slot (λ same. omega (arith, once_here label.slot slot same, live, once)) in
    let within = site_among slot (in_turn (row_of label.kind).sections) inner (end_at label.slot (inner_end label.kind) after) in
    let absent : within ≡ None =
    site_absent slot (in_turn (row_of label.kind).sections) inner (end_at label.slot (inner_end label.kind) after)
    (omega (arith, live, once)) in
    let (at, found, its, in_it) = site_path turn rest behind k path node later (omega (arith, once)) in (
      at,
      ap
          (λ (b : Bool).
          if b then Some its_site
          else option_or within (site_among slot turn rest behind))
          apart
          ∙ ap (λ (o : Option Site). option_or o (site_among slot turn rest behind)) absent
          ∙ found,
      its,
      in_it,
    )

-- ---- what a program has there

module _ (program : Forest) (k : ℕ) (path : List ℕ) (node : PlainNode) (there : node_at program (k ∷ path) ≡ Some node)
    (once : times node.label.slot program ≤ 1) where
  found_site : SiteOf (site program node.label.slot) node
  found_site = site_path false program (place_at 0 1) k path node there once

  -- a declaration, where the node is one
  pub declaration_there : is_declaration_at program node.label.slot ≡ is_declaration (sort_of node.label.kind)
  declaration_there =
      let (at, found, its, in_it) = found_site in
      ap (λ (o : Option Site). option_map_or (λ (s : Site). is_declaration (sort_of s.label.kind)) o false) found
      ∙ ap (λ (l : Label). is_declaration (sort_of l.kind)) its

  -- what stands inside
  pub inside_there : (slot : ℕ) → times_inside program node.label.slot slot ≡ times slot node.inner
  inside_there slot =
      let (at, found, its, in_it) = found_site in
      ap (λ (o : Option Site). option_map_or (λ (s : Site). times slot s.inner) o 0) found ∙ ap (times slot) in_it

  pub encloses_there : (is_touched : ℕ → Bool) → encloses_touched is_touched program node.label.slot ≡ has_touched is_touched node.inner
  encloses_there is_touched =
      let (at, found, its, in_it) = found_site in
      ap (λ (o : Option Site). option_map_or (λ (s : Site). has_touched is_touched s.inner) o false) found
      ∙ ap (has_touched is_touched) in_it
