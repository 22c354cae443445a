-- Bills don't depend on the room of lists: neither which slots an edit touched, nor what stands inside a slot, nor how
-- long own code is.
use Rattle.std.proofs.Common.{◌≡◌, ℕ, ◌+◌, Bool, true, false, [], ◌∷◌, Option, Some, None, refl, ap, sym, ◌∙◌}
use Rattle.std.specs.Prelude.{◌&&◌, ◌||◌, ◌==◌, find, if◌then◌else◌, nat_lt, option_map}
use Rattle.std.specs.FinMap.{entries}
use Rattle.std.specs.Option.{option_map_or, option_or}
use Rattle.plcs_base.specs.Mark.{MarkMap}
use Rattle.plcs_base.specs.Scope.{ItemMap}
use Rattle.plcs_grammar.specs.Template.{row_of}
use Rattle.template_tree.specs.declared.change.What.{What}
use Rattle.template_tree.specs.Checks.Marks.{Marks, offences}
use Rattle.template_tree.specs.Edits.Edit.{changed_in, procedure_of}
use Rattle.template_tree.specs.Laws.CheckLaws.{ChecksIgnoreRoom}
use Rattle.template_tree.specs.Positions.Place.{PlainPlace, Site, begin, begins_run, end_at, in_turn, inner_end, passes_in, place_at, site, site_among}
use Rattle.template_tree.specs.Programs.PlainTree.{Forest, PlainNode, forest, nodes, roomless, roomless_node}
use Rattle.template_tree.specs.Programs.Program.{sort_of}
use Rattle.template_tree.specs.Programs.Slots.{times}
use Rattle.plcs_code.specs.Gen.{own_length}
use Rattle.plcs_code.specs.ProgramCode.{ProgramItemsTell, program_items}
use Rattle.code_patch.specs.Bill.{billed, is_declaration, encloses_touched, has_touched, is_brought, is_declaration_at, is_marked_otherwise, is_of_node, is_redeclared, is_touched, loses_mark, times_inside}
use Rattle.code_patch.specs.KeptCodeLaws.{BillsIgnoreRoom}
use Rattle.code_patch.proofs.BilledEdits.{billed_alike}
use Rattle.code_patch.proofs.EditedPrograms.{times_roomless}

-- ---- sites

begin_roomless : (program : Forest) (behind : PlainPlace) → begin (roomless program) behind ≡ begin program behind
begin_roomless Forest.nil behind = refl
begin_roomless (Forest.cons label inner rest) behind =
    λ i.
    if begins_run (sort_of label.kind)
    then (if passes_in label.kind then begin_roomless inner behind i else place_at label.slot 0)
    else begin_roomless rest behind i

abbrev roomless_site : Site → Site
roomless_site found =
    record { label = record found.label { spare = 0 }; inner = roomless found.inner; after = found.after }

-- what is found first is the same but for room
site_if : (here : Bool) (found : Site) (one other : Option Site)
    → (if here then Some (roomless_site found) else option_or (option_map roomless_site one) (option_map roomless_site other))
    ≡ option_map roomless_site (if here then Some found else option_or one other)
site_if true found one other = refl
site_if false found None other = refl
site_if false found (Some inside) other = refl

site_roomless : (slot : ℕ) (turn : Bool) (program : Forest) (behind : PlainPlace)
    → site_among slot turn (roomless program) behind ≡ option_map roomless_site (site_among slot turn program behind)
site_roomless slot turn Forest.nil behind = refl
site_roomless slot turn (Forest.cons label inner rest) behind =
    let turns = in_turn (row_of label.kind).sections in
    let after : PlainPlace = if turn then begin rest behind else behind in
    let same : (if turn then begin (roomless rest) behind else behind) ≡ after =
    ap (λ (p : PlainPlace). if turn then p else behind) (begin_roomless rest behind) in
    let inside : site_among slot turns (roomless inner) (end_at label.slot (inner_end label.kind) (if turn then begin (roomless rest) behind else behind))
    ≡ option_map roomless_site (site_among slot turns inner (end_at label.slot (inner_end label.kind) after)) =
    ap (λ (p : PlainPlace). site_among slot turns (roomless inner) (end_at label.slot (inner_end label.kind) p)) same
    ∙ site_roomless slot turns inner (end_at label.slot (inner_end label.kind) after) in
    let others = site_roomless slot turn rest behind in
    let its : PlainPlace → Site = (λ p. record { label = record label { spare = 0 }; inner = roomless inner; after = p }) in
    (λ i. if label.slot == slot then Some (its (same i)) else option_or (inside i) (others i))
    ∙ site_if (label.slot == slot) record { label = label; inner = inner; after = after }
    (site_among slot turns inner (end_at label.slot (inner_end label.kind) after)) (site_among slot turn rest behind)

site_of_roomless : (program : Forest) (slot : ℕ) → site (roomless program) slot ≡ option_map roomless_site (site program slot)
site_of_roomless program slot = site_roomless slot false program (place_at 0 1)

declaration_roomless : (program : Forest) (slot : ℕ) → is_declaration_at (roomless program) slot ≡ is_declaration_at program slot
declaration_roomless program slot =
    ap (λ (o : Option Site). option_map_or (λ found. is_declaration (sort_of found.label.kind)) o false) (site_of_roomless program slot)
    ∙ by (site program slot)
  where
    by : (o : Option Site)
        → option_map_or (λ found. is_declaration (sort_of found.label.kind)) (option_map roomless_site o) false
        ≡ option_map_or (λ found. is_declaration (sort_of found.label.kind)) o false
    by None = refl
    by (Some found) = refl

inside_roomless : (program : Forest) (outer slot : ℕ) → times_inside (roomless program) outer slot ≡ times_inside program outer slot
inside_roomless program outer slot =
    ap (λ (o : Option Site). option_map_or (λ found. times slot found.inner) o 0) (site_of_roomless program outer) ∙ by (site program outer)
  where
    by : (o : Option Site)
        → option_map_or (λ found. times slot found.inner) (option_map roomless_site o) 0 ≡ option_map_or (λ found. times slot found.inner) o 0
    by None = refl
    by (Some found) = times_roomless slot found.inner

-- ---- what is touched

-- the first item in which the slot stands is the same but for room
found_if : (here : Bool) (first : PlainNode) (one other : Option PlainNode)
    → option_map (λ (n : PlainNode). n.label.slot) one ≡ option_map (λ (n : PlainNode). n.label.slot) other
    → option_map (λ (n : PlainNode). n.label.slot) (if here then Some (roomless_node first) else one)
    ≡ option_map (λ (n : PlainNode). n.label.slot) (if here then Some first else other)
found_if true first one other same = refl
found_if false first one other same = same

procedure_roomless : (program : Forest) (slot : ℕ) → procedure_of (roomless program) slot ≡ procedure_of program slot
procedure_roomless Forest.nil slot = refl
procedure_roomless (Forest.cons label inner rest) slot =
    let first : PlainNode = record { label = label; inner = inner } in
    let has : PlainNode → Bool = (λ n. nat_lt 0 (times slot (forest (n ∷ [])))) in
    ap
    (λ (often : ℕ).
    option_map (λ (n : PlainNode). n.label.slot)
    (if nat_lt 0 often then Some (roomless_node first) else find has (nodes (roomless rest))))
    (times_roomless slot (Forest.cons label inner Forest.nil))
    ∙ found_if (nat_lt 0 (times slot (Forest.cons label inner Forest.nil))) first (find has (nodes (roomless rest))) (find has (nodes rest))
    (procedure_roomless rest slot)

changed_roomless : (what : What) (before after : Forest)
    → changed_in what (roomless before) (roomless after) ≡ roomless (changed_in what before after)
changed_roomless What.Node before after = refl
changed_roomless (What.Part part) before after = refl
changed_roomless What.Added before after = refl
changed_roomless What.Dropped before after = refl

marks_roomless : ChecksIgnoreRoom → (program : Forest) → Marks (roomless program) ≡ Marks program
marks_roomless room program = ap offences (room program).verdicts

touched_roomless : ChecksIgnoreRoom → (what : What) (at : ℕ) (before after : Forest) (slot : ℕ)
    → is_touched what at (roomless before) (roomless after) slot ≡ is_touched what at before after slot
touched_roomless room what at before after slot =
    let fore = marks_roomless room before in
    let aft = marks_roomless room after in
    let procedures : procedure_of (changed_in what (roomless before) (roomless after)) at ≡ procedure_of (changed_in what before after) at =
    ap (λ (f : Forest). procedure_of f at) (changed_roomless what before after) ∙ procedure_roomless (changed_in what before after) at in
    let brought : is_brought what at (roomless before) (roomless after) slot ≡ is_brought what at before after slot =
    (λ i.
    ((times_roomless slot before i == 0) && nat_lt 0 (times_roomless slot after i))
    || (is_of_node what && nat_lt 0 (inside_roomless after at slot i))) in
    let marked : is_marked_otherwise (roomless before) (roomless after) slot ≡ is_marked_otherwise before after slot =
    (λ i. loses_mark slot (entries (fore i)) (aft i) || loses_mark slot (entries (aft i)) (fore i)) in
    let redeclared : is_redeclared what at (roomless before) (roomless after) slot ≡ is_redeclared what at before after slot =
    (λ i.
    (declaration_roomless before at i || declaration_roomless after at i)
    && option_map_or (λ procedure. procedure == slot) (procedures i) false) in
    (λ i. (slot == at) || (brought i || (marked i || redeclared i)))

-- ---- what is billed

module _ (covers : ℕ → Bool) where
  has_roomless : (program : Forest) → has_touched covers (roomless program) ≡ has_touched covers program
  has_roomless Forest.nil = refl
  has_roomless (Forest.cons label inner rest) = λ i. covers label.slot || (has_roomless inner i || has_roomless rest i)

  encloses_roomless : (program : Forest) (slot : ℕ) → encloses_touched covers (roomless program) slot ≡ encloses_touched covers program slot
  encloses_roomless program slot =
      ap (λ (o : Option Site). option_map_or (λ found. has_touched covers found.inner) o false) (site_of_roomless program slot)
      ∙ by (site program slot)
    where
      by : (o : Option Site)
          → option_map_or (λ found. has_touched covers found.inner) (option_map roomless_site o) false
          ≡ option_map_or (λ found. has_touched covers found.inner) o false
      by None = refl
      by (Some found) = has_roomless found.inner

  billed_roomless : (before : Forest) (marks : MarkMap) (items : ItemMap) (after : Forest)
      → billed covers (roomless before) marks items (roomless after) ≡ billed covers before marks items after
  billed_roomless before marks items Forest.nil = refl
  billed_roomless before marks items (Forest.cons label inner rest) =
      let within = has_roomless inner in
      let outside = encloses_roomless before label.slot in
      let inside = billed_roomless before marks items inner in
      let behind = billed_roomless before marks items rest in
      (λ i.
      (if covers label.slot then own_length marks items label
      else (if within i || outside i then 2 else 0))
      + (inside i + behind i))

pub bills_ignore_room : ChecksIgnoreRoom → ProgramItemsTell → BillsIgnoreRoom
bills_ignore_room room its what at before after =
    let covers : ℕ → Bool = (λ slot. is_touched what at before after slot) in
    let items = program_items (roomless after) in
    (λ i.
    billed (λ slot. touched_roomless room what at before after slot i) (roomless before) (marks_roomless room after i) items (roomless after))
    ∙ billed_roomless covers before (Marks after) items after
    ∙ billed_alike covers before (Marks after) items (program_items after)
    (λ slot. its (roomless after) slot ∙ (room after).items slot ∙ sym (its after slot)) after
