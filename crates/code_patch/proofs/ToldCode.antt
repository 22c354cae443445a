-- What is kept of the code of a program tells just that code: each of its lists is that of the code made afresh, by
-- one induction each. The lengths of own code don't depend on those of the codes inside, as plcs_code tells; room
-- plays no part.
use Rattle.std.proofs.Common.{ℕ, ◌+◌, ◌≡◌, Bool, true, false, List, [], ◌∷◌, ◌++◌, length, map, Option, Some, None, refl, ap, sym, ◌∙◌, arith}
use Rattle.std.specs.Prelude.{sum, flat_map, if◌then◌else◌}
use Rattle.std.specs.FinMap.{from_entries}
use Rattle.std.specs.Option.{option_to_list}
use Rattle.std.proofs.lemmas.List.{length-append}
use Rattle.plcs_base.specs.Mark.{MarkMap}
use Rattle.plcs_base.specs.Scope.{ItemMap}
use Rattle.plcs_base.specs.declared.declared.Declared.{Declared}
use Rattle.template_tree.specs.Checks.Environment.{Heading, heading_of, may_be_called}
use Rattle.template_tree.specs.Checks.ProgramMaps.{items_in}
use Rattle.template_tree.specs.Programs.PlainTree.{Forest, Label}
use Rattle.plcs_code.specs.declared.node_span.NodeSpan.{NodeSpan}
use Rattle.plcs_code.specs.CodeLaws.{LengthsAreTold, OwnLengthsStay}
use Rattle.plcs_code.specs.Gen.{Gen, addresses_in, code_with, codes_joined, heading_by_name, headings_by_name, length_around, node_address, node_codes, node_lengths, node_spans, own_instrs, span_by_slot}
use Rattle.plcs_code.specs.OwnCode.{PlainOwnCode, jumps_beside, name_to_call, own_code_by}
use Rattle.plcs_code.specs.Pieces.{jumps, own_pieces, pieces}
use Rattle.plcs_code.specs.ProgramCode.{ProgramItemsTell, program_items}
use Rattle.code_patch.specs.CodeEdit.{roomless_code}
use Rattle.code_patch.specs.KeptCodeLaws.{KeptCodeIsOfProgram, KeptCodeIsTold}
use Rattle.code_patch.specs.CodeForest.{CodeForest, count_around, heading_named, kept_code, kept_codes, kept_headings, kept_lengths, kept_spans, own_count, told_code}

-- own code has as many instructions as the list of them
own_count_is : (marks : MarkMap) (items : ItemMap) (label : Label) (lengths : List ℕ)
    → own_count (own_code_by marks items label) lengths ≡ length (own_instrs marks items label lengths)
own_count_is marks items label lengths =
    let own = pieces marks items label in
    let around = jumps marks items label lengths in
    let ahead = option_to_list around.ahead in
    let between = option_to_list around.between in
    let back = option_to_list around.back in
    omega
    (arith, length-append own.before (ahead ++ (between ++ (own.behind ++ back))), length-append ahead (between ++ (own.behind ++ back)), length-append between (own.behind ++ back), length-append own.behind back)

module _ (stay : OwnLengthsStay) (marks : MarkMap) (items : ItemMap) where
  -- the length of a node's code is told
  pub count_is : (label : Label) (lengths : List ℕ)
      → count_around (own_code_by marks items label) lengths ≡ length_around marks items label lengths
  count_is label lengths = ap (λ (n : ℕ). n + sum lengths) (own_count_is marks items label lengths ∙ stay marks items label lengths)

  -- and so are the lengths of the codes of nodes in order
  pub lengths_kept : (nodes : Forest) → kept_lengths (kept_code marks items nodes) ≡ node_lengths marks items nodes
  lengths_kept Forest.nil = refl
  lengths_kept (Forest.cons label inner rest) =
      λ i. (ap (λ (ns : List ℕ). count_around (own_code_by marks items label) ns) (lengths_kept inner) ∙ count_is label (node_lengths marks items inner)) i ∷ lengths_kept rest i

  -- the codes of nodes in order are told
  pub codes_kept : LengthsAreTold → (nodes : Forest) → kept_codes (kept_code marks items nodes) ≡ node_codes marks items nodes
  codes_kept told Forest.nil = refl
  codes_kept told (Forest.cons label inner rest) =
      let lengths : kept_lengths (kept_code marks items inner) ≡ map length (node_codes marks items inner) =
      lengths_kept inner ∙ sym (told marks items inner) in
      λ i. code_with (pieces marks items label) (jumps marks items label (lengths i)) (codes_kept told inner i) ∷ codes_kept told rest i

  -- where the codes of nodes stand is told
  pub spans_kept : (start gap : ℕ) (nodes : Forest) → kept_spans start gap (kept_code marks items nodes) ≡ node_spans marks items start gap nodes
  spans_kept start gap Forest.nil = refl
  spans_kept start gap (Forest.cons label inner rest) =
      let own = pieces marks items label in
      let lengths = lengths_kept inner in
      let whole : count_around (own_code_by marks items label) (kept_lengths (kept_code marks items inner)) ≡ length_around marks items label (node_lengths marks items inner) =
      ap (λ (ns : List ℕ). count_around (own_code_by marks items label) ns) lengths ∙ count_is label (node_lengths marks items inner) in
      let span : (n : ℕ) → NodeSpan = λ n. record { slot = record { 0 = label.slot }; kind = label.kind; start = start; length = n } in
      let inside : (ns : List ℕ) → List NodeSpan =
      λ ns. kept_spans (start + length own.before + length (option_to_list (jumps marks items label ns).ahead)) (length (option_to_list (jumps marks items label ns).between)) (kept_code marks items inner) in
      let within =
      ap inside lengths
      ∙ spans_kept (start + length own.before + length (option_to_list (jumps marks items label (node_lengths marks items inner)).ahead))
      (length (option_to_list (jumps marks items label (node_lengths marks items inner)).between)) inner in
      let behind =
      ap (λ (n : ℕ). kept_spans (start + n + gap) 0 (kept_code marks items rest)) whole
      ∙ spans_kept (start + length_around marks items label (node_lengths marks items inner) + gap) 0 rest in
      λ i. span (whole i) ∷ (within i ++ behind i)

-- a heading is told by the name by which calls find it
heading_kept : (slot address : ℕ) (heading : Option Heading) → heading_named slot address (name_to_call heading) ≡ heading_by_name slot address heading
heading_kept slot address None = refl
heading_kept slot address (Some heading) =
    elim (may_be_called heading.name) as
    (λ (b : Bool).
    heading_named slot address (if b then Some heading.name else None)
    ≡ (if b then (heading.name, record { address = address; slot = record { 0 = slot } }) ∷ [] else [])) [ true ↦ refl | false ↦ refl ]

module _ (stay : OwnLengthsStay) (marks : MarkMap) (items : ItemMap) where
  -- the headings of main and procedures are told
  pub headings_kept : (start : ℕ) (nodes : Forest) → kept_headings start (kept_code marks items nodes) ≡ headings_by_name marks items start nodes
  headings_kept start Forest.nil = refl
  headings_kept start (Forest.cons label inner rest) =
      let whole : count_around (own_code_by marks items label) (kept_lengths (kept_code marks items inner)) ≡ length_around marks items label (node_lengths marks items inner) =
      ap (λ (ns : List ℕ). count_around (own_code_by marks items label) ns) (lengths_kept stay marks items inner) ∙ count_is stay marks items label (node_lengths marks items inner) in
      let behind =
      ap (λ (n : ℕ). kept_headings (start + n) (kept_code marks items rest)) whole
      ∙ headings_kept (start + length_around marks items label (node_lengths marks items inner)) rest in
      λ i. heading_kept label.slot start (heading_of label.kind label.parts) i ++ behind i

-- the whole code is told
pub code_kept : OwnLengthsStay → LengthsAreTold → (marks : MarkMap) (items : ItemMap) (program : Forest)
    → told_code (kept_code marks items program) ≡ Gen marks items program
code_kept stay told marks items program =
    let codes = codes_kept stay marks items told program in
    let spans = spans_kept stay marks items 0 0 program in
    λ i. record {
      instrs = codes_joined (codes i);
      addresses = from_entries ((flat_map node_address (spans i)) ++ addresses_in 0 (codes_joined (codes i)));
      headings = from_entries (headings_kept stay marks items 0 program i);
      spans = from_entries (flat_map span_by_slot (spans i));
    }

-- ---- room

-- kept code without room has the same lengths
pub roomless_lengths : (nodes : CodeForest) → kept_lengths (roomless_code nodes) ≡ kept_lengths nodes
roomless_lengths CodeForest.nil = refl
roomless_lengths (CodeForest.cons own spare inner rest) =
    λ i. count_around own (roomless_lengths inner i) ∷ roomless_lengths rest i

roomless_codes : (nodes : CodeForest) → kept_codes (roomless_code nodes) ≡ kept_codes nodes
roomless_codes CodeForest.nil = refl
roomless_codes (CodeForest.cons own spare inner rest) =
    λ i. code_with own.pieces (jumps_beside own (roomless_lengths inner i)) (roomless_codes inner i) ∷ roomless_codes rest i

roomless_spans : (start gap : ℕ) (nodes : CodeForest) → kept_spans start gap (roomless_code nodes) ≡ kept_spans start gap nodes
roomless_spans start gap CodeForest.nil = refl
roomless_spans start gap (CodeForest.cons own spare inner rest) =
    let span : (n : ℕ) → NodeSpan = λ n. record { slot = record { 0 = own.slot }; kind = own.kind; start = start; length = n } in
    let inside : (ns : List ℕ) → List NodeSpan =
    λ ns. kept_spans (start + length own.pieces.before + length (option_to_list (jumps_beside own ns).ahead)) (length (option_to_list (jumps_beside own ns).between)) (roomless_code inner) in
    let within =
    ap inside (roomless_lengths inner)
    ∙ roomless_spans (start + length own.pieces.before + length (option_to_list (jumps_beside own (kept_lengths inner)).ahead))
    (length (option_to_list (jumps_beside own (kept_lengths inner)).between)) inner in
    let behind =
    ap (λ (ns : List ℕ). kept_spans (start + count_around own ns + gap) 0 (roomless_code rest)) (roomless_lengths inner)
    ∙ roomless_spans (start + count_around own (kept_lengths inner) + gap) 0 rest in
    λ i. span (count_around own (roomless_lengths inner i)) ∷ (within i ++ behind i)

roomless_headings : (start : ℕ) (nodes : CodeForest) → kept_headings start (roomless_code nodes) ≡ kept_headings start nodes
roomless_headings start CodeForest.nil = refl
roomless_headings start (CodeForest.cons own spare inner rest) =
    let behind =
    ap (λ (ns : List ℕ). kept_headings (start + count_around own ns) (roomless_code rest)) (roomless_lengths inner)
    ∙ roomless_headings (start + count_around own (kept_lengths inner)) rest in
    λ i. heading_named own.slot start own.name ++ behind i

-- kept code without room tells the same code
pub roomless_told : (nodes : CodeForest) → told_code (roomless_code nodes) ≡ told_code nodes
roomless_told nodes =
    let codes = roomless_codes nodes in
    let spans = roomless_spans 0 0 nodes in
    λ i. record {
      instrs = codes_joined (codes i);
      addresses = from_entries ((flat_map node_address (spans i)) ++ addresses_in 0 (codes_joined (codes i)));
      headings = from_entries (roomless_headings 0 nodes i);
      spans = from_entries (flat_map span_by_slot (spans i));
    }

-- ---- by maps that tell of a program

-- own code asks of the items only those of its slot
own_alike : (marks : MarkMap) (items others : ItemMap) (label : Label) → items_in items label.slot ≡ items_in others label.slot
    → own_code_by marks items label ≡ own_code_by marks others label
own_alike marks items others label same =
    let own : PlainOwnCode = own_code_by marks items label in
    ap (λ (declared : List Declared). let other : PlainOwnCode = record own { pieces = own_pieces marks declared label } in other) same

-- and so does what is kept of a program
pub kept_alike : (marks : MarkMap) (items others : ItemMap) (program : Forest) → ((slot : ℕ) → items_in items slot ≡ items_in others slot)
    → kept_code marks items program ≡ kept_code marks others program
kept_alike marks items others Forest.nil same = refl
kept_alike marks items others (Forest.cons label inner rest) same =
    let own = own_alike marks items others label (same label.slot) in
    let within = kept_alike marks items others inner same in
    let behind = kept_alike marks items others rest same in
    (λ i. CodeForest.cons (own i) 0 (within i) (behind i))

-- by maps that tell of it the same is kept as by its own
pub kept_of_program : ProgramItemsTell → KeptCodeIsOfProgram
kept_of_program its program marks items told tell =
    kept_alike marks items (program_items program) program (λ slot. tell slot ∙ sym (its program slot))
    ∙ ap (λ (m : MarkMap). kept_code m (program_items program) program) told

-- ---- whatever the room of its lists

-- kept code that is the same but for room tells the same
pub alike_told : (one other : CodeForest) → roomless_code one ≡ roomless_code other → told_code one ≡ told_code other
alike_told one other same = sym (roomless_told one) ∙ ap told_code same ∙ roomless_told other

-- what is kept of a program by these marks and items tells its code by them
pub kept_told : OwnLengthsStay → LengthsAreTold → KeptCodeIsTold
kept_told stay told code marks items program keeps =
    sym (roomless_told code) ∙ ap told_code keeps ∙ code_kept stay told marks items program
