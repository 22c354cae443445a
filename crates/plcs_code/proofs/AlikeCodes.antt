-- Code looks at the content of nodes alone, and of the map of items at those of the nodes' slots: so programs of the
-- same content have the same code by maps that have the same for each slot.
use Rattle.std.proofs.Common.{◌≡◌, ℕ, ◌+◌, List, ◌∷◌, ◌++◌, length, map, refl, ap, sym, ◌∙◌}
use Rattle.std.specs.Prelude.{flat_map, sum}
use Rattle.std.specs.FinMap.{from_entries}
use Rattle.std.specs.Option.{option_to_list}
use Rattle.plcs_base.specs.Mark.{MarkMap}
use Rattle.plcs_base.specs.Scope.{ItemMap}
use Rattle.plcs_base.specs.declared.declared.Declared.{Declared}
use Rattle.template_tree.specs.Checks.Environment.{heading_of}
use Rattle.template_tree.specs.Checks.ProgramMaps.{items_in}
use Rattle.template_tree.specs.Programs.PlainTree.{Forest, Label}
use Rattle.plcs_code.specs.declared.heading_entry.HeadingEntry.{HeadingEntry}
use Rattle.plcs_code.specs.declared.node_span.NodeSpan.{NodeSpan}
use Rattle.plcs_code.specs.Gen.{Gen, PlainCode, addresses_in, code_with, codes_joined, heading_by_name, headings_by_name, node_address, node_codes, node_lengths, node_spans, span_by_slot}
use Rattle.plcs_code.specs.Pieces.{count_pieces, first_length, other_lengths, own_jumps, own_pieces}
use Rattle.plcs_code.specs.PlainInstr.{PlainInstr}
use Rattle.plcs_code.specs.ProgramCode.{CodeAsksItems, CodeIgnoresElision, CodeIgnoresRoom}
use Rattle.plcs_code.proofs.Contents.{content, content_roomless, content_turned}

-- ---- of a node, by the items of its slot

-- the code of a node with these items, around these codes
abbrev code_by : MarkMap → List Declared → Label → List (List PlainInstr) → List PlainInstr
code_by marks items label codes =
    code_with (own_pieces marks items label)
    (own_jumps marks label (count_pieces (own_pieces marks items label)) (first_length (map length codes)) (other_lengths (map length codes))) codes

-- the length of the code of a node with these items, around codes of these lengths
abbrev length_by : MarkMap → List Declared → Label → (lengths : List ℕ) → ℕ
length_by marks items label lengths =
    let own = own_pieces marks items label in
    let around = own_jumps marks label (count_pieces own) 0 0 in
    length
    (own.before
    ++ (option_to_list around.ahead ++ (option_to_list around.between ++ (own.behind ++ option_to_list around.back))))
    + sum lengths

-- the spans of a node with these items, around codes of these lengths, and of those inside it and behind it
abbrev spans_by : MarkMap → List Declared → Label → (start gap : ℕ) → (lengths : List ℕ) → (inner rest : ℕ → ℕ → List NodeSpan) → List NodeSpan
spans_by marks items label start gap lengths inner rest =
    let own = own_pieces marks items label in
    let around = own_jumps marks label (count_pieces own) (first_length lengths) (other_lengths lengths) in
    let whole = length_by marks items label lengths in
    record { slot = record { 0 = label.slot }; kind = label.kind; start = start; length = whole }
    ∷ (inner (start + length own.before + length (option_to_list around.ahead)) (length (option_to_list around.between))
    ++ rest (start + whole + gap) 0)

-- the code of a program, of these codes, spans and headings
abbrev whole_code : List (List PlainInstr) → List NodeSpan → List (List ℕ × HeadingEntry) → PlainCode
whole_code codes nodes headings =
    let instrs = codes_joined codes in
    record {
      instrs = instrs;
      addresses = from_entries (flat_map node_address nodes ++ addresses_in 0 instrs);
      headings = from_entries headings;
      spans = from_entries (flat_map span_by_slot nodes);
    }

-- ---- of all nodes

module _ (marks : MarkMap) (items others : ItemMap) (same : (slot : ℕ) → items_in items slot ≡ items_in others slot) where
  codes_alike : (nodes : Forest) → node_codes marks items (content nodes) ≡ node_codes marks others nodes
  codes_alike Forest.nil = refl
  codes_alike (Forest.cons label inner rest) = λ i. code_by marks (same label.slot i) label (codes_alike inner i) ∷ codes_alike rest i

  lengths_alike : (nodes : Forest) → node_lengths marks items (content nodes) ≡ node_lengths marks others nodes
  lengths_alike Forest.nil = refl
  lengths_alike (Forest.cons label inner rest) =
      λ i. length_by marks (same label.slot i) label (lengths_alike inner i) ∷ lengths_alike rest i

  spans_alike : (start gap : ℕ) (nodes : Forest) → node_spans marks items start gap (content nodes) ≡ node_spans marks others start gap nodes
  spans_alike start gap Forest.nil = refl
  spans_alike start gap (Forest.cons label inner rest) =
      λ i. spans_by marks (same label.slot i) label start gap (lengths_alike inner i) (λ s g. spans_alike s g inner i) (λ s g. spans_alike s g rest i)

  headings_alike : (start : ℕ) (nodes : Forest) → headings_by_name marks items start (content nodes) ≡ headings_by_name marks others start nodes
  headings_alike start Forest.nil = refl
  headings_alike start (Forest.cons label inner rest) =
      λ i. heading_by_name label.slot start (heading_of label.kind label.parts)
      ++ headings_alike (start + length_by marks (same label.slot i) label (lengths_alike inner i)) rest i

  pub codes_of_content : (program : Forest) → Gen marks items (content program) ≡ Gen marks others program
  codes_of_content program = λ i. whole_code (codes_alike program i) (spans_alike 0 0 program i) (headings_alike 0 program i)

-- ---- the laws

pub code_asks_items : CodeAsksItems
code_asks_items marks items others program same =
    sym (codes_of_content marks items items (λ slot. refl) program) ∙ codes_of_content marks items others same program

pub code_of_content : (marks : MarkMap) (items : ItemMap) (one other : Forest) → content one ≡ content other → Gen marks items one ≡ Gen marks items other
code_of_content marks items one other e =
    sym (codes_of_content marks items items (λ slot. refl) one)
    ∙ ap (λ (program : Forest). Gen marks items program) e
    ∙ codes_of_content marks items items (λ slot. refl) other

pub code_ignores_room : CodeIgnoresRoom
code_ignores_room marks items program = code_of_content marks items _ program (content_roomless program)

pub code_ignores_elision : CodeIgnoresElision
code_ignores_elision marks items program path = code_of_content marks items _ program (content_turned path program)
