-- The lines of a program's listing hold no line end.
use Rattle.std.specs.Prelude.{◌≡◌, refl, ℕ, zero, suc, ◌+◌, ◌-◌, ◌*◌, Bool, true, false, ◌&&◌, if◌then◌else◌, ◌==◌, IsTrue, List, [], ◌∷◌, ◌++◌, map, replicate, Option, Some, None}
use Rattle.std.specs.List.{list_all}
use Rattle.std.proofs.Common.{ap, sym, ◌∙◌, arith, append_assoc}
use Rattle.std.proofs.lemmas.Bool.{and_parts, and_from, leb-true, ne_eqb}
use Rattle.std.proofs.lemmas.List.{append-nil}
use Rattle.std.proofs.lemmas.List.Folds.{list_all-append}
use Rattle.plcs_base.specs.Byte.{is_printable}
use Rattle.plcs_grammar.specs.declared.category.Category.{Category}
use Rattle.plcs_grammar.specs.declared.node_kind.NodeKind.{NodeKind}
use Rattle.plcs_grammar.specs.declared.node_kind.Sort.{Sort}
use Rattle.plcs_grammar.specs.declared.row.Amount.{Amount}
use Rattle.plcs_grammar.specs.declared.template.Template.{Template}
use Rattle.plcs_grammar.specs.PlainPhrase.{PlainPhrase}
use Rattle.plcs_grammar.specs.Canon.{Canon}
use Rattle.plcs_grammar.specs.ShownText.{CanonicalTextsShow}
use Rattle.plcs_grammar.specs.Placeholder.{placeholder}
use Rattle.plcs_grammar.specs.Template.{PlainSegment, PlainSection, PlainRow, row_of, program_sections}
use Rattle.template_tree.specs.Programs.PlainTree.{Forest}
use Rattle.template_tree.specs.Programs.Program.{parts_of, sort_of, AreParts, AreNodes}
use Rattle.template_tree.specs.Listings.Section.{same_sort, left_for, left_in, left_after, next_lead}
use Rattle.template_tree.specs.Listings.Line.{Line, line_bytes, segments_text, fixed_line, head_line, lines, listing_lines}
use Rattle.template_tree.specs.Listings.Listing.{bytes_of_lines, split_at_ends, ListingSplitsInLines}

-- each byte can be shown
abbrev printable : List ℕ → Bool
printable = list_all is_printable

abbrev printable_option : Option (List ℕ) → Bool
printable_option None = true
printable_option (Some text) = printable text

abbrev printable_segment : PlainSegment → Bool
printable_segment (PlainSegment.words bytes) = printable bytes
printable_segment (PlainSegment.part category) = true

abbrev printable_sections : List PlainSection → Bool
printable_sections = list_all (λ section. printable_option section.lead)

abbrev printable_row : PlainRow → Bool
printable_row row = list_all printable_segment row.line && (printable_sections row.sections && printable_option row.last)

abbrev printable_lines : List Line → Bool
printable_lines = list_all (λ line. printable line.text)

-- the table of templates
row_printable : (kind : NodeKind) → IsTrue (printable_row (row_of kind))
row_printable NodeKind.Main = refl
row_printable NodeKind.Assign = refl
row_printable NodeKind.DeclarationHole = refl
row_printable NodeKind.StatementHole = refl
row_printable NodeKind.ProcedureHole = refl
row_printable (NodeKind.Filled Template.Fixed) = refl
row_printable (NodeKind.Filled template) = refl

placeholder_printable : (category : Category) → IsTrue (printable (placeholder category))
placeholder_printable Category.Assignment = refl
placeholder_printable category = refl

printable_append : (a b : List ℕ) → IsTrue (printable a) → IsTrue (printable b) → IsTrue (printable (a ++ b))
printable_append a b h k = list_all-append is_printable a b ∙ and_from (printable a) (printable b) h k

blanks_printable : (n : ℕ) → IsTrue (printable (replicate n 32))
blanks_printable zero = refl
blanks_printable (suc n) = blanks_printable n

-- the first line of a node, whose parts hold well-formed phrases
segments_printable : CanonicalTextsShow → (segments : List PlainSegment) (parts : List (Option PlainPhrase))
    → IsTrue (list_all printable_segment segments) → AreParts (parts_of segments) parts → IsTrue (printable (segments_text segments parts))
segments_printable shown [] parts words sound = refl
segments_printable shown (PlainSegment.words bytes ∷ segments) parts words sound =
    let both = and_parts (printable bytes) (list_all printable_segment segments) words in
    printable_append bytes (segments_text segments parts) both.0 (segments_printable shown segments parts both.1 sound)
segments_printable shown (PlainSegment.part category ∷ segments) [] words sound = absurd sound
segments_printable shown (PlainSegment.part category ∷ segments) (None ∷ parts) words sound =
    printable_append (placeholder category) (segments_text segments parts) (placeholder_printable category)
    (segments_printable shown segments parts words sound.1)
segments_printable shown (PlainSegment.part category ∷ segments) (Some phrase ∷ parts) words sound =
    printable_append (Canon phrase) (segments_text segments parts) (shown category phrase sound.0.well_formed).printable
    (segments_printable shown segments parts words sound.1)

-- the sections that are left
left_for_printable : (sort : Sort) (left : List PlainSection) → IsTrue (printable_sections left) → IsTrue (printable_sections (left_for sort left))
left_for_printable sort [] h = refl
left_for_printable sort (section ∷ sections) h =
    left_or (same_sort section.sort sort) (section ∷ sections) (left_for sort sections) h
    (left_for_printable sort sections (and_parts (printable_option section.lead) (printable_sections sections) h).1)
  where
    left_or : (b : Bool) (one other : List PlainSection) → IsTrue (printable_sections one) → IsTrue (printable_sections other)
        → IsTrue (printable_sections (if b then one else other))
    left_or true one other h k = h
    left_or false one other h k = k

left_in_printable : (amount : Amount) (section : PlainSection) (sections : List PlainSection)
    → IsTrue (printable_sections sections) → IsTrue (printable_sections (left_in amount section sections))
left_in_printable Amount.One section sections h = h
left_in_printable Amount.Many section sections h = h

left_after_printable : (left : List PlainSection) → IsTrue (printable_sections left) → IsTrue (printable_sections (left_after left))
left_after_printable [] h = refl
left_after_printable (section ∷ sections) h =
    left_in_printable section.amount section sections (and_parts (printable_option section.lead) (printable_sections sections) h).1

next_lead_printable : (left : List PlainSection) → IsTrue (printable_sections left) → IsTrue (printable_option (next_lead left))
next_lead_printable [] h = refl
next_lead_printable (section ∷ sections) h = (and_parts (printable_option section.lead) (printable_sections sections) h).0

fixed_printable : (level : ℕ) (text : Option (List ℕ)) → IsTrue (printable_option text) → IsTrue (printable_lines (fixed_line level text))
fixed_printable level None h = refl
fixed_printable level (Some text) h = and_from (printable text) true h refl

more_printable : (a b : List Line) → IsTrue (printable_lines a) → IsTrue (printable_lines b) → IsTrue (printable_lines (a ++ b))
more_printable a b h k =
    list_all-append (λ line. printable line.text) a b ∙ and_from (printable_lines a) (printable_lines b) h k

-- all lines
lines_printable : CanonicalTextsShow → (level : ℕ) (left : List PlainSection) (items : Forest)
    → IsTrue (printable_sections left) → AreNodes items → IsTrue (printable_lines (lines false level left items))
lines_printable shown level left Forest.nil h sound = refl
lines_printable shown level left (Forest.cons label inner rest) h sound =
    let row = row_of label.kind in
    let here = left_for (sort_of label.kind) left in
    let table = and_parts (list_all printable_segment row.line) (printable_sections row.sections && printable_option row.last) (row_printable label.kind) in
    let ends = and_parts (printable_sections row.sections) (printable_option row.last) table.1 in
    let reached = left_for_printable (sort_of label.kind) left h in
    let own = lines false (level + 1) row.sections inner in
    let last = fixed_line level row.last in
    let more = lines false level (left_after here) rest in
    more_printable (fixed_line (level - 1) (next_lead here)) (head_line level label ∷ (own ++ (last ++ more)))
    (fixed_printable (level - 1) (next_lead here) (next_lead_printable here reached))
    (and_from (printable (segments_text row.line label.parts)) (printable_lines (own ++ (last ++ more)))
    (segments_printable shown row.line label.parts table.0 sound.0.parts)
    (more_printable own (last ++ more) (lines_printable shown (level + 1) row.sections inner ends.0 sound.1)
    (more_printable last more (fixed_printable level row.last ends.1)
    (lines_printable shown level (left_after here) rest (left_after_printable here reached) sound.2))))

-- a byte that is shown is no line end
no_end : (byte : ℕ) → IsTrue (is_printable byte) → (byte == 10) ≡ false
no_end byte h = ne_eqb byte 10 (λ e. omega (arith, e, leb-true 32 byte (and_parts _ _ h).0))

-- a text is split at the line end behind it
split_line : (front x rest : List ℕ) → IsTrue (printable x) → split_at_ends front (x ++ (10 ∷ rest)) ≡ (front ++ x) ∷ split_at_ends [] rest
split_line front [] rest h = ap (λ z. z ∷ split_at_ends [] rest) (sym (append-nil front))
split_line front (byte ∷ x) rest h =
    let both = and_parts (is_printable byte) (printable x) h in
    rw (no_end byte both.0)
    (split_line (front ++ (byte ∷ [])) x rest both.1 ∙ ap (λ z. z ∷ split_at_ends [] rest) (append_assoc front (byte ∷ []) x))

split_lines : (all : List Line) → IsTrue (printable_lines all) → split_at_ends [] (bytes_of_lines all) ≡ map line_bytes all ++ ([] ∷ [])
split_lines [] h = refl
split_lines (line ∷ all) h =
    let both = and_parts (printable line.text) (printable_lines all) h in
    split_line [] (line_bytes line) (bytes_of_lines all)
    (printable_append (replicate (2 * line.level) 32) line.text (blanks_printable (2 * line.level)) both.0)
    ∙ ap (λ z. line_bytes line ∷ z) (split_lines all both.1)

pub listing_splits : CanonicalTextsShow → ListingSplitsInLines
listing_splits shown items program = split_lines (listing_lines items) (lines_printable shown 0 program_sections items refl program.sound)
