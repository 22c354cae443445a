-- The lines of a listing as they are read.
use Rattle.std.specs.Prelude.{◌≡◌, refl, ℕ, ◌+◌, ◌-◌, Bool, true, false, if◌then◌else◌, IsTrue, bytes_eq, List, [], ◌∷◌, ◌++◌, map, codes, Option, Some, None}
use Rattle.std.specs.List.{list_all}
use Rattle.std.proofs.Common.{ap, sym, ◌∙◌}
use Rattle.std.proofs.lemmas.Bool.{and_parts}
use Rattle.std.proofs.lemmas.Slice.Eq.{bytes_eq-Decides}
use Rattle.plcs_grammar.specs.declared.node_kind.NodeKind.{NodeKind}
use Rattle.plcs_grammar.specs.declared.node_kind.Sort.{Sort}
use Rattle.plcs_grammar.specs.declared.row.Amount.{Amount}
use Rattle.plcs_grammar.specs.declared.template.Template.{Template}
use Rattle.plcs_grammar.specs.PlainPhrase.{PlainPhrase}
use Rattle.plcs_grammar.specs.Template.{PlainSection, row_of, program_sections}
use Rattle.template_tree.specs.Listings.Line.{Line, fixed_line, head_line, lines, listing_lines, segments_text}
use Rattle.template_tree.specs.Listings.Listing.{bytes_of_lines}
use Rattle.template_tree.specs.Programs.PlainTree.{Forest}
use Rattle.template_tree.specs.Programs.Program.{AreNodes, AreParts, IsProgram, parts_of, sort_of}
use Rattle.template_tree.specs.Listings.Section.{same_sort, left_for, left_in, left_after, next_lead}
use Rattle.file_store.specs.ListedLine.{ListedLine, listed_fixed, listed_lines, listed_program, text_of_lines}
use Rattle.file_store.specs.ListingLaws.{OneListing}
use Rattle.file_store.specs.Private.LineLaws.{LineLaws}
use Rattle.file_store.specs.Private.Reader.{shape, Saying, Said, text_of, opens, unread, lines_taken, program_of, said_lead, said_last, sayings}
use Rattle.file_store.proofs.Arrivals.{program_arrives}
use Rattle.file_store.proofs.Fillings.{some_is}
use Rattle.file_store.proofs.Texts.{AreSayings, said_text, one_text}
use Rattle.file_store.specs.Private.LineReading.{said_bytes}

-- a line as the definitions see it
abbrev pub listed_row : Said → ListedLine
listed_row said = record { line = record { level = said.level; text = text_of said.saying }; opens = opens said.saying }

-- ---- the definitions' lines are those that are read

pub map_more : (a b : List Said) → map listed_row (a ++ b) ≡ map listed_row a ++ map listed_row b
map_more [] b = refl
map_more (x ∷ a) b = ap (λ z. listed_row x ∷ z) (map_more a b)

lead_row : (level : ℕ) (text : Option (List ℕ)) → map listed_row (said_lead level text) ≡ listed_fixed level text
lead_row level None = refl
lead_row level (Some text) = refl

last_row : (level : ℕ) (text : Option (List ℕ)) → map listed_row (said_last level text) ≡ listed_fixed level text
last_row level None = refl
last_row level (Some text) = refl

pub shape_line : (kind : NodeKind) (parts : List (Option PlainPhrase)) → segments_text (row_of (shape kind)).line parts ≡ segments_text (row_of kind).line parts
shape_line (NodeKind.Filled Template.If) parts = refl
shape_line kind parts = refl

pub rows_are : (level : ℕ) (left : List PlainSection) (items : Forest) → map listed_row (sayings level left items) ≡ listed_lines level left items
rows_are level left Forest.nil = refl
rows_are level left (Forest.cons label inner rest) =
    let here = left_for (sort_of label.kind) left in
    let own = sayings (level + 1) (row_of label.kind).sections inner in
    let last = said_last level (row_of label.kind).last in
    let more = sayings level (left_after here) rest in
    let first : Said = record { level = level; saying = Saying.head (shape label.kind) label.parts } in
    map_more (said_lead (level - 1) (next_lead here)) (first ∷ (own ++ (last ++ more)))
    ∙ rw (lead_row (level - 1) (next_lead here), shape_line label.kind label.parts)
    (ap (λ z. listed_fixed (level - 1) (next_lead here) ++ (record { line = head_line level label; opens = true } ∷ z))
    (map_more own (last ++ more) ∙ rw (rows_are (level + 1) (row_of label.kind).sections inner)
    (ap (λ z. listed_lines (level + 1) (row_of label.kind).sections inner ++ z)
    (map_more last more ∙ rw (last_row level (row_of label.kind).last, rows_are level (left_after here) rest) refl))))

abbrev line_of : ListedLine → Line
line_of row = row.line

map_lines : (a b : List ListedLine) → map line_of (a ++ b) ≡ map line_of a ++ map line_of b
map_lines [] b = refl
map_lines (x ∷ a) b = ap (λ z. x.line ∷ z) (map_lines a b)

fixed_lines : (level : ℕ) (text : Option (List ℕ)) → map line_of (listed_fixed level text) ≡ fixed_line level text
fixed_lines level None = refl
fixed_lines level (Some text) = refl

pub lines_are : (level : ℕ) (left : List PlainSection) (items : Forest) → map line_of (listed_lines level left items) ≡ lines false level left items
lines_are level left Forest.nil = refl
lines_are level left (Forest.cons label inner rest) =
    let here = left_for (sort_of label.kind) left in
    let own = listed_lines (level + 1) (row_of label.kind).sections inner in
    let last = listed_fixed level (row_of label.kind).last in
    let more = listed_lines level (left_after here) rest in
    map_lines (listed_fixed (level - 1) (next_lead here)) (record { line = head_line level label; opens = true } ∷ (own ++ (last ++ more)))
    ∙ rw (fixed_lines (level - 1) (next_lead here))
    (ap (λ z. fixed_line (level - 1) (next_lead here) ++ (head_line level label ∷ z))
    (map_lines own (last ++ more) ∙ rw (lines_are (level + 1) (row_of label.kind).sections inner)
    (ap (λ z. lines false (level + 1) (row_of label.kind).sections inner ++ z)
    (map_lines last more ∙ rw (fixed_lines level (row_of label.kind).last, lines_are level (left_after here) rest) refl))))

pub program_lines : (items : Forest) → map (λ (row : ListedLine). row.line) (listed_program items) ≡ listing_lines items
program_lines items = lines_are 0 program_sections items

-- and their bytes are the same
pub text_said : (ls : List Said) → text_of_lines (map listed_row ls) ≡ said_text ls
text_said [] = refl
text_said (said ∷ ls) = ap (λ z. said_bytes said ++ (10 ∷ z)) (text_said ls)

-- the listing of a program is the text of its lines
pub listing_said : (items : Forest) → bytes_of_lines (listing_lines items) ≡ said_text (sayings 0 program_sections items)
listing_said items =
    ap bytes_of_lines (sym (lines_are 0 program_sections items))
    ∙ ap (λ rows. bytes_of_lines (map line_of rows)) (sym (rows_are 0 program_sections items))
    ∙ text_said (sayings 0 program_sections items)

-- ---- each line says something

pub more_sayings : (a b : List Said) → AreSayings a → AreSayings b → AreSayings (a ++ b)
more_sayings [] b h k = k
more_sayings (said ∷ a) b h k = (h.0, more_sayings a b h.1 k)

abbrev is_else : Option (List ℕ) → Bool
is_else None = true
is_else (Some text) = bytes_eq text (codes "ELSE")

abbrev pub else_leads : List PlainSection → Bool
else_leads = list_all (λ section. is_else section.lead)

pub row_leads : (kind : NodeKind) → IsTrue (else_leads (row_of kind).sections)
row_leads (NodeKind.Filled Template.Fixed) = refl
row_leads (NodeKind.Filled template) = refl
row_leads NodeKind.Main = refl
row_leads kind = refl

pub leads_for : (sort : Sort) (left : List PlainSection) → IsTrue (else_leads left) → IsTrue (else_leads (left_for sort left))
leads_for sort [] h = refl
leads_for sort (section ∷ sections) h =
    left_or (same_sort section.sort sort) (section ∷ sections) (left_for sort sections) h
    (leads_for sort sections (and_parts (is_else section.lead) (else_leads sections) h).1)
  where
    left_or : (b : Bool) (one other : List PlainSection) → IsTrue (else_leads one) → IsTrue (else_leads other)
        → IsTrue (else_leads (if b then one else other))
    left_or true one other h k = h
    left_or false one other h k = k

pub leads_after : (left : List PlainSection) → IsTrue (else_leads left) → IsTrue (else_leads (left_after left))
leads_after [] h = refl
leads_after (section ∷ sections) h = by section.amount (and_parts (is_else section.lead) (else_leads sections) h).1
  where
    by : (amount : Amount) → IsTrue (else_leads sections) → IsTrue (else_leads (left_in amount section sections))
    by Amount.One h = h
    by Amount.Many h = h

pub lead_sayings : (level : ℕ) (left : List PlainSection) → IsTrue (else_leads left) → AreSayings (said_lead level (next_lead left))
lead_sayings level [] h = tt
lead_sayings level (section ∷ sections) h = by section.lead (and_parts (is_else section.lead) (else_leads sections) h).0
  where
    by : (lead : Option (List ℕ)) → IsTrue (is_else lead) → AreSayings (said_lead level lead)
    by None h = tt
    by (Some text) h = ((bytes_eq-Decides text (codes "ELSE")).0 h, tt)

pub last_sayings : (level : ℕ) (kind : NodeKind) → AreSayings (said_last level (row_of kind).last)
last_sayings level NodeKind.Main = (refl, tt)
last_sayings level (NodeKind.Filled Template.Fixed) = tt
last_sayings level (NodeKind.Filled Template.Proc) = (refl, tt)
last_sayings level (NodeKind.Filled Template.ProcP) = (refl, tt)
last_sayings level (NodeKind.Filled Template.While) = (refl, tt)
last_sayings level (NodeKind.Filled Template.For) = (refl, tt)
last_sayings level (NodeKind.Filled Template.Until) = (refl, tt)
last_sayings level (NodeKind.Filled Template.Group) = (refl, tt)
last_sayings level (NodeKind.Filled template) = tt
last_sayings level kind = tt

shape_shape : (kind : NodeKind) → shape (shape kind) ≡ shape kind
shape_shape (NodeKind.Filled Template.If) = refl
shape_shape kind = refl

shape_parts : (kind : NodeKind) (parts : List (Option PlainPhrase)) → AreParts (parts_of (row_of kind).line) parts
    → AreParts (parts_of (row_of (shape kind)).line) parts
shape_parts (NodeKind.Filled Template.If) parts h = h
shape_parts kind parts h = h

pub are_sayings : (level : ℕ) (left : List PlainSection) (items : Forest) → IsTrue (else_leads left) → AreNodes items → AreSayings (sayings level left items)
are_sayings level left Forest.nil h sound = tt
are_sayings level left (Forest.cons label inner rest) h sound =
    let here = left_for (sort_of label.kind) left in
    let reached = leads_for (sort_of label.kind) left h in
    more_sayings (said_lead (level - 1) (next_lead here)) _ (lead_sayings (level - 1) here reached) (
      (shape_shape label.kind, shape_parts label.kind label.parts sound.0.parts),
      more_sayings (sayings (level + 1) (row_of label.kind).sections inner) _
          (are_sayings (level + 1) (row_of label.kind).sections inner (row_leads label.kind) sound.1)
          (more_sayings (said_last level (row_of label.kind).last) _ (last_sayings level label.kind)
          (are_sayings level (left_after here) rest (leads_after here reached) sound.2)),
    )

pub program_sayings : (items : Forest) → IsProgram items → AreSayings (sayings 0 program_sections items)
program_sayings items program = are_sayings 0 program_sections items refl program.sound

-- ---- the law

pub one_program : LineLaws → OneListing
one_program laws a b x h k =
    let text : said_text (sayings 0 program_sections a) ≡ said_text (sayings 0 program_sections b) =
    sym (listing_said a) ∙ sym h.listed ∙ k.listed ∙ listing_said b in
    let same = one_text laws (sayings 0 program_sections a) (sayings 0 program_sections b) (program_sayings a h.program) (program_sayings b k.program) text in
    let first = program_arrives a h.program in
    let second = program_arrives b k.program in
    let stacks : first.0 ≡ second.0 = some_is (sym first.1 ∙ ap (lines_taken unread) same ∙ second.1) in
    some_is (sym first.2 ∙ ap program_of stacks ∙ second.2)
