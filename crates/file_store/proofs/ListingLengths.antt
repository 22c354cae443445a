-- No listing of a program within the limits is longer than a listing file may be.
use Rattle.std.specs.Prelude.{◌≡◌, refl, ℕ, ◌+◌, ◌-◌, ◌*◌, ◌≤◌, nat_le, IsTrue, List, [], ◌∷◌, ◌++◌, length, Option, Some, None}
use Rattle.std.proofs.Common.{ap, ◌∙◌, arith, subst, inl, inr}
use Rattle.std.proofs.lemmas.Bool.{and_parts, leb-true}
use Rattle.std.proofs.lemmas.List.{length-append, length-replicate}
use Rattle.plcs_base.specs.Name.{IsName, longest_name}
use Rattle.plcs_grammar.specs.declared.category.Category.{Category}
use Rattle.plcs_grammar.specs.declared.node_kind.NodeKind.{NodeKind}
use Rattle.plcs_grammar.specs.declared.template.Template.{Template}
use Rattle.plcs_grammar.specs.Canon.{Canon}
use Rattle.plcs_grammar.specs.Cuts.{Cuts, Piece, tokens_of}
use Rattle.plcs_grammar.specs.PhraseForm.{IsPhrase as IsPhraseForm}
use Rattle.plcs_grammar.specs.Placeholder.{placeholder}
use Rattle.plcs_grammar.specs.PlainPhrase.{PlainPhrase, category_of}
use Rattle.plcs_grammar.specs.Reads.{HasReading}
use Rattle.plcs_grammar.specs.Template.{PlainSegment, PlainSection, row_of, program_sections}
use Rattle.plcs_grammar.specs.Token.{IsToken, Token}
use Rattle.template_tree.specs.Programs.Limit.{deepest_path, most_slots}
use Rattle.template_tree.specs.Listings.Line.{part_text, segments_text}
use Rattle.template_tree.specs.Listings.Listing.{Listing, Spells}
use Rattle.template_tree.specs.Programs.PlainTree.{Forest}
use Rattle.template_tree.specs.Programs.Program.{AreNodes, AreParts, IsPart, IsPartPhrase, IsProgram, parts_of, sort_of}
use Rattle.template_tree.specs.Listings.Section.{left_for, left_after, next_lead}
use Rattle.template_tree.specs.Programs.Slots.{count, depth}
use Rattle.file_store.specs.Limit.{longest_listing}
use Rattle.file_store.specs.Private.LineReading.{blank_bytes, said_bytes}
use Rattle.file_store.specs.Private.Reader.{Said, Saying, shape, said_lead, said_last, sayings, text_of}
use Rattle.file_store.proofs.ListedLines.{else_leads, last_sayings, lead_sayings, leads_after, leads_for, listing_said, row_leads, shape_line}
use Rattle.file_store.proofs.ReadListings.{said_append}
use Rattle.file_store.proofs.Texts.{AreSayings, said_text}

-- ---- parts

-- how many bytes a part of the category has at most: a variable that counts is a name
abbrev most_of : Category → ℕ
most_of Category.Variable = 31
most_of category = 400

name_length : (name : List ℕ) → IsName name → length name ≤ 31
name_length name h = leb-true (length name) longest_name (and_parts _ _ (and_parts _ _ h).1).0

abbrev first_token : Token → List Token → Token
first_token token [] = token
first_token token (first ∷ rest) = first

form_short : (phrase : PlainPhrase) (pieces : List Piece) → Cuts pieces 0 (Canon phrase) None → category_of phrase ≡ Category.Variable
    → IsPhraseForm phrase (tokens_of pieces) → length (Canon phrase) ≤ 31
form_short (PlainPhrase.variable_name name) [] cuts c e = absurd (omega (arith, ap length e))
form_short (PlainPhrase.variable_name name) (piece ∷ pieces) (bytes, behind, first, _, _, _) c e =
    name_length name (subst (λ t. IsToken t bytes behind) (ap (first_token piece.token) e) first.is_token).1
form_short (PlainPhrase.assignment target value) pieces cuts c e = absurd (cc)
form_short (PlainPhrase.condition a) pieces cuts c e = absurd (cc)
form_short (PlainPhrase.expression a) pieces cuts c e = absurd (cc)
form_short (PlainPhrase.expression_list es) pieces cuts c e = absurd (cc)
form_short (PlainPhrase.variable_list targets) pieces cuts c e = absurd (cc)
form_short (PlainPhrase.call name arguments) pieces cuts c e = absurd (cc)
form_short (PlainPhrase.declared_list items) pieces cuts c e = absurd (cc)
form_short (PlainPhrase.procedure_name name) pieces cuts c e = absurd (cc)
form_short (PlainPhrase.name_list names) pieces cuts c e = absurd (cc)
form_short (PlainPhrase.greatest_length n) pieces cuts c e = absurd (cc)
form_short (PlainPhrase.comment bytes) pieces cuts c e = absurd (cc)

name_short : (phrase : PlainPhrase) → HasReading Category.Variable (Canon phrase) phrase → length (Canon phrase) ≤ 31
name_short phrase (inl (pieces, cut)) = form_short phrase pieces cut.cuts cut.form.0 cut.form.1
name_short phrase (inr comment) = let e : Category.Variable ≡ Category.CommentText = comment.category_is in absurd (cc)

phrase_short : (category : Category) (phrase : PlainPhrase) → IsPartPhrase category phrase → length (Canon phrase) ≤ most_of category
phrase_short Category.Variable phrase h = name_short phrase h.well_formed.0
phrase_short category phrase h = h.short

placeholder_short : (category : Category) → IsTrue (nat_le (length (placeholder category)) (most_of category))
placeholder_short Category.Variable = refl
placeholder_short category = refl

part_short : (category : Category) (part : Option PlainPhrase) → IsPart category part → length (part_text category part) ≤ most_of category
part_short category None h = leb-true (length (placeholder category)) (most_of category) (placeholder_short category)
part_short category (Some phrase) h = phrase_short category phrase h

-- ---- lines

abbrev most_bytes : List PlainSegment → ℕ
most_bytes [] = 0
most_bytes (PlainSegment.words bytes ∷ segments) = length bytes + most_bytes segments
most_bytes (PlainSegment.part category ∷ segments) = most_of category + most_bytes segments

row_short : (kind : NodeKind) → IsTrue (nat_le (most_bytes (row_of kind).line) 1250)
row_short NodeKind.Main = refl
row_short (NodeKind.Filled Template.Fixed) = refl
row_short (NodeKind.Filled template) = refl
row_short kind = refl

segments_short : (segments : List PlainSegment) (parts : List (Option PlainPhrase)) → AreParts (parts_of segments) parts
    → length (segments_text segments parts) ≤ most_bytes segments
segments_short [] parts h = omega arith
segments_short (PlainSegment.words bytes ∷ segments) parts h =
    omega (arith, length-append bytes (segments_text segments parts), segments_short segments parts h)
segments_short (PlainSegment.part category ∷ segments) [] h = absurd h
segments_short (PlainSegment.part category ∷ segments) (part ∷ parts) h =
    omega (arith, length-append (part_text category part) (segments_text segments parts), part_short category part h.0, segments_short segments parts h.1)

head_short : (kind : NodeKind) (parts : List (Option PlainPhrase)) → AreParts (parts_of (row_of kind).line) parts
    → length (segments_text (row_of (shape kind)).line parts) ≤ 1250
head_short kind parts h =
    omega (
      arith,
      ap length (shape_line kind parts),
      segments_short (row_of kind).line parts h,
      leb-true (most_bytes (row_of kind).line) 1250 (row_short kind),
    )

line_length : (said : Said) (rest : List Said)
    → length (said_text (said ∷ rest)) ≡ 2 * said.level + length (text_of said.saying) + 1 + length (said_text rest)
line_length said rest =
    omega (
      arith,
      length-append (said_bytes said) (10 ∷ said_text rest),
      length-append (blank_bytes said.level) (text_of said.saying),
      length-replicate {A = ℕ} (2 * said.level) 32,
    )

lead_short : (level : ℕ) (text : Option (List ℕ)) → AreSayings (said_lead level text) → length (said_text (said_lead level text)) ≤ 2 * level + 5
lead_short level None h = omega arith
lead_short level (Some text) h =
    let four : length text ≡ 4 = ap length h.0 in
    omega (arith, line_length (record { level = level; saying = Saying.lead text }) [], four)

last_short : (level : ℕ) (text : Option (List ℕ)) → AreSayings (said_last level text) → length (said_text (said_last level text)) ≤ 2 * level + 5
last_short level None h = omega arith
last_short level (Some text) h =
    let four : length text ≡ 4 = ap length h.0 in
    omega (arith, line_length (record { level = level; saying = Saying.last text }) [], four)

-- ---- programs

both_lengths : (a b : List Said) → length (said_text (a ++ b)) ≡ length (said_text a) + length (said_text b)
both_lengths a b = ap length (said_append a b) ∙ length-append (said_text a) (said_text b)

-- the deepest node stands at level 63, so a node has at most 1,650 bytes of the listing, with the line before it
said_short : (level : ℕ) (left : List PlainSection) (items : Forest) → IsTrue (else_leads left) → AreNodes items → level + depth items ≤ 64
    → length (said_text (sayings level left items)) ≤ 1650 * count items
said_short level left Forest.nil leads sound deep = omega arith
said_short level left (Forest.cons label inner rest) leads sound deep =
    let here = left_for (sort_of label.kind) left in
    let reached = leads_for (sort_of label.kind) left leads in
    let before = said_lead (level - 1) (next_lead here) in
    let own = sayings (level + 1) (row_of label.kind).sections inner in
    let last = said_last level (row_of label.kind).last in
    let more = sayings level (left_after here) rest in
    let first : Said = record { level = level; saying = Saying.head (shape label.kind) label.parts } in
    let others : List Said = own ++ (last ++ more) in
    let deeper : level + 1 + depth inner ≤ 64 = omega (arith, deep) in
    let beside : level + depth rest ≤ 64 = omega (arith, deep) in
    let counted : count (Forest.cons label inner rest) ≡ count inner + count rest + 1 = refl in
    let all_bytes : length (said_text (sayings level left (Forest.cons label inner rest))) ≡ length (said_text before) + length (said_text (first ∷ others)) =
    both_lengths before (first ∷ others) in
    let first_bytes : length (said_text (first ∷ others)) ≡ 2 * level + length (segments_text (row_of (shape label.kind)).line label.parts) + 1 + length (said_text others) =
    line_length first others in
    let other_bytes : length (said_text others) ≡ length (said_text own) + (length (said_text last) + length (said_text more)) =
    both_lengths own (last ++ more) ∙ ap (λ n. length (said_text own) + n) (both_lengths last more) in
    let lead_bytes : length (said_text before) ≤ 2 * (level - 1) + 5 = lead_short (level - 1) (next_lead here) (lead_sayings (level - 1) here reached) in
    let last_bytes : length (said_text last) ≤ 2 * level + 5 = last_short level (row_of label.kind).last (last_sayings level label.kind) in
    omega (
      arith,
      deeper,
      counted,
      all_bytes,
      first_bytes,
      other_bytes,
      lead_bytes,
      last_bytes,
      head_short label.kind label.parts sound.0.parts,
      said_short (level + 1) (row_of label.kind).sections inner (row_leads label.kind) sound.1 deeper,
      said_short level (left_after here) rest (leads_after here reached) sound.2 beside,
    )

pub listing_short : (items : Forest) (x : List ℕ) → Spells items x → depth items ≤ deepest_path → count items ≤ most_slots → length x ≤ longest_listing
listing_short items x spells deep many =
    let deepest : deepest_path ≡ 64 = refl in
    let most : most_slots ≡ 20000 = refl in
    let longest : longest_listing ≡ 33554432 = refl in
    omega (
      arith,
      most,
      longest,
      many,
      ap length (spells.listed ∙ listing_said items),
      said_short 0 program_sections items refl spells.program.sound (omega (arith, deep, deepest)),
    )

pub short_listing : (items : Forest) → IsProgram items → depth items ≤ deepest_path → count items ≤ most_slots → length (Listing items) ≤ longest_listing
short_listing items program deep many = listing_short items (Listing items) (record { program = program; listed = refl }) deep many
