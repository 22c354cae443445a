-- The lines before the nodes of a list where one of them gives way to another one or to none: either the row has no
-- such line at all, or it fixes the sort of each of its nodes.
use Rattle.std.specs.Prelude.{◌≡◌, ◌⊎◌, refl, ℕ, Bool, true, false, if◌then◌else◌, List, [], ◌∷◌, ◌++◌, codes, Option, None, is_some}
use Rattle.std.proofs.Common.{ap, sym, ◌∙◌, inl, inr}
use Rattle.plcs_grammar.specs.declared.node_kind.NodeKind.{NodeKind}
use Rattle.plcs_grammar.specs.declared.node_kind.NodeKind.TheVariants.{DeclarationHole, StatementHole, ProcedureHole, Main, Assign, Filled}
use Rattle.plcs_grammar.specs.declared.node_kind.Sort.{Sort}
use Rattle.plcs_grammar.specs.declared.row.Amount.{Amount}
use Rattle.plcs_grammar.specs.declared.template.Template.{Template}
use Rattle.plcs_grammar.specs.declared.template.Template.TheVariants.{Fixed, Bit, Char, If, IfElse, While, For, Until, Group, Get, Put, PutSkip, Call, Return, Comment, Proc, ProcP}
use Rattle.plcs_grammar.specs.Template.{PlainSection, body, body_after, program_sections, row_of, template_row}
use Rattle.template_tree.specs.Programs.PlainTree.{Forest}
use Rattle.template_tree.specs.Programs.Program.{Fill, sort_of, sorts}
use Rattle.template_tree.specs.Listings.Section.{left_after, left_for, left_in, next_lead, same_sort}
use Rattle.unparse_layout.specs.Bones.{PlainLayout, bones_of}

-- no section has a line before it
abbrev pub AllUnled : List PlainSection → Type 0
AllUnled [] = Unit {0}
AllUnled (section ∷ sections) = (section.lead ≡ None) × AllUnled sections

-- the sections have no line before them, or nodes of the same sorts stand in them before and after
abbrev pub AreLeadsKept : List PlainSection → (before after : List Sort) → Type 0
AreLeadsKept left before after = AllUnled left ⊎ (before ≡ after)

found : (b : Bool) (section : PlainSection) (others later : List PlainSection) → AllUnled (section ∷ others) → AllUnled later
    → AllUnled (if b then section ∷ others else later)
found true section others later here there = here
found false section others later here there = there

-- so have those that are left for an item
pub unled_for : (sort : Sort) (left : List PlainSection) → AllUnled left → AllUnled (left_for sort left)
unled_for sort [] unled = tt
unled_for sort (section ∷ sections) unled =
    found (same_sort section.sort sort) section sections (left_for sort sections) unled (unled_for sort sections unled.1)

passed : (amount : Amount) (section : PlainSection) (sections : List PlainSection) → AllUnled sections → AllUnled (left_in amount section sections)
passed Amount.One section sections unled = unled
passed Amount.Many section sections unled = (refl, unled)

-- and those that are left after one
pub unled_after : (left : List PlainSection) → AllUnled left → AllUnled (left_after left)
unled_after [] unled = tt
unled_after (section ∷ sections) unled = passed section.amount section sections unled.1

-- so no line stands before the next item
pub unled_next : (left : List PlainSection) → AllUnled left → is_some (next_lead left) ≡ false
unled_next [] unled = refl
unled_next (section ∷ sections) unled = ap (λ (o : Option (List ℕ)). is_some o) unled.0

-- and it plays no part which of such sections are left
pub unled_bones : (one other : List PlainSection) (items : Forest) → AllUnled one → AllUnled other → bones_of one items ≡ bones_of other items
unled_bones one other Forest.nil first second = refl
unled_bones one other (Forest.cons label inner rest) first second =
    let here = unled_for (sort_of label.kind) one first in
    let there = unled_for (sort_of label.kind) other second in
    let led : is_some (next_lead (left_for (sort_of label.kind) one)) ≡ is_some (next_lead (left_for (sort_of label.kind) other)) =
    unled_next (left_for (sort_of label.kind) one) here ∙ sym (unled_next (left_for (sort_of label.kind) other) there) in
    let behind =
    unled_bones (left_after (left_for (sort_of label.kind) one)) (left_after (left_for (sort_of label.kind) other)) rest
    (unled_after (left_for (sort_of label.kind) one) here) (unled_after (left_for (sort_of label.kind) other) there) in
    λ i.
    PlainLayout.cons record { slot = label.slot; kind = label.kind; elided = label.elided; led = led i }
    (bones_of (row_of label.kind).sections inner) (behind i)

-- the two bodies of a choice are statements
two_bodies : (lead : List ℕ) (items : List Sort) → Fill (body ∷ body_after lead ∷ []) items → items ≡ Sort.Statement ∷ Sort.Statement ∷ []
two_bodies lead items fill =
    let second = fill.4 in
    fill.2
    ∙ ap (λ own. own ++ fill.1) fill.3
    ∙ ap (λ others. Sort.Statement ∷ others) (second.2 ∙ ap (λ own. own ++ second.1) second.3 ∙ ap (λ others. Sort.Statement ∷ others) second.4)

template_kept : (template : Template) (before after : List Sort) → Fill (template_row template).sections before
    → Fill (template_row template).sections after → AreLeadsKept (template_row template).sections before after
template_kept Fixed before after one other = inl tt
template_kept Bit before after one other = inl tt
template_kept Char before after one other = inl tt
template_kept If before after one other = inl (refl, tt)
template_kept IfElse before after one other = inr (two_bodies (codes "ELSE") before one ∙ sym (two_bodies (codes "ELSE") after other))
template_kept While before after one other = inl (refl, tt)
template_kept For before after one other = inl (refl, tt)
template_kept Until before after one other = inl (refl, tt)
template_kept Group before after one other = inl (refl, tt)
template_kept Get before after one other = inl tt
template_kept Put before after one other = inl tt
template_kept PutSkip before after one other = inl tt
template_kept Call before after one other = inl tt
template_kept Return before after one other = inl tt
template_kept Comment before after one other = inl (refl, tt)
template_kept Proc before after one other = inl (refl, (refl, tt))
template_kept ProcP before after one other = inl (refl, (refl, tt))

-- the rows of all nodes
pub row_kept : (kind : NodeKind) (before after : List Sort) → Fill (row_of kind).sections before → Fill (row_of kind).sections after
    → AreLeadsKept (row_of kind).sections before after
row_kept DeclarationHole before after one other = inl tt
row_kept StatementHole before after one other = inl tt
row_kept ProcedureHole before after one other = inl tt
row_kept Main before after one other = inl (refl, (refl, tt))
row_kept Assign before after one other = inl tt
row_kept (Filled template) before after one other = template_kept template before after one other

-- the sections of a program
pub program_unled : AllUnled program_sections
program_unled = (refl, (refl, tt))

abbrev tail_of : List Sort → List Sort
tail_of [] = []
tail_of (sort ∷ sorts) = sorts

-- behind the first node it is as before it
pub kept_behind : (sort : Sort) (left : List PlainSection) (before after : List Sort) → AreLeadsKept left (sort ∷ before) (sort ∷ after)
    → AreLeadsKept (left_after (left_for sort left)) before after
kept_behind sort left before after (inl unled) = inl (unled_after (left_for sort left) (unled_for sort left unled))
kept_behind sort left before after (inr same) = inr (ap tail_of same)
