-- Fresh nodes: their parts are empty, and a hole stands in each section.
use Rattle.std.specs.Prelude.{◌≡◌, refl, ℕ, zero, suc, ◌+◌, ◌≤◌, ◌↔◌, ◌&&◌, min, max, Bool, true, false, IsTrue, All, OnOk, Result, Ok, Err, List, [], ◌∷◌, ◌++◌, map, Option, Some, None}
use Rattle.std.proofs.Common.{ap, sym, ◌∙◌, arith, inl, inr}
use Rattle.std.proofs.Math.Bool.{false≢true}
use Rattle.std.proofs.lemmas.Bool.{cases_lt}
use Rattle.plcs_grammar.specs.declared.category.Category.{Category}
use Rattle.plcs_grammar.specs.declared.node_kind.NodeKind.{NodeKind}
use Rattle.plcs_grammar.specs.declared.node_kind.Sort.{Sort}
use Rattle.plcs_grammar.specs.declared.row.Amount.{Amount}
use Rattle.plcs_grammar.specs.declared.row.Segment.{Segment}
use Rattle.plcs_grammar.specs.declared.template.Template.{Template}
use Rattle.plcs_grammar.specs.PlainPhrase.{PlainPhrase}
use Rattle.plcs_grammar.specs.Template.{PlainSection, plain_segment, row_of, template_row}
use Rattle.template_tree.specs.Programs.PlainTree.{Forest, PlainNode, forest, join, roomless, roomless_node}
use Rattle.template_tree.specs.Programs.Slots.{count, depth}
use Rattle.template_tree.specs.Programs.Limit.{deepest_path}
use Rattle.template_tree.specs.Programs.Program.{parts_of, sorts, may_be_empty, AreItems, AreNodes, AreParts, Fill, IsSubtree}
use Rattle.template_tree.specs.Edits.Hole.{hole_list, hole_of, lone}
use Rattle.template_tree.specs.Edits.FreshNode.{fresh_node, section_holes}
use Rattle.template_tree.proofs.Puts.Holes.{hole_subtree}
use Rattle.template_tree.proofs.Puts.Refusals.{Asked}

-- nothing in each of the parts
abbrev pub empty_parts : List Segment → List (Option PlainPhrase)
empty_parts line = map (λ _. None) (parts_of (map plain_segment line))

-- a section has one hole at most
pub one_hole : (sort : Sort) → count (forest (hole_list 0 (hole_of sort))) ≤ 1
one_hole Sort.Main = omega arith
one_hole Sort.Procedure = omega arith
one_hole Sort.Declaration = omega arith
one_hole Sort.Statement = omega arith

-- which stands alone
flat_hole : (sort : Sort) → depth (forest (hole_list 0 (hole_of sort))) ≡ count (forest (hole_list 0 (hole_of sort)))
flat_hole Sort.Main = refl
flat_hole Sort.Procedure = refl
flat_hole Sort.Declaration = refl
flat_hole Sort.Statement = refl

count_join : (items others : Forest) → count (join items others) ≡ count items + count others
count_join Forest.nil others = omega arith
count_join (Forest.cons label inner rest) others = omega (arith, count_join rest others)

depth_join : (items others : Forest) → depth (join items others) ≡ max (depth items) (depth others)
depth_join Forest.nil others = omega arith
depth_join (Forest.cons label inner rest) others = omega (arith, depth_join rest others)

-- holes stand at one level
pub holes_flat : (sections : List PlainSection) → depth (section_holes sections) ≡ min (count (section_holes sections)) 1
holes_flat [] = omega arith
holes_flat (section ∷ sections) =
    let hole = forest (hole_list 0 (hole_of section.sort)) in
    omega (
      arith,
      depth_join hole (section_holes sections),
      count_join hole (section_holes sections),
      flat_hole section.sort,
      one_hole section.sort,
      holes_flat sections,
    )

pub join_nil : (items : Forest) → join items Forest.nil ≡ items
join_nil Forest.nil = refl
join_nil (Forest.cons label inner rest) = ap (Forest.cons label inner) (join_nil rest)

join_join : (first second third : Forest) → join (join first second) third ≡ join first (join second third)
join_join Forest.nil second third = refl
join_join (Forest.cons label inner rest) second third = ap (Forest.cons label inner) (join_join rest second third)

-- a hole at the end of a list
pub pushed : (items : List PlainNode) (bare : PlainNode) (kind : NodeKind) → roomless_node bare ≡ lone 0 kind
    → roomless (forest (items ++ bare ∷ [])) ≡ join (roomless (forest items)) (forest (lone 0 kind ∷ []))
pushed [] bare kind e = ap (λ (n : PlainNode). Forest.cons n.label n.inner Forest.nil) e
pushed (item ∷ items) bare kind e = ap (Forest.cons (record item.label { spare = 0 }) (roomless item.inner)) (pushed items bare kind e)

-- one hole after another
pub one_more : (first second third all : Forest) (old : Forest) → second ≡ join old first → all ≡ join second third → all ≡ join old (join first third)
one_more first second third all old come rest = rest ∙ (ap (λ f. join f third) come ∙ join_join old first third)

-- what is said of Ok leads to what follows from it
pub on_ok : {A B : Type 0} {P Q : Type 0} (r : Result A B) → (P → Q) → OnOk r P → OnOk r Q
on_ok (Ok a) f h = f h
on_ok (Err b) f h = h

-- whether a hole stands where nodes of the sort stand
abbrev has_hole : Sort → Bool
has_hole Sort.Main = false
has_hole Sort.Procedure = true
has_hole Sort.Declaration = true
has_hole Sort.Statement = true

-- whether a hole stands in each section
abbrev have_holes : List PlainSection → Bool
have_holes [] = true
have_holes (section ∷ sections) = has_hole section.sort && have_holes sections

-- whether each part may be empty
abbrev may_all : List Category → Bool
may_all [] = true
may_all (category ∷ categories) = may_be_empty category && may_all categories

-- in each template the parts may be empty, and a hole stands in each section
template_empty : (template : Template) → (may_all (parts_of (template_row template).line) && have_holes (template_row template).sections) ≡ true
template_empty Template.Fixed = refl
template_empty Template.Bit = refl
template_empty Template.Char = refl
template_empty Template.If = refl
template_empty Template.IfElse = refl
template_empty Template.While = refl
template_empty Template.For = refl
template_empty Template.Until = refl
template_empty Template.Group = refl
template_empty Template.Get = refl
template_empty Template.Put = refl
template_empty Template.PutSkip = refl
template_empty Template.Call = refl
template_empty Template.Return = refl
template_empty Template.Comment = refl
template_empty Template.Proc = refl
template_empty Template.ProcP = refl

both_left : (a b : Bool) → (a && b) ≡ true → a ≡ true
both_left true b e = refl
both_left false b e = e

both_right : (a b : Bool) → (a && b) ≡ true → b ≡ true
both_right true b e = e
both_right false b e = absurd (false≢true e)

parts_are : (categories : List Category) → may_all categories ≡ true → AreParts categories (map (λ _. None) categories)
parts_are [] e = tt
parts_are (category ∷ categories) e =
    (both_left (may_be_empty category) (may_all categories) e, parts_are categories (both_right (may_be_empty category) (may_all categories) e))

only : (sort : Sort) → All (λ item. item ≡ sort) (sort ∷ [])
only sort zero d less = refl
only sort (suc k) d less = absurd (omega (arith, less))

one_item : (amount : Amount) (sort : Sort) → AreItems amount sort (sort ∷ [])
one_item Amount.One sort = refl
one_item Amount.Many sort = (omega arith, only sort)

-- a section with its hole, and the others behind it
fill_one : (amount : Amount) (sort : Sort) (sections : List PlainSection) (rest : Forest) → has_hole sort ≡ true → Fill sections (sorts rest)
    → (own others : List Sort) × (sorts (join (forest (hole_list 0 (hole_of sort))) rest) ≡ own ++ others) × AreItems amount sort own × Fill sections others
fill_one amount Sort.Main sections rest e h = absurd (false≢true e)
fill_one amount Sort.Procedure sections rest e h = (Sort.Procedure ∷ [], sorts rest, refl, one_item amount Sort.Procedure, h)
fill_one amount Sort.Declaration sections rest e h = (Sort.Declaration ∷ [], sorts rest, refl, one_item amount Sort.Declaration, h)
fill_one amount Sort.Statement sections rest e h = (Sort.Statement ∷ [], sorts rest, refl, one_item amount Sort.Statement, h)

holes_fill : (sections : List PlainSection) → have_holes sections ≡ true → Fill sections (sorts (section_holes sections))
holes_fill [] e = refl
holes_fill (section ∷ sections) e =
    fill_one section.amount section.sort sections (section_holes sections) (both_left (has_hole section.sort) (have_holes sections) e)
    (holes_fill sections (both_right (has_hole section.sort) (have_holes sections) e))

-- a hole, and others behind it
sound_one : (o : Option NodeKind) (sort : Sort) (rest : Forest) → hole_of sort ≡ o → AreNodes rest → AreNodes (join (forest (hole_list 0 o)) rest)
sound_one None sort rest e h = h
sound_one (Some kind) sort rest e h = let own = hole_subtree 0 sort kind e in (own.0, own.1, h)

holes_sound : (sections : List PlainSection) → AreNodes (section_holes sections)
holes_sound [] = tt
holes_sound (section ∷ sections) = sound_one (hole_of section.sort) section.sort (section_holes sections) refl (holes_sound sections)

-- a fresh template is a part of a program
pub fresh_subtree : (template : Template) → IsSubtree (fresh_node (NodeKind.Filled template))
fresh_subtree template =
    let row = template_row template in
    let ready = template_empty template in (
      record {
        parts = parts_are (parts_of row.line) (both_left (may_all (parts_of row.line)) (have_holes row.sections) ready);
        inner = holes_fill row.sections (both_right (may_all (parts_of row.line)) (have_holes row.sections) ready);
        elision = λ e. absurd (false≢true e);
      },
      holes_sound row.sections,
    )

-- what is asked of it before it comes into a hole
pub fresh_asked : (path : ℕ) (kind : NodeKind) (shallow : Bool) (slots : ℕ) → slots ≡ min (count (fresh_node kind).inner) 4294967295
    → (IsTrue shallow ↔ (path + min slots 1 ≤ deepest_path)) → Asked path (fresh_node kind) shallow slots
fresh_asked path kind shallow slots is test =
    let flat = holes_flat (row_of kind).sections in
    record {
      short = λ h. omega (arith, test.0 h, is, flat);
      deep =
          λ h.
          elim (cases_lt deepest_path (path + depth (fresh_node kind).inner)) [
            | inl more ↦ more
            | inr few ↦ absurd (false≢true (sym h ∙ test.1 (omega (arith, is, flat, few))))
          ];
      fewer = omega (arith, is);
      exact = λ few. omega (arith, is, few);
    }
