-- The tree that is read has the bytes as its listing.
use Rattle.std.specs.Prelude.{◌≡◌, refl, ℕ, ◌+◌, ◌≤◌, false, List, [], ◌∷◌, ◌++◌, Some}
use Rattle.std.proofs.Common.{ap, sym, ◌∙◌, arith, subst}
use Rattle.std.proofs.lemmas.List.{append-nil}
use Rattle.plcs_grammar.specs.Template.{PlainSection, row_of, program_sections}
use Rattle.template_tree.specs.Programs.Build.{built_tree}
use Rattle.template_tree.specs.Edits.Edit.{whole}
use Rattle.template_tree.specs.Listings.Listing.{Bare, Listing}
use Rattle.template_tree.specs.Programs.Limit.{deepest_path, most_slots}
use Rattle.template_tree.specs.Programs.PlainTree.{Label, Forest, PlainNodes, PlainTree, forest, roomless}
use Rattle.template_tree.specs.Programs.Program.{AreNodes, Fill, IsProgram, sorts, sort_of}
use Rattle.template_tree.specs.Listings.Section.{left_for, left_after}
use Rattle.template_tree.specs.Programs.Slots.{count, depth, with_slots_from}
use Rattle.template_tree.specs.Programs.Tree.{IsTree}
use Rattle.file_store.specs.Loaded.{IsListingOf}
use Rattle.file_store.specs.Private.Reader.{program_of, lines_taken, sayings, unread}
use Rattle.file_store.specs.Private.Reading.{Come}
use Rattle.file_store.proofs.Arrivals.{program_arrives}
use Rattle.file_store.proofs.Continuations.{ended}
use Rattle.file_store.proofs.Fillings.{some_is}
use Rattle.file_store.proofs.ListedLines.{listing_said}
use Rattle.file_store.proofs.ReadListings.{AreShallow, SoFar, count_said, depth_said, opened_in}
use Rattle.file_store.proofs.Texts.{said_text}

-- ---- without room, slots and elision

bare_roomless : (items : Forest) → Bare (roomless items) ≡ Bare items
bare_roomless Forest.nil = refl
bare_roomless (Forest.cons label inner rest) =
    ap (λ z. Forest.cons (record label { slot = 0; elided = false; spare = 0 }) z (Bare (roomless rest))) (bare_roomless inner)
    ∙ ap (λ z. Forest.cons (record label { slot = 0; elided = false; spare = 0 }) (Bare inner) z) (bare_roomless rest)

bare_slots : (first : ℕ) (items : Forest) → Bare (with_slots_from first items) ≡ Bare items
bare_slots first Forest.nil = refl
bare_slots first (Forest.cons label inner rest) =
    ap (λ z. Forest.cons (record label { slot = 0; elided = false; spare = 0 }) z (Bare (with_slots_from (first + 1 + count inner) rest))) (bare_slots (first + 1) inner)
    ∙ ap (λ z. Forest.cons (record label { slot = 0; elided = false; spare = 0 }) (Bare inner) z) (bare_slots (first + 1 + count inner) rest)

pub sayings_bare : (level : ℕ) (left : List PlainSection) (items : Forest) → sayings level left (Bare items) ≡ sayings level left items
sayings_bare level left Forest.nil = refl
sayings_bare level left (Forest.cons label inner rest) =
    rw (sayings_bare (level + 1) (row_of label.kind).sections inner, sayings_bare level (left_after (left_for (sort_of label.kind) left)) rest) refl

sayings_alike : (a b : Forest) → Bare a ≡ Bare b → sayings 0 program_sections a ≡ sayings 0 program_sections b
sayings_alike a b e = sym (sayings_bare 0 program_sections a) ∙ ap (sayings 0 program_sections) e ∙ sayings_bare 0 program_sections b

-- ---- a program without room is one

sorts_roomless : (items : Forest) → sorts (roomless items) ≡ sorts items
sorts_roomless Forest.nil = refl
sorts_roomless (Forest.cons label inner rest) = ap (λ z. sort_of label.kind ∷ z) (sorts_roomless rest)

nodes_roomless : (items : Forest) → AreNodes (roomless items) → AreNodes items
nodes_roomless Forest.nil h = tt
nodes_roomless (Forest.cons label inner rest) h = (
  record { parts = h.0.parts; inner = subst (λ s. Fill (row_of label.kind).sections s) (sorts_roomless inner) h.0.inner; elision = h.0.elision },
  nodes_roomless inner h.1,
  nodes_roomless rest h.2,
)

program_roomless : (items : Forest) → IsProgram (roomless items) → IsProgram items
program_roomless items h = record { listed = subst (λ s. Fill program_sections s) (sorts_roomless items) h.listed; sound = nodes_roomless items h.sound }

-- ---- nothing is elided in what is read

abbrev first_label : Label → Forest → Label
first_label label Forest.nil = label
first_label label (Forest.cons first inner rest) = first

abbrev first_inner : Forest → Forest
first_inner Forest.nil = Forest.nil
first_inner (Forest.cons first inner rest) = inner

abbrev others : Forest → Forest
others Forest.nil = Forest.nil
others (Forest.cons first inner rest) = rest

AreWhole : Forest → Type 0
AreWhole Forest.nil = Unit {0}
AreWhole (Forest.cons label inner rest) = (label.elided ≡ false) × AreWhole inner × AreWhole rest

are_whole : (items : Forest) → roomless items ≡ Bare (roomless items) → AreWhole items
unfolding AreWhole
are_whole Forest.nil e = tt
are_whole (Forest.cons label inner rest) e =
    (ap (λ z. (first_label label z).elided) e, are_whole inner (ap first_inner e), are_whole rest (ap others e))

whole_slots : (first : ℕ) (items : Forest) → AreWhole items → whole (with_slots_from first items) ≡ with_slots_from first items
unfolding AreWhole
whole_slots first Forest.nil h = refl
whole_slots first (Forest.cons label inner rest) h =
    ap (λ z. Forest.cons (record label { slot = first; elided = z }) (whole (with_slots_from (first + 1) inner)) (whole (with_slots_from (first + 1 + count inner) rest))) (sym h.0)
    ∙ ap (λ z. Forest.cons (record label { slot = first }) z (whole (with_slots_from (first + 1 + count inner) rest))) (whole_slots (first + 1) inner h.1)
    ∙ ap (λ z. Forest.cons (record label { slot = first }) (with_slots_from (first + 1) inner) z) (whole_slots (first + 1 + count inner) rest h.2)

-- ---- slots

count_slots : (first : ℕ) (items : Forest) → count (with_slots_from first items) ≡ count items
count_slots first Forest.nil = refl
count_slots first (Forest.cons label inner rest) =
    rw (count_slots (first + 1) inner, count_slots (first + 1 + count inner) rest) refl

slots_again : (first : ℕ) (items : Forest) → with_slots_from first (with_slots_from first items) ≡ with_slots_from first items
slots_again first Forest.nil = refl
slots_again first (Forest.cons label inner rest) =
    rw (slots_again (first + 1) inner, count_slots (first + 1) inner, slots_again (first + 1 + count inner) rest) refl

-- ---- the tree

pub record Fits (list : PlainNodes) : Type 0 where
  pub program : IsProgram (forest list.items)
  pub shallow : depth (forest list.items) ≤ deepest_path
  pub few : count (forest list.items) ≤ most_slots

read_items : (x rest : List ℕ) (come : Come) (list : PlainNodes) → (far : SoFar x rest come) → program_of come.stack ≡ Some (roomless (forest list.items))
    → IsProgram (roomless (forest list.items)) × (sayings 0 program_sections (forest list.items) ≡ far.ls)
read_items x rest come list far e =
    let program = ended far.ls come.stack (roomless (forest list.items)) far.sayings far.ran e in
    (program.0, sayings_alike (forest list.items) (roomless (forest list.items)) (sym (bare_roomless (forest list.items))) ∙ program.1)

pub fits : (x rest : List ℕ) (come : Come) (list : PlainNodes) → SoFar x rest come → program_of come.stack ≡ Some (roomless (forest list.items)) → Fits list
fits x rest come list far e =
    let read = read_items x rest come list far e in
    record {
      program = program_roomless (forest list.items) read.0;
      shallow = omega (arith, depth_said 0 program_sections (forest list.items) (omega arith) (subst AreShallow (sym read.1) far.shallow));
      few = omega (arith, sym (count_said 0 program_sections (forest list.items)) ∙ ap opened_in read.1, far.opened, far.few);
    }

pub loaded : (x rest : List ℕ) (come : Come) (list : PlainNodes) (tree : PlainTree) → (far : SoFar x rest come) → rest ≡ []
    → program_of come.stack ≡ Some (roomless (forest list.items)) → tree ≡ built_tree list → IsTree tree → IsListingOf x tree
loaded x rest come list tree far empty e is is_tree =
    let items = forest list.items in
    let read = read_items x rest come list far e in
    let all = program_arrives (roomless items) read.0 in
    let same : sayings 0 program_sections (roomless items) ≡ far.ls = sayings_alike (roomless items) items (bare_roomless items) ∙ read.1 in
    let bare : roomless items ≡ Bare (roomless items) =
    some_is (sym e ∙ ap program_of (some_is (sym far.ran ∙ ap (lines_taken unread) (sym same) ∙ all.1)) ∙ all.2) in
    let sayings_are : far.ls ≡ sayings 0 program_sections (with_slots_from 0 items) =
    sym read.1 ∙ sayings_alike items (with_slots_from 0 items) (sym (bare_slots 0 items)) in
    let items_are : tree.items ≡ with_slots_from 0 items = ap (λ (t : PlainTree). t.items) is in
    record {
      spells =
          record {
            program = is_tree.program;
            listed =
                far.is ∙ ap (λ z. said_text far.ls ++ z) empty ∙ append-nil (said_text far.ls) ∙ ap said_text sayings_are
                ∙ sym (listing_said (with_slots_from 0 items)) ∙ ap (λ i. Listing i) (sym items_are);
          };
      is_tree = is_tree;
      slots = rw items_are (slots_again 0 items);
      drawn = ap (λ (t : PlainTree). t.drawn) is ∙ sym (count_slots 0 items) ∙ ap count (sym items_are);
      unelided = rw items_are (whole_slots 0 items (are_whole items bare));
    }
