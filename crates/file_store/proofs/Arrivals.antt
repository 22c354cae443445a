-- The lines of a program leave the reader with that program.
use Rattle.std.specs.Prelude.{◌≡◌, refl, ℕ, suc, ◌+◌, ◌-◌, ◌≤◌, Bool, true, false, ◌==◌, nat_le, if◌then◌else◌, List, [], ◌∷◌, ◌++◌, length, Option, Some, None, is_none, option_and_then}
use Rattle.std.proofs.Common.{ap, sym, ◌∙◌, arith, add-one, append_assoc}
use Rattle.std.proofs.Math.Bool.{false≢true}
use Rattle.std.proofs.lemmas.Bool.{and_parts, le-leb, lt-leb, leb-false, eq-eqb}
use Rattle.std.proofs.lemmas.List.{append-nil}
use Rattle.std.proofs.lemmas.Option.{none-some}
use Rattle.std.proofs.lemmas.Slice.Eq.{bytes_eq-Decides}
use Rattle.plcs_grammar.specs.declared.node_kind.NodeKind.{NodeKind}
use Rattle.plcs_grammar.specs.declared.node_kind.Sort.{Sort}
use Rattle.plcs_grammar.specs.declared.row.Amount.{Amount}
use Rattle.plcs_grammar.specs.declared.template.Template.{Template}
use Rattle.plcs_grammar.specs.PlainPhrase.{PlainPhrase}
use Rattle.plcs_grammar.specs.Template.{PlainSection, row_of, program_sections}
use Rattle.template_tree.specs.Programs.Build.{built_label}
use Rattle.template_tree.specs.Programs.PlainTree.{Label, Forest, join}
use Rattle.template_tree.specs.Programs.Program.{Fill, AreNodes, IsProgram, sorts, sort_of}
use Rattle.template_tree.specs.Listings.Section.{same_sort}
use Rattle.template_tree.specs.Listings.Listing.{Bare}
use Rattle.file_store.specs.Private.Reader.{shape, Saying, Said, Filling, Entry, unfilled, filling_after, first_entry, goes_on, item_entry, optional, OpenList, OpenNode, OpenNodes, unread, kind_with, node_of, closed, shut, lowered, at_height, lowered_to, line_taken, lines_taken, program_of, said_lead, said_last, sayings}
use Rattle.file_store.proofs.Fillings.{fills, if_some_parts, sections_of, some_is, sort_shape, here, enters, led, node_fills, program_fills, kind_is, none_led}

-- ---- nodes that end

pub join_nil : (items : Forest) → join items Forest.nil ≡ items
join_nil Forest.nil = refl
join_nil (Forest.cons label inner rest) = ap (λ r. Forest.cons label inner r) (join_nil rest)

pub join_assoc : (a b c : Forest) → join (join a b) c ≡ join a (join b c)
join_assoc Forest.nil b c = refl
join_assoc (Forest.cons label inner rest) b c = ap (λ r. Forest.cons label inner r) (join_assoc rest b c)

-- as many nodes are open as may be
pub at_rest : (own : OpenList) (outer : List OpenNode) (level : ℕ) → length outer ≤ level → lowered level own outer ≡ Some (record { own = own; outer = outer })
at_rest own [] level h = refl
at_rest own (frame ∷ outer) level h = rw (le-leb (suc (length outer)) level h) refl

pub rests : (own : OpenList) (outer : List OpenNode) (level : ℕ) → level ≡ length outer
    → lowered_to level (record { own = own; outer = outer }) ≡ Some (record { own = own; outer = outer })
rests own outer level h = rw (at_rest own outer level (omega (arith, h)), eq-eqb (length outer) level (sym h)) refl

-- exactly so many are open
pub height_is : (level : ℕ) (o : Option OpenNodes) (stack : OpenNodes) → option_and_then (at_height level) o ≡ Some stack
    → o ≡ Some stack
height_is level None stack e = absurd (none-some stack e)
height_is level (Some s) stack e = go (length s.outer == level) e
  where
    go : (b : Bool) → (if b then Some s else None) ≡ Some stack → Some s ≡ Some stack
    go true e = e
    go false e = absurd (none-some stack e)

abbrev first_frame : OpenNode → List OpenNode → OpenNode
first_frame frame [] = frame
first_frame frame (first ∷ rest) = first

abbrev other_frames : List OpenNode → List OpenNode
other_frames [] = []
other_frames (first ∷ rest) = rest

-- one node more ends
pub lowered_more : (level : ℕ) (own : OpenList) (outer : List OpenNode) (inner : OpenList) (frame : OpenNode) (rest : List OpenNode) (list : OpenList)
    → lowered (suc level) own outer ≡ Some (record { own = inner; outer = frame ∷ rest }) → level ≡ length rest → shut inner frame ≡ Some list
    → lowered level own outer ≡ Some (record { own = list; outer = rest })
lowered_more level own [] inner frame rest list e h s =
    absurd (omega (arith, ap (λ (z : OpenNodes). length z.outer) (some_is e)))
lowered_more level own (first ∷ outer) inner frame rest list e h s =
    go (λ l k. lowered_more level l outer inner frame rest list k h s) (nat_le (suc (length outer)) (suc level)) refl e
  where
    below : (o : Option OpenList) → ((l : OpenList) → lowered (suc level) l outer ≡ Some (record { own = inner; outer = frame ∷ rest })
        → lowered level l outer ≡ Some (record { own = list; outer = rest }))
        → option_and_then (λ l. lowered (suc level) l outer) o ≡ Some (record { own = inner; outer = frame ∷ rest })
        → option_and_then (λ l. lowered level l outer) o ≡ Some (record { own = list; outer = rest })
    below None more e = absurd (none-some _ e)
    below (Some l) more e = more l e

    go : ((l : OpenList) → lowered (suc level) l outer ≡ Some (record { own = inner; outer = frame ∷ rest })
        → lowered level l outer ≡ Some (record { own = list; outer = rest }))
        → (b : Bool) → nat_le (suc (length outer)) (suc level) ≡ b
        → (if b then Some (record { own = own; outer = first ∷ outer })
        else option_and_then (λ l. lowered (suc level) l outer) (shut own first)) ≡ Some (record { own = inner; outer = frame ∷ rest })
        → lowered level own (first ∷ outer) ≡ Some (record { own = list; outer = rest })
    go more true b e =
        let is : record { own = own; outer = first ∷ outer } ≡ record { own = inner; outer = frame ∷ rest } = some_is e in
        let own_is : own ≡ inner = ap (λ (z : OpenNodes). z.own) is in
        let outer_is : first ∷ outer ≡ frame ∷ rest = ap (λ (z : OpenNodes). z.outer) is in
        rw (own_is, ap (first_frame first) outer_is, ap other_frames outer_is, lt-leb (suc (length rest)) level (omega (arith, h)), s)
        (at_rest list rest level (omega (arith, h)))
    go more false b e =
        rw (lt-leb (suc (length outer)) level (omega (arith, leb-false (suc (length outer)) (suc level) b))) (below (shut own first) more e)

-- ---- lines that come

pub run_append : (a b : List Said) (stack : OpenNodes) → lines_taken stack (a ++ b) ≡ option_and_then (λ s. lines_taken s b) (lines_taken stack a)
run_append [] b stack = refl
run_append (said ∷ a) b stack = go (λ s. run_append a b s) (line_taken stack said)
  where
    go : ((s : OpenNodes) → lines_taken s (a ++ b) ≡ option_and_then (λ z. lines_taken z b) (lines_taken s a)) → (o : Option OpenNodes) → option_and_then (λ s. lines_taken s (a ++ b)) o ≡ option_and_then (λ s. lines_taken s b) (option_and_then (λ s. lines_taken s a) o)
    go more None = refl
    go more (Some s) = more s

-- no line stands before a section of a program's list
abbrev pub LeadsBelow : List OpenNode → List PlainSection → Type 0
LeadsBelow [] left = none_led left ≡ true
LeadsBelow (frame ∷ outer) left = Unit {0}

-- the nodes come where a stack is, once lowered, at these items
abbrev pub Arrived : ℕ → OpenNodes → List Said → Forest → List OpenNode → Type 0
Arrived level stack said items outer =
    (after : OpenNodes) × (filling : Filling) × ((more : List Said) → lines_taken stack (said ++ more) ≡ lines_taken after more)
    × (lowered_to level after ≡ Some (record { own = record { items = items; filling = filling }; outer = outer }))
    × (optional filling.left ≡ true)

-- a section without leads
no_lead : (sort : Sort) (left : List PlainSection) (item : Entry) → none_led left ≡ true → first_entry sort left ≡ Some item → item.before ≡ None
no_lead sort [] item h e = absurd (none-some item e)
no_lead sort (section ∷ left) item h e = go (same_sort section.sort sort) e
  where
    none : (o : Option (List ℕ)) → is_none o ≡ true → o ≡ None
    none None h = refl
    none (Some text) h = absurd (false≢true h)

    go : (b : Bool) → (if b then Some (record { before = section.lead; next = filling_after section.amount section.sort left }) else None) ≡ Some item
        → item.before ≡ None
    go true e =
        let plain : Some (record { before = section.lead; next = filling_after section.amount section.sort left }) ≡ Some item = e in
        sym (ap (λ (z : Entry). z.before) (some_is plain)) ∙ none section.lead (and_parts (is_none section.lead) (none_led left) h).0
    go false e = absurd (none-some item e)

pub never_led : (sort : Sort) (going : Option Sort) (left : List PlainSection) (item : Entry) → none_led left ≡ true
    → item_entry sort (record { going = going; left = left }) ≡ Some item → item.before ≡ None
never_led sort None left item h e = no_lead sort left item h e
never_led sort (Some own) left item h e = go (same_sort own sort) e
  where
    go : (b : Bool)
        → (if b then Some (record { before = None; next = record { going = Some own; left = left } }) else first_entry sort left) ≡ Some item
        → item.before ≡ None
    go true e =
        let plain : Some (let one : Entry = record { before = None; next = record { going = Some own; left = left } } in one) ≡ Some item = e in
        sym (ap (λ (z : Entry). z.before) (some_is plain))
    go false e = no_lead sort left item h e

-- what is left behind an item has no leads either
pub still_unled : (sort : Sort) (going : Option Sort) (left : List PlainSection) (item : Entry) → none_led left ≡ true
    → item_entry sort (record { going = going; left = left }) ≡ Some item → none_led item.next.left ≡ true
still_unled sort going left item h e = go (goes_on going sort) e
  where
    by : (amount : Amount) (own : Sort) (later : List PlainSection) → (filling_after amount own later).left ≡ later
    by Amount.One own later = refl
    by Amount.Many own later = refl

    first : (later : List PlainSection) → none_led later ≡ true → first_entry sort later ≡ Some item → none_led item.next.left ≡ true
    first [] h e = absurd (none-some item e)
    first (section ∷ later) h e = pick (same_sort section.sort sort) e
      where
        pick : (b : Bool) → (if b then Some (record { before = section.lead; next = filling_after section.amount section.sort later }) else None) ≡ Some item
            → none_led item.next.left ≡ true
        pick true e =
            let plain : Some (record { before = section.lead; next = filling_after section.amount section.sort later }) ≡ Some item = e in
            sym (ap (λ (z : Entry). none_led z.next.left) (some_is plain)) ∙ ap none_led (by section.amount section.sort later)
            ∙ (and_parts (is_none section.lead) (none_led later) h).1
        pick false e = absurd (none-some item e)

    go : (b : Bool) → (if b then Some (record { before = None; next = record { going = going; left = left } }) else first_entry sort left) ≡ Some item
        → none_led item.next.left ≡ true
    go true e =
        let plain : Some (let one : Entry = record { before = None; next = record { going = going; left = left } } in one) ≡ Some item = e in
        sym (ap (λ (z : Entry). none_led z.next.left) (some_is plain)) ∙ h
    go false e = first left h e

pub leads_below : (outer : List OpenNode) (sort : Sort) (filling : Filling) (item : Entry) → LeadsBelow outer filling.left
    → item_entry sort filling ≡ Some item → LeadsBelow outer item.next.left
leads_below [] sort filling item h e = still_unled sort filling.going filling.left item h e
leads_below (frame ∷ outer) sort filling item h e = tt

-- the line before an item is read, if there is one
pub lead_read : (level : ℕ) (stack : OpenNodes) (sort : Sort) (items : Forest) (filling : Filling) (outer : List OpenNode) (item : Entry)
    (before : Option (List ℕ)) → item.before ≡ before
    → lowered_to level stack ≡ Some (record { own = record { items = items; filling = filling }; outer = outer })
    → level ≡ length outer → LeadsBelow outer filling.left → item_entry sort filling ≡ Some item
    → (after : OpenNodes) × (led : Filling) × ((more : List Said) → lines_taken stack (said_lead (level - 1) before ++ more) ≡ lines_taken after more)
    × (lowered_to level after ≡ Some (record { own = record { items = items; filling = led }; outer = outer }))
    × (item_entry sort led ≡ Some (record { before = None; next = item.next }))
lead_read level stack sort items filling outer item None b low high below e =
    (stack, filling, (λ more. refl), low, e ∙ ap (λ z. Some (let one : Entry = record { before = z; next = item.next } in one)) b)
lead_read level stack sort items filling [] item (Some text) b low high below e =
    absurd (none-some text (sym (never_led sort filling.going filling.left item below e) ∙ b))
lead_read level stack sort items filling (frame ∷ outer) item (Some text) b low high below e =
    let led_by = led sort filling.going filling.left item text e b ((bytes_eq-Decides text text).1 refl) in
    let after : OpenNodes = record { own = record { items = items; filling = led_by.0 }; outer = frame ∷ outer } in
    let up : suc (level - 1) ≡ level = omega (arith, high) in
    let does : line_taken stack (record { level = level - 1; saying = Saying.lead text }) ≡ Some after =
    rw (up, low, led_by.1) refl in
    (after, led_by.0, (λ more. ap (option_and_then (λ s. lines_taken s more)) does), rests (record { items = items; filling = led_by.0 }) (frame ∷ outer) level high, led_by.2)

-- the first line of a node opens it
abbrev pub opened_frame : NodeKind → List (Option PlainPhrase) → Forest → Filling → OpenNode
opened_frame kind parts items next = record { kind = kind; parts = parts; around = record { items = items; filling = next } }

abbrev pub opened_stack : NodeKind → List (Option PlainPhrase) → Forest → Filling → List OpenNode → OpenNodes
opened_stack kind parts items next outer =
    record {
      own = record { items = Forest.nil; filling = unfilled (row_of kind).sections };
      outer = opened_frame kind parts items next ∷ outer;
    }

pub head_read : (level : ℕ) (stack : OpenNodes) (kind : NodeKind) (parts : List (Option PlainPhrase)) (items : Forest) (filling next : Filling) (outer : List OpenNode)
    → lowered_to level stack ≡ Some (record { own = record { items = items; filling = filling }; outer = outer })
    → item_entry (sort_of kind) filling ≡ Some (record { before = None; next = next })
    → line_taken stack (record { level = level; saying = Saying.head kind parts }) ≡ Some (opened_stack kind parts items next outer)
head_read level stack kind parts items filling next outer low e =
    rw (low, enters (sort_of kind) filling (record { before = None; next = next }) e refl) refl

-- the node ends, with its last line or without one
pub last_read : (level : ℕ) (stack : OpenNodes) (frame : OpenNode) (items : Forest) (filling : Filling) (outer : List OpenNode) (last : Option (List ℕ))
    → (row_of frame.kind).last ≡ last
    → lowered_to (suc level) stack ≡ Some (record { own = record { items = items; filling = filling }; outer = frame ∷ outer })
    → optional filling.left ≡ true → level ≡ length outer
    → (after : OpenNodes) × ((more : List Said) → lines_taken stack (said_last level last ++ more) ≡ lines_taken after more)
    × (lowered_to level after ≡ Some (record { own = closed (record { items = items; filling = filling }) frame; outer = outer }))
last_read level stack frame items filling outer None is low done high =
    let own : OpenList = record { items = items; filling = filling } in
    let may : shut own frame ≡ Some (closed own frame) = rw (is, done) refl in
    let down = lowered_more level stack.own stack.outer own frame outer (closed own frame) (height_is (suc level) (lowered (suc level) stack.own stack.outer) _ low) high may in
    (stack, (λ more. refl), rw (down, eq-eqb (length outer) level (sym high)) refl)
last_read level stack frame items filling outer (Some text) is low done high =
    let own : OpenList = record { items = items; filling = filling } in
    let after : OpenNodes = record { own = closed own frame; outer = outer } in
    let does : line_taken stack (record { level = level; saying = Saying.last text }) ≡ Some after =
    rw (low, is, (bytes_eq-Decides text text).1 refl, done) refl in
    (after, (λ more. ap (option_and_then (λ s. lines_taken s more)) does), rests (closed own frame) outer level high)

-- ---- tables

pub last_shape : (kind : NodeKind) → (row_of (shape kind)).last ≡ (row_of kind).last
last_shape (NodeKind.Filled Template.If) = refl
last_shape kind = refl

abbrev first_sort : List Sort → Sort
first_sort [] = Sort.Main
first_sort (sort ∷ rest) = sort

pub inner_shape : (level : ℕ) (kind : NodeKind) (inner : Forest) → Fill (row_of kind).sections (sorts inner)
    → sayings level (row_of kind).sections inner ≡ sayings level (row_of (shape kind)).sections inner
inner_shape level (NodeKind.Filled Template.If) Forest.nil h = refl
inner_shape level (NodeKind.Filled Template.If) (Forest.cons label inner Forest.nil) (own, others, is, one, none) =
    let same : sort_of label.kind ≡ Sort.Statement = ap first_sort (is ∙ ap (λ o. o ++ others) one) in
    rw same refl
inner_shape level (NodeKind.Filled Template.If) (Forest.cons label inner (Forest.cons label_2 inner_2 rest)) (own, others, is, one, none) =
    absurd (omega (arith, ap length (is ∙ ap (λ o. o ++ others) one ∙ ap (λ o. Sort.Statement ∷ o) none)))
inner_shape level (NodeKind.Filled template) inner h = refl
inner_shape level kind inner h = refl

-- the lines of a node and of those behind it, as they are read
pub first_sayings : (level : ℕ) (label : Label) (inner rest : Forest) (filling : Filling) (item : Entry)
    → item_entry (sort_of label.kind) filling ≡ Some item → Fill (row_of label.kind).sections (sorts inner)
    → sayings level (sections_of filling) (Forest.cons label inner rest)
    ≡ said_lead (level - 1) item.before
    ++ (record { level = level; saying = Saying.head (shape label.kind) label.parts }
    ∷ (sayings (level + 1) (row_of (shape label.kind)).sections inner
    ++ (said_last level (row_of (shape label.kind)).last ++ sayings level (sections_of item.next) rest)))
first_sayings level label inner rest filling item e h =
    let at = here (sort_of label.kind) filling.going filling.left item e in
    rw (at.0, at.1, inner_shape (level + 1) label.kind inner h, last_shape label.kind) refl

-- the kind of a node without what a listing doesn't show
sorts_bare : (items : Forest) → sorts (Bare items) ≡ sorts items
sorts_bare Forest.nil = refl
sorts_bare (Forest.cons label inner rest) = ap (λ z. sort_of label.kind ∷ z) (sorts_bare rest)

pub kind_bare : (kind : NodeKind) (inner : Forest) → Fill (row_of kind).sections (sorts inner) → kind_with (shape kind) (Bare inner) ≡ kind
kind_bare kind inner h = kind_is kind (Bare inner) (rw (sorts_bare inner) h)

-- ---- all nodes

append_four : (a : List Said) (x : Said) (b c d more : List Said) → (a ++ (x ∷ (b ++ (c ++ d)))) ++ more ≡ a ++ (x ∷ (b ++ (c ++ (d ++ more))))
append_four a x b c d more =
    append_assoc a (x ∷ (b ++ (c ++ d))) more
    ∙ ap (λ z. a ++ (x ∷ z)) (append_assoc b (c ++ d) more ∙ ap (λ z. b ++ z) (append_assoc c d more))

pub arrives : (level : ℕ) (nodes : Forest) (filling : Filling) (items : Forest) (outer : List OpenNode) (stack : OpenNodes)
    → AreNodes nodes → fills filling (sorts nodes) ≡ true → level ≡ length outer → LeadsBelow outer filling.left
    → lowered_to level stack ≡ Some (record { own = record { items = items; filling = filling }; outer = outer })
    → Arrived level stack (sayings level (sections_of filling) nodes) (join items (Bare nodes)) outer
arrives level Forest.nil filling items outer stack sound all high below low = (
  stack,
  filling,
  (λ more. refl),
  low ∙ ap (λ z. Some (let one : OpenNodes = record { own = record { items = z; filling = filling }; outer = outer } in one)) (sym (join_nil items)),
  all,
)
arrives level (Forest.cons label inner rest) filling items outer stack sound all high below low =
    let next = if_some_parts (λ (i : Entry). fills i.next (sorts rest)) (item_entry (sort_of label.kind) filling) all in
    let item = next.0 in
    let ahead = lead_read level stack (sort_of label.kind) items filling outer item item.before refl low high below next.1 in
    let kind = shape label.kind in
    let frame = opened_frame kind label.parts items item.next in
    let into = opened_stack kind label.parts items item.next outer in
    let enter : item_entry (sort_of kind) ahead.1 ≡ Some (record { before = None; next = item.next }) = rw (sort_shape label.kind) ahead.4 in
    let enters_it = head_read level ahead.0 kind label.parts items ahead.1 item.next outer ahead.3 enter in
    let up : level + 1 ≡ length (frame ∷ outer) = omega (arith, high) in
    let inside =
    arrives (level + 1) inner (unfilled (row_of kind).sections) Forest.nil (frame ∷ outer) into sound.1
    (node_fills label.kind (sorts inner) sound.0.inner) up tt
    (rests into.own into.outer (level + 1) up) in
    let shutting =
    last_read level inside.0 frame (Bare inner) inside.1 outer (row_of kind).last refl
    (rw (sym (add-one level)) inside.3) inside.4 high in
    let made : join items (node_of frame (Bare inner)) ≡ join items (Forest.cons (built_label label.kind label.parts 0) (Bare inner) Forest.nil) =
    ap (λ k. join items (Forest.cons (built_label k label.parts 0) (Bare inner) Forest.nil))
    (kind_bare label.kind inner sound.0.inner) in
    let behind_it =
    arrives level rest item.next (join items (node_of frame (Bare inner))) outer shutting.0 sound.2 next.2 high
    (leads_below outer (sort_of label.kind) filling item below next.1) shutting.2 in (
      behind_it.0,
      behind_it.1,
      (λ more.
          ap (λ z. lines_taken stack (z ++ more)) (first_sayings level label inner rest filling item next.1 sound.0.inner)
          ∙ ap (lines_taken stack) (append_four (said_lead (level - 1) item.before) _ (sayings (level + 1) (row_of kind).sections inner) (said_last level (row_of kind).last) (sayings level (sections_of item.next) rest) more)
          ∙ ahead.2 _
          ∙ ap (option_and_then (λ s. lines_taken s (sayings (level + 1) (row_of kind).sections inner ++ (said_last level (row_of kind).last ++ (sayings level (sections_of item.next) rest ++ more))))) enters_it
          ∙ inside.2 _ ∙ shutting.1 _ ∙ behind_it.2 more),
      behind_it.3
          ∙ ap (λ z. Some (let one : OpenNodes = record { own = record { items = z; filling = behind_it.1 }; outer = outer } in one))
          (ap (λ z. join z (Bare rest)) made ∙ join_assoc items (Forest.cons (built_label label.kind label.parts 0) (Bare inner) Forest.nil) (Bare rest)),
      behind_it.4,
    )

-- the lines of a program
pub program_arrives : (items : Forest) → IsProgram items
    → (after : OpenNodes) × (lines_taken unread (sayings 0 program_sections items) ≡ Some after) × (program_of after ≡ Some (Bare items))
program_arrives items program =
    let all = arrives 0 items (unfilled program_sections) Forest.nil [] unread program.sound (program_fills (sorts items) program.listed) refl refl refl in (
      all.0,
      ap (lines_taken unread) (sym (append-nil (sayings 0 program_sections items))) ∙ all.2 [],
      rw (height_is 0 (lowered 0 all.0.own all.0.outer) _ all.3, all.4) refl,
    )
