-- What the reader has taken is the front of a listing.
use Rattle.std.specs.Prelude.{◌≡◌, refl, ℕ, zero, suc, ◌+◌, ◌-◌, Bool, true, false, ◌&&◌, not, ◌==◌, nat_le, if◌then◌else◌, List, [], ◌∷◌, ◌++◌, length, All, Option, Some, None, is_none, option_map, option_and_then}
use Rattle.std.proofs.Common.{ap, sym, ◌∙◌, arith, add-one, append_assoc, subst}
use Rattle.std.proofs.Math.Bool.{false≢true, true≢false}
use Rattle.std.proofs.lemmas.Bool.{and_parts, lt-leb, eqb-true}
use Rattle.std.proofs.lemmas.List.{append-nil}
use Rattle.std.proofs.lemmas.Option.{none-some}
use Rattle.std.proofs.lemmas.Slice.Eq.{bytes_eq-Decides}
use Rattle.plcs_grammar.specs.declared.node_kind.NodeKind.{NodeKind}
use Rattle.plcs_grammar.specs.declared.node_kind.Sort.{Sort}
use Rattle.plcs_grammar.specs.declared.row.Amount.{Amount}
use Rattle.plcs_grammar.specs.declared.template.Template.{Template}
use Rattle.plcs_grammar.specs.PlainPhrase.{PlainPhrase}
use Rattle.plcs_grammar.specs.Template.{PlainSection, row_of, program_sections}
use Rattle.template_tree.specs.Programs.Build.{built_label}
use Rattle.template_tree.specs.Programs.PlainTree.{Label, Forest, join}
use Rattle.template_tree.specs.Programs.Program.{AreNodes, AreParts, IsNode, IsProgram, parts_of, sorts, sort_of}
use Rattle.template_tree.specs.Listings.Section.{same_sort}
use Rattle.file_store.specs.Private.Reader.{shape, Saying, Said, IsSaying, Filling, Entry, unfilled, filling_after, first_entry, goes_on, item_entry, advanced, is_text, led_sections, optional, OpenList, OpenNode, OpenNodes, unread, kind_with, node_of, closed, shut, lowered, at_height, lowered_to, with_open_node, begun, with_filling, led_in, ended_in, line_taken_at, line_taken, lines_taken, finished, program_of, said_lead, said_last, sayings}
use Rattle.file_store.proofs.Fillings.{fills, if_some, if_some_parts, sections_of, some_is, sort_shape, same_sort_refl, same_sort_is, entered, filled, node_filled}
use Rattle.file_store.proofs.Arrivals.{join_nil, join_assoc, first_sayings, opened_frame, opened_stack}
use Rattle.file_store.proofs.Texts.{AreSayings}

-- ---- a list that goes on is no list of what comes behind it

abbrev many_sort : Amount → Sort → Option Sort
many_sort Amount.One sort = None
many_sort Amount.Many sort = Some sort

behind_is : (amount : Amount) (sort : Sort) (left : List PlainSection) → filling_after amount sort left ≡ record { going = many_sort amount sort; left = left }
behind_is Amount.One sort left = refl
behind_is Amount.Many sort left = refl

abbrev pub differs : Option Sort → List PlainSection → Bool
differs None left = true
differs (Some sort) [] = true
differs (Some sort) (section ∷ left) = not (same_sort sort section.sort)

abbrev pub apart_sections : List PlainSection → Bool
apart_sections [] = true
apart_sections (section ∷ left) = differs (many_sort section.amount section.sort) left && apart_sections left

abbrev pub apart : Filling → Bool
apart filling = differs filling.going filling.left && apart_sections filling.left

row_apart : (kind : NodeKind) → apart (unfilled (row_of kind).sections) ≡ true
row_apart (NodeKind.Filled Template.Fixed) = refl
row_apart (NodeKind.Filled template) = refl
row_apart NodeKind.Main = refl
row_apart kind = refl

first_apart : (sort : Sort) (left : List PlainSection) (item : Entry) → apart_sections left ≡ true → first_entry sort left ≡ Some item → apart item.next ≡ true
first_apart sort [] item h e = absurd (none-some item e)
first_apart sort (section ∷ left) item h e = go (same_sort section.sort sort) e
  where
    go : (b : Bool) → (if b then Some (record { before = section.lead; next = filling_after section.amount section.sort left }) else None) ≡ Some item
        → apart item.next ≡ true
    go true e =
        let plain : Some (record { before = section.lead; next = filling_after section.amount section.sort left }) ≡ Some item = e in
        sym (ap (λ (z : Entry). apart z.next) (some_is plain)) ∙ ap apart (behind_is section.amount section.sort left) ∙ h
    go false e = absurd (none-some item e)

entry_apart : (sort : Sort) (filling : Filling) (item : Entry) → apart filling ≡ true → item_entry sort filling ≡ Some item → apart item.next ≡ true
entry_apart sort filling item h e = go (goes_on filling.going sort) e
  where
    go : (b : Bool) → (if b then Some (record { before = None; next = filling }) else first_entry sort filling.left) ≡ Some item → apart item.next ≡ true
    go true e =
        let plain : Some (let one : Entry = record { before = None; next = filling } in one) ≡ Some item = e in
        sym (ap (λ (z : Entry). apart z.next) (some_is plain)) ∙ h
    go false e = first_apart sort filling.left item (and_parts (differs filling.going filling.left) (apart_sections filling.left) h).1 e

abbrev pub ApartFrames : List OpenNode → Type 0
ApartFrames [] = Unit {0}
ApartFrames (frame ∷ outer) = (apart frame.around.filling ≡ true) × ApartFrames outer

abbrev pub IsApart : OpenNodes → Type 0
IsApart stack = (apart stack.own.filling ≡ true) × ApartFrames stack.outer

lowered_apart : (level : ℕ) (own : OpenList) (outer : List OpenNode) (after : OpenNodes) → apart own.filling ≡ true → ApartFrames outer
    → lowered level own outer ≡ Some after → IsApart after
lowered_apart level own [] after h k e =
    let plain : Some (let one : OpenNodes = record { own = own; outer = [] } in one) ≡ Some after = e in
    subst IsApart (some_is plain) (h, tt)
lowered_apart level own (frame ∷ outer) after h k e =
    go (λ list l. lowered_apart level list outer after l k.1) (nat_le (suc (length outer)) level) e
  where
    below : ((list : OpenList) → apart list.filling ≡ true → lowered level list outer ≡ Some after → IsApart after)
        → (b : Bool) → option_and_then (λ list. lowered level list outer) (if b then Some (closed own frame) else None) ≡ Some after → IsApart after
    below more true e = more (closed own frame) k.0 e
    below more false e = absurd (none-some after e)

    go : ((list : OpenList) → apart list.filling ≡ true → lowered level list outer ≡ Some after → IsApart after) → (b : Bool)
        → (if b then Some (record { own = own; outer = frame ∷ outer }) else option_and_then (λ list. lowered level list outer) (shut own frame)) ≡ Some after
        → IsApart after
    go more true e =
        let plain : Some (let one : OpenNodes = record { own = own; outer = frame ∷ outer } in one) ≡ Some after = e in
        subst IsApart (some_is plain) (h, k)
    go more false e = below more (is_none (row_of frame.kind).last && optional own.filling.left) e

-- ---- what may still come

abbrev pub Coming : Filling → Type 0
Coming filling = (more : Forest) × AreNodes more × (fills filling (sorts more) ≡ true)

abbrev pub Continues : Filling → List OpenNode → Type 0
Continues filling [] = Coming filling
Continues filling (frame ∷ outer) = Coming filling × Continues frame.around.filling outer

-- the program that the open lists become with what comes
abbrev pub whole : (items : Forest) (filling : Filling) (outer : List OpenNode) → Continues filling outer → Forest
whole items filling [] k = join items k.0
whole items filling (frame ∷ outer) k =
    whole (join frame.around.items (node_of frame (join items k.0.0))) frame.around.filling outer k.1

-- the lines that come
abbrev pub remains : (filling : Filling) (outer : List OpenNode) → Continues filling outer → List Said
remains filling [] k = sayings 0 (sections_of filling) k.0
remains filling (frame ∷ outer) k =
    sayings (suc (length outer)) (sections_of filling) k.0.0
    ++ (said_last (length outer) (row_of frame.kind).last ++ remains frame.around.filling outer k.1)

-- the lines lead from the one stack to the other: what comes behind them comes with them behind the one
abbrev pub Pulls : (from to : OpenNodes) → List Said → Type 0
Pulls from to ls =
    (k : Continues to.own.filling to.outer)
    → (back : Continues from.own.filling from.outer)
    × (whole from.own.items from.own.filling from.outer back ≡ whole to.own.items to.own.filling to.outer k)
    × (remains from.own.filling from.outer back ≡ ls ++ remains to.own.filling to.outer k)

pull_more : (a b c : OpenNodes) (ls ms : List Said) → Pulls a b ls → Pulls b c ms → Pulls a c (ls ++ ms)
pull_more a b c ls ms f g k =
    let second = g k in
    let first = f second.0 in (
      first.0,
      first.1 ∙ second.1,
      first.2 ∙ ap (λ z. ls ++ z) second.2 ∙ sym (append_assoc ls ms (remains c.own.filling c.outer k)),
    )

pull_same : (a b : OpenNodes) → a ≡ b → Pulls a b []
pull_same a b e = subst (λ z. Pulls a z []) e (λ k. (k, refl, refl))

-- a change of the innermost list alone
pull_own : (outer : List OpenNode) (f g : Filling) (i j : Forest) (ls : List Said)
    → ((c : Coming g) → (d : Coming f) × (join i d.0 ≡ join j c.0) × (sayings (length outer) (sections_of f) d.0 ≡ ls ++ sayings (length outer) (sections_of g) c.0))
    → Pulls (record { own = record { items = i; filling = f }; outer = outer }) (record { own = record { items = j; filling = g }; outer = outer }) ls
pull_own [] f g i j ls change k = change k
pull_own (frame ∷ outer) f g i j ls change k =
    let own = change k.0 in
    let later = said_last (length outer) (row_of frame.kind).last ++ remains frame.around.filling outer k.1 in (
      (own.0, k.1),
      ap (λ z. whole (join frame.around.items (node_of frame z)) frame.around.filling outer k.1) own.1,
      ap (λ z. z ++ later) own.2 ∙ append_assoc ls (sayings (suc (length outer)) (sections_of g) k.0.0) later,
    )

-- ---- a node ends

pull_end : (own : OpenList) (frame : OpenNode) (outer : List OpenNode) → optional own.filling.left ≡ true
    → Pulls (record { own = own; outer = frame ∷ outer }) (record { own = closed own frame; outer = outer }) (said_last (length outer) (row_of frame.kind).last)
pull_end own frame outer done k = (
  ((Forest.nil, tt, done), k),
  ap (λ z. whole (join frame.around.items (node_of frame z)) frame.around.filling outer k) (join_nil own.items),
  refl,
)

no_last : (level : ℕ) (last : Option (List ℕ)) → is_none last ≡ true → said_last level last ≡ []
no_last level None h = refl
no_last level (Some text) h = absurd (false≢true h)

pull_lowered : (level : ℕ) (own : OpenList) (outer : List OpenNode) (after : OpenNodes) → lowered level own outer ≡ Some after
    → Pulls (record { own = own; outer = outer }) after []
pull_lowered level own [] after e =
    let plain : Some (let one : OpenNodes = record { own = own; outer = [] } in one) ≡ Some after = e in
    pull_same _ after (some_is plain)
pull_lowered level own (frame ∷ outer) after e =
    go (λ list. pull_lowered level list outer after) (nat_le (suc (length outer)) level) e
  where
    below : ((list : OpenList) → lowered level list outer ≡ Some after → Pulls (record { own = list; outer = outer }) after [])
        → (b : Bool) → (is_none (row_of frame.kind).last && optional own.filling.left) ≡ b
        → option_and_then (λ list. lowered level list outer) (if b then Some (closed own frame) else None) ≡ Some after
        → Pulls (record { own = own; outer = frame ∷ outer }) after []
    below more true h e =
        let both = and_parts (is_none (row_of frame.kind).last) (optional own.filling.left) h in
        pull_more (record { own = own; outer = frame ∷ outer }) (record { own = closed own frame; outer = outer }) after [] []
        (subst (λ z. Pulls (record { own = own; outer = frame ∷ outer }) (record { own = closed own frame; outer = outer }) z)
        (no_last (length outer) (row_of frame.kind).last both.0) (pull_end own frame outer both.1))
        (more (closed own frame) e)
    below more false h e = absurd (none-some after e)

    go : ((list : OpenList) → lowered level list outer ≡ Some after → Pulls (record { own = list; outer = outer }) after []) → (b : Bool)
        → (if b then Some (record { own = own; outer = frame ∷ outer }) else option_and_then (λ list. lowered level list outer) (shut own frame)) ≡ Some after
        → Pulls (record { own = own; outer = frame ∷ outer }) after []
    go more true e =
        let plain : Some (let one : OpenNodes = record { own = own; outer = frame ∷ outer } in one) ≡ Some after = e in
        pull_same _ after (some_is plain)
    go more false e = below more (is_none (row_of frame.kind).last && optional own.filling.left) refl e

-- ---- a node begins

shape_with : (kind : NodeKind) (items : Forest) → shape kind ≡ kind → shape (kind_with kind items) ≡ kind
shape_with (NodeKind.Filled Template.IfElse) Forest.nil h = refl
shape_with (NodeKind.Filled Template.IfElse) (Forest.cons label inner Forest.nil) h = refl
shape_with (NodeKind.Filled Template.IfElse) (Forest.cons label inner (Forest.cons label_2 inner_2 rest)) h = refl
shape_with (NodeKind.Filled template) items h = h
shape_with kind items h = h

unshaped_parts : (kind : NodeKind) (items : Forest) (parts : List (Option PlainPhrase)) → AreParts (parts_of (row_of kind).line) parts
    → AreParts (parts_of (row_of (kind_with kind items)).line) parts
unshaped_parts (NodeKind.Filled Template.IfElse) Forest.nil parts h = h
unshaped_parts (NodeKind.Filled Template.IfElse) (Forest.cons label inner Forest.nil) parts h = h
unshaped_parts (NodeKind.Filled Template.IfElse) (Forest.cons label inner (Forest.cons label_2 inner_2 rest)) parts h = h
unshaped_parts (NodeKind.Filled template) items parts h = h
unshaped_parts kind items parts h = h

node_sound : (kind : NodeKind) (parts : List (Option PlainPhrase)) (inner : Forest) → IsSaying (Saying.head kind parts)
    → fills (unfilled (row_of kind).sections) (sorts inner) ≡ true → IsNode (built_label (kind_with kind inner) parts 0) (sorts inner)
node_sound kind parts inner h e =
    record {
      parts = unshaped_parts kind inner parts h.1;
      inner = node_filled kind inner h.0 e;
      elision = λ e. absurd (false≢true e);
    }

pull_head : (own : OpenList) (outer : List OpenNode) (kind : NodeKind) (parts : List (Option PlainPhrase)) (next : Filling)
    → IsSaying (Saying.head kind parts) → item_entry (sort_of kind) own.filling ≡ Some (record { before = None; next = next })
    → Pulls (record { own = own; outer = outer }) (opened_stack kind parts own.items next outer)
    (record { level = length outer; saying = Saying.head kind parts } ∷ [])
pull_head own outer kind parts next h e k =
    let inner = k.0.0 in
    let frame = opened_frame kind parts own.items next in
    let label = built_label (kind_with kind inner) parts 0 in
    let node = node_sound kind parts inner h k.0.2 in
    let said : Said = record { level = length outer; saying = Saying.head kind parts } in
    let same : shape (kind_with kind inner) ≡ kind = shape_with kind inner h.0 in
    let sort : sort_of (kind_with kind inner) ≡ sort_of kind = sym (sort_shape (kind_with kind inner)) ∙ ap sort_of same in
    let own_lines = sayings (length outer + 1) (row_of kind).sections inner in
    let last = said_last (length outer) (row_of kind).last in
    let comes : item_entry (sort_of (kind_with kind inner)) own.filling ≡ Some (record { before = None; next = next }) = ap (λ s. item_entry s own.filling) sort ∙ e in
    let pulled =
    pull_own outer own.filling next own.items (join own.items (node_of frame inner)) (said ∷ (own_lines ++ last))
    (λ c. (
      (Forest.cons label inner c.0, (node, k.0.1, c.1), ap (if_some (λ (i : Entry). fills i.next (sorts c.0))) comes ∙ c.2),
      sym (join_assoc own.items (node_of frame inner) c.0),
      first_sayings (length outer) label inner c.0 own.filling (record { before = None; next = next }) comes node.inner
          ∙ ap (λ z. record { level = length outer; saying = Saying.head z parts } ∷ (sayings (length outer + 1) (row_of z).sections inner ++ (said_last (length outer) (row_of z).last ++ sayings (length outer) (sections_of next) c.0))) same
          ∙ ap (λ z. said ∷ z) (sym (append_assoc own_lines last (sayings (length outer) (sections_of next) c.0))),
    ))
    k.1 in (
      pulled.0,
      pulled.1,
      pulled.2
          ∙ ap (λ z. said ∷ z) (append_assoc own_lines last (remains next outer k.1))
          ∙ ap (λ n. said ∷ (sayings n (row_of kind).sections inner ++ (last ++ remains next outer k.1))) (add-one (length outer)),
    )

-- ---- the line before a section

not_true : (b : Bool) → not b ≡ true → b ≡ false
not_true true h = absurd (false≢true h)
not_true false h = refl

led_entry : (text : List ℕ) (going : Option Sort) (left : List PlainSection) (led : Filling) (sort : Sort) (item : Entry)
    → apart (record { going = going; left = left }) ≡ true → led_sections text left ≡ Some led → item_entry sort led ≡ Some item
    → (item.before ≡ None) × (item_entry sort (record { going = going; left = left }) ≡ Some (record { before = Some text; next = item.next }))
led_entry text going [] led sort item h is e = absurd (none-some led is)
led_entry text going (section ∷ left) led sort item h is e = go (is_text text section.lead) refl is
  where
    text_is : (lead : Option (List ℕ)) → is_text text lead ≡ true → lead ≡ Some text
    text_is None t = absurd (false≢true t)
    text_is (Some own) t = ap (λ z. Some z) (sym ((bytes_eq-Decides text own).0 t))

    away : (going : Option Sort) → differs going (section ∷ left) ≡ true → section.sort ≡ sort → goes_on going sort ≡ false
    away None d s = refl
    away (Some own) d s = ap (same_sort own) (sym s) ∙ not_true (same_sort own section.sort) d

    by : (b : Bool) → same_sort section.sort sort ≡ b → is_text text section.lead ≡ true
        → (if b then Some (record { before = None; next = filling_after section.amount section.sort left }) else None) ≡ Some item
        → (item.before ≡ None) × (item_entry sort (record { going = going; left = section ∷ left }) ≡ Some (record { before = Some text; next = item.next }))
    by true s t e =
        let plain : Some (let one : Entry = record { before = None; next = filling_after section.amount section.sort left } in one) ≡ Some item = e in
        let sort_is : section.sort ≡ sort = same_sort_is section.sort sort s in (
          sym (ap (λ (z : Entry). z.before) (some_is plain)),
          rw (away going (and_parts (differs going (section ∷ left)) (apart_sections (section ∷ left)) h).0 sort_is, s, text_is section.lead t)
              (ap (λ (z : Entry). Some (let one : Entry = record { before = Some text; next = z.next } in one)) (some_is plain)),
        )
    by false s t e = absurd (none-some item e)

    go : (b : Bool) → is_text text section.lead ≡ b
        → (if b then Some (unfilled (record section { lead = None } ∷ left)) else None) ≡ Some led
        → (item.before ≡ None) × (item_entry sort (record { going = going; left = section ∷ left }) ≡ Some (record { before = Some text; next = item.next }))
    go true t is =
        let plain : Some (unfilled (record section { lead = None } ∷ left)) ≡ Some led = is in
        by (same_sort section.sort sort) refl t (ap (item_entry sort) (some_is plain) ∙ e)
    go false t is = absurd (none-some led is)

-- it is wanted by an item
led_wanted : (text : List ℕ) (left : List PlainSection) (led : Filling) → led_sections text left ≡ Some led → optional led.left ≡ true → ⊥
led_wanted text [] led is o = none-some led is
led_wanted text (section ∷ left) led is o = go (is_text text section.lead) is
  where
    go : (b : Bool) → (if b then Some (unfilled (record section { lead = None } ∷ left)) else None) ≡ Some led → ⊥
    go true is =
        let plain : Some (unfilled (record section { lead = None } ∷ left)) ≡ Some led = is in
        false≢true (ap (λ (f : Filling). optional f.left) (some_is plain) ∙ o)
    go false is = none-some led is

led_apart : (text : List ℕ) (filling led : Filling) → apart filling ≡ true → led_sections text filling.left ≡ Some led → apart led ≡ true
led_apart text filling led h is = go filling.left (and_parts (differs filling.going filling.left) (apart_sections filling.left) h).1 is
  where
    by : (section : PlainSection) (left : List PlainSection) → apart_sections (section ∷ left) ≡ true → (b : Bool)
        → (if b then Some (unfilled (record section { lead = None } ∷ left)) else None) ≡ Some led → apart led ≡ true
    by section left h true is =
        let plain : Some (unfilled (record section { lead = None } ∷ left)) ≡ Some led = is in
        sym (ap apart (some_is plain)) ∙ h
    by section left h false is = absurd (none-some led is)

    go : (left : List PlainSection) → apart_sections left ≡ true → led_sections text left ≡ Some led → apart led ≡ true
    go [] h is = absurd (none-some led is)
    go (section ∷ left) h is = by section left h (is_text text section.lead) is

pull_lead : (own : OpenList) (frame : OpenNode) (outer : List OpenNode) (text : List ℕ) (led : Filling) → apart own.filling ≡ true
    → led_sections text own.filling.left ≡ Some led
    → Pulls (record { own = own; outer = frame ∷ outer }) (record { own = record { items = own.items; filling = led }; outer = frame ∷ outer })
    (record { level = length outer; saying = Saying.lead text } ∷ [])
pull_lead own frame outer text led h is =
    pull_own (frame ∷ outer) own.filling led own.items own.items (record { level = length outer; saying = Saying.lead text } ∷ []) (λ c. go c.0 c.1 c.2)
  where
    go : (more : Forest) → AreNodes more → fills led (sorts more) ≡ true
        → (d : Coming own.filling) × (join own.items d.0 ≡ join own.items more)
        × (sayings (suc (length outer)) (sections_of own.filling) d.0 ≡ (record { level = length outer; saying = Saying.lead text } ∷ []) ++ sayings (suc (length outer)) (sections_of led) more)
    go Forest.nil sound all = absurd (led_wanted text own.filling.left led is all)
    go (Forest.cons label inner rest) sound all =
        let next = if_some_parts (λ (i : Entry). fills i.next (sorts rest)) (item_entry (sort_of label.kind) led) all in
        let comes = led_entry text own.filling.going own.filling.left led (sort_of label.kind) next.0 h is next.1 in
        let back : suc (length outer) - 1 ≡ length outer = omega arith in (
          (Forest.cons label inner rest, sound, ap (if_some (λ (i : Entry). fills i.next (sorts rest))) comes.1 ∙ next.2),
          refl,
          first_sayings (suc (length outer)) label inner rest own.filling (record { before = Some text; next = next.0.next }) comes.1 sound.0.inner
              ∙ ap (λ n. record { level = n; saying = Saying.lead text } ∷ behind_lead label inner rest next.0) back
              ∙ ap (λ z. record { level = length outer; saying = Saying.lead text } ∷ z)
              (sym (first_sayings (suc (length outer)) label inner rest led next.0 next.1 sound.0.inner
              ∙ ap (λ z. said_lead (suc (length outer) - 1) z ++ behind_lead label inner rest next.0) comes.0)),
        )
      where
        behind_lead : Label → Forest → Forest → Entry → List Said
        behind_lead label inner rest item =
            record { level = suc (length outer); saying = Saying.head (shape label.kind) label.parts }
            ∷ (sayings (suc (length outer) + 1) (row_of (shape label.kind)).sections inner
            ++ (said_last (suc (length outer)) (row_of (shape label.kind)).last ++ sayings (suc (length outer)) (sections_of item.next) rest))

-- ---- a line

-- the lines lead on, and lists stay apart
pub record Leads (from to : OpenNodes) (ls : List Said) : Type 0 where
  pub pulls : Pulls from to ls
  pub apart_still : IsApart to

height : (level : ℕ) (stack after : OpenNodes) → at_height level stack ≡ Some after → (stack ≡ after) × (level ≡ length after.outer)
height level stack after e = go (length stack.outer == level) refl e
  where
    go : (b : Bool) → (length stack.outer == level) ≡ b → (if b then Some stack else None) ≡ Some after → (stack ≡ after) × (level ≡ length after.outer)
    go true h e =
        let plain : Some stack ≡ Some after = e in
        (some_is plain, sym (eqb-true (length stack.outer) level h) ∙ ap (λ (s : OpenNodes). length s.outer) (some_is plain))
    go false h e = absurd (none-some after e)

lowered_leads : (level : ℕ) (stack after : OpenNodes) → IsApart stack → lowered_to level stack ≡ Some after
    → Leads stack after [] × (level ≡ length after.outer)
lowered_leads level stack after h e = go (lowered level stack.own stack.outer) refl e
  where
    go : (o : Option OpenNodes) → lowered level stack.own stack.outer ≡ o → option_and_then (at_height level) o ≡ Some after
        → Leads stack after [] × (level ≡ length after.outer)
    go None l e = absurd (none-some after e)
    go (Some s) l e =
        let same = height level s after e in
        let down : lowered level stack.own stack.outer ≡ Some after = l ∙ ap (λ z. Some z) same.0 in
        (record { pulls = pull_lowered level stack.own stack.outer after down; apart_still = lowered_apart level stack.own stack.outer after h.0 h.1 down }, same.1)

step_leads : (stack after : OpenNodes) (level : ℕ) (saying : Saying) → IsSaying saying → IsApart stack → line_taken_at stack level saying ≡ Some after
    → Leads stack after (record { level = level; saying = saying } ∷ [])
step_leads stack after level (Saying.head kind parts) h k e = go (lowered_to level stack) refl e
  where
    at : (s : OpenNodes) → lowered_to level stack ≡ Some s → (o : Option Filling) → advanced (sort_of kind) s.own.filling ≡ o
        → option_map (with_open_node kind parts s) o ≡ Some after → Leads stack after (record { level = level; saying = Saying.head kind parts } ∷ [])
    at s l None a e = absurd (none-some after e)
    at s l (Some next) a e =
        let down = lowered_leads level stack s k l in
        let comes = entered (sort_of kind) s.own.filling next a in
        let plain : Some (with_open_node kind parts s next) ≡ Some after = e in
        subst (λ z. Leads stack z (record { level = level; saying = Saying.head kind parts } ∷ [])) (some_is plain)
        (subst (λ n. Leads stack (with_open_node kind parts s next) (record { level = n; saying = Saying.head kind parts } ∷ [])) (sym down.1)
        record {
          pulls =
              pull_more stack s (with_open_node kind parts s next) [] (record { level = length s.outer; saying = Saying.head kind parts } ∷ []) down.0.pulls
              (pull_head s.own s.outer kind parts next h comes);
          apart_still =
              (row_apart kind, (entry_apart (sort_of kind) s.own.filling (record { before = None; next = next }) down.0.apart_still.0 comes, down.0.apart_still.1));
        })

    go : (o : Option OpenNodes) → lowered_to level stack ≡ o → option_and_then (begun kind parts) o ≡ Some after
        → Leads stack after (record { level = level; saying = Saying.head kind parts } ∷ [])
    go None l e = absurd (none-some after e)
    go (Some s) l e = at s l (advanced (sort_of kind) s.own.filling) refl e
step_leads stack after level (Saying.lead text) h k e = go (lowered_to (suc level) stack) refl e
  where
    by : (own : OpenList) (frame : OpenNode) (outer : List OpenNode) → lowered_to (suc level) stack ≡ Some (record { own = own; outer = frame ∷ outer })
        → (o : Option Filling) → led_sections text own.filling.left ≡ o
        → option_map (with_filling (record { own = own; outer = frame ∷ outer })) o ≡ Some after
        → Leads stack after (record { level = level; saying = Saying.lead text } ∷ [])
    by own frame outer l None a e = absurd (none-some after e)
    by own frame outer l (Some led) a e =
        let s : OpenNodes = record { own = own; outer = frame ∷ outer } in
        let down = lowered_leads (suc level) stack s k l in
        let plain : Some (with_filling s led) ≡ Some after = e in
        let level_is : level ≡ length outer = omega (arith, down.1) in
        subst (λ z. Leads stack z (record { level = level; saying = Saying.lead text } ∷ [])) (some_is plain)
        (subst (λ n. Leads stack (with_filling s led) (record { level = n; saying = Saying.lead text } ∷ [])) (sym level_is)
        record {
          pulls =
              pull_more stack s (with_filling s led) [] (record { level = length outer; saying = Saying.lead text } ∷ []) down.0.pulls
              (pull_lead own frame outer text led down.0.apart_still.0 a);
          apart_still = (led_apart text own.filling led down.0.apart_still.0 a, down.0.apart_still.1);
        })

    at : (own : OpenList) (outer : List OpenNode) → lowered_to (suc level) stack ≡ Some (record { own = own; outer = outer })
        → led_in text (record { own = own; outer = outer }) outer ≡ Some after → Leads stack after (record { level = level; saying = Saying.lead text } ∷ [])
    at own [] l e = absurd (none-some after e)
    at own (frame ∷ outer) l e = by own frame outer l (led_sections text own.filling.left) refl e

    go : (o : Option OpenNodes) → lowered_to (suc level) stack ≡ o → option_and_then (λ s. led_in text s s.outer) o ≡ Some after
        → Leads stack after (record { level = level; saying = Saying.lead text } ∷ [])
    go None l e = absurd (none-some after e)
    go (Some s) l e = at s.own s.outer l e
step_leads stack after level (Saying.last text) h k e = go (lowered_to (suc level) stack) refl e
  where
    text_is : (last : Option (List ℕ)) → is_text text last ≡ true → last ≡ Some text
    text_is None t = absurd (false≢true t)
    text_is (Some own) t = ap (λ z. Some z) (sym ((bytes_eq-Decides text own).0 t))

    by : (own : OpenList) (frame : OpenNode) (outer : List OpenNode) → lowered_to (suc level) stack ≡ Some (record { own = own; outer = frame ∷ outer })
        → (b : Bool) → (is_text text (row_of frame.kind).last && optional own.filling.left) ≡ b
        → (if b then Some (record { own = closed own frame; outer = outer }) else None) ≡ Some after
        → Leads stack after (record { level = level; saying = Saying.last text } ∷ [])
    by own frame outer l false a e = absurd (none-some after e)
    by own frame outer l true a e =
        let s : OpenNodes = record { own = own; outer = frame ∷ outer } in
        let down = lowered_leads (suc level) stack s k l in
        let plain : Some (let one : OpenNodes = record { own = closed own frame; outer = outer } in one) ≡ Some after = e in
        let level_is : level ≡ length outer = omega (arith, down.1) in
        let both = and_parts (is_text text (row_of frame.kind).last) (optional own.filling.left) a in
        subst (λ z. Leads stack z (record { level = level; saying = Saying.last text } ∷ [])) (some_is plain)
        (subst (λ n. Leads stack (record { own = closed own frame; outer = outer }) (record { level = n; saying = Saying.last text } ∷ [])) (sym level_is)
        record {
          pulls =
              pull_more stack s (record { own = closed own frame; outer = outer }) [] (record { level = length outer; saying = Saying.last text } ∷ []) down.0.pulls
              (subst (λ z. Pulls s (record { own = closed own frame; outer = outer }) (said_last (length outer) z)) (text_is (row_of frame.kind).last both.0)
              (pull_end own frame outer both.1));
          apart_still = (down.0.apart_still.1.0, down.0.apart_still.1.1);
        })

    at : (own : OpenList) (outer : List OpenNode) → lowered_to (suc level) stack ≡ Some (record { own = own; outer = outer })
        → ended_in text own outer ≡ Some after → Leads stack after (record { level = level; saying = Saying.last text } ∷ [])
    at own [] l e = absurd (none-some after e)
    at own (frame ∷ outer) l e = by own frame outer l (is_text text (row_of frame.kind).last && optional own.filling.left) refl e

    go : (o : Option OpenNodes) → lowered_to (suc level) stack ≡ o → option_and_then (λ s. ended_in text s.own s.outer) o ≡ Some after
        → Leads stack after (record { level = level; saying = Saying.last text } ∷ [])
    go None l e = absurd (none-some after e)
    go (Some s) l e = at s.own s.outer l e

pub run_leads : (stack after : OpenNodes) (ls : List Said) → AreSayings ls → IsApart stack → lines_taken stack ls ≡ Some after → Leads stack after ls
run_leads stack after [] h k e =
    let plain : Some stack ≡ Some after = e in
    record { pulls = pull_same stack after (some_is plain); apart_still = subst IsApart (some_is plain) k }
run_leads stack after (said ∷ ls) h k e = go (λ s. run_leads s after ls h.1) (line_taken stack said) refl e
  where
    go : ((s : OpenNodes) → IsApart s → lines_taken s ls ≡ Some after → Leads s after ls) → (o : Option OpenNodes) → line_taken stack said ≡ o
        → option_and_then (λ s. lines_taken s ls) o ≡ Some after → Leads stack after (said ∷ ls)
    go more None l e = absurd (none-some after e)
    go more (Some s) l e =
        let first = step_leads stack s said.level said.saying h.0 k l in
        let later = more s first.apart_still e in
        record { pulls = pull_more stack s after (said ∷ []) ls first.pulls later.pulls; apart_still = later.apart_still }

-- ---- holes for what is still wanted

sample : Sort → Forest → Forest
sample Sort.Declaration rest = Forest.cons (built_label NodeKind.DeclarationHole [] 0) Forest.nil rest
sample Sort.Statement rest = Forest.cons (built_label NodeKind.StatementHole [] 0) Forest.nil rest
sample Sort.Procedure rest = Forest.cons (built_label NodeKind.ProcedureHole [] 0) Forest.nil rest
sample Sort.Main rest =
    Forest.cons (built_label NodeKind.Main [] 0)
    (Forest.cons (built_label NodeKind.DeclarationHole [] 0) Forest.nil
    (Forest.cons (built_label NodeKind.StatementHole [] 0) Forest.nil Forest.nil))
    rest

one_of : {sort : Sort} → All (λ item. item ≡ sort) (sort ∷ [])
one_of zero d h = refl
one_of (suc k) d h = absurd (omega (arith, h))

hole_node : (kind : NodeKind) → (row_of kind).sections ≡ [] → parts_of (row_of kind).line ≡ [] → IsNode (built_label kind [] 0) []
hole_node kind s p =
    record {
      parts = rw p tt;
      inner = rw s refl;
      elision = λ e. absurd (false≢true e);
    }

sample_nodes : (sort : Sort) (rest : Forest) → AreNodes rest → AreNodes (sample sort rest)
unfolding sample
sample_nodes Sort.Declaration rest h = (hole_node NodeKind.DeclarationHole refl refl, tt, h)
sample_nodes Sort.Statement rest h = (hole_node NodeKind.StatementHole refl refl, tt, h)
sample_nodes Sort.Procedure rest h = (hole_node NodeKind.ProcedureHole refl refl, tt, h)
sample_nodes Sort.Main rest h = (
  record {
    parts = tt;
    inner = (Sort.Declaration ∷ [], Sort.Statement ∷ [], refl, (omega arith, one_of), (Sort.Statement ∷ [], [], refl, (omega arith, one_of), refl));
    elision = λ e. absurd (false≢true e);
  },
  (hole_node NodeKind.DeclarationHole refl refl, tt, (hole_node NodeKind.StatementHole refl refl, tt, tt)),
  h,
)

sample_sorts : (sort : Sort) (rest : Forest) → sorts (sample sort rest) ≡ sort ∷ sorts rest
unfolding sample
sample_sorts Sort.Declaration rest = refl
sample_sorts Sort.Statement rest = refl
sample_sorts Sort.Procedure rest = refl
sample_sorts Sort.Main rest = refl

holes : List PlainSection → Forest
holes [] = Forest.nil
holes (section ∷ left) = if optional (section ∷ left) then Forest.nil else sample section.sort (holes left)

holes_come : (going : Option Sort) (left : List PlainSection) → differs going left ≡ true → apart_sections left ≡ true
    → AreNodes (holes left) × (fills (record { going = going; left = left }) (sorts (holes left)) ≡ true)
unfolding holes
holes_come going [] d h = (tt, refl)
holes_come going (section ∷ left) d h =
    let both = and_parts (differs (many_sort section.amount section.sort) left) (apart_sections left) h in
    go (holes_come (many_sort section.amount section.sort) left both.0 both.1) (optional (section ∷ left)) refl
  where
    away : (going : Option Sort) → differs going (section ∷ left) ≡ true → goes_on going section.sort ≡ false
    away None d = refl
    away (Some own) d = not_true (same_sort own section.sort) d

    go : AreNodes (holes left) × (fills (record { going = many_sort section.amount section.sort; left = left }) (sorts (holes left)) ≡ true)
        → (b : Bool) → optional (section ∷ left) ≡ b
        → AreNodes (if b then Forest.nil else sample section.sort (holes left))
        × (fills (record { going = going; left = section ∷ left }) (sorts (if b then Forest.nil else sample section.sort (holes left))) ≡ true)
    go more true o = (tt, o)
    go more false o = (
      sample_nodes section.sort (holes left) more.0,
      rw (sample_sorts section.sort (holes left), away going d, same_sort_refl section.sort, behind_is section.amount section.sort left) more.1,
    )

comes : (filling : Filling) → apart filling ≡ true → Coming filling
comes filling h =
    let both = and_parts (differs filling.going filling.left) (apart_sections filling.left) h in
    let found = holes_come filling.going filling.left both.0 both.1 in
    (holes filling.left, found.0, found.1)

continues : (filling : Filling) (outer : List OpenNode) → apart filling ≡ true → ApartFrames outer → Continues filling outer
continues filling [] h k = comes filling h
continues filling (frame ∷ outer) h k = (comes filling h, continues frame.around.filling outer k.0 k.1)

-- ---- what is alive begins a program, and what ends so is one

program_is : (k : Coming (unfilled program_sections)) → IsProgram k.0
program_is k = record { listed = filled program_sections (sorts k.0) refl k.2; sound = k.1 }

pub alive : (ls : List Said) (after : OpenNodes) → AreSayings ls → lines_taken unread ls ≡ Some after
    → (items : Forest) × (more : List Said) × IsProgram items × (sayings 0 program_sections items ≡ ls ++ more)
alive ls after h e =
    let leads = run_leads unread after ls h (refl, tt) e in
    let k = continues after.own.filling after.outer leads.apart_still.0 leads.apart_still.1 in
    let back = leads.pulls k in
    (back.0.0, remains after.own.filling after.outer k, program_is back.0, back.2)

-- no node is open any more
bottom : (own : OpenList) (outer : List OpenNode) (s : OpenNodes) → lowered 0 own outer ≡ Some s → s.outer ≡ []
bottom own [] s l =
    let plain : Some (let one : OpenNodes = record { own = own; outer = [] } in one) ≡ Some s = l in
    sym (ap (λ (z : OpenNodes). z.outer) (some_is plain))
bottom own (frame ∷ outer) s l = go (λ list. bottom list outer s) (nat_le (suc (length outer)) 0) (lt-leb (suc (length outer)) 0 (omega arith)) l
  where
    below : ((list : OpenList) → lowered 0 list outer ≡ Some s → s.outer ≡ []) → (o : Option OpenList)
        → option_and_then (λ list. lowered 0 list outer) o ≡ Some s → s.outer ≡ []
    below more None l = absurd (none-some s l)
    below more (Some list) l = more list l

    go : ((list : OpenList) → lowered 0 list outer ≡ Some s → s.outer ≡ []) → (b : Bool) → b ≡ false
        → (if b then Some (record { own = own; outer = frame ∷ outer }) else option_and_then (λ list. lowered 0 list outer) (shut own frame)) ≡ Some s
        → s.outer ≡ []
    go more true n l = absurd (true≢false n)
    go more false n l = below more (shut own frame) l

pub ended : (ls : List Said) (after : OpenNodes) (items : Forest) → AreSayings ls → lines_taken unread ls ≡ Some after → program_of after ≡ Some items
    → IsProgram items × (sayings 0 program_sections items ≡ ls)
ended ls after items h e p = go (lowered 0 after.own after.outer) refl p
  where
    at : (own : OpenList) (outer : List OpenNode) → outer ≡ [] → Leads unread (record { own = own; outer = outer }) ls → (b : Bool) → optional own.filling.left ≡ b
        → (if b then Some own.items else None) ≡ Some items → IsProgram items × (sayings 0 program_sections items ≡ ls)
    at own outer none leads false o p = absurd (none-some items p)
    at own (frame ∷ outer) none leads true o p = absurd (omega (arith, ap length none))
    at own [] none leads true o p =
        let back = leads.pulls (Forest.nil, tt, o) in
        let plain : Some own.items ≡ Some items = p in
        let same : back.0.0 ≡ items = back.1 ∙ join_nil own.items ∙ some_is plain in
        (subst IsProgram same (program_is back.0), sym (ap (sayings 0 program_sections) same) ∙ back.2 ∙ append-nil ls)

    go : (o : Option OpenNodes) → lowered 0 after.own after.outer ≡ o → option_and_then (λ s. finished s.own) o ≡ Some items
        → IsProgram items × (sayings 0 program_sections items ≡ ls)
    go None l p = absurd (none-some items p)
    go (Some s) l p =
        let leads = run_leads unread after ls h (refl, tt) e in
        let down = pull_lowered 0 after.own after.outer s l in
        at s.own s.outer (bottom after.own after.outer s l)
        record {
          pulls = subst (λ z. Pulls unread s z) (append-nil ls) (pull_more unread after s ls [] leads.pulls down);
          apart_still = lowered_apart 0 after.own after.outer s leads.apart_still.0 leads.apart_still.1 l;
        }
        (optional s.own.filling.left) refl p
