-- What comes into a list, item after item, is what its sections ask for.
use Rattle.std.specs.Prelude.{◌≡◌, refl, ℕ, zero, suc, ◌≤◌, Bool, true, false, if◌then◌else◌, List, [], ◌∷◌, ◌++◌, length, All, Option, Some, None, is_none, is_some, option_and_then}
use Rattle.std.specs.List.{list_all}
use Rattle.std.proofs.Common.{ap, sym, ◌∙◌, arith}
use Rattle.std.proofs.Math.Bool.{false≢true}
use Rattle.std.proofs.lemmas.Bool.{and_parts}
use Rattle.std.proofs.lemmas.List.Elements.{All-cons}
use Rattle.std.proofs.lemmas.Option.{none-some}
use Rattle.plcs_grammar.specs.declared.node_kind.NodeKind.{NodeKind}
use Rattle.plcs_grammar.specs.declared.node_kind.Sort.{Sort}
use Rattle.plcs_grammar.specs.declared.row.Amount.{Amount}
use Rattle.plcs_grammar.specs.declared.template.Template.{Template}
use Rattle.plcs_grammar.specs.Template.{PlainSection, row_of, program_sections, list_of, procedure_sections, body, body_after}
use Rattle.template_tree.specs.Programs.PlainTree.{Forest}
use Rattle.template_tree.specs.Programs.Program.{AreItems, Fill, sorts, sort_of}
use Rattle.template_tree.specs.Listings.Section.{same_sort, left_for, left_in, left_after, next_lead}
use Rattle.file_store.specs.Private.Reader.{shape, Filling, Entry, unfilled, filling_after, first_entry, item_entry, unled, advanced, is_text, led_sections, optional, kind_with}

-- whether a list may go on with these items and end behind them
abbrev pub if_some : {X : Type 0} → (X → Bool) → Option X → Bool
if_some f None = false
if_some f (Some x) = f x

abbrev pub fills : Filling → List Sort → Bool
fills filling [] = optional filling.left
fills filling (sort ∷ rest) = if_some (λ item. fills item.next rest) (item_entry sort filling)

-- the sections that are left, the list that goes on among them
abbrev pub sections_with : Option Sort → List PlainSection → List PlainSection
sections_with None left = left
sections_with (Some sort) left = list_of sort ∷ left

abbrev pub sections_of : Filling → List PlainSection
sections_of filling = sections_with filling.going filling.left

-- what is there
abbrev held : {X : Type 0} → X → Option X → X
held x None = x
held x (Some y) = y

pub some_is : {X : Type 0} {x y : X} → Some x ≡ Some y → x ≡ y
some_is {x = x} e = ap (held x) e

-- ---- sorts

pub same_sort_refl : (sort : Sort) → same_sort sort sort ≡ true
same_sort_refl Sort.Main = refl
same_sort_refl Sort.Procedure = refl
same_sort_refl Sort.Declaration = refl
same_sort_refl Sort.Statement = refl

pub same_sort_is : (a b : Sort) → same_sort a b ≡ true → a ≡ b
same_sort_is Sort.Main Sort.Main e = refl
same_sort_is Sort.Procedure Sort.Procedure e = refl
same_sort_is Sort.Declaration Sort.Declaration e = refl
same_sort_is Sort.Statement Sort.Statement e = refl
same_sort_is a b e = absurd (false≢true e)

pub sort_shape : (kind : NodeKind) → sort_of (shape kind) ≡ sort_of kind
sort_shape (NodeKind.Filled Template.If) = refl
sort_shape kind = refl

-- ---- entries

-- what is there behind an item that comes
pub if_some_parts : {X : Type 0} (f : X → Bool) (o : Option X) → if_some f o ≡ true → (x : X) × (o ≡ Some x) × (f x ≡ true)
if_some_parts f None e = absurd (false≢true e)
if_some_parts f (Some x) e = (x, refl, e)

-- the lines before an item, and the sections left behind it, are those of the listing
first_here : (sort : Sort) (left : List PlainSection) (item : Entry) → first_entry sort left ≡ Some item
    → (next_lead (left_for sort left) ≡ item.before) × (left_after (left_for sort left) ≡ sections_of item.next)
first_here sort [] item e = absurd (none-some item e)
first_here sort (section ∷ left) item e = go (same_sort section.sort sort) e
  where
    by_amount : (amount : Amount) → section.amount ≡ amount
        → left_in amount section left ≡ sections_of (filling_after amount section.sort left)
    by_amount Amount.One h = refl
    by_amount Amount.Many h = ap (λ a. record { lead = None; sort = section.sort; amount = a } ∷ left) h

    go : (b : Bool)
        → (if b then Some (record { before = section.lead; next = filling_after section.amount section.sort left }) else None) ≡ Some item
        → (next_lead (if b then section ∷ left else left_for sort left) ≡ item.before)
        × (left_after (if b then section ∷ left else left_for sort left) ≡ sections_of item.next)
    go true e =
        let plain : Some (record { before = section.lead; next = filling_after section.amount section.sort left }) ≡ Some item = e in
        let same : record { before = section.lead; next = filling_after section.amount section.sort left } ≡ item = some_is plain in
        (ap (λ (z : Entry). z.before) same, by_amount section.amount refl ∙ ap (λ (z : Entry). sections_of z.next) same)
    go false e = absurd (none-some item e)

pub here : (sort : Sort) (going : Option Sort) (left : List PlainSection) (item : Entry)
    → item_entry sort (record { going = going; left = left }) ≡ Some item
    → (next_lead (left_for sort (sections_with going left)) ≡ item.before)
    × (left_after (left_for sort (sections_with going left)) ≡ sections_of item.next)
here sort None left item e = first_here sort left item e
here sort (Some own) left item e = go (same_sort own sort) e
  where
    go : (b : Bool)
        → (if b then Some (record { before = None; next = record { going = Some own; left = left } }) else first_entry sort left) ≡ Some item
        → (next_lead (if b then list_of own ∷ left else left_for sort left) ≡ item.before)
        × (left_after (if b then list_of own ∷ left else left_for sort left) ≡ sections_of item.next)
    go true e =
        let same : record { before = None; next = record { going = Some own; left = left } } ≡ item = some_is e in
        (ap (λ (z : Entry). z.before) same, ap (λ (z : Entry). sections_of z.next) same)
    go false e = first_here sort left item e

-- an item before which no line is wanted
pub enters : (sort : Sort) (filling : Filling) (item : Entry) → item_entry sort filling ≡ Some item → item.before ≡ None
    → advanced sort filling ≡ Some item.next
enters sort filling item e none = rw e (rw none refl)

pub entered : (sort : Sort) (filling next : Filling) → advanced sort filling ≡ Some next
    → item_entry sort filling ≡ Some (record { before = None; next = next })
entered sort filling next e = go (item_entry sort filling) e
  where
    by : (before : Option (List ℕ)) (later : Filling) → (if is_none before then Some later else None) ≡ Some next
        → Some (let item : Entry = record { before = before; next = later } in item) ≡ Some (record { before = None; next = next })
    by None later e =
        let plain : Some later ≡ Some next = e in
        let same : later ≡ next = some_is plain in ap (λ n. Some (let item : Entry = record { before = None; next = n } in item)) same
    by (Some text) later e = absurd (none-some next e)

    go : (o : Option Entry) → option_and_then unled o ≡ Some next → o ≡ Some (record { before = None; next = next })
    go None e = absurd (none-some next e)
    go (Some item) e = by item.before item.next e

-- an item behind the line before it
pub led_first : (sort : Sort) (left : List PlainSection) (item : Entry) (text : List ℕ) → first_entry sort left ≡ Some item
    → item.before ≡ Some text → is_text text (Some text) ≡ true
    → (led : Filling) × (led_sections text left ≡ Some led) × (item_entry sort led ≡ Some (record { before = None; next = item.next }))
led_first sort [] item text e lead same = absurd (none-some item e)
led_first sort (section ∷ left) item text e lead same = go (same_sort section.sort sort) refl e
  where
    go : (b : Bool) → same_sort section.sort sort ≡ b
        → (if b then Some (record { before = section.lead; next = filling_after section.amount section.sort left }) else None) ≡ Some item
        → (led : Filling) × (led_sections text (section ∷ left) ≡ Some led) × (item_entry sort led ≡ Some (record { before = None; next = item.next }))
    go true h e =
        let plain : Some (record { before = section.lead; next = filling_after section.amount section.sort left }) ≡ Some item = e in
        let is : record { before = section.lead; next = filling_after section.amount section.sort left } ≡ item = some_is plain in
        let own : section.lead ≡ Some text = ap (λ (z : Entry). z.before) is ∙ lead in (
          unfilled (record section { lead = None } ∷ left),
          rw own (rw same refl),
          rw h (ap (λ (z : Entry). Some (let item : Entry = record { before = None; next = z.next } in item)) is),
        )
    go false h e = absurd (none-some item e)

pub led : (sort : Sort) (going : Option Sort) (left : List PlainSection) (item : Entry) (text : List ℕ)
    → item_entry sort (record { going = going; left = left }) ≡ Some item
    → item.before ≡ Some text → is_text text (Some text) ≡ true
    → (led : Filling) × (led_sections text left ≡ Some led) × (item_entry sort led ≡ Some (record { before = None; next = item.next }))
led sort None left item text e lead same = led_first sort left item text e lead same
led sort (Some own) left item text e lead same = go (same_sort own sort) e
  where
    go : (b : Bool)
        → (if b then Some (record { before = None; next = record { going = Some own; left = left } }) else first_entry sort left) ≡ Some item
        → (led : Filling) × (led_sections text left ≡ Some led) × (item_entry sort led ≡ Some (record { before = None; next = item.next }))
    go true e =
        let is : record { before = None; next = record { going = Some own; left = left } } ≡ item = some_is e in
        absurd (none-some text (ap (λ (z : Entry). z.before) is ∙ lead))
    go false e = led_first sort left item text e lead same

-- ---- what comes is what the sections ask for

pub all_head : {X : Type 0} (P : X → Type 0) (x : X) (xs : List X) → All P (x ∷ xs) → P x
all_head P x xs h = h zero x (omega arith)

pub all_tail : {X : Type 0} (P : X → Type 0) (x : X) (xs : List X) → All P (x ∷ xs) → All P xs
all_tail P x xs h k d inside = h (suc k) d (omega (arith, inside))

-- a list that goes on with items of its sort
pub fills_on : (sort : Sort) (own others : List Sort) (left : List PlainSection) → All (λ item. item ≡ sort) own
    → fills (record { going = Some sort; left = left }) others ≡ true
    → fills (record { going = Some sort; left = left }) (own ++ others) ≡ true
fills_on sort [] others left all e = e
fills_on sort (item ∷ own) others left all e =
    rw (all_head (λ i. i ≡ sort) item own all, same_sort_refl sort) (fills_on sort own others left (all_tail (λ i. i ≡ sort) item own all) e)

-- items of a list
pub some_items : (sort : Sort) (own : List Sort) → (1 ≤ length own) × All (λ item. item ≡ sort) own
    → (rest : List Sort) × (own ≡ sort ∷ rest) × All (λ item. item ≡ sort) rest
some_items sort [] h = absurd (omega (arith, h.0))
some_items sort (item ∷ rest) h =
    (rest, ap (λ i. i ∷ rest) (all_head (λ i. i ≡ sort) item rest h.1), all_tail (λ i. i ≡ sort) item rest h.1)

-- one list alone
pub list_fills : (sort : Sort) (items : List Sort) → Fill (list_of sort ∷ []) items → fills (unfilled (list_of sort ∷ [])) items ≡ true
list_fills sort items (own, others, is, some, none) =
    let first = some_items sort own some in
    rw (is, none, first.1, same_sort_refl sort) (fills_on sort first.0 [] [] first.2 refl)

-- declarations and then statements
pub block_fills : (items : List Sort) → Fill procedure_sections items → fills (unfilled procedure_sections) items ≡ true
block_fills items (own, others, is, some, (own_2, others_2, is_2, some_2, none)) =
    let first = some_items Sort.Declaration own some in
    let second = some_items Sort.Statement own_2 some_2 in
    rw (is, first.1, is_2, none, second.1)
    (fills_on Sort.Declaration first.0 ((Sort.Statement ∷ second.0) ++ []) (list_of Sort.Statement ∷ []) first.2
    (fills_on Sort.Statement second.0 [] [] second.2 refl))

-- main and then procedures
pub program_fills : (items : List Sort) → Fill program_sections items → fills (unfilled program_sections) items ≡ true
program_fills items (own, others, is, one, (own_2, others_2, is_2, some_2, none)) =
    let second = some_items Sort.Procedure own_2 some_2 in
    rw (is, one, is_2, none, second.1) (fills_on Sort.Procedure second.0 [] [] second.2 refl)

-- the items of each kind of node
pub node_fills : (kind : NodeKind) (items : List Sort) → Fill (row_of kind).sections items
    → fills (unfilled (row_of (shape kind)).sections) items ≡ true
node_fills NodeKind.Main items h = block_fills items h
node_fills (NodeKind.Filled Template.Proc) items h = block_fills items h
node_fills (NodeKind.Filled Template.ProcP) items h = block_fills items h
node_fills (NodeKind.Filled Template.If) items (own, others, is, one, none) = rw (is, one, none) refl
node_fills (NodeKind.Filled Template.IfElse) items (own, others, is, one, (own_2, others_2, is_2, one_2, none)) =
    rw (is, one, is_2, one_2, none) refl
node_fills (NodeKind.Filled Template.While) items h = list_fills Sort.Statement items h
node_fills (NodeKind.Filled Template.For) items h = list_fills Sort.Statement items h
node_fills (NodeKind.Filled Template.Until) items h = list_fills Sort.Statement items h
node_fills (NodeKind.Filled Template.Group) items h = list_fills Sort.Statement items h
node_fills (NodeKind.Filled Template.Comment) items h = list_fills Sort.Statement items h
node_fills kind items none = rw none refl

-- ---- what the sections ask for is what comes

-- items of the sort that goes on, and then others
pub own_items : (sort : Sort) (left : List PlainSection) (items : List Sort) → fills (record { going = Some sort; left = left }) items ≡ true
    → (own others : List Sort) × (items ≡ own ++ others) × All (λ item. item ≡ sort) own × (fills (unfilled left) others ≡ true)
own_items sort left [] e = ([], [], refl, (λ k d h. absurd (omega (arith, h))), e)
own_items sort left (item ∷ items) e = go (λ h. own_items sort left items h) (same_sort sort item) refl e
  where
    go : (fills (record { going = Some sort; left = left }) items ≡ true
        → (own others : List Sort) × (items ≡ own ++ others) × All (λ i. i ≡ sort) own × (fills (unfilled left) others ≡ true))
        → (b : Bool) → same_sort sort item ≡ b
        → if_some (λ (i : Entry). fills i.next items) (if b then Some (record { before = None; next = record { going = Some sort; left = left } }) else first_entry item left) ≡ true
        → (own others : List Sort) × (item ∷ items ≡ own ++ others) × All (λ i. i ≡ sort) own × (fills (unfilled left) others ≡ true)
    go later true h e =
        let more = later e in
        (item ∷ more.0, more.1, ap (λ z. item ∷ z) more.2, All-cons (λ i. i ≡ sort) item more.0 (sym (same_sort_is sort item h)) more.3, more.4)
    go later false h e = ([], item ∷ items, refl, (λ k d h. absurd (omega (arith, h))), e)

-- the items of one section, and then others
pub first_items : (amount : Amount) (sort : Sort) (before : Option (List ℕ)) (left : List PlainSection) (item : Sort) (items : List Sort)
    → fills (unfilled (record { lead = before; sort = sort; amount = amount } ∷ left)) (item ∷ items) ≡ true
    → (own others : List Sort) × (item ∷ items ≡ own ++ others) × AreItems amount sort own × (fills (unfilled left) others ≡ true)
first_items amount sort before left item items e = go (same_sort sort item) refl e
  where
    by_amount : (amount : Amount) → sort ≡ item → fills (filling_after amount sort left) items ≡ true
        → (own others : List Sort) × (item ∷ items ≡ own ++ others) × AreItems amount sort own × (fills (unfilled left) others ≡ true)
    by_amount Amount.One same e = (item ∷ [], items, refl, ap (λ i. i ∷ []) (sym same), e)
    by_amount Amount.Many same e =
        let more = own_items sort left items e in (
          item ∷ more.0,
          more.1,
          ap (λ z. item ∷ z) more.2,
          (omega arith, All-cons (λ i. i ≡ sort) item more.0 (sym same) more.3),
          more.4,
        )

    go : (b : Bool) → same_sort sort item ≡ b
        → if_some (λ (i : Entry). fills i.next items) (if b then Some (record { before = before; next = filling_after amount sort left }) else None) ≡ true
        → (own others : List Sort) × (item ∷ items ≡ own ++ others) × AreItems amount sort own × (fills (unfilled left) others ≡ true)
    go true h e = by_amount amount (same_sort_is sort item h) e
    go false h e = absurd (false≢true e)

abbrev pub none_led : List PlainSection → Bool
none_led = list_all (λ section. is_none section.lead)

pub filled : (sections : List PlainSection) (items : List Sort) → none_led sections ≡ true → fills (unfilled sections) items ≡ true
    → Fill sections items
filled [] [] none e = refl
filled [] (item ∷ items) none e = absurd (false≢true e)
filled (section ∷ sections) [] none e =
    let own = (and_parts (is_none section.lead) (none_led sections) none).0 in
    absurd (go section.lead own (and_parts (is_some section.lead) (optional sections) e).0)
  where
    go : (lead : Option (List ℕ)) → is_none lead ≡ true → is_some lead ≡ true → ⊥
    go None h k = false≢true k
    go (Some text) h k = false≢true h
filled (section ∷ sections) (item ∷ items) none e =
    let parts = first_items section.amount section.sort section.lead sections item items e in
    (parts.0, parts.1, parts.2, parts.3, filled sections parts.1 (and_parts (is_none section.lead) (none_led sections) none).1 parts.4)

-- the items of an open node that ends are those of its kind
pub node_filled : (kind : NodeKind) (items : Forest) → shape kind ≡ kind → fills (unfilled (row_of kind).sections) (sorts items) ≡ true
    → Fill (row_of (kind_with kind items)).sections (sorts items)
node_filled (NodeKind.Filled Template.IfElse) Forest.nil h e = absurd (false≢true e)
node_filled (NodeKind.Filled Template.IfElse) (Forest.cons label inner Forest.nil) h e =
    let parts = first_items Amount.One Sort.Statement None (body_after _ ∷ []) (sort_of label.kind) [] e in
    filled (body ∷ []) (sort_of label.kind ∷ []) refl (go (sort_of label.kind) e)
  where
    go : (sort : Sort) → fills (unfilled (row_of (NodeKind.Filled Template.IfElse)).sections) (sort ∷ []) ≡ true
        → fills (unfilled (body ∷ [])) (sort ∷ []) ≡ true
    go Sort.Statement e = refl
    go Sort.Main e = absurd (false≢true e)
    go Sort.Procedure e = absurd (false≢true e)
    go Sort.Declaration e = absurd (false≢true e)
node_filled (NodeKind.Filled Template.IfElse) (Forest.cons label inner (Forest.cons label_2 inner_2 rest)) h e =
    go (sort_of label.kind) (sort_of label_2.kind) (sorts rest) e
  where
    go : (one two : Sort) (more : List Sort) → fills (unfilled (row_of (NodeKind.Filled Template.IfElse)).sections) (one ∷ (two ∷ more)) ≡ true
        → Fill (row_of (NodeKind.Filled Template.IfElse)).sections (one ∷ (two ∷ more))
    go Sort.Statement Sort.Statement [] e = (Sort.Statement ∷ [], Sort.Statement ∷ [], refl, refl, (Sort.Statement ∷ [], [], refl, refl, refl))
    go Sort.Statement Sort.Statement (sort ∷ more) e = absurd (false≢true e)
    go Sort.Statement two more e = absurd (false≢true e)
    go one two more e = absurd (false≢true e)
node_filled (NodeKind.Filled Template.If) items h e = absurd (go h)
  where
    ends : NodeKind → Bool
    ends (NodeKind.Filled Template.If) = true
    ends kind = false

    go : NodeKind.Filled Template.IfElse ≡ NodeKind.Filled Template.If → ⊥
    go h = false≢true (ap ends h)
node_filled (NodeKind.Filled Template.Fixed) items h e = filled _ (sorts items) refl e
node_filled NodeKind.Main items h e = filled _ (sorts items) refl e
node_filled kind items h e = filled (row_of kind).sections (sorts items) refl e

-- a kind is that of its shape with its items
pub kind_is : (kind : NodeKind) (items : Forest) → Fill (row_of kind).sections (sorts items) → kind_with (shape kind) items ≡ kind
kind_is (NodeKind.Filled Template.If) Forest.nil h = absurd (go h)
  where
    go : Fill (body ∷ []) [] → ⊥
    go (own, others, is, one, none) = omega (arith, ap length (is ∙ ap (λ o. o ++ others) one))
kind_is (NodeKind.Filled Template.If) (Forest.cons label inner Forest.nil) h = refl
kind_is (NodeKind.Filled Template.If) (Forest.cons label inner (Forest.cons label_2 inner_2 rest)) (own, others, is, one, none) =
    absurd (omega (arith, ap length (is ∙ ap (λ o. o ++ others) one ∙ ap (λ o. Sort.Statement ∷ o) none)))
kind_is (NodeKind.Filled Template.IfElse) Forest.nil h = refl
kind_is (NodeKind.Filled Template.IfElse) (Forest.cons label inner Forest.nil) (own, others, is, one, (own_2, others_2, is_2, one_2, none)) =
    absurd (omega (arith, ap length (is ∙ ap (λ o. o ++ others) one ∙ ap (λ o. Sort.Statement ∷ o) (is_2 ∙ ap (λ o. o ++ others_2) one_2))))
kind_is (NodeKind.Filled Template.IfElse) (Forest.cons label inner (Forest.cons label_2 inner_2 rest)) h = refl
kind_is (NodeKind.Filled template) items h = refl
kind_is kind items h = refl
