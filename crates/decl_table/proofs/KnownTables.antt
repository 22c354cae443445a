-- A table in which it is gathered what has to be known where phrases are checked: each item and heading that comes is the
-- program's, and what was known stays.
use Rattle.std.proofs.Common.{◌≡◌, ℕ, zero, suc, ◌≤◌, Bool, true, false, List, [], ◌∷◌, Option, Some, None, slice_get, refl, ap, sym, subst, ◌∙◌, ◌⊎◌, inl, inr, arith, eqb-true}
use Rattle.std.specs.Prelude.{bytes_eq, if◌then◌else◌, nat_eq, option_and_then, option_map, unwrap_or}
use Rattle.std.specs.FinMap.{get}
use Rattle.std.proofs.lemmas.Option.{none-some, same_Some}
use Rattle.std.proofs.lemmas.Slice.Eq.{bytes_eq-Decides}
use Rattle.plcs_base.specs.Scope.{ItemMap}
use Rattle.plcs_base.specs.declared.declared.Declared.{Declared}
use Rattle.plcs_base.specs.declared.place.PhraseAt.{PhraseAt}
use Rattle.plcs_grammar.specs.PlainPhrase.{PlainPhrase}
use Rattle.template_tree.specs.Checks.Environment.{Items, Sig, Signature, item_named}
use Rattle.template_tree.specs.Checks.ProgramMaps.{items_in}
use Rattle.template_tree.specs.Positions.Path.{below, node_at}
use Rattle.template_tree.specs.Programs.Part.{part_at}
use Rattle.template_tree.specs.Programs.PlainTree.{Forest, PlainNode, nodes}
use Rattle.template_tree.specs.Programs.Slots.{times}
use Rattle.decl_table.specs.Knowledge.{KnowsHeading, Stands}
use Rattle.decl_table.specs.PlainDecls.{PlainDecls, PlainHeadings, slot_of}
use Rattle.decl_table.specs.Private.KnownTable.{KnowsItem, Learns, SaysTrue}
use Rattle.decl_table.proofs.EditedScopes.{counted}
use Rattle.decl_table.proofs.SitedNodes.{live_at}

-- ---- where a phrase stands

abbrev raised : List ℕ → List ℕ
raised [] = []
raised (k ∷ path) = suc k ∷ path

abbrev taken : PlainNode → Option PlainNode → PlainNode
taken node None = node
taken node (Some there) = there

-- two paths to one slot are the same, where it stands but once
pub one_path : (slot : ℕ) (items : Forest) (one other : List ℕ) (first second : PlainNode) → node_at items one ≡ Some first
    → node_at items other ≡ Some second → first.label.slot ≡ slot → second.label.slot ≡ slot → times slot items ≤ 1 → one ≡ other
one_path slot items [] other first second there found own same once = absurd (none-some first there)
one_path slot items (i ∷ one) [] first second there found own same once = absurd (none-some second found)
one_path slot Forest.nil (i ∷ one) (j ∷ other) first second there found own same once = absurd (none-some first there)
one_path slot (Forest.cons label inner rest) (zero ∷ []) (zero ∷ []) first second there found own same once = refl
one_path slot (Forest.cons label inner rest) (zero ∷ []) (zero ∷ (j ∷ other)) first second there found own same once =
    let here = counted label.slot slot (ap (λ (n : PlainNode). n.label.slot) (ap (taken first) there) ∙ own) in
    let live = live_at slot inner (j ∷ other) second found same in
    absurd (omega (arith, here, live, once))
one_path slot (Forest.cons label inner rest) (zero ∷ []) (suc j ∷ other) first second there found own same once =
    let here = counted label.slot slot (ap (λ (n : PlainNode). n.label.slot) (ap (taken first) there) ∙ own) in
    let live = live_at slot rest (j ∷ other) second found same in
    absurd (omega (arith, here, live, once))
one_path slot (Forest.cons label inner rest) (zero ∷ (i ∷ one)) (zero ∷ []) first second there found own same once =
    let here = counted label.slot slot (ap (λ (n : PlainNode). n.label.slot) (ap (taken second) found) ∙ same) in
    let live = live_at slot inner (i ∷ one) first there own in
    absurd (omega (arith, here, live, once))
one_path slot (Forest.cons label inner rest) (zero ∷ (i ∷ one)) (zero ∷ (j ∷ other)) first second there found own same once =
    ap (λ (path : List ℕ). 0 ∷ path) (one_path slot inner (i ∷ one) (j ∷ other) first second there found own same (omega (arith, once)))
one_path slot (Forest.cons label inner rest) (zero ∷ (i ∷ one)) (suc j ∷ other) first second there found own same once =
    let inside = live_at slot inner (i ∷ one) first there own in
    let behind = live_at slot rest (j ∷ other) second found same in
    absurd (omega (arith, inside, behind, once))
one_path slot (Forest.cons label inner rest) (suc i ∷ one) (zero ∷ []) first second there found own same once =
    let here = counted label.slot slot (ap (λ (n : PlainNode). n.label.slot) (ap (taken second) found) ∙ same) in
    let live = live_at slot rest (i ∷ one) first there own in
    absurd (omega (arith, here, live, once))
one_path slot (Forest.cons label inner rest) (suc i ∷ one) (zero ∷ (j ∷ other)) first second there found own same once =
    let inside = live_at slot inner (j ∷ other) second found same in
    let behind = live_at slot rest (i ∷ one) first there own in
    absurd (omega (arith, inside, behind, once))
one_path slot (Forest.cons label inner rest) (suc i ∷ one) (suc j ∷ other) first second there found own same once =
    ap raised (one_path slot rest (i ∷ one) (j ∷ other) first second there found own same (omega (arith, once)))

-- the node at the path of a phrase
pub stands_at : (program : Forest) (at : PhraseAt) (procedure : PlainNode) (phrase : PlainPhrase) → (s : Stands program at procedure phrase)
    → node_at program (s.number ∷ s.path) ≡ Some s.node
stands_at program at procedure phrase s =
    ap (option_and_then (λ (item : PlainNode). below item s.path)) s.item_is ∙ s.node_is

-- so what stands on a path to the place is the phrase, and its procedure
pub record IsFound (program : Forest) (k : ℕ) (part : ℕ) (node procedure : PlainNode) (phrase : PlainPhrase) : Type 0 where
  pub item_is : slice_get (nodes program) k ≡ Some procedure
  pub phrase_is : part_at node.label.parts part ≡ Some phrase

abbrev first_of : List ℕ → ℕ
first_of [] = 0
first_of (k ∷ path) = k

pub found_there : (program : Forest) (at : PhraseAt) (procedure : PlainNode) (phrase : PlainPhrase) → Stands program at procedure phrase
    → (k : ℕ) (path : List ℕ) (node : PlainNode) → node_at program (k ∷ path) ≡ Some node → node.label.slot ≡ at.slot.0
    → times at.slot.0 program ≤ 1 → IsFound program k at.part node procedure phrase
found_there program at procedure phrase s k path node there own once =
    let same : s.number ∷ s.path ≡ k ∷ path =
    one_path at.slot.0 program (s.number ∷ s.path) (k ∷ path) s.node node (stands_at program at procedure phrase s) there s.slot_is own once in
    let node_is : s.node ≡ node =
    same_Some s.node node (sym (stands_at program at procedure phrase s) ∙ ap (node_at program) same ∙ there) in
    record {
      item_is = ap (λ (n : ℕ). slice_get (nodes program) n) (sym (ap first_of same)) ∙ s.item_is;
      phrase_is = ap (λ (n : PlainNode). part_at n.label.parts at.part) (sym node_is) ∙ s.phrase_is;
    }

-- ---- what is learnt

pub learns_nothing : (program : Forest) (table : PlainDecls) → Learns program table table
learns_nothing program table = record { says = λ is. is; items = λ slot name is. is; headings = λ name is. is }

pub learns_more : (program : Forest) (one two three : PlainDecls) → Learns program one two → Learns program two three → Learns program one three
learns_more program one two three first second =
    record {
      says = λ is. second.says (first.says is);
      items = λ slot name is. second.items slot name (first.items slot name is);
      headings = λ name is. second.headings name (first.headings name is);
    }

is_name : (name other : List ℕ) → bytes_eq name other ≡ true → name ≡ other
is_name name other same = (bytes_eq-Decides name other).0 same

-- an item that the program has in a procedure is noted
module _ (program : Forest) (old new : PlainDecls) (own : ℕ) (item : Declared) (is_so : Some item ≡ item_named item.name (Items program own))
    (named : (name : List ℕ) → item_named name (items_in new.items own)
    ≡ (if bytes_eq item.name name then Some item else item_named name (items_in old.items own)))
    (others : (slot : ℕ) → nat_eq own slot ≡ false → get new.items slot ≡ get old.items slot)
    (same : new.headings ≡ old.headings) where
  items_others : (slot : ℕ) → nat_eq own slot ≡ false → items_in new.items slot ≡ items_in old.items slot
  items_others slot apart = ap (λ (o : Option (List Declared)). unwrap_or o []) (others slot apart)

  -- what is told of a name in the procedure
  told : (name : List ℕ) (b : Bool) → bytes_eq item.name name ≡ b
      → item_named name (items_in new.items own) ≡ (if b then Some item else item_named name (items_in old.items own))
  told name b e = named name ∙ ap (λ (x : Bool). if x then Some item else item_named name (items_in old.items own)) e

  -- the item itself is known
  own_known : (name : List ℕ) → bytes_eq item.name name ≡ true → KnowsItem new program own name
  own_known name e =
      told name true e ∙ is_so ∙ ap (λ (n : List ℕ). item_named n (Items program own)) (is_name item.name name e)

  keeps : (slot : ℕ) (name : List ℕ) → KnowsItem old program slot name → KnowsItem new program slot name
  keeps slot name knew = by (nat_eq own slot) refl
    where
      here : own ≡ slot → (b : Bool) → bytes_eq item.name name ≡ b → KnowsItem new program slot name
      here is true e = subst (λ (n : ℕ). KnowsItem new program n name) is (own_known name e)
      here is false e =
          subst (λ (n : ℕ). KnowsItem new program n name) is
          (told name false e ∙ subst (λ (n : ℕ). KnowsItem old program n name) (sym is) knew)

      by : (b : Bool) → nat_eq own slot ≡ b → KnowsItem new program slot name
      by true e = here (eqb-true own slot e) (bytes_eq item.name name) refl
      by false e = ap (item_named name) (items_others slot e) ∙ knew

  says_item : SaysTrue old program → (slot : ℕ) (name : List ℕ)
      → (item_named name (items_in new.items slot) ≡ None) ⊎ KnowsItem new program slot name
  says_item so slot name = by (nat_eq own slot) refl
    where
      kept : (item_named name (items_in new.items slot) ≡ item_named name (items_in old.items slot))
          → (item_named name (items_in old.items slot) ≡ None) ⊎ KnowsItem old program slot name
          → (item_named name (items_in new.items slot) ≡ None) ⊎ KnowsItem new program slot name
      kept stays (inl none) = inl (stays ∙ none)
      kept stays (inr knew) = inr (stays ∙ knew)

      here : own ≡ slot → (b : Bool) → bytes_eq item.name name ≡ b
          → (item_named name (items_in new.items slot) ≡ None) ⊎ KnowsItem new program slot name
      here is true e = inr (subst (λ (n : ℕ). KnowsItem new program n name) is (own_known name e))
      here is false e =
          kept
          (subst (λ (n : ℕ). item_named name (items_in new.items n) ≡ item_named name (items_in old.items n)) is (told name false e))
          (so.items slot name)

      by : (b : Bool) → nat_eq own slot ≡ b → (item_named name (items_in new.items slot) ≡ None) ⊎ KnowsItem new program slot name
      by true e = here (eqb-true own slot e) (bytes_eq item.name name) refl
      by false e = kept (ap (item_named name) (items_others slot e)) (so.items slot name)

  pub learns_item : Learns program old new
  learns_item =
      record {
        says =
            λ so.
            record {
              items = says_item so;
              headings =
                  subst
                  (λ (headings : PlainHeadings).
                  (name : List ℕ)
                  → (slot_of name headings ≡ None)
                  ⊎ (slot_of name headings ≡ option_map (λ (s : Signature). s.slot) (Sig program name)))
                  (sym same) so.headings;
            };
        items = keeps;
        headings = λ name knew. ap (slot_of name) same ∙ knew;
      }

  pub knows_noted : KnowsItem new program own item.name
  knows_noted = own_known item.name ((bytes_eq-Decides item.name item.name).1 refl)

-- an effective heading that the program has is noted
module _ (program : Forest) (old new : PlainDecls) (own : List ℕ) (slot : ℕ)
    (is_so : Some slot ≡ option_map (λ (s : Signature). s.slot) (Sig program own))
    (noted : (name : List ℕ) → slot_of name new.headings ≡ (if bytes_eq own name then Some slot else slot_of name old.headings))
    (same : new.items ≡ old.items) where
  heading_told : (name : List ℕ) (b : Bool) → bytes_eq own name ≡ b → slot_of name new.headings ≡ (if b then Some slot else slot_of name old.headings)
  heading_told name b e = noted name ∙ ap (λ (x : Bool). if x then Some slot else slot_of name old.headings) e

  heading_known : (name : List ℕ) → bytes_eq own name ≡ true → KnowsHeading new program name
  heading_known name e =
      heading_told name true e ∙ is_so
      ∙ ap (λ (n : List ℕ). option_map (λ (s : Signature). s.slot) (Sig program n)) (is_name own name e)

  heading_kept : (name : List ℕ) → KnowsHeading old program name → KnowsHeading new program name
  heading_kept name knew = by (bytes_eq own name) refl
    where
      by : (b : Bool) → bytes_eq own name ≡ b → KnowsHeading new program name
      by true e = heading_known name e
      by false e = heading_told name false e ∙ knew

  heading_says : SaysTrue old program → (name : List ℕ) → (slot_of name new.headings ≡ None) ⊎ KnowsHeading new program name
  heading_says so name = by (bytes_eq own name) refl (so.headings name)
    where
      by : (b : Bool) → bytes_eq own name ≡ b → (slot_of name old.headings ≡ None) ⊎ KnowsHeading old program name
          → (slot_of name new.headings ≡ None) ⊎ KnowsHeading new program name
      by true e was = inr (heading_known name e)
      by false e (inl none) = inl (heading_told name false e ∙ none)
      by false e (inr knew) = inr (heading_told name false e ∙ knew)

  pub learns_heading : Learns program old new
  learns_heading =
      record {
        says =
            λ so.
            record {
              items =
                  subst
                  (λ (items : ItemMap).
                  (q : ℕ) (name : List ℕ)
                  → (item_named name (items_in items q) ≡ None) ⊎ (item_named name (items_in items q) ≡ item_named name (Items program q)))
                  (sym same) so.items;
              headings = heading_says so;
            };
        items = λ q name knew. ap (λ (items : ItemMap). item_named name (items_in items q)) same ∙ knew;
        headings = heading_kept;
      }

  pub knows_heading : KnowsHeading new program own
  knows_heading = heading_known own ((bytes_eq-Decides own own).1 refl)

-- a table that says only what is so knows that the program has no item of a name, and no heading
pub knows_none : (program : Forest) (table : PlainDecls) (slot : ℕ) (name : List ℕ) → SaysTrue table program
    → item_named name (Items program slot) ≡ None → KnowsItem table program slot name
knows_none program table slot name so none = by (so.items slot name)
  where
    by : (item_named name (items_in table.items slot) ≡ None) ⊎ KnowsItem table program slot name → KnowsItem table program slot name
    by (inl nothing) = nothing ∙ sym none
    by (inr knows) = knows

pub knows_no_heading : (program : Forest) (table : PlainDecls) (name : List ℕ) → SaysTrue table program
    → option_map (λ (s : Signature). s.slot) (Sig program name) ≡ None → KnowsHeading table program name
knows_no_heading program table name so none = by (so.headings name)
  where
    by : (slot_of name table.headings ≡ None) ⊎ KnowsHeading table program name → KnowsHeading table program name
    by (inl nothing) = nothing ∙ sym none
    by (inr knows) = knows
