-- What the tests of items and of kinds say, and by that which names are gathered that an edit affects.
use Rattle.std.proofs.Common.{◌≡◌, ◌≢◌, ℕ, zero, suc, ◌<◌, Bool, true, false, List, [], ◌∷◌, drop, length, Option, Some, None, refl, ap, sym, ◌∙◌, ◌⊎◌, inl, inr, arith, eq-eqb, eqb-true, true≢false}
use Rattle.std.specs.Prelude.{◌↔◌, ◌==◌, ◌&&◌, ◌||◌, bytes_eq, cond, if◌then◌else◌, not, option_and_then, slice_get}
use Rattle.std.specs.List.{list_any}
use Rattle.std.proofs.lemmas.Option.{none-some}
use Rattle.plcs_base.specs.declared.declared.Declared.{Declared}
use Rattle.plcs_base.specs.declared.declared.ItemType.{ItemType}
use Rattle.plcs_base.specs.declared.value.Kind.{Kind}
use Rattle.template_tree.specs.Checks.Environment.{Heading, heading_of, item_named}
use Rattle.template_tree.specs.Programs.PlainTree.{PlainNode}
use Rattle.decl_table.specs.PlainDecls.{PlainHeadings, slot_of}
use Rattle.decl_table.specs.Private.AffectedView.{HeadingTurns, IsGathered, kind_in}
use Rattle.decl_table.specs.Private.ItemTests.{heading_turns, is_lost, is_slot, is_this, item_differs, kind_turns, names_turn, own_turns, same_item, same_kinds, same_types, turns_inside}
use Rattle.decl_table.specs.Private.NameTests.{AddsNames, bound_of, has_name}
use Rattle.decl_table.specs.Private.PlainNameNode.{PlainNameNode}
use Rattle.decl_table.specs.Private.ReachView.{has_lists}
use Rattle.decl_table.specs.declared.reach.Reach.{Reach}
use Rattle.decl_table.proofs.AddedUses.{same_name}
use Rattle.decl_table.proofs.AffectedHeadings.{is_name, itself, or_right, or_split}

or_left : (a b : Bool) → a ≡ true → (a || b) ≡ true
or_left a b is = ap (λ (x : Bool). x || b) is

and_left : (a b : Bool) → (a && b) ≡ true → a ≡ true
and_left true b is = refl
and_left false b is = absurd (true≢false (sym is))

and_right : (a b : Bool) → (a && b) ≡ true → b ≡ true
and_right true b is = is
and_right false b is = absurd (true≢false (sym is))

both : (a b : Bool) → a ≡ true → b ≡ true → (a && b) ≡ true
both a b e f = λ i. e i && f i

not_true : (b : Bool) → not b ≡ true → b ≡ false
not_true true is = absurd (true≢false (sym is))
not_true false is = refl

-- ---- items that are the same

same_types_told : (one other : ItemType) → same_types one other ≡ true → one ≡ other
same_types_told ItemType.Fixed ItemType.Fixed is = refl
same_types_told ItemType.Fixed ItemType.Bit is = absurd (true≢false (sym is))
same_types_told ItemType.Fixed (ItemType.Text n) is = absurd (true≢false (sym is))
same_types_told ItemType.Bit ItemType.Fixed is = absurd (true≢false (sym is))
same_types_told ItemType.Bit ItemType.Bit is = refl
same_types_told ItemType.Bit (ItemType.Text n) is = absurd (true≢false (sym is))
same_types_told (ItemType.Text n) ItemType.Fixed is = absurd (true≢false (sym is))
same_types_told (ItemType.Text n) ItemType.Bit is = absurd (true≢false (sym is))
same_types_told (ItemType.Text n) (ItemType.Text m) is = ap ItemType.Text (eqb-true n m is)

same_types_self : (one : ItemType) → same_types one one ≡ true
same_types_self ItemType.Fixed = refl
same_types_self ItemType.Bit = refl
same_types_self (ItemType.Text n) = eq-eqb n n refl

pub same_item_told : (one other : Option Declared) → same_item one other ≡ true → one ≡ other
same_item_told None None is = refl
same_item_told None (Some other) is = absurd (true≢false (sym is))
same_item_told (Some one) None is = absurd (true≢false (sym is))
same_item_told (Some one) (Some other) is =
    let names = bytes_eq one.name other.name in
    let rest = and_right names (same_types one.ty other.ty && one.size == other.size) is in
    let name = is_name one.name other.name (and_left names (same_types one.ty other.ty && one.size == other.size) is) in
    let ty = same_types_told one.ty other.ty (and_left (same_types one.ty other.ty) (one.size == other.size) rest) in
    let size = eqb-true one.size other.size (and_right (same_types one.ty other.ty) (one.size == other.size) rest) in
    λ i. Some record { name = name i; ty = ty i; size = size i }

same_item_self : (one : Option Declared) → same_item one one ≡ true
same_item_self None = refl
same_item_self (Some one) =
    both (bytes_eq one.name one.name) (same_types one.ty one.ty && one.size == one.size) (itself one.name)
    (both (same_types one.ty one.ty) (one.size == one.size) (same_types_self one.ty) (eq-eqb one.size one.size refl))

item_other : (one other : Option Declared) → one ≢ other → not (same_item one other) ≡ true
item_other one other differs = by (same_item one other) refl
  where
    by : (b : Bool) → same_item one other ≡ b → not b ≡ true
    by true e = absurd (differs (same_item_told one other e))
    by false e = refl

-- ---- items that are lost

module _ (items others : List Declared) (name : List ℕ) where
  abbrev pub lost_in : List Declared → Bool
  lost_in all = list_any (λ (item : Declared). bytes_eq item.name name && item_differs items others item.name) all

  lost_here : (item : Declared) → (bytes_eq item.name name && item_differs items others item.name) ≡ true → item_differs items others name ≡ true
  lost_here item is =
      ap (item_differs items others)
      (sym (is_name item.name name (and_left (bytes_eq item.name name) (item_differs items others item.name) is)))
      ∙ and_right (bytes_eq item.name name) (item_differs items others item.name) is

  lost_among : (all : List Declared) → lost_in all ≡ true → item_differs items others name ≡ true
  lost_among [] is = absurd (true≢false (sym is))
  lost_among (item ∷ all) is =
      by (or_split (bytes_eq item.name name && item_differs items others item.name) (lost_in all) is) (λ e. lost_among all e)
    where
      by : ((bytes_eq item.name name && item_differs items others item.name) ≡ true) ⊎ (lost_in all ≡ true)
          → (lost_in all ≡ true → item_differs items others name ≡ true) → item_differs items others name ≡ true
      by (inl e) again = lost_here item e
      by (inr e) again = again e

  -- it is another one among the others
  pub lost_differs : is_lost items others name ≡ true → item_named name items ≢ item_named name others
  lost_differs there same =
      true≢false
      (sym (lost_among items there)
      ∙ ap (λ (o : Option Declared). not (same_item (item_named name items) o)) (sym same)
      ∙ ap not (same_item_self (item_named name items)))

  found_lost : item_differs items others name ≡ true → (all : List Declared) (item : Declared) → item_named name all ≡ Some item → lost_in all ≡ true
  found_lost differs [] item is = absurd (none-some item is)
  found_lost differs (first ∷ all) item is = by (bytes_eq name first.name) refl is (λ e. found_lost differs all item e)
    where
      by : (b : Bool) → bytes_eq name first.name ≡ b → cond b (Some first) (item_named name all) ≡ Some item
          → (item_named name all ≡ Some item → lost_in all ≡ true) → lost_in (first ∷ all) ≡ true
      by true e found again =
          or_left (bytes_eq first.name name && item_differs items others first.name) (lost_in all)
          (both (bytes_eq first.name name) (item_differs items others first.name) (same_name first.name name ∙ e)
          (ap (item_differs items others) (sym (is_name name first.name e)) ∙ differs))
      by false e found again =
          or_right (bytes_eq first.name name && item_differs items others first.name) (lost_in all) (again found)

  -- the item of a number, and those behind it
  pub lost_turn : (all : List Declared) (k : ℕ) → k < length all
      → lost_in (drop k all)
      ≡ (is_this
      (option_and_then (λ (item : Declared). if item_differs items others item.name then Some item.name else None) (slice_get all k)) name
      || lost_in (drop (suc k) all))
  lost_turn [] k within = absurd (omega (arith, within))
  lost_turn (item ∷ all) zero within = ap (λ (b : Bool). b || lost_in all) (by (item_differs items others item.name) (bytes_eq item.name name) refl)
    where
      by : (d b : Bool) → bytes_eq item.name name ≡ b
          → (bytes_eq item.name name && d) ≡ is_this (if d then Some item.name else None) name
      by true true e = ap (λ (x : Bool). x && true) e ∙ sym e
      by true false e = ap (λ (x : Bool). x && true) e ∙ sym e
      by false true e = ap (λ (x : Bool). x && false) e
      by false false e = ap (λ (x : Bool). x && false) e
  lost_turn (item ∷ all) (suc k) within = lost_turn all k (omega (arith, within))

-- an item that is another one is lost, one way or the other
pub differs_lost : (old new : List Declared) (name : List ℕ) → item_named name old ≢ item_named name new
    → (is_lost old new name || is_lost new old name) ≡ true
differs_lost old new name differs = by (item_named name old) (item_named name new) refl refl
  where
    by : (one other : Option Declared) → item_named name old ≡ one → item_named name new ≡ other
        → (is_lost old new name || is_lost new old name) ≡ true
    by None None e f = absurd (differs (e ∙ sym f))
    by (Some item) other e f =
        or_left (is_lost old new name) (is_lost new old name)
        (found_lost old new name (item_other (item_named name old) (item_named name new) differs) old item e)
    by None (Some item) e f =
        or_right (is_lost old new name) (is_lost new old name)
        (found_lost new old name (item_other (item_named name new) (item_named name old) (λ g. differs (sym g))) new item f)

-- ---- kinds that are the same

same_kinds_told : (one other : Option Kind) → same_kinds one other ≡ true → one ≡ other
same_kinds_told None None is = refl
same_kinds_told None (Some other) is = absurd (true≢false (sym is))
same_kinds_told (Some one) None is = absurd (true≢false (sym is))
same_kinds_told (Some Kind.Fixed) (Some Kind.Fixed) is = refl
same_kinds_told (Some Kind.Fixed) (Some Kind.Bit) is = absurd (true≢false (sym is))
same_kinds_told (Some Kind.Fixed) (Some Kind.Text) is = absurd (true≢false (sym is))
same_kinds_told (Some Kind.Bit) (Some Kind.Fixed) is = absurd (true≢false (sym is))
same_kinds_told (Some Kind.Bit) (Some Kind.Bit) is = refl
same_kinds_told (Some Kind.Bit) (Some Kind.Text) is = absurd (true≢false (sym is))
same_kinds_told (Some Kind.Text) (Some Kind.Fixed) is = absurd (true≢false (sym is))
same_kinds_told (Some Kind.Text) (Some Kind.Bit) is = absurd (true≢false (sym is))
same_kinds_told (Some Kind.Text) (Some Kind.Text) is = refl

same_kinds_self : (one : Option Kind) → same_kinds one one ≡ true
same_kinds_self None = refl
same_kinds_self (Some Kind.Fixed) = refl
same_kinds_self (Some Kind.Bit) = refl
same_kinds_self (Some Kind.Text) = refl

module _ (old new : List Declared) where
  turns_differ : (name : List ℕ) → kind_turns old new name ≡ true → kind_in old name ≢ kind_in new name
  turns_differ name turns same =
      true≢false
      (sym turns
      ∙ ap (λ (o : Option Kind). not (same_kinds (kind_in old name) o)) (sym same)
      ∙ ap not (same_kinds_self (kind_in old name)))

  differ_turns : (name : List ℕ) → kind_in old name ≢ kind_in new name → kind_turns old new name ≡ true
  differ_turns name differs = by (same_kinds (kind_in old name) (kind_in new name)) refl
    where
      by : (b : Bool) → same_kinds (kind_in old name) (kind_in new name) ≡ b → not b ≡ true
      by true e = absurd (differs (same_kinds_told (kind_in old name) (kind_in new name) e))
      by false e = refl

  -- one of the names has another kind
  pub record OneTurns (names : List (List ℕ)) : Type 0 where
    pub parameter : List ℕ
    pub among : has_name names parameter ≡ true
    pub turns : kind_in old parameter ≢ kind_in new parameter

  one_turns : (names : List (List ℕ)) → list_any (kind_turns old new) names ≡ true → OneTurns names
  one_turns [] is = absurd (true≢false (sym is))
  one_turns (name ∷ names) is = by (or_split (kind_turns old new name) (list_any (kind_turns old new) names) is) (λ e. one_turns names e)
    where
      later : OneTurns names → OneTurns (name ∷ names)
      later one =
          record {
            parameter = one.parameter;
            among = or_right (bytes_eq one.parameter name) (has_name names one.parameter) one.among;
            turns = one.turns;
          }

      by : (kind_turns old new name ≡ true) ⊎ (list_any (kind_turns old new) names ≡ true)
          → (list_any (kind_turns old new) names ≡ true → OneTurns names) → OneTurns (name ∷ names)
      by (inl e) again =
          record {
            parameter = name;
            among = or_left (bytes_eq name name) (has_name names name) (itself name);
            turns = turns_differ name e;
          }
      by (inr e) again = later (again e)

  turns_one : (names : List (List ℕ)) (parameter : List ℕ) → has_name names parameter ≡ true → kind_turns old new parameter ≡ true
      → list_any (kind_turns old new) names ≡ true
  turns_one [] parameter among turns = absurd (true≢false (sym among))
  turns_one (name ∷ names) parameter among turns =
      by (or_split (bytes_eq parameter name) (has_name names parameter) among) (λ e. turns_one names parameter e turns)
    where
      by : (bytes_eq parameter name ≡ true) ⊎ (has_name names parameter ≡ true)
          → (has_name names parameter ≡ true → list_any (kind_turns old new) names ≡ true)
          → (kind_turns old new name || list_any (kind_turns old new) names) ≡ true
      by (inl e) again =
          or_left (kind_turns old new name) (list_any (kind_turns old new) names)
          (ap (kind_turns old new) (sym (is_name parameter name e)) ∙ turns)
      by (inr e) again = or_right (kind_turns old new name) (list_any (kind_turns old new) names) (again e)

-- ---- the heading of the procedure

is_slot_told : (slot : ℕ) (found : Option ℕ) → is_slot slot found ≡ true → found ≡ Some slot
is_slot_told slot None is = absurd (true≢false (sym is))
is_slot_told slot (Some own) is = ap (λ (n : ℕ). Some n) (eqb-true own slot is)

module _ (headings : PlainHeadings) (old new : List Declared) (node : PlainNode) (name : List ℕ) where
  pub turns_told : own_turns headings old new node name ≡ true → HeadingTurns headings old new node name
  turns_told is = by (heading_of node.label.kind node.label.parts) refl is
    where
      by : (o : Option Heading) → heading_of node.label.kind node.label.parts ≡ o
          → heading_turns headings old new o node.label.slot name ≡ true → HeadingTurns headings old new node name
      by None has told = absurd (true≢false (sym told))
      by (Some heading) has told =
          let named = bytes_eq heading.name name in
          let at = is_slot node.label.slot (slot_of heading.name headings) in
          let any = list_any (kind_turns old new) heading.parameters in
          let rest = and_right named (at && any) told in
          let same = is_name heading.name name (and_left named (at && any) told) in
          let one = one_turns old new heading.parameters (and_right at any rest) in
          record {
            heading = heading;
            has = has;
            named = same_name name heading.name ∙ and_left named (at && any) told;
            effective =
                ap (λ (n : List ℕ). slot_of n headings) (sym same)
                ∙ is_slot_told node.label.slot (slot_of heading.name headings) (and_left at any rest);
            parameter = one.parameter;
            among = one.among;
            turns = one.turns;
          }

  pub told_turns : HeadingTurns headings old new node name → own_turns headings old new node name ≡ true
  told_turns t =
      let same : name ≡ t.heading.name = is_name name t.heading.name t.named in
      ap (λ (o : Option Heading). heading_turns headings old new o node.label.slot name) t.has
      ∙ both (bytes_eq t.heading.name name)
      (is_slot node.label.slot (slot_of t.heading.name headings) && list_any (kind_turns old new) t.heading.parameters)
      (same_name t.heading.name name ∙ t.named)
      (both (is_slot node.label.slot (slot_of t.heading.name headings)) (list_any (kind_turns old new) t.heading.parameters)
      (ap (λ (n : List ℕ). is_slot node.label.slot (slot_of n headings)) (sym same)
      ∙ ap (is_slot node.label.slot) t.effective
      ∙ eq-eqb node.label.slot node.label.slot refl)
      (turns_one old new t.heading.parameters t.parameter t.among (differ_turns old new t.parameter t.turns)))

-- ---- the names that are gathered

module _ (reach : Reach) (part : Option ℕ) (stood stands : Option PlainNameNode) (headings : PlainHeadings) (old new : List Declared)
    (procedure : Option PlainNode) where
  -- none, where the edit reaches no further
  pub gathers_none : has_lists reach ≡ false → (name : List ℕ)
      → has_name [] name ≡ true ↔ IsGathered reach part stood stands headings old new procedure name
  gathers_none far name = (λ there. absurd (true≢false (sym there)), λ why. absurd (by why))
    where
      no_declaration : reach ≡ Reach.Declaration → ⊥
      no_declaration is = true≢false (sym (ap has_lists is) ∙ far)

      by : IsGathered reach part stood stands headings old new procedure name → ⊥
      by (IsGathered.bound lists here) = true≢false (sym lists ∙ far)
      by (IsGathered.item is own there differs) = no_declaration is
      by (IsGathered.headed is own there turns) = no_declaration is

  why_inside : (name : List ℕ) (r : Reach) → reach ≡ r → (p : Option PlainNode) → procedure ≡ p → turns_inside r headings old new p name ≡ true
      → IsGathered reach part stood stands headings old new procedure name
  why_inside name Reach.Statement is p there turns = absurd (true≢false (sym turns))
  why_inside name Reach.Heading is p there turns = absurd (true≢false (sym turns))
  why_inside name Reach.Procedure is p there turns = absurd (true≢false (sym turns))
  why_inside name Reach.Declaration is None there turns = absurd (true≢false (sym turns))
  why_inside name Reach.Declaration is (Some own) there turns =
      by (or_split (is_lost old new name) (is_lost new old name || own_turns headings old new own name) turns)
    where
      later : (is_lost new old name ≡ true) ⊎ (own_turns headings old new own name ≡ true)
          → IsGathered reach part stood stands headings old new procedure name
      later (inl e) = IsGathered.item is own there (λ same. lost_differs new old name e (sym same))
      later (inr e) = IsGathered.headed is own there (turns_told headings old new own name e)

      by : (is_lost old new name ≡ true) ⊎ ((is_lost new old name || own_turns headings old new own name) ≡ true)
          → IsGathered reach part stood stands headings old new procedure name
      by (inl e) = IsGathered.item is own there (lost_differs old new name e)
      by (inr e) = later (or_split (is_lost new old name) (own_turns headings old new own name) e)

  inside_turns : (name : List ℕ) → reach ≡ Reach.Declaration → (own : PlainNode) → procedure ≡ Some own
      → names_turn headings old new (Some own) name ≡ true → turns_inside reach headings old new procedure name ≡ true
  inside_turns name is own there turns =
      ap (λ (r : Reach). turns_inside r headings old new procedure name) is
      ∙ ap (λ (p : Option PlainNode). names_turn headings old new p name) there
      ∙ turns

  -- those that are bound where the edit was, and those that it affects beyond
  pub gathers : (mid names : List (List ℕ)) → has_lists reach ≡ true
      → AddsNames (λ name. bound_of part stood name || bound_of part stands name) [] mid
      → AddsNames (turns_inside reach headings old new procedure) mid names → (name : List ℕ)
      → has_name names name ≡ true ↔ IsGathered reach part stood stands headings old new procedure name
  gathers mid names far first second name = (λ there. to (or_split bound beyond (sym is ∙ there)), λ why. is ∙ from why)
    where
      bound : Bool
      bound = bound_of part stood name || bound_of part stands name

      beyond : Bool
      beyond = turns_inside reach headings old new procedure name

      is : has_name names name ≡ (bound || beyond)
      is = second name ∙ ap (λ (b : Bool). b || beyond) (first name)

      to : (bound ≡ true) ⊎ (beyond ≡ true) → IsGathered reach part stood stands headings old new procedure name
      to (inl e) = IsGathered.bound far e
      to (inr e) = why_inside name reach refl procedure refl e

      a_or : (a b c : Bool) → (a || b) ≡ true → (a || (b || c)) ≡ true
      a_or true b c e = refl
      a_or false true c e = refl
      a_or false false c e = absurd (true≢false (sym e))

      from : IsGathered reach part stood stands headings old new procedure name → (bound || beyond) ≡ true
      from (IsGathered.bound lists here) = or_left bound beyond here
      from (IsGathered.item e own there differs) =
          or_right bound beyond
          (inside_turns name e own there
          (a_or (is_lost old new name) (is_lost new old name) (own_turns headings old new own name) (differs_lost old new name differs)))
      from (IsGathered.headed e own there turns) =
          or_right bound beyond
          (inside_turns name e own there
          (or_right (is_lost old new name) (is_lost new old name || own_turns headings old new own name)
          (or_right (is_lost new old name) (own_turns headings old new own name) (told_turns headings old new own name turns))))
