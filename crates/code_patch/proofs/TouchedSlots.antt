-- What an edit of a program touched covers all that proofs about its bill ask.
use Rattle.std.proofs.Common.{◌≡◌, ℕ, Bool, true, false, cond, List, [], ◌∷◌, Option, Some, None, refl, ap, sym, ◌∙◌, arith, eq-eqb, eqb-true}
use Rattle.std.specs.Prelude.{not, ◌&&◌, ◌||◌, ◌==◌, ◌≢◌, nat_lt, slice_get}
use Rattle.std.specs.FinMap.{entries, find, get, get-entries}
use Rattle.std.specs.Option.{option_map_or}
use Rattle.std.specs.Ordering.{eq_by_cmp}
use Rattle.std.proofs.lemmas.Bool.{lt-ltb}
use Rattle.std.proofs.lemmas.Option.{none-some, same_Some}
use Rattle.plcs_base.specs.Mark.{MarkMap, phrase_cmp}
use Rattle.plcs_base.specs.PlaceOrder.{same_place}
use Rattle.plcs_base.specs.declared.mark.MarkKind.{MarkKind}
use Rattle.plcs_base.specs.declared.place.PhraseAt.{PhraseAt}
use Rattle.template_tree.specs.declared.change.Change.{Change}
use Rattle.template_tree.specs.Checks.Marks.{Marks}
use Rattle.template_tree.specs.Checks.Mention.{phrase_at}
use Rattle.template_tree.specs.Edits.Edit.{changed_in, procedure_of}
use Rattle.template_tree.specs.Programs.PlainTree.{Forest}
use Rattle.template_tree.specs.Programs.Slots.{times}
use Rattle.code_patch.specs.Bill.{has_other_mark, is_brought, is_declaration_at, is_marked_otherwise, is_of_node, is_redeclared, is_touched, loses_mark, times_inside}
use Rattle.code_patch.specs.MarkKinds.{is_same_kind, mark_number}
use Rattle.code_patch.specs.Private.CoversTouched.{CoversTouched}

either_first : (a b : Bool) → a ≡ true → (a || b) ≡ true
either_first a b is = ap (λ (x : Bool). x || b) is

either_second : (a b : Bool) → b ≡ true → (a || b) ≡ true
either_second true b is = refl
either_second false b is = is

both_hold : (a b : Bool) → a ≡ true → b ≡ true → (a && b) ≡ true
both_hold a b one other = (λ i. one i && other i)

-- ---- kinds of marks

abbrev all_kinds : List MarkKind
all_kinds =
    MarkKind.Undeclared
    ∷ MarkKind.TypeMismatch
    ∷ MarkKind.NotArray
    ∷ MarkKind.NeedsSubscript
    ∷ MarkKind.Duplicate
    ∷ MarkKind.UnknownProcedure
    ∷ MarkKind.WrongCount
    ∷ MarkKind.ArgumentType
    ∷ MarkKind.ParameterUndeclared
    ∷ MarkKind.TooManyCells
    ∷ MarkKind.Reserved
    ∷ []

numbered : (kind : MarkKind) → slice_get all_kinds (mark_number kind) ≡ Some kind
numbered MarkKind.Undeclared = refl
numbered MarkKind.TypeMismatch = refl
numbered MarkKind.NotArray = refl
numbered MarkKind.NeedsSubscript = refl
numbered MarkKind.Duplicate = refl
numbered MarkKind.UnknownProcedure = refl
numbered MarkKind.WrongCount = refl
numbered MarkKind.ArgumentType = refl
numbered MarkKind.ParameterUndeclared = refl
numbered MarkKind.TooManyCells = refl
numbered MarkKind.Reserved = refl

-- kinds of the same number are the same
same_kind : (one other : MarkKind) → is_same_kind one other ≡ true → one ≡ other
same_kind one other is =
    same_Some one other
    (sym (numbered one)
    ∙ ap (λ (n : ℕ). slice_get all_kinds n) (eqb-true (mark_number one) (mark_number other) is)
    ∙ numbered other)

-- ---- marks

-- a mark that isn't in a map of marks is another one there, or isn't there
other_mark : (marks : MarkMap) (at : PhraseAt) (kind : MarkKind) → (get marks at ≡ Some kind → ⊥) → has_other_mark marks (at, kind) ≡ true
other_mark marks at kind none = by (get marks at) refl
  where
    kinds : (found : MarkKind) → get marks at ≡ Some found → (b : Bool) → is_same_kind found kind ≡ b → not b ≡ true
    kinds found e true is = absurd (none (e ∙ ap (λ (k : MarkKind). Some k) (same_kind found kind is)))
    kinds found e false is = refl

    by : (o : Option MarkKind) → get marks at ≡ o → option_map_or (λ found. not (is_same_kind found kind)) o true ≡ true
    by None e = refl
    by (Some found) e = kinds found e (is_same_kind found kind) refl

-- a mark that is found in a list, and is another one in a map of marks, is lost
lost_among : (at : PhraseAt) (kind : MarkKind) (others : MarkMap) → has_other_mark others (at, kind) ≡ true
    → (marks : List (PhraseAt × MarkKind)) → find phrase_cmp at marks ≡ Some kind → loses_mark at.slot.0 marks others ≡ true
lost_among at kind others lost [] found = absurd (none-some kind found)
lost_among at kind others lost (mark ∷ marks) found =
    by (eq_by_cmp phrase_cmp at mark.0) refl found (lost_among at kind others lost marks)
  where
    by : (b : Bool) → eq_by_cmp phrase_cmp at mark.0 ≡ b → cond b (Some mark.1) (find phrase_cmp at marks) ≡ Some kind
        → (find phrase_cmp at marks ≡ Some kind → loses_mark at.slot.0 marks others ≡ true)
        → loses_mark at.slot.0 (mark ∷ marks) others ≡ true
    by true same is again =
        let place : at ≡ mark.0 = same_place at mark.0 same in
        let its : mark.1 ≡ kind = same_Some mark.1 kind is in
        let here : ((at.slot.0 == at.slot.0) && has_other_mark others (at, kind)) ≡ true =
        both_hold (at.slot.0 == at.slot.0) (has_other_mark others (at, kind)) (eq-eqb at.slot.0 at.slot.0 refl) lost in
        either_first ((mark.0.slot.0 == at.slot.0) && has_other_mark others mark) (loses_mark at.slot.0 marks others)
        ((λ i. ((sym place i).slot.0 == at.slot.0) && has_other_mark others (sym place i, its i)) ∙ here)
    by false other is again =
        either_second ((mark.0.slot.0 == at.slot.0) && has_other_mark others mark) (loses_mark at.slot.0 marks others) (again is)

-- a mark of a map is lost where another one is there in another map, or none is
lost : (one other : MarkMap) (at : PhraseAt) (kind : MarkKind) → get one at ≡ Some kind → (get other at ≡ Some kind → ⊥)
    → loses_mark at.slot.0 (entries one) other ≡ true
lost one other at kind is none = lost_among at kind other (other_mark other at kind none) (entries one) (sym (get-entries one at) ∙ is)

-- a slot with a phrase whose mark differs is marked otherwise
marked_otherwise : (before after : Forest) (slot part : ℕ)
    → get (Marks before) (phrase_at slot part) ≢ get (Marks after) (phrase_at slot part) → is_marked_otherwise before after slot ≡ true
marked_otherwise before after slot part differs = by (get (Marks before) (phrase_at slot part)) (get (Marks after) (phrase_at slot part)) refl refl
  where
    by : (o p : Option MarkKind) → get (Marks before) (phrase_at slot part) ≡ o → get (Marks after) (phrase_at slot part) ≡ p
        → is_marked_otherwise before after slot ≡ true
    by None None e f = absurd (differs (e ∙ sym f))
    by (Some kind) p e f =
        either_first (loses_mark slot (entries (Marks before)) (Marks after)) (loses_mark slot (entries (Marks after)) (Marks before))
        (lost (Marks before) (Marks after) (phrase_at slot part) kind e (λ same. differs (e ∙ sym same)))
    by None (Some kind) e f =
        either_second (loses_mark slot (entries (Marks before)) (Marks after)) (loses_mark slot (entries (Marks after)) (Marks before))
        (lost (Marks after) (Marks before) (phrase_at slot part) kind f (λ same. none-some kind (sym e ∙ same)))

-- ---- all that is touched

-- the slots that an edit touched cover all that
pub covers_touched : (before after : Forest) (change : Change)
    → procedure_of (changed_in change.what before after) change.slot.0 ≡ Some change.procedure.0
    → CoversTouched before after change (is_touched change.what change.slot.0 before after)
covers_touched before after change within =
    let what = change.what in
    let at = change.slot.0 in
    let brought : ℕ → Bool = (λ slot. is_brought what at before after slot) in
    let marked : ℕ → Bool = (λ slot. is_marked_otherwise before after slot) in
    let redeclared : ℕ → Bool = (λ slot. is_redeclared what at before after slot) in
    let by_brought : (slot : ℕ) → is_brought what at before after slot ≡ true → is_touched what at before after slot ≡ true =
    (λ slot is.
    either_second (slot == at) (brought slot || (marked slot || redeclared slot))
    (either_first (brought slot) (marked slot || redeclared slot) is)) in
    record {
      changed =
          either_first (at == at) (brought at || (marked at || redeclared at)) (eq-eqb at at refl);
      drawn = λ slot none live.
          by_brought slot
          (either_first ((times slot before == 0) && nat_lt 0 (times slot after)) (is_of_node what && nat_lt 0 (times_inside after at slot))
          (both_hold (times slot before == 0) (nat_lt 0 (times slot after)) (eq-eqb (times slot before) 0 none) (lt-ltb 0 (times slot after) (omega (arith, live)))));
      put = λ did slot inside.
          by_brought slot
          (either_second ((times slot before == 0) && nat_lt 0 (times slot after)) (is_of_node what && nat_lt 0 (times_inside after at slot))
          (both_hold (is_of_node what) (nat_lt 0 (times_inside after at slot)) (ap is_of_node did) (lt-ltb 0 (times_inside after at slot) (omega (arith, inside)))));
      marked = λ slot part differs.
          either_second (slot == at) (brought slot || (marked slot || redeclared slot))
          (either_second (brought slot) (marked slot || redeclared slot)
          (either_first (marked slot) (redeclared slot) (marked_otherwise before after slot part differs)));
      procedure = λ declares.
          let own = change.procedure.0 in
          let found : option_map_or (λ procedure. procedure == own) (procedure_of (changed_in what before after) at) false ≡ true =
          ap (λ (o : Option ℕ). option_map_or (λ (procedure : ℕ). procedure == own) o false) within ∙ eq-eqb own own refl in
          either_second (own == at) (brought own || (marked own || redeclared own))
          (either_second (brought own) (marked own || redeclared own)
          (either_second (marked own) (redeclared own)
          (both_hold (is_declaration_at before at || is_declaration_at after at)
          (option_map_or (λ procedure. procedure == own) (procedure_of (changed_in what before after) at) false) declares found)));
    }
