-- What was found in a phrase without an offence was found in its parts.
use Rattle.std.specs.Prelude.{◌≡◌, refl, ℕ, ◌==◌, Bool, true, false, ◌&&◌, ◌||◌, if◌then◌else◌, List, ◌++◌, length, option_to_list, Option, Some, None, Result, Ok, Err, ok_or}
use Rattle.std.specs.Option.{option_or}
use Rattle.std.proofs.Common.{ap, sym}
use Rattle.std.proofs.Math.Bool.{false≢true}
use Rattle.std.proofs.lemmas.Option.{none-some}
use Rattle.plcs_base.specs.declared.declared.Declared.{Declared}
use Rattle.plcs_base.specs.declared.mark.MarkKind.{MarkKind}
use Rattle.plcs_base.specs.declared.value.Kind.{Kind}
use Rattle.plcs_grammar.specs.declared.operator.InfixOp.{InfixOp}
use Rattle.plcs_grammar.specs.declared.builtin.Builtin.{Builtin}
use Rattle.plcs_grammar.specs.Builtin.{is_builtin_name}
use Rattle.template_tree.specs.Checks.Environment.{item_named, kind_of_type}
use Rattle.template_tree.specs.Checks.KindTable.{builtin_row, infix_gives, infix_takes, same_kind}
use Rattle.template_tree.specs.Checks.Verdict.{array_kind, both_found, builtin_found, cell_found, fit, infix_found, is_count, is_pair, item_found, name_kind, of_kind, offence_in, scalar_found, then_found}

-- ---- truth values

pub and_both : (one other : Bool) → (one && other) ≡ true → (one ≡ true) × (other ≡ true)
and_both true other e = (refl, e)
and_both false other e = absurd (false≢true e)

pub neither : (one other : Bool) → (one || other) ≡ false → (one ≡ false) × (other ≡ false)
neither true other e = absurd (false≢true (sym e))
neither false other e = (refl, e)

-- ---- kinds

pub kinds_same : (one other : Kind) → same_kind one other ≡ true → one ≡ other
kinds_same Kind.Fixed Kind.Fixed e = refl
kinds_same Kind.Bit Kind.Bit e = refl
kinds_same Kind.Text Kind.Text e = refl
kinds_same one other e = absurd (false≢true e)

pub kind_itself : (kind : Kind) → same_kind kind kind ≡ true
kind_itself Kind.Fixed = refl
kind_itself Kind.Bit = refl
kind_itself Kind.Text = refl

-- ---- what was found

abbrev was_found : {A : Type 0} → Result A MarkKind → Bool
was_found (Ok a) = true
was_found (Err offence) = false

abbrev found_or : {A : Type 0} → A → Result A MarkKind → A
found_or other (Ok a) = a
found_or other (Err offence) = other

pub no_finding : {A : Type 0} (offence : MarkKind) (a : A) → (let r : Result A MarkKind = Err offence in r) ≡ Ok a → ⊥
no_finding offence a e = false≢true (ap was_found e)

pub same_finding : {A : Type 0} (a b : A) → (let r : Result A MarkKind = Ok a in r) ≡ Ok b → a ≡ b
same_finding a b e = ap (found_or a) e

pub found_then : {A B : Type 0} (part : Result A MarkKind) (make : A → Result B MarkKind) (b : B) → then_found part make ≡ Ok b
    → (a : A) × (part ≡ Ok a) × (make a ≡ Ok b)
found_then (Ok a) make b e = (a, refl, e)
found_then (Err offence) make b e = absurd (no_finding offence b e)

pub found_both : {A B C : Type 0} (one : Result A MarkKind) (other : Result B MarkKind) (make : A → B → Result C MarkKind) (c : C)
    → both_found one other make ≡ Ok c → (a : A) × (b : B) × (one ≡ Ok a) × (other ≡ Ok b) × (make a b ≡ Ok c)
found_both (Ok a) (Ok b) make c e = (a, b, refl, refl, e)
found_both (Ok a) (Err offence) make c e = absurd (no_finding offence c e)
found_both (Err offence) other make c e = absurd (no_finding offence c e)

pub no_offence : {A : Type 0} (part : Result A MarkKind) → offence_in part ≡ None → (a : A) × (part ≡ Ok a)
no_offence (Ok a) e = (a, refl)
no_offence (Err offence) e = absurd (none-some offence (sym e))

pub no_offences : (one other : Option MarkKind) → option_or one other ≡ None → (one ≡ None) × (other ≡ None)
no_offences None other e = (refl, e)
no_offences (Some offence) other e = absurd (none-some offence (sym e))

tested : {A : Type 0} (test : Bool) (a b : A) (offence : MarkKind)
    → (if test then (let r : Result A MarkKind = Ok a in r) else Err offence) ≡ Ok b → (test ≡ true) × (a ≡ b)
tested true a b offence e = (refl, same_finding a b e)
tested false a b offence e = absurd (no_finding offence b e)

-- a kind that was wanted
pub wanted : (kind found k : Kind) → of_kind kind found ≡ Ok k → (found ≡ kind) × (found ≡ k)
wanted kind found k e =
    let both = tested (same_kind kind found) found k MarkKind.TypeMismatch e in (sym (kinds_same kind found both.0), both.1)

pub infix_kinds : (op : InfixOp) (left right k : Kind) → infix_found op left right ≡ Ok k
    → (is_pair (infix_takes op) left right ≡ true) × (infix_gives op ≡ k)
infix_kinds op left right k e = tested (is_pair (infix_takes op) left right) (infix_gives op) k MarkKind.TypeMismatch e

tested_twice : {A : Type 0} (one other : Bool) (a b : A) (offence more : MarkKind)
    → (if one then (if other then (let r : Result A MarkKind = Ok a in r) else Err offence) else Err more) ≡ Ok b
    → (one ≡ true) × (other ≡ true) × (a ≡ b)
tested_twice true other a b offence more e = let both = tested other a b offence e in (refl, both.0, both.1)
tested_twice false other a b offence more e = absurd (no_finding more b e)

pub builtin_kinds : (function : Builtin) (kinds : List Kind) (k : Kind) → builtin_found function kinds ≡ Ok k
    → (is_count (length (builtin_row function).takes) (builtin_row function).perhaps (length kinds) ≡ true)
    × (fit ((builtin_row function).takes ++ option_to_list (builtin_row function).perhaps) kinds ≡ true)
    × ((builtin_row function).gives ≡ k)
builtin_kinds function kinds k e =
    tested_twice (is_count (length (builtin_row function).takes) (builtin_row function).perhaps (length kinds))
    (fit ((builtin_row function).takes ++ option_to_list (builtin_row function).perhaps) kinds) (builtin_row function).gives k
    MarkKind.TypeMismatch MarkKind.WrongCount e

-- ---- names

there_level : (reserved : Bool) (named : Option Declared) (item : Declared)
    → (if reserved then (let r : Result Declared MarkKind = Err MarkKind.Reserved in r) else ok_or named MarkKind.Undeclared) ≡ Ok item
    → named ≡ Some item
there_level true named item e = absurd (no_finding MarkKind.Reserved item e)
there_level false None item e = absurd (no_finding MarkKind.Undeclared item e)
there_level false (Some one) item e = ap Some (same_finding one item e)

item_there : (items : List Declared) (name : List ℕ) (item : Declared) → item_found items name ≡ Ok item → item_named name items ≡ Some item
item_there items name item e = there_level (is_builtin_name name) (item_named name items) item e

tested_not : {A : Type 0} (test : Bool) (a b : A) (offence : MarkKind)
    → (if test then Err offence else (let r : Result A MarkKind = Ok a in r)) ≡ Ok b → a ≡ b
tested_not true a b offence e = absurd (no_finding offence b e)
tested_not false a b offence e = same_finding a b e

-- the item that a name without a subscript stands for
pub name_item : (items : List Declared) (name : List ℕ) (k : Kind) → name_kind items name ≡ Ok k
    → (item : Declared) × (item_named name items ≡ Some item) × (kind_of_type item.ty ≡ k)
name_item items name k e =
    let (item, there, kind) = found_then (item_found items name) scalar_found k e in
    (item, item_there items name item there, (tested (item.size == 0) (kind_of_type item.ty) k MarkKind.NeedsSubscript kind).1)

pub array_item : (items : List Declared) (name : List ℕ) (k : Kind) → array_kind items name ≡ Ok k
    → (item : Declared) × (item_named name items ≡ Some item) × (kind_of_type item.ty ≡ k)
array_item items name k e =
    let (item, there, kind) = found_then (item_found items name) cell_found k e in
    (item, item_there items name item there, tested_not (item.size == 0) (kind_of_type item.ty) k MarkKind.NotArray kind)
