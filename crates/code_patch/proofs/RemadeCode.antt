-- Whether the own code of a kept node is made anew.
use Rattle.std.specs.Prelude.{◌≡◌, ◌↔◌, refl, ℕ, ◌+◌, Bool, true, false, not, ◌&&◌, ◌||◌, ◌==◌, if◌then◌else◌, List, [], ◌∷◌, Option, Some, None, is_some, option_map, take}
use Rattle.std.specs.FinMap.{get}
use Rattle.std.specs.Option.{option_map_or}
use Rattle.std.proofs.Common.{ap, sym, ◌∙◌, true≢false}
use Rattle.plcs_base.specs.Mark.{MarkMap}
use Rattle.plcs_base.specs.Scope.{ItemMap}
use Rattle.plcs_base.specs.declared.place.Slot.{Slot}
use Rattle.plcs_grammar.specs.PlainPhrase.{PlainPhrase}
use Rattle.template_tree.specs.Checks.Environment.{heading_of}
use Rattle.template_tree.specs.Checks.Mention.{phrase_at}
use Rattle.template_tree.specs.Checks.ProgramMaps.{items_in}
use Rattle.template_tree.specs.Programs.Part.{part_at}
use Rattle.template_tree.specs.Programs.PlainTree.{Label}
use Rattle.plcs_code.specs.ExprCode.{counter_name}
use Rattle.plcs_code.specs.OwnCode.{PlainOwnCode, name_to_call, own_code_by}
use Rattle.plcs_code.specs.Pieces.{has_empty, has_marked_part, kind_pieces, suspension}
use Rattle.plcs_code.specs.PlainInstr.{PlainInstr}
use Rattle.code_patch.specs.Private.NearCode.{OwnNear, PlainPlan, is_remade, same_answer, stops_as}

-- the same answer twice is the same
same_twice : (b : Bool) → same_answer b b ≡ true
same_twice true = refl
same_twice false = refl

-- own code stops as that of a node does by these marks, if it does where it needs all parts and where it needs the
-- first
pub stops_same : (marks : MarkMap) (own : PlainOwnCode) (label : Label)
    → own.all_stopped ≡ is_some (suspension marks label.slot label.parts)
    → own.one_stopped ≡ is_some (suspension marks label.slot (take 1 label.parts)) → stops_as marks own label ≡ true
stops_same marks own label all one =
    (λ i.
    same_answer (all i) (is_some (suspension marks label.slot label.parts))
    && same_answer (one i) (is_some (suspension marks label.slot (take 1 label.parts))))
    ∙ ap (λ (b : Bool). b && same_answer (is_some (suspension marks label.slot (take 1 label.parts))) (is_some (suspension marks label.slot (take 1 label.parts))))
    (same_twice (is_some (suspension marks label.slot label.parts)))
    ∙ same_twice (is_some (suspension marks label.slot (take 1 label.parts)))

-- ---- own code that isn't made anew

-- of three reasons none is there
no_reason : (a b c : Bool) → (a || (b || not c)) ≡ false → c ≡ true
no_reason true b c none = absurd (true≢false none)
no_reason false true c none = absurd (true≢false none)
no_reason false false true none = refl
no_reason false false false none = absurd (true≢false none)

-- both answers are the same
same_both : (a b c d : Bool) → (same_answer a b && same_answer c d) ≡ true → (a ≡ b) × (c ≡ d)
same_both true true true true is = (refl, refl)
same_both true true true false is = absurd (true≢false (sym is))
same_both true true false true is = absurd (true≢false (sym is))
same_both true true false false is = (refl, refl)
same_both true false c d is = absurd (true≢false (sym is))
same_both false true c d is = absurd (true≢false (sym is))
same_both false false true true is = (refl, refl)
same_both false false true false is = absurd (true≢false (sym is))
same_both false false false true is = absurd (true≢false (sym is))
same_both false false false false is = (refl, refl)

-- what stops a run at parts is told by whether something does, since what is empty is told by the parts
stop_told : (one other : MarkMap) (slot : ℕ) (parts : List (Option PlainPhrase))
    → is_some (suspension one slot parts) ≡ is_some (suspension other slot parts) → suspension one slot parts ≡ suspension other slot parts
stop_told one other slot parts is = by (has_empty parts) (has_marked_part one slot 0 parts) (has_marked_part other slot 0 parts) is
  where
    by : (empty a b : Bool)
        → is_some (if empty then Some PlainInstr.suspend_placeholder else (if a then Some PlainInstr.suspend_marked else None))
        ≡ is_some (if empty then Some PlainInstr.suspend_placeholder else (if b then Some PlainInstr.suspend_marked else None))
        → (if empty then Some PlainInstr.suspend_placeholder else (if a then Some PlainInstr.suspend_marked else None))
        ≡ (if empty then Some PlainInstr.suspend_placeholder else (if b then Some PlainInstr.suspend_marked else None))
    by true a b is = refl
    by false true true is = refl
    by false true false is = absurd (true≢false is)
    by false false true is = absurd (true≢false (sym is))
    by false false false is = refl

-- own code is the same where what stops a run there is, and the items
same_own : (one other : MarkMap) (before after : ItemMap) (label : Label)
    → suspension one label.slot label.parts ≡ suspension other label.slot label.parts
    → suspension one label.slot (take 1 label.parts) ≡ suspension other label.slot (take 1 label.parts)
    → items_in before label.slot ≡ items_in after label.slot → own_code_by one before label ≡ own_code_by other after label
same_own one other before after label all first items =
    (λ i.
    record {
      slot = label.slot;
      kind = label.kind;
      name = name_to_call (heading_of label.kind label.parts);
      counter = counter_name (part_at label.parts 0);
      all_stopped = is_some (all i);
      one_stopped = is_some (first i);
      pieces = kind_pieces label.slot (all i) (first i) label.parts (items i) label.kind;
    })

-- own code that isn't made anew is that after the edit, where the items of its procedure stay
pub own_near : (plan : PlainPlan) (marks : MarkMap) (items : ItemMap) (label : Label)
    → items_in items label.slot ≡ items_in plan.items label.slot → OwnNear plan false (own_code_by marks items label) label
own_near plan marks items label same remade =
    let was = own_code_by marks items label in
    let stops =
    no_reason false (option_map_or (λ procedure. procedure == was.slot) plan.procedure false) (stops_as plan.marks was label) remade in
    let (all, one) =
    same_both (is_some (suspension marks label.slot label.parts)) (is_some (suspension plan.marks label.slot label.parts))
    (is_some (suspension marks label.slot (take 1 label.parts))) (is_some (suspension plan.marks label.slot (take 1 label.parts))) stops in
    same_own marks plan.marks items plan.items label (stop_told marks plan.marks label.slot label.parts all)
    (stop_told marks plan.marks label.slot (take 1 label.parts) one) same

-- parts are marked by two maps alike where each of them is
marked_alike : (one other : MarkMap) (slot : ℕ) → ((part : ℕ) → get one (phrase_at slot part) ≡ get other (phrase_at slot part))
    → (part : ℕ) (parts : List (Option PlainPhrase)) → has_marked_part one slot part parts ≡ has_marked_part other slot part parts
marked_alike one other slot alike part [] = refl
marked_alike one other slot alike part (place ∷ parts) =
    (λ i. is_some (alike part i) || marked_alike one other slot alike (part + 1) parts i)

-- own code stays where the marks of the node's phrases do, and the items of its procedure
pub own_stays_by : (plan : PlainPlan) (marks : MarkMap) (items : ItemMap) (label : Label)
    → ((part : ℕ) → get marks (phrase_at label.slot part) ≡ get plan.marks (phrase_at label.slot part))
    → items_in items label.slot ≡ items_in plan.items label.slot → own_code_by marks items label ≡ own_code_by plan.marks plan.items label
own_stays_by plan marks items label alike same =
    same_own marks plan.marks items plan.items label (stopped label.parts) (stopped (take 1 label.parts)) same
  where
    stopped : (parts : List (Option PlainPhrase)) → suspension marks label.slot parts ≡ suspension plan.marks label.slot parts
    stopped parts =
        ap
        (λ (b : Bool).
        if has_empty parts then Some PlainInstr.suspend_placeholder else (if b then Some PlainInstr.suspend_marked else None))
        (marked_alike marks plan.marks label.slot alike 0 parts)

-- ---- whether own code is made anew

-- what own code tells of where it stops is what is asked of it
pub stops_told : (marks : MarkMap) (own : PlainOwnCode) (label : Label) (told : Bool)
    → told ≡ true
    ↔ ((own.all_stopped ≡ is_some (suspension marks label.slot label.parts))
    × (own.one_stopped ≡ is_some (suspension marks label.slot (take 1 label.parts))))
    → told ≡ stops_as marks own label
stops_told marks own label true iff = sym (stops_same marks own label (iff.0 refl).0 (iff.0 refl).1)
stops_told marks own label false iff = by (stops_as marks own label) refl
  where
    by : (b : Bool) → stops_as marks own label ≡ b → false ≡ b
    by false e = refl
    by true e =
        iff.1
        (same_both own.all_stopped (is_some (suspension marks label.slot label.parts)) own.one_stopped
        (is_some (suspension marks label.slot (take 1 label.parts))) e)

-- one of three reasons is enough
pub remade_end : (plan : PlainPlan) (ends : Bool) (was : PlainOwnCode) (label : Label) → ends ≡ true → true ≡ is_remade plan ends was label
remade_end plan ends was label is =
    sym
    (ap
    (λ (b : Bool).
    b
    || (option_map_or (λ procedure. procedure == was.slot) plan.procedure false || not (stops_as plan.marks was label)))
    is)

pub remade_procedure : (plan : PlainPlan) (ends : Bool) (was : PlainOwnCode) (label : Label) → ends ≡ false
    → option_map_or (λ procedure. procedure == was.slot) plan.procedure false ≡ true → true ≡ is_remade plan ends was label
remade_procedure plan ends was label way is = sym (λ i. way i || (is i || not (stops_as plan.marks was label)))

pub remade_stop : (plan : PlainPlan) (ends : Bool) (was : PlainOwnCode) (label : Label) (told : Bool) → ends ≡ false
    → option_map_or (λ procedure. procedure == was.slot) plan.procedure false ≡ false → told ≡ stops_as plan.marks was label
    → not told ≡ is_remade plan ends was label
remade_stop plan ends was label told way none is = sym (λ i. way i || (none i || not (sym is i)))

-- the procedure that is touched, by slots
pub procedure_told : (procedure : Option Slot) (slot : ℕ)
    → option_map_or (λ (p : Slot). p.0 == slot) procedure false
    ≡ option_map_or (λ (n : ℕ). n == slot) (option_map (λ (p : Slot). p.0) procedure) false
procedure_told None slot = refl
procedure_told (Some p) slot = refl
