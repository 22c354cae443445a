-- Steps that stop with a fault: one for each of the nine, and the least that is written past the limit of the output.
use Rattle.std.specs.Prelude.{◌≡◌, refl, ℕ, zero, suc, ◌+◌, ◌<◌, ◌≤◌, Bool, true, false, if◌then◌else◌, List, [], ◌∷◌, ◌++◌, codes, length, replicate, Option}
use Rattle.std.specs.Fmt.{digits}
use Rattle.std.proofs.Common.{ap, ◌∙◌, arith, append_assoc}
use Rattle.std.proofs.lemmas.Bool.{le-leb, lt-leb}
use Rattle.std.proofs.lemmas.List.{length-append, length-replicate}
use Rattle.plcs_base.specs.declared.declared.ItemType.{ItemType}
use Rattle.plcs_grammar.specs.declared.builtin.Builtin.{Builtin}
use Rattle.plcs_grammar.specs.declared.node_kind.NodeKind.{NodeKind}
use Rattle.plcs_grammar.specs.declared.operator.InfixOp.{InfixOp}
use Rattle.plcs_grammar.specs.declared.template.Template.{Template}
use Rattle.plcs_grammar.specs.Builtin.{is_builtin_name}
use Rattle.plcs_grammar.specs.PlainPhrase.{PlainExpr, PlainExprs, PlainPhrase, PlainVarRef}
use Rattle.template_tree.specs.Positions.Place.{place_at}
use Rattle.template_tree.specs.Programs.NewTree.{bare_label}
use Rattle.template_tree.specs.Programs.PlainTree.{Forest, Label}
use Rattle.plcs_store.specs.declared.cell.Cell.{Cell}
use Rattle.plcs_store.specs.declared.fault_kind.FaultKind.{FaultKind}
use Rattle.plcs_store.specs.declared.frame.Frame.{Frame}
use Rattle.plcs_store.specs.Act.{Act}
use Rattle.plcs_store.specs.CellAt.{Variables}
use Rattle.plcs_store.specs.Configuration.{PlainConfiguration}
use Rattle.plcs_store.specs.Outcome.{Outcome, faults}
use Rattle.plcs_store.specs.OutputItem.{at_line_start, item_gap, value_bytes, with_item_written}
use Rattle.plcs_store.specs.Spot.{spot_by}
use Rattle.plcs_store.specs.Step.{PlainStepAnswer, going_on, output_act, step_answer, step_by}
use Rattle.plcs_store.proofs.Examples.Programs.{alone, filled, held, leaf, main_frame, nothing_marked, number, one_part, reference, scalar, stepped, stopped_by}
use Rattle.plcs_store.proofs.Examples.Row.{Rows, long, num}

-- ---- a program, of which each statement may have a fault

abbrev variable : List ℕ → PlainExpr
variable name = PlainExpr.variable (reference name)

abbrev puts : ℕ → PlainExpr → Label
puts slot e = filled slot Template.Put (one_part (PlainPhrase.expression_list (alone e)))

abbrev sets : ℕ → PlainVarRef → PlainExpr → Label
sets slot target e = record (bare_label slot NodeKind.Assign) { parts = one_part (PlainPhrase.assignment target e) }

-- the bytes of a text from this one on
abbrev from : List ℕ → ℕ → PlainExpr
from x i = PlainExpr.builtin Builtin.Substr (PlainExprs.cons (PlainExpr.text x) (alone (number i)))

-- the greatest number is raised; a number is divided by 0; the fourth of three cells is set; a text is taken from
-- behind its end on; a text of 256 bytes gets one more; y is read, which isn't set; x is read; 1 is put, and 1 on a new
-- line; p is called
abbrev main_inner : Forest
main_inner =
    leaf (sets 1 (reference (codes "x")) (PlainExpr.binary InfixOp.Plus (variable (codes "x")) (number 1)))
    (leaf (sets 2 (reference (codes "x")) (PlainExpr.binary InfixOp.Divide (number 1) (number 0)))
    (leaf (sets 3 (PlainVarRef.subscripted (codes "a") (number 4)) (number 1))
    (leaf (puts 4 (from (codes "ab") 4))
    (leaf (puts 5 (PlainExpr.binary InfixOp.Join (variable (codes "s")) (PlainExpr.text (codes "x"))))
    (leaf (puts 6 (variable (codes "y")))
    (leaf (filled 7 Template.Get (one_part (PlainPhrase.variable_list (reference (codes "x") ∷ []))))
    (leaf (puts 8 (number 1))
    (leaf (filled 9 Template.PutSkip (one_part (PlainPhrase.expression_list (alone (number 1)))))
    (leaf (filled 10 Template.Call (one_part (PlainPhrase.call (codes "p") PlainExprs.nil))) Forest.nil)))))))))

abbrev sample : Forest
sample =
    Forest.cons (bare_label 0 NodeKind.Main) main_inner
    (Forest.cons (filled 20 Template.Proc (one_part (PlainPhrase.procedure_name (codes "p"))))
    (leaf (filled 21 Template.Return []) Forest.nil)
    Forest.nil)

-- x is the greatest number, y isn't set, a has three cells, and s has 256 bytes
abbrev variables : Variables
variables =
    scalar (codes "x") (held 2147483647)
    ∷ (scalar (codes "y") Cell.Unset
    ∷ ((codes "a", record { ty = ItemType.Fixed; size = 3; cells = Cell.Unset ∷ (Cell.Unset ∷ (Cell.Unset ∷ [])) })
    ∷ ((codes "s", record { ty = ItemType.Text 256; size = 0; cells = Cell.Held (long 256) ∷ [] }) ∷ [])))

abbrev at : ℕ → PlainConfiguration
at slot = record { frames = main_frame (place_at slot 0) variables [] ∷ []; taken = 0; output = [] }

abbrev go : List ℕ → PlainConfiguration → Option PlainStepAnswer
go input c = step_by (spot_by nothing_marked sample) input c

-- ---- a fault of each kind but those of too much

faulty_steps : Rows
    ((go [] (at 1), stopped_by FaultKind.FixedOverflow)
    ∷ (go [] (at 2), stopped_by FaultKind.ZeroDivide)
    ∷ (go [] (at 3), stopped_by FaultKind.SubscriptRange)
    ∷ (go [] (at 4), stopped_by FaultKind.StringRange)
    ∷ (go [] (at 5), stopped_by FaultKind.StringSize)
    ∷ (go [] (at 6), stopped_by FaultKind.Uninitialized)
    ∷ (go (codes "x") (at 7), stopped_by FaultKind.Conversion) ∷ [])
faulty_steps = refl

-- ---- too many frames

abbrev waiting : Frame
waiting = main_frame (place_at 10 1) variables []

-- main calls p while this many frames stand below it
abbrev calls_above : ℕ → PlainConfiguration
calls_above n = record (at 10) { frames = replicate n waiting ++ (main_frame (place_at 10 0) variables [] ∷ []) }

call_too_deep : go [] (calls_above 63) ≡ stopped_by FaultKind.CallDepth
unfolding is_builtin_name
call_too_deep = refl

call_just_fits :
    go [] (calls_above 62)
    ≡ stepped (record (at 10) { frames = replicate 63 waiting ++ (record (main_frame (place_at 21 0) [] []) { procedure = record { 0 = 20 } } ∷ []) })
unfolding is_builtin_name
call_just_fits = refl

-- ---- too much output

-- a PUT, or a PUT SKIP, where this was written
abbrev writes_at : (slot : ℕ) → (output : List ℕ) → Option PlainStepAnswer
writes_at slot output = go [] (record (at slot) { output = output })

-- and what it leads to
abbrev written_at : (slot : ℕ) → (output : List ℕ) → Option PlainStepAnswer
written_at slot output = stepped (record (at slot) { output = output })

-- what a step comes to, by what is written in it
abbrev write_answer : (slot : ℕ) → (output : List ℕ) → Outcome Act → Option PlainStepAnswer
write_answer slot output act = step_answer (record (at slot) { output = output }) (going_on (place_at (slot + 1) 0) act)

too_long : (output : List ℕ) → 100000 < length output → output_act output ≡ faults FaultKind.OutputLimit
too_long output long =
    ap (λ (fits : Bool). if fits then Outcome.gives (Act.write output) else faults FaultKind.OutputLimit) (lt-leb (length output) 100000 long)

short_enough : (output : List ℕ) → length output ≤ 100000 → output_act output ≡ Outcome.gives (Act.write output)
short_enough output short =
    ap (λ (fits : Bool). if fits then Outcome.gives (Act.write output) else faults FaultKind.OutputLimit) (le-leb (length output) 100000 short)

-- a number of one digit makes the output one byte longer at least
longer : (output : List ℕ) → length output < length (with_item_written output (num 1))
unfolding digits
longer output =
    let one : length (value_bytes (num 1)) ≡ 1 = refl in
    omega (arith, one, length-append (output ++ item_gap output) (value_bytes (num 1)), length-append output (item_gap output))

-- behind the start of a line a blank comes before it
behind_blank : (output : List ℕ) → at_line_start output ≡ false → with_item_written output (num 1) ≡ output ++ codes " 1"
unfolding digits
behind_blank output within =
    ap (λ (starts : Bool). (output ++ (if starts then [] else codes " ")) ++ codes "1") within ∙ append_assoc output (codes " ") (codes "1")

-- at the start of a line it stands alone
alone_in_line : (output : List ℕ) → at_line_start output ≡ true → with_item_written output (num 1) ≡ output ++ codes "1"
unfolding digits
alone_in_line output starts =
    ap (λ (starts : Bool). (output ++ (if starts then [] else codes " ")) ++ codes "1") starts ∙ append_assoc output [] (codes "1")

-- behind a line end a line starts
line_starts : (output : List ℕ) → at_line_start (output ++ (10 ∷ [])) ≡ true
line_starts [] = refl
line_starts (byte ∷ []) = refl
line_starts (byte ∷ (next ∷ rest)) = line_starts (next ∷ rest)

-- the output is full
full : (output : List ℕ) → length output ≡ 100000 → writes_at 8 output ≡ stopped_by FaultKind.OutputLimit
full output e = ap (write_answer 8 output) (too_long (with_item_written output (num 1)) (omega (arith, e, longer output)))

-- a byte is left for the blank, and none for the number
one_past : (output : List ℕ) → length output ≡ 99999 → at_line_start output ≡ false → writes_at 8 output ≡ stopped_by FaultKind.OutputLimit
one_past output e within =
    let whole : length (with_item_written output (num 1)) ≡ length output + 2 =
    ap length (behind_blank output within) ∙ length-append output (codes " 1") in
    ap (write_answer 8 output) (too_long (with_item_written output (num 1)) (omega (arith, e, whole)))

-- both fit
just_fits : (output : List ℕ) → length output ≡ 99998 → at_line_start output ≡ false
    → writes_at 8 output ≡ written_at 9 (output ++ codes " 1")
just_fits output e within =
    let whole : length (with_item_written output (num 1)) ≡ length output + 2 =
    ap length (behind_blank output within) ∙ length-append output (codes " 1") in
    ap (write_answer 8 output) (short_enough (with_item_written output (num 1)) (omega (arith, e, whole)))
    ∙ ap (written_at 9) (behind_blank output within)

-- at the start of a line the last byte is the number's
just_fits_in_line : (output : List ℕ) → length output ≡ 99999 → at_line_start output ≡ true
    → writes_at 8 output ≡ written_at 9 (output ++ codes "1")
just_fits_in_line output e starts =
    let whole : length (with_item_written output (num 1)) ≡ length output + 1 =
    ap length (alone_in_line output starts) ∙ length-append output (codes "1") in
    ap (write_answer 8 output) (short_enough (with_item_written output (num 1)) (omega (arith, e, whole)))
    ∙ ap (written_at 9) (alone_in_line output starts)

-- on a new line a byte is left for the line end, and none for the number
line_past : (byte : ℕ) (rest : List ℕ) → length (byte ∷ rest) ≡ 99999 → writes_at 9 (byte ∷ rest) ≡ stopped_by FaultKind.OutputLimit
line_past byte rest e =
    let ended : length ((byte ∷ rest) ++ (10 ∷ [])) ≡ length (byte ∷ rest) + 1 = length-append (byte ∷ rest) (10 ∷ []) in
    ap (write_answer 9 (byte ∷ rest))
    (too_long (with_item_written ((byte ∷ rest) ++ (10 ∷ [])) (num 1)) (omega (arith, e, ended, longer ((byte ∷ rest) ++ (10 ∷ [])))))

-- both fit
line_just_fits : (byte : ℕ) (rest : List ℕ) → length (byte ∷ rest) ≡ 99998
    → writes_at 9 (byte ∷ rest) ≡ written_at 10 (((byte ∷ rest) ++ (10 ∷ [])) ++ codes "1")
line_just_fits byte rest e =
    let line : List ℕ = (byte ∷ rest) ++ (10 ∷ []) in
    let ended : length line ≡ length (byte ∷ rest) + 1 = length-append (byte ∷ rest) (10 ∷ []) in
    let starts : at_line_start line ≡ true = line_starts (byte ∷ rest) in
    let whole : length (with_item_written line (num 1)) ≡ length line + 1 =
    ap length (alone_in_line line starts) ∙ length-append line (codes "1") in
    ap (write_answer 9 (byte ∷ rest)) (short_enough (with_item_written line (num 1)) (omega (arith, e, ended, whole)))
    ∙ ap (written_at 10) (alone_in_line line starts)

-- there are such outputs: so many letters
letters : (n : ℕ) → at_line_start (replicate (suc n) 120) ≡ false
letters zero = refl
letters (suc n) = letters n

letters_just_fit : (n : ℕ) → suc n ≡ 99998
    → writes_at 8 (replicate (suc n) 120) ≡ written_at 9 (replicate (suc n) 120 ++ codes " 1")
letters_just_fit n e = just_fits (replicate (suc n) 120) (length-replicate (suc n) 120 ∙ e) (letters n)

letters_past : (n : ℕ) → suc n ≡ 99999 → writes_at 8 (replicate (suc n) 120) ≡ stopped_by FaultKind.OutputLimit
letters_past n e = one_past (replicate (suc n) 120) (length-replicate (suc n) 120 ∙ e) (letters n)
