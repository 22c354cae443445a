-- A program has one code: by maps that tell of it, of which its own is one, and in programs that check alike.
use Rattle.std.proofs.Common.{◌≡◌, ℕ, Bool, true, false, List, [], Option, Some, refl, ap, sym, ◌∙◌}
use Rattle.std.specs.Prelude.{◌==◌, cond, if◌then◌else◌, map, option_map, unwrap_or}
use Rattle.std.specs.FinMap.{find, get-from_entries}
use Rattle.std.specs.Ordering.{nat_cmp}
use Rattle.std.proofs.lemmas.Cmp.{nat_cmp_total, nat_eq_equiv}
use Rattle.plcs_base.specs.Mark.{MarkMap}
use Rattle.plcs_base.specs.declared.declared.Declared.{Declared}
use Rattle.template_tree.specs.Checks.Environment.{items_inside, procedure_at}
use Rattle.template_tree.specs.Checks.Marks.{Verdicts, offences}
use Rattle.template_tree.specs.Edits.Edit.{edit_at}
use Rattle.template_tree.specs.Edits.Elision.{toggled}
use Rattle.template_tree.specs.Laws.CheckLaws.{CheckAlike, ChecksIgnoreAllElision, ChecksIgnoreElision, ChecksIgnoreRoom}
use Rattle.template_tree.specs.Programs.PlainTree.{Forest, PlainNode, nodes, roomless}
use Rattle.plcs_code.specs.Gen.{Gen}
use Rattle.plcs_code.specs.ProgramCode.{CodeIsOfProgram, ProgramCodeIgnoresAllElision, ProgramCodeIgnoresElision, ProgramCodeIgnoresRoom, ProgramItemsTell, program_code, program_items}
use Rattle.plcs_code.proofs.AlikeCodes.{code_asks_items, code_ignores_elision, code_ignores_room, code_of_content}
use Rattle.plcs_code.proofs.Contents.{content_shown}
use Rattle.plcs_code.proofs.KeyOrder.{nat_ties}

-- ---- the items of a program

-- what is found first is of the procedure of the slot
found_if : (here : Bool) (node : PlainNode) (items : Option (List Declared)) (found : Option PlainNode)
    → items ≡ option_map (λ (n : PlainNode). items_inside n.inner) found
    → cond here (Some (items_inside node.inner)) items ≡ option_map (λ (n : PlainNode). items_inside n.inner) (if here then Some node else found)
found_if true node items found same = refl
found_if false node items found same = same

listed : (program : Forest) (slot : ℕ)
    → find nat_cmp slot (map (λ (node : PlainNode). (node.label.slot, items_inside node.inner)) (nodes program))
    ≡ option_map (λ (node : PlainNode). items_inside node.inner) (procedure_at program slot)
listed Forest.nil slot = refl
listed (Forest.cons label inner rest) slot =
    let others : Option (List Declared) =
    find nat_cmp slot (map (λ (node : PlainNode). (node.label.slot, items_inside node.inner)) (nodes rest)) in
    ap (λ (b : Bool). cond b (Some (items_inside inner)) others) (sym (nat_ties slot label.slot) ∙ nat_eq_equiv.symm slot label.slot)
    ∙ found_if (label.slot == slot) record { label = label; inner = inner } others (procedure_at rest slot) (listed rest slot)

pub program_items_tell : ProgramItemsTell
program_items_tell program slot =
    ap (λ (found : Option (List Declared)). unwrap_or found [])
    (get-from_entries nat_cmp_total (map (λ (node : PlainNode). (node.label.slot, items_inside node.inner)) (nodes program)) slot
    ∙ listed program slot)

-- ---- the code of a program

pub code_is_of_program : CodeIsOfProgram
code_is_of_program program marks items told tell =
    code_asks_items marks items (program_items program) program (λ slot. tell slot ∙ sym (program_items_tell program slot))
    ∙ ap (λ (m : MarkMap). Gen m (program_items program) program) told

-- the code by what is told of a program that checks alike
alike_code : (one other : Forest) → CheckAlike one other
    → Gen (offences (Verdicts one)) (program_items one) other ≡ program_code other
alike_code one other alike =
    code_is_of_program other (offences (Verdicts one)) (program_items one) (ap offences alike.verdicts)
    (λ slot. program_items_tell one slot ∙ alike.items slot)

pub program_code_ignores_room : ChecksIgnoreRoom → ProgramCodeIgnoresRoom
program_code_ignores_room checks program =
    code_ignores_room (offences (Verdicts (roomless program))) (program_items (roomless program)) program
    ∙ alike_code (roomless program) program (checks program)

pub program_code_ignores_elision : ChecksIgnoreElision → ProgramCodeIgnoresElision
program_code_ignores_elision checks program path =
    code_ignores_elision (offences (Verdicts (edit_at toggled path program))) (program_items (edit_at toggled path program)) program path
    ∙ alike_code (edit_at toggled path program) program (checks program path)

pub program_code_ignores_all_elision : ChecksIgnoreAllElision → ProgramCodeIgnoresAllElision
program_code_ignores_all_elision checks one other same =
    code_of_content (offences (Verdicts one)) (program_items one) one other
    (sym (content_shown one) ∙ (same ∙ content_shown other))
    ∙ alike_code one other (checks one other same)
