-- What verdicts and marks in memory are seen as, and how verdicts are noted.
use Rattle.std.specs.Prelude.{◌≡◌, ℕ, ◌<◌, ◌≤◌, List, [], ◌∷◌, Option, Some, None, slice_get, refl}
use Rattle.std.specs.Coded.{Coded, code_by, coded×, coded_list, coded_option, coded_ℕ}
use Rattle.std.specs.FinMap.{code}
use Rattle.plcs_base.specs.Mark.{MarkMap}
use Rattle.plcs_base.specs.declared.mark.MarkKind.{MarkKind}
use Rattle.plcs_base.specs.declared.place.PhraseAt.{PhraseAt}
use Rattle.plcs_base.specs.contracts.mark.MarkKind as mark_row
use Rattle.plcs_base.specs.contracts.place.PhraseAt as place_row
use Rattle.template_tree.specs.Checks.ProgramMaps.{items_in}
use Rattle.decl_table.specs.PlainDecls.{PlainDecls}
use Rattle.template_tree.specs.Checks.Marks.{VerdictList, VerdictMap, surroundings}
use Rattle.template_tree.specs.Programs.Part.{part_at}
use Rattle.template_tree.specs.Checks.Environment.{procedure_at}
use Rattle.template_tree.specs.Programs.Limit.{most_slots}
use Rattle.template_tree.specs.Positions.Path.{below}
use Rattle.template_tree.specs.Programs.PlainTree.{Forest, Label, PlainNode, forest, nodes}
use Rattle.template_tree.specs.Programs.Program.{IsSubtree}
use Rattle.template_tree.specs.Programs.Slots.{count, times}
use Rattle.plcs_grammar.specs.PlainPhrase.{PlainPhrase}
use Rattle.type_marks.specs.Private.DeclaredItems.{IsListIn}
use Rattle.template_tree.specs.Checks.Verdict.{Surroundings}
use Rattle.type_marks.specs.MarkEdit.{PlainMarkEdit}
use Rattle.type_marks.specs.PlainMarks.{PlainMarks}

-- the code of a verdict
abbrev pub verdict_code : Coded (Option MarkKind)
verdict_code = coded_option mark_row.the_row.coded

-- the code of verdicts by the places of their phrases
abbrev pub verdicts_code : Coded VerdictMap
verdicts_code = code place_row.the_row.coded verdict_code

-- the code of verdicts as they are kept
abbrev pub marks_code : Coded PlainMarks
marks_code =
    code_by (VerdictMap × ℕ) (coded× verdicts_code coded_ℕ) (λ marks. (marks.verdicts, marks.spare))
    (λ t. record { verdicts = t.0; spare = t.1 }) (λ _. refl)

-- the code of a list of verdicts
abbrev pub verdict_list_code : Coded VerdictList
verdict_list_code = coded_list (coded× place_row.the_row.coded verdict_code)

-- the code of an edit that was prepared for verdicts
abbrev pub mark_edit_code : Coded PlainMarkEdit
mark_edit_code =
    code_by (VerdictList × List PhraseAt) (coded× verdict_list_code (coded_list place_row.the_row.coded))
    (λ edit. (edit.verdicts, edit.gone)) (λ t. record { verdicts = t.0; gone = t.1 }) (λ _. refl)

-- the code of marks of phrases
abbrev pub mark_map_code : Coded MarkMap
mark_map_code = code place_row.the_row.coded mark_row.the_row.coded

-- the surroundings of a phrase of which a verdict is noted, with the items that a table has
abbrev pub known_surroundings : PlainDecls → (program : Forest) (procedure : PlainNode) (slot : ℕ) → Surroundings
known_surroundings decls program procedure slot =
    record (surroundings program procedure slot) { items = items_in decls.items procedure.label.slot }

-- the node, of whose phrases verdicts are noted, is main or a procedure of the program: the one that is found by its
-- slot, a subtree, with each slot but once
pub record IsProcedureItem (program : Forest) (procedure : PlainNode) : Type 0 where
  pub found : procedure_at program procedure.label.slot ≡ Some procedure
  pub subtree : IsSubtree procedure
  pub few : count procedure.inner < most_slots
  pub once : (slot : ℕ) → times slot (forest (procedure ∷ [])) ≤ 1

-- the node, of which verdicts are noted, stands in the procedure, or is it
abbrev pub IsIn : (procedure node : PlainNode) → Type 0
IsIn procedure node = (path : List ℕ) × (below procedure path ≡ Some node)

-- where verdicts are noted, each declared list in the node's parts stands in the declaration in its slot, if that is
-- one of the nodes
abbrev pub AreListed : (inner : Forest) → Label → Type 0
AreListed inner label =
    (part : ℕ) (phrase : PlainPhrase) → part_at label.parts part ≡ Some phrase → IsListIn inner label.slot phrase

-- where a verdict is noted: main or the procedure to which the path of the phrase's node leads, or in which it leads
-- to that node
abbrev pub procedure_item_on : (program : Forest) → (path : List ℕ) → Option PlainNode
procedure_item_on program [] = None
procedure_item_on program (k ∷ path) = slice_get (nodes program) k
