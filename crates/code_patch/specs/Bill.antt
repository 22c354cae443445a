-- What an edit of a program touches, and the bill for it: how many instructions at most are emitted for it.
use Rattle.std.specs.Prelude.{ℕ, ◌+◌, ◌==◌, nat_lt, Bool, true, false, not, ◌&&◌, ◌||◌, if◌then◌else◌, List, [], ◌∷◌}
use Rattle.std.specs.FinMap.{entries, get}
use Rattle.std.specs.Option.{option_map_or}
use Rattle.plcs_base.specs.Mark.{MarkMap}
use Rattle.plcs_base.specs.PlainCounts.{PlainCounts}
use Rattle.plcs_base.specs.Scope.{ItemMap}
use Rattle.plcs_base.specs.declared.mark.MarkKind.{MarkKind}
use Rattle.plcs_base.specs.declared.place.PhraseAt.{PhraseAt}
use Rattle.plcs_grammar.specs.declared.node_kind.Sort.{Sort}
use Rattle.template_tree.specs.declared.change.Change.{Change}
use Rattle.template_tree.specs.declared.change.What.{What}
use Rattle.template_tree.specs.Checks.Marks.{Marks}
use Rattle.template_tree.specs.Edits.Edit.{Differs, changed_in, procedure_of}
use Rattle.template_tree.specs.Positions.Place.{site}
use Rattle.template_tree.specs.Programs.PlainTree.{Forest, PlainTree}
use Rattle.template_tree.specs.Programs.Program.{sort_of}
use Rattle.template_tree.specs.Programs.Slots.{times}
use Rattle.template_tree.specs.Programs.Tree.{IsTree}
use Rattle.plcs_code.specs.Counts.{EmitsAtMost}
use Rattle.plcs_code.specs.Gen.{own_length}
use Rattle.plcs_code.specs.ProgramCode.{program_items}
use Rattle.code_patch.specs.CodeEdit.{IsCodeTreeOf, PlainCodeTree}
use Rattle.code_patch.specs.MarkKinds.{is_same_kind}

-- ---- what is touched

-- whether nodes of the sort declare something of the procedure that they stand in, so that an edit of one touches it
abbrev pub is_declaration : Sort → Bool
is_declaration Sort.Main = false
is_declaration Sort.Procedure = false
is_declaration Sort.Declaration = true
is_declaration Sort.Statement = false

-- whether what stands in the slot of the program, as an edit leaves or finds it, declares something of its procedure
abbrev pub is_declaration_at : (program : Forest) → (slot : ℕ) → Bool
is_declaration_at program slot =
    option_map_or (λ found. is_declaration (sort_of found.label.kind)) (site program slot) false

-- how often a slot stands inside what stands in another one of the program, as an edit leaves it
abbrev pub times_inside : (program : Forest) → (outer slot : ℕ) → ℕ
times_inside program outer slot = option_map_or (λ found. times slot found.inner) (site program outer) 0

-- whether another node came into a slot by an edit that did this
abbrev pub is_of_node : What → Bool
is_of_node What.Node = true
is_of_node (What.Part part) = false
is_of_node What.Added = false
is_of_node What.Dropped = false

-- whether a mark is another one in a map of marks, or isn't there
abbrev pub has_other_mark : MarkMap → PhraseAt × MarkKind → Bool
has_other_mark marks mark = option_map_or (λ kind. not (is_same_kind kind mark.1)) (get marks mark.0) true

-- whether one of these marks is of a phrase in the slot, and is another one in a map of marks, or isn't there
abbrev pub loses_mark : (slot : ℕ) → List (PhraseAt × MarkKind) → MarkMap → Bool
loses_mark slot [] others = false
loses_mark slot (mark ∷ marks) others =
    ((mark.0.slot.0 == slot) && has_other_mark others mark) || loses_mark slot marks others

-- whether a phrase in the slot has another mark after an edit than before it, or has one only before or only after
abbrev pub is_marked_otherwise : (before after : Forest) → (slot : ℕ) → Bool
is_marked_otherwise before after slot =
    loses_mark slot (entries (Marks before)) (Marks after) || loses_mark slot (entries (Marks after)) (Marks before)

-- whether an edit that did this at a slot brought another one in: it wasn't live before, or stands inside the node that
-- was put
abbrev pub is_brought : What → (at : ℕ) → (before after : Forest) → (slot : ℕ) → Bool
is_brought what at before after slot =
    ((times slot before == 0) && nat_lt 0 (times slot after))
    || (is_of_node what && nat_lt 0 (times_inside after at slot))

-- whether the slot is that of main or the procedure in which an edit that did this at a slot changed a declaration:
-- filled, emptied, added or dropped it, or set a part of it
abbrev pub is_redeclared : What → (at : ℕ) → (before after : Forest) → (slot : ℕ) → Bool
is_redeclared what at before after slot =
    (is_declaration_at before at || is_declaration_at after at)
    && option_map_or (λ procedure. procedure == slot) (procedure_of (changed_in what before after) at) false

-- whether an edit of a program that did this at a slot touched the slot: that one, each that it brought in, each with a
-- phrase whose mark it changed, and the procedure of a declaration that it changed. Of a heading that it changed the
-- procedure is that slot
abbrev pub is_touched : What → (at : ℕ) → (before after : Forest) → (slot : ℕ) → Bool
is_touched what at before after slot =
    (slot == at)
    || (is_brought what at before after slot
    || (is_marked_otherwise before after slot || is_redeclared what at before after slot))

-- ---- the bill

-- whether one of the nodes in order, or one that stands inside them, was touched
abbrev pub has_touched : (is_touched : ℕ → Bool) → Forest → Bool
has_touched is_touched Forest.nil = false
has_touched is_touched (Forest.cons label inner rest) =
    is_touched label.slot || (has_touched is_touched inner || has_touched is_touched rest)

-- whether something touched stands inside the slot of the program, if it is live
abbrev pub encloses_touched : (is_touched : ℕ → Bool) → (program : Forest) → (slot : ℕ) → Bool
encloses_touched is_touched program slot =
    option_map_or (λ found. has_touched is_touched found.inner) (site program slot) false

-- what the nodes of an edited program cost in order, by its marks and items: a touched one its own code, another 2
-- where something touched stands inside it, now or in the program before, and the others nothing
abbrev pub billed : (is_touched : ℕ → Bool) → (before : Forest) → MarkMap → ItemMap → Forest → ℕ
billed is_touched before marks items Forest.nil = 0
billed is_touched before marks items (Forest.cons label inner rest) =
    (if is_touched label.slot
    then own_length marks items label
    else (if has_touched is_touched inner || encloses_touched is_touched before label.slot then 2 else 0))
    + (billed is_touched before marks items inner + billed is_touched before marks items rest)

-- how many instructions may be emitted for an edit of a program that touched these slots
abbrev pub Bill : (before after : Forest) → (is_touched : ℕ → Bool) → ℕ
Bill before after is_touched = billed is_touched before (Marks after) (program_items after) after

-- how many instructions may be emitted for an edit of a program that did this at a slot
abbrev pub edit_bill : What → (at : ℕ) → (before after : Forest) → ℕ
edit_bill what at before after = Bill before after (is_touched what at before after)

-- for the edit of a program whose code a code tree keeps, by the tree after it and its change, no more instructions are
-- counted as emitted than the bill says, and nothing else is counted
abbrev pub EmitsBill : PlainCodeTree → (after : PlainTree) → Change → (old new : PlainCounts) → Type 0
EmitsBill code after change old new =
    (before : PlainTree) → IsTree before → IsCodeTreeOf code before → Differs before after change
    → EmitsAtMost (edit_bill change.what change.slot.0 before.items after.items) old new
