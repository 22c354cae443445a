-- The law of variable lists: what is wrong with one depends on what its procedure declares alone.
use Rattle.std.specs.Prelude.{◌≡◌, ◌≤◌, ℕ, List, ◌∷◌, Option, Some, is_some}
use Rattle.plcs_grammar.specs.PlainPhrase.{PlainPhrase, PlainVarRef}
use Rattle.template_tree.specs.Edits.Edit.{procedure_of}
use Rattle.template_tree.specs.Checks.Environment.{Items, items_inside}
use Rattle.template_tree.specs.Checks.Marks.{surroundings}
use Rattle.template_tree.specs.Programs.PlainTree.{Forest, PlainNode}
use Rattle.template_tree.specs.Checks.Verdict.{references_offence, verdict}
use Rattle.template_tree.specs.Positions.Place.{Site, site}
use Rattle.template_tree.specs.Programs.Slots.{times}
use Rattle.tree_steps.specs.RunPlace.{is_first_marked}

-- a list of variables has the same verdict in procedures with the same effective items, whatever stands round them
abbrev pub ListVerdictsFollowItems : Type 0
ListVerdictsFollowItems =
    (one other : Forest) (procedure other_procedure : PlainNode) (slot other_slot : ℕ) (targets : List PlainVarRef)
    → items_inside procedure.inner ≡ items_inside other_procedure.inner
    → verdict (surroundings one procedure slot) (PlainPhrase.variable_list targets)
    ≡ verdict (surroundings other other_procedure other_slot) (PlainPhrase.variable_list targets)

-- a list of variables in the first part of a slot is marked where one of them is an offence by the effective items of
-- its procedure, which is among those of the program; nothing else in the program counts
abbrev pub ListMarksFollowItems : Type 0
ListMarksFollowItems =
    (items : Forest) (slot procedure : ℕ) (found : Site) (targets : List PlainVarRef)
    (others : List (Option PlainPhrase))
    → times slot items ≤ 1 → times procedure items ≤ 1 → procedure_of items slot ≡ Some procedure
    → site items slot ≡ Some found → found.label.parts ≡ Some (PlainPhrase.variable_list targets) ∷ others
    → is_first_marked items slot ≡ is_some (references_offence (Items items procedure) targets)
