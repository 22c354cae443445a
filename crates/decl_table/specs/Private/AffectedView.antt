-- Which names are gathered that an edit affects.
use Rattle.std.specs.Prelude.{◌≡◌, ◌≢◌, ℕ, true, ◌||◌, bytes_eq, List, Option, Some, option_and_then}
use Rattle.plcs_base.specs.declared.declared.Declared.{Declared}
use Rattle.plcs_base.specs.declared.value.Kind.{Kind}
use Rattle.template_tree.specs.Checks.Environment.{Heading, heading_of, item_named, scalar_kind}
use Rattle.template_tree.specs.Programs.PlainTree.{PlainNode}
use Rattle.decl_table.specs.PlainDecls.{PlainHeadings, slot_of}
use Rattle.decl_table.specs.Private.NameTests.{bound_of, has_name}
use Rattle.decl_table.specs.Private.PlainNameNode.{PlainNameNode}
use Rattle.decl_table.specs.Private.ReachView.{has_lists}
use Rattle.decl_table.specs.declared.reach.Reach.{Reach}

-- the kind of a name as a scalar, by these items
abbrev pub kind_in : List Declared → List ℕ → Option Kind
kind_in items name = option_and_then scalar_kind (item_named name items)

-- the procedure has the effective heading of the name, and a parameter in it is of another kind by the new items
pub record HeadingTurns (headings : PlainHeadings) (old new : List Declared) (procedure : PlainNode) (name : List ℕ)
    : Type 0 where
  pub heading : Heading
  pub has : heading_of procedure.label.kind procedure.label.parts ≡ Some heading
  pub named : bytes_eq name heading.name ≡ true
  pub effective : slot_of name headings ≡ Some procedure.label.slot
  pub parameter : List ℕ
  pub among : has_name heading.parameters parameter ≡ true
  pub turns : kind_in old parameter ≢ kind_in new parameter

-- why a name is gathered that an edit affects, by how far it reaches, what stood and stands there, the headings of the
-- table before it, the items of the procedure before it and after it, and the procedure
pub data IsGathered (reach : Reach) (part : Option ℕ) (stood stands : Option PlainNameNode) (headings : PlainHeadings)
    (old new : List Declared) (procedure : Option PlainNode) (name : List ℕ) : Type 0 where
  -- it stood or stands in the declaration or heading that was changed
  bound : has_lists reach ≡ true → (bound_of part stood name || bound_of part stands name) ≡ true
      → IsGathered reach part stood stands headings old new procedure name
  -- a declaration was changed, and an item of the procedure that has the name is another one, or one has it no more or
  -- only now
  item : reach ≡ Reach.Declaration → (own : PlainNode) → procedure ≡ Some own
      → item_named name old ≢ item_named name new
      → IsGathered reach part stood stands headings old new procedure name
  -- a declaration was changed, and the heading of the procedure has the name and is another one
  headed : reach ≡ Reach.Declaration → (own : PlainNode) → procedure ≡ Some own
      → HeadingTurns headings old new own name
      → IsGathered reach part stood stands headings old new procedure name
