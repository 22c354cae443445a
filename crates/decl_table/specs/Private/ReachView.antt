-- How far an edit reaches, by its path and by what it changed.
use Rattle.std.specs.Prelude.{ℕ, Bool, true, false, if◌then◌else◌, Option, Some, None}
use Rattle.template_tree.specs.Programs.Program.{sort_of}
use Rattle.decl_table.specs.Due.{binds_names}
use Rattle.decl_table.specs.Private.PlainNameNode.{PlainNameNode}
use Rattle.decl_table.specs.declared.reach.Reach.{Reach}

-- whether the node whose names are kept binds names, if it is there
abbrev pub names_bind : Option PlainNameNode → Bool
names_bind None = false
names_bind (Some node) = binds_names (sort_of node.label.kind)

-- the reach of an edit of main or a procedure, by the part that was set, if one alone was
abbrev pub item_reach : (part : Option ℕ) → Reach
item_reach None = Reach.Procedure
item_reach (Some part) = Reach.Heading

-- the reach of an edit, by whether it was made inside main or a procedure, and whether what it changed binds names
abbrev pub reach_of : (inside binds : Bool) → (part : Option ℕ) → Reach
reach_of inside binds part =
    if inside then (if binds then Reach.Declaration else Reach.Statement) else item_reach part

-- whether the lists of names of a procedure are due for a check
abbrev pub has_lists : Reach → Bool
has_lists Reach.Statement = false
has_lists Reach.Declaration = true
has_lists Reach.Heading = true
has_lists Reach.Procedure = true

-- whether a heading was changed
abbrev pub has_heading : Reach → Bool
has_heading Reach.Statement = false
has_heading Reach.Declaration = false
has_heading Reach.Heading = true
has_heading Reach.Procedure = true

-- whether the effective items of a procedure may have changed
abbrev pub has_items : Reach → Bool
has_items Reach.Statement = false
has_items Reach.Declaration = true
has_items Reach.Heading = false
has_items Reach.Procedure = true
