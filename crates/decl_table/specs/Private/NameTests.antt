-- Which names are gathered, and which stand in declarations and headings of which the names are kept.
use Rattle.std.specs.Prelude.{◌≡◌, ℕ, Bool, false, ◌||◌, if◌then◌else◌, bytes_eq, List, [], ◌∷◌, Option, Some, None}
use Rattle.std.specs.Coded.{Coded, coded_list, coded_ℕ}
use Rattle.std.specs.List.{list_any}
use Rattle.template_tree.specs.Programs.Program.{sort_of}
use Rattle.decl_table.specs.Due.{binds_names}
use Rattle.decl_table.specs.Names.{NameForest}
use Rattle.decl_table.specs.Private.PlainNameNode.{PlainNameNode, node_names}

-- the code of names
abbrev pub names_code : Coded (List (List ℕ))
names_code = coded_list (coded_list coded_ℕ)

-- whether the name is among these
abbrev pub has_name : List (List ℕ) → List ℕ → Bool
has_name names name = list_any (bytes_eq name) names

-- the names that pass the test were added to these
abbrev pub AddsNames : (test : List ℕ → Bool) → (old new : List (List ℕ)) → Type 0
AddsNames test old new = (name : List ℕ) → has_name new name ≡ (has_name old name || test name)

-- whether the name is among those that are kept of a part
abbrev pub part_has : Option (List (List ℕ)) → List ℕ → Bool
part_has None name = false
part_has (Some names) name = has_name names name

-- whether it is among those of one of the parts
abbrev pub parts_have : List (Option (List (List ℕ))) → List ℕ → Bool
parts_have [] name = false
parts_have (names ∷ parts) name = part_has names name || parts_have parts name

-- whether it is among those of the declarations and headings of nodes in order, and of those inside them
abbrev pub bound_has : NameForest → List ℕ → Bool
bound_has NameForest.nil name = false
bound_has (NameForest.cons label inner rest) name =
    (if binds_names (sort_of label.kind) then (parts_have label.parts name || bound_has inner name) else false)
    || bound_has rest name

-- whether it is among those of all parts of the node where one part was set, or else of the declaration or the heading
-- that the node is, and those inside it
abbrev pub bound_by : (part : Option ℕ) → PlainNameNode → List ℕ → Bool
bound_by None node name = bound_has (node_names node) name
bound_by (Some part) node name = parts_have node.label.parts name

-- whether it is among those of the node that is there, if one is
abbrev pub bound_of : (part : Option ℕ) → Option PlainNameNode → List ℕ → Bool
bound_of part None name = false
bound_of part (Some node) name = bound_by part node name
