-- Changes of effective headings in memory, as plain data.
use Rattle.std.specs.Prelude.{◌≡◌, ◌⊎◌, ℕ, Bool, true, false, List, [], map, bytes_eq, slice_get, Option, Some, None, option_map, unwrap_or}
use Rattle.std.specs.List.{list_any}
use Rattle.std.specs.Map.{lookup}
use Rattle.std.specs.Option.{option_flatten}
use Rattle.template_tree.specs.Checks.Environment.{Sig}
use Rattle.template_tree.specs.Programs.PlainTree.{Forest}
use Rattle.decl_table.specs.Private.PlainNameNode.{PlainNameNode}
use Rattle.std.specs.Coded.{Coded, coded×, coded_list, coded_option, coded_ℕ}
use Rattle.decl_table.specs.declared.heading_changes.HeadingChange.{HeadingChange}

-- the plain form of changes of effective headings
abbrev pub plain_heading_changes : List HeadingChange → List (List ℕ × Option ℕ)
plain_heading_changes changes = map (λ change. (change.name, option_map (λ slot. slot.0) change.slot)) changes

-- the code of changes of effective headings
abbrev pub heading_changes_code : Coded (List (List ℕ × Option ℕ))
heading_changes_code = coded_list (coded× (coded_list coded_ℕ) (coded_option coded_ℕ))

-- whether the name is among those that are kept of a node's first part: there a procedure has its name
abbrev pub stands_first : PlainNameNode → List ℕ → Bool
stands_first node name = list_any (bytes_eq name) (unwrap_or (option_flatten (slice_get node.label.parts 0)) [])

-- whether it is among those of the node that is there, if one is
abbrev pub stands_in : Option PlainNameNode → List ℕ → Bool
stands_in None name = false
stands_in (Some node) name = stands_first node name

-- it is noted what the effective heading of the name is in the program
abbrev pub IsHeadingNoted : (program : Forest) → List (List ℕ × Option ℕ) → List ℕ → Type 0
IsHeadingNoted program changes name =
    lookup (bytes_eq name) changes ≡ Some (option_map (λ signature. signature.slot) (Sig program name))

-- of each name nothing is noted, or what its effective heading is in the program
abbrev pub MayBeNoted : (program : Forest) → List (List ℕ × Option ℕ) → Type 0
MayBeNoted program changes = (name : List ℕ) → (lookup (bytes_eq name) changes ≡ None) ⊎ IsHeadingNoted program changes name

-- it was noted what the effective headings of the names are that pass the test
pub record NotesHeadings (test : List ℕ → Bool) (program : Forest) (old new : List (List ℕ × Option ℕ)) : Type 0 where
  pub all : MayBeNoted program old → MayBeNoted program new
  pub these : MayBeNoted program old → (name : List ℕ) → test name ≡ true → IsHeadingNoted program new name
  pub others : (name : List ℕ) → IsHeadingNoted program old name → IsHeadingNoted program new name
