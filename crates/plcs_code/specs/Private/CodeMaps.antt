-- How the maps of code in memory are filled.
use Rattle.std.specs.Prelude.{if◌then◌else◌, List, [], ◌∷◌}
use Rattle.std.specs.FinMap.{FinMap, contains_key, insert}
use Rattle.std.specs.declared.cmp.Ordering.{Ordering}

module _ {K X : Type 0} {R : K → K → Ordering} where
  -- a map of code with these entries before what it has
  abbrev pub with_all : List (K × X) → FinMap R X → FinMap R X
  with_all [] map = map
  with_all (entry ∷ entries) map = insert (with_all entries map) entry.0 entry.1

  -- a map of code with an entry behind what it has, of which the first of a key counts
  abbrev pub with_first : FinMap R X → K → X → FinMap R X
  with_first map key value = if contains_key map key then map else insert map key value

  -- a map of code with these entries behind what it has, of which the first of a key counts
  abbrev pub with_firsts : FinMap R X → List (K × X) → FinMap R X
  with_firsts map [] = map
  with_firsts map (entry ∷ entries) = with_firsts (with_first map entry.0 entry.1) entries
