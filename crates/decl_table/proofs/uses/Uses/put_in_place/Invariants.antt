use Rattle.std.proofs.Common.{◌≡◌, ◌≤◌, ℕ, List, length}
use Rattle.std.specs.Prelude.{bytes_eq}
use Rattle.std.specs.Map.{lookup}
use Rattle.decl_table.specs.DeclEdit.{changed_or}
use Rattle.decl_table.specs.PlainDecls.{mentions_of}
use Rattle.decl_table.proofs.uses.Uses.put_in_place.Given as goal

abbrev pub decreases-loop-name : goal.decreases-loop-name
decreases-loop-name l = length l.rest.entries

abbrev pub invariant-loop-name : goal.invariant-loop-name
invariant-loop-name l = record {
  left :
      (name : List ℕ) → changed_or (lookup (bytes_eq name) l.rest.entries) (mentions_of name l.self.uses)
      ≡ changed_or (lookup (bytes_eq name) l.fn.other.uses) (mentions_of name l.fn.self.uses);
  room : length l.rest.entries ≤ l.self.spare;
}
