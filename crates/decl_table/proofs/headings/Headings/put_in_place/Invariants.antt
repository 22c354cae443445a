use Rattle.std.proofs.Common.{◌≡◌, ◌≤◌, ℕ, List, length}
use Rattle.std.specs.Prelude.{bytes_eq}
use Rattle.std.specs.Map.{lookup}
use Rattle.decl_table.specs.DeclEdit.{changed_or}
use Rattle.decl_table.specs.PlainDecls.{slot_of}
use Rattle.decl_table.specs.Private.HeadingChangesView.{plain_heading_changes}
use Rattle.decl_table.proofs.headings.Headings.put_in_place.Given as goal

abbrev pub decreases-loop-change : goal.decreases-loop-change
decreases-loop-change l = length l.rest.items

abbrev pub invariant-loop-change : goal.invariant-loop-change
invariant-loop-change l = record {
  left :
      (name : List ℕ) → changed_or (lookup (bytes_eq name) (plain_heading_changes l.rest.items)) (slot_of name l.self.headings)
      ≡ changed_or (lookup (bytes_eq name) l.fn.changes) (slot_of name l.fn.self.headings);
  room : length l.rest.items ≤ l.self.spare;
}
