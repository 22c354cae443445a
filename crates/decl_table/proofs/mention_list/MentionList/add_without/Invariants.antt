use Rattle.std.proofs.Common.{◌≡◌, ◌++◌, drop}
use Rattle.std.specs.List.Sorted.{IsStrictlySortedBy}
use Rattle.plcs_base.specs.Mark.{phrase_cmp}
use Rattle.decl_table.proofs.MendedPlaces.{taken_out}
use Rattle.decl_table.proofs.mention_list.MentionList.add_without.Given as goal

abbrev pub invariant-loop-at : goal.invariant-loop-at
invariant-loop-at l = record {
  left : l.self ++ taken_out (drop l.at-index l.out) l.rest ≡ taken_out l.out l.places;
  sorted : IsStrictlySortedBy phrase_cmp l.rest;
}
