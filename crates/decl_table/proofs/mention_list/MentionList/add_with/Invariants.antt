use Rattle.std.proofs.Common.{◌≡◌, ◌++◌, drop}
use Rattle.std.specs.List.Sorted.{IsStrictlySortedBy}
use Rattle.plcs_base.specs.Mark.{phrase_cmp}
use Rattle.decl_table.proofs.MendedPlaces.{put_in}
use Rattle.decl_table.proofs.mention_list.MentionList.add_with.Given as goal

abbrev pub invariant-loop-at : goal.invariant-loop-at
invariant-loop-at l = record {
  left : l.self ++ put_in (drop l.at-index l.more) l.rest ≡ put_in l.more l.places;
  sorted : IsStrictlySortedBy phrase_cmp l.rest;
}
