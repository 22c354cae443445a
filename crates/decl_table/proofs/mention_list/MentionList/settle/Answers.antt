use Rattle.std.proofs.Common.{subst}
use Rattle.std.proofs.lemmas.List.Filters.{dedup_is}
use Rattle.std.proofs.lemmas.List.Kept.{Contains-dedup, Contains-from_dedup, IsStrictlySortedBy-dedup}
use Rattle.std.proofs.lemmas.List.Sorted.{Contains-permutation, IsPermutation-sym}
use Rattle.decl_table.specs.Private.UsesView.{IsSettled}
use Rattle.plcs_base.specs.PlaceOrder.{place_equal, place_test_equiv, place_ties, places_total}
use Rattle.decl_table.proofs.mention_list.MentionList.settle.Goals as goal

pub returns : goal.returns
returns c =
    let is = dedup_is _ _ _ c.dedup.ensures.filtered in
    let moved = c.sort_unstable.ensures.permutation in
    subst (λ old. IsSettled old c.dedup.new.self.items) c.self.view_is
    record {
      increasing = rw is (IsStrictlySortedBy-dedup places_total place_ties _ c.sort_unstable.ensures.sorted);
      each = λ at. (
        λ there. Contains-permutation _ _ at (IsPermutation-sym _ _ moved) (Contains-from_dedup _ _ at (rw is at there)),
        λ there. rw is (Contains-dedup place_test_equiv place_equal _ at (Contains-permutation _ _ at moved there)),
      );
    }
