use Rattle.std.proofs.Common.{◌∙◌, ◌≤◌, ◌++◌, length, sym, ap, subst, arith}
use Rattle.std.specs.List.Sorted.{IsStrictlySortedBy}
use Rattle.std.proofs.Math.ListN.{drop_of_length-le}
use Rattle.plcs_base.specs.Mark.{phrase_cmp}
use Rattle.decl_table.proofs.AddedUses.{left_behind}
use Rattle.decl_table.proofs.KnownSources.{read_again}
use Rattle.decl_table.proofs.MendedPlaces.{is_without, later_sorted, out_next, taken_out}
use Rattle.decl_table.proofs.mention_list.MentionList.add_without.Goals as goal

pub loop-at-init : goal.loop-at-init
loop-at-init c = record {
  left = ap (λ xs. xs ++ taken_out c.args.out.now c.args.places.now) c.requires.none;
  sorted = c.requires.places;
}

pub loop-at-preserved : goal.loop-at-preserved
loop-at-preserved c =
    let out = c.args.out.now in
    let k = c.loop-at.at-index in
    let rest = c.loop-at.rest.now in
    let halves = c.split_around.ensures in
    record {
      left =
          out_next c.loop-at.self rest out (taken_out out c.args.places.now) c.add_all.new.self c.split_around.result.0.now
          c.split_around.result.1.now k _ (left_behind out k _ c.loop-at-test.true (read_again out k _ c.loop-at-test.true)) c.in_ok-add_all.ensures halves.0 halves.1
          c.loop-at.invariant.left;
      sorted = subst (IsStrictlySortedBy phrase_cmp) (sym halves.1) (later_sorted _ rest c.loop-at.invariant.sorted);
    }

pub returns : goal.returns
returns c =
    let out = c.args.out.now in
    let past : length out ≤ c.loop-at.at-index = omega (arith, c.loop-at-test.false) in
    is_without c.args.places.now out c.add_all-2.new.self c.requires.places c.requires.out
    (c.in_ok-add_all-2.ensures
    ∙ ap (λ left. c.loop-at.self ++ taken_out left c.loop-at.rest.now) (sym (drop_of_length-le out past))
    ∙ c.loop-at.invariant.left)
