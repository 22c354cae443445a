use Rattle.std.proofs.Common.{◌∙◌, ◌≤◌, ◌++◌, length, sym, ap, subst, arith}
use Rattle.std.specs.List.Sorted.{IsStrictlySortedBy}
use Rattle.std.proofs.Math.ListN.{drop_of_length-le}
use Rattle.plcs_base.specs.Mark.{phrase_cmp}
use Rattle.decl_table.proofs.AddedUses.{left_behind}
use Rattle.decl_table.proofs.KnownSources.{read_again}
use Rattle.decl_table.proofs.MendedPlaces.{in_next, is_with, later_sorted, put_in}
use Rattle.decl_table.proofs.mention_list.MentionList.add_with.Goals as goal

pub loop-at-init : goal.loop-at-init
loop-at-init c = record {
  left = ap (λ xs. xs ++ put_in c.args.more.now c.args.places.now) c.requires.none;
  sorted = c.requires.places;
}

pub loop-at-preserved : goal.loop-at-preserved
loop-at-preserved c =
    let more = c.args.more.now in
    let k = c.loop-at.at-index in
    let rest = c.loop-at.rest.now in
    let halves = c.split_around.ensures in
    record {
      left =
          in_next c.loop-at.self rest more (put_in more c.args.places.now) c.add_all.new.self c.push.new.self c.split_around.result.0.now
          c.split_around.result.1.now k _ (left_behind more k _ c.loop-at-test.true (read_again more k _ c.loop-at-test.true)) c.in_ok-add_all.ensures c.in_ok-push.ensures
          halves.0 halves.1 c.loop-at.invariant.left;
      sorted = subst (IsStrictlySortedBy phrase_cmp) (sym halves.1) (later_sorted _ rest c.loop-at.invariant.sorted);
    }

pub returns : goal.returns
returns c =
    let more = c.args.more.now in
    let past : length more ≤ c.loop-at.at-index = omega (arith, c.loop-at-test.false) in
    is_with c.args.places.now more c.add_all-2.new.self c.requires.places c.requires.more
    (c.in_ok-add_all-2.ensures
    ∙ ap (λ left. c.loop-at.self ++ put_in left c.loop-at.rest.now) (sym (drop_of_length-le more past))
    ∙ c.loop-at.invariant.left)
