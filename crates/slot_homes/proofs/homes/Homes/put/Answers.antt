use Rattle.std.proofs.Common.{◌∙◌, ap, arith}
use Rattle.std.proofs.lemmas.List.{length-set}
use Rattle.std.specs.Prelude.{◌%◌, ◌*◌, ◌+◌, Some, length, slice_set}
use Rattle.slot_homes.specs.Said.{home_said, stride}
use Rattle.slot_homes.proofs.SaidHomes.{all_stay, but_one_stays, put_said}
use Rattle.slot_homes.proofs.homes.Homes.put.Goals as goal

pub returns-in-Some-clause-said : goal.returns-in-Some-clause-said
returns-in-Some-clause-said c = λ some.
    ap (λ table. home_said table c.args.slot.0) c.set.ensures
    ∙ put_said c.args.self.now some record { slot = c.args.slot; home = c.args.home } c.in-Some.probe c.in-Some.ensures.taken c.in-Some.ensures.within

pub returns-in-Some-clause-others : goal.returns-in-Some-clause-others
returns-in-Some-clause-others c = λ other apart kept.
    ap (λ table. home_said table other) c.set.ensures
    ∙ all_stay c.args.self.now record { slot = c.args.slot; home = c.args.home } c.in-Some.probe c.in-Some.ensures.free other apart kept

pub returns-in-Some-clause-places : goal.returns-in-Some-clause-places
returns-in-Some-clause-places c =
    ap length c.set.ensures
    ∙ length-set c.args.self.now ((c.args.slot.0 + c.in-Some.probe * stride) % length c.args.self.now) (Some record { slot = c.args.slot; home = c.args.home })

pub returns-clause-said : goal.returns-clause-said
returns-clause-said c = λ some.
    ap (λ table. home_said table c.args.slot.0) c.set-2.ensures
    ∙ ap (λ table. home_said (slice_set table ((c.args.slot.0 + 0 * stride) % length table) (Some record { slot = c.args.slot; home = c.args.home })) c.args.slot.0) c.self.view_is
    ∙ put_said c.args.self.now some record { slot = c.args.slot; home = c.args.home } 0 (λ j within. absurd (omega (arith, within))) (omega arith)

pub returns-clause-others : goal.returns-clause-others
returns-clause-others c = λ other apart kept.
    ap (λ table. home_said table other) c.set-2.ensures
    ∙ ap (λ table. home_said (slice_set table ((c.args.slot.0 + 0 * stride) % length table) (Some record { slot = c.args.slot; home = c.args.home })) other) c.self.view_is
    ∙ but_one_stays c.args.self.now record { slot = c.args.slot; home = c.args.home } c.in_default.ensures.all other apart kept
