use Rattle.std.proofs.Common.{◌≡◌, ◌∙◌, ◌+◌, suc, drop, ap, arith}
use Rattle.decl_table.proofs.MendedPlaces.{searchable, split_found, split_gap}
use Rattle.decl_table.proofs.mention_list.split_around.Goals as goal

pub returns-in-Ok : goal.returns-in-Ok
returns-in-Ok c =
    let places = c.args.places.now in
    let at = c.args.at in
    let k = c.in-Ok.k in
    let halves = split_found at places k c.requires.sorted c.in-Ok.ensures.bound (c.in-Ok.ensures.ok at) in
    let next : k + 1 ≡ suc k = omega arith in
    (c.split_at.ensures.front ∙ halves.0, c.split_at-in-Ok.ensures.back ∙ ap (λ n. drop n places) next ∙ halves.1)

pub returns-in-Err : goal.returns-in-Err
returns-in-Err c =
    let places = c.args.places.now in
    let at = c.args.at in
    let halves = split_gap at places c.in-Err.k (c.in-Err.ensures.position (searchable at places c.requires.sorted)) in
    (c.split_at-in-Err.ensures.front ∙ halves.0, c.split_at-in-Err.ensures.back ∙ halves.1)
