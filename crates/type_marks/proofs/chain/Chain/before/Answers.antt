use Rattle.std.proofs.Common.{◌∙◌, sym, ap}
use Rattle.std.specs.Prelude.{Ok}
use Rattle.std.specs.Option.{option_or}
use Rattle.template_tree.specs.Checks.Verdict.{both_found, infix_found, offence_in}
use Rattle.type_marks.specs.Private.Chain.{chain_ended}
use Rattle.type_marks.proofs.FoundChains.{ends_before}
use Rattle.type_marks.proofs.chain.Chain.before.Goals as goal

pub returns-in-Some : goal.returns-in-Some
returns-in-Some c =
    let next = c.in-Some.next in
    λ found.
    ends_before next c.args.self.later c.args.self.gives c.args.op c.args.right found c.first_offence.result
    (c.first_offence.ensures
    ∙ ap (λ f. option_or (offence_in f) c.args.self.later) (c.found-found.ensures ∙ ap (λ k. both_found (Ok k) next.right (infix_found next.op)) c.infix_gives-in-Some.ensures))
    ∙ ap (λ first. chain_ended first c.args.self.later c.args.self.gives (both_found found c.args.right (infix_found c.args.op))) (sym c.in-Some.is)
