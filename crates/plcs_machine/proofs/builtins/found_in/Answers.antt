-- Where the sought text doesn't begin, it is sought from the next byte on.
use Rattle.std.proofs.Common.{ℕ, ◌≡◌, ◌∙◌, List, sym, ap, drop}
use Rattle.std.proofs.lemmas.List.{take_rest}
use Rattle.std.specs.Prelude.{false, nat_eq}
use Rattle.std.specs.List.{starts_with}
use Rattle.plcs_machine.proofs.FoundTexts.{found_more}
use Rattle.plcs_machine.proofs.builtins.found_in.Goals as goal

pub loop-k-preserved : goal.loop-k-preserved
loop-k-preserved c =
    let x = c.args.x.now in
    let sought = c.args.sought.now in
    let k = c.loop-k.k in
    let differs : starts_with nat_eq (drop k x) sought ≡ false =
    sym (ap (λ (l : List ℕ). starts_with nat_eq l sought) (take_rest x k)) ∙ sym c.starts_with.ensures.value ∙ c.if-starts_with.false in
    sym (found_more x sought k c.loop-k-test.true differs) ∙ c.loop-k.invariant
