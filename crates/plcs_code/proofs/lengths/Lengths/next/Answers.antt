use Rattle.std.proofs.Common.{◌≡◌, ◌<◌, List, ◌++◌, length, reverse, sym, ap, ◌∙◌, arith, rules, vec_len}
use Rattle.std.specs.Option.{option_to_list}
use Rattle.std.proofs.lemmas.List.{length-reverse, reverse-append}
use Rattle.plcs_code.specs.declared.lengths.NodeLength.{NodeLength}
use Rattle.plcs_code.proofs.ReadParts.{reverse_one}
use Rattle.plcs_code.proofs.lengths.Lengths.next.Goals as goal

pub returns-clause-next : goal.returns-clause-next
returns-clause-next c =
    sym c.self.view_is
    ∙ ap reverse c.pop.ensures.items
    ∙ reverse-append c.pop.new.self.items (option_to_list c.pop.result)
    ∙ ap (λ (first : List NodeLength). first ++ reverse c.pop.new.self.items) (reverse_one c.pop.result)

pub returns-clause-there : goal.returns-clause-there
returns-clause-there c = λ there.
    let same : length c.self.inside.list.items ≡ vec_len c.self.inside.list = search rules in
    let seen = ap (λ (ls : List NodeLength). length ls) c.self.view_is in
    let some : 0 < vec_len c.self.inside.list = omega (arith, there, seen, length-reverse c.self.inside.list.items, same) in
    c.pop.ensures.variant.1 some
