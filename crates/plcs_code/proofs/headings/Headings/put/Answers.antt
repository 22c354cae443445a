use Rattle.std.proofs.Common.{◌≡◌, cond, subst, sym, ap, ◌∙◌}
use Rattle.std.specs.Prelude.{bytes_eq, is_some}
use Rattle.std.specs.FinMap.{from_entries, get, insert}
use Rattle.plcs_code.specs.Gen.{EntryMap}
use Rattle.plcs_code.proofs.CodeMaps.{found, put}
use Rattle.plcs_code.proofs.KeyOrder.{name_ties, names_differ, names_total}
use Rattle.plcs_code.proofs.headings.Headings.put.Goals as goal

pub returns-in-Some : goal.returns-in-Some
returns-in-Some c =
    let old = c.args.self.now in
    let there =
    c.in-Some.ensures.value
    ∙ sym (found names_total names_differ bytes_eq name_ties c.self.inside.entries.entries c.args.name)
    ∙ ap (λ (m : EntryMap). get m c.args.name) c.self.view_is in
    ap (λ o. cond (is_some o) old (insert old c.args.name c.args.entry)) there

pub returns : goal.returns
returns c =
    let old = c.args.self.now in
    let none =
    c.in_default.ensures.value
    ∙ sym (found names_total names_differ bytes_eq name_ties c.self.inside.entries.entries c.args.name)
    ∙ ap (λ (m : EntryMap). get m c.args.name) c.self.view_is in
    subst (λ (m : EntryMap). from_entries c.insert.new.self.entries ≡ insert m c.args.name c.args.entry) c.self.view_is
    (put names_total names_differ bytes_eq name_ties c.args.name c.args.entry c.self.inside.entries.entries
    c.insert.new.self.entries (λ q. c.in-Ok.ensures.updates.0 q))
    ∙ ap (λ o. cond (is_some o) old (insert old c.args.name c.args.entry)) none
