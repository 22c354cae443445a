use Rattle.std.proofs.Common.{ℕ, List, map, take, Option, Some, option_map, Vec, Global, ap, sym, ◌∙◌}
use Rattle.std.proofs.lemmas.List.{take-map}
use Rattle.synth_session.proofs.code_rows.CodeRows.first.Goals as goal

pub returns-in-Some : goal.returns-in-Some
returns-in-Some c =
    let text : Vec ℕ Global → List ℕ = λ row. row.items in
    ap (λ (rows : List (List ℕ)). let shown : Option (List (List ℕ)) = Some rows in shown)
    (ap (λ (rows : List (Vec ℕ Global)). map text (take c.in-Some.count rows)) c.deref.ensures.value
    ∙ sym (take-map text c.in-Some.count c.self.inside.rows.items)
    ∙ ap (take c.in-Some.count) c.self.view_is)
    ∙ sym (ap (option_map (λ (n : ℕ). take n c.args.self.now)) c.in-Some.is)
