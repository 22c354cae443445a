use Rattle.std.proofs.Common.{ap, sym, ◌∙◌, List, ℕ, length, ◌-◌}
use Rattle.std.specs.Prelude.{slice_get}
use Rattle.std.specs.Option.{option_copied}
use Rattle.plcs_store.proofs.WrittenItems.{last_byte}
use Rattle.plcs_store.proofs.output.Output.is_at_line_start.Goals as goal

pub returns-in-Some : goal.returns-in-Some
returns-in-Some c =
    last_byte c.args.self.now c.in-Some.byte.now
    (ap (λ (bytes : List ℕ). slice_get bytes (length bytes - 1)) (sym c.as_slice.ensures.bytes)
    ∙ sym c.last.ensures.value ∙ ap option_copied c.in-Some.is)
