-- What is written stands behind what was.
use Rattle.std.specs.Prelude.{◌≡◌, refl, ℕ, Bool, true, false, List, [], ◌∷◌, ◌++◌, length, take}
use Rattle.std.proofs.Common.{ap, sym, ◌∙◌, append-nil, append_assoc}
use Rattle.std.proofs.Math.Seq.{take-append_seam}
use Rattle.plcs_base.specs.declared.value.Value.{Value}
use Rattle.plcs_store.specs.OutputItem.{item_gap, output_with, value_bytes, with_item_written, with_items_written, with_line_ended}

-- more bytes stand behind these
abbrev Behind : (output becomes : List ℕ) → Type 0
Behind output becomes = (more : List ℕ) × (becomes ≡ output ++ more)

items_behind : (output : List ℕ) (values : List Value) → Behind output (with_items_written output values)
items_behind output [] = ([], sym (append-nil output))
items_behind output (value ∷ values) =
    let (more, is) = items_behind (with_item_written output value) values in (
      item_gap output ++ (value_bytes value ++ more),
      is
          ∙ (append_assoc (output ++ item_gap output) (value_bytes value) more
          ∙ append_assoc output (item_gap output) (value_bytes value ++ more)),
    )

line_behind : (output : List ℕ) → Behind output (with_line_ended output)
line_behind [] = ([], refl)
line_behind (byte ∷ rest) = (10 ∷ [], refl)

output_behind : (skip : Bool) (output : List ℕ) (values : List Value) → Behind output (output_with skip output values)
output_behind false output values = items_behind output values
output_behind true output values =
    let (line, ended) = line_behind output in
    let (more, is) = items_behind (with_line_ended output) values in
    (line ++ more, is ∙ (ap (λ (x : List ℕ). x ++ more) ended ∙ append_assoc output line more))

pub output_kept : (skip : Bool) (output : List ℕ) (values : List Value) → take (length output) (output_with skip output values) ≡ output
output_kept skip output values =
    let (more, is) = output_behind skip output values in ap (take (length output)) is ∙ take-append_seam output more
