-- A constant is whole where its bytes are all that there are.
use Rattle.std.specs.Prelude.{ℕ, ◌==◌, false, cond, length, List, Option, None, option_and_then}
use Rattle.std.proofs.Common.{ap, sym, ◌∙◌}
use Rattle.std.proofs.lemmas.Bool.{cond-true, cond-false, eq-eqb, ne_eqb}
use Rattle.plcs_base.specs.declared.value.Value.{Value}
use Rattle.plcs_store.specs.InputItem.{readable_text, unquoted}
use Rattle.plcs_store.proofs.input_item.whole_constant.Goals as goal
use Rattle.plcs_store.proofs.input_item.whole_constant.Goals.{in_default-via-in-Some+else-bytes-rest, in_default-via-in_default}

-- the text of a constant that has so many bytes, if they are all
abbrev text_of : List ℕ → ℕ → Option Value
text_of rest n = cond (n == length rest) (readable_text (unquoted false rest)) None

pub returns-in-Some : goal.returns-in-Some
returns-in-Some c =
    c.unquoted_text.ensures
    ∙ sym (cond-true (c.in-Some.bytes == length c.args.rest.now) (readable_text (unquoted false c.args.rest.now)) None
    (eq-eqb c.in-Some.bytes (length c.args.rest.now) c.if-bytes-rest.true))
    ∙ ap (option_and_then (text_of c.args.rest.now)) (sym c.in-Some.is ∙ c.constant_length.ensures.closed)

pub returns-in_default : goal.returns-in_default
returns-in_default c =
    elim c.in_default.branch [
      | in_default-via-in-Some+else-bytes-rest w ↦
          sym (cond-false (w.in-Some.bytes == length c.args.rest.now) (readable_text (unquoted false c.args.rest.now)) None
          (ne_eqb w.in-Some.bytes (length c.args.rest.now) w.if-bytes-rest.false))
          ∙ ap (option_and_then (text_of c.args.rest.now)) (sym w.in-Some.is ∙ c.constant_length.ensures.closed)
      | in_default-via-in_default w ↦
          ap (option_and_then (text_of c.args.rest.now)) (sym w.in_default.is ∙ c.constant_length.ensures.closed)
    ]
