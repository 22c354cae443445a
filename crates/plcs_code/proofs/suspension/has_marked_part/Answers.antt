use Rattle.std.specs.Prelude.{◌||◌, ◌+◌, drop}
use Rattle.std.proofs.Common.{arith, ap, sym, ◌∙◌}
use Rattle.std.proofs.lemmas.Option.{slice_get_within}
use Rattle.plcs_code.specs.Pieces.{has_marked_part}
use Rattle.plcs_code.proofs.ReadParts.{left_none, mark_next}
use Rattle.plcs_code.proofs.suspension.has_marked_part.Goals as goal

pub returns-then-is_marked : goal.returns-then-is_marked
returns-then-is_marked g c =
    let label = c.args.node.now.label in
    let marks = g.M.Marked.marks c.args.marks.now in
    let k = c.loop-part.part in
    let is = sym c.is_marked.ensures ∙ c.if-is_marked.true in
    sym
    (sym c.loop-part.invariant.left
    ∙ mark_next marks label.slot k label.parts _ (sym c.in-Some.ensures)
    ∙ ap (λ b. b || has_marked_part marks label.slot (k + 1) (drop (k + 1) label.parts)) is)

pub overflow_add-part : goal.overflow_add-part
overflow_add-part g c =
    let within = slice_get_within c.args.node.now.label.parts c.loop-part.part _ (sym c.in-Some.ensures) in
    omega (arith, within, c.requires)

pub loop-part-smaller : goal.loop-part-smaller
loop-part-smaller g c =
    let within = slice_get_within c.args.node.now.label.parts c.loop-part.part _ (sym c.in-Some.ensures) in
    omega (arith, within)

pub loop-part-preserved : goal.loop-part-preserved
loop-part-preserved g c =
    let label = c.args.node.now.label in
    let marks = g.M.Marked.marks c.args.marks.now in
    let k = c.loop-part.part in
    let within = slice_get_within label.parts k _ (sym c.in-Some.ensures) in
    let is = sym c.is_marked.ensures ∙ c.if-is_marked.false in
    record {
      left =
          sym
          (mark_next marks label.slot k label.parts _ (sym c.in-Some.ensures)
          ∙ ap (λ b. b || has_marked_part marks label.slot (k + 1) (drop (k + 1) label.parts)) is)
          ∙ c.loop-part.invariant.left;
      within = omega (arith, within);
    }

pub returns : goal.returns
returns g c =
    let label = c.args.node.now.label in
    let marks = g.M.Marked.marks c.args.marks.now in
    let k = c.loop-part.part in
    sym (sym c.loop-part.invariant.left ∙ ap (has_marked_part marks label.slot k) (left_none label.parts k (sym c.in_default.ensures)))
