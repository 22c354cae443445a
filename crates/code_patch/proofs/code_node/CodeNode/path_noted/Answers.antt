-- The look at what stands at the path is the whole proof, as the path has a number.
use Rattle.std.proofs.Common.{◌≡◌, ℕ, ap, sym, arith, ◌∙◌, Some}
use Rattle.code_patch.specs.Private.KeptPaths.{slot_kept_at}
use Rattle.code_patch.proofs.SoughtSlots.{leads_at}
use Rattle.code_patch.proofs.code_node.CodeNode.path_noted.Goals as goal

pub returns : goal.returns
returns g c =
    let self = c.args.self.now in
    let at : Some c.in-Some-slot_at.there.0 ≡ slot_kept_at self c.in-Some.path.items =
    c.in-Some-slot_at.ensures ∙ ap (slot_kept_at self) c.as_slice.ensures.value in
    leads_at c.args.slot.0 c.in-Some.path.items self c.if-is_empty.ensures (sym at ∙ ap (λ (n : ℕ). Some n) (omega (arith, c.if-there-slot.false)))
