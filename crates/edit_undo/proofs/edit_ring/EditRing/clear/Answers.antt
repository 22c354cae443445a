use Rattle.std.specs.Prelude.{refl}
use Rattle.std.proofs.Common.{arith, sym, subst}
use Rattle.circular_buffer.specs.Buffer.{Buffer}
use Rattle.edit_undo.specs.Private.KeptRing.{IsKeptRing}
use Rattle.edit_undo.specs.declared.edit_record.EditRecord.{EditRecord}
use Rattle.edit_undo.proofs.edit_ring.EditRing.clear.Goals as goal

pub invariant_of-self : goal.invariant_of-self
invariant_of-self c =
    subst (λ (held : Buffer EditRecord). IsKeptRing record { records = held; weight = 0 }) (sym c.clear.ensures)
    (record {
      capacity = c.self.invariant.capacity;
      limits = record { few = omega arith; light = omega arith };
      weight = refl;
    })
