-- As long as there is no room the edits that are kept are the same without the oldest; where there is, they are all
-- kept.
use Rattle.std.specs.Prelude.{◌+◌, ◌<◌, ◌≤◌, List, ◌∷◌, length}
use Rattle.std.proofs.Common.{ap, arith, sym, ◌∙◌}
use Rattle.std.proofs.Math.Bool.{false≢true}
use Rattle.edit_undo.specs.EditLimit.{edits_weight, kept_edits, most_edits, most_taken_slots}
use Rattle.edit_undo.specs.declared.edit_record.EditRecord.{EditRecord}
use Rattle.edit_undo.proofs.KeptRings.{full_some}
use Rattle.edit_undo.proofs.LatestEdits.{one_fewer, room_made, room_step}
use Rattle.edit_undo.proofs.edit_ring.EditRing.make_room.Goals as goal

pub drop_oldest-requires : goal.drop_oldest-requires
drop_oldest-requires c =
    record {
      some =
          full_some c.loop-self.self c.args.weight c.requires.light
          (λ room. false≢true (sym c.loop-self-test.true ∙ c.has_room.ensures.1 room));
    }

pub loop-self-preserved : goal.loop-self-preserved
loop-self-preserved c = λ edit weighs.
    let held : List EditRecord = c.loop-self.self in
    let full : (length held < most_edits) × (edits_weight held + c.args.weight ≤ most_taken_slots) → ⊥ =
    λ room. false≢true (sym c.loop-self-test.true ∙ c.has_room.ensures.1 room) in
    ap (λ (edits : List EditRecord). kept_edits (edit ∷ edits)) c.drop_oldest.ensures
    ∙ (room_step held edit (full_some held c.args.weight c.requires.light full)
    (λ few light. full (omega (arith, few), omega (arith, light, weighs)))
    ∙ c.loop-self.invariant edit weighs)

pub loop-self-smaller : goal.loop-self-smaller
loop-self-smaller c =
    let held : List EditRecord = c.loop-self.self in
    let some : 0 < length held =
    full_some held c.args.weight c.requires.light (λ room. false≢true (sym c.loop-self-test.true ∙ c.has_room.ensures.1 room)) in
    omega (arith, ap length c.drop_oldest.ensures, one_fewer held some)

pub returns-clause-dropped : goal.returns-clause-dropped
returns-clause-dropped c = λ edit weighs.
    let room = c.has_room.ensures.0 c.loop-self-test.false in
    room_made c.loop-self.self edit room.0 (omega (arith, weighs, room.1)) ∙ c.loop-self.invariant edit weighs

pub returns-clause-few : goal.returns-clause-few
returns-clause-few c = (c.has_room.ensures.0 c.loop-self-test.false).0

pub returns-clause-room : goal.returns-clause-room
returns-clause-room c = (c.has_room.ensures.0 c.loop-self-test.false).1
