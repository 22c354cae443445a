use Rattle.std.proofs.Common.{ℕ, leb, cond, bit_and, bit_or, refl}
use Rattle.std.proofs.lemmas.Simd.{zip2_splat, length-chunk}
use lib.Lanes.{chunk}
use Rattle.lane_rows.specs.TextByte.{is_text_byte}
use Rattle.lane_rows.proofs.ByteLanes.{joined, from_splat, run_in}
use Rattle.lane_rows.proofs.text_bytes.printable_run.Goals as goal

-- the lanes that are set are those of no text, which is seen of each of the 256 bytes
pub returns : goal.returns
returns c =
    let text = c.args.bytes.now in
    let at = c.args.at in
    let v = chunk at 32 text in
    let long = length-chunk at 32 text c.requires in
    run_in is_text_byte text at _ _ c.requires c.type_inv.bytes c.first_set.ensures _
    (joined bit_or _ _ v (joined bit_and _ _ v (zip2_splat {Y = ℕ} _ v 32 _ long) (zip2_splat {Y = ℕ} _ v 32 _ long))
    (from_splat (λ a b. cond (leb a b) 255 0) v 32 _ long)) refl
