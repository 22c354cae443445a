use Rattle.std.proofs.Common.{◌≡◌, ◌+◌, ◌-◌, eqb, w8, ap, ◌∙◌, arith, take, drop, count_by}
use Rattle.std.specs.Int.RustNames.{count_ones}
use Rattle.std.proofs.lemmas.Simd.{length-chunk, bitmask_splat, ones-mask_l}
use Rattle.std.proofs.lemmas.List.Sums.{count_by-le-length}
use lib.Lanes.{chunk}
use Rattle.lane_rows.specs.TextByte.{is_line_end}
use Rattle.lane_rows.proofs.text_bytes.line_ends_in.Goals as goal

pub returns-clause-ends : goal.returns-clause-ends
unfolding count_ones
returns-clause-ends c =
    let text = c.args.bytes.now in
    let at = c.args.at in
    let width : 32 ≡ at + 32 - at = omega arith in
    ap count_ones (bitmask_splat w8 eqb (chunk at 32 text) 32 10 (length-chunk at 32 text c.requires) (omega arith))
    ∙ ones-mask_l is_line_end (chunk at 32 text)
    ∙ ap (λ n. count_by is_line_end (take n (drop at text))) width

pub returns-clause-few : goal.returns-clause-few
unfolding count_ones
returns-clause-few c =
    let text = c.args.bytes.now in
    let at = c.args.at in
    let long = length-chunk at 32 text c.requires in
    let mask = ap count_ones (bitmask_splat w8 eqb (chunk at 32 text) 32 10 long (omega arith)) in
    let is = mask ∙ ones-mask_l is_line_end (chunk at 32 text) in
    omega (arith, is, long, count_by-le-length is_line_end (chunk at 32 text))
