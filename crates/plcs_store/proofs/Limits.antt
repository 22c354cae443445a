-- The value of each limit: the definitions cite the code's constants, so a change of one is refused here.
use Rattle.std.proofs.Common.{◌≡◌, refl}
use Rattle.plcs_store.specs.Limit.{most_frames, most_loops, most_operands, most_output}

-- at most 64 frames stand
most_frames_is : most_frames ≡ 64
most_frames_is = refl

-- a frame keeps at most 64 loops
most_loops_is : most_loops ≡ 64
most_loops_is = refl

-- a run writes at most 100,000 bytes
most_output_is : most_output ≡ 100000
most_output_is = refl

-- a step has room for 400 operands, and for as many arguments
most_operands_is : most_operands ≡ 400
most_operands_is = refl
