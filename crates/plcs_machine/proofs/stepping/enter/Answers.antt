-- The frame that is made is that of the call, for the newest arguments and with no cells yet, and its caller waits.
use Rattle.std.proofs.Common.{ℕ, ◌≡◌, ◌∙◌, ◌++◌, ◌∷◌, [], List, refl, sym, ap, arith, subst}
use Rattle.std.specs.Prelude.{Some, IsSome, length}
use Rattle.plcs_base.specs.declared.place.Place.{Place}
use Rattle.plcs_store.specs.declared.argument.Argument.{Argument}
use Rattle.plcs_store.specs.declared.frame.Frame.{Frame}
use Rattle.plcs_store.specs.declared.kept_loop.KeptLoop.{KeptLoop}
use Rattle.plcs_store.specs.CellAt.{Variables, newest}
use Rattle.plcs_store.specs.Configuration.{PlainConfiguration, frame_at, plain_configuration, plain_place}
use Rattle.plcs_store.specs.NewFrame.{new_frame}
use Rattle.plcs_machine.specs.Fetched.{FetchesAtMost, FetchesBy, fetches_of, result_of}
use Rattle.plcs_machine.specs.Lead.{newest_arguments}
use Rattle.plcs_machine.specs.Passing.{Making, settle}
use Rattle.plcs_machine.specs.Private.MakingFrame.{making_of}
use Rattle.plcs_machine.specs.Private.WalkedStep.{called_answer, more_fetches}
use Rattle.plcs_machine.proofs.CalledSteps.{call_done, call_fetches, call_makes, call_settles}
use Rattle.plcs_machine.proofs.CountedFetches.{fetches_few}
use Rattle.plcs_machine.proofs.NotedActs.{changed_length, some_frame}
use Rattle.plcs_machine.proofs.stepping.enter.Goals as goal

-- no cells, and the newest of these arguments
begun : (cells : Variables) (count : ℕ) (given added arguments : List Argument) → cells ≡ [] → given ≡ newest_arguments count added → added ≡ arguments
    → making_of cells given ≡ making_of [] (newest_arguments count arguments)
begun cells count given added arguments none taken same =
    ap (λ (some : Variables). making_of some given) none
    ∙ ap (making_of []) (taken ∙ ap (newest_arguments count) same)

pub first_place_in-requires : goal.first_place_in-requires
first_place_in-requires g c =
    let code = g.C.CodeView.code c.args.code.now in
    let state = c.args.state.now in
    let before = plain_configuration state in
    let left = c.args.end.left in
    let entry = c.args.entry in
    let count = c.args.count in
    let address = entry.address in
    let slot = entry.slot.0 in
    let arguments = newest_arguments count state.operands.arguments in
    let making =
    begun c.new-cells.result count c.newest_of-arguments.result.now c.as_slice-added.result.now state.operands.arguments c.new-cells.ensures
    c.newest_of-arguments.ensures c.as_slice-added.ensures in
    let whole = call_settles code before left slot address arguments c.requires.answered in
    let settles =
    subst (λ (making : Making). IsSome (settle state.frames code.instrs left address (Some making))) (sym making) whole in
    record { short = c.requires.short; settles = (state.frames, settles) }

pub returns-in_default-clause-memory : goal.returns-in_default-clause-memory
returns-in_default-clause-memory g c =
    let code = g.C.CodeView.code c.args.code.now in
    let state = c.args.state.now in
    let before = plain_configuration state in
    let left = c.args.end.left in
    let entry = c.args.entry in
    let count = c.args.count in
    let address = entry.address in
    let slot = entry.slot.0 in
    let arguments = newest_arguments count state.operands.arguments in
    call_makes code before left slot address arguments c.requires.answered

pub returns-in_default-first_place_in-clause-memory : goal.returns-in_default-first_place_in-clause-memory
returns-in_default-first_place_in-clause-memory g c =
    let code = g.C.CodeView.code c.args.code.now in
    let state = c.args.state.now in
    let before = plain_configuration state in
    let left = c.args.end.left in
    let entry = c.args.entry in
    let count = c.args.count in
    let address = entry.address in
    let slot = entry.slot.0 in
    let arguments = newest_arguments count state.operands.arguments in
    call_makes code before left slot address arguments c.requires.answered

pub returns-in_default-clause-counts : goal.returns-in_default-clause-counts
returns-in_default-clause-counts g c =
    let code = g.C.CodeView.code c.args.code.now in
    let state = c.args.state.now in
    let before = plain_configuration state in
    let left = c.args.end.left in
    let entry = c.args.entry in
    let count = c.args.count in
    let address = entry.address in
    let slot = entry.slot.0 in
    let arguments = newest_arguments count state.operands.arguments in
    fetches_few (more_fetches (called_answer code state left entry count)) (g.W.Work.counts c.args.work.now)

pub returns-in_default-first_place_in-clause-counts : goal.returns-in_default-first_place_in-clause-counts
returns-in_default-first_place_in-clause-counts g c =
    let code = g.C.CodeView.code c.args.code.now in
    let state = c.args.state.now in
    let before = plain_configuration state in
    let left = c.args.end.left in
    let entry = c.args.entry in
    let count = c.args.count in
    let address = entry.address in
    let slot = entry.slot.0 in
    let arguments = newest_arguments count state.operands.arguments in
    let making =
    begun c.new-cells.result count c.newest_of-arguments.result.now c.as_slice-added.result.now state.operands.arguments c.new-cells.ensures
    c.newest_of-arguments.ensures c.as_slice-added.ensures in
    let whole = call_settles code before left slot address arguments c.requires.answered in
    let settles =
    subst (λ (making : Making). IsSome (settle state.frames code.instrs left address (Some making))) (sym making) whole in
    let counts = g.W.Work.counts in
    let same : fetches_of (settle state.frames code.instrs left address (Some (making_of c.new-cells.result c.newest_of-arguments.result.now)))
    ≡ more_fetches (called_answer code state left entry count) =
    ap (λ (making : Making). fetches_of (settle state.frames code.instrs left address (Some making))) making
    ∙ call_fetches code before left slot address arguments c.requires.answered in
    subst (λ (n : ℕ). FetchesAtMost n (counts c.args.work.now) (counts c.first_place_in.new.work)) same
    (c.first_place_in.ensures.counts state.frames settles)

pub returns-clause-counts : goal.returns-clause-counts
returns-clause-counts g c =
    let code = g.C.CodeView.code c.args.code.now in
    let state = c.args.state.now in
    let before = plain_configuration state in
    let left = c.args.end.left in
    let entry = c.args.entry in
    let count = c.args.count in
    let address = entry.address in
    let slot = entry.slot.0 in
    let arguments = newest_arguments count state.operands.arguments in
    let making =
    begun c.new-cells.result count c.newest_of-arguments.result.now c.as_slice-added.result.now state.operands.arguments c.new-cells.ensures
    c.newest_of-arguments.ensures c.as_slice-added.ensures in
    let whole = call_settles code before left slot address arguments c.requires.answered in
    let settles =
    subst (λ (making : Making). IsSome (settle state.frames code.instrs left address (Some making))) (sym making) whole in
    let counts = g.W.Work.counts in
    let same : fetches_of (settle state.frames code.instrs left address (Some (making_of c.new-cells.result c.newest_of-arguments.result.now)))
    ≡ more_fetches (called_answer code state left entry count) =
    ap (λ (making : Making). fetches_of (settle state.frames code.instrs left address (Some making))) making
    ∙ call_fetches code before left slot address arguments c.requires.answered in
    subst (λ (n : ℕ). FetchesAtMost n (counts c.args.work.now) (counts c.first_place_in.new.work)) same
    (c.first_place_in.ensures.counts state.frames settles)

pub returns-clause-counted : goal.returns-clause-counted
returns-clause-counted g c =
    let code = g.C.CodeView.code c.args.code.now in
    let state = c.args.state.now in
    let before = plain_configuration state in
    let left = c.args.end.left in
    let entry = c.args.entry in
    let count = c.args.count in
    let address = entry.address in
    let slot = entry.slot.0 in
    let arguments = newest_arguments count state.operands.arguments in
    let making =
    begun c.new-cells.result count c.newest_of-arguments.result.now c.as_slice-added.result.now state.operands.arguments c.new-cells.ensures
    c.newest_of-arguments.ensures c.as_slice-added.ensures in
    let whole = call_settles code before left slot address arguments c.requires.answered in
    let settles =
    subst (λ (making : Making). IsSome (settle state.frames code.instrs left address (Some making))) (sym making) whole in
    let counts = g.W.Work.counts in
    let same : fetches_of (settle state.frames code.instrs left address (Some (making_of c.new-cells.result c.newest_of-arguments.result.now)))
    ≡ more_fetches (called_answer code state left entry count) =
    ap (λ (making : Making). fetches_of (settle state.frames code.instrs left address (Some making))) making
    ∙ call_fetches code before left slot address arguments c.requires.answered in
    subst (λ (n : ℕ). FetchesBy n (counts c.args.work.now) (counts c.first_place_in.new.work)) same
    (c.in-Ok-first_place_in.ensures.counted state.frames settles)

pub set_place-requires : goal.set_place-requires
set_place-requires g c =
    let code = g.C.CodeView.code c.args.code.now in
    let state = c.args.state.now in
    let before = plain_configuration state in
    let left = c.args.end.left in
    let entry = c.args.entry in
    let count = c.args.count in
    let address = entry.address in
    let slot = entry.slot.0 in
    let arguments = newest_arguments count state.operands.arguments in
    record { some = some_frame state.frames (plain_place c.args.end.from) c.requires.at }

pub push-requires : goal.push-requires
push-requires g c =
    let code = g.C.CodeView.code c.args.code.now in
    let state = c.args.state.now in
    let before = plain_configuration state in
    let left = c.args.end.left in
    let entry = c.args.entry in
    let count = c.args.count in
    let address = entry.address in
    let slot = entry.slot.0 in
    let arguments = newest_arguments count state.operands.arguments in
    let long : length c.set_place.new.self ≡ length state.frames =
    ap (λ (frames : List Frame). length frames) c.set_place.ensures
    ∙ changed_length (newest state.frames) (frame_at (plain_place record { slot = c.args.end.from.slot; point = record { 0 = 1 } })) state.frames in
    let room = c.requires.room in
    record { room = omega (arith, long, room) }

pub returns-clause-done : goal.returns-clause-done
returns-clause-done g c =
    let code = g.C.CodeView.code c.args.code.now in
    let state = c.args.state.now in
    let before = plain_configuration state in
    let left = c.args.end.left in
    let entry = c.args.entry in
    let count = c.args.count in
    let address = entry.address in
    let slot = entry.slot.0 in
    let arguments = newest_arguments count state.operands.arguments in
    let making =
    begun c.new-cells.result count c.newest_of-arguments.result.now c.as_slice-added.result.now state.operands.arguments c.new-cells.ensures
    c.newest_of-arguments.ensures c.as_slice-added.ensures in
    let whole = call_settles code before left slot address arguments c.requires.answered in
    let settles =
    subst (λ (making : Making). IsSome (settle state.frames code.instrs left address (Some making))) (sym making) whole in
    let waits : Place = record { slot = c.args.end.from.slot; point = record { 0 = 1 } } in
    let first = c.in-Ok-first_place_in.first in
    let cells = c.first_place_in.new.cells in
    let lands =
    sym (ap (λ (making : Making). result_of (settle state.frames code.instrs left address (Some making))) making)
    ∙ c.in-Ok-first_place_in.ensures.place state.frames settles in
    let made : Frame = new_frame slot (plain_place first) cells in
    let frame : List KeptLoop → Frame =
    λ loops. record { procedure = entry.slot; place = first; cells = cells; loops = loops } in
    let pushed =
    c.push.ensures
    ∙ ap (λ (loops : List KeptLoop). c.set_place.new.self ++ (frame loops ∷ [])) c.in-Ok.ensures
    ∙ ap (λ (frames : List Frame). frames ++ (made ∷ [])) c.set_place.ensures in
    call_done code before left slot address arguments c.args.end.from c.requires.at waits first refl cells lands _ c.args.undo.now _
    (ap (λ (frames : List Frame). let one : PlainConfiguration = record before { frames = frames } in one) pushed) c.note.ensures
