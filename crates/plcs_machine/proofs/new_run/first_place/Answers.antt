-- Each instruction is told by what was fetched. What is left at an address, with the cells so far, begins the run that
-- begins at the first one: so a place ends it, a cell leads on, and nothing else comes.
use Rattle.std.proofs.Common.{ℕ, ◌+◌, ◌≡◌, ◌∙◌, List, refl, sym, ap, arith}
use Rattle.std.proofs.Math.Bool.{false≢true}
use Rattle.std.specs.Prelude.{Option, Some, drop, is_some, option_map, slice_get}
use Rattle.plcs_code.specs.declared.instr.Instr.{Instr}
use Rattle.plcs_code.specs.PlainInstr.{PlainInstr, plain_instr}
use Rattle.plcs_store.specs.CellAt.{Variables}
use Rattle.plcs_store.specs.Configuration.{plain_place}
use Rattle.plcs_machine.specs.Enter.{begun_in}
use Rattle.plcs_machine.specs.Fetched.{Fetched, fetches_of, result_of}
use Rattle.plcs_machine.specs.Passing.{Landing}
use Rattle.plcs_machine.proofs.BegunRuns.{begun_at, begun_by, begun_next, begun_place, cell_counts, cell_made, no_other}
use Rattle.plcs_machine.specs.Private.CountedSteps.{behind_many}
use Rattle.plcs_machine.proofs.CountedFetches.{behind_none, fetches_both, fetches_most, fetches_nothing}
use Rattle.plcs_machine.proofs.new_run.first_place.Goals as goal

-- the instruction that is found, from what was fetched and what that is
found : (instrs : List PlainInstr) (address : ℕ) (fetched : PlainInstr) (instr told : Instr) → Some fetched ≡ slice_get instrs address
    → plain_instr instr ≡ fetched → instr ≡ told → slice_get instrs address ≡ Some (plain_instr told)
found instrs address fetched instr told there is same =
    sym there ∙ ap (λ (one : PlainInstr). let o : Option PlainInstr = Some one in o) (sym is ∙ ap plain_instr same)

pub loop-address-init : goal.loop-address-init
loop-address-init g c =
    record {
      begun = behind_none (begun_in (g.C.CodeView.code c.args.code.now).instrs c.args.cells.now);
      counted = fetches_nothing (g.W.Work.counts c.args.work.now);
    }

pub returns-in-At-clause-began : goal.returns-in-At-clause-began
returns-in-At-clause-began g c =
    let instrs = (g.C.CodeView.code c.args.code.now).instrs in
    let there = found instrs c.loop-address.address c.fetch.result.now c.instr.result.now (Instr.At c.in-At.place) c.fetch.ensures.fetched
    c.instr.ensures c.in-At.is in
    ap (λ (o : Option (Fetched Landing)). result_of o)
    (sym c.loop-address.invariant.begun
    ∙ begun_place instrs c.loop-address.address (plain_place c.in-At.place) c.loop-address.cells there)

pub returns-in-At-clause-counted : goal.returns-in-At-clause-counted
returns-in-At-clause-counted g c =
    let instrs = (g.C.CodeView.code c.args.code.now).instrs in
    let there = found instrs c.loop-address.address c.fetch.result.now c.instr.result.now (Instr.At c.in-At.place) c.fetch.ensures.fetched
    c.instr.ensures c.in-At.is in
    let total : fetches_of (begun_in instrs c.args.cells.now) ≡ 1 + c.loop-address.address =
    ap (λ (o : Option (Fetched Landing)). fetches_of o)
    (sym c.loop-address.invariant.begun
    ∙ begun_place instrs c.loop-address.address (plain_place c.in-At.place) c.loop-address.cells there) in
    fetches_both c.loop-address.address 1 (fetches_of (begun_in instrs c.args.cells.now)) (g.W.Work.counts c.args.work.now)
    (g.W.Work.counts c.loop-address.work) (g.W.Work.counts c.fetch.new.work) (omega (arith, total)) c.loop-address.invariant.counted
    c.fetch.ensures.counted

pub returns-in-At-clause-counts : goal.returns-in-At-clause-counts
returns-in-At-clause-counts g c =
    let instrs = (g.C.CodeView.code c.args.code.now).instrs in
    let there = found instrs c.loop-address.address c.fetch.result.now c.instr.result.now (Instr.At c.in-At.place) c.fetch.ensures.fetched
    c.instr.ensures c.in-At.is in
    let total : fetches_of (begun_in instrs c.args.cells.now) ≡ 1 + c.loop-address.address =
    ap (λ (o : Option (Fetched Landing)). fetches_of o)
    (sym c.loop-address.invariant.begun
    ∙ begun_place instrs c.loop-address.address (plain_place c.in-At.place) c.loop-address.cells there) in
    fetches_most (c.loop-address.address + 1) (fetches_of (begun_in instrs c.args.cells.now)) (g.W.Work.counts c.args.work.now)
    (g.W.Work.counts c.fetch.new.work) (omega (arith, total))
    (fetches_both c.loop-address.address 1 (c.loop-address.address + 1) (g.W.Work.counts c.args.work.now)
    (g.W.Work.counts c.loop-address.work) (g.W.Work.counts c.fetch.new.work) refl c.loop-address.invariant.counted c.fetch.ensures.counted)

pub returns-in_default-add_unset-clause-counts : goal.returns-in_default-add_unset-clause-counts
returns-in_default-add_unset-clause-counts g c =
    let instrs = (g.C.CodeView.code c.args.code.now).instrs in
    let there = found instrs c.loop-address.address c.fetch.result.now c.instr.result.now (Instr.Cell c.in-Cell.name c.in-Cell.ty c.in-Cell.size)
    c.fetch.ensures.fetched c.instr.ensures c.in-Cell.is in
    let whole = ap (λ (o : Option (Fetched Landing)). is_some o) c.loop-address.invariant.begun ∙ c.requires.begins in
    let same = ap (λ (o : Option (Fetched Landing)). fetches_of o) c.loop-address.invariant.begun in
    let most = cell_counts instrs c.loop-address.address c.in-Cell.name c.in-Cell.ty c.in-Cell.size c.loop-address.cells there whole in
    fetches_most (c.loop-address.address + 1) (fetches_of (begun_in instrs c.args.cells.now)) (g.W.Work.counts c.args.work.now)
    (g.W.Work.counts c.fetch.new.work) (omega (arith, most, same))
    (fetches_both c.loop-address.address 1 (c.loop-address.address + 1) (g.W.Work.counts c.args.work.now)
    (g.W.Work.counts c.loop-address.work) (g.W.Work.counts c.fetch.new.work) refl c.loop-address.invariant.counted c.fetch.ensures.counted)

pub add_unset-requires : goal.add_unset-requires
add_unset-requires g c =
    let instrs = (g.C.CodeView.code c.args.code.now).instrs in
    let there = found instrs c.loop-address.address c.fetch.result.now c.instr.result.now (Instr.Cell c.in-Cell.name c.in-Cell.ty c.in-Cell.size)
    c.fetch.ensures.fetched c.instr.ensures c.in-Cell.is in
    let whole = ap (λ (o : Option (Fetched Landing)). is_some o) c.loop-address.invariant.begun ∙ c.requires.begins in
    let made = cell_made instrs c.loop-address.address c.in-Cell.name c.in-Cell.ty c.in-Cell.size c.loop-address.cells there whole in
    record { new = made.0 }

pub unreachable-requires : goal.unreachable-requires
unreachable-requires g c =
    let instrs = (g.C.CodeView.code c.args.code.now).instrs in
    let address = c.loop-address.address in
    let there = found instrs address c.fetch.result.now c.instr.result.now c.instr.result.now c.fetch.ensures.fetched c.instr.ensures refl in
    let nothing =
    no_other c.instr.result.now c.loop-address.cells (begun_in (drop (address + 1) instrs)) c.in_default.not-At c.in_default.not-Cell in
    let none = sym c.loop-address.invariant.begun
    ∙ begun_by instrs address (plain_instr c.instr.result.now) c.loop-address.cells there
    ∙ ap (λ (o : Option (Fetched Landing)). option_map (behind_many address) o) nothing in
    false≢true (sym (ap (λ (o : Option (Fetched Landing)). is_some o) none) ∙ c.requires.begins)

pub loop-address-preserved : goal.loop-address-preserved
loop-address-preserved g c =
    let instrs = (g.C.CodeView.code c.args.code.now).instrs in
    let address = c.loop-address.address in
    let cells = c.loop-address.cells in
    let there = found instrs address c.fetch.result.now c.instr.result.now (Instr.Cell c.in-Cell.name c.in-Cell.ty c.in-Cell.size)
    c.fetch.ensures.fetched c.instr.ensures c.in-Cell.is in
    let whole = ap (λ (o : Option (Fetched Landing)). is_some o) c.loop-address.invariant.begun ∙ c.requires.begins in
    let made = c.in-Ok.ensures in
    record {
      begun =
          ap (λ (now : Variables). begun_at instrs (address + 1) now) made
          ∙ sym (begun_next instrs address c.in-Cell.name c.in-Cell.ty c.in-Cell.size cells there whole)
          ∙ c.loop-address.invariant.begun;
      counted =
          fetches_both address 1 (address + 1) (g.W.Work.counts c.args.work.now)
          (g.W.Work.counts c.loop-address.work) (g.W.Work.counts c.fetch.new.work) refl c.loop-address.invariant.counted c.fetch.ensures.counted;
    }
