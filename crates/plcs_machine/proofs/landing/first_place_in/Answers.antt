-- What is left at an address makes the same frame as the whole way: a place ends it, a jump leads on, a parameter takes
-- the next argument, cells are made, and nothing else comes. So it is for all frames for which a parameter may stand.
use Rattle.std.proofs.Common.{ℕ, ℤ, ◌+◌, ◌-◌, ◌<◌, ◌≡◌, ◌∙◌, ◌++◌, ◌∷◌, [], List, refl, sym, ap, arith, rules, subst}
use Rattle.std.proofs.Math.Bool.{false≢true}
use Rattle.std.proofs.lemmas.Int.{to_z-of_z}
use mir.Syntax.{w32}
use mir.Val.{SFits, of_z, to_z}
use Rattle.std.specs.Prelude.{Option, Some, IsSome, is_some, option_map}
use Rattle.plcs_code.specs.declared.instr.Instr.{Instr}
use Rattle.plcs_code.specs.PlainInstr.{plain_instr}
use Rattle.plcs_store.specs.declared.argument.Argument.{Argument}
use Rattle.plcs_store.specs.declared.frame.Frame.{Frame}
use Rattle.plcs_store.specs.CellAt.{Variables, new_variable}
use Rattle.plcs_store.specs.Configuration.{plain_place}
use Rattle.plcs_machine.specs.Fetched.{Fetched, FetchesBy, at_once, fetches_of, result_of}
use Rattle.plcs_machine.specs.Lead.{jump_target}
use Rattle.plcs_machine.specs.Passing.{Landing, landing, settle}
use Rattle.plcs_machine.specs.Private.CountedSteps.{behind_many}
use Rattle.plcs_machine.specs.Private.MakingFrame.{making_of}
use Rattle.plcs_machine.specs.Private.PlainLed.{has_target}
use Rattle.plcs_machine.proofs.CountedFetches.{behind_next, behind_none, fetches_both, fetches_most, fetches_nothing}
use Rattle.plcs_machine.proofs.MadeFrames.{argument_there, cell_new, cell_next, no_other_making, takes_one}
use Rattle.plcs_machine.proofs.SettledCode.{ends_before, fetched_within, found_instr, get_inside, jump_has_target, left_there, settle_by, settle_fetches, settle_inside, settle_jump_to, settle_place}
use Rattle.plcs_machine.proofs.landing.first_place_in.Goals as goal

pub loop-left-init : goal.loop-left-init
loop-left-init g c =
    let instrs = (g.C.CodeView.code c.args.code.now).instrs in
    let fetches = c.args.fetches in
    let same : fetches - fetches ≡ 0 = omega arith in
    let whole : List Frame → Option (Fetched Landing) =
    λ frames. settle frames instrs fetches c.args.address (Some (making_of c.args.cells.now c.args.arguments.now)) in
    let counts = g.W.Work.counts c.args.work.now in
    record {
      few = omega arith;
      begun = λ frames there. ap (λ (n : ℕ). option_map (behind_many n) (whole frames)) same ∙ behind_none (whole frames);
      counted = subst (λ (n : ℕ). FetchesBy n counts counts) (sym same) (fetches_nothing counts);
    }

pub fetch-requires : goal.fetch-requires
fetch-requires g c =
    let instrs = (g.C.CodeView.code c.args.code.now).instrs in
    let fetches = c.args.fetches in
    let left = c.loop-left.left in
    let at = c.loop-left.at in
    let k = fetches - left in
    let some : 0 < left = omega arith in
    let given = c.loop-left.given.now in
    let cells = c.loop-left.cells in
    let whole : List Frame → Option (Fetched Landing) =
    λ frames. settle frames instrs fetches c.args.address (Some (making_of c.args.cells.now c.args.arguments.now)) in
    let here : List Frame → Option (Fetched Landing) = λ frames. settle frames instrs left at (Some (making_of cells given)) in
    let frames = c.requires.settles.0 in
    let now = left_there k (here frames) (whole frames) (c.loop-left.invariant.begun frames c.requires.settles.1) c.requires.settles.1 in
    get_inside instrs at (settle_inside frames instrs left at (Some (making_of cells given)) now)

pub returns-in-At-clause-place : goal.returns-in-At-clause-place
returns-in-At-clause-place g c =
    let instrs = (g.C.CodeView.code c.args.code.now).instrs in
    let fetches = c.args.fetches in
    let left = c.loop-left.left in
    let at = c.loop-left.at in
    let k = fetches - left in
    let some : 0 < left = omega arith in
    let given = c.loop-left.given.now in
    let cells = c.loop-left.cells in
    let whole : List Frame → Option (Fetched Landing) =
    λ frames. settle frames instrs fetches c.args.address (Some (making_of c.args.cells.now c.args.arguments.now)) in
    let here : List Frame → Option (Fetched Landing) = λ frames. settle frames instrs left at (Some (making_of cells given)) in
    let there = found_instr instrs at c.fetch.result.now c.instr.result.now (Instr.At c.in-At.place) c.fetch.ensures.fetched c.instr.ensures
    c.in-At.is in
    let ends : (frames : List Frame) → IsSome (whole frames)
    → option_map (behind_many k) (Some (at_once (landing (plain_place c.in-At.place) cells))) ≡ whole frames =
    λ frames stands.
    sym (ap (option_map (behind_many k)) (settle_place frames instrs left at (Some (making_of cells given)) (plain_place c.in-At.place) some there))
    ∙ c.loop-left.invariant.begun frames stands in
    λ frames stands. ap (λ (o : Option (Fetched Landing)). result_of o) (sym (ends frames stands))

pub returns-in-At-clause-counted : goal.returns-in-At-clause-counted
returns-in-At-clause-counted g c =
    let instrs = (g.C.CodeView.code c.args.code.now).instrs in
    let fetches = c.args.fetches in
    let left = c.loop-left.left in
    let at = c.loop-left.at in
    let k = fetches - left in
    let some : 0 < left = omega arith in
    let given = c.loop-left.given.now in
    let cells = c.loop-left.cells in
    let whole : List Frame → Option (Fetched Landing) =
    λ frames. settle frames instrs fetches c.args.address (Some (making_of c.args.cells.now c.args.arguments.now)) in
    let here : List Frame → Option (Fetched Landing) = λ frames. settle frames instrs left at (Some (making_of cells given)) in
    let there = found_instr instrs at c.fetch.result.now c.instr.result.now (Instr.At c.in-At.place) c.fetch.ensures.fetched c.instr.ensures
    c.in-At.is in
    let ends : (frames : List Frame) → IsSome (whole frames)
    → option_map (behind_many k) (Some (at_once (landing (plain_place c.in-At.place) cells))) ≡ whole frames =
    λ frames stands.
    sym (ap (option_map (behind_many k)) (settle_place frames instrs left at (Some (making_of cells given)) (plain_place c.in-At.place) some there))
    ∙ c.loop-left.invariant.begun frames stands in
    let counts = g.W.Work.counts in
    let counted : (frames : List Frame) → IsSome (whole frames) → FetchesBy (fetches_of (whole frames)) (counts c.args.work.now) (counts c.fetch.new.work) =
    λ frames stands.
    let total : fetches_of (whole frames) ≡ 1 + k = ap (λ (o : Option (Fetched Landing)). fetches_of o) (sym (ends frames stands)) in
    fetches_both k 1 (fetches_of (whole frames)) (counts c.args.work.now) (counts c.loop-left.work) (counts c.fetch.new.work) (omega (arith, total))
    c.loop-left.invariant.counted c.fetch.ensures.counted in
    counted

pub returns-in-At-clause-counts : goal.returns-in-At-clause-counts
returns-in-At-clause-counts g c =
    let instrs = (g.C.CodeView.code c.args.code.now).instrs in
    let fetches = c.args.fetches in
    let left = c.loop-left.left in
    let at = c.loop-left.at in
    let k = fetches - left in
    let some : 0 < left = omega arith in
    let given = c.loop-left.given.now in
    let cells = c.loop-left.cells in
    let whole : List Frame → Option (Fetched Landing) =
    λ frames. settle frames instrs fetches c.args.address (Some (making_of c.args.cells.now c.args.arguments.now)) in
    let here : List Frame → Option (Fetched Landing) = λ frames. settle frames instrs left at (Some (making_of cells given)) in
    let there = found_instr instrs at c.fetch.result.now c.instr.result.now (Instr.At c.in-At.place) c.fetch.ensures.fetched c.instr.ensures
    c.in-At.is in
    let ends : (frames : List Frame) → IsSome (whole frames)
    → option_map (behind_many k) (Some (at_once (landing (plain_place c.in-At.place) cells))) ≡ whole frames =
    λ frames stands.
    sym (ap (option_map (behind_many k)) (settle_place frames instrs left at (Some (making_of cells given)) (plain_place c.in-At.place) some there))
    ∙ c.loop-left.invariant.begun frames stands in
    let counts = g.W.Work.counts in
    let counted : (frames : List Frame) → IsSome (whole frames) → FetchesBy (fetches_of (whole frames)) (counts c.args.work.now) (counts c.fetch.new.work) =
    λ frames stands.
    let total : fetches_of (whole frames) ≡ 1 + k = ap (λ (o : Option (Fetched Landing)). fetches_of o) (sym (ends frames stands)) in
    fetches_both k 1 (fetches_of (whole frames)) (counts c.args.work.now) (counts c.loop-left.work) (counts c.fetch.new.work) (omega (arith, total))
    c.loop-left.invariant.counted c.fetch.ensures.counted in
    λ frames stands.
    fetches_most (fetches_of (whole frames)) (fetches_of (whole frames)) (counts c.args.work.now) (counts c.fetch.new.work) (omega arith)
    (counted frames stands)

pub target-at-requires : goal.target-at-requires
target-at-requires g c =
    let instrs = (g.C.CodeView.code c.args.code.now).instrs in
    let fetches = c.args.fetches in
    let left = c.loop-left.left in
    let at = c.loop-left.at in
    let k = fetches - left in
    let some : 0 < left = omega arith in
    let given = c.loop-left.given.now in
    let cells = c.loop-left.cells in
    let whole : List Frame → Option (Fetched Landing) =
    λ frames. settle frames instrs fetches c.args.address (Some (making_of c.args.cells.now c.args.arguments.now)) in
    let here : List Frame → Option (Fetched Landing) = λ frames. settle frames instrs left at (Some (making_of cells given)) in
    let there = found_instr instrs at c.fetch.result.now c.instr.result.now (Instr.Jump c.in-Jump.by) c.fetch.ensures.fetched c.instr.ensures
    c.in-Jump.is in
    let frames = c.requires.settles.0 in
    let now = left_there k (here frames) (whole frames) (c.loop-left.invariant.begun frames c.requires.settles.1) c.requires.settles.1 in
    let fits : SFits w32 c.in-Jump.by = search rules in
    let same : to_z w32 (of_z w32 c.in-Jump.by) ≡ c.in-Jump.by = simp to_z-of_z in
    record { inside = ap (λ (d : ℤ). has_target (at + 1) d) same ∙ jump_has_target frames instrs left at (Some (making_of cells given)) c.in-Jump.by some there now c.requires.short }

pub add_parameter-requires : goal.add_parameter-requires
add_parameter-requires g c =
    let instrs = (g.C.CodeView.code c.args.code.now).instrs in
    let fetches = c.args.fetches in
    let left = c.loop-left.left in
    let at = c.loop-left.at in
    let k = fetches - left in
    let some : 0 < left = omega arith in
    let given = c.loop-left.given.now in
    let cells = c.loop-left.cells in
    let whole : List Frame → Option (Fetched Landing) =
    λ frames. settle frames instrs fetches c.args.address (Some (making_of c.args.cells.now c.args.arguments.now)) in
    let here : List Frame → Option (Fetched Landing) = λ frames. settle frames instrs left at (Some (making_of cells given)) in
    let there = found_instr instrs at c.fetch.result.now c.instr.result.now (Instr.Param c.in-Param.name c.in-Param.ty) c.fetch.ensures.fetched c.instr.ensures
    c.in-Param.is in
    let frames = c.requires.settles.0 in
    let now = left_there k (here frames) (whole frames) (c.loop-left.invariant.begun frames c.requires.settles.1) c.requires.settles.1 in
    let argument = c.in-Some.argument.now in
    let others = c.in-Some.others.now in
    let takes = takes_one frames instrs left at c.in-Param.name c.in-Param.ty cells argument others some there
    (subst (λ (arguments : List Argument). IsSome (settle frames instrs left at (Some (making_of cells arguments)))) c.in-Some.ensures.cases.0 now) in
    record { there = takes.there; new = takes.new }

pub add_unset-requires : goal.add_unset-requires
add_unset-requires g c =
    let instrs = (g.C.CodeView.code c.args.code.now).instrs in
    let fetches = c.args.fetches in
    let left = c.loop-left.left in
    let at = c.loop-left.at in
    let k = fetches - left in
    let some : 0 < left = omega arith in
    let given = c.loop-left.given.now in
    let cells = c.loop-left.cells in
    let whole : List Frame → Option (Fetched Landing) =
    λ frames. settle frames instrs fetches c.args.address (Some (making_of c.args.cells.now c.args.arguments.now)) in
    let here : List Frame → Option (Fetched Landing) = λ frames. settle frames instrs left at (Some (making_of cells given)) in
    let there = found_instr instrs at c.fetch.result.now c.instr.result.now (Instr.Cell c.in-Cell.name c.in-Cell.ty c.in-Cell.size) c.fetch.ensures.fetched c.instr.ensures
    c.in-Cell.is in
    let frames = c.requires.settles.0 in
    let now = left_there k (here frames) (whole frames) (c.loop-left.invariant.begun frames c.requires.settles.1) c.requires.settles.1 in
    record { new = (cell_new frames instrs left at c.in-Cell.name c.in-Cell.ty c.in-Cell.size cells given some there now).0 }

pub loop-left-preserved-in-Jump : goal.loop-left-preserved-in-Jump
loop-left-preserved-in-Jump g c =
    let instrs = (g.C.CodeView.code c.args.code.now).instrs in
    let fetches = c.args.fetches in
    let left = c.loop-left.left in
    let at = c.loop-left.at in
    let k = fetches - left in
    let some : 0 < left = omega arith in
    let given = c.loop-left.given.now in
    let cells = c.loop-left.cells in
    let whole : List Frame → Option (Fetched Landing) =
    λ frames. settle frames instrs fetches c.args.address (Some (making_of c.args.cells.now c.args.arguments.now)) in
    let here : List Frame → Option (Fetched Landing) = λ frames. settle frames instrs left at (Some (making_of cells given)) in
    let there = found_instr instrs at c.fetch.result.now c.instr.result.now (Instr.Jump c.in-Jump.by) c.fetch.ensures.fetched c.instr.ensures
    c.in-Jump.is in
    let fits : SFits w32 c.in-Jump.by = search rules in
    let same : to_z w32 (of_z w32 c.in-Jump.by) ≡ c.in-Jump.by = simp to_z-of_z in
    let to : jump_target (at + 1) c.in-Jump.by ≡ Some c.target-at.result =
    ap (λ (d : ℤ). jump_target (at + 1) d) (sym same) ∙ c.target-at.ensures in
    let few = c.loop-left.invariant.few in
    let next : fetches - (left - 1) ≡ k + 1 = omega (arith, few) in
    let counts = g.W.Work.counts in
    let behind : List Frame → Option (Fetched Landing) = λ frames. settle frames instrs (left - 1) c.target-at.result (Some (making_of cells given)) in
    record {
      few = omega (arith, few);
      begun =
          λ frames stands.
          ap (λ (n : ℕ). option_map (behind_many n) (behind frames)) next
          ∙ behind_next k (behind frames)
          ∙ ap (option_map (behind_many k))
          (sym (settle_jump_to frames instrs left at (Some (making_of cells given)) c.in-Jump.by c.target-at.result some there to))
          ∙ c.loop-left.invariant.begun frames stands;
      counted =
          fetches_both k 1 (fetches - (left - 1)) (counts c.args.work.now) (counts c.loop-left.work) (counts c.fetch.new.work) (sym next)
          c.loop-left.invariant.counted c.fetch.ensures.counted;
    }

pub loop-left-preserved-in-Param : goal.loop-left-preserved-in-Param
loop-left-preserved-in-Param g c =
    let instrs = (g.C.CodeView.code c.args.code.now).instrs in
    let fetches = c.args.fetches in
    let left = c.loop-left.left in
    let at = c.loop-left.at in
    let k = fetches - left in
    let some : 0 < left = omega arith in
    let given = c.loop-left.given.now in
    let cells = c.loop-left.cells in
    let whole : List Frame → Option (Fetched Landing) =
    λ frames. settle frames instrs fetches c.args.address (Some (making_of c.args.cells.now c.args.arguments.now)) in
    let here : List Frame → Option (Fetched Landing) = λ frames. settle frames instrs left at (Some (making_of cells given)) in
    let there = found_instr instrs at c.fetch.result.now c.instr.result.now (Instr.Param c.in-Param.name c.in-Param.ty) c.fetch.ensures.fetched c.instr.ensures
    c.in-Param.is in
    let few = c.loop-left.invariant.few in
    let next : fetches - (left - 1) ≡ k + 1 = omega (arith, few) in
    let counts = g.W.Work.counts in
    let argument = c.in-Some.argument.now in
    let others = c.in-Some.others.now in
    let both = c.in-Some.ensures.cases.0 in
    let now = c.add_parameter.new.cells in
    let behind : List Frame → Option (Fetched Landing) = λ frames. settle frames instrs (left - 1) (at + 1) (Some (making_of now others)) in
    record {
      few = omega (arith, few);
      begun =
          λ frames stands.
          ap (λ (n : ℕ). option_map (behind_many n) (behind frames)) next
          ∙ behind_next k (behind frames)
          ∙ ap (option_map (behind_many k))
          (sym (ap (λ (arguments : List Argument). settle frames instrs left at (Some (making_of cells arguments))) both
          ∙ (takes_one frames instrs left at c.in-Param.name c.in-Param.ty cells argument others some there
          (subst (λ (arguments : List Argument). IsSome (settle frames instrs left at (Some (making_of cells arguments)))) both
          (left_there k (here frames) (whole frames) (c.loop-left.invariant.begun frames stands) stands))).next now c.in-Ok.ensures))
          ∙ c.loop-left.invariant.begun frames stands;
      counted =
          fetches_both k 1 (fetches - (left - 1)) (counts c.args.work.now) (counts c.loop-left.work) (counts c.fetch.new.work) (sym next)
          c.loop-left.invariant.counted c.fetch.ensures.counted;
    }

pub loop-left-preserved : goal.loop-left-preserved
loop-left-preserved g c =
    let instrs = (g.C.CodeView.code c.args.code.now).instrs in
    let fetches = c.args.fetches in
    let left = c.loop-left.left in
    let at = c.loop-left.at in
    let k = fetches - left in
    let some : 0 < left = omega arith in
    let given = c.loop-left.given.now in
    let cells = c.loop-left.cells in
    let whole : List Frame → Option (Fetched Landing) =
    λ frames. settle frames instrs fetches c.args.address (Some (making_of c.args.cells.now c.args.arguments.now)) in
    let here : List Frame → Option (Fetched Landing) = λ frames. settle frames instrs left at (Some (making_of cells given)) in
    let there = found_instr instrs at c.fetch.result.now c.instr.result.now (Instr.Cell c.in-Cell.name c.in-Cell.ty c.in-Cell.size) c.fetch.ensures.fetched c.instr.ensures
    c.in-Cell.is in
    let few = c.loop-left.invariant.few in
    let next : fetches - (left - 1) ≡ k + 1 = omega (arith, few) in
    let counts = g.W.Work.counts in
    let now = cells ++ ((c.in-Cell.name, new_variable c.in-Cell.ty c.in-Cell.size) ∷ []) in
    let added = c.in-Ok-add_unset.ensures in
    let behind : List Frame → Option (Fetched Landing) = λ frames. settle frames instrs (left - 1) (at + 1) (Some (making_of now given)) in
    record {
      few = omega (arith, few);
      begun =
          λ frames stands.
          ap (λ (variables : Variables). option_map (behind_many (fetches - (left - 1)))
          (settle frames instrs (left - 1) (at + 1) (Some (making_of variables given)))) added
          ∙ ap (λ (n : ℕ). option_map (behind_many n) (behind frames)) next
          ∙ behind_next k (behind frames)
          ∙ ap (option_map (behind_many k))
          (sym (cell_next frames instrs left at c.in-Cell.name c.in-Cell.ty c.in-Cell.size cells given some there
          (left_there k (here frames) (whole frames) (c.loop-left.invariant.begun frames stands) stands)))
          ∙ c.loop-left.invariant.begun frames stands;
      counted =
          fetches_both k 1 (fetches - (left - 1)) (counts c.args.work.now) (counts c.loop-left.work) (counts c.fetch.new.work) (sym next)
          c.loop-left.invariant.counted c.fetch.ensures.counted;
    }

pub returns-in_default-add_parameter-clause-counts : goal.returns-in_default-add_parameter-clause-counts
returns-in_default-add_parameter-clause-counts g c =
    let instrs = (g.C.CodeView.code c.args.code.now).instrs in
    let fetches = c.args.fetches in
    let left = c.loop-left.left in
    let at = c.loop-left.at in
    let k = fetches - left in
    let some : 0 < left = omega arith in
    let given = c.loop-left.given.now in
    let cells = c.loop-left.cells in
    let whole : List Frame → Option (Fetched Landing) =
    λ frames. settle frames instrs fetches c.args.address (Some (making_of c.args.cells.now c.args.arguments.now)) in
    let here : List Frame → Option (Fetched Landing) = λ frames. settle frames instrs left at (Some (making_of cells given)) in
    let few = c.loop-left.invariant.few in
    let counts = g.W.Work.counts in
    λ frames stands.
    let now = left_there k (here frames) (whole frames) (c.loop-left.invariant.begun frames stands) stands in
    let most = fetched_within k (here frames) (whole frames) (c.loop-left.invariant.begun frames stands) stands
    (settle_fetches frames instrs left at (Some (making_of cells given)) now) in
    fetches_most (k + 1) (fetches_of (whole frames)) (counts c.args.work.now) (counts c.fetch.new.work) most
    (fetches_both k 1 (k + 1) (counts c.args.work.now) (counts c.loop-left.work) (counts c.fetch.new.work) refl
    c.loop-left.invariant.counted c.fetch.ensures.counted)

pub returns-in_default-add_unset-clause-counts : goal.returns-in_default-add_unset-clause-counts
returns-in_default-add_unset-clause-counts g c =
    let instrs = (g.C.CodeView.code c.args.code.now).instrs in
    let fetches = c.args.fetches in
    let left = c.loop-left.left in
    let at = c.loop-left.at in
    let k = fetches - left in
    let some : 0 < left = omega arith in
    let given = c.loop-left.given.now in
    let cells = c.loop-left.cells in
    let whole : List Frame → Option (Fetched Landing) =
    λ frames. settle frames instrs fetches c.args.address (Some (making_of c.args.cells.now c.args.arguments.now)) in
    let here : List Frame → Option (Fetched Landing) = λ frames. settle frames instrs left at (Some (making_of cells given)) in
    let few = c.loop-left.invariant.few in
    let counts = g.W.Work.counts in
    λ frames stands.
    let now = left_there k (here frames) (whole frames) (c.loop-left.invariant.begun frames stands) stands in
    let most = fetched_within k (here frames) (whole frames) (c.loop-left.invariant.begun frames stands) stands
    (settle_fetches frames instrs left at (Some (making_of cells given)) now) in
    fetches_most (k + 1) (fetches_of (whole frames)) (counts c.args.work.now) (counts c.fetch.new.work) most
    (fetches_both k 1 (k + 1) (counts c.args.work.now) (counts c.loop-left.work) (counts c.fetch.new.work) refl
    c.loop-left.invariant.counted c.fetch.ensures.counted)

pub unreachable-requires : goal.unreachable-requires
unreachable-requires g c =
    let instrs = (g.C.CodeView.code c.args.code.now).instrs in
    let fetches = c.args.fetches in
    let left = c.loop-left.left in
    let at = c.loop-left.at in
    let k = fetches - left in
    let some : 0 < left = omega arith in
    let given = c.loop-left.given.now in
    let cells = c.loop-left.cells in
    let whole : List Frame → Option (Fetched Landing) =
    λ frames. settle frames instrs fetches c.args.address (Some (making_of c.args.cells.now c.args.arguments.now)) in
    let here : List Frame → Option (Fetched Landing) = λ frames. settle frames instrs left at (Some (making_of cells given)) in
    let there = found_instr instrs at c.fetch.result.now c.instr.result.now (Instr.Param c.in-Param.name c.in-Param.ty) c.fetch.ensures.fetched c.instr.ensures
    c.in-Param.is in
    let frames = c.requires.settles.0 in
    let now = left_there k (here frames) (whole frames) (c.loop-left.invariant.begun frames c.requires.settles.1) c.requires.settles.1 in
    argument_there frames instrs left at c.in-Param.name c.in-Param.ty cells given c.in_default-split_first.ensures.cases some there now

pub unreachable-requires-in_default : goal.unreachable-requires-in_default
unreachable-requires-in_default g c =
    let instrs = (g.C.CodeView.code c.args.code.now).instrs in
    let fetches = c.args.fetches in
    let left = c.loop-left.left in
    let at = c.loop-left.at in
    let k = fetches - left in
    let some : 0 < left = omega arith in
    let given = c.loop-left.given.now in
    let cells = c.loop-left.cells in
    let whole : List Frame → Option (Fetched Landing) =
    λ frames. settle frames instrs fetches c.args.address (Some (making_of c.args.cells.now c.args.arguments.now)) in
    let here : List Frame → Option (Fetched Landing) = λ frames. settle frames instrs left at (Some (making_of cells given)) in
    let there = found_instr instrs at c.fetch.result.now c.instr.result.now c.instr.result.now c.fetch.ensures.fetched c.instr.ensures refl in
    let frames = c.requires.settles.0 in
    let now = left_there k (here frames) (whole frames) (c.loop-left.invariant.begun frames c.requires.settles.1) c.requires.settles.1 in
    let nothing = no_other_making frames (at + 1) (making_of cells given) c.instr.result.now (settle frames instrs (left - 1)) c.in_default.not-At
    c.in_default.not-Jump c.in_default.not-Param c.in_default.not-Cell in
    let none = settle_by frames instrs left at (Some (making_of cells given)) (plain_instr c.instr.result.now) some there ∙ nothing in
    false≢true (sym (ap (λ (o : Option (Fetched Landing)). is_some o) none) ∙ now)

pub unreachable-requires-2 : goal.unreachable-requires-2
unreachable-requires-2 g c =
    let instrs = (g.C.CodeView.code c.args.code.now).instrs in
    let fetches = c.args.fetches in
    let left = c.loop-left.left in
    let at = c.loop-left.at in
    let k = fetches - left in
    let given = c.loop-left.given.now in
    let cells = c.loop-left.cells in
    let whole : List Frame → Option (Fetched Landing) =
    λ frames. settle frames instrs fetches c.args.address (Some (making_of c.args.cells.now c.args.arguments.now)) in
    let here : List Frame → Option (Fetched Landing) = λ frames. settle frames instrs left at (Some (making_of cells given)) in
    let frames = c.requires.settles.0 in
    let now = left_there k (here frames) (whole frames) (c.loop-left.invariant.begun frames c.requires.settles.1) c.requires.settles.1 in
    ends_before frames instrs left at (Some (making_of cells given)) (omega arith) now

pub overflow_add-at-in-Param : goal.overflow_add-at-in-Param
overflow_add-at-in-Param g c =
    let instrs = (g.C.CodeView.code c.args.code.now).instrs in
    let fetches = c.args.fetches in
    let left = c.loop-left.left in
    let at = c.loop-left.at in
    let k = fetches - left in
    let some : 0 < left = omega arith in
    let given = c.loop-left.given.now in
    let cells = c.loop-left.cells in
    let whole : List Frame → Option (Fetched Landing) =
    λ frames. settle frames instrs fetches c.args.address (Some (making_of c.args.cells.now c.args.arguments.now)) in
    let here : List Frame → Option (Fetched Landing) = λ frames. settle frames instrs left at (Some (making_of cells given)) in
    let frames = c.requires.settles.0 in
    let now = left_there k (here frames) (whole frames) (c.loop-left.invariant.begun frames c.requires.settles.1) c.requires.settles.1 in
    let inside = get_inside instrs at (settle_inside frames instrs left at (Some (making_of cells given)) now) in
    omega (arith, c.requires.short, inside)

pub overflow_add-at-in-Cell : goal.overflow_add-at-in-Cell
overflow_add-at-in-Cell g c =
    let instrs = (g.C.CodeView.code c.args.code.now).instrs in
    let fetches = c.args.fetches in
    let left = c.loop-left.left in
    let at = c.loop-left.at in
    let k = fetches - left in
    let some : 0 < left = omega arith in
    let given = c.loop-left.given.now in
    let cells = c.loop-left.cells in
    let whole : List Frame → Option (Fetched Landing) =
    λ frames. settle frames instrs fetches c.args.address (Some (making_of c.args.cells.now c.args.arguments.now)) in
    let here : List Frame → Option (Fetched Landing) = λ frames. settle frames instrs left at (Some (making_of cells given)) in
    let frames = c.requires.settles.0 in
    let now = left_there k (here frames) (whole frames) (c.loop-left.invariant.begun frames c.requires.settles.1) c.requires.settles.1 in
    let inside = get_inside instrs at (settle_inside frames instrs left at (Some (making_of cells given)) now) in
    omega (arith, c.requires.short, inside)
