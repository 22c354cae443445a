-- What is left at an address ends where the whole way ends: a place ends it, a jump leads on, and nothing else comes.
use Rattle.std.proofs.Common.{ℕ, ℤ, ◌+◌, ◌-◌, ◌<◌, ◌≡◌, ◌∙◌, [], refl, sym, ap, arith, rules, subst}
use Rattle.std.proofs.Math.Bool.{false≢true}
use Rattle.std.proofs.lemmas.Int.{to_z-of_z}
use mir.Syntax.{w32}
use mir.Val.{SFits, of_z, to_z}
use Rattle.std.specs.Prelude.{Option, Some, None, is_some, option_map}
use Rattle.plcs_code.specs.declared.instr.Instr.{Instr}
use Rattle.plcs_code.specs.PlainInstr.{plain_instr}
use Rattle.plcs_store.specs.Configuration.{plain_place}
use Rattle.plcs_machine.specs.Fetched.{Fetched, FetchesBy, fetches_of, result_of}
use Rattle.plcs_machine.specs.Lead.{jump_target}
use Rattle.plcs_machine.specs.Passing.{Landing, settle}
use Rattle.plcs_machine.specs.Private.CountedSteps.{behind_many}
use Rattle.plcs_machine.specs.Private.PlainLed.{has_target}
use Rattle.plcs_machine.proofs.CountedFetches.{behind_next, behind_none, fetches_both, fetches_nothing}
use Rattle.plcs_machine.proofs.SettledCode.{ends_before, found_instr, get_inside, jump_has_target, left_there, no_other_passing, settle_by, settle_inside, settle_jump_to, settle_place}
use Rattle.plcs_machine.proofs.landing.next_place.Goals as goal

pub loop-left-init : goal.loop-left-init
loop-left-init g c =
    let fetches = c.args.fetches in
    let same : fetches - fetches ≡ 0 = omega arith in
    let whole = settle [] (g.C.CodeView.code c.args.code.now).instrs fetches c.args.address None in
    let counts = g.W.Work.counts c.args.work.now in
    record {
      few = omega arith;
      begun = ap (λ (k : ℕ). option_map (behind_many k) whole) same ∙ behind_none whole;
      counted = subst (λ (k : ℕ). FetchesBy k counts counts) (sym same) (fetches_nothing counts);
    }

pub fetch-requires : goal.fetch-requires
fetch-requires g c =
    let instrs = (g.C.CodeView.code c.args.code.now).instrs in
    let left = settle [] instrs c.loop-left.left c.loop-left.at None in
    let whole = settle [] instrs c.args.fetches c.args.address None in
    get_inside instrs c.loop-left.at (settle_inside [] instrs c.loop-left.left c.loop-left.at None
    (left_there (c.args.fetches - c.loop-left.left) left whole c.loop-left.invariant.begun c.requires.settles))

pub returns-in-At-clause-place : goal.returns-in-At-clause-place
returns-in-At-clause-place g c =
    let instrs = (g.C.CodeView.code c.args.code.now).instrs in
    let some : 0 < c.loop-left.left = omega arith in
    let there = found_instr instrs c.loop-left.at c.fetch.result.now c.instr.result.now (Instr.At c.in-At.place) c.fetch.ensures.fetched
    c.instr.ensures c.in-At.is in
    ap (λ (o : Option (Fetched Landing)). result_of o)
    (sym c.loop-left.invariant.begun
    ∙ ap (option_map (behind_many (c.args.fetches - c.loop-left.left)))
    (settle_place [] instrs c.loop-left.left c.loop-left.at None (plain_place c.in-At.place) some there))

pub returns-in-At-clause-counted : goal.returns-in-At-clause-counted
returns-in-At-clause-counted g c =
    let instrs = (g.C.CodeView.code c.args.code.now).instrs in
    let some : 0 < c.loop-left.left = omega arith in
    let there = found_instr instrs c.loop-left.at c.fetch.result.now c.instr.result.now (Instr.At c.in-At.place) c.fetch.ensures.fetched
    c.instr.ensures c.in-At.is in
    let k = c.args.fetches - c.loop-left.left in
    let whole = settle [] instrs c.args.fetches c.args.address None in
    let total : fetches_of whole ≡ 1 + k =
    ap (λ (o : Option (Fetched Landing)). fetches_of o)
    (sym c.loop-left.invariant.begun
    ∙ ap (option_map (behind_many k))
    (settle_place [] instrs c.loop-left.left c.loop-left.at None (plain_place c.in-At.place) some there)) in
    fetches_both k 1 (fetches_of whole) (g.W.Work.counts c.args.work.now) (g.W.Work.counts c.loop-left.work)
    (g.W.Work.counts c.fetch.new.work) (omega (arith, total)) c.loop-left.invariant.counted c.fetch.ensures.counted

pub target-at-requires : goal.target-at-requires
target-at-requires g c =
    let instrs = (g.C.CodeView.code c.args.code.now).instrs in
    let some : 0 < c.loop-left.left = omega arith in
    let there = found_instr instrs c.loop-left.at c.fetch.result.now c.instr.result.now (Instr.Jump c.in-Jump.by) c.fetch.ensures.fetched
    c.instr.ensures c.in-Jump.is in
    let left = settle [] instrs c.loop-left.left c.loop-left.at None in
    let whole = settle [] instrs c.args.fetches c.args.address None in
    let fits : SFits w32 c.in-Jump.by = search rules in
    let same : to_z w32 (of_z w32 c.in-Jump.by) ≡ c.in-Jump.by = simp to_z-of_z in
    record {
      inside = ap (λ (d : ℤ). has_target (c.loop-left.at + 1) d) same ∙ jump_has_target [] instrs c.loop-left.left c.loop-left.at None c.in-Jump.by some there
          (left_there (c.args.fetches - c.loop-left.left) left whole c.loop-left.invariant.begun c.requires.settles) c.requires.short;
    }

pub loop-left-preserved : goal.loop-left-preserved
loop-left-preserved g c =
    let instrs = (g.C.CodeView.code c.args.code.now).instrs in
    let some : 0 < c.loop-left.left = omega arith in
    let there = found_instr instrs c.loop-left.at c.fetch.result.now c.instr.result.now (Instr.Jump c.in-Jump.by) c.fetch.ensures.fetched
    c.instr.ensures c.in-Jump.is in
    let k = c.args.fetches - c.loop-left.left in
    let few = c.loop-left.invariant.few in
    let fits : SFits w32 c.in-Jump.by = search rules in
    let same : to_z w32 (of_z w32 c.in-Jump.by) ≡ c.in-Jump.by = simp to_z-of_z in
    let to : jump_target (c.loop-left.at + 1) c.in-Jump.by ≡ Some c.target-at.result =
    ap (λ (d : ℤ). jump_target (c.loop-left.at + 1) d) (sym same) ∙ c.target-at.ensures in
    let next : c.args.fetches - (c.loop-left.left - 1) ≡ k + 1 = omega (arith, few) in
    let behind = settle [] instrs (c.loop-left.left - 1) c.target-at.result None in
    record {
      few = omega (arith, few);
      begun =
          ap (λ (n : ℕ). option_map (behind_many n) behind) next
          ∙ behind_next k behind
          ∙ ap (option_map (behind_many k))
          (sym (settle_jump_to [] instrs c.loop-left.left c.loop-left.at None c.in-Jump.by c.target-at.result some there to))
          ∙ c.loop-left.invariant.begun;
      counted =
          fetches_both k 1 (c.args.fetches - (c.loop-left.left - 1)) (g.W.Work.counts c.args.work.now) (g.W.Work.counts c.loop-left.work)
          (g.W.Work.counts c.fetch.new.work) (sym next) c.loop-left.invariant.counted c.fetch.ensures.counted;
    }

pub unreachable-requires : goal.unreachable-requires
unreachable-requires g c =
    let instrs = (g.C.CodeView.code c.args.code.now).instrs in
    let at = c.loop-left.at in
    let left = c.loop-left.left in
    let some : 0 < left = omega arith in
    let there = found_instr instrs at c.fetch.result.now c.instr.result.now c.instr.result.now c.fetch.ensures.fetched c.instr.ensures refl in
    let nothing = no_other_passing [] (at + 1) c.instr.result.now (settle [] instrs (left - 1)) c.in_default.not-At c.in_default.not-Jump in
    let none = sym c.loop-left.invariant.begun
    ∙ ap (option_map (behind_many (c.args.fetches - left)))
    (settle_by [] instrs left at None (plain_instr c.instr.result.now) some there ∙ nothing) in
    false≢true (sym (ap (λ (o : Option (Fetched Landing)). is_some o) none) ∙ c.requires.settles)

pub unreachable-requires-2 : goal.unreachable-requires-2
unreachable-requires-2 g c =
    let instrs = (g.C.CodeView.code c.args.code.now).instrs in
    let left = settle [] instrs c.loop-left.left c.loop-left.at None in
    let whole = settle [] instrs c.args.fetches c.args.address None in
    ends_before [] instrs c.loop-left.left c.loop-left.at None (omega arith)
    (left_there (c.args.fetches - c.loop-left.left) left whole c.loop-left.invariant.begun c.requires.settles)
