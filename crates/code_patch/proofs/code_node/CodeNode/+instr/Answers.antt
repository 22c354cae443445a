-- The number of an instruction is that in one of the lists of which the code is joined, less what stands before that
-- list: own code before, the jump ahead, the code of a node inside, the jump between, or what stands behind. The kept
-- lengths say which node's code it is, and which number it has there.
use Rattle.std.specs.Prelude.{◌≡◌, ◌+◌, ◌-◌, ◌<◌, ◌≤◌, ℕ, List, Some, ◌++◌, length, sum, take, slice_get, slice_index}
use Rattle.std.specs.Option.{option_to_list}
use Rattle.std.proofs.Common.{arith, ap, sym, ◌∙◌}
use Rattle.std.proofs.lemmas.List.{length-append, length-map}
use Rattle.std.proofs.lemmas.List.Sums.{sum_by-take-le}
use Rattle.plcs_base.specs.ListLeft.{past_where_none}
use Rattle.plcs_code.specs.Gen.{codes_joined}
use Rattle.plcs_code.specs.OwnCode.{PlainOwnCode, jumps_beside}
use Rattle.code_patch.specs.CodeForest.{kept_codes, kept_lengths, code_nodes}
use Rattle.code_patch.specs.Private.PlainCodeNode.{instrs_behind, instrs_inside, kept_length}
use Rattle.code_patch.proofs.FoundInstrs.{all_length, before_gap, behind_gap, child_weight, code_there, found_code, get_left, get_right, in_gap, node_code_length}
use Rattle.code_patch.proofs.Opened.{ahead_is, between_is, found_again, numbers_are, numbers_sum, own_is}
use Rattle.code_patch.proofs.code_node.CodeNode.+instr.Goals as goal

pub instr-returns-then-at-before : goal.instr-returns-then-at-before
instr-returns-then-at-before g t c =
    let node = c.args.self.now in
    let own = own_is c.self.inside node c.self.view_is c.self.invariant in
    let jump = ahead_is c.self.inside node c.self.view_is c.self.invariant in
    let before = node.own.pieces.before in
    let ahead = option_to_list (jumps_beside node.own (kept_lengths node.inner)).ahead in
    let long : c.length-own.result ≡ length before =
    c.length-own.ensures.length ∙ ap length (c.before-2.ensures ∙ ap (λ (o : PlainOwnCode). o.pieces.before) own) in
    let past : length before ≤ c.args.at = omega (arith, long, c.if-at-own.false) in
    let within : c.args.at - length before < length ahead = omega (arith, past, c.if-at-before.true, c.length_before-before.ensures) in
    c.get-then-at-before.ensures ∙ (λ i. slice_get (jump i) (c.args.at - long i))
    ∙ sym (get_left ahead (instrs_inside node) (c.args.at - length before) within)
    ∙ sym (get_right before (ahead ++ instrs_inside node) c.args.at past)

pub instr-returns : goal.instr-returns
instr-returns g t c =
    let node = c.args.self.now in
    let before = node.own.pieces.before in
    let ahead = option_to_list (jumps_beside node.own (kept_lengths node.inner)).ahead in
    let is = c.length_before-before.ensures in
    let far : length before + length ahead ≤ c.args.at = omega (arith, is, c.if-at-before.false) in
    c.instr_inside.ensures ∙ ap (slice_get (instrs_inside node)) (omega (arith, is))
    ∙ sym (get_right ahead (instrs_inside node) (c.args.at - length before) (omega (arith, far)))
    ∙ sym (get_right before (ahead ++ instrs_inside node) c.args.at (omega (arith, far)))

pub instr_inside-instr_of_child-requires : goal.instr_inside-instr_of_child-requires
instr_inside-instr_of_child-requires g t c κs within =
    let node = c.args.self.now in
    let numbers = numbers_are c.self.inside node c.self.view_is c.self.invariant in
    let first = c.before-first.ensures ∙ ap (λ (ns : List ℕ). sum (take 1 ns)) numbers in
    (omega arith, (within, omega (arith, c.if-at-first.true, first, sum_by-take-le (λ (n : ℕ). n) (kept_lengths node.inner) 1, all_length node.inner, length-append (codes_joined (kept_codes node.inner)) (instrs_behind node))))

pub instr_inside-returns-then-at-first : goal.instr_inside-returns-then-at-first
instr_inside-returns-then-at-first g t c =
    let node = c.args.self.now in
    let numbers = numbers_are c.self.inside node c.self.view_is c.self.invariant in
    let first = c.before-first.ensures ∙ ap (λ (ns : List ℕ). sum (take 1 ns)) numbers in
    let gap = option_to_list (jumps_beside node.own (kept_lengths node.inner)).between in
    c.instr_of_child.ensures ∙ before_gap node.inner gap (instrs_behind node) c.args.at (omega (arith, c.if-at-first.true, first))

pub instr_inside-returns-then-at-first-2 : goal.instr_inside-returns-then-at-first-2
instr_inside-returns-then-at-first-2 g t c =
    let node = c.args.self.now in
    let numbers = numbers_are c.self.inside node c.self.view_is c.self.invariant in
    let first : c.before-first.result ≡ sum (take 1 (kept_lengths node.inner)) = c.before-first.ensures ∙ ap (λ (ns : List ℕ). sum (take 1 ns)) numbers in
    let jump = between_is c.self.inside node c.self.view_is c.self.invariant in
    let gap = option_to_list (jumps_beside node.own (kept_lengths node.inner)).between in
    let many : c.length-between.result ≡ length gap = c.length-between.ensures.length ∙ ap length jump in
    let past : sum (take 1 (kept_lengths node.inner)) ≤ c.args.at = omega (arith, first, c.if-at-first.false) in
    let within : c.args.at - sum (take 1 (kept_lengths node.inner)) < length gap = omega (arith, first, many, c.if-at-first-2.true) in
    c.get.ensures ∙ (λ i. slice_get (jump i) (c.args.at - first i)) ∙ in_gap node.inner gap (instrs_behind node) c.args.at past within

pub instr_inside-returns : goal.instr_inside-returns
instr_inside-returns g t c =
    let node = c.args.self.now in
    let numbers = numbers_are c.self.inside node c.self.view_is c.self.invariant in
    let first : c.before-first.result ≡ sum (take 1 (kept_lengths node.inner)) = c.before-first.ensures ∙ ap (λ (ns : List ℕ). sum (take 1 ns)) numbers in
    let jump = between_is c.self.inside node c.self.view_is c.self.invariant in
    let gap = option_to_list (jumps_beside node.own (kept_lengths node.inner)).between in
    let many : c.length-between.result ≡ length gap = c.length-between.ensures.length ∙ ap length jump in
    let past : sum (take 1 (kept_lengths node.inner)) ≤ c.args.at = omega (arith, first, c.if-at-first.false) in
    let far : length gap ≤ c.args.at - sum (take 1 (kept_lengths node.inner)) = omega (arith, first, many, c.if-at-first-2.false) in
    c.instr_of_child-2.ensures ∙ ap (λ (n : ℕ). slice_get (codes_joined (kept_codes node.inner) ++ instrs_behind node) (c.args.at - n)) many
    ∙ behind_gap node.inner gap (instrs_behind node) c.args.at past far

pub instr_of_child-instr_behind-requires : goal.instr_of_child-instr_behind-requires
instr_of_child-instr_behind-requires g t c =
    let node = c.args.self.now in
    let inside = numbers_sum c.self.inside node c.self.view_is c.self.invariant in
    omega (arith, c.requires, c.in_default.ensures, c.total.ensures.total, inside, all_length node.inner, length-append (codes_joined (kept_codes node.inner)) (instrs_behind node))

pub instr_of_child-returns-in_default : goal.instr_of_child-returns-in_default
instr_of_child-returns-in_default g t c =
    let node = c.args.self.now in
    let inside = numbers_sum c.self.inside node c.self.view_is c.self.invariant in
    let long = all_length node.inner in
    c.instr_behind.ensures ∙ ap (slice_get (instrs_behind node)) (omega (arith, c.total.ensures.total, inside, long))
    ∙ sym (get_right (codes_joined (kept_codes node.inner)) (instrs_behind node) c.args.at (omega (arith, c.in_default.ensures, inside, long)))

pub instr_of_child-unreachable-requires : goal.instr_of_child-unreachable-requires
instr_of_child-unreachable-requires g t c =
    let past = past_where_none c.self.inside.inner.items c.in-Some.position.index (sym c.in_default-get.ensures) in
    let many : length c.self.inside.lengths.numbers ≡ length c.self.inside.inner.items =
    ap length c.self.invariant.lengths ∙ length-map c.self.inside.inner.items kept_length in
    let there : c.in-Some.position.index < length c.self.inside.lengths.numbers = c.in-Some.ensures.0 in
    omega (arith, past, many, there)

pub instr_of_child-instr-requires : goal.instr_of_child-instr-requires
instr_of_child-instr-requires g t c κs within =
    let node = c.args.self.now in
    let k = c.in-Some.position.index in
    let child = c.in-Some-get.child.now in
    let there : slice_get (code_nodes node.inner) k ≡ Some child = found_again c.self.inside node c.self.view_is c.self.invariant k ∙ sym c.in-Some-get.ensures in
    let same = ap (λ (ns : List ℕ). slice_index ns k) (numbers_are c.self.inside node c.self.view_is c.self.invariant) in
    let less : c.in-Some.position.rest < slice_index c.self.inside.lengths.numbers k = c.in-Some.ensures.2 in
    let short = code_there node.inner k c.in-Some.position.rest child there (omega (arith, same, less)) in
    (omega (arith, child_weight node.inner k child there), (within, omega (arith, short, node_code_length child)))

pub instr_of_child-returns : goal.instr_of_child-returns
instr_of_child-returns g t c =
    let node = c.args.self.now in
    let k = c.in-Some.position.index in
    let rest = c.in-Some.position.rest in
    let child = c.in-Some-get.child.now in
    let there : slice_get (code_nodes node.inner) k ≡ Some child = found_again c.self.inside node c.self.view_is c.self.invariant k ∙ sym c.in-Some-get.ensures in
    let numbers = numbers_are c.self.inside node c.self.view_is c.self.invariant in
    let same = ap (λ (ns : List ℕ). slice_index ns k) numbers in
    let less : rest < slice_index c.self.inside.lengths.numbers k = c.in-Some.ensures.2 in
    let short = code_there node.inner k rest child there (omega (arith, same, less)) in
    let sums : sum (take k c.self.inside.lengths.numbers) ≡ sum (take k (kept_lengths node.inner)) = ap (λ (ns : List ℕ). sum (take k ns)) numbers in
    let at : sum (take k c.self.inside.lengths.numbers) + rest ≡ c.args.at = c.in-Some.ensures.1 in
    c.instr.ensures ∙ sym (found_code node.inner (instrs_behind node) k rest child there short)
    ∙ ap (slice_get (codes_joined (kept_codes node.inner) ++ instrs_behind node)) (omega (arith, sums, at))
