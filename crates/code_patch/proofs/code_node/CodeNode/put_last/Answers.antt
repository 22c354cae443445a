-- The lengths grow by that of the node, at the end; a node without own code has no jumps, whatever stands inside it.
use Rattle.std.specs.Prelude.{◌≡◌, ◌+◌, ◌≤◌, ◌∷◌, ◌++◌, [], ℕ, List, length, map, min, sum}
use Rattle.std.specs.List.{insert}
use Rattle.std.proofs.Common.{arith, ap, sym, subst, ◌∙◌}
use Rattle.std.proofs.Math.Nat.{min-le_left, min-le_right}
use Rattle.std.proofs.lemmas.List.{map-append}
use Rattle.std.proofs.lemmas.List.Edits.{insert_end}
use Rattle.std.proofs.lemmas.List.Sums.{sum_by-append, sum_by-cons}
use Rattle.prefix_sums.specs.PlainPrefixSums.{PlainPrefixSums}
use Rattle.plcs_code.specs.BlockLimit.{most_instrs}
use Rattle.plcs_code.specs.OwnCode.{PlainOwnCode, no_own_code}
use Rattle.code_patch.specs.CodeEdit.{join_code}
use Rattle.code_patch.specs.CodeForest.{count_around, PlainCodeNode}
use Rattle.code_patch.specs.Private.PlainCodeNode.{code_forest, kept_length, kept_lengths_forest}
use Rattle.code_patch.proofs.CodeRoots.{none_ahead, none_back, none_between, none_count}
use Rattle.code_patch.proofs.MadeCode.{forest_join}
use Rattle.code_patch.proofs.Opened.{numbers_sum, own_is}
use Rattle.code_patch.proofs.code_node.CodeNode.put_last.Goals as goal

-- a number more at the end of numbers
last_put : (numbers : List ℕ) (at number other : ℕ) → at ≡ length numbers → number ≡ other
    → insert numbers at number ≡ numbers ++ other ∷ []
last_put numbers at number other end same = (λ i. insert numbers (end i) (same i)) ∙ insert_end numbers other

last_sum : (numbers : List ℕ) (number : ℕ) → sum (numbers ++ number ∷ []) ≡ sum numbers + number
last_sum numbers number =
    omega (arith, sum_by-append (λ (n : ℕ). n) numbers (number ∷ []), sum_by-cons (λ (n : ℕ). n) number [])

-- code without own code isn't too long where the codes inside aren't
short_then : (own : PlainOwnCode) → own ≡ no_own_code → (old new : List ℕ) (number : ℕ) → old ++ number ∷ [] ≡ new
    → sum old + number ≤ most_instrs → count_around own new ≤ most_instrs
short_then own none old new number all short =
    let whole : sum (old ++ number ∷ []) ≡ sum new = ap sum all in
    omega (arith, none_count own none new, whole, last_sum old number, short)

pub insert-requires : goal.insert-requires
insert-requires g c =
    let inside = c.self.inside in
    let numbers = inside.lengths.numbers in
    let spare : min inside.inner.spare inside.lengths.spare ≡ c.args.self.now.spare = ap (λ (n : PlainCodeNode). n.spare) c.self.view_is in
    let total = numbers_sum inside c.args.self.now c.self.view_is c.self.invariant in
    let put : sum (insert numbers c.len.result c.length-length.result) ≡ sum (numbers ++ kept_length c.args.node ∷ []) =
    ap sum (last_put numbers c.len.result c.length-length.result (kept_length c.args.node) c.len.ensures c.length-length.ensures.length) in
    record {
      there = omega (arith, c.len.ensures);
      room = omega (arith, c.requires.room, spare, min-le_right inside.inner.spare inside.lengths.spare);
      fits = omega (arith, put, last_sum numbers (kept_length c.args.node), total, c.requires.short);
    }

pub push_reserved-requires : goal.push_reserved-requires
push_reserved-requires g c =
    let inside = c.self.inside in
    let spare : min inside.inner.spare inside.lengths.spare ≡ c.args.self.now.spare = ap (λ (n : PlainCodeNode). n.spare) c.self.view_is in
    record { room = omega (arith, c.requires.room, spare, min-le_left inside.inner.spare inside.lengths.spare) }

pub invariant_of-self : goal.invariant_of-self
invariant_of-self g c =
    let inside = c.self.inside in
    let own = inside.own in
    let items = inside.inner.items in
    let node = c.args.node in
    let numbers = inside.lengths.numbers in
    let old = map kept_length items in
    let new = map kept_length c.push_reserved.new.self.items in
    let put : c.insert.new.self.numbers ≡ numbers ++ kept_length node ∷ [] =
    ap (λ (s : PlainPrefixSums). s.numbers) c.insert.ensures
    ∙ last_put numbers c.len.result c.length-length.result (kept_length node) c.len.ensures c.length-length.ensures.length in
    let all : numbers ++ kept_length node ∷ [] ≡ new =
    ap (λ (ns : List ℕ). ns ++ kept_length node ∷ []) c.self.invariant.lengths ∙ sym (map-append kept_length items (node ∷ []))
    ∙ ap (map kept_length) (sym c.push_reserved.ensures) in
    let none : own ≡ no_own_code = own_is inside c.args.self.now c.self.view_is c.self.invariant ∙ c.requires.own in
    let total = numbers_sum inside c.args.self.now c.self.view_is c.self.invariant in
    record {
      lengths = put ∙ all;
      ahead = c.self.invariant.ahead ∙ none_ahead own none old ∙ sym (none_ahead own none new);
      between = c.self.invariant.between ∙ none_between own none old ∙ sym (none_between own none new);
      back = c.self.invariant.back ∙ none_back own none old ∙ sym (none_back own none new);
      short = short_then own none numbers new (kept_length node) all (omega (arith, total, c.requires.short));
    }

pub returns-clause-own : goal.returns-clause-own
returns-clause-own g c = ap (λ (n : PlainCodeNode). n.own) c.self.view_is

pub returns-clause-inner : goal.returns-clause-inner
returns-clause-inner g c =
    ap code_forest c.push_reserved.ensures ∙ forest_join c.self.inside.inner.items (c.args.node ∷ [])
    ∙ ap (λ (n : PlainCodeNode). join_code n.inner (code_forest (c.args.node ∷ []))) c.self.view_is

pub returns-clause-short : goal.returns-clause-short
returns-clause-short g c =
    let inside = c.self.inside in
    let own = inside.own in
    let items = inside.inner.items in
    let numbers = inside.lengths.numbers in
    let made = c.push_reserved.new.self.items in
    let all : numbers ++ kept_length c.args.node ∷ [] ≡ map kept_length made =
    ap (λ (ns : List ℕ). ns ++ kept_length c.args.node ∷ []) c.self.invariant.lengths ∙ sym (map-append kept_length items (c.args.node ∷ []))
    ∙ ap (map kept_length) (sym c.push_reserved.ensures) in
    let none : own ≡ no_own_code = own_is inside c.args.self.now c.self.view_is c.self.invariant ∙ c.requires.own in
    let total = numbers_sum inside c.args.self.now c.self.view_is c.self.invariant in
    subst (λ (ns : List ℕ). count_around own ns ≤ most_instrs) (sym (kept_lengths_forest made))
    (short_then own none numbers (map kept_length made) (kept_length c.args.node) all (omega (arith, total, c.requires.short)))
