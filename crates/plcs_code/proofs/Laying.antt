-- Several instructions laid in turn. All that lays code does so one instruction after the other, whatever it lays them
-- into: so what is laid is joined by one lemma, and what that makes of a draft or of a tally is found by one induction
-- each.
use Rattle.std.proofs.Common.{ℕ, ◌+◌, ◌≤◌, false, List, [], ◌∷◌, ◌++◌, length, ◌≡◌, refl, subst, ap, sym, ◌∙◌, arith, append_assoc}
use Rattle.std.specs.Prelude.{Err, IfOk, Ok, OnOk, Result}
use Rattle.std.proofs.lemmas.List.{append-nil}
use Rattle.plcs_base.specs.Count.{raised_by}
use Rattle.plcs_base.specs.PlainCounts.{PlainCounts}
use Rattle.plcs_code.specs.Counts.{Emits, EmitsAtMost}
use Rattle.plcs_code.specs.PlainInstr.{PlainInstr}
use Rattle.plcs_code.specs.Private.LaysAll.{LaysAll, lays_nothing, lays_next}
use Rattle.plcs_code.specs.Private.PlainDraft.{DraftsOne, PlainDraft, PlainTally, TalliesOne}

-- laying some instructions and then some more lays the ones followed by the others
pub lays_append : {Out : Type 0} {lays : Out → PlainCounts → PlainInstr → Out → PlainCounts → Type 0} {a b c : Out} {u v w : PlainCounts} {first second : List PlainInstr}
    → LaysAll lays a u first b v → LaysAll lays b v second c w → LaysAll lays a u (first ++ second) c w
lays_append lays_nothing more = more
lays_append (lays_next one rest) more = lays_next one (lays_append rest more)

-- laying an instruction lays the list of that instruction
pub lays_one : {Out : Type 0} {lays : Out → PlainCounts → PlainInstr → Out → PlainCounts → Type 0} {a b : Out} {u v : PlainCounts} {instr : PlainInstr}
    → lays a u instr b v → LaysAll lays a u (instr ∷ []) b v
lays_one one = lays_next one lays_nothing

-- laying instructions lays each list that is equal to them
pub lays_same : {Out : Type 0} {lays : Out → PlainCounts → PlainInstr → Out → PlainCounts → Type 0} {a b : Out} {u v : PlainCounts} {code same : List PlainInstr}
    → code ≡ same → LaysAll lays a u code b v → LaysAll lays a u same b v
lays_same {lays = lays} {a = a} {b = b} {u = u} {v = v} e done = subst (λ (code : List PlainInstr). LaysAll lays a u code b v) e done

-- laying instructions and then one more
pub lays_behind : {Out : Type 0} {lays : Out → PlainCounts → PlainInstr → Out → PlainCounts → Type 0} {a b c : Out} {u v w : PlainCounts} {code : List PlainInstr} {instr : PlainInstr}
    → LaysAll lays a u code b v → lays b v instr c w → LaysAll lays a u (code ++ (instr ∷ [])) c w
lays_behind done one = lays_append done (lays_one one)

-- what is laid into a draft, unless memory runs out, and how it is counted
pub record Drafted (before : PlainDraft) (u : PlainCounts) (code : List PlainInstr) (after : PlainDraft) (v : PlainCounts) : Type 0 where
  pub failed : after.failed ≡ false → before.failed ≡ false
  pub instrs : after.failed ≡ false → after.instrs ≡ before.instrs ++ code
  pub counted : after.failed ≡ false → Emits (length code) u v
  pub counts : EmitsAtMost (length code) u v

-- what holds in any case holds where a call succeeds
pub ok_always : {T E P : Type 0} (result : Result T E) → P → OnOk result P
ok_always (Ok value) fact = fact
ok_always (Err error) fact = tt

-- what follows from a fact holds where that fact does, if a call succeeds
pub ok_then : {T E P Q : Type 0} (result : Result T E) → (P → Q) → OnOk result P → OnOk result Q
ok_then (Ok value) follows fact = follows fact
ok_then (Err error) follows fact = tt

-- what follows from a fact on what a call gives holds where that fact does, if the call succeeds
pub if_ok_then : {T E : Type 0} {P Q : T → Type 0} (result : Result T E) → IfOk result P → ((value : T) → P value → Q value) → IfOk result Q
if_ok_then (Ok value) fact follows = follows value fact
if_ok_then (Err error) fact follows = tt

-- a count that is raised by nothing stays
raised_none : (count : ℕ) → raised_by 0 count ≡ count
raised_none count = omega arith

-- a count that is raised twice is raised by both together
raised_both : (m n count : ℕ) → raised_by n (raised_by m count) ≡ raised_by (m + n) count
raised_both m n count = omega arith

-- a count that is raised is at most so much more, and no less
raised_most : (n count : ℕ) → raised_by n count ≤ count + n
raised_most n count = omega arith

raised_later : (n count : ℕ) → count ≤ raised_by n count
raised_later n count = omega arith

-- nothing is counted where nothing is done
pub emits_nothing : (u : PlainCounts) → Emits 0 u u
emits_nothing u = λ i. record u { emitted = sym (raised_none u.emitted) i }

-- what is emitted adds up
pub emits_both : (m n k : ℕ) (u v w : PlainCounts) → m + n ≡ k → Emits m u v → Emits n v w → Emits k u w
emits_both m n k u v w is one other =
    other
    ∙ ap (λ (x : PlainCounts). let y : PlainCounts = record x { emitted = raised_by n x.emitted } in y) one
    ∙ ap (λ (count : ℕ). let y : PlainCounts = record u { emitted = count } in y)
    (raised_both m n u.emitted ∙ ap (λ (number : ℕ). raised_by number u.emitted) is)

-- what is emitted is at most so much
pub emits_most : (m n : ℕ) (u v : PlainCounts) → m ≤ n → Emits m u v → EmitsAtMost n u v
emits_most m n u v less one =
    let P : PlainCounts → Type 0 = λ counts. EmitsAtMost n u counts in
    subst P (sym one) (record {
      most = omega (arith, less, raised_most m u.emitted);
      later = raised_later m u.emitted;
      others = refl;
    })

-- at most so much is counted where nothing is done
pub emits_none : (n : ℕ) (u : PlainCounts) → EmitsAtMost n u u
emits_none n u = record { most = omega arith; later = omega arith; others = refl }

-- bounds on what is emitted add up
pub emits_then : (m n k : ℕ) (u v w : PlainCounts) → m + n ≤ k → EmitsAtMost m u v → EmitsAtMost n v w → EmitsAtMost k u w
emits_then m n k u v w less one other =
    let e = one.most in
    let f = other.most in
    let g = one.later in
    let h = other.later in
    record {
      most = omega arith;
      later = omega arith;
      others = other.others ∙ ap (λ (x : PlainCounts). let y : PlainCounts = record x { emitted = w.emitted } in y) one.others;
    }

-- where so many are emitted, and then at most some more
pub emits_break : (m n k : ℕ) (u v w : PlainCounts) → m + n ≤ k → Emits m u v → EmitsAtMost n v w → EmitsAtMost k u w
emits_break m n k u v w less one other = emits_then m n k u v w less (emits_most m m u v (omega arith) one) other

-- instructions laid into a draft stand behind the others
pub drafted : {a b : PlainDraft} {u v : PlainCounts} {code : List PlainInstr} → LaysAll DraftsOne a u code b v → Drafted a u code b v
drafted {a = a} {u = u} lays_nothing = record {
  failed = λ h. h;
  instrs = λ h. sym (append-nil a.instrs);
  counted = λ h. emits_nothing u;
  counts = emits_none 0 u;
}
drafted {a = a} {b = c} {u = u} {v = w} (lays_next {between = b} {second = v} {instr = instr} {code = code} one rest) =
    let more = drafted rest in
    record {
      failed = λ h. one.failed (more.failed h);
      instrs = λ h. more.instrs h ∙ ap (λ xs. xs ++ code) (one.instrs (more.failed h)) ∙ append_assoc a.instrs (instr ∷ []) code;
      counted = λ h. emits_both 1 (length code) (length (instr ∷ code)) u v w (omega arith) (one.counted (more.failed h)) (more.counted h);
      counts = emits_then 1 (length code) (length (instr ∷ code)) u v w (omega arith) one.counts more.counts;
    }

-- what was laid into a draft of no instructions is its code, if memory didn't run out
pub whole_code : {E : Type 0} {a b : PlainDraft} {u v : PlainCounts} {code : List PlainInstr} (result : Result (List PlainInstr) E) → Drafted a u code b v
    → a.instrs ≡ [] → OnOk result (b.failed ≡ false) → IfOk result (λ block. block ≡ b.instrs) → IfOk result (λ block. block ≡ code)
whole_code {code = code} (Ok block) done none whole instrs = instrs ∙ done.instrs whole ∙ ap (λ xs. xs ++ code) none
whole_code (Err error) done none whole instrs = tt

-- what a tally tells of instructions, unless there are too many; they are no work
pub record Tallied (before : PlainTally) (u : PlainCounts) (code : List PlainInstr) (after : PlainTally) (v : PlainCounts) : Type 0 where
  pub failed : after.failed ≡ false → before.failed ≡ false
  pub count : after.failed ≡ false → after.count ≡ before.count + length code
  pub counts : v ≡ u

-- instructions laid into a tally are counted ahead
pub tallied : {a b : PlainTally} {u v : PlainCounts} {code : List PlainInstr} → LaysAll TalliesOne a u code b v → Tallied a u code b v
tallied {a = a} lays_nothing = record { failed = λ h. h; count = λ h. omega arith; counts = refl }
tallied {a = a} {b = c} (lays_next {between = b} {code = code} one rest) =
    let more = tallied rest in
    record {
      failed = λ h. one.failed (more.failed h);
      count = λ h. let e = more.count h in let f = one.count (more.failed h) in omega arith;
      counts = more.counts ∙ one.counts;
    }

-- what was laid into a tally of no instructions was counted, if there weren't too many
pub whole_count : {a b : PlainTally} {u v : PlainCounts} {code : List PlainInstr} (n number : ℕ) → Tallied a u code b v → a.count ≡ 0
    → length code ≡ number → b.failed ≡ false → n ≡ b.count → n ≡ number
whole_count n number done none is whole count = omega (arith, done.count whole, none, is, count)
