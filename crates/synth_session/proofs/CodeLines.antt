-- `rows` of fill: rows of code, filled one after the other, are the front of the lines of code; and `text` of fill_row.
use Rattle.std.proofs.Common.{◌≡◌, ◌<◌, ◌≤◌, ℕ, zero, suc, ◌+◌, ◌-◌, List, [], ◌∷◌, ◌++◌, drop, length, map, min, set, take, Option, Some, option_map, refl, sym, ap, ◌∙◌, arith}
use Rattle.std.specs.Prelude.{decimal, flat_map, slice_get}
use Rattle.std.proofs.lemmas.List.{append-nil, length-drop, length-map, length-take, map-set, take_all, take_min, take_more, take_more_set}
use Rattle.std.proofs.lemmas.Grind.{flat_map-append}
use Rattle.std.proofs.lemmas.Option.{get_or_from_slice_get, slice_get-map, slice_get_within}
use Rattle.screen_window.specs.declared.limit.TheConstants.{MOST_COLS}
use Rattle.plcs_base.specs.Count.{raised, raised_by}
use Rattle.plcs_base.specs.PlainCounts.{FetchesOne, PlainCounts}
use Rattle.plcs_code.specs.InstrText.{instr_text}
use Rattle.plcs_code.specs.PlainInstr.{PlainInstr}
use Rattle.plcs_machine.specs.Fetched.{FetchesBy}
use Rattle.synth_session.specs.ProgramCode.{code_lines}

-- ---- what stands in lists

got_dropped : {A : Type 0} (start k : ℕ) (xs : List A) → slice_get (drop start xs) k ≡ slice_get xs (start + k)
got_dropped zero k xs =
    let sum : k ≡ zero + k = omega arith in
    ap (slice_get xs) sum
got_dropped (suc n) k [] = refl
got_dropped (suc n) k (x ∷ xs) =
    let sum : suc (n + k) ≡ suc n + k = omega arith in
    got_dropped n k xs ∙ ap (slice_get (x ∷ xs)) sum

got_taken : {A : Type 0} (count k : ℕ) (xs : List A) → k < count → slice_get (take count xs) k ≡ slice_get xs k
got_taken zero k xs within = absurd (omega (arith, within))
got_taken (suc n) k [] within = refl
got_taken (suc n) zero (x ∷ xs) within = refl
got_taken (suc n) (suc k) (x ∷ xs) within = got_taken n k xs (omega (arith, within))

taken_next : {A : Type 0} (k : ℕ) (xs : List A) (x : A) → slice_get xs k ≡ Some x → take (k + 1) xs ≡ take k xs ++ x ∷ []
taken_next {A} k xs x there =
    take_more xs k x (slice_get_within xs k x there) ∙ ap (λ (y : A). take k xs ++ y ∷ []) (get_or_from_slice_get xs k x x there)

-- ---- lines of code

lines_long : (number : ℕ) (instrs : List PlainInstr) → length (code_lines number instrs) ≡ length instrs
lines_long number [] = refl
lines_long number (instr ∷ instrs) = ap suc (lines_long (number + 1) instrs)

line_there : (number k : ℕ) (instrs : List PlainInstr) (instr : PlainInstr) → slice_get instrs k ≡ Some instr
    → slice_get (code_lines number instrs) k ≡ Some (decimal (number + k) ++ (32 ∷ instr_text instr))
line_there number k [] instr there = absurd (cc)
line_there number zero (one ∷ instrs) instr there =
    let sum : number ≡ number + zero = omega arith in
    ap (option_map (λ (i : PlainInstr). decimal number ++ (32 ∷ instr_text i))) there
    ∙ ap (λ (n : ℕ). let line : Option (List ℕ) = Some (decimal n ++ (32 ∷ instr_text instr)) in line) sum
line_there number (suc k) (one ∷ instrs) instr there =
    let sum : number + 1 + k ≡ number + suc k = omega arith in
    line_there (number + 1) k instrs instr there
    ∙ ap (λ (n : ℕ). let line : Option (List ℕ) = Some (decimal n ++ (32 ∷ instr_text instr)) in line) sum

module _ (instrs : List PlainInstr) (start count from : ℕ) where
  -- the line of an instruction of a node
  pub line_shown : (filled number : ℕ) (instr : PlainInstr) → number ≡ from + filled → number < count
      → Some instr ≡ slice_get instrs (start + number)
      → slice_get (map (take MOST_COLS) (drop from (code_lines 0 (take count (drop start instrs))))) filled
      ≡ Some (take MOST_COLS (decimal number ++ (32 ∷ instr_text instr)))
  line_shown filled number instr is within there =
      let node = take count (drop start instrs) in
      let found : slice_get node number ≡ Some instr =
      got_taken count number (drop start instrs) within ∙ got_dropped start number instrs ∙ sym there in
      let sum : 0 + number ≡ number = omega arith in
      slice_get-map (take MOST_COLS) (drop from (code_lines 0 node)) filled
      ∙ ap (option_map (take MOST_COLS))
      (got_dropped from filled (code_lines 0 node)
      ∙ ap (slice_get (code_lines 0 node)) (sym is)
      ∙ line_there 0 number node instr found
      ∙ ap (λ (n : ℕ). let line : Option (List ℕ) = Some (decimal n ++ (32 ∷ instr_text instr)) in line) sum)

  -- how many lines of a node there are from a number on
  lines_count : length (take count (drop start instrs)) ≡ count
      → length (map (take MOST_COLS) (drop from (code_lines 0 (take count (drop start instrs))))) ≡ count - from
  lines_count whole =
      let node = take count (drop start instrs) in
      let mapped = length-map (drop from (code_lines 0 node)) (take MOST_COLS) in
      let dropped = length-drop from (code_lines 0 node) in
      let lines = lines_long 0 node in
      omega (arith, mapped, dropped, lines, whole)

  -- as many rows are filled as there are and as there are lines
  pub all_filled : (rows filled : ℕ) → length (take count (drop start instrs)) ≡ count → filled ≡ min rows (count - from)
      → take filled (map (take MOST_COLS) (drop from (code_lines 0 (take count (drop start instrs)))))
      ≡ take rows (map (take MOST_COLS) (drop from (code_lines 0 (take count (drop start instrs)))))
  all_filled rows filled whole is =
      let lines = map (take MOST_COLS) (drop from (code_lines 0 (take count (drop start instrs)))) in
      let many : length lines ≡ count - from = lines_count whole in
      ap (λ (n : ℕ). take n lines) (is ∙ ap (min rows) (sym many)) ∙ take_min rows lines

  -- the instructions of a node stand in the code
  pub inside : length (take count (drop start instrs)) ≡ count → 1 ≤ count → start + count ≤ length instrs
  inside whole some =
      let taken = length-take count (drop start instrs) in
      let behind = length-drop start instrs in
      omega (arith, taken, behind, whole, some)

-- ---- the whole code as text

-- one line more of it
pub text_more : (instrs : List PlainInstr) (k : ℕ) (instr : PlainInstr) → Some instr ≡ slice_get instrs k
    → flat_map (λ (line : List ℕ). line ++ 10 ∷ []) (take (k + 1) (code_lines 0 instrs))
    ≡ flat_map (λ (line : List ℕ). line ++ 10 ∷ []) (take k (code_lines 0 instrs)) ++ ((decimal k ++ (32 ∷ instr_text instr)) ++ 10 ∷ [])
text_more instrs k instr there =
    let ended : List ℕ → List ℕ = λ line. line ++ 10 ∷ [] in
    let line = decimal k ++ (32 ∷ instr_text instr) in
    let sum : 0 + k ≡ k = omega arith in
    ap (flat_map ended)
    (taken_next k (code_lines 0 instrs) line
    (line_there 0 k instrs instr (sym there)
    ∙ ap (λ (n : ℕ). let line : Option (List ℕ) = Some (decimal n ++ (32 ∷ instr_text instr)) in line) sum))
    ∙ flat_map-append ended (take k (code_lines 0 instrs)) (line ∷ [])
    ∙ ap (λ (last : List ℕ). flat_map ended (take k (code_lines 0 instrs)) ++ last) (append-nil (line ++ 10 ∷ []))

-- all lines of it
pub text_whole : (instrs : List PlainInstr) (k : ℕ) → length instrs ≤ k
    → flat_map (λ (line : List ℕ). line ++ 10 ∷ []) (take k (code_lines 0 instrs))
    ≡ flat_map (λ (line : List ℕ). line ++ 10 ∷ []) (code_lines 0 instrs)
text_whole instrs k all =
    let long = lines_long 0 instrs in
    ap (flat_map (λ (line : List ℕ). line ++ 10 ∷ [])) (take_all k (code_lines 0 instrs) (omega (arith, long, all)))

-- ---- rows

-- a row more is filled
pub row_more : {A : Type 0} (text : A → List ℕ) (rows : List A) (row : A) (k : ℕ) (lines : List (List ℕ)) (line : List ℕ)
    → k < length rows → take k (map text rows) ≡ take k lines → slice_get lines k ≡ Some line → text row ≡ line
    → take (k + 1) (map text (set rows k row)) ≡ take (k + 1) lines
row_more text rows row k lines line within so_far there is =
    let many = length-map rows text in
    ap (take (k + 1)) (map-set text rows k row)
    ∙ take_more_set (map text rows) k (text row) (omega (arith, many, within))
    ∙ ap (λ (front : List (List ℕ)). front ++ text row ∷ []) so_far
    ∙ ap (λ (last : List ℕ). take k lines ++ last ∷ []) is
    ∙ sym (taken_next k lines line there)

-- ---- counts

-- nothing is fetched yet
pub nothing_fetched : (u : PlainCounts) → FetchesBy 0 u u
nothing_fetched u =
    let same : u.fetched ≡ raised_by 0 u.fetched = omega arith in
    ap (λ (n : ℕ). let v : PlainCounts = record u { fetched = n } in v) same

-- one instruction more is fetched
pub one_fetched : (k : ℕ) (u v w : PlainCounts) → FetchesBy k u v → FetchesOne v w → FetchesBy (k + 1) u w
one_fetched k u v w so_far one =
    let both : raised (raised_by k u.fetched) ≡ raised_by (k + 1) u.fetched = omega arith in
    one
    ∙ ap (λ (x : PlainCounts). let y : PlainCounts = record x { fetched = raised x.fetched } in y) so_far
    ∙ ap (λ (n : ℕ). let y : PlainCounts = record u { fetched = n } in y) both
