-- How prepared edits are told apart: they are a tree of labels, which gives them back.
use Rattle.std.specs.Prelude.{◌≡◌, ℕ, suc, ◌+◌, Bool, true, false, List, Option, Some, None, refl}
use Rattle.std.proofs.Common.{ap, sym, subst}
use Rattle.std.specs.Coded.{Coded, code_by, coded×, coded_ℕ, coded_bool, coded_option}
use base.Stored.{Gv, gnil, gcons}
use Rattle.plcs_grammar.specs.Private.PhraseCode.{head, tail, IsCons}
use Rattle.plcs_code.specs.OwnCode.{PlainOwnCode}
use Rattle.plcs_code.specs.PlainInstr.{PlainInstr}
use Rattle.plcs_code.specs.Private.InstrCode.{block_code}
use Rattle.plcs_code.specs.Private.OwnCodeCode.{own_code_code}
use Rattle.code_patch.specs.ItemNames.{NumberMap}
use Rattle.code_patch.specs.CodeEdit.{CodeEdit, PreparedJumps}
use Rattle.code_patch.specs.CodeForest.{CodeForest}
use Rattle.code_patch.specs.PreparedEdit.{PlainPrepared}
use Rattle.code_patch.specs.Private.CodeForestCode.{code_forest_code}
use Rattle.code_patch.specs.Private.ItemNames.{number_map_code}

-- ---- how large it is

-- how many steps a prepared edit has, those inside others too
abbrev pub code_edit_weight : CodeEdit → ℕ
code_edit_weight CodeEdit.done = 0
code_edit_weight (CodeEdit.mend number own jumps inner rest) = suc (code_edit_weight inner + code_edit_weight rest)
code_edit_weight (CodeEdit.put number node rest) = suc (code_edit_weight rest)
code_edit_weight (CodeEdit.add number node rest) = suc (code_edit_weight rest)
code_edit_weight (CodeEdit.drop number rest) = suc (code_edit_weight rest)

-- ---- steps

-- the jumps of a prepared edit are told apart by their blocks
abbrev pub prepared_jumps_code : Coded PreparedJumps
prepared_jumps_code =
    code_by (List PlainInstr × (List PlainInstr × List PlainInstr)) (coded× block_code (coded× block_code block_code))
    (λ j. (j.ahead, (j.between, j.back))) (λ t. record { ahead = t.0; between = t.1.0; back = t.1.1 }) (λ _. refl)

-- what a step of a prepared edit is told apart by: the number of its node, with the own code and the jumps that mend
-- it, or the node that comes in its place, or before it
abbrev pub StepLabel : Type 0
StepLabel = ℕ × (Option (Option PlainOwnCode × PreparedJumps) × Option (Bool × CodeForest))

-- the labels of steps as trees of numbers
abbrev pub step_label_code : Coded StepLabel
step_label_code =
    coded× coded_ℕ
    (coded× (coded_option (coded× (coded_option own_code_code) prepared_jumps_code))
    (coded_option (coded× coded_bool code_forest_code)))

-- the prepared edit that begins with the step of a label, with these steps inside it and behind it
abbrev pub labelled : StepLabel → (inner rest : CodeEdit) → CodeEdit
labelled (number, (Some (own, jumps), other)) inner rest = CodeEdit.mend number own jumps inner rest
labelled (number, (None, Some (true, node))) inner rest = CodeEdit.put number node rest
labelled (number, (None, Some (false, node))) inner rest = CodeEdit.add number node rest
labelled (number, (None, None)) inner rest = CodeEdit.drop number rest

-- ---- the tree of labels

-- the tree of a step, with those of the steps inside it and behind it
abbrev pub labels : StepLabel → (inner rest : Gv) → Gv
labels label inner rest = gcons (step_label_code.code label) (gcons inner rest)

-- a prepared edit as a tree of labels
abbrev pub code_edit_code_of : CodeEdit → Gv
code_edit_code_of CodeEdit.done = gnil
code_edit_code_of (CodeEdit.mend number own jumps inner rest) =
    labels (number, (Some (own, jumps), None)) (code_edit_code_of inner) (code_edit_code_of rest)
code_edit_code_of (CodeEdit.put number node rest) =
    labels (number, (None, Some (true, node))) gnil (code_edit_code_of rest)
code_edit_code_of (CodeEdit.add number node rest) =
    labels (number, (None, Some (false, node))) gnil (code_edit_code_of rest)
code_edit_code_of (CodeEdit.drop number rest) = labels (number, (None, None)) gnil (code_edit_code_of rest)

-- the same tree is of the same step, with the same inside it and behind it
same_labels : (one other : StepLabel) (a b c d : Gv) (e f g h : CodeEdit) → labels one a b ≡ labels other c d
    → (a ≡ c → e ≡ g)
    → (b ≡ d → f ≡ h) → labelled one e f ≡ labelled other g h
same_labels one other a b c d e f g h p inside behind =
    let label = step_label_code.inj one other (ap head p) in
    let inner = inside (ap (λ t. head (tail t)) p) in
    let rest = behind (ap (λ t. tail (tail t)) p) in
    (λ i. labelled (label i) (inner i) (rest i))

-- the tree of labels of a prepared edit gives it back
pub code_edit_code_of_inj : (x y : CodeEdit) → code_edit_code_of x ≡ code_edit_code_of y → x ≡ y
code_edit_code_of_inj CodeEdit.done CodeEdit.done p = refl
code_edit_code_of_inj CodeEdit.done (CodeEdit.mend n o j inner rest) p = absurd (subst IsCons (sym p) tt)
code_edit_code_of_inj CodeEdit.done (CodeEdit.put n node rest) p = absurd (subst IsCons (sym p) tt)
code_edit_code_of_inj CodeEdit.done (CodeEdit.add n node rest) p = absurd (subst IsCons (sym p) tt)
code_edit_code_of_inj CodeEdit.done (CodeEdit.drop n rest) p = absurd (subst IsCons (sym p) tt)
code_edit_code_of_inj (CodeEdit.mend n o j inner rest) CodeEdit.done p = absurd (subst IsCons p tt)
code_edit_code_of_inj (CodeEdit.put n node rest) CodeEdit.done p = absurd (subst IsCons p tt)
code_edit_code_of_inj (CodeEdit.add n node rest) CodeEdit.done p = absurd (subst IsCons p tt)
code_edit_code_of_inj (CodeEdit.drop n rest) CodeEdit.done p = absurd (subst IsCons p tt)
code_edit_code_of_inj (CodeEdit.mend n o j a b) (CodeEdit.mend m q k c d) p =
    same_labels (n, (Some (o, j), None)) (m, (Some (q, k), None)) _ _ _ _ a b c d p
    (code_edit_code_of_inj a c) (code_edit_code_of_inj b d)
code_edit_code_of_inj (CodeEdit.mend n o j a b) (CodeEdit.put m other d) p =
    same_labels (n, (Some (o, j), None)) (m, (None, Some (true, other))) _ _ _ _ a b a d p
    (λ _. refl) (code_edit_code_of_inj b d)
code_edit_code_of_inj (CodeEdit.mend n o j a b) (CodeEdit.add m other d) p =
    same_labels (n, (Some (o, j), None)) (m, (None, Some (false, other))) _ _ _ _ a b a d p
    (λ _. refl) (code_edit_code_of_inj b d)
code_edit_code_of_inj (CodeEdit.mend n o j a b) (CodeEdit.drop m d) p =
    same_labels (n, (Some (o, j), None)) (m, (None, None)) _ _ _ _ a b a d p (λ _. refl) (code_edit_code_of_inj b d)
code_edit_code_of_inj (CodeEdit.put n node b) (CodeEdit.mend m q k c d) p =
    same_labels (n, (None, Some (true, node))) (m, (Some (q, k), None)) _ _ _ _ c b c d p
    (λ _. refl) (code_edit_code_of_inj b d)
code_edit_code_of_inj (CodeEdit.put n node b) (CodeEdit.put m other d) p =
    same_labels (n, (None, Some (true, node))) (m, (None, Some (true, other))) _ _ _ _ b b b d p
    (λ _. refl) (code_edit_code_of_inj b d)
code_edit_code_of_inj (CodeEdit.put n node b) (CodeEdit.add m other d) p =
    same_labels (n, (None, Some (true, node))) (m, (None, Some (false, other))) _ _ _ _ b b b d p
    (λ _. refl) (code_edit_code_of_inj b d)
code_edit_code_of_inj (CodeEdit.put n node b) (CodeEdit.drop m d) p =
    same_labels (n, (None, Some (true, node))) (m, (None, None)) _ _ _ _ b b b d p
    (λ _. refl) (code_edit_code_of_inj b d)
code_edit_code_of_inj (CodeEdit.add n node b) (CodeEdit.mend m q k c d) p =
    same_labels (n, (None, Some (false, node))) (m, (Some (q, k), None)) _ _ _ _ c b c d p
    (λ _. refl) (code_edit_code_of_inj b d)
code_edit_code_of_inj (CodeEdit.add n node b) (CodeEdit.put m other d) p =
    same_labels (n, (None, Some (false, node))) (m, (None, Some (true, other))) _ _ _ _ b b b d p
    (λ _. refl) (code_edit_code_of_inj b d)
code_edit_code_of_inj (CodeEdit.add n node b) (CodeEdit.add m other d) p =
    same_labels (n, (None, Some (false, node))) (m, (None, Some (false, other))) _ _ _ _ b b b d p
    (λ _. refl) (code_edit_code_of_inj b d)
code_edit_code_of_inj (CodeEdit.add n node b) (CodeEdit.drop m d) p =
    same_labels (n, (None, Some (false, node))) (m, (None, None)) _ _ _ _ b b b d p
    (λ _. refl) (code_edit_code_of_inj b d)
code_edit_code_of_inj (CodeEdit.drop n b) (CodeEdit.mend m q k c d) p =
    same_labels (n, (None, None)) (m, (Some (q, k), None)) _ _ _ _ c b c d p (λ _. refl) (code_edit_code_of_inj b d)
code_edit_code_of_inj (CodeEdit.drop n b) (CodeEdit.put m other d) p =
    same_labels (n, (None, None)) (m, (None, Some (true, other))) _ _ _ _ b b b d p
    (λ _. refl) (code_edit_code_of_inj b d)
code_edit_code_of_inj (CodeEdit.drop n b) (CodeEdit.add m other d) p =
    same_labels (n, (None, None)) (m, (None, Some (false, other))) _ _ _ _ b b b d p
    (λ _. refl) (code_edit_code_of_inj b d)
code_edit_code_of_inj (CodeEdit.drop n b) (CodeEdit.drop m d) p =
    same_labels (n, (None, None)) (m, (None, None)) _ _ _ _ b b b d p (λ _. refl) (code_edit_code_of_inj b d)

-- a prepared edit in one list is told apart by its tree of labels
abbrev pub code_edit_code : Coded CodeEdit
code_edit_code = record { code = code_edit_code_of; inj = code_edit_code_of_inj }

-- a prepared edit is told apart by its steps and its names
abbrev pub prepared_code : Coded PlainPrepared
prepared_code =
    code_by (CodeEdit × Option NumberMap) (coded× code_edit_code (coded_option number_map_code))
    (λ p. (p.steps, p.names)) (λ t. record { steps = t.0; names = t.1 }) (λ _. refl)
