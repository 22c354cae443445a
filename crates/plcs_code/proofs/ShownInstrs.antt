-- Texts of instructions that are known in another way.
use Rattle.std.proofs.Common.{ℕ, ◌≡◌, List, [], ◌∷◌, ◌++◌, drop, get_or, length, refl, sym, ap, ◌∙◌, arith}
use Rattle.std.proofs.Math.ListN.{drop_of_length-le}
use Rattle.std.proofs.lemmas.List.{append-nil, drop_at}
use Rattle.plcs_base.specs.Put.{PutsAll}
use Rattle.plcs_base.specs.Putting.{puts_same}
use Rattle.plcs_code.specs.declared.instr.Instr.{Instr}
use Rattle.plcs_code.specs.InstrText.{instr_text, instr_words, spaced}
use Rattle.plcs_code.specs.PlainInstr.{PlainInstr, plain_instr}

-- what is behind the word in the text of an instruction
abbrev pub operands : PlainInstr → List ℕ
operands instr = drop (length (get_or (instr_words instr) 0 [])) (instr_text instr)

-- the operands of an equal instruction of the code
pub shown_operands : {Out : Type 0} {puts : Out → ℕ → Out → Type 0} {before after : Out} (i j : Instr) → i ≡ j
    → PutsAll puts before (operands (plain_instr j)) after → PutsAll puts before (operands (plain_instr i)) after
shown_operands i j is done = puts_same (sym (ap (λ i. operands (plain_instr i)) is)) done

-- words are the first of them, and what is behind it
pub whole_text : (words : List (List ℕ)) → get_or words 0 [] ++ drop (length (get_or words 0 [])) (spaced words) ≡ spaced words
whole_text [] = refl
whole_text (word ∷ []) = ap (λ behind. word ++ behind) (drop_of_length-le word (omega arith)) ∙ append-nil word
whole_text (word ∷ (next ∷ words)) = ap (λ behind. word ++ behind) (drop_at word (32 ∷ spaced (next ∷ words)) (length word) refl)
