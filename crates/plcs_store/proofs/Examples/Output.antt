-- Values written.
use Rattle.std.specs.Prelude.{refl, [], ◌∷◌, ◌++◌, true, false, codes}
use Rattle.std.specs.Fmt.{digits}
use Rattle.plcs_store.specs.OutputItem.{output_with}
use Rattle.plcs_store.proofs.Examples.Row.{Rows, bit, neg, num, text}

written : Rows
    ((output_with false ([]) (num 7 ∷ []), codes "7")
    ∷ (output_with false ([]) (neg 2147483648 ∷ []), codes "-2147483648")
    ∷ (output_with false ([]) (num 0 ∷ []), codes "0")
    ∷ (output_with false ([]) (bit true ∷ []), codes "'1'B")
    ∷ (output_with false ([]) (bit false ∷ []), codes "'0'B")
    ∷ (output_with false ([]) (text (codes "a b") ∷ []), codes "a b")
    ∷ (output_with false ([]) (num 1 ∷ num 2 ∷ []), codes "1 2")
    ∷ (output_with false (codes "7") (num 8 ∷ []), codes "7 8")
    ∷ (output_with false (codes "7") (text [] ∷ []), codes "7 ")
    ∷ (output_with false ([]) (text [] ∷ num 1 ∷ []), codes "1")
    ∷ (output_with false (codes "7" ++ (10 ∷ [])) (num 8 ∷ []), codes "7" ++ (10 ∷ codes "8"))
    ∷ (output_with true ([]) (num 8 ∷ []), codes "8")
    ∷ (output_with true (codes "7") (num 8 ∷ []), codes "7" ++ (10 ∷ codes "8"))
    ∷ (output_with true (codes "7") (num 8 ∷ num 9 ∷ []), codes "7" ++ (10 ∷ codes "8 9"))
    ∷ (output_with true (codes "7" ++ (10 ∷ [])) (num 8 ∷ []), codes "7" ++ (10 ∷ (10 ∷ codes "8")))
    ∷ (output_with true (codes "7") (text [] ∷ []), codes "7" ++ (10 ∷ []))
    ∷ (output_with true (codes " ") (num 8 ∷ []), codes " " ++ (10 ∷ codes "8")) ∷ [])
unfolding digits
written = refl
