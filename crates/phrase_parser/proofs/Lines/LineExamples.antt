-- Lines with several parts are told by their bytes: each is equal to another only where its parts are.
use Rattle.std.proofs.Common.{◌≡◌, ℕ, List, ◌++◌, drop, ap}
use Rattle.std.specs.Prelude.{codes}
use Rattle.std.proofs.lemmas.List.{append_cancel_right}
use Rattle.plcs_grammar.specs.declared.category.Category.TheVariants.{Variable, Expression, DeclaredList, ProcedureName}
use Rattle.phrase_parser.specs.LineParts.{Divides, IsPartOfLine}
use Rattle.phrase_parser.proofs.Lines.LineParts.{parts_tell}

-- `DO {variable} = {expression} TO {expression} BY {expression};`
loop_line : List ℕ → List ℕ → List ℕ → List ℕ → List ℕ
loop_line variable value limit step =
    codes "DO " ++ (variable ++ (codes " = " ++ (value ++ (codes " TO " ++ (limit ++ (codes " BY " ++ (step ++ codes ";")))))))

loop_lines_tell : (v a b d w e f g : List ℕ) → IsPartOfLine Variable v → IsPartOfLine Expression a → IsPartOfLine Expression b → IsPartOfLine Variable w
    → IsPartOfLine Expression e → IsPartOfLine Expression f → loop_line v a b d ≡ loop_line w e f g → (v ≡ w) × (a ≡ e) × (b ≡ f) × (d ≡ g)
unfolding loop_line
loop_lines_tell v a b d w e f g pv pa pb pw pe pf same =
    let first = parts_tell Variable (codes " = ") v _ w _ Divides.first_value pv pw (ap (drop 3) same) in
    let second = parts_tell Expression (codes " TO ") a _ e _ Divides.limit pa pe first.1 in
    let third = parts_tell Expression (codes " BY ") b _ f _ Divides.step pb pf second.1 in
    (first.0, second.0, third.0, append_cancel_right d g (codes ";") third.1)

-- `DECLARE ( {names} ) CHARACTER ( {length} ) VARYING;`
character_line : List ℕ → List ℕ → List ℕ
character_line names size = codes "DECLARE ( " ++ (names ++ (codes " ) CHARACTER ( " ++ (size ++ codes " ) VARYING;")))

character_lines_tell : (x m y n : List ℕ) → IsPartOfLine DeclaredList x → IsPartOfLine DeclaredList y → character_line x m ≡ character_line y n
    → (x ≡ y) × (m ≡ n)
unfolding character_line
character_lines_tell x m y n px py same =
    let first = parts_tell DeclaredList (codes " ) CHARACTER ( ") x _ y _ Divides.character px py (ap (drop 10) same) in
    (first.0, append_cancel_right m n (codes " ) VARYING;") first.1)

-- `{name}: PROCEDURE ( {parameters} );`
heading_line : List ℕ → List ℕ → List ℕ
heading_line name parameters = name ++ (codes ": PROCEDURE ( " ++ (parameters ++ codes " );"))

heading_lines_tell : (x m y n : List ℕ) → IsPartOfLine ProcedureName x → IsPartOfLine ProcedureName y → heading_line x m ≡ heading_line y n
    → (x ≡ y) × (m ≡ n)
unfolding heading_line
heading_lines_tell x m y n px py same =
    let first = parts_tell ProcedureName (codes ": PROCEDURE ( ") x _ y _ Divides.parameters px py same in
    (first.0, append_cancel_right m n (codes " );") first.1)
