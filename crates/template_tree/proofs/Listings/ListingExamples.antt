-- Listings, lines and stops of small programs, written by hand from the table of templates.
use Rattle.std.specs.Prelude.{◌≡◌, refl, ℕ, Bool, true, false, List, [], ◌∷◌, ◌++◌, map, codes, Option, Some, None}
use Rattle.plcs_grammar.specs.declared.node_kind.NodeKind.{NodeKind}
use Rattle.plcs_grammar.specs.declared.template.Template.{Template}
use Rattle.plcs_grammar.specs.PlainPhrase.{PlainExpr, PlainVarRef, PlainPhrase}
use Rattle.template_tree.specs.Programs.PlainTree.{Forest}
use Rattle.template_tree.specs.Listings.Line.{line_bytes, listing_lines, Lines}
use Rattle.template_tree.specs.Listings.Listing.{Listing}
use Rattle.template_tree.specs.Positions.Stop.{VisibleStop, Stops}

-- a node, elided or not, before others
abbrev item : Bool → NodeKind → List (Option PlainPhrase) → Forest → Forest → Forest
item elided kind parts inner rest =
    Forest.cons record { slot = 0; kind = kind; parts = parts; elided = elided; spare = 0 } inner rest

abbrev filled : Template → List (Option PlainPhrase) → Forest → Forest → Forest
filled template = item false (NodeKind.Filled template)

abbrev declaration_hole : Forest → Forest
declaration_hole = item false NodeKind.DeclarationHole [] Forest.nil

abbrev statement_hole : Forest → Forest
statement_hole = item false NodeKind.StatementHole [] Forest.nil

abbrev procedure_hole : Forest
procedure_hole = item false NodeKind.ProcedureHole [] Forest.nil Forest.nil

abbrev main : Forest → Forest → Forest
main = item false NodeKind.Main []

-- one hole, as it stands in a new list or body
abbrev hole : Forest
hole = statement_hole Forest.nil

abbrev holes : Forest
holes = declaration_hole hole

abbrev variable : List ℕ → PlainExpr
variable name = PlainExpr.variable (PlainVarRef.simple name)

abbrev condition : List ℕ → Option PlainPhrase
condition name = Some (PlainPhrase.condition (variable name))

-- `x = y;`
abbrev assignment : Forest → Forest
assignment =
    item false NodeKind.Assign (Some (PlainPhrase.assignment (PlainVarRef.simple (codes "x")) (variable (codes "y"))) ∷ []) Forest.nil

-- each template with a placeholder in each part
abbrev every_template : Forest
every_template =
    main
    (filled Template.Fixed (None ∷ []) Forest.nil
    (filled Template.Bit (None ∷ []) Forest.nil
    (filled Template.Char (None ∷ None ∷ []) Forest.nil
    (declaration_hole
    (assignment
    (filled Template.If (None ∷ []) hole
    (filled Template.IfElse (None ∷ []) (statement_hole hole)
    (filled Template.While (None ∷ []) hole
    (filled Template.For (None ∷ None ∷ None ∷ None ∷ []) hole
    (filled Template.Until (None ∷ []) hole
    (filled Template.Group [] hole
    (filled Template.Get (None ∷ []) Forest.nil
    (filled Template.Put (None ∷ []) Forest.nil
    (filled Template.PutSkip (None ∷ []) Forest.nil
    (filled Template.Call (None ∷ []) Forest.nil
    (filled Template.Return [] Forest.nil
    (filled Template.Comment (None ∷ []) hole hole)))))))))))))))))
    (filled Template.Proc (None ∷ []) holes (filled Template.ProcP (None ∷ None ∷ []) holes procedure_hole))

every_template_lines :
    map line_bytes (listing_lines every_template)
    ≡ codes "main: PROCEDURE OPTIONS ( MAIN );"
    ∷ codes "  DECLARE ( {names} ) FIXED;"
    ∷ codes "  DECLARE ( {names} ) BIT;"
    ∷ codes "  DECLARE ( {names} ) CHARACTER ( {length} ) VARYING;"
    ∷ codes "  {declaration}"
    ∷ codes "  x = y;"
    ∷ codes "  IF ( {condition} ) THEN"
    ∷ codes "    {statement}"
    ∷ codes "  IF ( {condition} ) THEN"
    ∷ codes "    {statement}"
    ∷ codes "  ELSE"
    ∷ codes "    {statement}"
    ∷ codes "  DO WHILE ( {condition} );"
    ∷ codes "    {statement}"
    ∷ codes "  END;"
    ∷ codes "  DO {variable} = {expression} TO {expression} BY {expression};"
    ∷ codes "    {statement}"
    ∷ codes "  END;"
    ∷ codes "  DO UNTIL ( {condition} );"
    ∷ codes "    {statement}"
    ∷ codes "  END;"
    ∷ codes "  DO;"
    ∷ codes "    {statement}"
    ∷ codes "  END;"
    ∷ codes "  GET LIST ( {variables} );"
    ∷ codes "  PUT LIST ( {expressions} );"
    ∷ codes "  PUT SKIP LIST ( {expressions} );"
    ∷ codes "  CALL {call};"
    ∷ codes "  RETURN;"
    ∷ codes "  /* {comment} */"
    ∷ codes "    {statement}"
    ∷ codes "  {statement}"
    ∷ codes "END;"
    ∷ codes "{name}: PROCEDURE;"
    ∷ codes "  {declaration}"
    ∷ codes "  {statement}"
    ∷ codes "END;"
    ∷ codes "{name}: PROCEDURE ( {parameters} );"
    ∷ codes "  {declaration}"
    ∷ codes "  {statement}"
    ∷ codes "END;"
    ∷ codes "{procedure}"
    ∷ []
every_template_lines = refl

-- the bytes of the new program
new_program_listing :
    Listing (main holes procedure_hole)
    ≡ codes "main: PROCEDURE OPTIONS ( MAIN );" ++ (10 ∷ codes "  {declaration}")
    ++ (10 ∷ codes "  {statement}") ++ (10 ∷ codes "END;") ++ (10 ∷ codes "{procedure}") ++ (10 ∷ [])
new_program_listing = refl

-- an IF in an IFELSE, and an IFELSE in an IF
abbrev two_ways : Forest
two_ways =
    main
    (declaration_hole
    (filled Template.IfElse (condition (codes "a") ∷ [])
    (filled Template.If (condition (codes "b") ∷ []) (assignment Forest.nil) (filled Template.Return [] Forest.nil Forest.nil))
    (filled Template.If (condition (codes "a") ∷ [])
    (filled Template.IfElse (condition (codes "b") ∷ []) (filled Template.Return [] Forest.nil (assignment Forest.nil)) Forest.nil)
    Forest.nil)))
    procedure_hole

two_ways_lines :
    map line_bytes (listing_lines two_ways)
    ≡ codes "main: PROCEDURE OPTIONS ( MAIN );"
    ∷ codes "  {declaration}"
    ∷ codes "  IF ( a ) THEN"
    ∷ codes "    IF ( b ) THEN"
    ∷ codes "      x = y;"
    ∷ codes "  ELSE"
    ∷ codes "    RETURN;"
    ∷ codes "  IF ( a ) THEN"
    ∷ codes "    IF ( b ) THEN"
    ∷ codes "      RETURN;"
    ∷ codes "    ELSE"
    ∷ codes "      x = y;"
    ∷ codes "END;"
    ∷ codes "{procedure}"
    ∷ []
two_ways_lines = refl

-- a comment whose refinement is elided, an IFELSE, an assignment and a statement with a part
abbrev elided : Forest
elided =
    main
    (declaration_hole
    (item true (NodeKind.Filled Template.Comment) (Some (PlainPhrase.comment (codes "sum")) ∷ []) (assignment (assignment hole))
    (filled Template.IfElse (None ∷ []) (statement_hole hole)
    (assignment
    (filled Template.Put (None ∷ []) Forest.nil Forest.nil)))))
    procedure_hole

elided_lines :
    map line_bytes (Lines elided)
    ≡ codes "main: PROCEDURE OPTIONS ( MAIN );"
    ∷ codes "  {declaration}"
    ∷ codes "  /* sum */"
    ∷ codes "    ..."
    ∷ codes "  IF ( {condition} ) THEN"
    ∷ codes "    {statement}"
    ∷ codes "  ELSE"
    ∷ codes "    {statement}"
    ∷ codes "  x = y;"
    ∷ codes "  PUT LIST ( {expressions} );"
    ∷ codes "END;"
    ∷ codes "{procedure}"
    ∷ []
elided_lines = refl

-- a stop at a node, and one at a part
abbrev at : List ℕ → ℕ → VisibleStop
at path line = record { stop = record { path = path; part = None }; line = line }

abbrev in_part : List ℕ → ℕ → ℕ → VisibleStop
in_part path part line = record { stop = record { path = path; part = Some part }; line = line }

elided_stops :
    Stops elided
    ≡ at (0 ∷ []) 0
    ∷ at (0 ∷ 0 ∷ []) 1
    ∷ at (0 ∷ 1 ∷ []) 2
    ∷ in_part (0 ∷ 1 ∷ []) 0 2
    ∷ at (0 ∷ 2 ∷ []) 4
    ∷ in_part (0 ∷ 2 ∷ []) 0 4
    ∷ at (0 ∷ 2 ∷ 0 ∷ []) 5
    ∷ at (0 ∷ 2 ∷ 1 ∷ []) 7
    ∷ at (0 ∷ 3 ∷ []) 8
    ∷ at (0 ∷ 4 ∷ []) 9
    ∷ in_part (0 ∷ 4 ∷ []) 0 9
    ∷ at (1 ∷ []) 11
    ∷ []
elided_stops = refl
