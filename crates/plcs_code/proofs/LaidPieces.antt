-- Pieces of a node's code, while they are laid.
use Rattle.std.proofs.Common.{ℕ, ◌+◌, ◌<◌, ◌≡◌, true, false, List, [], ◌∷◌, ◌++◌, length, take, get_or, Option, Some, None, refl, sym, ap, ◌∙◌, append_assoc}
use Rattle.std.specs.Prelude.{bytes_eq, flat_map, is_none, if◌then◌else◌}
use Rattle.std.specs.List.{list_any}
use Rattle.std.proofs.lemmas.List.{append-nil, take_more}
use Rattle.plcs_base.specs.PlainCounts.{PlainCounts}
use Rattle.plcs_base.specs.declared.declared.Declared.{Declared}
use Rattle.plcs_base.specs.Mark.{MarkMap}
use Rattle.plcs_grammar.specs.declared.node_kind.NodeKind.{NodeKind}
use Rattle.plcs_grammar.specs.declared.template.Template.{Template}
use Rattle.plcs_grammar.specs.PlainPhrase.{PlainPhrase}
use Rattle.template_tree.specs.Checks.Environment.{item_named}
use Rattle.template_tree.specs.Programs.PlainTree.{Label}
use Rattle.plcs_code.specs.Pieces.{cell_instr, kind_pieces, new_parameter, own_pieces, parameter_instr, parameters_instrs, piece_at, suspension, template_pieces}
use Rattle.plcs_code.specs.PlainInstr.{PlainInstr}
use Rattle.plcs_code.specs.Private.LaysAll.{LaysAll, lays_nothing}
use Rattle.plcs_code.proofs.Laying.{lays_append, lays_same}

-- a piece that goes on is its beginning, and the code behind it
pub goes_on : (slot point : ℕ) (stop : Option PlainInstr) (code : List PlainInstr) → is_none stop ≡ true
    → piece_at slot point stop [] ++ code ≡ piece_at slot point stop code
goes_on slot point None code is = refl
goes_on slot point (Some stop) code is = absurd (cc)

-- a piece that goes on is laid once its beginning is, and the code behind it
pub laid_piece : {Out : Type 0} {lays : Out → PlainCounts → PlainInstr → Out → PlainCounts → Type 0} {a b c : Out} {u v w : PlainCounts}
    (n slot point : ℕ) (stop : Option PlainInstr) (code : List PlainInstr) → n ≡ slot → is_none stop ≡ true
    → LaysAll lays a u (piece_at n point stop []) b v → LaysAll lays b v code c w → LaysAll lays a u (piece_at slot point stop code) c w
laid_piece n slot point stop code same is begun more =
    lays_same (goes_on slot point stop code is) (lays_append (lays_same (ap (λ s. piece_at s point stop []) same) begun) more)

-- nothing is laid where the code is that of an equal value that has none
pub laid_nothing : {X Out : Type 0} {lays : Out → PlainCounts → PlainInstr → Out → PlainCounts → Type 0} {a : Out} {u : PlainCounts}
    (code : X → List PlainInstr) (x y : X) → x ≡ y → code y ≡ [] → LaysAll lays a u (code x) a u
laid_nothing code x y is none = lays_same (sym (ap code is ∙ none)) lays_nothing

-- what stands behind the nodes inside a node doesn't depend on the items of a procedure
template_behind : (slot : ℕ) (all one : Option PlainInstr) (parts : List (Option PlainPhrase)) (items others : List Declared) (template : Template)
    → (template_pieces slot all one parts items template).behind ≡ (template_pieces slot all one parts others template).behind
template_behind slot all one parts items others Template.Fixed = refl
template_behind slot all one parts items others Template.Bit = refl
template_behind slot all one parts items others Template.Char = refl
template_behind slot all one parts items others Template.If = refl
template_behind slot all one parts items others Template.IfElse = refl
template_behind slot all one parts items others Template.While = refl
template_behind slot all one parts items others Template.For = refl
template_behind slot all one parts items others Template.Until = refl
template_behind slot all one parts items others Template.Group = refl
template_behind slot all one parts items others Template.Get = refl
template_behind slot all one parts items others Template.Put = refl
template_behind slot all one parts items others Template.PutSkip = refl
template_behind slot all one parts items others Template.Call = refl
template_behind slot all one parts items others Template.Return = refl
template_behind slot all one parts items others Template.Comment = refl
template_behind slot all one parts items others Template.Proc = refl
template_behind slot all one parts items others Template.ProcP = refl

kind_behind : (slot : ℕ) (all one : Option PlainInstr) (parts : List (Option PlainPhrase)) (items others : List Declared) (kind : NodeKind)
    → (kind_pieces slot all one parts items kind).behind ≡ (kind_pieces slot all one parts others kind).behind
kind_behind slot all one parts items others NodeKind.DeclarationHole = refl
kind_behind slot all one parts items others NodeKind.StatementHole = refl
kind_behind slot all one parts items others NodeKind.ProcedureHole = refl
kind_behind slot all one parts items others NodeKind.Main = refl
kind_behind slot all one parts items others NodeKind.Assign = refl
kind_behind slot all one parts items others (NodeKind.Filled template) = template_behind slot all one parts items others template

pub own_behind : (marks : MarkMap) (items others : List Declared) (label : Label)
    → (own_pieces marks items label).behind ≡ (own_pieces marks others label).behind
own_behind marks items others label =
    kind_behind label.slot (suspension marks label.slot label.parts) (suspension marks label.slot (take 1 label.parts)) label.parts items others label.kind

-- ---- cells

-- an item that is a parameter has no cells of its own
pub cell_among : (names : List (List ℕ)) (item : Declared) → list_any (bytes_eq item.name) names ≡ true → cell_instr names item ≡ []
cell_among names item is = ap (λ b. if b then [] else (PlainInstr.cell item.name item.ty item.size ∷ [])) is

-- and any other item has
pub cell_new : (names : List (List ℕ)) (item : Declared) → list_any (bytes_eq item.name) names ≡ false
    → cell_instr names item ≡ PlainInstr.cell item.name item.ty item.size ∷ []
cell_new names item is = ap (λ b. if b then [] else (PlainInstr.cell item.name item.ty item.size ∷ [])) is

-- one more item
pub cells_push : (f : Declared → List PlainInstr) (items : List Declared) (item : Declared)
    → flat_map f (items ++ (item ∷ [])) ≡ flat_map f items ++ f item
cells_push f [] item = append-nil (f item)
cells_push f (x ∷ items) item = ap (λ z. f x ++ z) (cells_push f items item) ∙ sym (append_assoc (f x) (flat_map f items) (f item))

-- the cells of items up to one are those of the items before it, and its own behind them
pub cells_next : (f : Declared → List PlainInstr) (items : List Declared) (i : ℕ) (item : Declared) → i < length items → item ≡ get_or items i item
    → flat_map f (take (i + 1) items) ≡ flat_map f (take i items) ++ f item
cells_next f items i item inside is =
    ap (flat_map f) (take_more items i item inside ∙ ap (λ y. take i items ++ (y ∷ [])) (sym is)) ∙ cells_push f (take i items) item

-- a parameter that stands in the list before has no instruction of its own
pub parameter_among : (items : List Declared) (earlier : List (List ℕ)) (name : List ℕ) → list_any (bytes_eq name) earlier ≡ true
    → new_parameter items earlier name ≡ []
parameter_among items earlier name is = ap (λ b. if b then [] else parameter_instr (item_named name items)) is

-- and any other parameter has the one of its item
pub parameter_new : (items : List Declared) (earlier : List (List ℕ)) (name : List ℕ) (item : Option Declared)
    → list_any (bytes_eq name) earlier ≡ false → item ≡ item_named name items → new_parameter items earlier name ≡ parameter_instr item
parameter_new items earlier name item is found =
    ap (λ b. if b then [] else parameter_instr (item_named name items)) is ∙ ap parameter_instr (sym found)

-- one more parameter
pub parameters_push : (items : List Declared) (earlier names : List (List ℕ)) (name : List ℕ)
    → parameters_instrs items earlier (names ++ (name ∷ []))
    ≡ parameters_instrs items earlier names ++ new_parameter items (earlier ++ names) name
parameters_push items earlier [] name =
    append-nil (new_parameter items earlier name) ∙ ap (λ xs. new_parameter items xs name) (sym (append-nil earlier))
parameters_push items earlier (x ∷ names) name =
    let first = new_parameter items earlier x in
    ap (λ z. first ++ z)
    (parameters_push items (earlier ++ (x ∷ [])) names name
    ∙ ap (λ xs. parameters_instrs items (earlier ++ (x ∷ [])) names ++ new_parameter items xs name) (append_assoc earlier (x ∷ []) names))
    ∙ sym (append_assoc first (parameters_instrs items (earlier ++ (x ∷ [])) names) (new_parameter items (earlier ++ (x ∷ names)) name))

-- the instructions of parameters up to one are those of the parameters before it, and its own behind them
pub parameters_next : (items : List Declared) (names : List (List ℕ)) (i : ℕ) (name : List ℕ) → i < length names → name ≡ get_or names i name
    → parameters_instrs items [] (take (i + 1) names)
    ≡ parameters_instrs items [] (take i names) ++ new_parameter items (take i names) name
parameters_next items names i name inside is =
    ap (parameters_instrs items []) (take_more names i name inside ∙ ap (λ y. take i names ++ (y ∷ [])) (sym is))
    ∙ parameters_push items [] (take i names) name
