-- How receipts are told apart.
use Rattle.std.specs.Prelude.{◌≡◌, ℕ, Bool, true, false, List, Option, Some, None, refl}
use Rattle.std.specs.Coded.{Coded, code_by, coded×, coded_ℕ, coded_bool, coded_list, coded_option}
use Rattle.plcs_grammar.specs.PlainPhrase.{PlainPhrase}
use Rattle.template_tree.specs.declared.change.Change.{Change}
use Rattle.template_tree.specs.declared.side.Side.{Side}
use Rattle.template_tree.specs.contracts.change.Change as change_row
use Rattle.template_tree.specs.contracts.side.Side as side_row
use Rattle.template_tree.specs.Programs.PlainTree.{PlainNode}
use Rattle.template_tree.specs.Edits.Receipt.{PlainUndoing, PlainReceipt}
use Rattle.template_tree.specs.Private.NodeCode.{node_code}
use Rattle.plcs_grammar.specs.Private.PhraseCode.{phrase_code}

-- the pieces by which an undoing is told apart: a node and its side, a part and what comes into it, and whether an item
-- is taken out
abbrev pub Pieces : Type 0
Pieces = Option PlainNode × (Option Side × (Option (ℕ × Option PlainPhrase) × Bool))

-- the pieces by which the undoing of a receipt is told apart
abbrev pub pieces_of : PlainUndoing → Pieces
pieces_of (PlainUndoing.put node) = (Some node, (None, (None, false)))
pieces_of PlainUndoing.put_back = (None, (None, (None, false)))
pieces_of (PlainUndoing.set_part part place) = (None, (None, (Some (part, place), false)))
pieces_of PlainUndoing.take_out = (None, (None, (None, true)))
pieces_of (PlainUndoing.put_in side hole) = (Some hole, (Some side, (None, false)))

-- the undoing of a receipt of which the pieces are a node and perhaps its side
abbrev pub with_node_code : PlainNode → Option Side → PlainUndoing
with_node_code node None = PlainUndoing.put node
with_node_code node (Some side) = PlainUndoing.put_in side node

-- the undoing of a receipt of which no piece is a node
abbrev pub without_node : Option (ℕ × Option PlainPhrase) → Bool → PlainUndoing
without_node (Some p) taken = PlainUndoing.set_part p.0 p.1
without_node None true = PlainUndoing.take_out
without_node None false = PlainUndoing.put_back

-- the undoing of a receipt that has these pieces
abbrev pub undoing_from : Option PlainNode → Option Side → Option (ℕ × Option PlainPhrase) → Bool → PlainUndoing
undoing_from (Some node) side part taken = with_node_code node side
undoing_from None side part taken = without_node part taken

-- the undoing of a receipt is made again of its pieces
pub undoing_back : (u : PlainUndoing)
    → undoing_from (pieces_of u).0 (pieces_of u).1.0 (pieces_of u).1.1.0 (pieces_of u).1.1.1 ≡ u
undoing_back (PlainUndoing.put node) = refl
undoing_back PlainUndoing.put_back = refl
undoing_back (PlainUndoing.set_part part place) = refl
undoing_back PlainUndoing.take_out = refl
undoing_back (PlainUndoing.put_in side hole) = refl

-- the undoing of a receipt is told apart by its pieces
abbrev pub undoing_code : Coded PlainUndoing
undoing_code =
    code_by Pieces
    (coded× (coded_option node_code)
    (coded× (coded_option side_row.the_row.coded)
    (coded× (coded_option (coded× coded_ℕ (coded_option phrase_code))) coded_bool)))
    pieces_of (λ t. undoing_from t.0 t.1.0 t.1.1.0 t.1.1.1) undoing_back

-- a receipt is told apart by its fields
abbrev pub receipt_code : Coded PlainReceipt
receipt_code =
    code_by
    (Change × (List ℕ × (PlainUndoing × (ℕ × ℕ))))
    (coded× change_row.the_row.coded (coded× (coded_list coded_ℕ) (coded× undoing_code (coded× coded_ℕ coded_ℕ))))
    (λ r. (r.change, (r.path, (r.undoing, (r.drawn, r.live)))))
    (λ t. record { change = t.0; path = t.1.0; undoing = t.1.1.0; drawn = t.1.1.1.0; live = t.1.1.1.1 })
    (λ _. refl)
