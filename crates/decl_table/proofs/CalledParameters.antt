-- A phrase that stands at a place is found on the path of its slot, and so is the procedure that is called by a name, with
-- its parameters.
use Rattle.std.proofs.Common.{◌≡◌, ℕ, suc, ◌≤◌, Bool, true, false, List, [], ◌∷◌, Option, Some, None, slice_get, refl, ap, sym, subst, ◌∙◌, arith, eqb-true, true≢false}
use Rattle.std.specs.Prelude.{◌==◌, if◌then◌else◌, option_and_then, option_map, unwrap_or}
use Rattle.std.proofs.lemmas.Option.{none-some, same_Some}
use Rattle.plcs_base.specs.declared.place.PhraseAt.{PhraseAt}
use Rattle.plcs_grammar.specs.PlainPhrase.{PlainPhrase}
use Rattle.template_tree.specs.Checks.Environment.{Heading, Sig, Signature, heading_of, procedure_at}
use Rattle.template_tree.specs.Positions.Path.{below, node_at, slot_at}
use Rattle.template_tree.specs.Programs.Part.{part_at}
use Rattle.template_tree.specs.Programs.PlainTree.{Forest, PlainNode, nodes}
use Rattle.template_tree.specs.Programs.Slots.{times}
use Rattle.decl_table.specs.Knowledge.{KnowsItems, KnowsParameters, Stands, heading_parameters, parameter_names}
use Rattle.decl_table.specs.PlainDecls.{PlainDecls}
use Rattle.decl_table.specs.Private.KnownTable.{item_on}
use Rattle.decl_table.specs.Private.NameTests.{has_name}
use Rattle.decl_table.proofs.KnownTables.{IsFound, found_there, one_path, stands_at}
use Rattle.decl_table.proofs.SitedNodes.{live_at}

-- ---- what a path tells

-- a slot at a path is that of a node there
pub record IsThere (program : Forest) (path : List ℕ) (slot : ℕ) : Type 0 where
  pub node : PlainNode
  pub there : node_at program path ≡ Some node
  pub own : node.label.slot ≡ slot

pub node_there : (program : Forest) (path : List ℕ) (slot : ℕ) → slot_at program path ≡ Some slot → IsThere program path slot
node_there program path slot is = by (node_at program path) refl
  where
    by : (found : Option PlainNode) → node_at program path ≡ found → IsThere program path slot
    by None e = absurd (none-some slot (sym (ap (option_map (λ (n : PlainNode). n.label.slot)) e) ∙ is))
    by (Some node) e =
        record {
          node = node;
          there = e;
          own = same_Some node.label.slot slot (sym (ap (option_map (λ (n : PlainNode). n.label.slot)) e) ∙ is);
        }

-- ---- a phrase

module _ (program : Forest) (at : PhraseAt) (procedure : PlainNode) (phrase : PlainPhrase) (stands : Stands program at procedure phrase) where
  -- its slot is live
  pub stands_live : 1 ≤ times at.slot.0 program
  stands_live =
      live_at at.slot.0 program (stands.number ∷ stands.path) stands.node (stands_at program at procedure phrase stands) stands.slot_is

  -- so it isn't nowhere
  pub stands_somewhere : times at.slot.0 program ≡ 0 → ⊥
  stands_somewhere none = absurd (omega (arith, none, stands_live))

  -- and where the path of its slot leads to a node, that has it
  pub stands_here : (k : ℕ) (rest : List ℕ) (node : PlainNode) → slot_at program (k ∷ rest) ≡ Some at.slot.0
      → node_at program (k ∷ rest) ≡ Some node → times at.slot.0 program ≤ 1 → IsFound program k at.part node procedure phrase
  stands_here k rest node at_slot there once =
      let own : node.label.slot ≡ at.slot.0 =
      same_Some node.label.slot at.slot.0 (sym (ap (option_map (λ (n : PlainNode). n.label.slot)) there) ∙ at_slot) in
      found_there program at procedure phrase stands k rest node there own once

  -- so its procedure is on the path, and the phrase is in the node
  pub stands_on : (path : List ℕ) (node : PlainNode) → slot_at program path ≡ Some at.slot.0 → node_at program path ≡ Some node
      → times at.slot.0 program ≤ 1 → (item_on program path ≡ Some procedure) × (part_at node.label.parts at.part ≡ Some phrase)
  stands_on [] node at_slot there once = absurd (none-some node there)
  stands_on (k ∷ rest) node at_slot there once =
      let found = stands_here k rest node at_slot there once in
      (found.item_is, found.phrase_is)

-- ---- the procedure that is called

record IsItem (program : Forest) (slot : ℕ) (node : PlainNode) : Type 0 where
  number : ℕ
  there : slice_get (nodes program) number ≡ Some node
  own : node.label.slot ≡ slot

procedure_item : (program : Forest) (slot : ℕ) (node : PlainNode) → procedure_at program slot ≡ Some node → IsItem program slot node
procedure_item Forest.nil slot node is = absurd (none-some node is)
procedure_item (Forest.cons label inner rest) slot node is = by (label.slot == slot) refl is (procedure_item rest slot node)
  where
    by : (b : Bool) → (label.slot == slot) ≡ b
        → (if b then Some record { label = label; inner = inner } else procedure_at rest slot) ≡ Some node
        → (procedure_at rest slot ≡ Some node → IsItem rest slot node) → IsItem (Forest.cons label inner rest) slot node
    by true e found behind =
        record {
          number = 0;
          there = found;
          own = ap (λ (n : PlainNode). n.label.slot) (sym (same_Some record { label = label; inner = inner } node found)) ∙ eqb-true label.slot slot e;
        }
    by false e found behind =
        let it = behind found in
        record { number = suc it.number; there = it.there; own = it.own }

-- the procedure in a slot is the node on its path
pub procedure_there : (program : Forest) (slot : ℕ) (path : List ℕ) (called node : PlainNode) → procedure_at program slot ≡ Some node
    → node_at program path ≡ Some called → called.label.slot ≡ slot → times slot program ≤ 1 → node ≡ called
procedure_there program slot path called node is there own once =
    let it = procedure_item program slot node is in
    let found : node_at program (it.number ∷ []) ≡ Some node = ap (option_and_then (λ (item : PlainNode). below item [])) it.there in
    let same : it.number ∷ [] ≡ path = one_path slot program (it.number ∷ []) path node called found there it.own own once in
    same_Some node called (sym found ∙ ap (node_at program) same ∙ there)

-- where no procedure is in the slot, it has no parameters
pub parameters_nowhere : (program : Forest) (slot : ℕ) → times slot program ≡ 0 → parameter_names program slot ≡ []
parameters_nowhere program slot none = by (procedure_at program slot) refl
  where
    by : (found : Option PlainNode) → procedure_at program slot ≡ found → parameter_names program slot ≡ []
    by None e = ap (λ (o : Option PlainNode). unwrap_or (option_map heading_parameters o) []) e
    by (Some node) e =
        let it = procedure_item program slot node e in
        let found : node_at program (it.number ∷ []) ≡ Some node = ap (option_and_then (λ (item : PlainNode). below item [])) it.there in
        let live = live_at slot program (it.number ∷ []) node found it.own in
        absurd (omega (arith, none, live))

-- its parameters are among those of the node on the path of the slot
pub parameters_among : (program : Forest) (slot : ℕ) (path : List ℕ) (called : PlainNode) → node_at program path ≡ Some called
    → called.label.slot ≡ slot → times slot program ≤ 1
    → (name : List ℕ) → has_name (parameter_names program slot) name ≡ true → has_name (heading_parameters called) name ≡ true
parameters_among program slot path called there own once name among = by (procedure_at program slot) refl
  where
    names_are : (found : Option PlainNode) → procedure_at program slot ≡ found
        → has_name (parameter_names program slot) name ≡ has_name (unwrap_or (option_map heading_parameters found) []) name
    names_are found e = ap (λ (o : Option PlainNode). has_name (unwrap_or (option_map heading_parameters o) []) name) e

    by : (found : Option PlainNode) → procedure_at program slot ≡ found → has_name (heading_parameters called) name ≡ true
    by None e = absurd (true≢false (sym among ∙ names_are None e))
    by (Some node) e =
        ap (λ (n : PlainNode). has_name (heading_parameters n) name) (sym (procedure_there program slot path called node e there own once))
        ∙ sym (names_are (Some node) e)
        ∙ among

-- ---- what is known of the parameters

-- where no effective heading has the name, nothing has to be known
pub knows_uncalled : (program : Forest) (table : PlainDecls) (name : List ℕ)
    → None ≡ option_map (λ (s : Signature). s.slot) (Sig program name) → KnowsParameters table program name
knows_uncalled program table name none signature is =
    absurd (none-some signature.slot (none ∙ ap (option_map (λ (s : Signature). s.slot)) is))

-- where one has it, the items of its parameters
pub knows_called : (program : Forest) (table : PlainDecls) (name : List ℕ) (slot : ℕ)
    → Some slot ≡ option_map (λ (s : Signature). s.slot) (Sig program name) → KnowsItems table program slot (parameter_names program slot)
    → KnowsParameters table program name
knows_called program table name slot is knows signature there =
    subst (λ (n : ℕ). KnowsItems table program n (parameter_names program n))
    (same_Some slot signature.slot (is ∙ ap (option_map (λ (s : Signature). s.slot)) there)) knows

-- none where it has none
pub knows_bare : (program : Forest) (table : PlainDecls) (slot : ℕ) (names : List (List ℕ)) → names ≡ []
    → KnowsItems table program slot names
knows_bare program table slot names none name among =
    absurd (true≢false (sym among ∙ ap (λ (xs : List (List ℕ)). has_name xs name) none))

-- the parameters that are found in the node are known, or it has none
pub knows_found : (program : Forest) (new : PlainDecls) (name : List ℕ) (slot : ℕ) (path : List ℕ) (called : PlainNode)
    → Some slot ≡ option_map (λ (s : Signature). s.slot) (Sig program name) → slot_at program path ≡ Some slot
    → Some called ≡ node_at program path → times slot program ≤ 1 → (o : Option (List (List ℕ)))
    → o ≡ option_map (λ (heading : Heading). heading.parameters) (heading_of called.label.kind called.label.parts)
    → KnowsItems new program slot (unwrap_or o []) → KnowsParameters new program name
knows_found program new name slot path called is at there once o parameters knows =
    let own : called.label.slot ≡ slot =
    same_Some called.label.slot slot (ap (option_map (λ (n : PlainNode). n.label.slot)) there ∙ at) in
    knows_called program new name slot is
    (λ parameter among.
    knows parameter
    (ap (λ (xs : Option (List (List ℕ))). has_name (unwrap_or xs []) parameter) parameters
    ∙ parameters_among program slot path called (sym there) own once parameter among))

-- a path to a slot leads to a node
pub node_missing : (program : Forest) (path : List ℕ) (slot : ℕ) → slot_at program path ≡ Some slot → None ≡ node_at program path → ⊥
node_missing program path slot at none =
    let it = node_there program path slot at in
    absurd (none-some it.node (none ∙ it.there))
