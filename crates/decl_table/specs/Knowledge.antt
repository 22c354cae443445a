-- What a table of declarations has to know where a phrase is checked.
use Rattle.std.specs.Prelude.{◌≡◌, ℕ, true, bytes_eq, List, [], Option, Some, None, option_map, slice_get, unwrap_or}
use Rattle.std.specs.List.{list_any}
use Rattle.plcs_base.specs.declared.place.PhraseAt.{PhraseAt}
use Rattle.plcs_grammar.specs.PlainPhrase.{PlainPhrase}
use Rattle.template_tree.specs.Programs.Part.{part_at}
use Rattle.template_tree.specs.Checks.Environment.{Items, Sig, Signature, heading_of, item_named, procedure_at}
use Rattle.template_tree.specs.Checks.Mention.{mentioned}
use Rattle.template_tree.specs.Positions.Path.{below}
use Rattle.template_tree.specs.Programs.PlainTree.{Forest, PlainNode, nodes}
use Rattle.template_tree.specs.Checks.ProgramMaps.{items_in}
use Rattle.decl_table.specs.PlainDecls.{PlainDecls, slot_of}

-- ---- where a phrase stands

-- the phrase that is checked stands at the place, in main or the procedure
pub record Stands (program : Forest) (at : PhraseAt) (procedure : PlainNode) (phrase : PlainPhrase) : Type 0 where
  pub number : ℕ
  pub path : List ℕ
  pub node : PlainNode
  pub item_is : slice_get (nodes program) number ≡ Some procedure
  pub node_is : below procedure path ≡ Some node
  pub slot_is : node.label.slot ≡ at.slot.0
  pub phrase_is : part_at node.label.parts at.part ≡ Some phrase

-- ---- what a table knows

-- the table of declarations has the items that the program has of these names in the procedure in the slot
abbrev pub KnowsItems : PlainDecls → (program : Forest) → (slot : ℕ) → (names : List (List ℕ)) → Type 0
KnowsItems decls program slot names =
    (name : List ℕ) → list_any (bytes_eq name) names ≡ true
    → item_named name (items_in decls.items slot) ≡ item_named name (Items program slot)

-- the table of declarations has the effective heading of the name, or none where the program has none
abbrev pub KnowsHeading : PlainDecls → (program : Forest) → (name : List ℕ) → Type 0
KnowsHeading decls program name =
    slot_of name decls.headings ≡ option_map (λ signature. signature.slot) (Sig program name)

-- the name of the procedure whose parameters a table has to know, if the phrase that is checked is a call
abbrev pub called_name : PlainPhrase → Option (List ℕ)
called_name (PlainPhrase.assignment target value) = None
called_name (PlainPhrase.condition e) = None
called_name (PlainPhrase.expression e) = None
called_name (PlainPhrase.expression_list es) = None
called_name (PlainPhrase.variable_list targets) = None
called_name (PlainPhrase.variable_name name) = None
called_name (PlainPhrase.call name arguments) = Some name
called_name (PlainPhrase.declared_list items) = None
called_name (PlainPhrase.procedure_name name) = None
called_name (PlainPhrase.name_list names) = None
called_name (PlainPhrase.greatest_length n) = None
called_name (PlainPhrase.comment bytes) = None

-- the parameters in a procedure's heading, which a table has to know where it is called: none where it isn't whole
abbrev pub heading_parameters : PlainNode → List (List ℕ)
heading_parameters node =
    unwrap_or (option_map (λ heading. heading.parameters) (heading_of node.label.kind node.label.parts)) []

-- the names of the parameters of the procedure in the slot, of which a table has to know the items
abbrev pub parameter_names : (program : Forest) → (slot : ℕ) → List (List ℕ)
parameter_names program slot = unwrap_or (option_map heading_parameters (procedure_at program slot)) []

-- the table of declarations has the items of the parameters of the procedure that is called by the name
abbrev pub KnowsParameters : PlainDecls → (program : Forest) → (name : List ℕ) → Type 0
KnowsParameters decls program name =
    (signature : Signature) → Sig program name ≡ Some signature
    → KnowsItems decls program signature.slot (parameter_names program signature.slot)

-- the table of declarations agrees with the program on the phrase's procedure and names and, where the phrase is a
-- call, on the procedure that it calls and the names of its parameters
pub record Knows (decls : PlainDecls) (program : Forest) (procedure : PlainNode) (phrase : PlainPhrase) : Type 0 where
  pub items : KnowsItems decls program procedure.label.slot (mentioned phrase)
  pub headings : (name : List ℕ) → list_any (bytes_eq name) (mentioned phrase) ≡ true → KnowsHeading decls program name
  pub parameters : (name : List ℕ) → called_name phrase ≡ Some name → KnowsParameters decls program name
