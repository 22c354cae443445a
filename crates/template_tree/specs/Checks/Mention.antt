-- Which phrases mention which names.
use Rattle.std.specs.Prelude.{◌↔◌, ℕ, ◌+◌, if◌then◌else◌, bytes_eq, List, [], ◌∷◌, ◌++◌, map, flat_map, Contains, Option, Some, None}
use Rattle.std.specs.List.{list_any}
use Rattle.std.specs.List.Sorted.{IsStrictlySortedBy}
use Rattle.plcs_base.specs.declared.place.PhraseAt.{PhraseAt}
use Rattle.plcs_base.specs.Mark.{phrase_cmp}
use Rattle.plcs_grammar.specs.PlainPhrase.{PlainExpr, PlainExprs, PlainVarRef, PlainPhrase}
use Rattle.template_tree.specs.Programs.PlainTree.{Forest}

abbrev mutual
  -- the names that an expression mentions, those of its variables, in order
  pub names_in : PlainExpr → List (List ℕ)
  names_in (PlainExpr.number z) = []
  names_in (PlainExpr.text value) = []
  names_in (PlainExpr.bit value) = []
  names_in (PlainExpr.variable reference) = reference_names reference
  names_in (PlainExpr.unary op a) = names_in a
  names_in (PlainExpr.binary op a b) = names_in a ++ names_in b
  names_in (PlainExpr.builtin function arguments) = names_in_all arguments
  names_in (PlainExpr.parenthesized a) = names_in a

  -- the names that a variable mentions: its own, and those in its subscript
  pub reference_names : PlainVarRef → List (List ℕ)
  reference_names (PlainVarRef.simple name) = name ∷ []
  reference_names (PlainVarRef.subscripted name index) = name ∷ names_in index

  -- the names that a list of expressions mentions
  pub names_in_all : PlainExprs → List (List ℕ)
  names_in_all PlainExprs.nil = []
  names_in_all (PlainExprs.cons a rest) = names_in a ++ names_in_all rest

-- the names that a phrase mentions: of variables, of what is declared, of parameters, and of procedures. A call of a
-- built-in function mentions none for the function
abbrev pub mentioned : PlainPhrase → List (List ℕ)
mentioned (PlainPhrase.assignment target value) = reference_names target ++ names_in value
mentioned (PlainPhrase.condition e) = names_in e
mentioned (PlainPhrase.expression e) = names_in e
mentioned (PlainPhrase.expression_list es) = names_in_all es
mentioned (PlainPhrase.variable_list targets) = flat_map reference_names targets
mentioned (PlainPhrase.variable_name name) = name ∷ []
mentioned (PlainPhrase.call name arguments) = name ∷ names_in_all arguments
mentioned (PlainPhrase.declared_list items) = map (λ item. item.name) items
mentioned (PlainPhrase.procedure_name name) = name ∷ []
mentioned (PlainPhrase.name_list names) = names
mentioned (PlainPhrase.greatest_length n) = []
mentioned (PlainPhrase.comment bytes) = []

-- the place at which a phrase is that mentions names: this part of the node in the slot
abbrev pub phrase_at : (slot part : ℕ) → PhraseAt
phrase_at slot part = record { slot = record { 0 = slot }; part = part }

-- the place, if what stands there is a phrase that mentions the name
abbrev pub mention : List ℕ → PhraseAt → Option PlainPhrase → List PhraseAt
mention name at None = []
mention name at (Some phrase) = if list_any (bytes_eq name) (mentioned phrase) then at ∷ [] else []

-- the places of the phrases in a node's parts, from the part of this number on, that mention the name
abbrev pub part_mentions : List ℕ → (slot part : ℕ) → List (Option PlainPhrase) → List PhraseAt
part_mentions name slot part [] = []
part_mentions name slot part (place ∷ parts) =
    mention name (phrase_at slot part) place ++ part_mentions name slot (part + 1) parts

-- the places of the phrases that mention the name, in listing order; elision plays no part
abbrev pub mentions : List ℕ → Forest → List PhraseAt
mentions name Forest.nil = []
mentions name (Forest.cons label inner rest) =
    part_mentions name label.slot 0 label.parts ++ (mentions name inner ++ mentions name rest)

-- which phrases of the program mention the name: those at these places, each once, in order of slot and part
pub record AreUses (name : List ℕ) (program : Forest) (uses : List PhraseAt) : Type 0 where
  pub increasing : IsStrictlySortedBy phrase_cmp uses
  pub each : (at : PhraseAt) → Contains uses at ↔ Contains (mentions name program) at
