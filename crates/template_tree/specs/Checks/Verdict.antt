-- The verdict of a phrase: the kind of its first offence, parts from left to right and inner parts before the whole.
use Rattle.std.specs.Prelude.{ℕ, ◌==◌, Bool, true, ◌&&◌, ◌||◌, nat_lt, if◌then◌else◌, bytes_eq, List, [], ◌∷◌, ◌++◌, codes, length, count_by, ◌+◌, Option, Some, None, is_some, ok_or, option_to_list, option_and_then, Result, Ok, Err}
use Rattle.std.specs.Option.{option_or}
use Rattle.plcs_base.specs.declared.declared.Declared.{Declared}
use Rattle.plcs_base.specs.declared.declared.ItemType.{ItemType}
use Rattle.plcs_base.specs.declared.mark.MarkKind.{MarkKind}
use Rattle.plcs_base.specs.declared.value.Kind.{Kind}
use Rattle.plcs_grammar.specs.declared.builtin.Builtin.{Builtin}
use Rattle.plcs_grammar.specs.declared.operator.InfixOp.{InfixOp}
use Rattle.plcs_grammar.specs.Builtin.{is_builtin_name}
use Rattle.plcs_grammar.specs.PlainPhrase.{PlainExpr, PlainExprs, PlainVarRef, PlainPhrase}
use Rattle.template_tree.specs.Checks.Environment.{Signature, item_named, item_offence, kind_of_type, scalar_kind, with_declared, with_type}
use Rattle.template_tree.specs.Checks.KindTable.{builtin_row, infix_gives, infix_takes, prefix_kind, same_kind}

-- ---- what is found in turn

-- what is found behind one part of a phrase: an offence in the part comes first
abbrev pub then_found : {A B : Type 0} → Result A MarkKind → (A → Result B MarkKind) → Result B MarkKind
then_found (Ok a) make = make a
then_found (Err offence) make = Err offence

-- what is found behind two parts of a phrase: an offence in the first part comes first, and then one in the second
abbrev pub both_found : {A B C : Type 0} → Result A MarkKind → Result B MarkKind → (A → B → Result C MarkKind)
    → Result C MarkKind
both_found (Ok a) (Ok b) make = make a b
both_found (Ok a) (Err offence) make = Err offence
both_found (Err offence) other make = Err offence

-- the offence that was found in a part of a phrase, if one was
abbrev pub offence_in : {A : Type 0} → Result A MarkKind → Option MarkKind
offence_in (Ok a) = None
offence_in (Err offence) = Some offence

-- ---- names

-- the item of a name where a variable is wanted: a reserved name comes before one that isn't declared
abbrev pub item_found : List Declared → List ℕ → Result Declared MarkKind
item_found items name =
    if is_builtin_name name then Err MarkKind.Reserved else ok_or (item_named name items) MarkKind.Undeclared

-- the kind found for an item that stands without a subscript, or that it needs one
abbrev pub scalar_found : Declared → Result Kind MarkKind
scalar_found item = if item.size == 0 then Ok (kind_of_type item.ty) else Err MarkKind.NeedsSubscript

-- the kind found for an item that stands with a subscript, or that it is no array
abbrev pub cell_found : Declared → Result Kind MarkKind
cell_found item = if item.size == 0 then Err MarkKind.NotArray else Ok (kind_of_type item.ty)

-- the kind found for a name without a subscript, or its offence
abbrev pub name_kind : List Declared → List ℕ → Result Kind MarkKind
name_kind items name = then_found (item_found items name) scalar_found

-- the kind found for a name with a subscript, or its offence
abbrev pub array_kind : List Declared → List ℕ → Result Kind MarkKind
array_kind items name = then_found (item_found items name) cell_found

-- ---- expressions

-- the kind that was found where this kind is wanted, or a mismatch of types
abbrev pub of_kind : Kind → Kind → Result Kind MarkKind
of_kind kind found = if same_kind kind found then Ok found else Err MarkKind.TypeMismatch

-- whether the verdict of a phrase finds no offence in the kinds left and right of an infix operator, which takes two of
-- this kind, or two of any one kind
abbrev pub is_pair : Option Kind → Kind → Kind → Bool
is_pair None left right = same_kind left right
is_pair (Some kind) left right = same_kind kind left && same_kind kind right

-- what a verdict finds of an infix operator between operands of two kinds: its kind, or the offence of a mismatch of
-- types
abbrev pub infix_found : InfixOp → Kind → Kind → Result Kind MarkKind
infix_found op left right =
    if is_pair (infix_takes op) left right then Ok (infix_gives op) else Err MarkKind.TypeMismatch

-- whether it is no offence that so many arguments were found, where so many are taken, and perhaps one more
abbrev pub is_count : ℕ → Option Kind → ℕ → Bool
is_count taken None count = count == taken
is_count taken (Some kind) count = (count == taken) || (count == taken + 1)

-- whether arguments with the kinds found in them are no offence where these kinds are taken, one by one, as far as
-- there are both
abbrev pub fit : List Kind → List Kind → Bool
fit [] kinds = true
fit (kind ∷ taken) [] = true
fit (kind ∷ taken) (found ∷ kinds) = same_kind kind found && fit taken kinds

-- the kind found for a built-in function with arguments of these kinds, or its offence: their number comes before their
-- kinds
abbrev pub builtin_found : Builtin → List Kind → Result Kind MarkKind
builtin_found function kinds =
    if is_count (length (builtin_row function).takes) (builtin_row function).perhaps (length kinds)
    then (if fit ((builtin_row function).takes ++ option_to_list (builtin_row function).perhaps) kinds
    then Ok (builtin_row function).gives else Err MarkKind.TypeMismatch)
    else Err MarkKind.WrongCount

abbrev mutual
  -- the kind of an expression, or its first offence
  pub kind_of : List Declared → PlainExpr → Result Kind MarkKind
  kind_of items (PlainExpr.number z) = Ok Kind.Fixed
  kind_of items (PlainExpr.text value) = Ok Kind.Text
  kind_of items (PlainExpr.bit value) = Ok Kind.Bit
  kind_of items (PlainExpr.variable reference) = reference_kind items reference
  kind_of items (PlainExpr.unary op a) = then_found (kind_of items a) (of_kind (prefix_kind op))
  kind_of items (PlainExpr.binary op a b) = both_found (kind_of items a) (kind_of items b) (infix_found op)
  kind_of items (PlainExpr.builtin function arguments) = then_found (kinds_of items arguments) (builtin_found function)
  kind_of items (PlainExpr.parenthesized a) = kind_of items a

  -- the kind of a variable, or its first offence: a subscript and the kind of it come before the name
  pub reference_kind : List Declared → PlainVarRef → Result Kind MarkKind
  reference_kind items (PlainVarRef.simple name) = name_kind items name
  reference_kind items (PlainVarRef.subscripted name index) =
      then_found (then_found (kind_of items index) (of_kind Kind.Fixed)) (λ kind. array_kind items name)

  -- the kinds of expressions, or the first offence in them
  pub kinds_of : List Declared → PlainExprs → Result (List Kind) MarkKind
  kinds_of items PlainExprs.nil = Ok []
  kinds_of items (PlainExprs.cons a rest) =
      both_found (kind_of items a) (kinds_of items rest) (λ kind kinds. Ok (kind ∷ kinds))

-- ---- phrases in statements

-- the first offence in a list of variables
abbrev pub references_offence : List Declared → List PlainVarRef → Option MarkKind
references_offence items [] = None
references_offence items (reference ∷ rest) =
    option_or (offence_in (reference_kind items reference)) (references_offence items rest)

-- the first argument that its parameter doesn't take: the kinds are not one, or the parameter has none
abbrev pub arguments_offence : List (Option Kind) → List Kind → Option MarkKind
arguments_offence [] kinds = None
arguments_offence (parameter ∷ parameters) [] = None
arguments_offence (None ∷ parameters) (kind ∷ kinds) = Some MarkKind.ArgumentType
arguments_offence (Some parameter ∷ parameters) (kind ∷ kinds) =
    if same_kind parameter kind then arguments_offence parameters kinds else Some MarkKind.ArgumentType

-- the first offence of a call with arguments of these kinds: the name comes before the number of arguments, and that
-- before their kinds
abbrev pub called_offence : Option Signature → List Kind → Option MarkKind
called_offence None kinds = Some MarkKind.UnknownProcedure
called_offence (Some signature) kinds =
    if length kinds == length signature.parameters
    then arguments_offence signature.parameters kinds else Some MarkKind.WrongCount

-- the first offence of a call: the arguments come before the name
abbrev pub call_offence : Option Signature → (arguments : Result (List Kind) MarkKind) → Option MarkKind
call_offence signature (Ok kinds) = called_offence signature kinds
call_offence signature (Err offence) = Some offence

-- ---- phrases in headings and declarations

-- what is wrong with a parameter of the list, if something is: a list that names it twice comes before its declaration
abbrev pub parameter_offence : List Declared → (all : List (List ℕ)) → List ℕ → Option MarkKind
parameter_offence items all name =
    if is_builtin_name name then Some MarkKind.Reserved
    else (if nat_lt 1 (count_by (bytes_eq name) all) then Some MarkKind.Duplicate
    else (if is_some (option_and_then scalar_kind (item_named name items)) then None
    else Some MarkKind.ParameterUndeclared))

-- the first offence of a list of parameters
abbrev pub parameters_offence : List Declared → (all : List (List ℕ)) → List (List ℕ) → Option MarkKind
parameters_offence items all [] = None
parameters_offence items all (name ∷ rest) =
    option_or (parameter_offence items all name) (parameters_offence items all rest)

-- what is wrong with the name of a procedure, if something is, where an earlier effective heading has it or none has
abbrev pub procedure_offence : (earlier : Option Signature) → List ℕ → Option MarkKind
procedure_offence earlier name =
    if is_builtin_name name then Some MarkKind.Reserved
    else (if bytes_eq name (codes "main") || is_some earlier then Some MarkKind.Duplicate else None)

-- the first offence of what is declared behind effective items: what isn't effective is an offence
abbrev pub declared_offence : (before : List Declared) → List Declared → Option MarkKind
declared_offence before [] = None
declared_offence before (item ∷ rest) =
    option_or (item_offence before item) (declared_offence (with_declared before item) rest)

-- ---- each phrase

-- what a phrase is checked against: the effective items of its procedure, those of them that are declared before its
-- node, the type that its node gives to what it declares, if it gives one, the effective heading of each name, and that
-- of an earlier procedure than its own
pub record Surroundings : Type 0 where
  pub items : List Declared
  pub before : List Declared
  pub gives : Option ItemType
  pub headings : List ℕ → Option Signature
  pub earlier : List ℕ → Option Signature

-- the verdict of a phrase: the kind of its first offence, or none
abbrev pub verdict : Surroundings → PlainPhrase → Option MarkKind
verdict s (PlainPhrase.assignment target value) =
    offence_in (both_found (reference_kind s.items target) (kind_of s.items value) of_kind)
verdict s (PlainPhrase.condition e) = offence_in (then_found (kind_of s.items e) (of_kind Kind.Bit))
verdict s (PlainPhrase.expression e) = offence_in (then_found (kind_of s.items e) (of_kind Kind.Fixed))
verdict s (PlainPhrase.expression_list es) = offence_in (kinds_of s.items es)
verdict s (PlainPhrase.variable_list targets) = references_offence s.items targets
verdict s (PlainPhrase.variable_name name) = offence_in (then_found (name_kind s.items name) (of_kind Kind.Fixed))
verdict s (PlainPhrase.call name arguments) = call_offence (s.headings name) (kinds_of s.items arguments)
verdict s (PlainPhrase.declared_list items) = declared_offence s.before (with_type s.gives items)
verdict s (PlainPhrase.procedure_name name) = procedure_offence (s.earlier name) name
verdict s (PlainPhrase.name_list names) = parameters_offence s.items names names
verdict s (PlainPhrase.greatest_length n) = None
verdict s (PlainPhrase.comment bytes) = None
