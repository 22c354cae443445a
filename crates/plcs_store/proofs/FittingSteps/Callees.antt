-- A call without an offence has a procedure, which has a variable for each of its arguments.
use Rattle.std.specs.Prelude.{◌≡◌, refl, ℕ, ◌≤◌, ◌==◌, ◌&&◌, Bool, true, false, if◌then◌else◌, bytes_eq, List, [], ◌∷◌, ◌++◌, length, Option, Some, None, is_some, option_and_then, option_map, Result, Ok, Err}
use Rattle.std.specs.List.{list_all, list_any}
use Rattle.std.specs.Option.{option_or}
use Rattle.std.proofs.Common.{ap, sym, ◌∙◌, arith}
use Rattle.std.proofs.lemmas.Bool.{eq-eqb, eqb-true}
use Rattle.std.proofs.lemmas.Option.{none-some, same_Some}
use Rattle.plcs_base.specs.declared.declared.Declared.{Declared}
use Rattle.plcs_base.specs.declared.declared.ItemType.{ItemType}
use Rattle.plcs_base.specs.declared.mark.MarkKind.{MarkKind}
use Rattle.plcs_base.specs.declared.value.Kind.{Kind}
use Rattle.plcs_base.specs.declared.value.Value.{Value}
use Rattle.template_tree.specs.Checks.Environment.{Heading, Sig, Signature, heading_of, item_named, kind_of_type, may_be_called, parameter_kind, parameter_kinds, procedure_at, scalar_kind, signature_for, signature_of}
use Rattle.template_tree.specs.Checks.KindTable.{same_kind}
use Rattle.template_tree.specs.Checks.ParameterItem.{scalar_item}
use Rattle.template_tree.specs.Programs.PlainTree.{Forest, PlainNode}
use Rattle.template_tree.specs.Programs.Slots.{times}
use Rattle.template_tree.specs.Checks.Verdict.{arguments_offence, call_offence}
use Rattle.plcs_store.specs.declared.argument.Argument.{Argument}
use Rattle.plcs_store.specs.declared.cell.Cell.{Cell}
use Rattle.plcs_store.specs.declared.frame.Frame.{Frame}
use Rattle.plcs_store.specs.declared.variable.Variable.{Variable}
use Rattle.plcs_store.specs.CellAt.{Variables, scalar_variable}
use Rattle.plcs_store.specs.NewFrame.{option_before, parameter_named, parameter_of, parameter_variables, reference_parameter}
use Rattle.plcs_store.specs.Spot.{callee_named, callee_of, callee_with}
use Rattle.plcs_store.proofs.FittingSteps.Expressions.{AreArguments, IsArgument}
use Rattle.plcs_store.proofs.FittingSteps.Found.{kind_itself, kinds_same}
use Rattle.plcs_store.proofs.FittingSteps.Locations.{kept_there}
use Rattle.plcs_store.proofs.FittingSteps.PhraseMarks.{named_counted, named_first, named_later}

-- ---- the procedure of a signature

-- a procedure of the program has the signature
pub record HasProcedure (items : Forest) (signature : Signature) : Type 0 where
  pub node : PlainNode
  pub heading : Heading
  pub named : procedure_at items signature.slot ≡ Some node
  pub headed : heading_of node.label.kind node.label.parts ≡ Some heading
  pub is : signature ≡ signature_of node heading

-- a signature is that of a heading
signed_level : (node : PlainNode) (may : Heading → Bool) (found : Option Heading) (signature : Signature)
    → option_and_then (λ (heading : Heading). if may heading then Some (signature_of node heading) else None) found ≡ Some signature
    → (heading : Heading) × (found ≡ Some heading) × (signature ≡ signature_of node heading)
signed_level node may None signature e = absurd (none-some signature e)
signed_level node may (Some heading) signature e = by (may heading) e
  where
    by : (b : Bool) → (if b then Some (signature_of node heading) else None) ≡ Some signature
        → (one : Heading) × (Some heading ≡ Some one) × (signature ≡ signature_of node one)
    by true e = (heading, refl, sym (same_Some (signature_of node heading) signature e))
    by false e = absurd (none-some signature e)

one_if_same : (own slot : ℕ) → own ≡ slot → (let n : ℕ = if own == slot then 1 else 0 in n) ≡ 1
one_if_same own slot same = ap (λ (b : Bool). if b then 1 else 0) (eq-eqb own slot same)

pub procedure_of_signature : (items : Forest) (name : List ℕ) (signature : Signature) → ((slot : ℕ) → times slot items ≤ 1)
    → Sig items name ≡ Some signature → HasProcedure items signature
procedure_of_signature Forest.nil name signature once e = absurd (none-some signature e)
procedure_of_signature (Forest.cons label inner rest) name signature once e =
    by (signature_for name node) refl (procedure_of_signature rest name signature (λ slot. let few = once slot in omega (arith, few))) e
  where
    node : PlainNode
    node = record { label = label; inner = inner }

    by : (found : Option Signature) → signature_for name node ≡ found → (Sig rest name ≡ Some signature → HasProcedure rest signature)
        → option_or found (Sig rest name) ≡ Some signature → HasProcedure (Forest.cons label inner rest) signature
    by None is behind later =
        let there : HasProcedure rest signature = behind later in
        let some : 1 ≤ times signature.slot rest = named_counted rest signature.slot there.node there.named in
        let few : times signature.slot (Forest.cons label inner rest) ≤ 1 = once signature.slot in
        record {
          node = there.node;
          heading = there.heading;
          named =
              named_later label inner rest signature.slot
              (λ same. let one = one_if_same label.slot signature.slot same in omega (arith, few, some, one))
              ∙ there.named;
          headed = there.headed;
          is = there.is;
        }
    by (Some own) is behind later =
        let (heading, headed, same) =
        signed_level node (λ heading. bytes_eq name heading.name && may_be_called name) (heading_of label.kind label.parts) signature (is ∙ later) in
        record {
          node = node;
          heading = heading;
          named = ap (procedure_at (Forest.cons label inner rest)) (ap (λ (s : Signature). s.slot) same) ∙ named_first label inner rest;
          headed = headed;
          is = same;
        }

-- ---- what a call takes

-- parameters of these kinds take arguments of these kinds
abbrev pub Takes : List (Option Kind) → List Kind → Type 0
Takes [] [] = Unit {0}
Takes [] (kind ∷ kinds) = ⊥
Takes (parameter ∷ parameters) [] = ⊥
Takes (None ∷ parameters) (kind ∷ kinds) = ⊥
Takes (Some parameter ∷ parameters) (kind ∷ kinds) = (parameter ≡ kind) × Takes parameters kinds

takes : (parameters : List (Option Kind)) (kinds : List Kind) → length kinds ≡ length parameters → arguments_offence parameters kinds ≡ None
    → Takes parameters kinds
takes [] [] same e = tt
takes [] (kind ∷ kinds) same e = absurd (omega (arith, same))
takes (parameter ∷ parameters) [] same e = absurd (omega (arith, same))
takes (None ∷ parameters) (kind ∷ kinds) same e = absurd (none-some MarkKind.ArgumentType (sym e))
takes (Some parameter ∷ parameters) (kind ∷ kinds) same e =
    by (same_kind parameter kind) refl (takes parameters kinds (omega (arith, same))) e
  where
    by : (b : Bool) → same_kind parameter kind ≡ b → (arguments_offence parameters kinds ≡ None → Takes parameters kinds)
        → (if b then arguments_offence parameters kinds else Some MarkKind.ArgumentType) ≡ None
        → Takes (Some parameter ∷ parameters) (kind ∷ kinds)
    by true is rest none = (kinds_same parameter kind is, rest none)
    by false is rest none = absurd (none-some MarkKind.ArgumentType (sym none))

all_kinds : (parameters : List (Option Kind)) (kinds : List Kind) → Takes parameters kinds → list_all is_some parameters ≡ true
all_kinds [] kinds take = refl
all_kinds (parameter ∷ parameters) [] take = absurd take
all_kinds (None ∷ parameters) (kind ∷ kinds) take = absurd take
all_kinds (Some parameter ∷ parameters) (kind ∷ kinds) take = all_kinds parameters kinds take.1

-- what is known of a call without an offence
pub record IsCallable (signature : Option Signature) (arguments : Result (List Kind) MarkKind) : Type 0 where
  pub sig : Signature
  pub known : signature ≡ Some sig
  pub kinds : List Kind
  pub found : arguments ≡ Ok kinds
  pub take : Takes sig.parameters kinds

pub callable : (signature : Option Signature) (arguments : Result (List Kind) MarkKind) → call_offence signature arguments ≡ None
    → IsCallable signature arguments
callable signature (Err offence) e = absurd (none-some offence (sym e))
callable None (Ok kinds) e = absurd (none-some MarkKind.UnknownProcedure (sym e))
callable (Some sig) (Ok kinds) e = by (length kinds == length sig.parameters) refl e
  where
    by : (b : Bool) → (length kinds == length sig.parameters) ≡ b
        → (if b then arguments_offence sig.parameters kinds else Some MarkKind.WrongCount) ≡ None
        → IsCallable (Some sig) (Ok kinds)
    by true is none =
        record {
          sig = sig;
          known = refl;
          kinds = kinds;
          found = refl;
          take = takes sig.parameters kinds (eqb-true (length kinds) (length sig.parameters) is) none;
        }
    by false is none = absurd (none-some MarkKind.WrongCount (sym none))

-- what a call needs of the procedure
pub callee_there : (program : Forest) (name : List ℕ) (sig : Signature) (kinds : List Kind) (has : HasProcedure program sig)
    → Sig program name ≡ Some sig → Takes sig.parameters kinds → callee_named program name ≡ Some (callee_with has.node has.heading)
callee_there program name sig kinds has known take =
    ap (option_and_then (λ (signature : Signature). option_and_then (callee_of signature) (procedure_at program signature.slot))) known
    ∙ (ap (option_and_then (callee_of sig)) has.named
    ∙ (ap (λ (b : Bool). if b then option_map (callee_with has.node) (heading_of has.node.label.kind has.node.label.parts) else None)
    (all_kinds sig.parameters kinds take)
    ∙ ap (option_map (callee_with has.node)) has.headed))

-- ---- the parameters of the new frame

-- the item of a parameter that has a kind
parameter_item : (items : List Declared) (earlier : List (List ℕ)) (name : List ℕ) (kind : Kind) → parameter_kind items earlier name ≡ Some kind
    → (item : Declared) × (option_and_then scalar_item (item_named name items) ≡ Some item) × (kind_of_type item.ty ≡ kind)
parameter_item items earlier name kind e = by (list_any (bytes_eq name) earlier) (item_named name items) e
  where
    scalar : (item : Declared) (b : Bool) → (if b then Some (kind_of_type item.ty) else None) ≡ Some kind
        → (b ≡ true) × (kind_of_type item.ty ≡ kind)
    scalar item true e = (refl, same_Some (kind_of_type item.ty) kind e)
    scalar item false e = absurd (none-some kind e)

    by : (named : Bool) (found : Option Declared) → (if named then None else option_and_then scalar_kind found) ≡ Some kind
        → (item : Declared) × (option_and_then scalar_item found ≡ Some item) × (kind_of_type item.ty ≡ kind)
    by true found e = absurd (none-some kind e)
    by false None e = absurd (none-some kind e)
    by false (Some item) e =
        let is = scalar item (item.size == 0) e in (item, ap (λ (b : Bool). if b then Some item else None) is.0, is.1)

module _ (frames : List Frame) where
  parameter_there : (ty : ItemType) (kind : Kind) (argument : Argument) → kind_of_type ty ≡ kind → IsArgument frames kind argument
      → (variable : Variable) × (parameter_of frames ty argument ≡ Some variable)
  parameter_there ty kind (Argument.Reference location) is target = (
    scalar_variable ty (Cell.Ref location),
    ap (option_and_then (reference_parameter ty location)) target.there
        ∙ ap (λ (b : Bool). if b then Some (scalar_variable ty (Cell.Ref location)) else None)
        (ap (same_kind (kind_of_type ty)) (target.kind_is ∙ sym is) ∙ kind_itself (kind_of_type ty)),
  )
  parameter_there ty kind (Argument.Dummy value) is of =
      let (kept, e) = kept_there ty value (of ∙ sym is) in
      (scalar_variable ty (Cell.Held kept), ap (option_map (λ (v : Value). scalar_variable ty (Cell.Held v))) e)

  named_there : (items : List Declared) (earlier : List (List ℕ)) (name : List ℕ) (kind : Kind) (argument : Argument)
      → parameter_kind items earlier name ≡ Some kind → IsArgument frames kind argument
      → (one : List ℕ × Variable) × (parameter_named frames items name argument ≡ Some one)
  named_there items earlier name kind argument e is =
      let (item, there, item_kind) = parameter_item items earlier name kind e in
      let (variable, made) = parameter_there item.ty kind argument item_kind is in (
        (name, variable),
        ap (option_and_then (λ (one : Declared). option_map (λ (v : Variable). (name, v)) (parameter_of frames one.ty argument))) there
            ∙ ap (option_map (λ (v : Variable). (name, v))) made,
      )

  pub parameters_there : (items : List Declared) (earlier names : List (List ℕ)) (kinds : List Kind) (arguments : List Argument)
      → Takes (parameter_kinds items earlier names) kinds → AreArguments frames kinds arguments
      → (variables : Variables) × (parameter_variables frames items names arguments ≡ Some variables)
  parameters_there items earlier [] [] [] take are = ([], refl)
  parameters_there items earlier [] [] (argument ∷ arguments) take are = absurd are
  parameters_there items earlier [] (kind ∷ kinds) arguments take are = absurd take
  parameters_there items earlier (name ∷ names) [] arguments take are = absurd take
  parameters_there items earlier (name ∷ names) (kind ∷ kinds) [] take are = absurd are
  parameters_there items earlier (name ∷ names) (kind ∷ kinds) (argument ∷ arguments) take are =
      by (parameter_kind items earlier name) refl
      (λ others. parameters_there items (earlier ++ (name ∷ [])) names kinds arguments others are.1) take
    where
      by : (own : Option Kind) → parameter_kind items earlier name ≡ own
          → (Takes (parameter_kinds items (earlier ++ (name ∷ [])) names) kinds
          → (variables : Variables) × (parameter_variables frames items names arguments ≡ Some variables))
          → Takes (own ∷ parameter_kinds items (earlier ++ (name ∷ [])) names) (kind ∷ kinds)
          → (variables : Variables) × (parameter_variables frames items (name ∷ names) (argument ∷ arguments) ≡ Some variables)
      by None e more take = absurd take
      by (Some own) e more take =
          let (one, first) = named_there items earlier name kind argument (e ∙ ap Some take.0) are.0 in
          let (behind, others) = more take.1 in (
            one ∷ behind,
            ap (λ (o : Option (List ℕ × Variable)). option_before o (parameter_variables frames items names arguments)) first
                ∙ ap (option_map (λ (vs : Variables). one ∷ vs)) others,
          )
