-- The procedure that a name calls.
use Rattle.std.proofs.Common.{◌≡◌, ◌≢◌, ℕ, ◌≤◌, suc, Bool, true, false, cond, List, [], ◌∷◌, ◌++◌, length, Option, Some, None, option_map, refl, sym, ap, ◌∙◌, arith}
use Rattle.std.specs.Prelude.{◌&&◌, bytes_eq, nat_eq, option_and_then, unwrap_or, Result, Ok, Err}
use Rattle.std.specs.Option.{option_or}
use Rattle.std.proofs.lemmas.Bool.Decides.{nat_tests}
use Rattle.template_tree.specs.Checks.Environment.{Heading, Sig, Signature, heading_of, items_inside, may_be_called, parameter_kinds, procedure_at, signature_for, signature_of}
use Rattle.template_tree.specs.Programs.PlainTree.{Forest, PlainNode}
use Rattle.template_tree.specs.Programs.Slots.{times}
use Rattle.template_tree.specs.Checks.Verdict.{arguments_offence, call_offence, called_offence, offence_in}
use Rattle.plcs_base.specs.declared.declared.Declared.{Declared}
use Rattle.plcs_base.specs.declared.mark.MarkKind.{MarkKind}
use Rattle.plcs_base.specs.declared.value.Kind.{Kind}
use Rattle.decl_table.specs.Knowledge.{heading_parameters}
use Rattle.type_marks.specs.Private.CallArguments.{arguments_judged}

-- a signature is that of the node's heading
module _ (name : List ℕ) (node : PlainNode) where
  by_heading : (h : Option Heading) (signature : Signature) → heading_of node.label.kind node.label.parts ≡ h
      → option_and_then (λ heading. cond (bytes_eq name heading.name && may_be_called name) (Some (signature_of node heading)) None) h ≡ Some signature
      → signature ≡ record { slot = node.label.slot; parameters = parameter_kinds (items_inside node.inner) [] (heading_parameters node) }
  by_heading None signature there is = absurd (cc)
  by_heading (Some heading) signature there is =
      by (bytes_eq name heading.name && may_be_called name) is
      ∙ ap (λ (o : Option Heading).
      let s : Signature = record { slot = node.label.slot; parameters = parameter_kinds (items_inside node.inner) [] (unwrap_or (option_map (λ (h : Heading). h.parameters) o) []) } in s)
      (sym there)
    where
      by : (yes : Bool) → cond yes (Some (signature_of node heading)) None ≡ Some signature → signature ≡ signature_of node heading
      by true is = cc
      by false is = absurd (cc)

  pub signature_is : (signature : Signature) → signature_for name node ≡ Some signature
      → signature ≡ record { slot = node.label.slot; parameters = parameter_kinds (items_inside node.inner) [] (heading_parameters node) }
  signature_is signature is = by_heading (heading_of node.label.kind node.label.parts) signature refl is

-- the procedure in the slot of an effective heading is there, and it has the heading
pub record IsCalled (program : Forest) (name : List ℕ) (signature : Signature) : Type 0 where
  pub node : PlainNode
  pub there : procedure_at program signature.slot ≡ Some node
  pub has : signature_for name node ≡ Some signature

-- how often a slot stands at the first of the nodes
abbrev pub one_if : Bool → ℕ
one_if here = cond here 1 0

-- a slot in which a procedure stands is live
pub slot_lives : (program : Forest) (slot : ℕ) (node : PlainNode) → procedure_at program slot ≡ Some node → 1 ≤ times slot program
slot_lives Forest.nil slot node there = absurd (cc)
slot_lives (Forest.cons label inner rest) slot node there = by (nat_eq label.slot slot) refl there (slot_lives rest slot node)
  where
    by : (here : Bool) → nat_eq label.slot slot ≡ here → cond here (Some record { label = label; inner = inner }) (procedure_at rest slot) ≡ Some node
        → (procedure_at rest slot ≡ Some node → 1 ≤ times slot rest) → 1 ≤ times slot (Forest.cons label inner rest)
    by true here is again =
        let one : one_if (nat_eq label.slot slot) ≡ 1 = ap one_if here in
        omega (arith, one)
    by false here is again = omega (arith, again is)

pub called : (program : Forest) (name : List ℕ) (signature : Signature) → Sig program name ≡ Some signature → times signature.slot program ≤ 1
    → IsCalled program name signature
called Forest.nil name signature is once = absurd (cc)
called (Forest.cons label inner rest) name signature is once =
    by (signature_for name record { label = label; inner = inner }) refl is
    (λ i. called rest name signature i (omega (arith, once)))
  where
    itself : (n : ℕ) → nat_eq n n ≡ true
    itself n = grind (arith, nat_tests)

    later : (here : Bool) → nat_eq label.slot signature.slot ≡ here → IsCalled rest name signature → IsCalled (Forest.cons label inner rest) name signature
    later true here c =
        let one : one_if (nat_eq label.slot signature.slot) ≡ 1 = ap one_if here in
        absurd (omega (arith, one, once, slot_lives rest signature.slot c.node c.there))
    later false here c =
        record { node = c.node; there = ap (λ b. cond b (Some record { label = label; inner = inner }) (procedure_at rest signature.slot)) here ∙ c.there; has = c.has }

    by : (o : Option Signature) → signature_for name record { label = label; inner = inner } ≡ o → option_or o (Sig rest name) ≡ Some signature
        → (Sig rest name ≡ Some signature → IsCalled rest name signature) → IsCalled (Forest.cons label inner rest) name signature
    by None here is again = later (nat_eq label.slot signature.slot) refl (again is)
    by (Some s) here is again =
        let one : s ≡ signature = cc in
        let own : signature_for name record { label = label; inner = inner } ≡ Some signature = here ∙ ap (λ x. Some x) one in
        let slot : signature.slot ≡ label.slot =
        ap (λ (s : Signature). s.slot) (signature_is name record { label = label; inner = inner } signature own) in
        let same : nat_eq label.slot signature.slot ≡ true = ap (nat_eq label.slot) slot ∙ itself label.slot in
        record {
          node = record { label = label; inner = inner };
          there = ap (λ b. cond b (Some record { label = label; inner = inner }) (procedure_at rest signature.slot)) same;
          has = own;
        }

-- ---- what a call comes to

-- an offence in the arguments comes first
pub in_arguments : (signature : Option Signature) (found : Result (List Kind) MarkKind) (offence : MarkKind) → Some offence ≡ offence_in found
    → Some offence ≡ call_offence signature found
in_arguments signature (Ok kinds) offence is = absurd (cc)
in_arguments signature (Err other) offence is = is

pub unknown : (signature : Option Signature) (found : Result (List Kind) MarkKind) → None ≡ offence_in found → signature ≡ None
    → Some MarkKind.UnknownProcedure ≡ call_offence signature found
unknown signature (Err other) fine none = absurd (cc)
unknown signature (Ok kinds) fine none = ap (λ s. called_offence s kinds) (sym none)

-- as many kinds as parameters
pub kinds_of_parameters : (items : List Declared) (earlier names : List (List ℕ)) → length (parameter_kinds items earlier names) ≡ length names
kinds_of_parameters items earlier [] = refl
kinds_of_parameters items earlier (name ∷ names) = ap suc (kinds_of_parameters items (earlier ++ (name ∷ [])) names)

-- the called procedure's heading has these parameters
module _ (called : Option Signature) (signature : Signature) (found : Result (List Kind) MarkKind) (kinds : List Kind)
    (there : called ≡ Some signature) (fine : found ≡ Ok kinds) where
  opened : call_offence called found
      ≡ cond (nat_eq (length kinds) (length signature.parameters)) (arguments_offence signature.parameters kinds) (Some MarkKind.WrongCount)
  opened = ap (λ s. call_offence s found) there ∙ ap (call_offence (Some signature)) fine

  pub wrong_count : length kinds ≢ length signature.parameters → Some MarkKind.WrongCount ≡ call_offence called found
  wrong_count apart =
      sym
      (opened
      ∙ ap (λ b. cond b (arguments_offence signature.parameters kinds) (Some MarkKind.WrongCount)) (by (nat_eq (length kinds) (length signature.parameters)) refl))
    where
      by : (b : Bool) → nat_eq (length kinds) (length signature.parameters) ≡ b → b ≡ false
      by false is = refl
      by true is = absurd (apart (grind (arith, nat_tests)))

  pub right_count : length kinds ≡ length signature.parameters → arguments_judged signature.parameters found ≡ call_offence called found
  right_count same =
      ap (arguments_judged signature.parameters) fine
      ∙ sym
      (opened
      ∙ ap (λ n. cond (nat_eq n (length signature.parameters)) (arguments_offence signature.parameters kinds) (Some MarkKind.WrongCount)) same
      ∙ ap (λ b. cond b (arguments_offence signature.parameters kinds) (Some MarkKind.WrongCount)) (itself_eq (length signature.parameters)))
    where
      itself_eq : (n : ℕ) → nat_eq n n ≡ true
      itself_eq n = grind (arith, nat_tests)

-- what is found without an offence
pub record AreFound (found : Result (List Kind) MarkKind) : Type 0 where
  pub kinds : List Kind
  pub fine : found ≡ Ok kinds

pub are_found : (found : Result (List Kind) MarkKind) → None ≡ offence_in found → AreFound found
are_found (Ok kinds) fine = record { kinds = kinds; fine = refl }
are_found (Err offence) fine = absurd (cc)
