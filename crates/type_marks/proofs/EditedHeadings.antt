-- Whether a name heads a procedure before another one, where an edit at a slot changes no heading of the name.
use Rattle.std.proofs.Common.{◌≡◌, ℕ, Bool, true, false, List, [], ◌∷◌, ◌++◌, Option, Some, None, refl, ap, sym, subst, ◌∙◌, arith, eq-eqb, eqb-true, ne_eqb, true≢false}
use Rattle.std.specs.Prelude.{◌==◌, ◌&&◌, ◌||◌, bytes_eq, Contains, flat_map, if◌then◌else◌, is_some, option_and_then}
use Rattle.std.specs.Option.{option_or}
use Rattle.std.proofs.lemmas.List.Concat.{flat_map-cons}
use Rattle.std.proofs.lemmas.List.Elements.{Contains-append_left}
use Rattle.std.proofs.lemmas.Option.{none-some}
use Rattle.std.proofs.lemmas.Slice.Eq.{bytes_eq-Decides}
use Rattle.plcs_grammar.specs.PlainPhrase.{PlainPhrase}
use Rattle.plcs_grammar.specs.declared.node_kind.NodeKind.{NodeKind}
use Rattle.plcs_grammar.specs.declared.template.Template.{Template}
use Rattle.template_tree.specs.Checks.Environment.{Heading, Sig, Signature, heading_of, heading_with, may_be_called, name_given, name_of_procedure, parameters_given, signature_for, signature_of}
use Rattle.template_tree.specs.Checks.Marks.{procedures_before}
use Rattle.template_tree.specs.Edits.Edit.{edit_slot}
use Rattle.template_tree.specs.Programs.PlainTree.{Forest, Label, PlainNode, forest, join, roomless_node}
use Rattle.template_tree.specs.Programs.Program.{sort_of}
use Rattle.decl_table.specs.Due.{binds_names, bound_names, part_names}
use Rattle.type_marks.proofs.SlotNodes.{AllOf, AreIn, AtSlot}

some_or : {A : Type 0} (a b : Option A) → is_some (option_or a b) ≡ (is_some a || is_some b)
some_or None b = refl
some_or (Some x) b = refl

-- ---- which node has a heading of the name

-- whether a node has an effective heading of a name is told by its kind and its parts
heads_by : (name : List ℕ) (one other : PlainNode) (heading : Option Heading)
    → is_some
    (option_and_then (λ (h : Heading). if bytes_eq name h.name && may_be_called name then Some (signature_of one h) else None) heading)
    ≡ is_some
    (option_and_then (λ (h : Heading). if bytes_eq name h.name && may_be_called name then Some (signature_of other h) else None) heading)
heads_by name one other None = refl
heads_by name one other (Some h) = by (bytes_eq name h.name && may_be_called name)
  where
    by : (b : Bool)
        → is_some (if b then Some (signature_of one h) else (let none : Option Signature = None in none))
        ≡ is_some (if b then Some (signature_of other h) else (let none : Option Signature = None in none))
    by true = refl
    by false = refl

pub heads_alike : (name : List ℕ) (label : Label) (inner other : Forest)
    → is_some (signature_for name (record { label = label; inner = inner })) ≡ is_some (signature_for name (record { label = label; inner = other }))
heads_alike name label inner other =
    heads_by name (record { label = label; inner = inner }) (record { label = label; inner = other }) (heading_of label.kind label.parts)

pub heads_roomless : (name : List ℕ) (node : PlainNode)
    → is_some (signature_for name (roomless_node node)) ≡ is_some (signature_for name node)
heads_roomless name node = heads_by name (roomless_node node) node (heading_of node.label.kind node.label.parts)

-- a whole heading has the name in its first part, and its node binds names
with_name : (name : Option (List ℕ)) (parameters : Option (List (List ℕ))) (heading : Heading)
    → heading_with name parameters ≡ Some heading → name ≡ Some heading.name
with_name None parameters heading is = absurd (none-some heading is)
with_name (Some name) None heading is = absurd (none-some heading is)
with_name (Some name) (Some parameters) heading is =
    let same : record { name = name; parameters = parameters } ≡ heading = cc in
    ap (λ (h : Heading). Some h.name) same

pub heading_binds : (kind : NodeKind) (parts : List (Option PlainPhrase)) (heading : Heading) → heading_of kind parts ≡ Some heading
    → (binds_names (sort_of kind) ≡ true) × (name_given parts ≡ Some heading.name)
heading_binds NodeKind.DeclarationHole parts heading is = absurd (none-some heading is)
heading_binds NodeKind.StatementHole parts heading is = absurd (none-some heading is)
heading_binds NodeKind.ProcedureHole parts heading is = absurd (none-some heading is)
heading_binds NodeKind.Main parts heading is = absurd (none-some heading is)
heading_binds NodeKind.Assign parts heading is = absurd (none-some heading is)
heading_binds (NodeKind.Filled Template.Fixed) parts heading is = absurd (none-some heading is)
heading_binds (NodeKind.Filled Template.Bit) parts heading is = absurd (none-some heading is)
heading_binds (NodeKind.Filled Template.Char) parts heading is = absurd (none-some heading is)
heading_binds (NodeKind.Filled Template.If) parts heading is = absurd (none-some heading is)
heading_binds (NodeKind.Filled Template.IfElse) parts heading is = absurd (none-some heading is)
heading_binds (NodeKind.Filled Template.While) parts heading is = absurd (none-some heading is)
heading_binds (NodeKind.Filled Template.For) parts heading is = absurd (none-some heading is)
heading_binds (NodeKind.Filled Template.Until) parts heading is = absurd (none-some heading is)
heading_binds (NodeKind.Filled Template.Group) parts heading is = absurd (none-some heading is)
heading_binds (NodeKind.Filled Template.Get) parts heading is = absurd (none-some heading is)
heading_binds (NodeKind.Filled Template.Put) parts heading is = absurd (none-some heading is)
heading_binds (NodeKind.Filled Template.PutSkip) parts heading is = absurd (none-some heading is)
heading_binds (NodeKind.Filled Template.Call) parts heading is = absurd (none-some heading is)
heading_binds (NodeKind.Filled Template.Return) parts heading is = absurd (none-some heading is)
heading_binds (NodeKind.Filled Template.Comment) parts heading is = absurd (none-some heading is)
heading_binds (NodeKind.Filled Template.Proc) parts heading is = (refl, with_name (name_given parts) (Some []) heading is)
heading_binds (NodeKind.Filled Template.ProcP) parts heading is =
    (refl, with_name (name_given parts) (parameters_given parts) heading is)

-- the name of a procedure is among the names of its part
named : (phrase : PlainPhrase) (name : List ℕ) → name_of_procedure phrase ≡ Some name → Contains (part_names (Some phrase)) name
named (PlainPhrase.procedure_name given) name is =
    let same : given ≡ name = cc in
    (0, omega arith, same)
named other name is = absurd (none-some name is)

first_named : (parts : List (Option PlainPhrase)) (name : List ℕ) → name_given parts ≡ Some name → Contains (flat_map part_names parts) name
first_named [] name is = absurd (none-some name is)
first_named (None ∷ parts) name is = absurd (none-some name is)
first_named (Some phrase ∷ parts) name is =
    subst (λ (names : List (List ℕ)). Contains names name) (sym (flat_map-cons part_names (Some phrase) parts))
    (Contains-append_left (part_names (Some phrase)) (flat_map part_names parts) name (named phrase name is))

-- so a node that heads a procedure of the name binds it
pub heads_bound : (name : List ℕ) (label : Label) (inner others : Forest)
    → is_some (signature_for name (record { label = label; inner = inner })) ≡ true
    → Contains (bound_names (Forest.cons label others Forest.nil)) name
heads_bound name label inner others is = by (heading_of label.kind label.parts) refl is
  where
    judge : Heading → Option Signature
    judge h = if bytes_eq name h.name && may_be_called name then Some (signature_of (record { label = label; inner = inner }) h) else None

    tested : (a b : Bool) (s : Signature) → is_some (if a && b then Some s else None) ≡ true → a ≡ true
    tested true b s e = refl
    tested false b s e = absurd (true≢false (sym e))

    by : (heading : Option Heading) → heading_of label.kind label.parts ≡ heading → is_some (option_and_then judge heading) ≡ true
        → Contains (bound_names (Forest.cons label others Forest.nil)) name
    by None none e = absurd (true≢false (sym e))
    by (Some h) has e =
        let binds = heading_binds label.kind label.parts h has in
        let own : name ≡ h.name =
        (bytes_eq-Decides name h.name).0
        (tested (bytes_eq name h.name) (may_be_called name) (signature_of (record { label = label; inner = inner }) h) e) in
        let there : Contains (flat_map part_names label.parts) name =
        subst (Contains (flat_map part_names label.parts)) (sym own) (first_named label.parts h.name binds.1) in
        subst (λ (b : Bool). Contains ((if b then flat_map part_names label.parts ++ bound_names others else []) ++ []) name)
        (sym binds.0)
        (Contains-append_left (flat_map part_names label.parts ++ bound_names others) [] name
        (Contains-append_left (flat_map part_names label.parts) (bound_names others) name there))

-- where it doesn't bind the name it heads no procedure of it
pub headless : (name : List ℕ) (label : Label) (inner others : Forest)
    → (Contains (bound_names (Forest.cons label others Forest.nil)) name → ⊥)
    → is_some (signature_for name (record { label = label; inner = inner })) ≡ false
headless name label inner others unbound = by (is_some (signature_for name (record { label = label; inner = inner }))) refl
  where
    by : (b : Bool) → is_some (signature_for name (record { label = label; inner = inner })) ≡ b → b ≡ false
    by true e = absurd (unbound (heads_bound name label inner others e))
    by false e = refl

-- ---- earlier headings

-- the node heads no procedure of the name
abbrev pub IsHeadless : List ℕ → PlainNode → Type 0
IsHeadless name node = is_some (signature_for name node) ≡ false

module _ (slot : ℕ) (change : PlainNode → List PlainNode) (name : List ℕ) (own : ℕ) where
  -- what comes for a node is in its slot, and heads no procedure of the name, as it did not; something comes for the
  -- procedure itself
  pub record GivesHeadless (node : PlainNode) : Type 0 where
    pub gone : IsHeadless name node
    pub came : AllOf (IsHeadless name) (change node)
    pub in_slot : AreIn slot (change node)
    pub some : slot ≡ own → (first : PlainNode) × (change node ≡ first ∷ [])

  others_before : (slot ≡ own → ⊥) → (came : List PlainNode) (rest : Forest) → AreIn slot came → AllOf (IsHeadless name) came
      → is_some (Sig (procedures_before (join (forest came) rest) own) name) ≡ is_some (Sig (procedures_before rest own) name)
  others_before other [] rest are none = refl
  others_before other (node ∷ came) rest are none =
      ap
      (λ (b : Bool).
      is_some (Sig (if b then Forest.nil else Forest.cons node.label node.inner (procedures_before (join (forest came) rest) own)) name))
      (ne_eqb node.label.slot own (λ e. other (sym are.0 ∙ e)))
      ∙ some_or (signature_for name node) (Sig (procedures_before (join (forest came) rest) own) name)
      ∙ ap (λ (b : Bool). b || is_some (Sig (procedures_before (join (forest came) rest) own) name)) none.0
      ∙ others_before other came rest are.1 none.1

  pub earlier_alike : (items : Forest) → AtSlot slot GivesHeadless items
      → is_some (Sig (procedures_before items own) name) ≡ is_some (Sig (procedures_before (edit_slot slot change items) own) name)
  earlier_alike Forest.nil are = refl
  earlier_alike (Forest.cons label inner rest) are = by (label.slot == slot) refl (earlier_alike rest are.2)
    where
      item : PlainNode
      item = record { label = label; inner = inner }

      before : is_some (Sig (procedures_before rest own) name) ≡ is_some (Sig (procedures_before (edit_slot slot change rest) own) name)
          → (d : Bool)
          → is_some (Sig (if d then Forest.nil else Forest.cons label inner (procedures_before rest own)) name)
          ≡ is_some
          (Sig (if d then Forest.nil else Forest.cons label (edit_slot slot change inner) (procedures_before (edit_slot slot change rest) own)) name)
      before again true = refl
      before again false =
          some_or (signature_for name item) (Sig (procedures_before rest own) name)
          ∙ (λ i. heads_alike name label inner (edit_slot slot change inner) i || again i)
          ∙ sym
          (some_or (signature_for name (record { label = label; inner = edit_slot slot change inner }))
          (Sig (procedures_before (edit_slot slot change rest) own) name))

      given : label.slot ≡ slot
          → is_some (Sig (procedures_before rest own) name) ≡ is_some (Sig (procedures_before (edit_slot slot change rest) own) name)
          → (d : Bool) → (label.slot == own) ≡ d
          → is_some (Sig (if d then Forest.nil else Forest.cons label inner (procedures_before rest own)) name)
          ≡ is_some (Sig (procedures_before (join (forest (change item)) (edit_slot slot change rest)) own) name)
      given here again true e =
          let is : slot ≡ own = sym here ∙ eqb-true label.slot own e in
          let one = (are.0 here).some is in
          let in_it : one.0.label.slot ≡ own =
          (subst (AreIn slot) one.1 (are.0 here).in_slot).0 ∙ is in
          sym
          (ap (λ (came : List PlainNode). is_some (Sig (procedures_before (join (forest came) (edit_slot slot change rest)) own) name)) one.1
          ∙ ap
          (λ (b : Bool).
          is_some (Sig (if b then Forest.nil else Forest.cons one.0.label one.0.inner (procedures_before (edit_slot slot change rest) own)) name))
          (eq-eqb one.0.label.slot own in_it))
      given here again false e =
          some_or (signature_for name item) (Sig (procedures_before rest own) name)
          ∙ ap (λ (b : Bool). b || is_some (Sig (procedures_before rest own) name)) (are.0 here).gone
          ∙ again
          ∙ sym
          (others_before (λ is. true≢false (sym (eq-eqb label.slot own (here ∙ is)) ∙ e)) (change item) (edit_slot slot change rest)
          (are.0 here).in_slot (are.0 here).came)

      by : (b : Bool) → (label.slot == slot) ≡ b
          → is_some (Sig (procedures_before rest own) name) ≡ is_some (Sig (procedures_before (edit_slot slot change rest) own) name)
          → is_some (Sig (procedures_before (Forest.cons label inner rest) own) name)
          ≡ is_some
          (Sig
          (procedures_before
          (if b then join (forest (change item)) (edit_slot slot change rest)
          else Forest.cons label (edit_slot slot change inner) (edit_slot slot change rest))
          own)
          name)
      by true e again = given (eqb-true label.slot slot e) again (label.slot == own) refl
      by false e again = before again (label.slot == own)
