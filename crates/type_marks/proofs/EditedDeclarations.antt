-- What is declared before a node and the type that it gives, where an edit at a slot changes no declaration, or where
-- the node is no declaration of the procedure.
use Rattle.std.proofs.Common.{◌≡◌, ℕ, zero, suc, ◌+◌, ◌≤◌, Bool, true, false, List, [], ◌∷◌, ◌++◌, Option, Some, None, refl, ap, sym, subst, ◌∙◌, arith, eq-eqb, eqb-true, ne_eqb, true≢false}
use Rattle.std.specs.Prelude.{◌==◌, ◌||◌, Contains, if◌then◌else◌}
use Rattle.std.specs.Option.{option_or}
use Rattle.std.proofs.lemmas.List.Elements.{Contains-append_left, Contains-append_right}
use Rattle.std.proofs.lemmas.Option.{none-some, same_Some}
use Rattle.plcs_base.specs.declared.declared.Declared.{Declared}
use Rattle.plcs_base.specs.declared.declared.ItemType.{ItemType}
use Rattle.plcs_base.specs.declared.place.PhraseAt.{PhraseAt}
use Rattle.plcs_grammar.specs.PlainPhrase.{PlainPhrase}
use Rattle.plcs_grammar.specs.declared.node_kind.NodeKind.{NodeKind}
use Rattle.plcs_grammar.specs.declared.template.Template.{Template}
use Rattle.template_tree.specs.Checks.Environment.{declares, list_items, type_given, with_type}
use Rattle.template_tree.specs.Checks.Marks.{declared_before, type_in}
use Rattle.template_tree.specs.Checks.Mention.{phrase_at}
use Rattle.template_tree.specs.Edits.Edit.{edit_slot}
use Rattle.template_tree.specs.Programs.Part.{part_at}
use Rattle.template_tree.specs.Programs.PlainTree.{Forest, Label, PlainNode, forest, join, roomless}
use Rattle.template_tree.specs.Programs.Program.{sort_of}
use Rattle.template_tree.specs.Programs.Slots.{times}
use Rattle.decl_table.specs.Due.{all_list_places, binds_names, is_name_list, list_place, list_places}
use Rattle.type_marks.proofs.FoundPhrases.{once_here, own_apart, own_here, own_phrase, phrase_absent, phrase_in}
use Rattle.type_marks.proofs.PhrasePlaces.{label_walked}
use Rattle.type_marks.proofs.SlotNodes.{AllOf, AreIn, AtSlot}

-- ---- nodes that bind no names declare nothing

pub no_type : (kind : NodeKind) (parts : List (Option PlainPhrase)) → binds_names (sort_of kind) ≡ false → type_given kind parts ≡ None
no_type NodeKind.DeclarationHole parts other = refl
no_type NodeKind.StatementHole parts other = refl
no_type NodeKind.ProcedureHole parts other = refl
no_type NodeKind.Main parts other = refl
no_type NodeKind.Assign parts other = refl
no_type (NodeKind.Filled Template.Fixed) parts other = absurd (true≢false other)
no_type (NodeKind.Filled Template.Bit) parts other = absurd (true≢false other)
no_type (NodeKind.Filled Template.Char) parts other = absurd (true≢false other)
no_type (NodeKind.Filled Template.If) parts other = refl
no_type (NodeKind.Filled Template.IfElse) parts other = refl
no_type (NodeKind.Filled Template.While) parts other = refl
no_type (NodeKind.Filled Template.For) parts other = refl
no_type (NodeKind.Filled Template.Until) parts other = refl
no_type (NodeKind.Filled Template.Group) parts other = refl
no_type (NodeKind.Filled Template.Get) parts other = refl
no_type (NodeKind.Filled Template.Put) parts other = refl
no_type (NodeKind.Filled Template.PutSkip) parts other = refl
no_type (NodeKind.Filled Template.Call) parts other = refl
no_type (NodeKind.Filled Template.Return) parts other = refl
no_type (NodeKind.Filled Template.Comment) parts other = refl
no_type (NodeKind.Filled Template.Proc) parts other = refl
no_type (NodeKind.Filled Template.ProcP) parts other = refl

-- a node that gives no type
abbrev pub GivesNone : PlainNode → Type 0
GivesNone node = type_given node.label.kind node.label.parts ≡ None

declares_none : (node : PlainNode) → GivesNone node → declares node.label ≡ []
declares_none node none = ap (λ (t : Option ItemType). with_type t (list_items node.label.parts)) none

module _ (s : ℕ) (change : PlainNode → List PlainNode) where
  -- a node that gives no type gives way to such ones in its slot
  pub record GivesQuietly (node : PlainNode) : Type 0 where
    pub gone : GivesNone node
    pub came : AllOf GivesNone (change node)
    pub in_slot : AreIn s (change node)

  -- ---- what is declared before another node

  before_behind : (at : ℕ) → (at ≡ s → ⊥) → (came : List PlainNode) (rest : Forest) → AreIn s came → AllOf GivesNone came
      → declared_before (join (forest came) rest) at ≡ declared_before rest at
  before_behind at other [] rest are none = refl
  before_behind at other (node ∷ came) rest are none =
      ap (λ (b : Bool). if b then [] else declares node.label ++ declared_before (join (forest came) rest) at)
      (ne_eqb node.label.slot at (λ e. other (sym e ∙ are.0)))
      ∙ ap (λ (ds : List Declared). ds ++ declared_before (join (forest came) rest) at) (declares_none node none.0)
      ∙ before_behind at other came rest are.1 none.1

  pub before_same : (at : ℕ) → (at ≡ s → ⊥) → (nodes : Forest) → AtSlot s GivesQuietly nodes
      → declared_before nodes at ≡ declared_before (edit_slot s change nodes) at
  before_same at other Forest.nil quiet = refl
  before_same at other (Forest.cons label inner rest) quiet = by (label.slot == s) refl (before_same at other rest quiet.2)
    where
      by : (b : Bool) → (label.slot == s) ≡ b → declared_before rest at ≡ declared_before (edit_slot s change rest) at
          → (if label.slot == at then [] else declares label ++ declared_before rest at)
          ≡ declared_before
          (if b then join (forest (change (record { label = label; inner = inner }))) (edit_slot s change rest)
          else Forest.cons label (edit_slot s change inner) (edit_slot s change rest))
          at
      by true e again =
          let item : PlainNode = record { label = label; inner = inner } in
          let same = eqb-true label.slot s e in
          let here = quiet.0 same in
          ap (λ (b : Bool). if b then [] else declares label ++ declared_before rest at)
          (ne_eqb label.slot at (λ is. other (sym is ∙ same)))
          ∙ ap (λ (ds : List Declared). ds ++ declared_before rest at) (declares_none item here.gone)
          ∙ again
          ∙ sym (before_behind at other (change item) (edit_slot s change rest) here.in_slot here.came)
      by false e again =
          ap (λ (ds : List Declared). if label.slot == at then [] else declares label ++ ds) again

  -- ---- the type that another node gives

  type_behind : (at : ℕ) → (at ≡ s → ⊥) → (came : List PlainNode) (rest : Forest) → AreIn s came
      → type_in (join (forest came) rest) at ≡ type_in rest at
  type_behind at other [] rest are = refl
  type_behind at other (node ∷ came) rest are =
      ap (λ (b : Bool). if b then type_given node.label.kind node.label.parts else type_in (join (forest came) rest) at)
      (ne_eqb node.label.slot at (λ e. other (sym e ∙ are.0)))
      ∙ type_behind at other came rest are.1

  pub type_same : (at : ℕ) → (at ≡ s → ⊥) → (nodes : Forest) → AtSlot s (λ node. AreIn s (change node)) nodes
      → type_in nodes at ≡ type_in (edit_slot s change nodes) at
  type_same at other Forest.nil are = refl
  type_same at other (Forest.cons label inner rest) are = by (label.slot == s) refl (type_same at other rest are.2)
    where
      by : (b : Bool) → (label.slot == s) ≡ b → type_in rest at ≡ type_in (edit_slot s change rest) at
          → (if label.slot == at then type_given label.kind label.parts else type_in rest at)
          ≡ type_in
          (if b then join (forest (change (record { label = label; inner = inner }))) (edit_slot s change rest)
          else Forest.cons label (edit_slot s change inner) (edit_slot s change rest))
          at
      by true e again =
          let same = eqb-true label.slot s e in
          ap (λ (b : Bool). if b then type_given label.kind label.parts else type_in rest at)
          (ne_eqb label.slot at (λ is. other (sym is ∙ same)))
          ∙ again
          ∙ sym (type_behind at other (change (record { label = label; inner = inner })) (edit_slot s change rest) (are.0 same))
      by false e again =
          ap (λ (t : Option ItemType). if label.slot == at then type_given label.kind label.parts else t) again

  -- ---- the node in the slot itself

  none_behind : (came : List PlainNode) (rest : Forest) → AllOf GivesNone came → type_in rest s ≡ None
      → type_in (join (forest came) rest) s ≡ None
  none_behind [] rest none behind = behind
  none_behind (node ∷ came) rest none behind =
      either (node.label.slot == s) (type_in (join (forest came) rest) s) none.0 (none_behind came rest none.1 behind)
    where
      either : (b : Bool) (others : Option ItemType) → type_given node.label.kind node.label.parts ≡ None → others ≡ None
          → (if b then type_given node.label.kind node.label.parts else others) ≡ None
      either true others own later = own
      either false others own later = later

  pub none_before : (nodes : Forest) → AtSlot s GivesNone nodes → type_in nodes s ≡ None
  none_before Forest.nil none = refl
  none_before (Forest.cons label inner rest) none = by (label.slot == s) refl (none_before rest none.2)
    where
      by : (b : Bool) → (label.slot == s) ≡ b → type_in rest s ≡ None
          → (if b then type_given label.kind label.parts else type_in rest s) ≡ None
      by true e again = none.0 (eqb-true label.slot s e)
      by false e again = again

  pub none_after : (nodes : Forest) → AtSlot s (λ node. AllOf GivesNone (change node)) nodes → type_in (edit_slot s change nodes) s ≡ None
  none_after Forest.nil none = refl
  none_after (Forest.cons label inner rest) none = by (label.slot == s) refl (none_after rest none.2)
    where
      by : (b : Bool) → (label.slot == s) ≡ b → type_in (edit_slot s change rest) s ≡ None
          → type_in
          (if b then join (forest (change (record { label = label; inner = inner }))) (edit_slot s change rest)
          else Forest.cons label (edit_slot s change inner) (edit_slot s change rest))
          s
          ≡ None
      by true e again =
          none_behind (change (record { label = label; inner = inner })) (edit_slot s change rest) (none.0 (eqb-true label.slot s e)) again
      by false e again =
          ap (λ (b : Bool). if b then type_given label.kind label.parts else type_in (edit_slot s change rest) s) e ∙ again

-- ---- whether a node is one of the declarations and statements of a procedure

-- whether one of the nodes, and none inside them, is in the slot
abbrev pub is_top : ℕ → Forest → Bool
is_top at Forest.nil = false
is_top at (Forest.cons label inner rest) = (label.slot == at) || is_top at rest

pub or_true : (a b : Bool) → (a || b) ≡ false → (a ≡ false) × (b ≡ false)
or_true true b is = absurd (true≢false is)
or_true false b is = (refl, is)

pub no_top_type : (at : ℕ) (nodes : Forest) → is_top at nodes ≡ false → type_in nodes at ≡ None
no_top_type at Forest.nil none = refl
no_top_type at (Forest.cons label inner rest) none =
    let both = or_true (label.slot == at) (is_top at rest) none in
    ap (λ (b : Bool). if b then type_given label.kind label.parts else type_in rest at) both.0 ∙ no_top_type at rest both.1

top_join : (at : ℕ) (one other : Forest) → is_top at (join one other) ≡ (is_top at one || is_top at other)
top_join at Forest.nil other = refl
top_join at (Forest.cons label inner rest) other =
    ap (λ (b : Bool). (label.slot == at) || b) (top_join at rest other) ∙ assoc (label.slot == at)
  where
    assoc : (a : Bool) → (a || (is_top at rest || is_top at other)) ≡ ((a || is_top at rest) || is_top at other)
    assoc true = refl
    assoc false = refl

pub top_edited : (s : ℕ) (change : PlainNode → List PlainNode) (at : ℕ) (nodes : Forest)
    → AtSlot s (λ node. is_top at (forest (change node)) ≡ (node.label.slot == at)) nodes
    → is_top at (edit_slot s change nodes) ≡ is_top at nodes
top_edited s change at Forest.nil alike = refl
top_edited s change at (Forest.cons label inner rest) alike = by (label.slot == s) refl (top_edited s change at rest alike.2)
  where
    by : (b : Bool) → (label.slot == s) ≡ b → is_top at (edit_slot s change rest) ≡ is_top at rest
        → is_top at
        (if b then join (forest (change (record { label = label; inner = inner }))) (edit_slot s change rest)
        else Forest.cons label (edit_slot s change inner) (edit_slot s change rest))
        ≡ is_top at (Forest.cons label inner rest)
    by true e again =
        top_join at (forest (change (record { label = label; inner = inner }))) (edit_slot s change rest)
        ∙ (λ i. alike.0 (eqb-true label.slot s e) i || again i)
    by false e again = ap (λ (b : Bool). (label.slot == at) || b) again

pub top_roomless : (at : ℕ) (nodes : Forest) → is_top at (roomless nodes) ≡ is_top at nodes
top_roomless at Forest.nil = refl
top_roomless at (Forest.cons label inner rest) = ap (λ (b : Bool). (label.slot == at) || b) (top_roomless at rest)

pub top_live : (at : ℕ) (nodes : Forest) → is_top at nodes ≡ true → 1 ≤ times at nodes
top_live at Forest.nil is = absurd (true≢false (sym is))
top_live at (Forest.cons label inner rest) is = by (label.slot == at) refl is (λ there. top_live at rest there)
  where
    by : (b : Bool) → (label.slot == at) ≡ b → (b || is_top at rest) ≡ true → (is_top at rest ≡ true → 1 ≤ times at rest)
        → 1 ≤ times at (Forest.cons label inner rest)
    by true e there again = omega (arith, once_here label.slot at (eqb-true label.slot at e))
    by false e there again = omega (arith, again there)

-- ---- a list of names that stands in one is listed

own_list : (at : PhraseAt) (phrase : PlainPhrase) → is_name_list phrase ≡ true → Contains (list_place at (Some phrase)) at
own_list at phrase is =
    subst (λ (b : Bool). Contains (if b then at ∷ [] else []) at) (sym is) (0, omega arith, refl)

pub part_listed : (at : PhraseAt) (label : Label) (phrase : PlainPhrase) → own_phrase at label ≡ Some phrase → is_name_list phrase ≡ true
    → Contains (list_places label.slot 0 label.parts) at
part_listed at label phrase there is =
    label_walked list_place list_places (λ slot part. refl) (λ slot part place parts. refl) phrase (λ place. own_list place phrase is) at label there

pub top_listed : (at : PhraseAt) (nodes : Forest) (phrase : PlainPhrase) → times at.slot.0 nodes ≤ 1 → is_top at.slot.0 nodes ≡ true
    → phrase_in at nodes ≡ Some phrase → is_name_list phrase ≡ true → Contains (all_list_places nodes) at
top_listed at Forest.nil phrase once is there list = absurd (none-some phrase there)
top_listed at (Forest.cons label inner rest) phrase once is there list =
    by (label.slot == at.slot.0) refl is (λ top found. top_listed at rest phrase (omega (arith, once)) top found list)
  where
    by : (b : Bool) → (label.slot == at.slot.0) ≡ b → (b || is_top at.slot.0 rest) ≡ true
        → (is_top at.slot.0 rest ≡ true → phrase_in at rest ≡ Some phrase → Contains (all_list_places rest) at)
        → Contains (list_places label.slot 0 label.parts ++ all_list_places rest) at
    by true e top again =
        let here : label.slot ≡ at.slot.0 = eqb-true label.slot at.slot.0 e in
        let one = once_here label.slot at.slot.0 here in
        let only : own_phrase at label ≡ Some phrase =
        or_none (own_phrase at label)
        ∙ sym
        (λ i.
        option_or (own_phrase at label)
        (option_or (phrase_absent at inner (omega (arith, one, once)) i) (phrase_absent at rest (omega (arith, one, once)) i)))
        ∙ there in
        Contains-append_left (list_places label.slot 0 label.parts) (all_list_places rest) at (part_listed at label phrase only list)
      where
        or_none : (o : Option PlainPhrase) → o ≡ option_or o (option_or None None)
        or_none None = refl
        or_none (Some p) = refl
    by false e top again =
        let live = top_live at.slot.0 rest top in
        let found : phrase_in at rest ≡ Some phrase =
        sym
        (λ i.
        option_or (own_apart at label (λ same. apart (sym same)) i)
        (option_or (phrase_absent at inner (omega (arith, live, once)) i) (phrase_in at rest)))
        ∙ there in
        Contains-append_right (list_places label.slot 0 label.parts) (all_list_places rest) at (again top found)
      where
        apart : label.slot ≡ at.slot.0 → ⊥
        apart same = true≢false (sym (eq-eqb label.slot at.slot.0 same) ∙ e)
