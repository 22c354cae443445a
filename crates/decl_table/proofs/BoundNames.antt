-- The names of effective items are among those that the declarations of their procedure bind, and that of a heading
-- among those of its procedure.
use Rattle.std.proofs.Common.{◌≡◌, ℕ, Bool, true, false, List, [], ◌∷◌, ◌++◌, map, Option, Some, None, refl, ap, sym, ◌∙◌, ◌⊎◌, inl, inr, true≢false}
use Rattle.std.specs.Prelude.{◌&&◌, ◌||◌, bytes_eq, cond, flat_map, if◌then◌else◌, is_some, option_map, unwrap_or}
use Rattle.std.proofs.lemmas.List.Concat.{flat_map-cons}
use Rattle.std.proofs.lemmas.List.Folds.{list_any-append}
use Rattle.std.proofs.lemmas.Option.{none-some}
use Rattle.plcs_base.specs.declared.declared.Declared.{Declared}
use Rattle.plcs_base.specs.declared.declared.ItemType.{ItemType}
use Rattle.plcs_grammar.specs.declared.item.Item.{Item}
use Rattle.plcs_grammar.specs.declared.node_kind.NodeKind.{NodeKind}
use Rattle.plcs_grammar.specs.declared.template.Template.{Template}
use Rattle.plcs_grammar.specs.PlainPhrase.{PlainPhrase}
use Rattle.template_tree.specs.Checks.Environment.{all_declared, declared_as, declares, effective, item_named, item_offence, items_inside, items_of_list, list_items, type_given, with_declared, with_type}
use Rattle.template_tree.specs.Programs.PlainTree.{Forest, Label}
use Rattle.template_tree.specs.Programs.Program.{sort_of}
use Rattle.decl_table.specs.Due.{binds_names, bound_names, part_names}
use Rattle.decl_table.proofs.AffectedHeadings.{is_in}

or_left : (a b : Bool) → a ≡ true → (a || b) ≡ true
or_left a b is = ap (λ (x : Bool). x || b) is

or_right : (a b : Bool) → b ≡ true → (a || b) ≡ true
or_right true b is = refl
or_right false b is = is

or_split : (a b : Bool) → (a || b) ≡ true → (a ≡ true) ⊎ (b ≡ true)
or_split true b is = inl refl
or_split false b is = inr is

-- ---- items under a name

-- whether an item has the name
abbrev pub has_named : List ℕ → List Declared → Bool
has_named name items = is_some (item_named name items)

named_cons : (name : List ℕ) (item : Declared) (items : List Declared)
    → has_named name (item ∷ items) ≡ (bytes_eq name item.name || has_named name items)
named_cons name item items = by (bytes_eq name item.name)
  where
    by : (b : Bool) → is_some (cond b (Some item) (item_named name items)) ≡ (b || has_named name items)
    by true = refl
    by false = refl

named_append : (name : List ℕ) (one other : List Declared) → has_named name (one ++ other) ≡ (has_named name one || has_named name other)
named_append name [] other = refl
named_append name (item ∷ one) other =
    named_cons name item (one ++ other)
    ∙ ap (λ (b : Bool). bytes_eq name item.name || b) (named_append name one other)
    ∙ assoc (bytes_eq name item.name)
    ∙ ap (λ (b : Bool). b || has_named name other) (sym (named_cons name item one))
  where
    assoc : (a : Bool) → (a || (has_named name one || has_named name other)) ≡ ((a || has_named name one) || has_named name other)
    assoc true = refl
    assoc false = refl

-- an effective item was declared
with_one : (name : List ℕ) (before : List Declared) (item : Declared) → has_named name (with_declared before item) ≡ true
    → (has_named name before ≡ true) ⊎ (bytes_eq name item.name ≡ true)
with_one name before item = by (is_some (item_offence before item))
  where
    last : has_named name (item ∷ []) ≡ true → bytes_eq name item.name ≡ true
    last there = plain (bytes_eq name item.name) (sym (named_cons name item []) ∙ there)
      where
        plain : (b : Bool) → (b || false) ≡ true → b ≡ true
        plain true e = refl
        plain false e = e

    put : (has_named name before ≡ true) ⊎ (has_named name (item ∷ []) ≡ true) → (has_named name before ≡ true) ⊎ (bytes_eq name item.name ≡ true)
    put (inl e) = inl e
    put (inr e) = inr (last e)

    by : (b : Bool) → has_named name (if b then before else before ++ (item ∷ [])) ≡ true
        → (has_named name before ≡ true) ⊎ (bytes_eq name item.name ≡ true)
    by true there = inl there
    by false there =
        put (or_split (has_named name before) (has_named name (item ∷ [])) (sym (named_append name before (item ∷ [])) ∙ there))

effective_named : (name : List ℕ) (before all : List Declared) → has_named name (effective before all) ≡ true
    → (has_named name before ≡ true) ⊎ (has_named name all ≡ true)
effective_named name before [] there = inl there
effective_named name before (item ∷ all) there = by (effective_named name (with_declared before item) all there)
  where
    own : (has_named name before ≡ true) ⊎ (bytes_eq name item.name ≡ true) → (has_named name before ≡ true) ⊎ (has_named name (item ∷ all) ≡ true)
    own (inl e) = inl e
    own (inr e) = inr (named_cons name item all ∙ or_left (bytes_eq name item.name) (has_named name all) e)

    by : (has_named name (with_declared before item) ≡ true) ⊎ (has_named name all ≡ true)
        → (has_named name before ≡ true) ⊎ (has_named name (item ∷ all) ≡ true)
    by (inl e) = own (with_one name before item e)
    by (inr e) = inr (named_cons name item all ∙ or_right (bytes_eq name item.name) (has_named name all) e)

-- ---- what a node declares is among the names of its parts

pub gives_binding : (kind : NodeKind) (parts : List (Option PlainPhrase)) (ty : ItemType) → type_given kind parts ≡ Some ty
    → binds_names (sort_of kind) ≡ true
gives_binding NodeKind.DeclarationHole parts ty is = absurd (none-some ty is)
gives_binding NodeKind.StatementHole parts ty is = absurd (none-some ty is)
gives_binding NodeKind.ProcedureHole parts ty is = absurd (none-some ty is)
gives_binding NodeKind.Main parts ty is = absurd (none-some ty is)
gives_binding NodeKind.Assign parts ty is = absurd (none-some ty is)
gives_binding (NodeKind.Filled Template.Fixed) parts ty is = refl
gives_binding (NodeKind.Filled Template.Bit) parts ty is = refl
gives_binding (NodeKind.Filled Template.Char) parts ty is = refl
gives_binding (NodeKind.Filled Template.If) parts ty is = absurd (none-some ty is)
gives_binding (NodeKind.Filled Template.IfElse) parts ty is = absurd (none-some ty is)
gives_binding (NodeKind.Filled Template.While) parts ty is = absurd (none-some ty is)
gives_binding (NodeKind.Filled Template.For) parts ty is = absurd (none-some ty is)
gives_binding (NodeKind.Filled Template.Until) parts ty is = absurd (none-some ty is)
gives_binding (NodeKind.Filled Template.Group) parts ty is = absurd (none-some ty is)
gives_binding (NodeKind.Filled Template.Get) parts ty is = absurd (none-some ty is)
gives_binding (NodeKind.Filled Template.Put) parts ty is = absurd (none-some ty is)
gives_binding (NodeKind.Filled Template.PutSkip) parts ty is = absurd (none-some ty is)
gives_binding (NodeKind.Filled Template.Call) parts ty is = absurd (none-some ty is)
gives_binding (NodeKind.Filled Template.Return) parts ty is = absurd (none-some ty is)
gives_binding (NodeKind.Filled Template.Comment) parts ty is = absurd (none-some ty is)
gives_binding (NodeKind.Filled Template.Proc) parts ty is = absurd (none-some ty is)
gives_binding (NodeKind.Filled Template.ProcP) parts ty is = absurd (none-some ty is)

listed_named : (name : List ℕ) (ty : ItemType) (items : List Item) → has_named name (map (declared_as ty) items) ≡ true
    → is_in name (map (λ (item : Item). item.name) items) ≡ true
listed_named name ty [] there = there
listed_named name ty (item ∷ items) there =
    by (or_split (bytes_eq name item.name) (has_named name (map (declared_as ty) items))
    (sym (named_cons name (declared_as ty item) (map (declared_as ty) items)) ∙ there))
    (λ e. listed_named name ty items e)
  where
    by : (bytes_eq name item.name ≡ true) ⊎ (has_named name (map (declared_as ty) items) ≡ true)
        → (has_named name (map (declared_as ty) items) ≡ true → is_in name (map (λ (i : Item). i.name) items) ≡ true)
        → (bytes_eq name item.name || is_in name (map (λ (i : Item). i.name) items)) ≡ true
    by (inl e) again = or_left (bytes_eq name item.name) (is_in name (map (λ (i : Item). i.name) items)) e
    by (inr e) again = or_right (bytes_eq name item.name) (is_in name (map (λ (i : Item). i.name) items)) (again e)

phrase_named : (name : List ℕ) (ty : ItemType) (place : Option PlainPhrase)
    → has_named name (map (declared_as ty) (unwrap_or (option_map items_of_list place) [])) ≡ true → is_in name (part_names place) ≡ true
phrase_named name ty None there = absurd (true≢false (sym there))
phrase_named name ty (Some (PlainPhrase.declared_list items)) there = listed_named name ty items there
phrase_named name ty (Some other) there = absurd (true≢false (sym there))

first_named : (name : List ℕ) (ty : ItemType) (parts : List (Option PlainPhrase)) → has_named name (map (declared_as ty) (list_items parts)) ≡ true
    → is_in name (flat_map part_names parts) ≡ true
first_named name ty [] there = absurd (true≢false (sym there))
first_named name ty (place ∷ parts) there =
    ap (is_in name) (flat_map-cons part_names place parts)
    ∙ list_any-append (bytes_eq name) (part_names place) (flat_map part_names parts)
    ∙ or_left (is_in name (part_names place)) (is_in name (flat_map part_names parts)) (phrase_named name ty place there)

-- what a node declares it binds
own_bound : (name : List ℕ) (label : Label) → has_named name (declares label) ≡ true
    → (binds_names (sort_of label.kind) ≡ true) × (is_in name (flat_map part_names label.parts) ≡ true)
own_bound name label = by (type_given label.kind label.parts) refl
  where
    by : (o : Option ItemType) → type_given label.kind label.parts ≡ o → has_named name (with_type o (list_items label.parts)) ≡ true
        → (binds_names (sort_of label.kind) ≡ true) × (is_in name (flat_map part_names label.parts) ≡ true)
    by None is there = absurd (true≢false (sym there))
    by (Some ty) is there = (gives_binding label.kind label.parts ty is, first_named name ty label.parts there)

-- of the names that nodes bind
pub bound_first : (name : List ℕ) (label : Label) (inner rest : Forest)
    → is_in name (bound_names (Forest.cons label inner rest))
    ≡ ((binds_names (sort_of label.kind) && (is_in name (flat_map part_names label.parts) || is_in name (bound_names inner)))
    || is_in name (bound_names rest))
bound_first name label inner rest =
    list_any-append (bytes_eq name)
    (if binds_names (sort_of label.kind) then flat_map part_names label.parts ++ bound_names inner else []) (bound_names rest)
    ∙ ap (λ (b : Bool). b || is_in name (bound_names rest)) (by (binds_names (sort_of label.kind)))
  where
    by : (b : Bool) → is_in name (if b then flat_map part_names label.parts ++ bound_names inner else [])
        ≡ (b && (is_in name (flat_map part_names label.parts) || is_in name (bound_names inner)))
    by true = list_any-append (bytes_eq name) (flat_map part_names label.parts) (bound_names inner)
    by false = refl

declared_bound : (name : List ℕ) (inner : Forest) → has_named name (all_declared inner) ≡ true → is_in name (bound_names inner) ≡ true
declared_bound name Forest.nil there = there
declared_bound name (Forest.cons label inner rest) there =
    bound_first name label inner rest
    ∙ by (or_split (has_named name (declares label)) (has_named name (all_declared rest))
    (sym (named_append name (declares label) (all_declared rest)) ∙ there))
    (λ e. declared_bound name rest e)
  where
    by : (has_named name (declares label) ≡ true) ⊎ (has_named name (all_declared rest) ≡ true)
        → (has_named name (all_declared rest) ≡ true → is_in name (bound_names rest) ≡ true)
        → ((binds_names (sort_of label.kind) && (is_in name (flat_map part_names label.parts) || is_in name (bound_names inner)))
        || is_in name (bound_names rest))
        ≡ true
    by (inl e) again =
        let own = own_bound name label e in
        or_left (binds_names (sort_of label.kind) && (is_in name (flat_map part_names label.parts) || is_in name (bound_names inner)))
        (is_in name (bound_names rest))
        ((λ i. own.0 i && (own.1 i || is_in name (bound_names inner))))
    by (inr e) again =
        or_right (binds_names (sort_of label.kind) && (is_in name (flat_map part_names label.parts) || is_in name (bound_names inner)))
        (is_in name (bound_names rest)) (again e)

-- the names of the effective items of a procedure are bound inside it
pub item_bound : (name : List ℕ) (inner : Forest) → has_named name (items_inside inner) ≡ true → is_in name (bound_names inner) ≡ true
item_bound name inner there = by (effective_named name [] (all_declared inner) there)
  where
    by : (has_named name [] ≡ true) ⊎ (has_named name (all_declared inner) ≡ true) → is_in name (bound_names inner) ≡ true
    by (inl e) = absurd (true≢false (sym e))
    by (inr e) = declared_bound name inner e

-- so a procedure has no item of a name that isn't
pub unbound_item : (name : List ℕ) (inner : Forest) → is_in name (bound_names inner) ≡ false → item_named name (items_inside inner) ≡ None
unbound_item name inner none = by (item_named name (items_inside inner)) refl
  where
    by : (o : Option Declared) → item_named name (items_inside inner) ≡ o → o ≡ None
    by None e = refl
    by (Some item) e = absurd (true≢false (sym (item_bound name inner (ap is_some e)) ∙ none))
