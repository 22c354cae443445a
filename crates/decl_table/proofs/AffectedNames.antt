-- The names that an edit affects: those that are bound where it was and, where it is inside a procedure, those of items
-- that differ, and that of the procedure's heading if a parameter gets another kind.
use Rattle.std.proofs.Common.{◌≡◌, ◌≢◌, ℕ, zero, suc, Bool, true, false, List, [], ◌∷◌, Option, Some, None, refl, ap, sym, subst, ◌∙◌, ◌⊎◌, inl, inr, true≢false}
use Rattle.std.specs.Prelude.{◌&&◌, ◌||◌, bytes_eq, flat_map, if◌then◌else◌, option_and_then}
use Rattle.std.proofs.lemmas.List.Concat.{flat_map-cons}
use Rattle.std.proofs.lemmas.List.Folds.{list_any-append}
use Rattle.std.proofs.lemmas.Option.{none-some}
use Rattle.plcs_base.specs.declared.declared.Declared.{Declared}
use Rattle.plcs_base.specs.declared.value.Kind.{Kind}
use Rattle.plcs_grammar.specs.PlainPhrase.{PlainPhrase}
use Rattle.plcs_grammar.specs.declared.node_kind.NodeKind.{NodeKind}
use Rattle.plcs_grammar.specs.declared.template.Template.{Template}
use Rattle.template_tree.specs.Checks.Environment.{Heading, Sig, Signature, heading_of, items_inside, may_be_called, name_given, name_of_procedure, signature_for, signature_of}
use Rattle.template_tree.specs.Laws.CheckLaws.{ChecksIgnoreRoom}
use Rattle.template_tree.specs.Programs.PlainTree.{Forest, Label, PlainNode, forest, roomless}
use Rattle.template_tree.specs.Programs.Program.{sort_of}
use Rattle.decl_table.specs.Due.{binds_names, bound_names, part_names}
use Rattle.decl_table.proofs.AffectedHeadings.{OwnHeading, SigStays, Unheaded, is_in, is_name, itself, kind_by, or_right, own_same, sig_inside, sig_items}
use Rattle.decl_table.proofs.BoundNames.{bound_first}
use Rattle.decl_table.proofs.EditedHeadings.{IsDeep, heading_given}
use Rattle.decl_table.proofs.Gaps.{Gap, IsGapAt, filled}

or_left : (a b : Bool) → a ≡ true → (a || b) ≡ true
or_left a b is = ap (λ (x : Bool). x || b) is

or_split : (a b : Bool) → (a || b) ≡ true → (a ≡ true) ⊎ (b ≡ true)
or_split true b is = inl refl
or_split false b is = inr is

-- ---- a node with a heading binds its name

heading_binds : (kind : NodeKind) (parts : List (Option PlainPhrase)) (heading : Heading) → heading_of kind parts ≡ Some heading
    → binds_names (sort_of kind) ≡ true
heading_binds NodeKind.DeclarationHole parts heading is = absurd (none-some heading is)
heading_binds NodeKind.StatementHole parts heading is = absurd (none-some heading is)
heading_binds NodeKind.ProcedureHole parts heading is = absurd (none-some heading is)
heading_binds NodeKind.Main parts heading is = absurd (none-some heading is)
heading_binds NodeKind.Assign parts heading is = absurd (none-some heading is)
heading_binds (NodeKind.Filled Template.Fixed) parts heading is = absurd (none-some heading is)
heading_binds (NodeKind.Filled Template.Bit) parts heading is = absurd (none-some heading is)
heading_binds (NodeKind.Filled Template.Char) parts heading is = absurd (none-some heading is)
heading_binds (NodeKind.Filled Template.If) parts heading is = absurd (none-some heading is)
heading_binds (NodeKind.Filled Template.IfElse) parts heading is = absurd (none-some heading is)
heading_binds (NodeKind.Filled Template.While) parts heading is = absurd (none-some heading is)
heading_binds (NodeKind.Filled Template.For) parts heading is = absurd (none-some heading is)
heading_binds (NodeKind.Filled Template.Until) parts heading is = absurd (none-some heading is)
heading_binds (NodeKind.Filled Template.Group) parts heading is = absurd (none-some heading is)
heading_binds (NodeKind.Filled Template.Get) parts heading is = absurd (none-some heading is)
heading_binds (NodeKind.Filled Template.Put) parts heading is = absurd (none-some heading is)
heading_binds (NodeKind.Filled Template.PutSkip) parts heading is = absurd (none-some heading is)
heading_binds (NodeKind.Filled Template.Call) parts heading is = absurd (none-some heading is)
heading_binds (NodeKind.Filled Template.Return) parts heading is = absurd (none-some heading is)
heading_binds (NodeKind.Filled Template.Comment) parts heading is = absurd (none-some heading is)
heading_binds (NodeKind.Filled Template.Proc) parts heading is = refl
heading_binds (NodeKind.Filled Template.ProcP) parts heading is = refl

phrase_named : (name given : List ℕ) (phrase : PlainPhrase) → name_of_procedure phrase ≡ Some given → bytes_eq name given ≡ true
    → is_in name (part_names (Some phrase)) ≡ true
phrase_named name given (PlainPhrase.procedure_name own) is same =
    let own_is : own ≡ given = cc in
    or_left (bytes_eq name own) false (ap (bytes_eq name) own_is ∙ same)
phrase_named name given other is same = absurd (none-some given is)

first_named : (name given : List ℕ) (parts : List (Option PlainPhrase)) → name_given parts ≡ Some given → bytes_eq name given ≡ true
    → is_in name (flat_map part_names parts) ≡ true
first_named name given [] is same = absurd (none-some given is)
first_named name given (None ∷ parts) is same = absurd (none-some given is)
first_named name given (Some phrase ∷ parts) is same =
    ap (is_in name) (flat_map-cons part_names (Some phrase) parts)
    ∙ list_any-append (bytes_eq name) (part_names (Some phrase)) (flat_map part_names parts)
    ∙ or_left (is_in name (part_names (Some phrase))) (is_in name (flat_map part_names parts)) (phrase_named name given phrase is same)

-- so it has no effective heading of a name that it doesn't bind, also where its inside is left out
pub unbound_head : (name : List ℕ) (label : Label) (inner others : Forest)
    → is_in name (bound_names (Forest.cons label others Forest.nil)) ≡ false
    → signature_for name (record { label = label; inner = inner }) ≡ None
unbound_head name label inner others unbound = by (heading_of label.kind label.parts) refl
  where
    judge : Heading → Option Signature
    judge h = if bytes_eq name h.name && may_be_called name then Some (signature_of (record { label = label; inner = inner }) h) else None

    other : (heading : Heading) → heading_of label.kind label.parts ≡ Some heading → bytes_eq name heading.name ≡ false
    other heading is = either (bytes_eq name heading.name) refl
      where
        bound : bytes_eq name heading.name ≡ true → is_in name (bound_names (Forest.cons label others Forest.nil)) ≡ true
        bound same =
            bound_first name label others Forest.nil
            ∙ or_left (binds_names (sort_of label.kind) && (is_in name (flat_map part_names label.parts) || is_in name (bound_names others))) false
            (λ i.
            heading_binds label.kind label.parts heading is i
            && (first_named name heading.name label.parts (heading_given label.kind label.parts heading is) same i || is_in name (bound_names others)))

        either : (b : Bool) → bytes_eq name heading.name ≡ b → b ≡ false
        either true e = absurd (true≢false (sym (bound e) ∙ unbound))
        either false e = refl

    by : (heading : Option Heading) → heading_of label.kind label.parts ≡ heading → option_and_then judge heading ≡ None
    by None is = refl
    by (Some heading) is =
        ap
        (λ (b : Bool). if b && may_be_called name then Some (signature_of (record { label = label; inner = inner }) heading) else None)
        (other heading is)

-- ---- whether the kinds of parameters differ

same_or : (one other : Option Kind) → (one ≡ other) ⊎ (one ≢ other)
same_or None None = inl refl
same_or None (Some kind) = inr (λ e. none-some kind e)
same_or (Some kind) None = inr (λ e. none-some kind (sym e))
same_or (Some Kind.Fixed) (Some Kind.Fixed) = inl refl
same_or (Some Kind.Fixed) (Some Kind.Bit) = inr (λ e. cc)
same_or (Some Kind.Fixed) (Some Kind.Text) = inr (λ e. cc)
same_or (Some Kind.Bit) (Some Kind.Fixed) = inr (λ e. cc)
same_or (Some Kind.Bit) (Some Kind.Bit) = inl refl
same_or (Some Kind.Bit) (Some Kind.Text) = inr (λ e. cc)
same_or (Some Kind.Text) (Some Kind.Fixed) = inr (λ e. cc)
same_or (Some Kind.Text) (Some Kind.Bit) = inr (λ e. cc)
same_or (Some Kind.Text) (Some Kind.Text) = inl refl

-- one of the names has another kind by the other items
pub record Differ (one other : List Declared) (names : List (List ℕ)) : Type 0 where
  pub parameter : List ℕ
  pub among : is_in parameter names ≡ true
  pub differs : kind_by one parameter ≢ kind_by other parameter

module _ (one other : List Declared) where
  all_or : (names : List (List ℕ))
      → ((name : List ℕ) → is_in name names ≡ true → kind_by one name ≡ kind_by other name) ⊎ Differ one other names
  all_or [] = inl (λ name there. absurd (true≢false (sym there)))
  all_or (first ∷ names) = by (same_or (kind_by one first) (kind_by other first)) (all_or names)
    where
      own : (name : List ℕ) → bytes_eq name first ≡ true → kind_by one first ≡ kind_by other first → kind_by one name ≡ kind_by other name
      own name e same =
          subst (λ (n : List ℕ). kind_by one n ≡ kind_by other n) (sym (is_name name first e)) same

      by : (kind_by one first ≡ kind_by other first) ⊎ (kind_by one first ≢ kind_by other first)
          → ((name : List ℕ) → is_in name names ≡ true → kind_by one name ≡ kind_by other name) ⊎ Differ one other names
          → ((name : List ℕ) → is_in name (first ∷ names) ≡ true → kind_by one name ≡ kind_by other name) ⊎ Differ one other (first ∷ names)
      by (inr differs) rest =
          inr record {
            parameter = first;
            among = or_left (bytes_eq first first) (is_in first names) (itself first);
            differs = differs;
          }
      by (inl same) (inr later) =
          inr record {
            parameter = later.parameter;
            among =
                or_right (bytes_eq later.parameter first) (is_in later.parameter names) later.among;
            differs = later.differs;
          }
      by (inl same) (inl rest) = inl (λ name there. split name (or_split (bytes_eq name first) (is_in name names) there))
        where
          split : (name : List ℕ) → (bytes_eq name first ≡ true) ⊎ (is_in name names ≡ true) → kind_by one name ≡ kind_by other name
          split name (inl e) = own name e same
          split name (inr e) = rest name e

-- ---- headings that differ

module _ (room : ChecksIgnoreRoom) (before after : Forest) (old new : List PlainNode) (gap : Gap)
    (was : roomless before ≡ roomless (filled (forest old) gap)) (is : roomless after ≡ roomless (filled (forest new) gap)) where
  sig_alike : (name : List ℕ) (one other : Forest) → roomless one ≡ roomless other → Sig one name ≡ Sig other name
  sig_alike name one other same = sym ((room one).headings name) ∙ ap (λ (f : Forest). Sig f name) same ∙ (room other).headings name

  sig_between : (name : List ℕ) → Sig (filled (forest old) gap) name ≡ Sig (filled (forest new) gap) name → Sig before name ≡ Sig after name
  sig_between name same =
      sig_alike name before (filled (forest old) gap) was ∙ same ∙ sym (sig_alike name after (filled (forest new) gap) is)

  -- inside a procedure, its own heading has the name, and a parameter gets another kind
  pub record HeadingDiffers (name : List ℕ) : Type 0 where
    pub own : OwnHeading name (forest old) (forest new) gap
    pub kinds : Differ (items_inside own.was) (items_inside own.is) own.heading.parameters

  pub headed_inside : IsDeep gap → (name : List ℕ) → Sig before name ≢ Sig after name → HeadingDiffers name
  headed_inside deep name differs = by (sig_inside name (forest old) (forest new) gap deep)
    where
      kinds : (own : OwnHeading name (forest old) (forest new) gap)
          → ((parameter : List ℕ) → is_in parameter own.heading.parameters ≡ true
          → kind_by (items_inside own.was) parameter ≡ kind_by (items_inside own.is) parameter)
          ⊎ Differ (items_inside own.was) (items_inside own.is) own.heading.parameters
          → HeadingDiffers name
      kinds own (inl same) = absurd (differs (sig_between name (own_same name (forest old) (forest new) gap own same)))
      kinds own (inr differ) = record { own = own; kinds = differ }

      by : (Sig (filled (forest old) gap) name ≡ Sig (filled (forest new) gap) name) ⊎ OwnHeading name (forest old) (forest new) gap
          → HeadingDiffers name
      by (inl same) = absurd (differs (sig_between name same))
      by (inr own) = kinds own (all_or (items_inside own.was) (items_inside own.is) own.heading.parameters)

  stays_here : (name : List ℕ) (k : ℕ) (hole : Gap) → IsGapAt k [] hole → Unheaded name old → Unheaded name new → SigStays name old new hole
  stays_here name zero (Gap.here rest) at gone came = (gone, came)
  stays_here name zero (Gap.inside label inner rest) at gone came = absurd at
  stays_here name zero (Gap.behind label inner rest) at gone came = absurd at
  stays_here name (suc k) (Gap.here rest) at gone came = absurd at
  stays_here name (suc k) (Gap.inside label inner rest) at gone came = absurd at
  stays_here name (suc k) (Gap.behind label inner rest) at gone came = stays_here name k rest at gone came

  -- where main or a procedure was changed, the heading of a name stays that none has that went or came
  pub sig_here : (k : ℕ) → IsGapAt k [] gap → (name : List ℕ) → Unheaded name old → Unheaded name new → Sig before name ≡ Sig after name
  sig_here k at name gone came = sig_between name (sig_items name old new gap (stays_here name k gap at gone came))
