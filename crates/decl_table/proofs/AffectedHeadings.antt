-- The effective headings, with the kinds of their parameters, before an edit and after it: that of a name differs only
-- where a node that went or came has a heading of the name, or where the edit is in the procedure that it heads and a
-- parameter gets another kind.
use Rattle.std.proofs.Common.{◌≡◌, ℕ, zero, suc, ◌<◌, Bool, true, false, List, [], ◌∷◌, ◌++◌, get_or, length, Option, Some, None, refl, ap, sym, subst, ◌∙◌, ◌⊎◌, inl, inr, arith, true≢false}
use Rattle.std.specs.Prelude.{◌&&◌, ◌||◌, bytes_eq, Contains, if◌then◌else◌, option_and_then, slice_get}
use Rattle.std.specs.List.{list_any}
use Rattle.std.specs.Option.{option_or}
use Rattle.std.proofs.lemmas.List.Folds.{list_any-append}
use Rattle.std.proofs.lemmas.Slice.Eq.{bytes_eq-Decides}
use Rattle.plcs_base.specs.declared.declared.Declared.{Declared}
use Rattle.plcs_base.specs.declared.value.Kind.{Kind}
use Rattle.template_tree.specs.Checks.Environment.{Heading, Sig, Signature, heading_of, item_named, items_inside, may_be_called, parameter_kinds, scalar_kind, signature_for, signature_of}
use Rattle.template_tree.specs.Programs.PlainTree.{Forest, Label, PlainNode, forest, join, nodes}
use Rattle.decl_table.proofs.EditedHeadings.{IsDeep}
use Rattle.decl_table.proofs.Gaps.{Gap, IsGapAt, filled}

-- ---- the kinds of parameters

-- the kind of a name as a scalar, by some items
abbrev pub kind_by : List Declared → List ℕ → Option Kind
kind_by items name = option_and_then scalar_kind (item_named name items)

-- whether the name is one of these
abbrev pub is_in : List ℕ → List (List ℕ) → Bool
is_in name names = list_any (bytes_eq name) names

or_left : (a b : Bool) → a ≡ true → (a || b) ≡ true
or_left a b is = ap (λ (x : Bool). x || b) is

pub or_right : (a b : Bool) → b ≡ true → (a || b) ≡ true
or_right true b is = refl
or_right false b is = is

pub or_split : (a b : Bool) → (a || b) ≡ true → (a ≡ true) ⊎ (b ≡ true)
or_split true b is = inl refl
or_split false b is = inr is

pub itself : (name : List ℕ) → bytes_eq name name ≡ true
itself name = (bytes_eq-Decides name name).1 refl

pub is_name : (name other : List ℕ) → bytes_eq name other ≡ true → name ≡ other
is_name name other same = (bytes_eq-Decides name other).0 same

module _ (one other : List Declared) where
  -- the kinds are the same where those of the names are
  pub kinds_alike : (earlier names : List (List ℕ))
      → ((name : List ℕ) → is_in name names ≡ true → kind_by one name ≡ kind_by other name)
      → parameter_kinds one earlier names ≡ parameter_kinds other earlier names
  kinds_alike earlier [] same = refl
  kinds_alike earlier (name ∷ rest) same =
      (λ i.
      (if list_any (bytes_eq name) earlier then None
      else same name (or_left (bytes_eq name name) (is_in name rest) (itself name)) i)
      ∷ kinds_alike (earlier ++ (name ∷ [])) rest
      (λ n among. same n (or_right (bytes_eq n name) (is_in n rest) among)) i)

  abbrev first_kind : List (Option Kind) → Option Kind
  first_kind [] = None
  first_kind (kind ∷ kinds) = kind

  abbrev later_kinds : List (Option Kind) → List (Option Kind)
  later_kinds [] = []
  later_kinds (kind ∷ kinds) = kinds

  -- and those of the names are the same where the kinds are
  pub kinds_told : (earlier names : List (List ℕ))
      → ((name : List ℕ) → is_in name earlier ≡ true → kind_by one name ≡ kind_by other name)
      → parameter_kinds one earlier names ≡ parameter_kinds other earlier names
      → (name : List ℕ) → is_in name names ≡ true → kind_by one name ≡ kind_by other name
  kinds_told earlier [] known same name among = absurd (true≢false (sym among))
  kinds_told earlier (first ∷ rest) known same name among =
      by (or_split (bytes_eq name first) (is_in name rest) among)
      (λ later. kinds_told (earlier ++ (first ∷ [])) rest known_too later_same name later)
    where
      later_same : parameter_kinds one (earlier ++ (first ∷ [])) rest ≡ parameter_kinds other (earlier ++ (first ∷ [])) rest
      later_same = ap later_kinds same

      first_same : kind_by one first ≡ kind_by other first
      first_same = either (list_any (bytes_eq first) earlier) refl (ap first_kind same)
        where
          either : (b : Bool) → list_any (bytes_eq first) earlier ≡ b
              → (if b then None else kind_by one first) ≡ (if b then None else kind_by other first)
              → kind_by one first ≡ kind_by other first
          either true e f = known first e
          either false e f = f

      known_too : (n : List ℕ) → is_in n (earlier ++ (first ∷ [])) ≡ true → kind_by one n ≡ kind_by other n
      known_too n there = either (or_split (is_in n earlier) (is_in n (first ∷ [])) (sym (list_any-append (bytes_eq n) earlier (first ∷ [])) ∙ there))
        where
          either : (is_in n earlier ≡ true) ⊎ (is_in n (first ∷ []) ≡ true) → kind_by one n ≡ kind_by other n
          either (inl e) = known n e
          either (inr e) = last (or_split (bytes_eq n first) false e)
            where
              last : (bytes_eq n first ≡ true) ⊎ (false ≡ true) → kind_by one n ≡ kind_by other n
              last (inl f) = subst (λ (m : List ℕ). kind_by one m ≡ kind_by other m) (sym (is_name n first f)) first_same
              last (inr f) = absurd (true≢false (sym f))

      by : (bytes_eq name first ≡ true) ⊎ (is_in name rest ≡ true)
          → (is_in name rest ≡ true → kind_by one name ≡ kind_by other name) → kind_by one name ≡ kind_by other name
      by (inl e) again = subst (λ (m : List ℕ). kind_by one m ≡ kind_by other m) (sym (is_name name first e)) first_same
      by (inr e) again = again e

-- ---- headings of nodes that go and come

-- none of the nodes has an effective heading of the name
abbrev pub Unheaded : List ℕ → List PlainNode → Type 0
Unheaded name [] = Unit {0}
Unheaded name (node ∷ nodes) = (signature_for name node ≡ None) × Unheaded name nodes

sig_behind : (name : List ℕ) (nodes : List PlainNode) (rest : Forest) → Unheaded name nodes → Sig (join (forest nodes) rest) name ≡ Sig rest name
sig_behind name [] rest none = refl
sig_behind name (node ∷ nodes) rest none =
    ap (λ (o : Option Signature). option_or o (Sig (join (forest nodes) rest) name)) none.0 ∙ sig_behind name nodes rest none.1

-- main and procedures go and come that have no heading of the name
abbrev pub SigStays : List ℕ → (old new : List PlainNode) → Gap → Type 0
SigStays name old new (Gap.here rest) = Unheaded name old × Unheaded name new
SigStays name old new (Gap.inside label inner rest) = ⊥
SigStays name old new (Gap.behind label inner rest) = SigStays name old new rest

pub sig_items : (name : List ℕ) (old new : List PlainNode) (gap : Gap) → SigStays name old new gap
    → Sig (filled (forest old) gap) name ≡ Sig (filled (forest new) gap) name
sig_items name old new (Gap.here rest) none = sig_behind name old rest none.0 ∙ sym (sig_behind name new rest none.1)
sig_items name old new (Gap.inside label inner rest) none = absurd none
sig_items name old new (Gap.behind label inner rest) none =
    ap (option_or (signature_for name (record { label = label; inner = inner }))) (sig_items name old new rest none)

-- ---- an edit inside a procedure

-- the procedure in which the edit was has the effective heading of the name
pub record OwnHeading (name : List ℕ) (old new : Forest) (gap : Gap) : Type 0 where
  pub label : Label
  pub was : Forest
  pub is : Forest
  pub heading : Heading
  pub has : heading_of label.kind label.parts ≡ Some heading
  pub named : bytes_eq name heading.name ≡ true
  pub before : Sig (filled old gap) name ≡ Some (signature_of (record { label = label; inner = was }) heading)
  pub after : Sig (filled new gap) name ≡ Some (signature_of (record { label = label; inner = is }) heading)
  pub item : (k j : ℕ) (path : List ℕ) → IsGapAt k (j ∷ path) gap
      → (slice_get (nodes (filled old gap)) k ≡ Some record { label = label; inner = was })
      × (slice_get (nodes (filled new gap)) k ≡ Some record { label = label; inner = is })

-- what a procedure's heading says of a name
judged : (name : List ℕ) (label : Label) (inner : Forest) → Heading → Option Signature
judged name label inner heading =
    if bytes_eq name heading.name && may_be_called name then Some (signature_of (record { label = label; inner = inner }) heading) else None

both_true : (a b : Bool) → (a && b) ≡ true → a ≡ true
both_true true b is = refl
both_true false b is = absurd (true≢false (sym is))

pub sig_inside : (name : List ℕ) (old new : Forest) (gap : Gap) → IsDeep gap
    → (Sig (filled old gap) name ≡ Sig (filled new gap) name) ⊎ OwnHeading name old new gap
sig_inside name old new (Gap.here rest) deep = absurd deep
sig_inside name old new (Gap.inside label inner rest) deep = by (heading_of label.kind label.parts) refl
  where
    Goal : Type 0
    Goal =
        (Sig (filled old (Gap.inside label inner rest)) name ≡ Sig (filled new (Gap.inside label inner rest)) name)
        ⊎ OwnHeading name old new (Gap.inside label inner rest)

    sig_is : (items : Forest) (heading : Option Heading) → heading_of label.kind label.parts ≡ heading
        → Sig (Forest.cons label items rest) name
        ≡ option_or
        (option_and_then
        (λ (h : Heading).
        if bytes_eq name h.name && may_be_called name then Some (signature_of (record { label = label; inner = items }) h) else None)
        heading)
        (Sig rest name)
    sig_is items heading is =
        ap
        (λ (o : Option Heading).
        option_or
        (option_and_then
        (λ (h : Heading).
        if bytes_eq name h.name && may_be_called name then Some (signature_of (record { label = label; inner = items }) h) else None)
        o)
        (Sig rest name))
        is

    chosen : (heading : Heading) (items : Forest) (b : Bool) → (bytes_eq name heading.name && may_be_called name) ≡ b
        → heading_of label.kind label.parts ≡ Some heading
        → Sig (Forest.cons label items rest) name
        ≡ option_or (if b then Some (signature_of (record { label = label; inner = items }) heading) else None) (Sig rest name)
    chosen heading items b e is =
        sig_is items (Some heading) is
        ∙ ap
        (λ (x : Bool).
        option_or (if x then Some (signature_of (record { label = label; inner = items }) heading) else None) (Sig rest name))
        e

    own_item : (k j : ℕ) (path : List ℕ) → IsGapAt k (j ∷ path) (Gap.inside label inner rest)
        → (slice_get (nodes (filled old (Gap.inside label inner rest))) k ≡ Some record { label = label; inner = filled old inner })
        × (slice_get (nodes (filled new (Gap.inside label inner rest))) k ≡ Some record { label = label; inner = filled new inner })
    own_item zero j path at = (refl, refl)
    own_item (suc k) j path at = absurd at

    told : (heading : Heading) → heading_of label.kind label.parts ≡ Some heading → (b : Bool)
        → (bytes_eq name heading.name && may_be_called name) ≡ b → Goal
    told heading is false e = inl (chosen heading (filled old inner) false e is ∙ sym (chosen heading (filled new inner) false e is))
    told heading is true e =
        inr record {
          label = label;
          was = filled old inner;
          is = filled new inner;
          heading = heading;
          has = is;
          named = both_true (bytes_eq name heading.name) (may_be_called name) e;
          before = chosen heading (filled old inner) true e is;
          after = chosen heading (filled new inner) true e is;
          item = own_item;
        }

    by : (heading : Option Heading) → heading_of label.kind label.parts ≡ heading → Goal
    by None is = inl (sig_is (filled old inner) None is ∙ sym (sig_is (filled new inner) None is))
    by (Some heading) is = told heading is (bytes_eq name heading.name && may_be_called name) refl
sig_inside name old new (Gap.behind label inner rest) deep =
    by (signature_for name (record { label = label; inner = inner })) refl (sig_inside name old new rest deep)
  where
    Goal : Type 0
    Goal =
        (Sig (filled old (Gap.behind label inner rest)) name ≡ Sig (filled new (Gap.behind label inner rest)) name)
        ⊎ OwnHeading name old new (Gap.behind label inner rest)

    first : (items : Forest) (o : Option Signature) → signature_for name (record { label = label; inner = inner }) ≡ o
        → Sig (Forest.cons label inner items) name ≡ option_or o (Sig items name)
    first items o is = ap (λ (x : Option Signature). option_or x (Sig items name)) is

    later_item : (own : OwnHeading name old new rest) (k j : ℕ) (path : List ℕ) → IsGapAt k (j ∷ path) (Gap.behind label inner rest)
        → (slice_get (nodes (filled old (Gap.behind label inner rest))) k ≡ Some record { label = own.label; inner = own.was })
        × (slice_get (nodes (filled new (Gap.behind label inner rest))) k ≡ Some record { label = own.label; inner = own.is })
    later_item own zero j path at = absurd at
    later_item own (suc k) j path at = own.item k j path at

    later : signature_for name (record { label = label; inner = inner }) ≡ None
        → (Sig (filled old rest) name ≡ Sig (filled new rest) name) ⊎ OwnHeading name old new rest → Goal
    later none (inl same) = inl (first (filled old rest) None none ∙ same ∙ sym (first (filled new rest) None none))
    later none (inr own) =
        inr record {
          label = own.label;
          was = own.was;
          is = own.is;
          heading = own.heading;
          has = own.has;
          named = own.named;
          before = first (filled old rest) None none ∙ own.before;
          after = first (filled new rest) None none ∙ own.after;
          item = later_item own;
        }

    by : (o : Option Signature) → signature_for name (record { label = label; inner = inner }) ≡ o
        → (Sig (filled old rest) name ≡ Sig (filled new rest) name) ⊎ OwnHeading name old new rest → Goal
    by None none again = later none again
    by (Some signature) some again = inl (first (filled old rest) (Some signature) some ∙ sym (first (filled new rest) (Some signature) some))

-- it stays where no parameter gets another kind
pub own_same : (name : List ℕ) (old new : Forest) (gap : Gap) (own : OwnHeading name old new gap)
    → ((parameter : List ℕ) → is_in parameter own.heading.parameters ≡ true
    → kind_by (items_inside own.was) parameter ≡ kind_by (items_inside own.is) parameter)
    → Sig (filled old gap) name ≡ Sig (filled new gap) name
own_same name old new gap own same =
    own.before
    ∙ ap (λ (kinds : List (Option Kind)). Some record { slot = own.label.slot; parameters = kinds })
    (kinds_alike (items_inside own.was) (items_inside own.is) [] own.heading.parameters same)
    ∙ sym own.after

-- a name that is contained is among the names
pub among : (name : List ℕ) (names : List (List ℕ)) → Contains names name → is_in name names ≡ true
among name [] there = absurd (omega (arith, there.1))
among name (first ∷ rest) there = by there.0 there.1 there.2 (λ later. among name rest later)
  where
    by : (k : ℕ) → k < suc (length rest) → get_or (first ∷ rest) k name ≡ name → (Contains rest name → is_in name rest ≡ true)
        → (bytes_eq name first || is_in name rest) ≡ true
    by zero within is again = or_left (bytes_eq name first) (is_in name rest) (ap (bytes_eq name) is ∙ itself name)
    by (suc k) within is again = or_right (bytes_eq name first) (is_in name rest) (again (k, omega (arith, within), is))
