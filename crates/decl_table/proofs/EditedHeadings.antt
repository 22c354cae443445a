-- The effective heading of each name before an edit and after it: it stays where neither what went nor what came has the
-- name in its heading, and where the edit was made inside a procedure.
use Rattle.std.specs.Prelude.{◌≡◌, refl, ℕ, zero, suc, Bool, true, false, ◌&&◌, ◌||◌, if◌then◌else◌, List, [], ◌∷◌, bytes_eq, Option, Some, None, option_and_then, option_map, unwrap_or}
use Rattle.std.specs.List.{list_any}
use Rattle.std.specs.Option.{option_or}
use Rattle.std.proofs.Common.{ap, sym, ◌∙◌, true≢false}
use Rattle.std.proofs.lemmas.Option.{none-some}
use Rattle.plcs_grammar.specs.PlainPhrase.{PlainPhrase}
use Rattle.plcs_grammar.specs.declared.node_kind.NodeKind.{NodeKind}
use Rattle.plcs_grammar.specs.declared.template.Template.{Template}
use Rattle.template_tree.specs.Checks.Environment.{Heading, Sig, Signature, heading_of, heading_with, may_be_called, name_given, name_of_procedure, parameters_given, signature_for, signature_of}
use Rattle.template_tree.specs.Programs.Part.{part_at}
use Rattle.template_tree.specs.Programs.PlainTree.{Forest, Label, PlainNode, forest, join, roomless, roomless_node}
use Rattle.decl_table.specs.Names.{kept_names}
use Rattle.decl_table.proofs.Gaps.{Gap, IsGapAt, filled}

-- the slot of the heading of the name that the node has, if it has one
abbrev pub head : List ℕ → PlainNode → Option ℕ
head name node = option_map (λ (s : Signature). s.slot) (signature_for name node)

-- the slot of the effective heading of the name among main and procedures, if one has it
abbrev pub headed : List ℕ → Forest → Option ℕ
headed name items = option_map (λ (s : Signature). s.slot) (Sig items name)

or_mapped : (a b : Option Signature)
    → option_map (λ (s : Signature). s.slot) (option_or a b)
    ≡ option_or (option_map (λ (s : Signature). s.slot) a) (option_map (λ (s : Signature). s.slot) b)
or_mapped None b = refl
or_mapped (Some s) b = refl

-- that of the first, or else of those behind it
pub first_headed : (name : List ℕ) (label : Label) (inner rest : Forest)
    → headed name (Forest.cons label inner rest) ≡ option_or (head name (record { label = label; inner = inner })) (headed name rest)
first_headed name label inner rest = or_mapped (signature_for name (record { label = label; inner = inner })) (Sig rest name)

-- ---- which node has a heading of the name

-- the slot is told by a node's own label
told : (name : List ℕ) (one other : PlainNode) (heading : Option Heading) → one.label.slot ≡ other.label.slot
    → option_map (λ (s : Signature). s.slot)
    (option_and_then (λ (h : Heading). if bytes_eq name h.name && may_be_called name then Some (signature_of one h) else None) heading)
    ≡ option_map (λ (s : Signature). s.slot)
    (option_and_then (λ (h : Heading). if bytes_eq name h.name && may_be_called name then Some (signature_of other h) else None) heading)
told name one other None same = refl
told name one other (Some h) same = by (bytes_eq name h.name && may_be_called name)
  where
    by : (b : Bool)
        → option_map (λ (s : Signature). s.slot) (if b then Some (signature_of one h) else None)
        ≡ option_map (λ (s : Signature). s.slot) (if b then Some (signature_of other h) else None)
    by true = ap (λ (n : ℕ). Some n) same
    by false = refl

head_inside : (name : List ℕ) (label : Label) (inner other : Forest)
    → head name (record { label = label; inner = inner }) ≡ head name (record { label = label; inner = other })
head_inside name label inner other =
    told name (record { label = label; inner = inner }) (record { label = label; inner = other }) (heading_of label.kind label.parts) refl

head_roomless : (name : List ℕ) (node : PlainNode) → head name (roomless_node node) ≡ head name node
head_roomless name node = told name (roomless_node node) node (heading_of node.label.kind node.label.parts) refl

-- a whole heading has its name in its first part
with_name : (name : Option (List ℕ)) (parameters : Option (List (List ℕ))) (heading : Heading)
    → heading_with name parameters ≡ Some heading → name ≡ Some heading.name
with_name None parameters heading is = absurd (none-some heading is)
with_name (Some name) None heading is = absurd (none-some heading is)
with_name (Some name) (Some parameters) heading is =
    let same : record { name = name; parameters = parameters } ≡ heading = cc in
    ap (λ (h : Heading). Some h.name) same

pub heading_given : (kind : NodeKind) (parts : List (Option PlainPhrase)) (heading : Heading) → heading_of kind parts ≡ Some heading
    → name_given parts ≡ Some heading.name
heading_given NodeKind.DeclarationHole parts heading is = absurd (none-some heading is)
heading_given NodeKind.StatementHole parts heading is = absurd (none-some heading is)
heading_given NodeKind.ProcedureHole parts heading is = absurd (none-some heading is)
heading_given NodeKind.Main parts heading is = absurd (none-some heading is)
heading_given NodeKind.Assign parts heading is = absurd (none-some heading is)
heading_given (NodeKind.Filled Template.Fixed) parts heading is = absurd (none-some heading is)
heading_given (NodeKind.Filled Template.Bit) parts heading is = absurd (none-some heading is)
heading_given (NodeKind.Filled Template.Char) parts heading is = absurd (none-some heading is)
heading_given (NodeKind.Filled Template.If) parts heading is = absurd (none-some heading is)
heading_given (NodeKind.Filled Template.IfElse) parts heading is = absurd (none-some heading is)
heading_given (NodeKind.Filled Template.While) parts heading is = absurd (none-some heading is)
heading_given (NodeKind.Filled Template.For) parts heading is = absurd (none-some heading is)
heading_given (NodeKind.Filled Template.Until) parts heading is = absurd (none-some heading is)
heading_given (NodeKind.Filled Template.Group) parts heading is = absurd (none-some heading is)
heading_given (NodeKind.Filled Template.Get) parts heading is = absurd (none-some heading is)
heading_given (NodeKind.Filled Template.Put) parts heading is = absurd (none-some heading is)
heading_given (NodeKind.Filled Template.PutSkip) parts heading is = absurd (none-some heading is)
heading_given (NodeKind.Filled Template.Call) parts heading is = absurd (none-some heading is)
heading_given (NodeKind.Filled Template.Return) parts heading is = absurd (none-some heading is)
heading_given (NodeKind.Filled Template.Comment) parts heading is = absurd (none-some heading is)
heading_given (NodeKind.Filled Template.Proc) parts heading is = with_name (name_given parts) (Some []) heading is
heading_given (NodeKind.Filled Template.ProcP) parts heading is = with_name (name_given parts) (parameters_given parts) heading is

-- whether the name is among those that are kept of what stands in a part
abbrev pub is_kept : List ℕ → Option PlainPhrase → Bool
is_kept name place = list_any (bytes_eq name) (unwrap_or (option_map kept_names place) [])

-- a name that isn't kept of the first part is not the one in it
not_given : (name given : List ℕ) (place : Option PlainPhrase) → option_and_then name_of_procedure place ≡ Some given
    → is_kept name place ≡ false → bytes_eq name given ≡ false
not_given name given None is none = absurd (none-some given is)
not_given name given (Some (PlainPhrase.procedure_name own)) is none =
    let same : own ≡ given = cc in
    ap (bytes_eq name) (sym same) ∙ plain (bytes_eq name own) none
  where
    plain : (b : Bool) → (b || false) ≡ false → b ≡ false
    plain true e = absurd (true≢false e)
    plain false e = refl
not_given name given (Some other) is none = absurd (none-some given is)

-- so its node has no heading of the name
pub unheaded : (name : List ℕ) (node : PlainNode) → is_kept name (part_at node.label.parts 0) ≡ false → head name node ≡ None
unheaded name node none = by (heading_of node.label.kind node.label.parts) refl
  where
    judge : Heading → Option Signature
    judge h = if bytes_eq name h.name && may_be_called name then Some (signature_of node h) else None

    by : (heading : Option Heading) → heading_of node.label.kind node.label.parts ≡ heading
        → option_map (λ (s : Signature). s.slot) (option_and_then judge heading) ≡ None
    by None is = refl
    by (Some h) is =
        ap (λ (b : Bool). option_map (λ (s : Signature). s.slot) (if b && may_be_called name then Some (signature_of node h) else None))
        (not_given name h.name (part_at node.label.parts 0) (heading_given node.label.kind node.label.parts h is) none)

-- ---- the heading of a name after an edit

-- none of the nodes has a heading of the name
abbrev pub Headless : List ℕ → List PlainNode → Type 0
Headless name [] = Unit {0}
Headless name (node ∷ nodes) = (head name node ≡ None) × Headless name nodes

behind_all : (name : List ℕ) (nodes : List PlainNode) (rest : Forest) → Headless name nodes
    → headed name (join (forest nodes) rest) ≡ headed name rest
behind_all name [] rest none = refl
behind_all name (node ∷ nodes) rest none =
    first_headed name node.label node.inner (join (forest nodes) rest)
    ∙ ap (λ o. option_or o (headed name (join (forest nodes) rest))) none.0
    ∙ behind_all name nodes rest none.1

-- the gap is inside main or a procedure
abbrev pub IsDeep : Gap → Type 0
IsDeep (Gap.here rest) = ⊥
IsDeep (Gap.inside label inner rest) = Unit {0}
IsDeep (Gap.behind label inner rest) = IsDeep rest

-- so it is where its path has more numbers than one
pub deep_at : (k j : ℕ) (path : List ℕ) (gap : Gap) → IsGapAt k (j ∷ path) gap → IsDeep gap
deep_at zero j path (Gap.here rest) at = absurd at
deep_at zero j path (Gap.inside label inner rest) at = tt
deep_at zero j path (Gap.behind label inner rest) at = absurd at
deep_at (suc k) j path (Gap.here rest) at = absurd at
deep_at (suc k) j path (Gap.inside label inner rest) at = absurd at
deep_at (suc k) j path (Gap.behind label inner rest) at = deep_at k j path rest at

pub headed_deep : (name : List ℕ) (old new : Forest) (gap : Gap) → IsDeep gap → headed name (filled old gap) ≡ headed name (filled new gap)
headed_deep name old new (Gap.here rest) deep = absurd deep
headed_deep name old new (Gap.inside label inner rest) deep =
    first_headed name label (filled old inner) rest
    ∙ ap (λ o. option_or o (headed name rest)) (head_inside name label (filled old inner) (filled new inner))
    ∙ sym (first_headed name label (filled new inner) rest)
headed_deep name old new (Gap.behind label inner rest) deep =
    first_headed name label inner (filled old rest)
    ∙ ap (option_or (head name (record { label = label; inner = inner }))) (headed_deep name old new rest deep)
    ∙ sym (first_headed name label inner (filled new rest))

pub headed_gap : (name : List ℕ) (old new : List PlainNode) (gap : Gap) → Headless name old → Headless name new
    → headed name (filled (forest old) gap) ≡ headed name (filled (forest new) gap)
headed_gap name old new (Gap.here rest) gone came = behind_all name old rest gone ∙ sym (behind_all name new rest came)
headed_gap name old new (Gap.inside label inner rest) gone came =
    headed_deep name (forest old) (forest new) (Gap.inside label inner rest) tt
headed_gap name old new (Gap.behind label inner rest) gone came =
    first_headed name label inner (filled (forest old) rest)
    ∙ ap (option_or (head name (record { label = label; inner = inner }))) (headed_gap name old new rest gone came)
    ∙ sym (first_headed name label inner (filled (forest new) rest))

-- room plays no part
pub headed_roomless : (name : List ℕ) (items : Forest) → headed name (roomless items) ≡ headed name items
headed_roomless name Forest.nil = refl
headed_roomless name (Forest.cons label inner rest) =
    first_headed name (record label { spare = 0 }) (roomless inner) (roomless rest)
    ∙ (λ i. option_or (head_roomless name (record { label = label; inner = inner }) i) (headed_roomless name rest i))
    ∙ sym (first_headed name label inner rest)

pub headed_alike : (name : List ℕ) (one other : Forest) → roomless one ≡ roomless other → headed name one ≡ headed name other
headed_alike name one other same = sym (headed_roomless name one) ∙ ap (headed name) same ∙ headed_roomless name other
