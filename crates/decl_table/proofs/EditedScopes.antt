-- The effective items of each procedure before an edit and after it: those of procedures stay in which nothing is changed,
-- and those of one in which nothing that declares went or came.
use Rattle.std.specs.Prelude.{◌≡◌, refl, ℕ, zero, suc, ◌≤◌, ◌==◌, Bool, true, false, if◌then◌else◌, List, [], ◌∷◌, ◌++◌, Option, Some, None, option_map, slice_get, unwrap_or}
use Rattle.std.proofs.Common.{ap, sym, ◌∙◌, subst, arith}
use Rattle.std.proofs.lemmas.Bool.{eq-eqb, ne_eqb}
use Rattle.std.proofs.lemmas.Option.{none-some}
use Rattle.plcs_base.specs.declared.declared.Declared.{Declared}
use Rattle.template_tree.specs.Checks.Environment.{Items, all_declared, declares, effective, items_inside, procedure_at}
use Rattle.template_tree.specs.Programs.PlainTree.{Forest, Label, PlainNode, forest, join, nodes, roomless}
use Rattle.template_tree.specs.Programs.Slots.{times}
use Rattle.decl_table.proofs.Gaps.{Gap, IsGapAt, filled}

abbrev taken : PlainNode → Option PlainNode → PlainNode
taken node None = node
taken node (Some there) = there

-- the items of a procedure by its slot, where it is the first one or not
abbrev chosen : Bool → Forest → (rest : Forest) → (slot : ℕ) → List Declared
chosen own inner rest slot = if own then items_inside inner else Items rest slot

items_first : (label : Label) (inner rest : Forest) (slot : ℕ) → Items (Forest.cons label inner rest) slot ≡ chosen (label.slot == slot) inner rest slot
items_first label inner rest slot = by (label.slot == slot)
  where
    by : (b : Bool)
        → unwrap_or (option_map (λ (n : PlainNode). items_inside n.inner) (if b then Some record { label = label; inner = inner } else procedure_at rest slot)) []
        ≡ chosen b inner rest slot
    by true = refl
    by false = refl

-- of the procedure that is first
pub items_own : (label : Label) (inner rest : Forest) (slot : ℕ) → label.slot ≡ slot → Items (Forest.cons label inner rest) slot ≡ items_inside inner
items_own label inner rest slot own =
    items_first label inner rest slot ∙ ap (λ (b : Bool). chosen b inner rest slot) (eq-eqb label.slot slot own)

-- of others
pub items_others : (label : Label) (inner rest : Forest) (slot : ℕ) → (label.slot ≡ slot → ⊥)
    → Items (Forest.cons label inner rest) slot ≡ Items rest slot
items_others label inner rest slot apart =
    items_first label inner rest slot ∙ ap (λ (b : Bool). chosen b inner rest slot) (ne_eqb label.slot slot apart)

-- ---- other procedures than that of the edit

-- none of the nodes is in the slot
abbrev pub AreApart : ℕ → List PlainNode → Type 0
AreApart slot [] = Unit {0}
AreApart slot (node ∷ nodes) = (node.label.slot ≡ slot → ⊥) × AreApart slot nodes

-- the edit was made in another procedure than that in the slot
abbrev pub IsElsewhere : ℕ → (old new : List PlainNode) → Gap → Type 0
IsElsewhere slot old new (Gap.here rest) = AreApart slot old × AreApart slot new
IsElsewhere slot old new (Gap.inside label inner rest) = label.slot ≡ slot → ⊥
IsElsewhere slot old new (Gap.behind label inner rest) = IsElsewhere slot old new rest

behind_all : (slot : ℕ) (nodes : List PlainNode) (rest : Forest) → AreApart slot nodes → Items (join (forest nodes) rest) slot ≡ Items rest slot
behind_all slot [] rest apart = refl
behind_all slot (node ∷ nodes) rest apart =
    items_others node.label node.inner (join (forest nodes) rest) slot apart.0 ∙ behind_all slot nodes rest apart.1

pub items_elsewhere : (slot : ℕ) (old new : List PlainNode) (gap : Gap) → IsElsewhere slot old new gap
    → Items (filled (forest old) gap) slot ≡ Items (filled (forest new) gap) slot
items_elsewhere slot old new (Gap.here rest) apart = behind_all slot old rest apart.0 ∙ sym (behind_all slot new rest apart.1)
items_elsewhere slot old new (Gap.inside label inner rest) apart =
    items_others label (filled (forest old) inner) rest slot apart ∙ sym (items_others label (filled (forest new) inner) rest slot apart)
items_elsewhere slot old new (Gap.behind label inner rest) apart =
    items_first label inner (filled (forest old) rest) slot
    ∙ ap (λ (items : List Declared). if label.slot == slot then items_inside inner else items) (items_elsewhere slot old new rest apart)
    ∙ sym (items_first label inner (filled (forest new) rest) slot)

-- ---- nodes that declare nothing

abbrev pub DeclareNone : List PlainNode → Type 0
DeclareNone [] = Unit {0}
DeclareNone (node ∷ nodes) = (declares node.label ≡ []) × DeclareNone nodes

declared_behind : (nodes : List PlainNode) (rest : Forest) → DeclareNone nodes → all_declared (join (forest nodes) rest) ≡ all_declared rest
declared_behind [] rest none = refl
declared_behind (node ∷ nodes) rest none =
    ap (λ (own : List Declared). own ++ all_declared (join (forest nodes) rest)) none.0 ∙ declared_behind nodes rest none.1

declared_gap : (old new : List PlainNode) (gap : Gap) → DeclareNone old → DeclareNone new
    → all_declared (filled (forest old) gap) ≡ all_declared (filled (forest new) gap)
declared_gap old new (Gap.here rest) gone came = declared_behind old rest gone ∙ sym (declared_behind new rest came)
declared_gap old new (Gap.inside label inner rest) gone came = refl
declared_gap old new (Gap.behind label inner rest) gone came = ap (λ all. declares label ++ all) (declared_gap old new rest gone came)

-- the gap is inside main or a procedure, or else what went and what came there have the same slot and the same inside
abbrev pub IsQuiet : (old new : List PlainNode) → Gap → Type 0
IsQuiet old new (Gap.here rest) =
    (one other : PlainNode) × (old ≡ one ∷ []) × (new ≡ other ∷ []) × (one.label.slot ≡ other.label.slot) × (one.inner ≡ other.inner)
IsQuiet old new (Gap.inside label inner rest) = DeclareNone old × DeclareNone new
IsQuiet old new (Gap.behind label inner rest) = IsQuiet old new rest

pub items_quiet : (slot : ℕ) (old new : List PlainNode) (gap : Gap) → IsQuiet old new gap
    → Items (filled (forest old) gap) slot ≡ Items (filled (forest new) gap) slot
items_quiet slot old new (Gap.here rest) (one, other, old_is, new_is, same, inside) =
    ap (λ (ns : List PlainNode). Items (join (forest ns) rest) slot) old_is
    ∙ items_first one.label one.inner rest slot
    ∙ (λ i. chosen (same i == slot) (inside i) rest slot)
    ∙ sym (items_first other.label other.inner rest slot)
    ∙ sym (ap (λ (ns : List PlainNode). Items (join (forest ns) rest) slot) new_is)
items_quiet slot old new (Gap.inside label inner rest) quiet =
    items_first label (filled (forest old) inner) rest slot
    ∙ ap (λ (all : List Declared). if label.slot == slot then effective [] all else Items rest slot) (declared_gap old new inner quiet.0 quiet.1)
    ∙ sym (items_first label (filled (forest new) inner) rest slot)
items_quiet slot old new (Gap.behind label inner rest) quiet =
    items_first label inner (filled (forest old) rest) slot
    ∙ ap (λ (items : List Declared). if label.slot == slot then items_inside inner else items) (items_quiet slot old new rest quiet)
    ∙ sym (items_first label inner (filled (forest new) rest) slot)

-- ---- by the path of the gap

-- an item was put in place of another, added or dropped
pub elsewhere_here : (slot k : ℕ) (old new : List PlainNode) (gap : Gap) → IsGapAt k [] gap → AreApart slot old → AreApart slot new
    → IsElsewhere slot old new gap
elsewhere_here slot zero old new (Gap.here rest) at gone came = (gone, came)
elsewhere_here slot zero old new (Gap.inside label inner rest) at gone came = absurd at
elsewhere_here slot zero old new (Gap.behind label inner rest) at gone came = absurd at
elsewhere_here slot (suc k) old new (Gap.here rest) at gone came = absurd at
elsewhere_here slot (suc k) old new (Gap.inside label inner rest) at gone came = absurd at
elsewhere_here slot (suc k) old new (Gap.behind label inner rest) at gone came = elsewhere_here slot k old new rest at gone came

-- the edit was made inside the item of the number
pub elsewhere_inside : (slot k j : ℕ) (path : List ℕ) (old new : List PlainNode) (items : Forest) (gap : Gap) (node : PlainNode)
    → IsGapAt k (j ∷ path) gap → slice_get (nodes (filled items gap)) k ≡ Some node → (node.label.slot ≡ slot → ⊥)
    → IsElsewhere slot old new gap
elsewhere_inside slot zero j path old new items (Gap.here rest) node at there apart = absurd at
elsewhere_inside slot zero j path old new items (Gap.inside label inner rest) node at there apart =
    λ same. apart (sym (ap (λ (n : PlainNode). n.label.slot) (ap (taken node) there)) ∙ same)
elsewhere_inside slot zero j path old new items (Gap.behind label inner rest) node at there apart = absurd at
elsewhere_inside slot (suc k) j path old new items (Gap.here rest) node at there apart = absurd at
elsewhere_inside slot (suc k) j path old new items (Gap.inside label inner rest) node at there apart = absurd at
elsewhere_inside slot (suc k) j path old new items (Gap.behind label inner rest) node at there apart =
    elsewhere_inside slot k j path old new items rest node at there apart

-- nothing that declares went or came inside an item
pub quiet_inside : (k j : ℕ) (path : List ℕ) (old new : List PlainNode) (gap : Gap) → IsGapAt k (j ∷ path) gap → DeclareNone old → DeclareNone new
    → IsQuiet old new gap
quiet_inside zero j path old new (Gap.here rest) at gone came = absurd at
quiet_inside zero j path old new (Gap.inside label inner rest) at gone came = (gone, came)
quiet_inside zero j path old new (Gap.behind label inner rest) at gone came = absurd at
quiet_inside (suc k) j path old new (Gap.here rest) at gone came = absurd at
quiet_inside (suc k) j path old new (Gap.inside label inner rest) at gone came = absurd at
quiet_inside (suc k) j path old new (Gap.behind label inner rest) at gone came = quiet_inside k j path old new rest at gone came

-- a part of an item was set
pub quiet_here : (k : ℕ) (one other : PlainNode) (gap : Gap) → IsGapAt k [] gap → one.label.slot ≡ other.label.slot → one.inner ≡ other.inner
    → IsQuiet (one ∷ []) (other ∷ []) gap
quiet_here zero one other (Gap.here rest) at same inside = (one, other, refl, refl, same, inside)
quiet_here zero one other (Gap.inside label inner rest) at same inside = absurd at
quiet_here zero one other (Gap.behind label inner rest) at same inside = absurd at
quiet_here (suc k) one other (Gap.here rest) at same inside = absurd at
quiet_here (suc k) one other (Gap.inside label inner rest) at same inside = absurd at
quiet_here (suc k) one other (Gap.behind label inner rest) at same inside = quiet_here k one other rest at same inside

-- ---- room plays no part

declared_roomless : (items : Forest) → all_declared (roomless items) ≡ all_declared items
declared_roomless Forest.nil = refl
declared_roomless (Forest.cons label inner rest) = ap (λ all. declares label ++ all) (declared_roomless rest)

pub items_roomless : (slot : ℕ) (items : Forest) → Items (roomless items) slot ≡ Items items slot
items_roomless slot Forest.nil = refl
items_roomless slot (Forest.cons label inner rest) =
    items_first (record label { spare = 0 }) (roomless inner) (roomless rest) slot
    ∙ (λ i. if label.slot == slot then effective [] (declared_roomless inner i) else items_roomless slot rest i)
    ∙ sym (items_first label inner rest slot)

pub items_alike : (slot : ℕ) (one other : Forest) → roomless one ≡ roomless other → Items one slot ≡ Items other slot
items_alike slot one other same = sym (items_roomless slot one) ∙ ap (λ (f : Forest). Items f slot) same ∙ items_roomless slot other

-- ---- the procedure of the edit

pub counted : (a b : ℕ) → a ≡ b → ◌≡◌ {A = ℕ} (if a == b then 1 else 0) 1
counted a b same = ap (λ (t : Bool). let n : ℕ = if t then 1 else 0 in n) (eq-eqb a b same)

item_live : (items : Forest) (k : ℕ) (node : PlainNode) → slice_get (nodes items) k ≡ Some node → 1 ≤ times node.label.slot items
item_live Forest.nil k node there = absurd (none-some node there)
item_live (Forest.cons label inner rest) zero node there =
    let one = counted label.slot node.label.slot (ap (λ (n : PlainNode). n.label.slot) (ap (taken node) there)) in omega (arith, one)
item_live (Forest.cons label inner rest) (suc k) node there = let more = item_live rest k node there in omega (arith, more)

-- the items of an item that is there
pub items_there : (items : Forest) (k : ℕ) (node : PlainNode) → slice_get (nodes items) k ≡ Some node → times node.label.slot items ≤ 1
    → Items items node.label.slot ≡ items_inside node.inner
items_there Forest.nil k node there once = absurd (none-some node there)
items_there (Forest.cons label inner rest) zero node there once =
    subst (λ (n : PlainNode). Items (Forest.cons label inner rest) n.label.slot ≡ items_inside n.inner) (ap (taken node) there)
    (items_own label inner rest label.slot refl)
items_there (Forest.cons label inner rest) (suc k) node there once =
    let live = item_live rest k node there in
    items_others label inner rest node.label.slot
    (λ same. let one = counted label.slot node.label.slot same in omega (arith, one, live, once))
    ∙ items_there rest k node there (omega (arith, once))

-- a slot that doesn't stand has none
pub items_nowhere : (items : Forest) (slot : ℕ) → times slot items ≡ 0 → Items items slot ≡ []
items_nowhere Forest.nil slot none = refl
items_nowhere (Forest.cons label inner rest) slot none =
    items_others label inner rest slot (λ same. let one = counted label.slot slot same in omega (arith, one, none))
    ∙ items_nowhere rest slot (omega (arith, none))
