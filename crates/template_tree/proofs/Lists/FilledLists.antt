-- Items stay those of their sections where an item of a list stands twice, or is taken out of a list of two or more.
use Rattle.std.specs.Prelude.{◌≡◌, refl, ℕ, zero, suc, ◌+◌, ◌≤◌, Bool, true, false, is_some, if◌then◌else◌, List, [], ◌∷◌, ◌++◌, length, All, Option, Some, None, slice_get}
use Rattle.std.proofs.Common.{ap, sym, ◌∙◌, subst, arith, ◌⊎◌, inl, inr}
use Rattle.std.proofs.Math.Bool.{false≢true}
use Rattle.std.proofs.lemmas.Option.{none-some}
use Rattle.std.proofs.lemmas.Bool.{or_parts}
use Rattle.plcs_grammar.specs.declared.node_kind.Sort.{Sort}
use Rattle.plcs_grammar.specs.declared.row.Amount.{Amount}
use Rattle.plcs_grammar.specs.Template.{PlainSection}
use Rattle.template_tree.specs.Listings.Section.{same_sort}
use Rattle.template_tree.specs.Programs.Program.{AreItems, Fill}
use Rattle.template_tree.specs.Edits.Hole.{hole_of}
use Rattle.template_tree.specs.Edits.ListItem.{is_list, is_listed, how_many}
use Rattle.template_tree.specs.Private.Apart.{sections_have_sort, IsApart, AreApart}

-- sorts that are found to be one are one
pub same_is : (one other : Sort) → same_sort one other ≡ true → one ≡ other
same_is Sort.Main Sort.Main e = refl
same_is Sort.Procedure Sort.Procedure e = refl
same_is Sort.Declaration Sort.Declaration e = refl
same_is Sort.Statement Sort.Statement e = refl
same_is one other e = absurd (false≢true e)

pub same_self : (sort : Sort) → same_sort sort sort ≡ true
same_self Sort.Main = refl
same_self Sort.Procedure = refl
same_self Sort.Declaration = refl
same_self Sort.Statement = refl

-- the list with the item of this number twice
abbrev pub doubled : ℕ → List Sort → List Sort
doubled k [] = []
doubled zero (sort ∷ sorts) = sort ∷ (sort ∷ sorts)
doubled (suc k) (sort ∷ sorts) = sort ∷ doubled k sorts

-- the list without the item of this number
abbrev pub without : ℕ → List Sort → List Sort
without k [] = []
without zero (sort ∷ sorts) = sorts
without (suc k) (sort ∷ sorts) = sort ∷ without k sorts

-- all of them are of the sort
abbrev pub AreOf : Sort → List Sort → Type 0
AreOf sort [] = Unit {0}
AreOf sort (item ∷ items) = (item ≡ sort) × AreOf sort items

are_of : (sort : Sort) (items : List Sort) → All (λ item. item ≡ sort) items → AreOf sort items
are_of sort [] all = tt
are_of sort (item ∷ items) all = (all zero item (omega arith), are_of sort items (λ k d h. all (suc k) d (omega (arith, h))))

all_of : (sort : Sort) (items : List Sort) → AreOf sort items → All (λ item. item ≡ sort) items
all_of sort [] are k d h = absurd (omega (arith, h))
all_of sort (item ∷ items) are zero d h = are.0
all_of sort (item ∷ items) are (suc k) d h = all_of sort items are.1 k d (omega (arith, h))

-- the item of this number stands among the first of them
pub record IsOwn (own others : List Sort) (k : ℕ) : Type 0 where
  pub there : slice_get (own ++ others) k ≡ slice_get own k
  pub doubled_is : doubled k (own ++ others) ≡ doubled k own ++ others
  pub without_is : without k (own ++ others) ≡ without k own ++ others

-- it stands among the others
pub record IsOther (own others : List Sort) (k : ℕ) : Type 0 where
  pub place : ℕ
  pub there : slice_get (own ++ others) k ≡ slice_get others place
  pub doubled_is : doubled k (own ++ others) ≡ own ++ doubled place others
  pub without_is : without k (own ++ others) ≡ own ++ without place others

-- the same behind one more
later : (sort : Sort) (own others : List Sort) (k : ℕ) → IsOwn own others k ⊎ IsOther own others k
    → IsOwn (sort ∷ own) others (suc k) ⊎ IsOther (sort ∷ own) others (suc k)
later sort own others k (inl a) =
    inl record {
      there = a.there;
      doubled_is = ap (λ ss. sort ∷ ss) a.doubled_is;
      without_is = ap (λ ss. sort ∷ ss) a.without_is;
    }
later sort own others k (inr a) =
    inr record {
      place = a.place;
      there = a.there;
      doubled_is = ap (λ ss. sort ∷ ss) a.doubled_is;
      without_is = ap (λ ss. sort ∷ ss) a.without_is;
    }

-- one or the other
place_of : (own others : List Sort) (k : ℕ) → IsOwn own others k ⊎ IsOther own others k
place_of [] others k = inr record { place = k; there = refl; doubled_is = refl; without_is = refl }
place_of (sort ∷ own) others zero = inl record { there = refl; doubled_is = refl; without_is = refl }
place_of (sort ∷ own) others (suc k) = later sort own others k (place_of own others k)

-- what is there, or else the sort
abbrev taken : Sort → Option Sort → Sort
taken sort None = sort
taken sort (Some there) = there

got : (item first : Sort) → Some first ≡ Some item → first ≡ item
got item first e = ap (taken first) e

-- where all are of a sort, each is
each_of : (sort item : Sort) (items : List Sort) (k : ℕ) → AreOf sort items → slice_get items k ≡ Some item → item ≡ sort
each_of sort item [] k are e = absurd (none-some item e)
each_of sort item (first ∷ items) zero are e = sym (got item first e) ∙ are.0
each_of sort item (first ∷ items) (suc k) are e = each_of sort item items k are.1 e

doubled_of : (sort : Sort) (items : List Sort) (k : ℕ) → AreOf sort items → AreOf sort (doubled k items)
doubled_of sort [] k are = tt
doubled_of sort (item ∷ items) zero are = (are.0, are)
doubled_of sort (item ∷ items) (suc k) are = (are.0, doubled_of sort items k are.1)

without_of : (sort : Sort) (items : List Sort) (k : ℕ) → AreOf sort items → AreOf sort (without k items)
without_of sort [] k are = tt
without_of sort (item ∷ items) zero are = are.1
without_of sort (item ∷ items) (suc k) are = (are.0, without_of sort items k are.1)

no_fewer : (items : List Sort) (k : ℕ) → length items ≤ length (doubled k items)
no_fewer [] k = omega arith
no_fewer (item ∷ items) zero = omega arith
no_fewer (item ∷ items) (suc k) = omega (arith, no_fewer items k)

one_fewer : (items : List Sort) (k : ℕ) → length items ≤ length (without k items) + 1
one_fewer [] k = omega arith
one_fewer (item ∷ items) zero = omega arith
one_fewer (item ∷ items) (suc k) = omega (arith, one_fewer items k)

-- counting
many_both : (sort : Sort) (own others : List Sort) → how_many sort (own ++ others) ≡ how_many sort own + how_many sort others
many_both sort [] others = omega arith
many_both sort (item ∷ own) others = omega (arith, many_both sort own others)

one_at_most : (b : Bool) → (if b then 1 else 0) ≤ 1
one_at_most true = omega arith
one_at_most false = omega arith

pub many_few : (sort : Sort) (items : List Sort) → how_many sort items ≤ length items
many_few sort [] = omega arith
many_few sort (item ∷ items) = omega (arith, one_at_most (same_sort sort item), many_few sort items)

-- an item that stands there counts
counts : (sort : Sort) (items : List Sort) (k : ℕ) → slice_get items k ≡ Some sort → 1 ≤ how_many sort items
counts sort [] k e = absurd (none-some sort e)
counts sort (item ∷ items) zero e =
    let same : item ≡ sort = got sort item e in
    subst (λ s. 1 ≤ (if same_sort sort s then 1 else 0) + how_many sort items) (sym same) (rw (same_self sort) (omega arith))
counts sort (item ∷ items) (suc k) e = omega (arith, counts sort items k e)

-- none of another sort are of the sort
differ : (b : Bool) (sort item : Sort) → same_sort sort item ≡ b → same_sort item sort ≡ false → b ≡ false
differ true sort item e other = absurd (false≢true (sym other ∙ (ap (λ s. same_sort s sort) (sym (same_is sort item e)) ∙ same_self sort)))
differ false sort item e other = refl

none_of : (sort item : Sort) (items : List Sort) → same_sort item sort ≡ false → AreOf item items → how_many sort items ≡ 0
none_of sort item [] other are = refl
none_of sort item (first ∷ items) other are =
    let apart : same_sort sort first ≡ false =
    ap (same_sort sort) are.0 ∙ differ (same_sort sort item) sort item refl other in
    rw apart (omega (arith, none_of sort item items other are.1))

-- the items of a section are of its sort, one at least
pub own_of : (amount : Amount) (sort : Sort) (own : List Sort) → AreItems amount sort own → (1 ≤ length own) × AreOf sort own
own_of Amount.One sort own are = (rw are (omega arith), subst (AreOf sort) (sym are) (refl, tt))
own_of Amount.Many sort own are = (are.0, are_of sort own are.1)

-- where no section holds items of the sort, there are none
pub absent : (sort : Sort) (sections : List PlainSection) (items : List Sort) → sections_have_sort sort sections ≡ false → Fill sections items
    → how_many sort items ≡ 0
absent sort [] items none fill = ap (how_many sort) fill
absent sort (section ∷ sections) items none fill =
    let apart = or_parts (same_sort section.sort sort) (sections_have_sort sort sections) none in
    let own = own_of section.amount section.sort fill.0 fill.3 in
    omega (
      arith,
      ap (how_many sort) fill.2,
      many_both sort fill.0 fill.1,
      none_of sort section.sort fill.0 apart.0 own.1,
      absent sort sections fill.1 apart.1 fill.4,
    )

-- what a choice that is made says
chosen : (b : Bool) (one other : Bool) → b ≡ true → (if b then one else other) ≡ true → one ≡ true
chosen true one other e h = h
chosen false one other e h = absurd (false≢true e)

passed : (b : Bool) (one other : Bool) → b ≡ false → (if b then one else other) ≡ true → other ≡ true
passed true one other e h = absurd (false≢true (sym e))
passed false one other e h = h

-- a list has items of a sort, one or more, with no section behind it that holds such
many_apart : (amount : Amount) (sort : Sort) (sections : List PlainSection) → is_list amount ≡ true → IsApart amount sort sections
    → (amount ≡ Amount.Many) × (is_some (hole_of sort) ≡ true) × (sections_have_sort sort sections ≡ false)
many_apart Amount.One sort sections list apart = absurd (false≢true list)
many_apart Amount.Many sort sections list apart = (refl, apart.0, apart.1)

-- items of a sort that stands in a list have holes
hole_by : (b : Bool) (sort : Sort) (section : PlainSection) (sections : List PlainSection) → same_sort section.sort sort ≡ b
    → AreApart (section ∷ sections) → is_listed sort (section ∷ sections) ≡ true
    → (is_listed sort sections ≡ true → is_some (hole_of sort) ≡ true) → is_some (hole_of sort) ≡ true
hole_by true sort section sections e apart listed law =
    subst (λ s. is_some (hole_of s) ≡ true) (same_is section.sort sort e)
    (many_apart section.amount section.sort sections
    (chosen (same_sort section.sort sort) (is_list section.amount) (is_listed sort sections) e listed) apart.0).1
hole_by false sort section sections e apart listed law =
    law (passed (same_sort section.sort sort) (is_list section.amount) (is_listed sort sections) e listed)

pub listed_hole : (sort : Sort) (sections : List PlainSection) → AreApart sections → is_listed sort sections ≡ true → is_some (hole_of sort) ≡ true
listed_hole sort [] apart listed = absurd (false≢true listed)
listed_hole sort (section ∷ sections) apart listed =
    hole_by (same_sort section.sort sort) sort section sections refl apart listed (λ h. listed_hole sort sections apart.1 h)

-- an item among the others is no item of this list's sort
not_behind : (sort : Sort) (sections : List PlainSection) (others : List Sort) (place : ℕ) → sections_have_sort sort sections ≡ false → Fill sections others
    → slice_get others place ≡ Some sort → ⊥
not_behind sort sections others place none fill there = absurd (omega (arith, absent sort sections others none fill, counts sort others place there))

-- the items with one of them twice, where it is of a list
doubled_in : (b : Bool) (sort : Sort) (section : PlainSection) (sections : List PlainSection) (own others : List Sort) (k : ℕ)
    → same_sort section.sort sort ≡ b → AreApart (section ∷ sections) → is_listed sort (section ∷ sections) ≡ true
    → slice_get (own ++ others) k ≡ Some sort → AreItems section.amount section.sort own → Fill sections others
    → ((place : ℕ) → is_listed sort sections ≡ true → slice_get others place ≡ Some sort → Fill sections (doubled place others))
    → IsOwn own others k ⊎ IsOther own others k → Fill (section ∷ sections) (doubled k (own ++ others))
doubled_in true sort section sections own others k e apart listed there are fill law (inl a) =
    let many = many_apart section.amount section.sort sections
    (chosen (same_sort section.sort sort) (is_list section.amount) (is_listed sort sections) e listed) apart.0 in
    let o = own_of section.amount section.sort own are in (
      doubled k own,
      others,
      a.doubled_is,
      subst (λ amount. AreItems amount section.sort (doubled k own)) (sym many.0)
          (omega (arith, o.0, no_fewer own k), all_of section.sort (doubled k own) (doubled_of section.sort own k o.1)),
      fill,
    )
doubled_in false sort section sections own others k e apart listed there are fill law (inl a) =
    let o = own_of section.amount section.sort own are in
    let same : sort ≡ section.sort = each_of section.sort sort own k o.1 (sym a.there ∙ there) in
    absurd (false≢true (sym e ∙ (ap (same_sort section.sort) same ∙ same_self section.sort)))
doubled_in true sort section sections own others k e apart listed there are fill law (inr a) =
    let many = many_apart section.amount section.sort sections
    (chosen (same_sort section.sort sort) (is_list section.amount) (is_listed sort sections) e listed) apart.0 in
    absurd (not_behind sort sections others a.place (subst (λ s. sections_have_sort s sections ≡ false) (same_is section.sort sort e) many.2) fill (sym a.there ∙ there))
doubled_in false sort section sections own others k e apart listed there are fill law (inr a) = (
  own,
  doubled a.place others,
  a.doubled_is,
  are,
  law a.place (passed (same_sort section.sort sort) (is_list section.amount) (is_listed sort sections) e listed) (sym a.there ∙ there),
)

pub fill_doubled : (sections : List PlainSection) (items : List Sort) (sort : Sort) (k : ℕ) → AreApart sections → is_listed sort sections ≡ true
    → slice_get items k ≡ Some sort → Fill sections items → Fill sections (doubled k items)
fill_doubled [] items sort k apart listed there fill = absurd (false≢true listed)
fill_doubled (section ∷ sections) items sort k apart listed there fill =
    subst (λ ss. Fill (section ∷ sections) (doubled k ss)) (sym fill.2)
    (doubled_in (same_sort section.sort sort) sort section sections fill.0 fill.1 k refl apart listed
    (sym (ap (λ ss. slice_get ss k) fill.2) ∙ there) fill.3 fill.4
    (λ place h at. fill_doubled sections fill.1 sort place apart.1 h at fill.4) (place_of fill.0 fill.1 k))

-- the items without one of them, where it is of a list of two or more
without_in : (b : Bool) (sort : Sort) (section : PlainSection) (sections : List PlainSection) (own others : List Sort) (k : ℕ)
    → same_sort section.sort sort ≡ b → AreApart (section ∷ sections) → is_listed sort (section ∷ sections) ≡ true
    → slice_get (own ++ others) k ≡ Some sort → 2 ≤ how_many sort (own ++ others) → AreItems section.amount section.sort own → Fill sections others
    → ((place : ℕ) → is_listed sort sections ≡ true → slice_get others place ≡ Some sort → 2 ≤ how_many sort others → Fill sections (without place others))
    → IsOwn own others k ⊎ IsOther own others k → Fill (section ∷ sections) (without k (own ++ others))
without_in true sort section sections own others k e apart listed there two are fill law (inl a) =
    let many = many_apart section.amount section.sort sections
    (chosen (same_sort section.sort sort) (is_list section.amount) (is_listed sort sections) e listed) apart.0 in
    let o = own_of section.amount section.sort own are in
    let none : sections_have_sort sort sections ≡ false = subst (λ s. sections_have_sort s sections ≡ false) (same_is section.sort sort e) many.2 in (
      without k own,
      others,
      a.without_is,
      subst (λ amount. AreItems amount section.sort (without k own)) (sym many.0) (
        omega (arith, two, many_both sort own others, absent sort sections others none fill, many_few sort own, one_fewer own k),
        all_of section.sort (without k own) (without_of section.sort own k o.1),
      ),
      fill,
    )
without_in false sort section sections own others k e apart listed there two are fill law (inl a) =
    let o = own_of section.amount section.sort own are in
    let same : sort ≡ section.sort = each_of section.sort sort own k o.1 (sym a.there ∙ there) in
    absurd (false≢true (sym e ∙ (ap (same_sort section.sort) same ∙ same_self section.sort)))
without_in true sort section sections own others k e apart listed there two are fill law (inr a) =
    let many = many_apart section.amount section.sort sections
    (chosen (same_sort section.sort sort) (is_list section.amount) (is_listed sort sections) e listed) apart.0 in
    absurd (not_behind sort sections others a.place (subst (λ s. sections_have_sort s sections ≡ false) (same_is section.sort sort e) many.2) fill (sym a.there ∙ there))
without_in false sort section sections own others k e apart listed there two are fill law (inr a) =
    let o = own_of section.amount section.sort own are in (
      own,
      without a.place others,
      a.without_is,
      are,
      law a.place (passed (same_sort section.sort sort) (is_list section.amount) (is_listed sort sections) e listed) (sym a.there ∙ there)
          (omega (arith, two, many_both sort own others, none_of sort section.sort own e o.1)),
    )

pub fill_without : (sections : List PlainSection) (items : List Sort) (sort : Sort) (k : ℕ) → AreApart sections → is_listed sort sections ≡ true
    → slice_get items k ≡ Some sort → 2 ≤ how_many sort items → Fill sections items → Fill sections (without k items)
fill_without [] items sort k apart listed there two fill = absurd (false≢true listed)
fill_without (section ∷ sections) items sort k apart listed there two fill =
    subst (λ ss. Fill (section ∷ sections) (without k ss)) (sym fill.2)
    (without_in (same_sort section.sort sort) sort section sections fill.0 fill.1 k refl apart listed
    (sym (ap (λ ss. slice_get ss k) fill.2) ∙ there) (subst (λ ss. 2 ≤ how_many sort ss) fill.2 two) fill.3 fill.4
    (λ place h at more. fill_without sections fill.1 sort place apart.1 h at more fill.4) (place_of fill.0 fill.1 k))
