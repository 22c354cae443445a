-- What becomes of the node at a path is, level by level, another node in the place of one on the way; each height on
-- the way is taken anew from the node below, so the kept heights are again those of the nodes.
use Rattle.std.specs.Prelude.{◌≡◌, ◌≤◌, ◌∷◌, Some, None, length, slice_get, slice_set}
use Rattle.std.proofs.Common.{arith, ap, sym, ◌∙◌, subst}
use Rattle.std.proofs.lemmas.Option.{slice_get_within}
use Rattle.prefix_sums.specs.PlainPrefixSums.{PlainPrefixSums}
use Rattle.template_tree.specs.Programs.Limit.{most_slots}
use Rattle.unparse_layout.specs.Bones.{bone_count}
use Rattle.unparse_layout.specs.LayoutEdit.{MayMendAt, layout_mended_at}
use Rattle.unparse_layout.specs.Private.LayoutEditView.{plain_mend, with_mend}
use Rattle.unparse_layout.specs.Private.PlainNodeLayout.{PlainNodeLayout, bones, node_layouts}
use Rattle.unparse_layout.proofs.MendedLists.{empty, mended_inside, may_inside, may_there, numbers_fit, set_count, set_numbers}
use Rattle.unparse_layout.proofs.Heights.{height_le}
use Rattle.unparse_layout.proofs.Opened.{found_again, items_are, numbers_are, numbers_length}
use Rattle.unparse_layout.proofs.node_layout.NodeLayout.+mend_at.Goals as goal

pub mend-requires-clause-there : goal.mend-requires-clause-there
mend-requires-clause-there t c =
    subst (λ path. MayMendAt (plain_mend c.args.mend) (c.args.k ∷ path) c.args.self.now.inner) (empty c.args.path.now c.in_default.ensures.cases) c.requires.there

pub mend-requires-clause-few : goal.mend-requires-clause-few
mend-requires-clause-few t c =
    subst (λ path. bone_count (layout_mended_at (plain_mend c.args.mend) (c.args.k ∷ path) c.args.self.now.inner) ≤ most_slots)
    (empty c.args.path.now c.in_default.ensures.cases) c.requires.few

pub returns-in_default : goal.returns-in_default
returns-in_default t c =
    c.mend.ensures ∙ ap (λ path. with_mend (plain_mend c.args.mend) (c.args.k ∷ path) c.args.self.now) (sym (empty c.args.path.now c.in_default.ensures.cases))

pub unreachable-requires : goal.unreachable-requires
unreachable-requires t c =
    let none : slice_get (node_layouts c.args.self.now.inner) c.args.k ≡ None =
    found_again c.self.inside c.args.self.now c.args.k c.self.view_is ∙ sym c.in_default-get_mut.ensures.found in
    absurd (may_there (plain_mend c.args.mend) c.args.k c.in-Some.next.now c.args.path.now c.in-Some.rest.now c.args.self.now.inner c.in-Some.ensures.cases.0
    none c.requires.there)

pub mend_at-requires : goal.mend_at-requires
mend_at-requires t c =
    let mend = plain_mend c.args.mend in
    let inner = c.args.self.now.inner in
    let item = c.in-Some-get_mut.item.now in
    let way : c.args.path.now ≡ c.in-Some.next.now ∷ c.in-Some.rest.now = c.in-Some.ensures.cases.0 in
    let there : slice_get (node_layouts inner) c.args.k ≡ Some item =
    found_again c.self.inside c.args.self.now c.args.k c.self.view_is ∙ sym c.in-Some-get_mut.ensures.found in
    let new = with_mend mend (c.in-Some.next.now ∷ c.in-Some.rest.now) item in
    let is = mended_inside mend c.args.k c.in-Some.next.now c.args.path.now c.in-Some.rest.now inner item way there in
    let within = slice_get_within (node_layouts inner) c.args.k item there in (
      omega (arith, ap length way),
      (
        may_inside mend c.args.k c.in-Some.next.now c.args.path.now c.in-Some.rest.now inner item way there c.requires.there,
        omega (arith, c.requires.few, ap bone_count is, set_count (node_layouts inner) c.args.k new within),
      ),
    )

pub height-height-requires : goal.height-height-requires
height-height-requires t c =
    let mend = plain_mend c.args.mend in
    let inner = c.args.self.now.inner in
    let item = c.in-Some-get_mut.item.now in
    let way : c.args.path.now ≡ c.in-Some.next.now ∷ c.in-Some.rest.now = c.in-Some.ensures.cases.0 in
    let there : slice_get (node_layouts inner) c.args.k ≡ Some item =
    found_again c.self.inside c.args.self.now c.args.k c.self.view_is ∙ sym c.in-Some-get_mut.ensures.found in
    let new = with_mend mend (c.in-Some.next.now ∷ c.in-Some.rest.now) item in
    let is = mended_inside mend c.args.k c.in-Some.next.now c.args.path.now c.in-Some.rest.now inner item way there in
    let within = slice_get_within (node_layouts inner) c.args.k item there in
    let same : bone_count c.mend_at.new.self.inner ≡ bone_count new.inner = ap (λ (o : PlainNodeLayout). bone_count o.inner) c.mend_at.ensures in
    record {
      fits =
          omega (
            arith,
            height_le c.mend_at.new.self,
            same,
            c.requires.few,
            ap bone_count is,
            set_count (node_layouts inner) c.args.k new within,
          );
    }

pub set-requires-clause-there : goal.set-requires-clause-there
set-requires-clause-there t c =
    let there : slice_get (node_layouts c.args.self.now.inner) c.args.k ≡ Some c.in-Some-get_mut.item.now =
    found_again c.self.inside c.args.self.now c.args.k c.self.view_is ∙ sym c.in-Some-get_mut.ensures.found in
    let within = slice_get_within (node_layouts c.args.self.now.inner) c.args.k c.in-Some-get_mut.item.now there in
    omega (arith, within, numbers_length c.self.inside c.args.self.now c.self.view_is c.self.invariant)

pub set-requires-clause-fits : goal.set-requires-clause-fits
set-requires-clause-fits t c =
    let mend = plain_mend c.args.mend in
    let inner = c.args.self.now.inner in
    let item = c.in-Some-get_mut.item.now in
    let way : c.args.path.now ≡ c.in-Some.next.now ∷ c.in-Some.rest.now = c.in-Some.ensures.cases.0 in
    let there : slice_get (node_layouts inner) c.args.k ≡ Some item =
    found_again c.self.inside c.args.self.now c.args.k c.self.view_is ∙ sym c.in-Some-get_mut.ensures.found in
    let is = mended_inside mend c.args.k c.in-Some.next.now c.args.path.now c.in-Some.rest.now inner item way there in
    let are = numbers_are c.self.inside c.args.self.now c.self.view_is c.self.invariant in
    let news =
    set_numbers c.self.inside.heights.numbers (node_layouts inner) c.args.k c.mend_at.new.self c.height-height.result are c.height-height.ensures in
    let few : bone_count (bones (slice_set (node_layouts inner) c.args.k c.mend_at.new.self)) ≤ most_slots =
    omega (arith, c.requires.few, ap bone_count is, ap (λ o. bone_count (bones (slice_set (node_layouts inner) c.args.k o))) c.mend_at.ensures) in
    omega (
      arith,
      numbers_fit (slice_set c.self.inside.heights.numbers c.args.k c.height-height.result)
          (slice_set (node_layouts inner) c.args.k c.mend_at.new.self) most_slots news few,
    )

pub invariant_of-self : goal.invariant_of-self
invariant_of-self t c =
    record {
      heights =
          ap (λ (s : PlainPrefixSums). s.numbers) c.set.ensures
          ∙ set_numbers c.self.inside.heights.numbers c.self.inside.inner.items c.args.k c.mend_at.new.self c.height-height.result
          c.self.invariant.heights c.height-height.ensures;
    }

pub returns : goal.returns
returns t c =
    let mend = plain_mend c.args.mend in
    let old = c.args.self.now in
    let item = c.in-Some-get_mut.item.now in
    let way : c.args.path.now ≡ c.in-Some.next.now ∷ c.in-Some.rest.now = c.in-Some.ensures.cases.0 in
    let there : slice_get (node_layouts old.inner) c.args.k ≡ Some item =
    found_again c.self.inside old c.args.k c.self.view_is ∙ sym c.in-Some-get_mut.ensures.found in
    let is = mended_inside mend c.args.k c.in-Some.next.now c.args.path.now c.in-Some.rest.now old.inner item way there in
    (λ i. record {
      bone = (ap (λ (o : PlainNodeLayout). o.bone) c.self.view_is) i;
      inner = bones (slice_set c.self.inside.inner.items c.args.k c.mend_at.new.self);
    })
    ∙ ap (λ items. let n : PlainNodeLayout = record { bone = old.bone; inner = bones (slice_set items c.args.k c.mend_at.new.self) } in n)
    (sym (items_are c.self.inside old c.self.view_is))
    ∙ ap (λ o. let n : PlainNodeLayout = record { bone = old.bone; inner = bones (slice_set (node_layouts old.inner) c.args.k o) } in n) c.mend_at.ensures
    ∙ ap (λ l. let n : PlainNodeLayout = record { bone = old.bone; inner = l } in n) (sym is)
