-- `callers_wait`: a frame keeps fewer loops than a program is deep.
-- Each loop that a frame keeps is a node round the frame's place, or the one there. The outermost of these nodes is
-- main or a procedure, which is no loop, so the loops are fewer than the nodes, and a path of nodes has at most 64.
use Rattle.std.specs.Prelude.{◌≡◌, refl, ℕ, suc, ◌+◌, ◌<◌, ◌≤◌, ◌==◌, Bool, true, false, if◌then◌else◌, ◌||◌, List, [], ◌∷◌, ◌++◌, length, map, slice_index_or}
use Rattle.std.proofs.Common.{ap, sym, ◌∙◌, arith, inl, inr}
use Rattle.std.proofs.Math.Bool.{false≢true}
use Rattle.std.proofs.lemmas.List.{length-append, length-map}
use Rattle.plcs_grammar.specs.declared.node_kind.NodeKind.{NodeKind}
use Rattle.plcs_grammar.specs.declared.node_kind.Sort.{Sort}
use Rattle.plcs_grammar.specs.declared.template.Template.{Template}
use Rattle.plcs_grammar.specs.Template.{program_sections}
use Rattle.template_tree.specs.Positions.Place.{begins_run}
use Rattle.template_tree.specs.Programs.PlainTree.{Forest}
use Rattle.template_tree.specs.Programs.Program.{Fill, sort_of, sorts}
use Rattle.template_tree.specs.Programs.Slots.{depth}
use Rattle.tree_steps.specs.StandingSlot.{Around, StandsBelow, loop_by_kind, loop_by_template, loops_around}
use Rattle.plcs_store.specs.declared.frame.Frame.{Frame}
use Rattle.plcs_store.specs.declared.kept_loop.KeptLoop.{KeptLoop}
use Rattle.plcs_store.specs.Configuration.{frame_place}
use Rattle.plcs_store.specs.Fits.{loops_at}
use Rattle.plcs_store.specs.StepLaws.{FittingLoopsHaveRoom}
use Rattle.plcs_store.proofs.FirstPlace.{begins_among}
use Rattle.plcs_store.proofs.KeptFit.FittingFrames.{FrameFits, fitting_frames, of_each}

-- ---- loops of one node

one_by_template : (template : Template) (slot : ℕ) → length (loop_by_template template slot) ≤ 1
one_by_template Template.For slot = omega arith
one_by_template other slot = omega arith

one_loop : (kind : NodeKind) (slot : ℕ) → length (loop_by_kind kind slot) ≤ 1
one_loop (NodeKind.Filled template) slot = one_by_template template slot
one_loop other slot = omega arith

template_no_loop : (template : Template) (slot : ℕ) → begins_run (sort_of (NodeKind.Filled template)) ≡ false → loop_by_template template slot ≡ []
template_no_loop Template.For slot e = absurd (false≢true (sym e))
template_no_loop other slot e = refl

-- a run begins at each loop
no_loop : (kind : NodeKind) (slot : ℕ) → begins_run (sort_of kind) ≡ false → loop_by_kind kind slot ≡ []
no_loop (NodeKind.Filled template) slot e = template_no_loop template slot e
no_loop other slot e = refl

-- ---- loops on a path of nodes

-- the loops on a path and in the node at its end
abbrev loops_to : NodeKind → (slot : ℕ) → Around → ℕ
loops_to kind slot around = length (loops_around around) + length (loop_by_kind kind slot)

few_loops : (above : Around) (items : Forest) (slot : ℕ) (kind : NodeKind) (around : Around) → StandsBelow above items slot kind around
    → loops_to kind slot around ≤ length (loops_around above) + depth items
few_loops above Forest.nil slot kind around stands = absurd stands
few_loops above (Forest.cons label inner rest) slot kind around (inl here) =
    let same : length (loops_around above) ≡ length (loops_around around) = ap (λ (a : Around). length (loops_around a)) here.2 in
    omega (arith, one_loop kind slot, same)
few_loops above (Forest.cons label inner rest) slot kind around (inr (inl below)) =
    let deeper = few_loops ((label.slot, label.kind) ∷ above) inner slot kind around below in
    let more = length-append (loops_around above) (loop_by_kind label.kind label.slot) in
    omega (arith, deeper, more, one_loop label.kind label.slot)
few_loops above (Forest.cons label inner rest) slot kind around (inr (inr beside)) =
    let others = few_loops above rest slot kind around beside in omega (arith, others)

-- ---- the outermost node

either : (one other : Bool) → (one || other) ≡ false → (one ≡ false) × (other ≡ false)
either true other e = absurd (false≢true (sym e))
either false other e = (refl, e)

-- where a run begins at none of the outermost nodes
fewer_loops : (items : Forest) (slot : ℕ) (kind : NodeKind) (around : Around) → begins_among (sorts items) ≡ false
    → StandsBelow [] items slot kind around → loops_to kind slot around < depth items
fewer_loops Forest.nil slot kind around none stands = absurd stands
fewer_loops (Forest.cons label inner rest) slot kind around none (inl here) =
    let own : loop_by_kind label.kind slot ≡ [] = no_loop label.kind slot (either (begins_run (sort_of label.kind)) (begins_among (sorts rest)) none).0 in
    let outside : length (loops_around around) ≡ 0 = sym (ap (λ (a : Around). length (loops_around a)) here.2) in
    let inside : length (loop_by_kind kind slot) ≡ 0 = sym (ap (λ (k : NodeKind). length (loop_by_kind k slot)) here.1) ∙ ap length own in
    omega (arith, outside, inside)
fewer_loops (Forest.cons label inner rest) slot kind around none (inr (inl below)) =
    let own : loop_by_kind label.kind label.slot ≡ [] =
    no_loop label.kind label.slot (either (begins_run (sort_of label.kind)) (begins_among (sorts rest)) none).0 in
    let outside : length (loops_around ((label.slot, label.kind) ∷ [])) ≡ 0 = ap length own in
    let deeper = few_loops ((label.slot, label.kind) ∷ []) inner slot kind around below in
    omega (arith, outside, deeper)
fewer_loops (Forest.cons label inner rest) slot kind around none (inr (inr beside)) =
    let others =
    fewer_loops rest slot kind around (either (begins_run (sort_of label.kind)) (begins_among (sorts rest)) none).1 beside in
    omega (arith, others)

-- ---- a program

procedures : (own : List Sort) → ((k : ℕ) (d : Sort) → k < length own → slice_index_or own k d ≡ Sort.Procedure) → begins_among (own ++ []) ≡ false
procedures [] all = refl
procedures (sort ∷ own) all =
    ap (λ (s : Sort). begins_run s || begins_among (own ++ [])) (all 0 Sort.Procedure (omega arith))
    ∙ procedures own (λ k d few. all (suc k) d (omega (arith, few)))

-- a run that comes to nodes in order begins at neither main nor procedures
none_begins : (items : List Sort) → Fill program_sections items → begins_among items ≡ false
none_begins items (main, others, same, is_main, (own, last, are, all, none)) =
    ap begins_among same
    ∙ (ap (λ (first : List Sort). begins_among (first ++ others)) is_main
    ∙ (ap begins_among are ∙ (ap (λ (rest : List Sort). begins_among (own ++ rest)) none ∙ procedures own all.1)))

-- ---- the loops of a frame

few_at : (here : Bool) (kind : NodeKind) (slot : ℕ) (around : Around)
    → length (loops_around around ++ (if here then loop_by_kind kind slot else [])) ≤ loops_to kind slot around
few_at true kind slot around = let all = length-append (loops_around around) (loop_by_kind kind slot) in omega (arith, all)
few_at false kind slot around = let all : length (loops_around around ++ []) ≡ length (loops_around around) + 0 = length-append (loops_around around) [] in omega (arith, all)

-- a frame that fits keeps the loops in which its place stands
frame_few : (program : Forest) (waits : Bool) (frame : Frame) → begins_among (sorts program) ≡ false → FrameFits program waits frame
    → length frame.loops < depth program
frame_few program waits frame none fits =
    let (kind, around, at) = fits.stands in
    let slots : List ℕ = map (λ (kept : KeptLoop). kept.slot.0) frame.loops in
    let as_many : length slots ≡ length frame.loops = length-map frame.loops (λ (kept : KeptLoop). kept.slot.0) in
    let are : length slots ≡ length (loops_at kind around (frame_place frame)) = ap length (fits.loops kind around at.stands) in
    let few = few_at (frame.place.point.0 == 1) kind frame.place.slot.0 around in
    let fewer = fewer_loops program frame.place.slot.0 kind around none at.stands in
    omega (arith, as_many, are, few, fewer)

pub loops_have_room : FittingLoopsHaveRoom
loops_have_room tree c number frame is fits there =
    let few : length frame.loops < depth tree.items =
    of_each tree.items c.frames (λ one. length one.loops < depth tree.items) (fitting_frames tree.items c fits)
    (λ waits one fit. frame_few tree.items waits one (none_begins (sorts tree.items) is.program.listed) fit) number frame there in
    let shallow : depth tree.items ≤ 64 = is.shallow in
    let fewer : length frame.loops < 64 = omega (arith, few, shallow) in
    fewer
