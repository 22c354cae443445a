-- The places that follow what stands at a place: each is one where the run may go on, with the loops that are kept
-- then. Inside a For one loop more is kept, behind it one less; everything else keeps the loops around it.
use Rattle.std.specs.Prelude.{◌≡◌, refl, ℕ, zero, suc, ◌+◌, ◌≤◌, ◌==◌, ◌&&◌, ◌||◌, not, nat_lt, Bool, true, false, if◌then◌else◌, List, [], ◌∷◌, ◌++◌, slice_get, IsTrue, Option, Some, None, option_and_then, option_map}
use Rattle.std.specs.Option.{option_or}
use Rattle.std.proofs.Common.{ap, sym, ◌∙◌, subst, arith, append-nil, inr}
use Rattle.std.proofs.Math.Bool.{false≢true}
use Rattle.std.proofs.lemmas.Option.{none-some}
use Rattle.plcs_grammar.specs.declared.node_kind.NodeKind.{NodeKind}
use Rattle.plcs_grammar.specs.declared.template.Template.{Template}
use Rattle.plcs_grammar.specs.PlainPhrase.{PlainPhrase, PlainVarRef}
use Rattle.template_tree.specs.Programs.Part.{part_at}
use Rattle.template_tree.specs.Positions.Place.{PlainPlace, Site, begin, has_point, has_start, inner_end, item_count, place_at, place_exists_at, site}
use Rattle.template_tree.specs.Programs.PlainTree.{Forest}
use Rattle.template_tree.specs.Programs.Program.{sort_of}
use Rattle.template_tree.specs.Programs.Slots.{times}
use Rattle.tree_steps.specs.RunPlace.{HasPlace, is_first_marked}
use Rattle.tree_steps.specs.StandingSlot.{Around, loop_by_kind, loops_around, outermost_slot}
use Rattle.plcs_store.specs.declared.reason.Reason.{Reason}
use Rattle.plcs_store.specs.Fits.{is_waiting_place, loops_at}
use Rattle.plcs_store.specs.Spot.{Spot, assignment_spot, behind_first, behind_item, call_spot, callee_named, condition_in, expression_in, expressions_in, for_spot, get_spot, halt_reason, iteration_spot, lacks_part, needing, point_spot, put_spot, said, site_spot, start_spot, template_point, template_start, test_spot, variable_in, variables_in}
use Rattle.plcs_store.proofs.KeptFit.Outcomes.{WhenThere, there_map, there_then}
use Rattle.plcs_store.proofs.KeptFit.Callees.{IsCallee, callee_called}
use Rattle.plcs_store.proofs.KeptFit.GoingOn.{AreWithin, GoesOn, MayStand, SiteLaws, Sited, begin_goes_on, end_goes_on}

-- the places that follow a spot are right for a frame of the procedure that stands in the slot there and keeps these
-- loops
abbrev pub Follows : (program : Forest) → (procedure : ℕ) → (loops : List ℕ) → (slot : ℕ) → Spot → Type 0
Follows program procedure loops slot (Spot.halts reason) = Unit {0}
Follows program procedure loops slot (Spot.assigns target value next) = GoesOn program procedure loops next
Follows program procedure loops slot (Spot.tests condition inside other) =
    GoesOn program procedure loops inside × GoesOn program procedure loops other
Follows program procedure loops slot (Spot.begins own name first limit step inside after) =
    GoesOn program procedure (loops ++ own ∷ []) inside × GoesOn program procedure loops after
Follows program procedure loops slot (Spot.iterates own name inside after) =
    GoesOn program procedure loops inside
    × ((outer : List ℕ) × (loops ≡ outer ++ own ∷ []) × GoesOn program procedure outer after)
Follows program procedure loops slot (Spot.reads target next) = GoesOn program procedure loops next
Follows program procedure loops slot (Spot.writes skip values next) = GoesOn program procedure loops next
Follows program procedure loops slot (Spot.calls callee arguments) =
    MayStand program true procedure loops (place_at slot 1) × IsCallee program callee
Follows program procedure loops slot (Spot.waits next) = GoesOn program procedure loops next
Follows program procedure loops slot Spot.leaves = Unit {0}

-- ---- what holds of a spot, if there is one

there_needing : (F : Spot → Type 0) (halted : Option Reason) (spot : Option Spot) → ((reason : Reason) → F (Spot.halts reason))
    → (halted ≡ None → WhenThere F spot) → WhenThere F (option_or (option_map Spot.halts halted) spot)
there_needing F None spot halts holds = holds refl
there_needing F (Some reason) spot halts holds = halts reason

there_at_one : (F : Spot → Type 0) (one : Bool) (spot : Option Spot) → (one ≡ true → WhenThere F spot) → WhenThere F (if one then spot else None)
there_at_one F true spot holds = holds refl
there_at_one F false spot holds = tt

there_unmarked : (F : Spot → Type 0) (marked : Bool) (spot : Option Spot) → (marked ≡ false → WhenThere F spot) → WhenThere F (if marked then None else spot)
there_unmarked F true spot holds = tt
there_unmarked F false spot holds = holds refl

-- a node that isn't halted at its only part has no mark there
not_marked : (lacks mark : Bool) → (if lacks then Some Reason.Placeholder else (if mark || false then Some Reason.Marked else None)) ≡ None → mark ≡ false
not_marked true mark e = absurd (none-some Reason.Placeholder (sym e))
not_marked false true e = absurd (none-some Reason.Marked (sym e))
not_marked false false e = refl

abbrev no_loops : List ℕ
no_loops = []

either_none : (one : Bool) → (if one then no_loops else no_loops) ≡ no_loops
either_none true = refl
either_none false = refl

either_goes : (one : Bool) (G : PlainPlace → Type 0) (a b : PlainPlace) → (one ≡ true → G a) → G b → G (if one then a else b)
either_goes true G a b first second = first refl
either_goes false G a b first second = second

within_rest : (program : Forest) (above : Around) (items : Forest) → AreWithin program above items → AreWithin program above (behind_first items)
within_rest program above Forest.nil within = within
within_rest program above (Forest.cons label inner rest) within = λ slot kind around h. within slot kind around (inr (inr h))

get_exists : (start marked few : Bool) → marked ≡ false → few ≡ true → IsTrue (start || (not marked && few))
get_exists true marked few unmarked more = refl
get_exists false true few unmarked more = absurd (false≢true (sym unmarked))
get_exists false false few unmarked more = more

-- the procedure in which a site is
abbrev home : (found : Site) → Around → ℕ
home found around = outermost_slot found.label.slot around

-- the loops that a frame keeps at the point of a site
abbrev loops_here : (found : Site) → Around → (point : ℕ) → List ℕ
loops_here found around point = loops_at found.label.kind around (place_at found.label.slot point)

module _ (laws : SiteLaws) (program : Forest) (few : (slot : ℕ) → times slot program ≤ 1)
    (marked : ℕ → Bool) (found : Site) (sited : Sited program found)
    (there : site program found.label.slot ≡ Some found) (mark_is : marked 0 ≡ is_first_marked program found.label.slot) where
  -- behind the node at the site
  after_goes_on : (kind : NodeKind) → found.label.kind ≡ kind → has_start (sort_of kind) ≡ true
      → GoesOn program (home found sited.around) (loops_around sited.around) found.after
  after_goes_on kind is starts = sited.after (ap (λ (k : NodeKind). has_start (sort_of k)) is ∙ starts)

  -- the loops of what stands inside a node of a kind that is no loop
  plain_inside : (kind : NodeKind) → found.label.kind ≡ kind → ((slot : ℕ) → loop_by_kind kind slot ≡ [])
      → loops_around ((found.label.slot, found.label.kind) ∷ sited.around) ≡ loops_around sited.around
  plain_inside kind is none =
      ap (λ (own : List ℕ). loops_around sited.around ++ own) (ap (λ (k : NodeKind). loop_by_kind k found.label.slot) is ∙ none found.label.slot)
      ∙ append-nil (loops_around sited.around)

  -- among what stands inside a node that is no loop, where the run goes on behind it
  inside_before_after : (kind : NodeKind) (items : Forest) → found.label.kind ≡ kind → has_start (sort_of kind) ≡ true
      → ((slot : ℕ) → loop_by_kind kind slot ≡ []) → AreWithin program ((found.label.slot, found.label.kind) ∷ sited.around) items
      → GoesOn program (home found sited.around) (loops_around sited.around) (begin items found.after)
  inside_before_after kind items is starts none within =
      let same = plain_inside kind is none in
      subst (λ (kept : List ℕ). GoesOn program (home found sited.around) kept (begin items found.after)) same
      (begin_goes_on laws program few (found.label.slot, found.label.kind) sited.around items found.after within
      (subst (λ (kept : List ℕ). GoesOn program (home found sited.around) kept found.after) (sym same) (after_goes_on kind is starts)))

  -- among what stands inside a node to which the run comes back
  inside_before_end : (kind : NodeKind) (point : ℕ) (loops : List ℕ) → found.label.kind ≡ kind → inner_end kind ≡ Some point
      → loops_around ((found.label.slot, found.label.kind) ∷ sited.around) ≡ loops
      → GoesOn program (home found sited.around) loops (begin found.inner (place_at found.label.slot point))
  inside_before_end kind point loops is ends same =
      subst (λ (kept : List ℕ). GoesOn program (home found sited.around) kept (begin found.inner (place_at found.label.slot point))) same
      (begin_goes_on laws program few (found.label.slot, found.label.kind) sited.around found.inner (place_at found.label.slot point) sited.within
      (end_goes_on laws program few found.label.slot found.label.kind sited.around point sited.stands (ap inner_end is ∙ ends)))

  -- a place exists at the site
  exists_here : (point : ℕ) (kind : NodeKind) → found.label.kind ≡ kind
      → ((marked : Bool) → marked ≡ is_first_marked program found.label.slot
      → IsTrue ((has_start (sort_of kind) && (point == 0)) || has_point marked found.label kind point))
      → HasPlace program (place_at found.label.slot point)
  exists_here point kind is exists =
      let mark : Bool = is_first_marked program found.label.slot in
      subst (λ (one : Option Site). IsTrue (place_exists_at mark one point)) (sym there)
      (subst (λ (k : NodeKind). IsTrue ((has_start (sort_of k) && (point == 0)) || has_point mark found.label k point)) (sym is) (exists mark refl))

  -- where a run goes on behind an item of a GET
  item_goes_on : (item : ℕ) → found.label.kind ≡ NodeKind.Filled Template.Get → marked 0 ≡ false
      → GoesOn program (home found sited.around) (loops_around sited.around) (behind_item found item)
  item_goes_on item is unmarked =
      either_goes (nat_lt (item + 1) (item_count found.label.parts)) (GoesOn program (home found sited.around) (loops_around sited.around))
      (place_at found.label.slot (item + 1)) found.after
      (λ more.
      record {
        kind = found.label.kind;
        around = sited.around;
        stands = sited.stands;
        exists =
            exists_here (item + 1) (NodeKind.Filled Template.Get) is
            (λ mark same. get_exists (item + 1 == 0) mark (nat_lt (item + 1) (item_count found.label.parts)) (same ∙ sym mark_is ∙ unmarked) more);
        waiting = ap (λ (k : NodeKind). is_waiting_place k (item + 1)) is;
        start = λ e. absurd (omega (arith, e));
        loops_are =
            ap (λ (own : List ℕ). loops_around sited.around ++ own)
            (ap (λ (k : NodeKind). if item + 1 == 1 then loop_by_kind k found.label.slot else []) is ∙ either_none (item + 1 == 1))
            ∙ append-nil (loops_around sited.around);
        procedure_is = refl;
      })
      (after_goes_on (NodeKind.Filled Template.Get) is refl)

  -- where a CALL waits
  waits_here : found.label.kind ≡ NodeKind.Filled Template.Call
      → MayStand program true (home found sited.around) (loops_around sited.around) (place_at found.label.slot 1)
  waits_here is =
      record {
        kind = found.label.kind;
        around = sited.around;
        stands = sited.stands;
        exists = exists_here 1 (NodeKind.Filled Template.Call) is (λ mark same. refl);
        waiting = ap (λ (k : NodeKind). is_waiting_place k 1) is;
        start = λ e. absurd (omega (arith, e));
        loops_are = plain_inside (NodeKind.Filled Template.Call) is (λ slot. refl);
        procedure_is = refl;
      }

  -- ---- the start of each node

  get_follows : (item : ℕ) → found.label.kind ≡ NodeKind.Filled Template.Get → marked 0 ≡ false
      → WhenThere (Follows program (home found sited.around) (loops_around sited.around) found.label.slot) (get_spot found item)
  get_follows item is unmarked =
      let F : Spot → Type 0 = Follows program (home found sited.around) (loops_around sited.around) found.label.slot in
      there_then F (λ (targets : List PlainVarRef). option_map (λ target. Spot.reads target (behind_item found item)) (slice_get targets item))
      (said variables_in found.label.parts 0)
      (λ targets _.
      there_map F (λ target. Spot.reads target (behind_item found item)) (slice_get targets item) (λ target _. item_goes_on item is unmarked))

  test_follows : (inside other : PlainPlace) → GoesOn program (home found sited.around) (loops_around sited.around) inside
      → GoesOn program (home found sited.around) (loops_around sited.around) other
      → WhenThere (Follows program (home found sited.around) (loops_around sited.around) found.label.slot)
      (needing marked found.label.parts (0 ∷ []) (test_spot found.label.parts inside other))
  test_follows inside other goes_in goes_on =
      let F : Spot → Type 0 = Follows program (home found sited.around) (loops_around sited.around) found.label.slot in
      there_needing F (halt_reason marked found.label.parts (0 ∷ [])) (test_spot found.label.parts inside other) (λ reason. tt)
      (λ none. there_map F (λ e. Spot.tests e inside other) (said condition_in found.label.parts 0) (λ e _. (goes_in, goes_on)))

  put_follows : (skip : Bool) → GoesOn program (home found sited.around) (loops_around sited.around) found.after
      → WhenThere (Follows program (home found sited.around) (loops_around sited.around) found.label.slot)
      (needing marked found.label.parts (0 ∷ []) (put_spot skip found.label.parts found.after))
  put_follows skip goes =
      let F : Spot → Type 0 = Follows program (home found sited.around) (loops_around sited.around) found.label.slot in
      there_needing F (halt_reason marked found.label.parts (0 ∷ [])) (put_spot skip found.label.parts found.after) (λ reason. tt)
      (λ none. there_map F (λ es. Spot.writes skip es found.after) (said expressions_in found.label.parts 0) (λ es _. goes))

  for_follows : found.label.kind ≡ NodeKind.Filled Template.For
      → WhenThere (Follows program (home found sited.around) (loops_around sited.around) found.label.slot)
      (for_spot found.label.slot found.label.parts (begin found.inner (place_at found.label.slot 1)) found.after)
  for_follows is =
      let F : Spot → Type 0 = Follows program (home found sited.around) (loops_around sited.around) found.label.slot in
      let slot : ℕ = found.label.slot in
      let parts : List (Option PlainPhrase) = found.label.parts in
      let inside : PlainPlace = begin found.inner (place_at slot 1) in
      there_then F
      (λ name.
      option_and_then (λ first. option_and_then (λ limit. option_map (λ step. Spot.begins slot name first limit step inside found.after)
      (said expression_in parts 3)) (said expression_in parts 2)) (said expression_in parts 1))
      (said variable_in parts 0)
      (λ name _.
      there_then F
      (λ first. option_and_then (λ limit. option_map (λ step. Spot.begins slot name first limit step inside found.after)
      (said expression_in parts 3)) (said expression_in parts 2))
      (said expression_in parts 1)
      (λ first _.
      there_then F (λ limit. option_map (λ step. Spot.begins slot name first limit step inside found.after) (said expression_in parts 3))
      (said expression_in parts 2)
      (λ limit _.
      there_map F (λ step. Spot.begins slot name first limit step inside found.after) (said expression_in parts 3)
      (λ step _. (
        inside_before_end (NodeKind.Filled Template.For) 1 (loops_around sited.around ++ slot ∷ []) is refl
            (ap (λ (k : NodeKind). loops_around sited.around ++ loop_by_kind k slot) is),
        after_goes_on (NodeKind.Filled Template.For) is refl,
      )))))

  call_follows : (phrase : PlainPhrase) → found.label.kind ≡ NodeKind.Filled Template.Call
      → WhenThere (Follows program (home found sited.around) (loops_around sited.around) found.label.slot) (call_spot (callee_named program) phrase)
  call_follows (PlainPhrase.call name arguments) is =
      there_map (Follows program (home found sited.around) (loops_around sited.around) found.label.slot)
      (λ callee. Spot.calls callee arguments) (callee_named program name)
      (λ callee h. (waits_here is, callee_called laws program few name callee h))
  call_follows other is = tt

  assignment_follows : (phrase : PlainPhrase) → GoesOn program (home found sited.around) (loops_around sited.around) found.after
      → WhenThere (Follows program (home found sited.around) (loops_around sited.around) found.label.slot) (assignment_spot found.after phrase)
  assignment_follows (PlainPhrase.assignment target value) goes = goes
  assignment_follows other goes = tt

  template_start_follows : (template : Template) → found.label.kind ≡ NodeKind.Filled template
      → WhenThere (Follows program (home found sited.around) (loops_around sited.around) found.label.slot)
      (template_start marked (callee_named program) found template)
  template_start_follows Template.If is =
      test_follows (begin found.inner found.after) found.after
      (inside_before_after (NodeKind.Filled Template.If) found.inner is refl (λ slot. refl) sited.within)
      (after_goes_on (NodeKind.Filled Template.If) is refl)
  template_start_follows Template.IfElse is =
      test_follows (begin found.inner found.after) (begin (behind_first found.inner) found.after)
      (inside_before_after (NodeKind.Filled Template.IfElse) found.inner is refl (λ slot. refl) sited.within)
      (inside_before_after (NodeKind.Filled Template.IfElse) (behind_first found.inner) is refl (λ slot. refl)
      (within_rest program ((found.label.slot, found.label.kind) ∷ sited.around) found.inner sited.within))
  template_start_follows Template.While is =
      test_follows (begin found.inner (place_at found.label.slot 0)) found.after
      (inside_before_end (NodeKind.Filled Template.While) 0 (loops_around sited.around) is refl
      (plain_inside (NodeKind.Filled Template.While) is (λ slot. refl)))
      (after_goes_on (NodeKind.Filled Template.While) is refl)
  template_start_follows Template.For is =
      there_needing (Follows program (home found sited.around) (loops_around sited.around) found.label.slot)
      (halt_reason marked found.label.parts (0 ∷ (1 ∷ (2 ∷ (3 ∷ [])))))
      (for_spot found.label.slot found.label.parts (begin found.inner (place_at found.label.slot 1)) found.after) (λ reason. tt)
      (λ none. for_follows is)
  template_start_follows Template.Get is =
      there_needing (Follows program (home found sited.around) (loops_around sited.around) found.label.slot)
      (halt_reason marked found.label.parts (0 ∷ [])) (get_spot found 0) (λ reason. tt)
      (λ none. get_follows 0 is (not_marked (lacks_part found.label.parts (0 ∷ [])) (marked 0) none))
  template_start_follows Template.Put is = put_follows false (after_goes_on (NodeKind.Filled Template.Put) is refl)
  template_start_follows Template.PutSkip is = put_follows true (after_goes_on (NodeKind.Filled Template.PutSkip) is refl)
  template_start_follows Template.Call is =
      let F : Spot → Type 0 = Follows program (home found sited.around) (loops_around sited.around) found.label.slot in
      there_needing F (halt_reason marked found.label.parts (0 ∷ []))
      (option_and_then (call_spot (callee_named program)) (part_at found.label.parts 0)) (λ reason. tt)
      (λ none. there_then F (call_spot (callee_named program)) (part_at found.label.parts 0) (λ phrase _. call_follows phrase is))
  template_start_follows Template.Return is = tt
  template_start_follows other is = tt

  start_follows : (kind : NodeKind) → found.label.kind ≡ kind
      → WhenThere (Follows program (home found sited.around) (loops_around sited.around) found.label.slot)
      (start_spot marked (callee_named program) found kind)
  start_follows NodeKind.StatementHole is = tt
  start_follows NodeKind.Assign is =
      let F : Spot → Type 0 = Follows program (home found sited.around) (loops_around sited.around) found.label.slot in
      there_needing F (halt_reason marked found.label.parts (0 ∷ []))
      (option_and_then (assignment_spot found.after) (part_at found.label.parts 0)) (λ reason. tt)
      (λ none.
      there_then F (assignment_spot found.after) (part_at found.label.parts 0)
      (λ phrase _. assignment_follows phrase (after_goes_on NodeKind.Assign is refl)))
  start_follows (NodeKind.Filled template) is = template_start_follows template is
  start_follows other is = tt

  -- ---- the other points

  -- the loops at a point of a node that is no loop
  plain_here : (kind : NodeKind) (point : ℕ) → found.label.kind ≡ kind → ((slot : ℕ) → loop_by_kind kind slot ≡ [])
      → loops_here found sited.around point ≡ loops_around sited.around
  plain_here kind point is none =
      ap (λ (own : List ℕ). loops_around sited.around ++ own)
      (ap (λ (own : List ℕ). if point == 1 then own else [])
      (ap (λ (k : NodeKind). loop_by_kind k found.label.slot) is ∙ none found.label.slot) ∙ either_none (point == 1))
      ∙ append-nil (loops_around sited.around)

  iteration_follows : (point : ℕ) → found.label.kind ≡ NodeKind.Filled Template.For → (point == 1) ≡ true
      → WhenThere (Follows program (home found sited.around) (loops_here found sited.around point) found.label.slot)
      (needing marked found.label.parts (0 ∷ [])
      (iteration_spot found.label.slot found.label.parts (begin found.inner (place_at found.label.slot 1)) found.after))
  iteration_follows point is one =
      let F : Spot → Type 0 = Follows program (home found sited.around) (loops_here found sited.around point) found.label.slot in
      let slot : ℕ = found.label.slot in
      let inside : PlainPlace = begin found.inner (place_at slot 1) in
      let inner : loops_around ((slot, found.label.kind) ∷ sited.around) ≡ loops_around sited.around ++ slot ∷ [] =
      ap (λ (k : NodeKind). loops_around sited.around ++ loop_by_kind k slot) is in
      let here : loops_here found sited.around point ≡ loops_around sited.around ++ slot ∷ [] =
      ap (λ (at_one : Bool). loops_around sited.around ++ (if at_one then loop_by_kind found.label.kind slot else [])) one ∙ inner in
      there_needing F (halt_reason marked found.label.parts (0 ∷ [])) (iteration_spot slot found.label.parts inside found.after) (λ reason. tt)
      (λ none.
      there_map F (λ name. Spot.iterates slot name inside found.after) (said variable_in found.label.parts 0)
      (λ name _. (
        inside_before_end (NodeKind.Filled Template.For) 1 (loops_here found sited.around point) is refl (inner ∙ sym here),
        (loops_around sited.around, here, after_goes_on (NodeKind.Filled Template.For) is refl),
      )))

  template_point_follows : (point : ℕ) (template : Template) → found.label.kind ≡ NodeKind.Filled template
      → WhenThere (Follows program (home found sited.around) (loops_here found sited.around point) found.label.slot)
      (template_point marked found point template)
  template_point_follows point Template.For is =
      there_at_one (Follows program (home found sited.around) (loops_here found sited.around point) found.label.slot) (point == 1)
      (needing marked found.label.parts (0 ∷ [])
      (iteration_spot found.label.slot found.label.parts (begin found.inner (place_at found.label.slot 1)) found.after))
      (iteration_follows point is)
  template_point_follows point Template.Until is =
      there_at_one (Follows program (home found sited.around) (loops_here found sited.around point) found.label.slot) (point == 1)
      (needing marked found.label.parts (0 ∷ []) (test_spot found.label.parts found.after (begin found.inner (place_at found.label.slot 1))))
      (λ one.
      subst
      (λ (loops : List ℕ). WhenThere (Follows program (home found sited.around) loops found.label.slot)
      (needing marked found.label.parts (0 ∷ []) (test_spot found.label.parts found.after (begin found.inner (place_at found.label.slot 1)))))
      (sym (plain_here (NodeKind.Filled Template.Until) point is (λ slot. refl)))
      (test_follows found.after (begin found.inner (place_at found.label.slot 1)) (after_goes_on (NodeKind.Filled Template.Until) is refl)
      (inside_before_end (NodeKind.Filled Template.Until) 1 (loops_around sited.around) is refl
      (plain_inside (NodeKind.Filled Template.Until) is (λ slot. refl)))))
  template_point_follows point Template.Get is =
      there_unmarked (Follows program (home found sited.around) (loops_here found sited.around point) found.label.slot) (marked 0)
      (get_spot found point)
      (λ unmarked.
      subst (λ (loops : List ℕ). WhenThere (Follows program (home found sited.around) loops found.label.slot) (get_spot found point))
      (sym (plain_here (NodeKind.Filled Template.Get) point is (λ slot. refl))) (get_follows point is unmarked))
  template_point_follows point Template.Call is =
      there_at_one (Follows program (home found sited.around) (loops_here found sited.around point) found.label.slot) (point == 1)
      (Some (Spot.waits found.after))
      (λ one.
      subst (λ (loops : List ℕ). GoesOn program (home found sited.around) loops found.after)
      (sym (plain_here (NodeKind.Filled Template.Call) point is (λ slot. refl))) (after_goes_on (NodeKind.Filled Template.Call) is refl))
  template_point_follows point Template.Proc is =
      there_at_one (Follows program (home found sited.around) (loops_here found sited.around point) found.label.slot) (point == 1)
      (Some Spot.leaves) (λ one. tt)
  template_point_follows point Template.ProcP is =
      there_at_one (Follows program (home found sited.around) (loops_here found sited.around point) found.label.slot) (point == 1)
      (Some Spot.leaves) (λ one. tt)
  template_point_follows point other is = tt

  point_follows : (point : ℕ) (kind : NodeKind) → found.label.kind ≡ kind
      → WhenThere (Follows program (home found sited.around) (loops_here found sited.around point) found.label.slot)
      (point_spot marked found point kind)
  point_follows point NodeKind.Main is =
      there_at_one (Follows program (home found sited.around) (loops_here found sited.around point) found.label.slot) (point == 1)
      (Some Spot.leaves) (λ one. tt)
  point_follows point (NodeKind.Filled template) is = template_point_follows point template is
  point_follows point other is = tt

  pub site_follows : (point : ℕ)
      → WhenThere (Follows program (home found sited.around) (loops_here found sited.around point) found.label.slot)
      (site_spot marked (callee_named program) found point)
  site_follows zero =
      subst
      (λ (loops : List ℕ). WhenThere (Follows program (home found sited.around) loops found.label.slot)
      (start_spot marked (callee_named program) found found.label.kind))
      (sym (append-nil (loops_around sited.around))) (start_follows found.label.kind refl)
  site_follows (suc point) = point_follows (suc point) found.label.kind refl
