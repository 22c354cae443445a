-- What stands at the address of a place. A step that ends at a place has the address at which it stands in the code;
-- the start of what passes a run on, and where a call comes back, have the ends of their spans, which are those of the
-- first node in the slot.
use Rattle.std.proofs.Common.{◌≡◌, ℕ, zero, suc, ◌+◌, ◌≤◌, Bool, true, false, List, [], ◌∷◌, ◌++◌, Option, Some, None, refl, ap, sym, subst, ◌∙◌, arith}
use Rattle.std.specs.Prelude.{◌&&◌, ◌==◌, IsSome, cond, flat_map, if◌then◌else◌, not, slice_get}
use Rattle.std.specs.FinMap.{find, get-from_entries}
use Rattle.std.specs.Ordering.{eq_by_cmp}
use Rattle.std.proofs.Math.Bool.{false≢true}
use Rattle.std.proofs.lemmas.Bool.{eq-eqb}
use Rattle.std.proofs.lemmas.Cmp.{nat_cmp_total}
use Rattle.std.proofs.lemmas.Option.{none-some}
use Rattle.plcs_base.specs.Mark.{MarkMap}
use Rattle.plcs_base.specs.Scope.{ItemMap}
use Rattle.plcs_base.specs.declared.place.Place.{Place}
use Rattle.plcs_grammar.specs.declared.node_kind.NodeKind.{NodeKind}
use Rattle.plcs_grammar.specs.declared.template.Template.{Template}
use Rattle.template_tree.specs.Positions.Place.{PlainPlace, Site, begin, passes_in, place_at, site}
use Rattle.template_tree.specs.Programs.PlainTree.{Forest}
use Rattle.template_tree.specs.Programs.Slots.{times}
use Rattle.plcs_code.specs.CodeLaws.{AddressesHoldSteps, CallsComeBack, PassedStartsStand, ends_step}
use Rattle.plcs_code.specs.declared.node_span.NodeSpan.{NodeSpan}
use Rattle.plcs_code.specs.Gen.{addresses_in, codes_joined, has_code, is_call, node_address, node_codes, node_spans, place_cmp, span_by_slot}
use Rattle.plcs_code.specs.PlainInstr.{PlainInstr, place_of}
use Rattle.plcs_code.proofs.BegunCode.{passed_read}
use Rattle.plcs_code.proofs.EndedSteps.{EndlessPlace}
use Rattle.plcs_code.proofs.FoundNodes.{first_node, node_at_site, own_node}
use Rattle.plcs_code.proofs.FoundSites.{InSlot, SiteWith, site_inner, site_node, site_or, site_slot, somewhere_map, somewhere_site}
use Rattle.plcs_code.proofs.HeldSpans.{first_span, node_or}
use Rattle.plcs_code.proofs.KeyOrder.{places_total}
use Rattle.plcs_code.proofs.PlaceAddresses.{Addressed, EndlessOf, addressed_node, endless, place_tied, same_place, spans_endless}

-- ---- what is found among addresses

-- what is found in the first of two lists
find_left : (q : PlainPlace) (one other : List (Place × ℕ)) (address : ℕ) → find place_cmp (place_of q) one ≡ Some address
    → find place_cmp (place_of q) (one ++ other) ≡ Some address
find_left q [] other address e = absurd (none-some address e)
find_left q (entry ∷ one) other address e = by (eq_by_cmp place_cmp (place_of q) entry.0) e (find_left q one other address)
  where
    by : (b : Bool) → cond b (Some entry.1) (find place_cmp (place_of q) one) ≡ Some address
        → (find place_cmp (place_of q) one ≡ Some address → find place_cmp (place_of q) (one ++ other) ≡ Some address)
        → cond b (Some entry.1) (find place_cmp (place_of q) (one ++ other)) ≡ Some address
    by true e again = e
    by false e again = again e

-- and what isn't
pub find_behind : (q : PlainPlace) (one other : List (Place × ℕ)) → (Addressed q one → ⊥)
    → find place_cmp (place_of q) (one ++ other) ≡ find place_cmp (place_of q) other
find_behind q [] other none = refl
find_behind q (entry ∷ one) other none = by (eq_by_cmp place_cmp (place_of q) entry.0) none (find_behind q one other)
  where
    by : (b : Bool) → (IsSome (cond b (Some entry.1) (find place_cmp (place_of q) one)) → ⊥)
        → ((Addressed q one → ⊥) → find place_cmp (place_of q) (one ++ other) ≡ find place_cmp (place_of q) other)
        → cond b (Some entry.1) (find place_cmp (place_of q) (one ++ other)) ≡ find place_cmp (place_of q) other
    by true none again = absurd (none refl)
    by false none again = again none

-- ---- steps in code

-- the step that ends at a place stands at this address, counted from an earlier one
abbrev StepAt : PlainPlace → (from : ℕ) → List PlainInstr → (address : ℕ) → Type 0
StepAt q from code address = (k : ℕ) × (address ≡ from + k) × (slice_get code k ≡ Some (PlainInstr.place q))

step_later : (q : PlainPlace) (from : ℕ) (instr : PlainInstr) (code : List PlainInstr) (address : ℕ) → StepAt q (from + 1) code address
    → StepAt q from (instr ∷ code) address
step_later q from instr code address (k, e, is) = (suc k, omega (arith, e), is)

-- the number, or else another
abbrev number_or : ℕ → Option ℕ → ℕ
number_or n None = n
number_or n (Some m) = m

step_found : (q : PlainPlace) (from : ℕ) (code : List PlainInstr) (address : ℕ)
    → find place_cmp (place_of q) (addresses_in from code) ≡ Some address → StepAt q from code address
step_found q from [] address e = absurd (none-some address e)
step_found q from (PlainInstr.place at ∷ code) address e =
    by (eq_by_cmp place_cmp (place_of q) (place_of at)) refl e (step_found q (from + 1) code address)
  where
    by : (b : Bool) → eq_by_cmp place_cmp (place_of q) (place_of at) ≡ b
        → cond b (Some from) (find place_cmp (place_of q) (addresses_in (from + 1) code)) ≡ Some address
        → (find place_cmp (place_of q) (addresses_in (from + 1) code) ≡ Some address → StepAt q (from + 1) code address)
        → StepAt q from (PlainInstr.place at ∷ code) address
    by true ties e again =
        let same = same_place (place_of q) (place_of at) ties in
        let one : at ≡ q = λ i. record { slot = (sym same i).slot.0; point = (sym same i).point.0 } in
        let here : from ≡ address = ap (number_or from) e in
        (zero, omega (arith, here), ap (λ (p : PlainPlace). Some (PlainInstr.place p)) one)
    by false other e again = step_later q from (PlainInstr.place at) code address (again e)
step_found q from (instr ∷ code) address e = step_later q from instr code address (step_found q (from + 1) code address e)

-- ---- where no step ends

endless_slot : (passes call : Bool) (slot : ℕ) (q : PlainPlace) → EndlessPlace passes call slot q → slot ≡ q.slot
endless_slot true call slot q h = h.0
endless_slot false true slot q h = h.0
endless_slot false false slot q h = absurd h

endless_ends_not : (passes call : Bool) (slot : ℕ) (q : PlainPlace) → EndlessPlace passes call slot q
    → (not (passes && (q.point == 0)) && not (call && (q.point == 1))) ≡ true → ⊥
endless_ends_not true call slot q h ends =
    false≢true (sym (ap (λ (b : Bool). not b && not (call && (q.point == 1))) (eq-eqb q.point 0 (sym h.1))) ∙ ends)
endless_ends_not false true slot q h ends = false≢true (sym (ap not (eq-eqb q.point 1 (sym h.1))) ∙ ends)
endless_ends_not false false slot q h ends = h

-- a place at which a step ends is none at which none does
pub none_endless : (marks : MarkMap) (items : ItemMap) (program : Forest) (q : PlainPlace) (found : Site) → times q.slot program ≤ 1
    → site program q.slot ≡ Some found → ends_step found.label.kind q.point ≡ true → Addressed q (endless (node_spans marks items 0 0 program)) → ⊥
none_endless marks items program q found once e ends has =
    let at : SiteWith (EndlessOf q) (site program q.slot) =
    somewhere_site (EndlessOf q) q.slot false program (place_at 0 1) once
    (somewhere_map (EndlessOf q) (InSlot (EndlessOf q) q.slot)
    (λ label h. (endless_slot (passes_in label.kind) (is_call label.kind) label.slot q h, h)) program
    (spans_endless marks items q 0 0 program has)) in
    let same : at.0 ≡ found = ap (site_or at.0) (sym at.1 ∙ e) in
    let there : EndlessOf q found.label = subst (λ (s : Site). EndlessOf q s.label) same at.2 in
    endless_ends_not (passes_in found.label.kind) (is_call found.label.kind) found.label.slot q there ends

pub addresses_hold_steps : AddressesHoldSteps
addresses_hold_steps marks items program q found address once e ends is =
    let nodes = node_spans marks items 0 0 program in
    let instrs = codes_joined (node_codes marks items program) in
    let entries : List (Place × ℕ) = endless nodes ++ addresses_in 0 instrs in
    let none : Addressed q (endless nodes) → ⊥ = none_endless marks items program q found once e ends in
    let stands : StepAt q 0 instrs address =
    step_found q 0 instrs address
    (sym (find_behind q (endless nodes) (addresses_in 0 instrs) none) ∙ sym (get-from_entries places_total entries (place_of q)) ∙ is) in
    let same : address ≡ stands.0 = omega (arith, stands.1) in
    ap (slice_get instrs) same ∙ stands.2

-- ---- the ends of spans

-- a place of the first node in its slot at which no step ends has its address
first_endless : (slot point : ℕ) (spans : List NodeSpan) (node : NodeSpan) (address : ℕ) → first_node slot spans ≡ Some node
    → find place_cmp (place_of (place_at slot point)) (node_address node) ≡ Some address
    → find place_cmp (place_of (place_at slot point)) (endless spans) ≡ Some address
first_endless slot point [] node address e is = absurd (none-some node e)
first_endless slot point (own ∷ spans) node address e is = by (own.slot.0 == slot) refl e (first_endless slot point spans node address)
  where
    by : (b : Bool) → (own.slot.0 == slot) ≡ b → (if b then Some own else first_node slot spans) ≡ Some node
        → (first_node slot spans ≡ Some node → find place_cmp (place_of (place_at slot point)) (node_address node) ≡ Some address
        → find place_cmp (place_of (place_at slot point)) (endless spans) ≡ Some address)
        → find place_cmp (place_of (place_at slot point)) (endless (own ∷ spans)) ≡ Some address
    by true same e again =
        let here : own ≡ node = ap (node_or own) e in
        find_left (place_at slot point) (node_address own) (endless spans) address
        (ap (λ (n : NodeSpan). find place_cmp (place_of (place_at slot point)) (node_address n)) here ∙ is)
    by false other e again =
        find_behind (place_at slot point) (node_address own) (endless spans)
        (λ has.
        false≢true
        (sym other
        ∙ eq-eqb own.slot.0 slot
        (endless_slot (passes_in own.kind) (is_call own.kind) own.slot.0 (place_at slot point) (addressed_node (place_at slot point) own has))))
        ∙ again e is

passes_code : (kind : NodeKind) → passes_in kind ≡ true → has_code kind ≡ true
passes_code (NodeKind.Filled template) is = by template is
  where
    by : (template : Template) → passes_in (NodeKind.Filled template) ≡ true → has_code (NodeKind.Filled template) ≡ true
    by Template.Until is = refl
    by Template.Group is = refl
    by Template.Comment is = refl
    by other is = absurd (false≢true is)
passes_code other is = absurd (false≢true is)

record IsCall (kind : NodeKind) : Type 0 where
  code : has_code kind ≡ true
  stays : passes_in kind ≡ false

call_is : (kind : NodeKind) → is_call kind ≡ true → IsCall kind
call_is (NodeKind.Filled Template.Call) is = record { code = refl; stays = refl }
call_is other is = absurd (false≢true is)

-- the address of a node's place at which no step ends
passed_address : (slot : ℕ) (node : NodeSpan) → node.slot.0 ≡ slot → passes_in node.kind ≡ true
    → find place_cmp (place_of (place_at slot 0)) (node_address node) ≡ Some node.start
passed_address slot node same is = by (passes_in node.kind) is
  where
    by : (passes : Bool) → passes ≡ true
        → find place_cmp (place_of (place_at slot 0))
        (if passes then (place_of (place_at node.slot.0 0), node.start) ∷ []
        else (if is_call node.kind then (place_of (place_at node.slot.0 1), node.start + node.length) ∷ [] else []))
        ≡ Some node.start
    by true is = ap (λ (b : Bool). cond b (Some node.start) None) (place_tied node.slot.0 0 (place_at slot 0) same refl)
    by false is = absurd (false≢true is)

call_address : (slot : ℕ) (node : NodeSpan) → node.slot.0 ≡ slot → passes_in node.kind ≡ false → is_call node.kind ≡ true
    → find place_cmp (place_of (place_at slot 1)) (node_address node) ≡ Some (node.start + node.length)
call_address slot node same stays is = by (passes_in node.kind) (is_call node.kind) stays is
  where
    by : (passes call : Bool) → passes ≡ false → call ≡ true
        → find place_cmp (place_of (place_at slot 1))
        (if passes then (place_of (place_at node.slot.0 0), node.start) ∷ []
        else (if call then (place_of (place_at node.slot.0 1), node.start + node.length) ∷ [] else []))
        ≡ Some (node.start + node.length)
    by false true stays is =
        ap (λ (b : Bool). cond b (Some (node.start + node.length)) None) (place_tied node.slot.0 1 (place_at slot 1) same refl)
    by true call stays is = absurd (false≢true (sym stays))
    by false false stays is = absurd (false≢true is)

pub passed_starts_stand : PassedStartsStand
passed_starts_stand marks items program slot found is e passes =
    let nodes = node_spans marks items 0 0 program in
    let instrs = codes_joined (node_codes marks items program) in
    let entries : List (Place × ℕ) = endless nodes ++ addresses_in 0 instrs in
    let same : found.label.slot ≡ slot = site_slot slot false program (place_at 0 1) found e in
    let own = site_node slot false program (place_at 0 1) found is.sound e in
    let inner = site_inner slot false program (place_at 0 1) found is.sound e in
    let there = node_at_site marks items program slot found e in
    let node = own_node marks items there.0 found.label found.inner in (
      there.0,
      node.length,
      get-from_entries nat_cmp_total (flat_map span_by_slot nodes) slot ∙ first_span slot nodes node there.1 (passes_code found.label.kind passes),
      get-from_entries places_total entries (place_of (place_at slot 0))
          ∙ find_left (place_at slot 0) (endless nodes) (addresses_in 0 instrs) there.0
          (first_endless slot 0 nodes node there.0 there.1 (passed_address slot node same passes)),
      passed_read marks items instrs there.0 found.label found.inner found.after own.inner inner passes there.2
          ∙ ap (λ (b : Bool). Some (PlainInstr.place (if b then begin found.inner found.after else place_at found.label.slot 0))) (sym passes),
    )

pub calls_come_back : CallsComeBack
calls_come_back marks items program slot found e is =
    let nodes = node_spans marks items 0 0 program in
    let instrs = codes_joined (node_codes marks items program) in
    let entries : List (Place × ℕ) = endless nodes ++ addresses_in 0 instrs in
    let same : found.label.slot ≡ slot = site_slot slot false program (place_at 0 1) found e in
    let call = call_is found.label.kind is in
    let there = node_at_site marks items program slot found e in
    let node = own_node marks items there.0 found.label found.inner in (
      there.0,
      node.length,
      get-from_entries nat_cmp_total (flat_map span_by_slot nodes) slot ∙ first_span slot nodes node there.1 call.code,
      get-from_entries places_total entries (place_of (place_at slot 1))
          ∙ find_left (place_at slot 1) (endless nodes) (addresses_in 0 instrs) (there.0 + node.length)
          (first_endless slot 1 nodes node (there.0 + node.length) there.1 (call_address slot node same call.stays is)),
    )
