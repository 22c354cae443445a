-- A place exists exactly where it has an address. The addresses are those of the steps that end in the code, and those
-- of nodes at which none ends. Each of both is of a node, and the places of a node are those that a run has there; and
-- the node of a slot that stands but once is the one at the site of the slot.
use Rattle.std.proofs.Common.{◌≡◌, ℕ, ◌+◌, Bool, true, false, ◌⊎◌, inl, inr, List, [], ◌∷◌, ◌++◌, length, map, take, Option, Some, None, refl, ap, sym, subst, ◌∙◌, append_assoc}
use Rattle.std.specs.Prelude.{◌&&◌, ◌||◌, ◌==◌, IsSome, IsTrue, cond, flat_map, if◌then◌else◌, is_some, option_map}
use Rattle.std.specs.FinMap.{find, get-from_entries}
use Rattle.std.specs.Option.{option_to_list}
use Rattle.std.specs.Ordering.{eq_by_cmp, is_eq}
use Rattle.std.specs.declared.cmp.Ordering.{Ordering}
use Rattle.std.specs.declared.cmp.Ordering.TheVariants.{Less, Equal, Greater}
use Rattle.std.proofs.Math.Bool.{false≢true}
use Rattle.std.proofs.lemmas.Cmp.{tied_itself}
use Rattle.plcs_base.specs.Mark.{MarkMap}
use Rattle.plcs_base.specs.Scope.{ItemMap}
use Rattle.plcs_base.specs.declared.place.Place.{Place}
use Rattle.plcs_grammar.specs.declared.node_kind.NodeKind.{NodeKind}
use Rattle.plcs_grammar.specs.declared.template.Template.{Template}
use Rattle.template_tree.specs.Programs.Part.{part_at}
use Rattle.template_tree.specs.Positions.Place.{Exists, PlainPlace, Site, has_point, has_start, passes_in, place_at, place_exists_at, site}
use Rattle.template_tree.specs.Programs.PlainTree.{Forest, Label}
use Rattle.template_tree.specs.Programs.Program.{AreNodes, sort_of}
use Rattle.template_tree.specs.Checks.ProgramMaps.{items_in}
use Rattle.plcs_code.specs.CodeLaws.{PlacesHaveAddresses, is_marked_first}
use Rattle.plcs_code.specs.ExprCode.{counter_name}
use Rattle.plcs_code.specs.declared.node_span.NodeSpan.{NodeSpan}
use Rattle.plcs_code.specs.Gen.{address_by_place, addresses_in, code_around, codes_around, codes_joined, is_call, length_around, node_address, node_codes, node_lengths, node_spans, place_cmp}
use Rattle.plcs_code.specs.Pieces.{CodeJumps, count_pieces, first_length, jump_unless, jumps, kind_jumps, other_lengths, pieces, suspension, template_jumps}
use Rattle.plcs_code.specs.PlainInstr.{PlainInstr, place_of}
use Rattle.plcs_code.proofs.EndedSteps.{EndlessPlace, EndsBy, EndsIn, KindPlace, ends_either, ends_left, ends_right, had_place, place_had}
use Rattle.plcs_code.proofs.KeyOrder.{places_differ, places_total}
use Rattle.plcs_code.proofs.FoundSites.{InSlot, SiteWith, Somewhere, site_node, site_slot, site_somewhere, somewhere_map, somewhere_site}

-- ---- the order of places

-- places that are equal in it are the same
pub same_place : (x y : Place) → eq_by_cmp place_cmp x y ≡ true → x ≡ y
same_place x y same = by (place_cmp x y) refl same
  where
    by : (o : Ordering) → place_cmp x y ≡ o → is_eq o ≡ true → x ≡ y
    by Equal e same = places_differ x y e
    by Less e same = absurd (false≢true same)
    by Greater e same = absurd (false≢true same)

-- and the same place is
pub place_tied : (slot point : ℕ) (q : PlainPlace) → slot ≡ q.slot → point ≡ q.point → eq_by_cmp place_cmp (place_of q) (place_of (place_at slot point)) ≡ true
place_tied slot point q same at =
    ap (λ (n : ℕ). eq_by_cmp place_cmp (place_of q) (place_of (place_at n point))) same
    ∙ ap (λ (n : ℕ). eq_by_cmp place_cmp (place_of q) (place_of (place_at q.slot n))) at
    ∙ ap is_eq (tied_itself places_total (place_of q))

-- ---- places that have addresses

-- the place has one among these
abbrev pub Addressed : PlainPlace → List (Place × ℕ) → Type 0
Addressed q entries = IsSome (find place_cmp (place_of q) entries)

addressed_left : (q : PlainPlace) (one other : List (Place × ℕ)) → Addressed q one → Addressed q (one ++ other)
addressed_left q [] other h = absurd (false≢true h)
addressed_left q (e ∷ one) other h = by (eq_by_cmp place_cmp (place_of q) e.0) h (addressed_left q one other)
  where
    by : (b : Bool) → IsSome (cond b (Some e.1) (find place_cmp (place_of q) one)) → (Addressed q one → Addressed q (one ++ other))
        → IsSome (cond b (Some e.1) (find place_cmp (place_of q) (one ++ other)))
    by true h again = refl
    by false h again = again h

addressed_right : (q : PlainPlace) (one other : List (Place × ℕ)) → Addressed q other → Addressed q (one ++ other)
addressed_right q [] other h = h
addressed_right q (e ∷ one) other h = by (eq_by_cmp place_cmp (place_of q) e.0) (addressed_right q one other h)
  where
    by : (b : Bool) → Addressed q (one ++ other) → IsSome (cond b (Some e.1) (find place_cmp (place_of q) (one ++ other)))
    by true again = refl
    by false again = again

addressed_either : (q : PlainPlace) (one other : List (Place × ℕ)) → Addressed q (one ++ other) → Addressed q one ⊎ Addressed q other
addressed_either q [] other h = inr h
addressed_either q (e ∷ one) other h = by (eq_by_cmp place_cmp (place_of q) e.0) h (addressed_either q one other)
  where
    by : (b : Bool) → IsSome (cond b (Some e.1) (find place_cmp (place_of q) (one ++ other)))
        → (Addressed q (one ++ other) → Addressed q one ⊎ Addressed q other)
        → IsSome (cond b (Some e.1) (find place_cmp (place_of q) one)) ⊎ Addressed q other
    by true h again = inl refl
    by false h again = again h

-- an entry of a place
own_addressed : (q : PlainPlace) (slot point address : ℕ) → slot ≡ q.slot → point ≡ q.point
    → Addressed q ((place_of (place_at slot point), address) ∷ [])
own_addressed q slot point address same at =
    ap (λ (b : Bool). is_some (cond b (Some address) None)) (place_tied slot point q same at)

addressed_own : (q : PlainPlace) (slot point address : ℕ) → Addressed q ((place_of (place_at slot point), address) ∷ [])
    → (slot ≡ q.slot) × (point ≡ q.point)
addressed_own q slot point address h = by (eq_by_cmp place_cmp (place_of q) (place_of (place_at slot point))) refl h
  where
    by : (b : Bool) → eq_by_cmp place_cmp (place_of q) (place_of (place_at slot point)) ≡ b → IsSome (cond b (Some address) None)
        → (slot ≡ q.slot) × (point ≡ q.point)
    by true e h =
        let same = same_place (place_of q) (place_of (place_at slot point)) e in
        (ap (λ (at : Place). at.slot.0) (sym same), ap (λ (at : Place). at.point.0) (sym same))
    by false e h = absurd (false≢true h)

-- ---- by the steps that end in code

instr_addressed : (q : PlainPlace) (address : ℕ) (instr : PlainInstr) → EndsBy q instr → Addressed q (address_by_place address instr)
instr_addressed q address (PlainInstr.place at) h = own_addressed q at.slot at.point address h.0 h.1
instr_addressed q address other h = absurd h

addressed_instr : (q : PlainPlace) (address : ℕ) (instr : PlainInstr) → Addressed q (address_by_place address instr) → EndsBy q instr
addressed_instr q address (PlainInstr.place at) h = addressed_own q at.slot at.point address h
addressed_instr q address other h = absurd (false≢true h)

code_addressed : (q : PlainPlace) (address : ℕ) (code : List PlainInstr) → EndsIn q code → Addressed q (addresses_in address code)
code_addressed q address [] h = absurd h
code_addressed q address (instr ∷ code) (inl h) =
    addressed_left q (address_by_place address instr) (addresses_in (address + 1) code) (instr_addressed q address instr h)
code_addressed q address (instr ∷ code) (inr h) =
    addressed_right q (address_by_place address instr) (addresses_in (address + 1) code) (code_addressed q (address + 1) code h)

addressed_code : (q : PlainPlace) (address : ℕ) (code : List PlainInstr) → Addressed q (addresses_in address code) → EndsIn q code
addressed_code q address [] h = absurd (false≢true h)
addressed_code q address (instr ∷ code) h =
    elim (addressed_either q (address_by_place address instr) (addresses_in (address + 1) code) h) as (λ _. EndsIn q (instr ∷ code)) [
      | inl a ↦ inl (addressed_instr q address instr a)
      | inr b ↦ inr (addressed_code q (address + 1) code b)
    ]

-- ---- by nodes at which none ends

node_addressed : (q : PlainPlace) (node : NodeSpan) → EndlessPlace (passes_in node.kind) (is_call node.kind) node.slot.0 q → Addressed q (node_address node)
node_addressed q node h = by (passes_in node.kind) (is_call node.kind) h
  where
    by : (passes call : Bool) → EndlessPlace passes call node.slot.0 q
        → Addressed q
        (if passes then (place_of (place_at node.slot.0 0), node.start) ∷ []
        else (if call then (place_of (place_at node.slot.0 1), node.start + node.length) ∷ [] else []))
    by true call h = own_addressed q node.slot.0 0 node.start h.0 h.1
    by false true h = own_addressed q node.slot.0 1 (node.start + node.length) h.0 h.1
    by false false h = absurd h

pub addressed_node : (q : PlainPlace) (node : NodeSpan) → Addressed q (node_address node) → EndlessPlace (passes_in node.kind) (is_call node.kind) node.slot.0 q
addressed_node q node h = by (passes_in node.kind) (is_call node.kind) h
  where
    by : (passes call : Bool)
        → Addressed q
        (if passes then (place_of (place_at node.slot.0 0), node.start) ∷ []
        else (if call then (place_of (place_at node.slot.0 1), node.start + node.length) ∷ [] else []))
        → EndlessPlace passes call node.slot.0 q
    by true call h = addressed_own q node.slot.0 0 node.start h
    by false true h = addressed_own q node.slot.0 1 (node.start + node.length) h
    by false false h = absurd (false≢true h)

-- ---- jumps end no step

-- no step ends by the jump, if there is one
abbrev EndsNot : PlainPlace → Option PlainInstr → Type 0
EndsNot q jump = EndsIn q (option_to_list jump) → ⊥

record NoneEnds (q : PlainPlace) (around : CodeJumps) : Type 0 where
  ahead : EndsNot q around.ahead
  between : EndsNot q around.between
  back : EndsNot q around.back

no_jump : (q : PlainPlace) → NoneEnds q record { ahead = None; between = None; back = None }
no_jump q = record { ahead = λ h. h; between = λ h. h; back = λ h. h }

one_jump : (q : PlainPlace) (stopped : Bool) (jump : Option PlainInstr) → EndsNot q jump → EndsNot q (jump_unless stopped jump)
one_jump q true instr none h = h
one_jump q false instr none h = none h

nor : ⊥ ⊎ ⊥ → ⊥
nor (inl h) = h
nor (inr h) = h

counter_jump : (q : PlainPlace) (make : List ℕ → PlainInstr) (counter : Option (List ℕ)) → ((name : List ℕ) → EndsBy q (make name) → ⊥)
    → EndsNot q (option_map make counter)
counter_jump q make None none h = h
counter_jump q make (Some name) none (inl h) = none name h
counter_jump q make (Some name) none (inr h) = h

template_ends_not : (q : PlainPlace) (slot : ℕ) (counter : Option (List ℕ)) (all one : Bool) (own first others : ℕ) (template : Template)
    → NoneEnds q (template_jumps slot counter all one own first others template)
template_ends_not q slot counter all one own first others Template.If =
    record { ahead = one_jump q all _ nor; between = λ h. h; back = λ h. h }
template_ends_not q slot counter all one own first others Template.IfElse =
    record { ahead = one_jump q all _ nor; between = nor; back = λ h. h }
template_ends_not q slot counter all one own first others Template.While =
    record { ahead = one_jump q all _ nor; between = λ h. h; back = nor }
template_ends_not q slot counter all one own first others Template.For =
    record {
      ahead = one_jump q all _ (counter_jump q _ counter (λ name h. h));
      between = λ h. h;
      back = one_jump q one _ (counter_jump q _ counter (λ name h. h));
    }
template_ends_not q slot counter all one own first others Template.Until =
    record { ahead = λ h. h; between = λ h. h; back = one_jump q one _ nor }
template_ends_not q slot counter all one own first others other = no_jump q

kind_ends_not : (q : PlainPlace) (slot : ℕ) (counter : Option (List ℕ)) (all one : Bool) (own first others : ℕ) (kind : NodeKind)
    → NoneEnds q (kind_jumps slot counter all one own first others kind)
kind_ends_not q slot counter all one own first others (NodeKind.Filled template) =
    template_ends_not q slot counter all one own first others template
kind_ends_not q slot counter all one own first others other = no_jump q

-- the jumps of a node
jumps_end_not : (q : PlainPlace) (marks : MarkMap) (items : ItemMap) (label : Label) (lengths : List ℕ) → NoneEnds q (jumps marks items label lengths)
jumps_end_not q marks items label lengths =
    kind_ends_not q label.slot (counter_name (part_at label.parts 0)) (is_some (suspension marks label.slot label.parts))
    (is_some (suspension marks label.slot (take 1 label.parts))) (count_pieces (pieces marks items label)) (first_length lengths)
    (other_lengths lengths) label.kind

-- ---- the places of nodes

-- the place is one of the node's own code
abbrev OwnPlace : MarkMap → ItemMap → PlainPlace → Label → Type 0
OwnPlace marks items q label =
    KindPlace (suspension marks label.slot label.parts) (suspension marks label.slot (take 1 label.parts)) label (items_in items label.slot) label.kind q

-- codes that are joined around what ends no step
around_ends : (q : PlainPlace) (between : Option PlainInstr) (codes : List (List PlainInstr)) → EndsNot q between
    → EndsIn q (codes_around (option_to_list between) codes) → EndsIn q (codes_joined codes)
around_ends q between [] none h = absurd (none h)
around_ends q between (code ∷ codes) none h =
    elim (ends_either q code (option_to_list between ++ codes_joined codes) h) as (λ _. EndsIn q (code ++ codes_joined codes)) [
      | inl a ↦ ends_left q code (codes_joined codes) a
      | inr b ↦
          elim (ends_either q (option_to_list between) (codes_joined codes) b) as (λ _. EndsIn q (code ++ codes_joined codes)) [
            | inl c ↦ absurd (none c)
            | inr d ↦ ends_right q code (codes_joined codes) d
          ]
    ]

ends_around : (q : PlainPlace) (between : Option PlainInstr) (codes : List (List PlainInstr)) → EndsIn q (codes_joined codes)
    → EndsIn q (codes_around (option_to_list between) codes)
ends_around q between [] h = absurd h
ends_around q between (code ∷ codes) h =
    elim (ends_either q code (codes_joined codes) h) as (λ _. EndsIn q (code ++ (option_to_list between ++ codes_joined codes))) [
      | inl a ↦ ends_left q code (option_to_list between ++ codes_joined codes) a
      | inr b ↦
          ends_right q code (option_to_list between ++ codes_joined codes) (ends_right q (option_to_list between) (codes_joined codes) b)
    ]

-- a step that ends in the code of a node ends in its pieces, or in the codes inside it
abbrev NodeEnds : MarkMap → ItemMap → PlainPlace → Label → List (List PlainInstr) → Type 0
NodeEnds marks items q label codes =
    EndsIn q (pieces marks items label).before ⊎ (EndsIn q (pieces marks items label).behind ⊎ EndsIn q (codes_joined codes))

node_ends : (marks : MarkMap) (items : ItemMap) (q : PlainPlace) (label : Label) (codes : List (List PlainInstr))
    → EndsIn q (code_around marks items label codes) → NodeEnds marks items q label codes
node_ends marks items q label codes h =
    let own = pieces marks items label in
    let around : CodeJumps = jumps marks items label (map length codes) in
    let none : NoneEnds q around = jumps_end_not q marks items label (map length codes) in
    let ahead = option_to_list around.ahead in
    let back = option_to_list around.back in
    let inside = codes_around (option_to_list around.between) codes in
    let found : EndsIn q (own.behind ++ back) → NodeEnds marks items q label codes =
    λ d. elim (ends_either q own.behind back d) as (λ _. NodeEnds marks items q label codes) [
      | inl a ↦ inr (inl a)
      | inr b ↦ absurd (none.back b)
    ] in
    let later : EndsIn q (inside ++ (own.behind ++ back)) → NodeEnds marks items q label codes =
    λ d. elim (ends_either q inside (own.behind ++ back) d) as (λ _. NodeEnds marks items q label codes) [
      | inl a ↦ inr (inr (around_ends q around.between codes none.between a))
      | inr b ↦ found b
    ] in
    let next : EndsIn q (ahead ++ (inside ++ (own.behind ++ back))) → NodeEnds marks items q label codes =
    λ d. elim (ends_either q ahead (inside ++ (own.behind ++ back)) d) as (λ _. NodeEnds marks items q label codes) [
      | inl a ↦ absurd (none.ahead a)
      | inr b ↦ later b
    ] in
    elim (ends_either q own.before (ahead ++ (inside ++ (own.behind ++ back))) h) as (λ _. NodeEnds marks items q label codes) [
      | inl a ↦ inl a
      | inr b ↦ next b
    ]

ends_node : (marks : MarkMap) (items : ItemMap) (q : PlainPlace) (label : Label) (codes : List (List PlainInstr))
    → NodeEnds marks items q label codes → EndsIn q (code_around marks items label codes)
ends_node marks items q label codes h =
    let own = pieces marks items label in
    let around : CodeJumps = jumps marks items label (map length codes) in
    let ahead = option_to_list around.ahead in
    let back = option_to_list around.back in
    let inside = codes_around (option_to_list around.between) codes in
    elim h as (λ _. EndsIn q (code_around marks items label codes)) [
      | inl a ↦ ends_left q own.before (ahead ++ (inside ++ (own.behind ++ back))) a
      | inr (inl b) ↦
          ends_right q own.before (ahead ++ (inside ++ (own.behind ++ back)))
          (ends_right q ahead (inside ++ (own.behind ++ back))
          (ends_right q inside (own.behind ++ back) (ends_left q own.behind back b)))
      | inr (inr c) ↦
          ends_right q own.before (ahead ++ (inside ++ (own.behind ++ back)))
          (ends_right q ahead (inside ++ (own.behind ++ back))
          (ends_left q inside (own.behind ++ back) (ends_around q around.between codes c)))
    ]

-- a step that ends in the codes of nodes ends at a place of one of them
codes_end : (marks : MarkMap) (items : ItemMap) (q : PlainPlace) (nodes : Forest) → EndsIn q (codes_joined (node_codes marks items nodes))
    → Somewhere (OwnPlace marks items q) nodes
codes_end marks items q Forest.nil h = absurd h
codes_end marks items q (Forest.cons label inner rest) h =
    let codes = node_codes marks items inner in
    elim (ends_either q (code_around marks items label codes) (codes_joined (node_codes marks items rest)) h)
    as (λ _. Somewhere (OwnPlace marks items q) (Forest.cons label inner rest)) [
      | inl a ↦
          elim (node_ends marks items q label codes a) as (λ _. Somewhere (OwnPlace marks items q) (Forest.cons label inner rest)) [
            | inl b ↦ inl (inr (inl b))
            | inr (inl c) ↦ inl (inr (inr c))
            | inr (inr d) ↦ inr (inl (codes_end marks items q inner d))
          ]
      | inr e ↦ inr (inr (codes_end marks items q rest e))
    ]

-- the addresses of nodes at which no step ends
abbrev pub endless : List NodeSpan → List (Place × ℕ)
endless spans = flat_map node_address spans

endless_append : (one other : List NodeSpan) → endless (one ++ other) ≡ endless one ++ endless other
endless_append [] other = refl
endless_append (node ∷ one) other =
    ap (λ (es : List (Place × ℕ)). node_address node ++ es) (endless_append one other)
    ∙ sym (append_assoc (node_address node) (endless one) (endless other))

-- the place is one of the node at which no step ends
abbrev pub EndlessOf : PlainPlace → Label → Type 0
EndlessOf q label = EndlessPlace (passes_in label.kind) (is_call label.kind) label.slot q

pub spans_endless : (marks : MarkMap) (items : ItemMap) (q : PlainPlace) (start gap : ℕ) (nodes : Forest)
    → Addressed q (endless (node_spans marks items start gap nodes)) → Somewhere (EndlessOf q) nodes
spans_endless marks items q start gap Forest.nil h = absurd (false≢true h)
spans_endless marks items q start gap (Forest.cons label inner rest) h =
    let around : CodeJumps = jumps marks items label (node_lengths marks items inner) in
    let whole : ℕ = length_around marks items label (node_lengths marks items inner) in
    let node : NodeSpan = record { slot = record { 0 = label.slot }; kind = label.kind; start = start; length = whole } in
    let from : ℕ = start + length (pieces marks items label).before + length (option_to_list around.ahead) in
    let within = node_spans marks items from (length (option_to_list around.between)) inner in
    let behind = node_spans marks items (start + whole + gap) 0 rest in
    elim (addressed_either q (node_address node) (endless (within ++ behind)) h)
    as (λ _. Somewhere (EndlessOf q) (Forest.cons label inner rest)) [
      | inl a ↦ inl (addressed_node q node a)
      | inr b ↦
          elim (addressed_either q (endless within) (endless behind) (subst (Addressed q) (endless_append within behind) b))
          as (λ _. Somewhere (EndlessOf q) (Forest.cons label inner rest)) [
            | inl c ↦ inr (inl (spans_endless marks items q from (length (option_to_list around.between)) inner c))
            | inr d ↦ inr (inr (spans_endless marks items q (start + whole + gap) 0 rest d))
          ]
    ]

-- a place of a node is found in one of the two
abbrev InOne : MarkMap → ItemMap → PlainPlace → (start gap : ℕ) → Forest → Type 0
InOne marks items q start gap nodes =
    Addressed q (endless (node_spans marks items start gap nodes)) ⊎ EndsIn q (codes_joined (node_codes marks items nodes))

somewhere_in : (marks : MarkMap) (items : ItemMap) (q : PlainPlace) (start gap : ℕ) (nodes : Forest) → Somewhere (OwnPlace marks items q) nodes
    → InOne marks items q start gap nodes
somewhere_in marks items q start gap Forest.nil h = absurd h
somewhere_in marks items q start gap (Forest.cons label inner rest) h =
    let around : CodeJumps = jumps marks items label (node_lengths marks items inner) in
    let whole : ℕ = length_around marks items label (node_lengths marks items inner) in
    let node : NodeSpan = record { slot = record { 0 = label.slot }; kind = label.kind; start = start; length = whole } in
    let from : ℕ = start + length (pieces marks items label).before + length (option_to_list around.ahead) in
    let within = node_spans marks items from (length (option_to_list around.between)) inner in
    let behind = node_spans marks items (start + whole + gap) 0 rest in
    let codes = node_codes marks items inner in
    let code = code_around marks items label codes in
    let others = codes_joined (node_codes marks items rest) in
    let listed : Addressed q (endless within ++ endless behind) → Addressed q (endless (node ∷ (within ++ behind))) =
    λ a. addressed_right q (node_address node) (endless (within ++ behind)) (subst (Addressed q) (sym (endless_append within behind)) a) in
    let own : NodeEnds marks items q label codes → InOne marks items q start gap (Forest.cons label inner rest) =
    λ a. inr (ends_left q code others (ends_node marks items q label codes a)) in
    elim h as (λ _. InOne marks items q start gap (Forest.cons label inner rest)) [
      | inl (inl a) ↦ inl (addressed_left q (node_address node) (endless (within ++ behind)) (node_addressed q node a))
      | inl (inr (inl b)) ↦ own (inl b)
      | inl (inr (inr c)) ↦ own (inr (inl c))
      | inr (inl d) ↦
          elim (somewhere_in marks items q from (length (option_to_list around.between)) inner d)
          as (λ _. InOne marks items q start gap (Forest.cons label inner rest)) [
            | inl a ↦ inl (listed (addressed_left q (endless within) (endless behind) a))
            | inr b ↦ own (inr (inr b))
          ]
      | inr (inr e) ↦
          elim (somewhere_in marks items q (start + whole + gap) 0 rest e)
          as (λ _. InOne marks items q start gap (Forest.cons label inner rest)) [
            | inl a ↦ inl (listed (addressed_right q (endless within) (endless behind) a))
            | inr b ↦ inr (ends_right q code others b)
          ]
    ]

-- ---- the law

-- whether a run has the place at a node, if that is in its slot
abbrev HasPoint : MarkMap → PlainPlace → Label → Type 0
HasPoint marks q label =
    IsTrue ((has_start (sort_of label.kind) && (q.point == 0)) || has_point (is_marked_first marks q.slot) label label.kind q.point)

-- a place of a node's own code is one that a run has there
own_had : (marks : MarkMap) (items : ItemMap) (q : PlainPlace) (nodes : Forest) → AreNodes nodes → Somewhere (OwnPlace marks items q) nodes
    → Somewhere (InSlot (HasPoint marks q) q.slot) nodes
own_had marks items q Forest.nil are h = absurd h
own_had marks items q (Forest.cons label inner rest) are (inl h) =
    let has = place_had marks label (items_in items label.slot) label.kind q are.0.parts h in
    inl (
      has.0,
      subst
          (λ (s : ℕ). IsTrue ((has_start (sort_of label.kind) && (q.point == 0)) || has_point (is_marked_first marks s) label label.kind q.point))
          has.0 has.1,
    )
own_had marks items q (Forest.cons label inner rest) are (inr (inl h)) = inr (inl (own_had marks items q inner are.1 h))
own_had marks items q (Forest.cons label inner rest) are (inr (inr h)) = inr (inr (own_had marks items q rest are.2 h))

-- a place at a site is one of the own code of the node there
site_owns : (marks : MarkMap) (items : ItemMap) (program : Forest) (q : PlainPlace) (found : Site) → AreNodes program
    → site program q.slot ≡ Some found → HasPoint marks q found.label → Somewhere (OwnPlace marks items q) program
site_owns marks items program q found are e has =
    let same : found.label.slot ≡ q.slot = site_slot q.slot false program (place_at 0 1) found e in
    let node = site_node q.slot false program (place_at 0 1) found are e in
    site_somewhere (OwnPlace marks items q) q.slot false program (place_at 0 1) found e
    (had_place marks found.label (items_in items found.label.slot) found.label.kind q node.parts (
      same,
      subst
          (λ (s : ℕ). IsTrue ((has_start (sort_of found.label.kind) && (q.point == 0)) || has_point (is_marked_first marks s) found.label found.label.kind q.point))
          (sym same) has,
    ))

-- a place that exists is one at a site
exists_owns : (marks : MarkMap) (items : ItemMap) (program : Forest) (q : PlainPlace) → AreNodes program → (found : Option Site)
    → site program q.slot ≡ found → IsTrue (place_exists_at (is_marked_first marks q.slot) found q.point)
    → Somewhere (OwnPlace marks items q) program
exists_owns marks items program q are None e has = absurd (false≢true has)
exists_owns marks items program q are (Some found) e has = site_owns marks items program q found are e has

pub places_have_addresses : PlacesHaveAddresses
places_have_addresses marks items program q is once =
    let nodes = node_spans marks items 0 0 program in
    let instrs = codes_joined (node_codes marks items program) in
    let entries : List (Place × ℕ) = endless nodes ++ addresses_in 0 instrs in
    let found = get-from_entries places_total entries (place_of q) in
    let there : Exists (is_marked_first marks) program q → Addressed q entries =
    λ exists.
    elim (somewhere_in marks items q 0 0 program (exists_owns marks items program q is.sound (site program q.slot) refl exists)) as (λ _. Addressed q entries) [
      | inl a ↦ addressed_left q (endless nodes) (addresses_in 0 instrs) a
      | inr b ↦ addressed_right q (endless nodes) (addresses_in 0 instrs) (code_addressed q 0 instrs b)
    ] in
    let back : Addressed q entries → Somewhere (OwnPlace marks items q) program =
    λ has.
    elim (addressed_either q (endless nodes) (addresses_in 0 instrs) has) as (λ _. Somewhere (OwnPlace marks items q) program) [
      | inl a ↦
          somewhere_map (EndlessOf q) (OwnPlace marks items q) (λ label h. inl h) program (spans_endless marks items q 0 0 program a)
      | inr b ↦ codes_end marks items q program (addressed_code q 0 instrs b)
    ] in (
      λ exists. subst IsSome (sym found) (there exists),
      λ has.
          let at : SiteWith (HasPoint marks q) (site program q.slot) =
          somewhere_site (HasPoint marks q) q.slot false program (place_at 0 1) once
          (own_had marks items q program is.sound (back (subst IsSome found has))) in
          subst (λ (s : Option Site). IsTrue (place_exists_at (is_marked_first marks q.slot) s q.point)) (sym at.1) at.2,
    )
