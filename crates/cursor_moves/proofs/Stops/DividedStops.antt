-- The stops divided at one of them.
use Rattle.std.specs.Prelude.{◌≡◌, refl, ℕ, zero, suc, ◌+◌, ◌-◌, ◌<◌, List, [], ◌∷◌, ◌++◌, map, flat_map, Option, Some, None}
use Rattle.std.specs.List.{range_with_len}
use Rattle.std.proofs.Common.{ap, sym, ◌∙◌, arith, append_assoc, add-zero}
use Rattle.std.proofs.lemmas.List.{map-append}
use Rattle.std.proofs.lemmas.List.Concat.{flat_map-append}
use Rattle.template_tree.specs.Positions.Stop.{VisibleNode, VisibleStop, stops_of}

-- a stop of a node
abbrev pub stop_of : VisibleNode → Option ℕ → VisibleStop
stop_of node part = record { stop = record { path = node.path; part = part }; line = node.line }

-- the part, if it is one, is one of so many
abbrev pub IsWithin : Option ℕ → ℕ → Type 0
IsWithin None parts = Unit {0}
IsWithin (Some part) parts = part < parts

-- the stops of the node before one of them
abbrev pub ahead : VisibleNode → Option ℕ → List VisibleStop
ahead node None = []
ahead node (Some part) = stop_of node None ∷ map (λ n. stop_of node (Some n)) (range_with_len 0 part)

-- the stops of the node behind one of them
abbrev pub rear : VisibleNode → Option ℕ → List VisibleStop
rear node None = map (λ n. stop_of node (Some n)) (range_with_len 0 node.parts)
rear node (Some part) = map (λ n. stop_of node (Some n)) (range_with_len (part + 1) (node.parts - (part + 1)))

-- numbers in order divided at one of them
range_divided : (first part more : ℕ) → range_with_len first (part + (more + 1)) ≡ range_with_len first part ++ (first + part) ∷ range_with_len (first + part + 1) more
range_divided first zero more =
    let e : 0 + (more + 1) ≡ suc more = omega arith in
    rw (e, add-zero first) refl
range_divided first (suc part) more =
    let e : suc part + (more + 1) ≡ suc (part + (more + 1)) = omega arith in
    let f : first + 1 + part ≡ first + suc part = omega arith in
    rw e (ap (λ numbers. first ∷ numbers) (rw (← f) (range_divided (first + 1) part more)))

-- the stops of a node divided at one of them
pub node_divided : (node : VisibleNode) (part : Option ℕ) → IsWithin part node.parts
    → stops_of node ≡ ahead node part ++ stop_of node part ∷ rear node part
node_divided node None h = refl
node_divided node (Some part) h =
    let e : node.parts ≡ part + (node.parts - (part + 1) + 1) = omega (arith, h) in
    let f : 0 + part ≡ part = omega arith in
    let numbers : range_with_len 0 node.parts ≡ range_with_len 0 part ++ part ∷ range_with_len (part + 1) (node.parts - (part + 1)) =
    ap (range_with_len 0) e
    ∙ range_divided 0 part (node.parts - (part + 1))
    ∙ ap (λ n. range_with_len 0 part ++ n ∷ range_with_len (n + 1) (node.parts - (part + 1))) f in
    ap (λ ns. stop_of node None ∷ map (λ n. stop_of node (Some n)) ns) numbers
    ∙ ap (λ stops. stop_of node None ∷ stops) (map-append (λ n. stop_of node (Some n)) (range_with_len 0 part) (part ∷ range_with_len (part + 1) (node.parts - (part + 1))))

-- the stops of all nodes divided at one of them
pub stops_divided : (nodes before : List VisibleNode) (here : VisibleNode) (behind : List VisibleNode) (part : Option ℕ)
    → nodes ≡ before ++ here ∷ behind → IsWithin part here.parts
    → flat_map stops_of nodes
    ≡ (flat_map stops_of before ++ ahead here part) ++ stop_of here part ∷ (rear here part ++ flat_map stops_of behind)
stops_divided nodes before here behind part stands within =
    let front = flat_map stops_of before in
    let back = flat_map stops_of behind in
    ap (flat_map stops_of) stands
    ∙ flat_map-append stops_of before (here ∷ behind)
    ∙ ap (λ own. front ++ (own ++ back)) (node_divided here part within)
    ∙ ap (λ stops. front ++ stops) (append_assoc (ahead here part) (stop_of here part ∷ rear here part) back)
    ∙ sym (append_assoc front (ahead here part) (stop_of here part ∷ (rear here part ++ back)))
