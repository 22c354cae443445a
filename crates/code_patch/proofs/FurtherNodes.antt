-- A node that is located among nodes that begin further on begins so much further on itself.
use Rattle.std.specs.Prelude.{◌≡◌, refl, ℕ, ◌+◌, ◌==◌, Bool, true, false, if◌then◌else◌, length, Option, Some, None, option_map}
use Rattle.std.specs.Option.{option_or, option_to_list}
use Rattle.std.proofs.Common.{ap, sym, ◌∙◌, arith}
use Rattle.plcs_code.specs.OwnCode.{jumps_beside}
use Rattle.code_patch.specs.CodeForest.{CodeForest, PlainCodeNode, count_around, kept_lengths}
use Rattle.code_patch.specs.Private.LocatedNode.{PlainLocated, located_among, located_inside}

-- a node whose code begins at an address
abbrev starting : (start : ℕ) → PlainCodeNode → PlainLocated
starting start node = record { start = start; node = node }

-- a located node, so much further on
abbrev pub further_on : (by : ℕ) → PlainLocated → PlainLocated
further_on by found = record { start = by + found.start; node = found.node }

-- the one of two that is there, further on
or_further : (by : ℕ) (one other : Option PlainLocated)
    → option_or (option_map (further_on by) one) (option_map (further_on by) other)
    ≡ option_map (further_on by) (option_or one other)
or_further by None other = refl
or_further by (Some found) other = refl

-- a node, or what is located inside it or behind it, further on
node_further : (by start : ℕ) (node : PlainCodeNode) (a b c d : Option PlainLocated) → a ≡ option_map (further_on by) c
    → b ≡ option_map (further_on by) d → (is_here : Bool)
    → (if is_here then Some (starting (by + start) node) else option_or a b)
    ≡ option_map (further_on by) (if is_here then Some (starting start node) else option_or c d)
node_further by start node a b c d one other true = refl
node_further by start node a b c d one other false = (λ i. option_or (one i) (other i)) ∙ or_further by c d

-- what is located among nodes
among_further : (slot by start gap : ℕ) (nodes : CodeForest)
    → located_among slot (by + start) gap nodes ≡ option_map (further_on by) (located_among slot start gap nodes)
among_further slot by start gap CodeForest.nil = refl
among_further slot by start gap (CodeForest.cons own spare inner rest) =
    let first : PlainCodeNode = record { own = own; spare = spare; inner = inner } in
    let ahead : ℕ = length (option_to_list (jumps_beside own (kept_lengths inner)).ahead) in
    let between : ℕ = length (option_to_list (jumps_beside own (kept_lengths inner)).between) in
    let within : ℕ = start + length own.pieces.before + ahead in
    let behind : ℕ = start + count_around own (kept_lengths inner) + gap in
    let to_within : by + start + length own.pieces.before + ahead ≡ by + within = omega arith in
    let to_behind : by + start + count_around own (kept_lengths inner) + gap ≡ by + behind = omega arith in
    node_further by start first
    (located_among slot (by + start + length own.pieces.before + ahead) between inner)
    (located_among slot (by + start + count_around own (kept_lengths inner) + gap) 0 rest)
    (located_among slot within between inner) (located_among slot behind 0 rest)
    (ap (λ (n : ℕ). located_among slot n between inner) to_within ∙ among_further slot by within between inner)
    (ap (λ (n : ℕ). located_among slot n 0 rest) to_behind ∙ among_further slot by behind 0 rest)
    (own.slot == slot)

-- what is located inside a node
inside_further : (slot by : ℕ) (node : PlainCodeNode)
    → located_inside slot by node ≡ option_map (further_on by) (located_inside slot 0 node)
inside_further slot by node =
    let ahead : ℕ = length (option_to_list (jumps_beside node.own (kept_lengths node.inner)).ahead) in
    let between : ℕ = length (option_to_list (jumps_beside node.own (kept_lengths node.inner)).between) in
    let within : ℕ = 0 + length node.own.pieces.before + ahead in
    let to_within : by + length node.own.pieces.before + ahead ≡ by + within = omega arith in
    ap (λ (n : ℕ). located_among slot n between node.inner) to_within ∙ among_further slot by within between node.inner

-- what is located inside a node is located further on where the node begins there
pub found_further : (slot by : ℕ) (node : PlainCodeNode) (found : PlainLocated) → Some found ≡ located_inside slot 0 node
    → Some (further_on by found) ≡ located_inside slot by node
found_further slot by node found is = ap (option_map (further_on by)) is ∙ sym (inside_further slot by node)

-- and where nothing is, nothing is there
pub none_further : (slot by : ℕ) (node : PlainCodeNode) → None ≡ located_inside slot 0 node
    → None ≡ located_inside slot by node
none_further slot by node is = ap (option_map (further_on by)) is ∙ sym (inside_further slot by node)
