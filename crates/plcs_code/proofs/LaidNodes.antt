-- Code laid node by node. Each step puts some code and some spans behind those that are there; where the steps of a
-- node, or of nodes in turn, are done, what came is what the definitions say, and as long as the lengths that were
-- counted ahead.
use Rattle.std.proofs.Common.{ℕ, ◌+◌, ◌≡◌, ◌≤◌, List, [], ◌∷◌, ◌++◌, length, map, refl, ap, sym, ◌∙◌, arith, append_assoc}
use Rattle.std.specs.Prelude.{sum}
use Rattle.std.specs.Option.{option_to_list}
use Rattle.std.proofs.lemmas.List.{append-nil, length-append}
use Rattle.std.proofs.lemmas.List.Sums.{sum_by-cons}
use Rattle.plcs_base.specs.Mark.{MarkMap}
use Rattle.plcs_base.specs.Scope.{ItemMap}
use Rattle.template_tree.specs.Programs.PlainTree.{Forest, Label}
use Rattle.template_tree.specs.Checks.ProgramMaps.{items_in}
use Rattle.plcs_code.specs.declared.lengths.NodeLength.{NodeLength}
use Rattle.plcs_code.specs.declared.node_span.NodeSpan.{NodeSpan}
use Rattle.plcs_code.specs.Gen.{code_around, code_with, codes_around, codes_joined, length_around, node_codes, node_lengths, node_spans}
use Rattle.plcs_code.specs.Pieces.{count_pieces, first_length, jumps, other_lengths, own_pieces, pieces}
use Rattle.plcs_code.specs.PlainInstr.{PlainInstr}
use Rattle.plcs_code.specs.Private.LaidCode.{PlainLaid, front, jumps_by, length_of, listed_lengths, with_instrs, with_nodes, with_span}
use Rattle.plcs_code.proofs.CodeLengths.{code_around_length, lengths_told, own_instrs_length}
use Rattle.plcs_code.proofs.LaidPieces.{own_behind}

-- codes with nothing behind the first one are joined
pub around_none : (codes : List (List PlainInstr)) → codes_around [] codes ≡ codes_joined codes
around_none [] = refl
around_none (code ∷ codes) = refl

-- the first length and the others are all
pub first_others : (lengths : List ℕ) → first_length lengths + other_lengths lengths ≡ sum lengths
first_others [] = refl
first_others (n ∷ ns) = sym (sum_by-cons (λ n. n) n ns)

module _ (marks : MarkMap) (items : ItemMap) where
  -- the code of a node is as long as was counted
  pub one_length : (label : Label) (inner : Forest)
      → length (code_around marks items label (node_codes marks items inner)) ≡ length_around marks items label (node_lengths marks items inner)
  one_length label inner =
      code_around_length marks items label (node_codes marks items inner) ∙ ap (length_around marks items label) (lengths_told marks items inner)

  -- the lengths of a node come before those of the others
  pub lengths_next : (label : Label) (inner rest : Forest)
      → listed_lengths marks items (Forest.cons label inner rest)
      ≡ listed_lengths marks items (Forest.cons label inner Forest.nil) ++ listed_lengths marks items rest
  lengths_next label inner rest =
      ap (λ (ls : List NodeLength). length_of marks items label (node_lengths marks items inner) ∷ (ls ++ listed_lengths marks items rest))
      (sym (append-nil (listed_lengths marks items inner)))

  -- ---- nodes in turn

  -- where no node is left, what stands behind the first is laid
  pub nodes_none : (between : List PlainInstr) (laid : PlainLaid) → with_instrs between laid ≡ with_nodes marks items between Forest.nil laid
  nodes_none between laid = λ i. record { instrs = laid.instrs ++ between; spans = sym (append-nil laid.spans) i }

  module _ (between : List PlainInstr) (label : Label) (inner rest : Forest) (laid : PlainLaid) where
    abbrev code : List PlainInstr
    code = code_around marks items label (node_codes marks items inner)

    -- a node, what stands behind it, and the nodes that are left
    pub nodes_next :
        with_nodes marks items [] rest (with_instrs between (with_nodes marks items [] (Forest.cons label inner Forest.nil) laid))
        ≡ with_nodes marks items between (Forest.cons label inner rest) laid
    nodes_next = λ i. record { instrs = instrs i; spans = spans i }
      where
        instrs : ((laid.instrs ++ (code ++ [])) ++ between) ++ codes_around [] (node_codes marks items rest)
            ≡ laid.instrs ++ (code ++ (between ++ codes_joined (node_codes marks items rest)))
        instrs =
            ap (λ r. ((laid.instrs ++ (code ++ [])) ++ between) ++ r) (around_none (node_codes marks items rest))
            ∙ ap (λ z. ((laid.instrs ++ z) ++ between) ++ codes_joined (node_codes marks items rest)) (append-nil code)
            ∙ append_assoc (laid.instrs ++ code) between (codes_joined (node_codes marks items rest))
            ∙ append_assoc laid.instrs code (between ++ codes_joined (node_codes marks items rest))

        reached : length ((laid.instrs ++ (code ++ [])) ++ between)
            ≡ length laid.instrs + length_around marks items label (node_lengths marks items inner) + length between
        reached =
            omega
            (arith, one_length label inner, length-append (laid.instrs ++ (code ++ [])) between, length-append laid.instrs (code ++ []), length-append code [])

        spans :
            (let own : NodeSpan = record {
              slot = record { 0 = label.slot };
              kind = label.kind;
              start = length laid.instrs;
              length = length_around marks items label (node_lengths marks items inner);
            } in
            let around = jumps marks items label (node_lengths marks items inner) in
            let inside =
            node_spans marks items (length laid.instrs + length (pieces marks items label).before + length (option_to_list around.ahead))
            (length (option_to_list around.between)) inner in
            (laid.spans ++ (own ∷ (inside ++ []))) ++ node_spans marks items (length ((laid.instrs ++ (code ++ [])) ++ between)) 0 rest
            ≡ laid.spans ++ (own ∷ (inside ++ node_spans marks items (length laid.instrs + length_around marks items label (node_lengths marks items inner) + length between) 0 rest)))
        spans =
            let own : NodeSpan = record {
              slot = record { 0 = label.slot };
              kind = label.kind;
              start = length laid.instrs;
              length = length_around marks items label (node_lengths marks items inner);
            } in
            let around = jumps marks items label (node_lengths marks items inner) in
            let inside =
            node_spans marks items (length laid.instrs + length (pieces marks items label).before + length (option_to_list around.ahead))
            (length (option_to_list around.between)) inner in
            append_assoc laid.spans (own ∷ (inside ++ [])) (node_spans marks items (length ((laid.instrs ++ (code ++ [])) ++ between)) 0 rest)
            ∙ ap (λ (z : List NodeSpan). laid.spans ++ (own ∷ (z ++ node_spans marks items (length ((laid.instrs ++ (code ++ [])) ++ between)) 0 rest))) (append-nil inside)
            ∙ ap (λ (n : ℕ). laid.spans ++ (own ∷ (inside ++ node_spans marks items n 0 rest))) reached

    -- so long their code is
    pub nodes_longer :
        length (codes_around between (node_codes marks items (Forest.cons label inner rest)))
        ≡ length (codes_around [] (node_codes marks items (Forest.cons label inner Forest.nil)))
        + (length between + length (codes_around [] (node_codes marks items rest)))
    nodes_longer =
        omega
        (arith, length-append code [], length-append code (between ++ codes_joined (node_codes marks items rest)), length-append between (codes_joined (node_codes marks items rest)), ap (λ (c : List PlainInstr). length c) (around_none (node_codes marks items rest)))

  -- ---- one node

  module _ (label : Label) (inner : Forest) (laid : PlainLaid) where
    -- a node's front, what stands inside it, and what stands behind that
    pub node_laid :
        (let lengths = length_of marks items label (node_lengths marks items inner) in
        with_instrs ((own_pieces marks [] label).behind ++ option_to_list (jumps_by marks items label lengths).back)
        (with_nodes marks items (option_to_list (jumps_by marks items label lengths).between) inner
        (with_instrs (front marks items label lengths)
        (with_span (record { slot = record { 0 = label.slot }; kind = label.kind; start = length laid.instrs; length = lengths.whole }) laid)))
        ≡ with_nodes marks items [] (Forest.cons label inner Forest.nil) laid)
    node_laid = λ i. record { instrs = instrs i; spans = spans i }
      where
        told : map length (node_codes marks items inner) ≡ node_lengths marks items inner
        told = lengths_told marks items inner

        instrs :
            (let own = pieces marks items label in
            let around = jumps marks items label (node_lengths marks items inner) in
            ((laid.instrs ++ (own.before ++ option_to_list around.ahead)) ++ codes_around (option_to_list around.between) (node_codes marks items inner))
            ++ ((own_pieces marks [] label).behind ++ option_to_list around.back)
            ≡ laid.instrs ++ (code_around marks items label (node_codes marks items inner) ++ []))
        instrs =
            let own = pieces marks items label in
            let around = jumps marks items label (node_lengths marks items inner) in
            let ahead = option_to_list around.ahead in
            let inside = codes_around (option_to_list around.between) (node_codes marks items inner) in
            let back = option_to_list around.back in
            ap (λ b. ((laid.instrs ++ (own.before ++ ahead)) ++ inside) ++ (b ++ back)) (own_behind marks [] (items_in items label.slot) label)
            ∙ append_assoc (laid.instrs ++ (own.before ++ ahead)) inside (own.behind ++ back)
            ∙ append_assoc laid.instrs (own.before ++ ahead) (inside ++ (own.behind ++ back))
            ∙ ap (λ z. laid.instrs ++ z) (append_assoc own.before ahead (inside ++ (own.behind ++ back)))
            ∙ ap (λ ls. laid.instrs ++ code_with own (jumps marks items label ls) (node_codes marks items inner)) (sym told)
            ∙ ap (λ z. laid.instrs ++ z) (sym (append-nil (code_around marks items label (node_codes marks items inner))))

        spans :
            (let own = pieces marks items label in
            let around = jumps marks items label (node_lengths marks items inner) in
            let span : NodeSpan = record {
              slot = record { 0 = label.slot };
              kind = label.kind;
              start = length laid.instrs;
              length = length_around marks items label (node_lengths marks items inner);
            } in
            (laid.spans ++ (span ∷ []))
            ++ node_spans marks items (length (laid.instrs ++ (own.before ++ option_to_list around.ahead))) (length (option_to_list around.between)) inner
            ≡ laid.spans
            ++ (span
            ∷ (node_spans marks items (length laid.instrs + length own.before + length (option_to_list around.ahead)) (length (option_to_list around.between)) inner ++ [])))
        spans =
            let own = pieces marks items label in
            let around = jumps marks items label (node_lengths marks items inner) in
            let ahead = option_to_list around.ahead in
            let gap = length (option_to_list around.between) in
            let span : NodeSpan = record {
              slot = record { 0 = label.slot };
              kind = label.kind;
              start = length laid.instrs;
              length = length_around marks items label (node_lengths marks items inner);
            } in
            let reached : length (laid.instrs ++ (own.before ++ ahead)) ≡ length laid.instrs + length own.before + length ahead =
            omega (arith, length-append laid.instrs (own.before ++ ahead), length-append own.before ahead) in
            append_assoc laid.spans (span ∷ []) (node_spans marks items (length (laid.instrs ++ (own.before ++ ahead))) gap inner)
            ∙ ap (λ (n : ℕ). laid.spans ++ (span ∷ node_spans marks items n gap inner)) reached
            ∙ ap (λ (z : List NodeSpan). laid.spans ++ (span ∷ z)) (sym (append-nil (node_spans marks items (length laid.instrs + length own.before + length ahead) gap inner)))

    -- so long its code is
    pub node_longer :
        (let lengths = length_of marks items label (node_lengths marks items inner) in
        length (codes_around [] (node_codes marks items (Forest.cons label inner Forest.nil)))
        ≡ length (front marks items label lengths)
        + (length (codes_around (option_to_list (jumps_by marks items label lengths).between) (node_codes marks items inner))
        + length ((own_pieces marks [] label).behind ++ option_to_list (jumps_by marks items label lengths).back)))
    node_longer =
        let lengths = length_of marks items label (node_lengths marks items inner) in
        let ahead = front marks items label lengths in
        let inside = codes_around (option_to_list (jumps_by marks items label lengths).between) (node_codes marks items inner) in
        let behind = (own_pieces marks [] label).behind ++ option_to_list (jumps_by marks items label lengths).back in
        let code = code_around marks items label (node_codes marks items inner) in
        let same : length (((laid.instrs ++ ahead) ++ inside) ++ behind) ≡ length (laid.instrs ++ (code ++ [])) = ap (λ (l : PlainLaid). length l.instrs) node_laid in
        omega
        (arith, same, length-append ((laid.instrs ++ ahead) ++ inside) behind, length-append (laid.instrs ++ ahead) inside, length-append laid.instrs ahead, length-append laid.instrs (code ++ []))

  -- ---- what is short enough

  -- what stands inside a node is no longer than the node, and nor is that together with the node's pieces
  pub inside_shorter : (label : Label) (inner rest : Forest)
      → sum (node_lengths marks items inner) ≤ sum (node_lengths marks items (Forest.cons label inner rest))
  inside_shorter label inner rest =
      let total : sum (node_lengths marks items (Forest.cons label inner rest))
      ≡ length_around marks items label (node_lengths marks items inner) + sum (node_lengths marks items rest) =
      sum_by-cons (λ n. n) (length_around marks items label (node_lengths marks items inner)) (node_lengths marks items rest) in
      omega (arith, total)

  pub pieces_shorter : (label : Label) (inner rest : Forest)
      → count_pieces (pieces marks items label) + first_length (node_lengths marks items inner) + other_lengths (node_lengths marks items inner)
      ≤ sum (node_lengths marks items (Forest.cons label inner rest))
  pieces_shorter label inner rest =
      let total : sum (node_lengths marks items (Forest.cons label inner rest))
      ≡ length_around marks items label (node_lengths marks items inner) + sum (node_lengths marks items rest) =
      sum_by-cons (λ n. n) (length_around marks items label (node_lengths marks items inner)) (node_lengths marks items rest) in
      omega (arith, total, first_others (node_lengths marks items inner), own_instrs_length marks items label [])
