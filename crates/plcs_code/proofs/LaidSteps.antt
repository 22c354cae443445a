-- The steps by which code is laid, put together: the lengths that are taken, what is laid in the end, and what was
-- counted where it broke off.
use Rattle.std.proofs.Common.{ℕ, ◌+◌, ◌≡◌, ◌≤◌, List, [], ◌∷◌, ◌++◌, drop, length, Option, Some, slice_get, refl, ap, subst, sym, ◌∙◌, arith, append_assoc}
use Rattle.std.specs.Prelude.{sum}
use Rattle.std.specs.Option.{option_to_list}
use Rattle.std.proofs.lemmas.List.{append-nil}
use Rattle.std.proofs.lemmas.List.Sums.{sum_by-cons}
use Rattle.plcs_base.specs.Mark.{MarkMap}
use Rattle.plcs_base.specs.PlainCounts.{PlainCounts}
use Rattle.plcs_base.specs.Scope.{ItemMap}
use Rattle.template_tree.specs.Programs.PlainTree.{Forest, Label, PlainNode, forest}
use Rattle.plcs_code.specs.declared.lengths.NodeLength.{NodeLength}
use Rattle.plcs_code.specs.Counts.{Emits, EmitsAtMost}
use Rattle.plcs_code.specs.Gen.{codes_around, length_around, node_codes, node_lengths}
use Rattle.plcs_code.specs.Pieces.{own_pieces}
use Rattle.plcs_code.specs.PlainInstr.{PlainInstr}
use Rattle.plcs_code.specs.Private.LaidCode.{PlainLaid, front, jumps_by, length_of, listed_lengths, with_instrs, with_nodes, with_span}
use Rattle.plcs_code.proofs.CountedLengths.{nodes_left}
use Rattle.plcs_code.proofs.LaidNodes.{pieces_shorter, lengths_next, node_laid, node_longer, nodes_longer, nodes_next}
use Rattle.plcs_code.proofs.Laying.{emits_both, emits_break, emits_none, emits_then}

-- ---- counts

-- what is counted at most is counted at most where more may be
pub emits_more : (m n : ℕ) (u v : PlainCounts) → m ≤ n → EmitsAtMost m u v → EmitsAtMost n u v
emits_more m n u v less one = emits_then m 0 n u v v (omega (arith, less)) one (emits_none 0 v)

-- ---- lengths

-- the first of the lengths that is taken
pub head_taken : {X : Type 0} (x y : X) (xs ys : List X) → x ∷ xs ≡ y ∷ ys → x ≡ y
head_taken x y xs ys is = cc

-- and those that are left
pub tail_taken : {X : Type 0} (x y : X) (xs ys : List X) → x ∷ xs ≡ y ∷ ys → xs ≡ ys
tail_taken x y xs ys is = cc

module _ (marks : MarkMap) (items : ItemMap) (label : Label) (inner : Forest) (length_taken : NodeLength) (old new rest : List NodeLength)
    (next : old ≡ length_taken ∷ new) (begins : old ≡ listed_lengths marks items (Forest.cons label inner Forest.nil) ++ rest) where
  taken : length_taken ∷ new ≡ length_of marks items label (node_lengths marks items inner) ∷ ((listed_lengths marks items inner ++ []) ++ rest)
  taken = sym next ∙ begins

  -- the length that is taken is that of the node
  pub length_is : length_taken ≡ length_of marks items label (node_lengths marks items inner)
  length_is = head_taken _ _ _ _ taken

  -- and those of what stands inside it are left
  pub lengths_left : new ≡ listed_lengths marks items inner ++ rest
  lengths_left = tail_taken _ _ _ _ taken ∙ ap (λ ls. ls ++ rest) (append-nil (listed_lengths marks items inner))

-- ---- a node

module _ (marks : MarkMap) (items : ItemMap) (label : Label) (inner : Forest) (length_taken : NodeLength)
    (is : length_taken ≡ length_of marks items label (node_lengths marks items inner)) where
  -- it is short enough
  pub pieces_short : (n : ℕ) → sum (node_lengths marks items (Forest.cons label inner Forest.nil)) + 2 ≤ n
      → length_taken.pieces + length_taken.first + length_taken.others + 2 ≤ n
  pieces_short n short =
      subst (λ (l : NodeLength). l.pieces + l.first + l.others + 2 ≤ n) (sym is)
      (omega (arith, short, pieces_shorter marks items label inner Forest.nil))

  module _ (between back : Option PlainInstr) (is_between : between ≡ (jumps_by marks items label length_taken).between)
      (is_back : back ≡ (jumps_by marks items label length_taken).back) where
    -- it is laid
    pub node_done : (old begun ahead inside after : PlainLaid)
        → begun ≡ with_span (record { slot = record { 0 = label.slot }; kind = label.kind; start = length old.instrs; length = length_taken.whole }) old
        → ahead ≡ with_instrs (front marks items label length_taken) begun
        → inside ≡ with_nodes marks items (option_to_list between) inner ahead
        → after ≡ with_instrs ((own_pieces marks [] label).behind ++ option_to_list back) inside
        → after ≡ with_nodes marks items [] (Forest.cons label inner Forest.nil) old
    node_done old begun ahead inside after one two three four =
        four
        ∙ ap (λ (b : Option PlainInstr). with_instrs ((own_pieces marks [] label).behind ++ option_to_list b) inside) is_back
        ∙ ap (λ (l : PlainLaid). with_instrs ((own_pieces marks [] label).behind ++ option_to_list (jumps_by marks items label length_taken).back) l)
        (three
        ∙ ap (λ (b : Option PlainInstr). with_nodes marks items (option_to_list b) inner ahead) is_between
        ∙ ap (λ (l : PlainLaid). with_nodes marks items (option_to_list (jumps_by marks items label length_taken).between) inner l)
        (two ∙ ap (λ (l : PlainLaid). with_instrs (front marks items label length_taken) l) one))
        ∙ ap (λ (n : NodeLength).
        with_instrs ((own_pieces marks [] label).behind ++ option_to_list (jumps_by marks items label n).back)
        (with_nodes marks items (option_to_list (jumps_by marks items label n).between) inner
        (with_instrs (front marks items label n)
        (with_span (record { slot = record { 0 = label.slot }; kind = label.kind; start = length old.instrs; length = n.whole }) old)))) is
        ∙ node_laid marks items label inner old

    -- so long its code is
    pub node_total :
        length (codes_around [] (node_codes marks items (Forest.cons label inner Forest.nil)))
        ≡ length (front marks items label length_taken)
        + (length (codes_around (option_to_list between) (node_codes marks items inner))
        + length ((own_pieces marks [] label).behind ++ option_to_list back))
    node_total =
        node_longer marks items label inner (record { instrs = []; spans = [] })
        ∙ ap (λ (n : NodeLength).
        length (front marks items label n)
        + (length (codes_around (option_to_list (jumps_by marks items label n).between) (node_codes marks items inner))
        + length ((own_pieces marks [] label).behind ++ option_to_list (jumps_by marks items label n).back))) (sym is)
        ∙ ap (λ (b : Option PlainInstr).
        length (front marks items label length_taken)
        + (length (codes_around (option_to_list b) (node_codes marks items inner))
        + length ((own_pieces marks [] label).behind ++ option_to_list (jumps_by marks items label length_taken).back))) (sym is_between)
        ∙ ap (λ (b : Option PlainInstr).
        length (front marks items label length_taken)
        + (length (codes_around (option_to_list between) (node_codes marks items inner))
        + length ((own_pieces marks [] label).behind ++ option_to_list b))) (sym is_back)

    -- so much is counted where it is laid, and where its steps break off
    module _ (u v : PlainCounts) (begun : Emits (length (front marks items label length_taken)) u v) where
      abbrev pub whole : ℕ
      whole = length (codes_around [] (node_codes marks items (Forest.cons label inner Forest.nil)))

      abbrev pub ahead : ℕ
      ahead = length (front marks items label length_taken)

      abbrev pub inside : ℕ
      inside = length (codes_around (option_to_list between) (node_codes marks items inner))

      abbrev pub rest : ℕ
      rest = length ((own_pieces marks [] label).behind ++ option_to_list back)

      pub inside_broke : (w : PlainCounts) → EmitsAtMost inside v w → EmitsAtMost whole u w
      inside_broke w more = emits_break ahead inside whole u v w (omega (arith, node_total)) begun more

      pub rest_broke : (w x : PlainCounts) → Emits inside v w → EmitsAtMost rest w x → EmitsAtMost whole u x
      rest_broke w x more last =
          emits_break (ahead + inside) rest whole u w x (omega (arith, node_total)) (emits_both ahead inside (ahead + inside) u v w refl begun more) last

      pub node_counted : (w x : PlainCounts) → Emits inside v w → Emits rest w x → Emits whole u x
      node_counted w x more last =
          emits_both (ahead + inside) rest whole u w x (omega (arith, node_total)) (emits_both ahead inside (ahead + inside) u v w refl begun more) last

  -- so much at most is counted where its first step breaks off
  pub front_broke : (u v : PlainCounts) → EmitsAtMost (length (front marks items label length_taken)) u v
      → EmitsAtMost (length (codes_around [] (node_codes marks items (Forest.cons label inner Forest.nil)))) u v
  front_broke u v begun =
      let around = jumps_by marks items label length_taken in
      emits_more (length (front marks items label length_taken)) (length (codes_around [] (node_codes marks items (Forest.cons label inner Forest.nil)))) u v
      (omega (arith, node_total around.between around.back refl refl)) begun

-- ---- nodes in turn

module _ (marks : MarkMap) (items : ItemMap) (all : List PlainNode) (k : ℕ) (node : PlainNode) (there : slice_get all k ≡ Some node) where
  left : forest (drop k all) ≡ Forest.cons node.label node.inner (forest (drop (k + 1) all))
  left = nodes_left all k (k + 1) node there refl

  -- a node is laid, and what stands behind it
  pub nodes_done : (between : List PlainInstr) (old node_done after : PlainLaid)
      → node_done ≡ with_nodes marks items [] (forest (node ∷ [])) old → after ≡ with_instrs between node_done
      → with_nodes marks items [] (forest (drop (k + 1) all)) after ≡ with_nodes marks items between (forest (drop k all)) old
  nodes_done between old laid after one two =
      ap (λ (l : PlainLaid). with_nodes marks items [] (forest (drop (k + 1) all)) l) (two ∙ ap (λ (l : PlainLaid). with_instrs between l) one)
      ∙ nodes_next marks items between node.label node.inner (forest (drop (k + 1) all)) old
      ∙ ap (λ (f : Forest). with_nodes marks items between f old) (sym left)

  -- so long their code is
  pub nodes_total : (between : List PlainInstr)
      → length (codes_around between (node_codes marks items (forest (drop k all))))
      ≡ length (codes_around [] (node_codes marks items (forest (node ∷ []))))
      + (length between + length (codes_around [] (node_codes marks items (forest (drop (k + 1) all)))))
  nodes_total between =
      ap (λ (f : Forest). length (codes_around between (node_codes marks items f))) left
      ∙ nodes_longer marks items between node.label node.inner (forest (drop (k + 1) all)) (record { instrs = []; spans = [] })

  -- the lengths of a node come first
  pub listed_next : listed_lengths marks items (forest (drop k all))
      ≡ listed_lengths marks items (forest (node ∷ [])) ++ listed_lengths marks items (forest (drop (k + 1) all))
  listed_next =
      ap (listed_lengths marks items) left ∙ lengths_next marks items node.label node.inner (forest (drop (k + 1) all))

  -- a node and those behind it are no longer than all
  pub lengths_sum : sum (node_lengths marks items (forest (drop k all)))
      ≡ sum (node_lengths marks items (forest (node ∷ []))) + sum (node_lengths marks items (forest (drop (k + 1) all)))
  lengths_sum =
      let n = length_around marks items node.label (node_lengths marks items node.inner) in
      let rest = node_lengths marks items (forest (drop (k + 1) all)) in
      let one : sum (n ∷ []) ≡ n + sum [] = sum_by-cons (λ m. m) n [] in
      let both : sum (n ∷ rest) ≡ n + sum rest = sum_by-cons (λ m. m) n rest in
      let whole : sum (node_lengths marks items (forest (drop k all))) ≡ sum (n ∷ rest) = ap (λ (f : Forest). sum (node_lengths marks items f)) left in
      omega (arith, one, both, whole)

  -- the lengths of those behind it come behind its own
  pub lengths_behind : (lengths rest : List NodeLength) → lengths ≡ listed_lengths marks items (forest (drop k all)) ++ rest
      → lengths ≡ listed_lengths marks items (forest (node ∷ [])) ++ (listed_lengths marks items (forest (drop (k + 1) all)) ++ rest)
  lengths_behind lengths rest are =
      are
      ∙ ap (λ ls. ls ++ rest) listed_next
      ∙ append_assoc (listed_lengths marks items (forest (node ∷ []))) (listed_lengths marks items (forest (drop (k + 1) all))) rest

-- what comes behind the same is the same
pub same_behind : {X : Type 0} (first one other : List X) → first ++ one ≡ first ++ other → one ≡ other
same_behind [] one other same = same
same_behind (x ∷ first) one other same = same_behind first one other (tail_taken x x (first ++ one) (first ++ other) same)
