-- `span` and `count` of code_span: the code of the node at a stop is what the code of the program has in the span of
-- its slot, which is as long as it says.
use Rattle.std.proofs.Common.{◌≡◌, ℕ, Bool, true, false, List, [], drop, length, take, Option, Some, None, option_map, refl, sym, ap, ◌∙◌}
use Rattle.std.specs.FinMap.{get}
use Rattle.std.specs.Option.{option_map_or}
use Rattle.template_tree.specs.Checks.Marks.{Marks}
use Rattle.template_tree.specs.Laws.RoomLaws.{NodesIgnoreRoom}
use Rattle.template_tree.specs.Positions.Path.{node_at}
use Rattle.template_tree.specs.Positions.Place.{Site, site}
use Rattle.template_tree.specs.Positions.Stop.{PlainStop}
use Rattle.template_tree.specs.Programs.PlainTree.{PlainNode, PlainTree, roomless_node, roomless_tree}
use Rattle.template_tree.specs.Programs.Tree.{IsTree}
use Rattle.plcs_code.specs.CodeLaws.{SpanHolds, SpansHoldCode}
use Rattle.plcs_code.specs.Gen.{code_around, has_code, node_codes}
use Rattle.plcs_code.specs.PlainInstr.{PlainInstr}
use Rattle.plcs_code.specs.ProgramCode.{program_code, program_items}
use Rattle.synth_session.specs.ProgramCode.{code_at, code_of, instrs_in, slot_code}

-- ---- the code of the node at a stop

module _ (rooms : NodesIgnoreRoom) (tree : PlainTree) (stop : PlainStop) where
  -- the node that is found, without room
  bare : (found : Option PlainNode) → found ≡ node_at tree.items stop.path → node_at (roomless_tree tree).items stop.path ≡ option_map roomless_node found
  bare found is = rooms tree.items stop.path ∙ ap (option_map roomless_node) (sym is)

  -- where no node is found, there is no code
  pub no_code : None ≡ node_at tree.items stop.path → [] ≡ code_at (roomless_tree tree) stop
  unfolding code_at
  no_code none =
      sym
      (ap (λ (found : Option PlainNode). option_map_or (λ node. slot_code (roomless_tree tree) node.label.slot) found [])
      (bare None none))

  -- where a node is found, the code is that of its slot
  node_code : (node : PlainNode) → Some node ≡ node_at tree.items stop.path
      → code_at (roomless_tree tree) stop ≡ slot_code (roomless_tree tree) node.label.slot
  unfolding code_at
  node_code node is =
      ap (λ (found : Option PlainNode). option_map_or (λ node. slot_code (roomless_tree tree) node.label.slot) found [])
      (bare (Some node) is)

  -- by the span of its slot, or none
  pub span_code : (node : PlainNode) → Some node ≡ node_at tree.items stop.path → (span : ℕ × ℕ)
      → Some span ≡ get (code_of (roomless_tree tree)).spans node.label.slot
      → instrs_in (code_of (roomless_tree tree)) span ≡ code_at (roomless_tree tree) stop
  span_code node is span there =
      sym
      (node_code node is
      ∙ ap (λ (span : Option (ℕ × ℕ)). option_map_or (instrs_in (code_of (roomless_tree tree))) span []) (sym there))

  pub spanless_code : (node : PlainNode) → Some node ≡ node_at tree.items stop.path
      → None ≡ get (code_of (roomless_tree tree)).spans node.label.slot → [] ≡ code_at (roomless_tree tree) stop
  spanless_code node is none =
      sym
      (node_code node is
      ∙ ap (λ (span : Option (ℕ × ℕ)). option_map_or (instrs_in (code_of (roomless_tree tree))) span []) (sym none))

-- ---- how long it is

-- a code that stands in a span is as long as that says
held_long : (instrs code : List PlainInstr) (start count from : ℕ) → ◌≡◌ {A = Option (ℕ × ℕ)} (Some (from, length code)) (Some (start, count))
    → take (length code) (drop from instrs) ≡ code → length (take count (drop start instrs)) ≡ count
held_long instrs code start count from same there =
    let starts : from ≡ start = ap (λ (span : Option (ℕ × ℕ)). option_map_or (λ s. s.0) span 0) same in
    let counts : length code ≡ count = ap (λ (span : Option (ℕ × ℕ)). option_map_or (λ s. s.1) span 0) same in
    ap (λ (n : ℕ). length (take n (drop start instrs))) (sym counts)
    ∙ ap (λ (n : ℕ). length (take (length code) (drop n instrs))) (sym starts)
    ∙ ap length there
    ∙ counts

-- what stands in the span of a slot is as long as that says
pub span_long : SpansHoldCode → (tree : PlainTree) → IsTree tree → (slot start count : ℕ)
    → get (code_of tree).spans slot ≡ Some (start, count) → length (take count (drop start (code_of tree).instrs)) ≡ count
unfolding code_of
span_long laws tree is slot start count there = by (site tree.items slot) refl
  where
    held : (found : Site) → SpanHolds (Marks tree.items) (program_items tree.items) tree.items slot found
        → length (take count (drop start (program_code tree.items).instrs)) ≡ count
    held found holds =
        held_long (program_code tree.items).instrs
        (code_around (Marks tree.items) (program_items tree.items) found.label
        (node_codes (Marks tree.items) (program_items tree.items) found.inner))
        start count holds.0 (sym holds.1 ∙ there) holds.2

    kind : (found : Site) → site tree.items slot ≡ Some found → (has : Bool) → has_code found.label.kind ≡ has
        → length (take count (drop start (program_code tree.items).instrs)) ≡ count
    kind found e true has = held found (laws.held (Marks tree.items) (program_items tree.items) tree.items slot found e has)
    kind found e false has =
        absurd
        (let one = laws.codeless (Marks tree.items) (program_items tree.items) tree.items slot found (is.once slot) e has in
        (let two = sym one ∙ there in cc))

    by : (found : Option Site) → site tree.items slot ≡ found → length (take count (drop start (program_code tree.items).instrs)) ≡ count
    by None e =
        absurd (let one = laws.absent (Marks tree.items) (program_items tree.items) tree.items slot e in (let two = sym one ∙ there in cc))
    by (Some found) e = kind found e (has_code found.label.kind) refl
