-- A layout after a refinement was hidden or shown.
use Rattle.std.specs.Prelude.{◌≡◌, refl, ℕ, zero, suc, ◌+◌, ◌<◌, ◌≤◌, Bool, true, false, not, if◌then◌else◌, List, [], ◌∷◌, length, sum, Option, Some, None, is_some, option_map, option_and_then, slice_get, slice_set}
use Rattle.std.specs.Option.{unwrap_or}
use Rattle.std.proofs.Common.{ap, sym, ◌∙◌, arith}
use Rattle.std.proofs.lemmas.List.Sums.{sum_by-set}
use Rattle.plcs_grammar.specs.Template.{PlainSection, row_of, program_sections}
use Rattle.template_tree.specs.Programs.PlainTree.{Label, Forest, PlainNode, nodes}
use Rattle.template_tree.specs.Positions.Path.{below, node_at}
use Rattle.template_tree.specs.Programs.Program.{sort_of}
use Rattle.template_tree.specs.Listings.Section.{left_for, left_after, next_lead}
use Rattle.template_tree.specs.Edits.Edit.{edit_at, edit_below, give_way}
use Rattle.template_tree.specs.Edits.Elision.{is_comment, toggled}
use Rattle.unparse_layout.specs.Bones.{Bone, PlainLayout, bones_of, bone_count}
use Rattle.unparse_layout.specs.Private.PlainNodeLayout.{PlainNodeLayout, bones, bones_node_layouts, node_layouts}
use Rattle.unparse_layout.specs.Private.NodeLayoutLend.{with_elision}

-- nodes in which the one at the path is elided or not
abbrev pub set_in : PlainLayout → ℕ → List ℕ → Bool → PlainLayout
set_in items k path elided =
    unwrap_or (option_map (λ item. bones (slice_set (node_layouts items) k (with_elision path elided item))) (slice_get (node_layouts items) k)) items

-- what stands inside a node where one below it is set
pub inner_set : (node_layout : PlainNodeLayout) (k : ℕ) (path : List ℕ) (elided : Bool)
    → (with_elision (k ∷ path) elided node_layout).inner ≡ set_in node_layout.inner k path elided
inner_set node_layout k path elided = found (slice_get (node_layouts node_layout.inner) k)
  where
    found : (o : Option PlainNodeLayout)
        → (unwrap_or (option_map (λ item. record node_layout { inner = bones (slice_set (node_layouts node_layout.inner) k (with_elision path elided item)) }) o) node_layout).inner
        ≡ unwrap_or (option_map (λ item. bones (slice_set (node_layouts node_layout.inner) k (with_elision path elided item))) o) node_layout.inner
    found None = refl
    found (Some item) = refl

-- the node itself stays as it is
pub bone_kept : (node_layout : PlainNodeLayout) (k : ℕ) (path : List ℕ) (elided : Bool) → (with_elision (k ∷ path) elided node_layout).bone ≡ node_layout.bone
bone_kept node_layout k path elided = found (slice_get (node_layouts node_layout.inner) k)
  where
    found : (o : Option PlainNodeLayout)
        → (unwrap_or (option_map (λ item. record node_layout { inner = bones (slice_set (node_layouts node_layout.inner) k (with_elision path elided item)) }) o) node_layout).bone ≡ node_layout.bone
    found None = refl
    found (Some item) = refl

-- setting a node behind the first one
pub set_next : (bone : Bone) (inner rest : PlainLayout) (k : ℕ) (path : List ℕ) (elided : Bool)
    → set_in (PlainLayout.cons bone inner rest) (suc k) path elided ≡ PlainLayout.cons bone inner (set_in rest k path elided)
set_next bone inner rest k path elided = found (slice_get (node_layouts rest) k)
  where
    found : (o : Option PlainNodeLayout)
        → unwrap_or (option_map (λ item. PlainLayout.cons bone inner (bones (slice_set (node_layouts rest) k (with_elision path elided item)))) o) (PlainLayout.cons bone inner rest)
        ≡ PlainLayout.cons bone inner (unwrap_or (option_map (λ item. bones (slice_set (node_layouts rest) k (with_elision path elided item))) o) rest)
    found None = refl
    found (Some item) = refl

-- a comment turned differs in its elision alone
pub turned_node : (label : Label) (inner : Forest) (comment : Bool) (node : PlainNode)
    → node ≡ (if comment then record { label = record label { elided = not label.elided }; inner = inner } else record { label = label; inner = inner })
    → node ≡ record { label = record label { elided = node.label.elided }; inner = inner }
turned_node label inner true node is =
    let e : node.label.elided ≡ not label.elided = ap (λ (n : PlainNode). n.label.elided) is in
    is ∙ (λ i. let n : PlainNode = record { label = record label { elided = sym e i }; inner = inner } in n)
turned_node label inner false node is =
    let e : node.label.elided ≡ label.elided = ap (λ (n : PlainNode). n.label.elided) is in
    is ∙ (λ i. let n : PlainNode = record { label = record label { elided = sym e i }; inner = inner } in n)

-- turning the comment at a path sets its elision in the layout, where it is told what it is then
pub turned_bones : (items : Forest) (left : List PlainSection) (k : ℕ) (path : List ℕ) (elided : Bool) (node : PlainNode)
    → option_and_then (λ item. below item path) (slice_get (nodes (give_way (edit_below toggled path) k items)) k) ≡ Some node
    → node.label.elided ≡ elided
    → bones_of left (give_way (edit_below toggled path) k items) ≡ set_in (bones_of left items) k path elided
turned_bones Forest.nil left k path elided node there is = absurd (cc)
turned_bones (Forest.cons label inner rest) left zero [] elided node there is =
    let own : PlainNode = record { label = label; inner = inner } in
    let new : PlainNode = if is_comment label.kind then record { label = record label { elided = not label.elided }; inner = inner } else own in
    let same : new ≡ node = cc in
    let here = left_for (sort_of label.kind) left in
    let sections = (row_of label.kind).sections in
    let whole : new ≡ record { label = record label { elided = new.label.elided }; inner = inner } = turned_node label inner (is_comment label.kind) new refl in
    let e : new.label.elided ≡ elided = ap (λ (n : PlainNode). n.label.elided) same ∙ is in
    ap (λ (n : PlainNode). bones_of left (Forest.cons n.label n.inner rest)) whole
    ∙ (λ i. PlainLayout.cons record { slot = label.slot; kind = label.kind; elided = e i; led = is_some (next_lead here) } (bones_of sections inner)
    (sym (bones_node_layouts (bones_of (left_after here) rest)) i))
turned_bones (Forest.cons label inner rest) left zero (n ∷ path) elided node there is =
    let here = left_for (sort_of label.kind) left in
    let sections = (row_of label.kind).sections in
    let bone : Bone = record { slot = label.slot; kind = label.kind; elided = label.elided; led = is_some (next_lead here) } in
    let node_layout : PlainNodeLayout = record { bone = bone; inner = bones_of sections inner } in
    let below_it = turned_bones inner sections n path elided node there is in
    λ i. PlainLayout.cons (sym (bone_kept node_layout n path elided) i) ((below_it ∙ sym (inner_set node_layout n path elided)) i)
    (sym (bones_node_layouts (bones_of (left_after here) rest)) i)
turned_bones (Forest.cons label inner rest) left (suc k) path elided node there is =
    let here = left_for (sort_of label.kind) left in
    let bone : Bone = record { slot = label.slot; kind = label.kind; elided = label.elided; led = is_some (next_lead here) } in
    ap (PlainLayout.cons bone (bones_of (row_of label.kind).sections inner)) (turned_bones rest (left_after here) k path elided node there is)
    ∙ sym (set_next bone (bones_of (row_of label.kind).sections inner) (bones_of (left_after here) rest) k path elided)

-- where nothing stands there, nothing is turned
pub none_turned : (items : Forest) (left : List PlainSection) (k : ℕ) (path : List ℕ)
    → option_and_then (λ item. below item path) (slice_get (nodes (give_way (edit_below toggled path) k items)) k) ≡ None
    → bones_of left (give_way (edit_below toggled path) k items) ≡ bones_of left items
none_turned Forest.nil left k path none = refl
none_turned (Forest.cons label inner rest) left zero [] none = absurd (cc)
none_turned (Forest.cons label inner rest) left zero (n ∷ path) none =
    let here = left_for (sort_of label.kind) left in
    let bone : Bone = record { slot = label.slot; kind = label.kind; elided = label.elided; led = is_some (next_lead here) } in
    ap (λ b. PlainLayout.cons bone b (bones_of (left_after here) rest)) (none_turned inner (row_of label.kind).sections n path none)
none_turned (Forest.cons label inner rest) left (suc k) path none =
    let here = left_for (sort_of label.kind) left in
    let bone : Bone = record { slot = label.slot; kind = label.kind; elided = label.elided; led = is_some (next_lead here) } in
    ap (PlainLayout.cons bone (bones_of (row_of label.kind).sections inner)) (none_turned rest (left_after here) k path none)

-- the layout of a program after a comment was turned
pub turned_layout : (items before : Forest) (path : List ℕ) (elided : Bool) (root : PlainNodeLayout) (node : PlainNode)
    → root.inner ≡ bones_of program_sections before → items ≡ edit_at toggled path before → node_at items path ≡ Some node
    → node.label.elided ≡ elided → (with_elision path elided root).inner ≡ bones_of program_sections items
turned_layout items before [] elided root node same turned there is = absurd (cc)
turned_layout items before (k ∷ path) elided root node same turned there is =
    inner_set root k path elided
    ∙ ap (λ b. set_in b k path elided) same
    ∙ sym (turned_bones before program_sections k path elided node (sym (ap (λ f. node_at f (k ∷ path)) turned) ∙ there) is)
    ∙ ap (bones_of program_sections) (sym turned)

pub layout_kept : (items before : Forest) (path : List ℕ) → items ≡ edit_at toggled path before → node_at items path ≡ None
    → bones_of program_sections before ≡ bones_of program_sections items
layout_kept items before [] turned none = ap (bones_of program_sections) (sym turned)
layout_kept items before (k ∷ path) turned none =
    sym (none_turned before program_sections k path (sym (ap (λ f. node_at f (k ∷ path)) turned) ∙ none))
    ∙ ap (bones_of program_sections) (sym turned)

-- as many nodes as before where one gives way to one as large
pub count_set : (items : PlainLayout) (k : ℕ) (item new : PlainNodeLayout) → slice_get (node_layouts items) k ≡ Some item
    → bone_count new.inner ≡ bone_count item.inner → bone_count (bones (slice_set (node_layouts items) k new)) ≡ bone_count items
count_set PlainLayout.nil k item new there same = absurd (cc)
count_set (PlainLayout.cons bone inner rest) zero item new there same =
    let own : record { bone = bone; inner = inner } ≡ item = cc in
    let e : bone_count inner ≡ bone_count item.inner = ap (λ (o : PlainNodeLayout). bone_count o.inner) own in
    let f : bone_count (bones (node_layouts rest)) ≡ bone_count rest = ap bone_count (bones_node_layouts rest) in
    omega (arith, same, e, f)
count_set (PlainLayout.cons bone inner rest) (suc k) item new there same = omega (arith, count_set rest k item new there same)

pub count_elision : (path : List ℕ) (elided : Bool) (node_layout : PlainNodeLayout) → bone_count (with_elision path elided node_layout).inner ≡ bone_count node_layout.inner
count_elision [] elided node_layout = refl
count_elision (k ∷ path) elided node_layout =
    ap bone_count (inner_set node_layout k path elided) ∙ found (slice_get (node_layouts node_layout.inner) k) refl (λ item. count_elision path elided item)
  where
    found : (o : Option PlainNodeLayout) → slice_get (node_layouts node_layout.inner) k ≡ o
        → ((item : PlainNodeLayout) → bone_count (with_elision path elided item).inner ≡ bone_count item.inner)
        → bone_count (unwrap_or (option_map (λ item. bones (slice_set (node_layouts node_layout.inner) k (with_elision path elided item))) o) node_layout.inner) ≡ bone_count node_layout.inner
    found None e law = refl
    found (Some item) e law = count_set node_layout.inner k item (with_elision path elided item) e (law item)

-- the numbers with another one in a place fit
pub set_fits : (numbers : List ℕ) (k number : ℕ) → k < length numbers → sum (slice_set numbers k number) ≤ sum numbers + number
set_fits numbers k number within = let e = sum_by-set (λ n. n) numbers k number 0 within in omega (arith, e)
