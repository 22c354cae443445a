-- What is checked in a program looks at neither room nor elision.
use Rattle.std.specs.Prelude.{◌≡◌, refl, ℕ, zero, suc, ◌==◌, Bool, true, false, not, if◌then◌else◌, List, [], ◌∷◌, ◌++◌, ◌&&◌, bytes_eq, Option, Some, None, option_and_then, option_map, unwrap_or}
use Rattle.std.specs.FinMap.{from_entries}
use Rattle.std.specs.Option.{option_or}
use Rattle.std.proofs.Common.{ap, sym, ◌∙◌}
use Rattle.plcs_base.specs.declared.declared.Declared.{Declared}
use Rattle.plcs_base.specs.declared.declared.ItemType.{ItemType}
use Rattle.template_tree.specs.Laws.CheckLaws.{CheckAlike, ChecksIgnoreAllElision, ChecksIgnoreElision, ChecksIgnoreRoom}
use Rattle.template_tree.specs.Edits.Edit.{edit_at, edit_below, give_way, whole}
use Rattle.template_tree.specs.Edits.Elision.{is_comment, toggled}
use Rattle.template_tree.specs.Checks.Environment.{Heading, Items, Sig, Signature, all_declared, declares, effective, heading_of, items_inside, may_be_called, parameter_kinds, procedure_at, signature_of, type_given}
use Rattle.template_tree.specs.Checks.Marks.{VerdictList, VerdictMap, Verdicts, declared_before, node_verdicts, part_verdicts, procedure_verdicts, procedures_before, surroundings, type_in}
use Rattle.template_tree.specs.Checks.Mention.{mentions, part_mentions}
use Rattle.template_tree.specs.Programs.PlainTree.{Forest, Label, PlainNode, forest, join, roomless}

-- ---- the content of a program

-- nodes with nothing elided and without room
abbrev content : Forest → Forest
content Forest.nil = Forest.nil
content (Forest.cons label inner rest) =
    Forest.cons (record label { elided = false; spare = 0 }) (content inner) (content rest)

abbrev node_content : PlainNode → PlainNode
node_content node = record { label = record node.label { elided = false; spare = 0 }; inner = content node.inner }

content_roomless : (items : Forest) → content (roomless items) ≡ content items
content_roomless Forest.nil = refl
content_roomless (Forest.cons label inner rest) =
    λ i. Forest.cons (record label { elided = false; spare = 0 }) (content_roomless inner i) (content_roomless rest i)

-- a change of an item that keeps its content, and gives one item
record Keeps (change : PlainNode → List PlainNode) : Type 0 where
  new : PlainNode → PlainNode
  one : (node : PlainNode) → change node ≡ new node ∷ []
  same : (node : PlainNode) → node_content (new node) ≡ node_content node

gives_way : (change : PlainNode → List PlainNode) → Keeps change → (k : ℕ) (items : Forest)
    → content (give_way change k items) ≡ content items
gives_way change keeps k Forest.nil = refl
gives_way change keeps zero (Forest.cons label inner rest) =
    let node : PlainNode = record { label = label; inner = inner } in
    ap (λ (items : List PlainNode). content (join (forest items) rest)) (keeps.one node)
    ∙ ap (λ (n : PlainNode). Forest.cons n.label n.inner (content rest)) (keeps.same node)
gives_way change keeps (suc k) (Forest.cons label inner rest) =
    ap (Forest.cons (record label { elided = false; spare = 0 }) (content inner)) (gives_way change keeps k rest)

keeps_below : (change : PlainNode → List PlainNode) → Keeps change → (path : List ℕ) → Keeps (edit_below change path)
keeps_below change keeps [] = keeps
keeps_below change keeps (k ∷ path) =
    record {
      new = λ node. record node { inner = give_way (edit_below change path) k node.inner };
      one = λ node. refl;
      same = λ node.
          ap (λ (inner : Forest). let n : PlainNode = record { label = record node.label { elided = false; spare = 0 }; inner = inner } in n)
          (gives_way (edit_below change path) (keeps_below change keeps path) k node.inner);
    }

abbrev turned_or_not : Bool → PlainNode → PlainNode
turned_or_not b node = if b then record node { label = record node.label { elided = not node.label.elided } } else node

turned_same : (b : Bool) (node : PlainNode) → node_content (turned_or_not b node) ≡ node_content node
turned_same true node = refl
turned_same false node = refl

turn_keeps : Keeps toggled
turn_keeps =
    record {
      new = λ node. turned_or_not (is_comment node.label.kind) node;
      one = λ node. refl;
      same = λ node. turned_same (is_comment node.label.kind) node;
    }

content_turned : (path : List ℕ) (items : Forest) → content (edit_at toggled path items) ≡ content items
content_turned [] items = refl
content_turned (k ∷ path) items = gives_way (edit_below toggled path) (keeps_below toggled turn_keeps path) k items

-- ---- declarations

declared_same : (items : Forest) → all_declared (content items) ≡ all_declared items
declared_same Forest.nil = refl
declared_same (Forest.cons label inner rest) = ap (λ (z : List Declared). declares label ++ z) (declared_same rest)

inside_same : (inner : Forest) → items_inside (content inner) ≡ items_inside inner
inside_same inner = ap (effective []) (declared_same inner)

found_if : (b : Bool) (node : PlainNode) (one other : Option PlainNode) → one ≡ option_map node_content other
    → (if b then Some (node_content node) else one) ≡ option_map node_content (if b then Some node else other)
found_if true node one other same = refl
found_if false node one other same = same

procedure_same : (program : Forest) (slot : ℕ) → procedure_at (content program) slot ≡ option_map node_content (procedure_at program slot)
procedure_same Forest.nil slot = refl
procedure_same (Forest.cons label inner rest) slot =
    found_if (label.slot == slot) record { label = label; inner = inner } (procedure_at (content rest) slot) (procedure_at rest slot)
    (procedure_same rest slot)

abbrev items_of : Option PlainNode → List Declared
items_of found = unwrap_or (option_map (λ (node : PlainNode). items_inside node.inner) found) []

items_found : (found : Option PlainNode) → items_of (option_map node_content found) ≡ items_of found
items_found None = refl
items_found (Some node) = inside_same node.inner

items_same : (program : Forest) (slot : ℕ) → Items (content program) slot ≡ Items program slot
items_same program slot = ap items_of (procedure_same program slot) ∙ items_found (procedure_at program slot)

-- ---- headings

signature_same : (node : PlainNode) (heading : Heading) → signature_of (node_content node) heading ≡ signature_of node heading
signature_same node heading =
    ap (λ (items : List Declared). let s : Signature = record { slot = node.label.slot; parameters = parameter_kinds items [] heading.parameters } in s)
    (inside_same node.inner)

-- the signature by a heading whose name is wanted, where it may be called
abbrev signature_by : Bool → Signature → Option Signature
signature_by b signature = if b then Some signature else None

headed_same : (name : List ℕ) (node : PlainNode) (heading : Option Heading)
    → option_and_then (λ (h : Heading). if bytes_eq name h.name && may_be_called name then Some (signature_of (node_content node) h) else None) heading
    ≡ option_and_then (λ (h : Heading). if bytes_eq name h.name && may_be_called name then Some (signature_of node h) else None) heading
headed_same name node None = refl
headed_same name node (Some heading) = ap (signature_by (bytes_eq name heading.name && may_be_called name)) (signature_same node heading)

heading_same : (program : Forest) (name : List ℕ) → Sig (content program) name ≡ Sig program name
heading_same Forest.nil name = refl
heading_same (Forest.cons label inner rest) name =
    let node : PlainNode = record { label = label; inner = inner } in
    λ i. option_or (headed_same name node (heading_of label.kind label.parts) i) (heading_same rest name i)

headings_same : (program : Forest) → Sig (content program) ≡ Sig program
headings_same program = λ i name. heading_same program name i

-- ---- mentions

mentions_same : (name : List ℕ) (items : Forest) → mentions name (content items) ≡ mentions name items
mentions_same name Forest.nil = refl
mentions_same name (Forest.cons label inner rest) =
    λ i. part_mentions name label.slot 0 label.parts ++ (mentions_same name inner i ++ mentions_same name rest i)

-- ---- verdicts

none_or : (b : Bool) (before one other : List Declared) → one ≡ other
    → (if b then [] else before ++ one) ≡ (if b then [] else before ++ other)
none_or b before one other same = ap (λ (z : List Declared). if b then [] else before ++ z) same

before_same : (items : Forest) (slot : ℕ) → declared_before (content items) slot ≡ declared_before items slot
before_same Forest.nil slot = refl
before_same (Forest.cons label inner rest) slot =
    none_or (label.slot == slot) (declares label) (declared_before (content rest) slot) (declared_before rest slot) (before_same rest slot)

type_same : (items : Forest) (slot : ℕ) → type_in (content items) slot ≡ type_in items slot
type_same Forest.nil slot = refl
type_same (Forest.cons label inner rest) slot =
    ap (λ (z : Option ItemType). if label.slot == slot then type_given label.kind label.parts else z) (type_same rest slot)

up_to_if : (b : Bool) (label : Label) (inner rest rest' : Forest) → rest' ≡ content rest
    → (if b then Forest.nil else Forest.cons (record label { elided = false; spare = 0 }) (content inner) rest')
    ≡ content (if b then Forest.nil else Forest.cons label inner rest)
up_to_if true label inner rest rest' same = refl
up_to_if false label inner rest rest' same = ap (Forest.cons (record label { elided = false; spare = 0 }) (content inner)) same

earlier_same : (program : Forest) (slot : ℕ) → procedures_before (content program) slot ≡ content (procedures_before program slot)
earlier_same Forest.nil slot = refl
earlier_same (Forest.cons label inner rest) slot =
    up_to_if (label.slot == slot) label inner (procedures_before rest slot) (procedures_before (content rest) slot) (earlier_same rest slot)

earlier_headings : (program : Forest) (slot : ℕ) → Sig (procedures_before (content program) slot) ≡ Sig (procedures_before program slot)
earlier_headings program slot = ap Sig (earlier_same program slot) ∙ headings_same (procedures_before program slot)

surroundings_same : (program : Forest) (procedure : PlainNode) (slot : ℕ)
    → surroundings (content program) (node_content procedure) slot ≡ surroundings program procedure slot
surroundings_same program procedure slot =
    λ i. record {
      items = inside_same procedure.inner i;
      before = effective [] (before_same procedure.inner slot i);
      gives = type_same procedure.inner slot i;
      headings = headings_same program i;
      earlier = earlier_headings program procedure.label.slot i;
    }

node_verdicts_same : (program : Forest) (procedure : PlainNode) (items : Forest)
    → node_verdicts (content program) (node_content procedure) (content items) ≡ node_verdicts program procedure items
node_verdicts_same program procedure Forest.nil = refl
node_verdicts_same program procedure (Forest.cons label inner rest) =
    λ i. part_verdicts (surroundings_same program procedure label.slot i) label.slot 0 label.parts
    ++ (node_verdicts_same program procedure inner i ++ node_verdicts_same program procedure rest i)

verdict_list_same : (program items : Forest) → procedure_verdicts (content program) (content items) ≡ procedure_verdicts program items
verdict_list_same program Forest.nil = refl
verdict_list_same program (Forest.cons label inner rest) =
    let node : PlainNode = record { label = label; inner = inner } in
    λ i. node_verdicts_same program node (Forest.cons label inner Forest.nil) i ++ verdict_list_same program rest i

verdicts_same : (program : Forest) → Verdicts (content program) ≡ Verdicts program
verdicts_same program = ap (λ (list : VerdictList). let m : VerdictMap = from_entries list in m) (verdict_list_same program program)

-- ---- the laws

alike : (one other : Forest) → content one ≡ content other → CheckAlike one other
alike one other same =
    record {
      items = λ slot. sym (items_same one slot) ∙ (ap (λ (f : Forest). Items f slot) same ∙ items_same other slot);
      headings = λ name. sym (heading_same one name) ∙ (ap (λ (f : Forest). Sig f name) same ∙ heading_same other name);
      mentions = λ name. sym (mentions_same name one) ∙ (ap (mentions name) same ∙ mentions_same name other);
      listed = sym (verdict_list_same one one) ∙ (ap (λ (f : Forest). procedure_verdicts f f) same ∙ verdict_list_same other other);
      verdicts = sym (verdicts_same one) ∙ (ap Verdicts same ∙ verdicts_same other);
    }

pub checks_ignore_room : ChecksIgnoreRoom
checks_ignore_room items = alike (roomless items) items (content_roomless items)

content_is : (items : Forest) → content items ≡ roomless (whole items)
content_is Forest.nil = refl
content_is (Forest.cons label inner rest) =
    λ i. Forest.cons (record label { elided = false; spare = 0 }) (content_is inner i) (content_is rest i)

pub checks_ignore_all_elision : ChecksIgnoreAllElision
checks_ignore_all_elision one other same = alike one other (content_is one ∙ (same ∙ sym (content_is other)))

pub checks_ignore_elision : ChecksIgnoreElision
checks_ignore_elision items path = alike (edit_at toggled path items) items (content_turned path items)
