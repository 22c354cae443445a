-- How many phrases are counted as due doesn't depend on the room of lists: none of the tests does by which they are
-- counted.
use Rattle.std.proofs.Common.{◌≡◌, ℕ, ◌+◌, Bool, true, false, List, [], ◌∷◌, Option, Some, refl, ap, sym, ◌∙◌, option_map}
use Rattle.std.specs.Prelude.{◌==◌, ◌||◌, not, bytes_eq, find, nat_lt, if◌then◌else◌}
use Rattle.std.specs.List.{list_any}
use Rattle.std.specs.Option.{option_eq, option_map_or}
use Rattle.std.proofs.lemmas.List.Folds.{list_any-append}
use Rattle.plcs_base.specs.declared.place.PhraseAt.{PhraseAt}
use Rattle.plcs_grammar.specs.PlainPhrase.{PlainPhrase}
use Rattle.template_tree.specs.declared.change.What.{What}
use Rattle.template_tree.specs.Checks.Environment.{item_named}
use Rattle.template_tree.specs.Checks.Mention.{mentioned}
use Rattle.template_tree.specs.Edits.Edit.{changed_in, procedure_of}
use Rattle.template_tree.specs.Laws.CheckLaws.{ChecksIgnoreRoom}
use Rattle.template_tree.specs.Programs.PlainTree.{Forest, PlainNode, forest, nodes, roomless, roomless_node}
use Rattle.template_tree.specs.Programs.Slots.{times}
use Rattle.decl_table.specs.DueCount.{changed_lists, due_count, due_parts, due_phrases, is_affected, is_declared_otherwise, is_headed_otherwise, is_item_other, is_one_of, is_phrase_due, is_same_item, is_same_signature}
use Rattle.decl_table.proofs.RoomlessDue.{binds_roomless, changed_roomless, names_roomless, procedure_lists_roomless}

-- ---- the procedure of a slot

times_roomless : (slot : ℕ) (items : Forest) → times slot (roomless items) ≡ times slot items
times_roomless slot Forest.nil = refl
times_roomless slot (Forest.cons label inner rest) =
    λ i. (if label.slot == slot then 1 else 0) + (times_roomless slot inner i + times_roomless slot rest i)

-- the first item in which the slot stands is the same but for room
found_if : (here : Bool) (first : PlainNode) (one other : Option PlainNode)
    → option_map (λ (n : PlainNode). n.label.slot) one ≡ option_map (λ (n : PlainNode). n.label.slot) other
    → option_map (λ (n : PlainNode). n.label.slot) (if here then Some (roomless_node first) else one)
    ≡ option_map (λ (n : PlainNode). n.label.slot) (if here then Some first else other)
found_if true first one other same = refl
found_if false first one other same = same

procedure_roomless : (program : Forest) (slot : ℕ) → procedure_of (roomless program) slot ≡ procedure_of program slot
procedure_roomless Forest.nil slot = refl
procedure_roomless (Forest.cons label inner rest) slot =
    let first : PlainNode = record { label = label; inner = inner } in
    let has : PlainNode → Bool = (λ n. nat_lt 0 (times slot (forest (n ∷ [])))) in
    ap
    (λ (often : ℕ).
    option_map (λ (n : PlainNode). n.label.slot)
    (if nat_lt 0 often then Some (roomless_node first) else find has (nodes (roomless rest))))
    (times_roomless slot (Forest.cons label inner Forest.nil))
    ∙ found_if (nat_lt 0 (times slot (Forest.cons label inner Forest.nil))) first (find has (nodes (roomless rest))) (find has (nodes rest))
    (procedure_roomless rest slot)

changed_in_roomless : (what : What) (before after : Forest)
    → changed_in what (roomless before) (roomless after) ≡ roomless (changed_in what before after)
changed_in_roomless What.Node before after = refl
changed_in_roomless (What.Part part) before after = refl
changed_in_roomless What.Added before after = refl
changed_in_roomless What.Dropped before after = refl

lists_roomless : (what : What) (slot : ℕ) (before after : Forest)
    → changed_lists what slot (roomless before) (roomless after) ≡ changed_lists what slot before after
lists_roomless what slot before after =
    let procedure : procedure_of (changed_in what (roomless before) (roomless after)) slot ≡ procedure_of (changed_in what before after) slot =
    ap (λ (f : Forest). procedure_of f slot) (changed_in_roomless what before after) ∙ procedure_roomless (changed_in what before after) slot in
    λ i.
    if binds_roomless before slot i || binds_roomless after slot i
    then option_map_or (λ own. procedure_lists_roomless after own i) (procedure i) []
    else []

-- ---- names that an edit affects

-- what is told of procedures by their slots
told_of_slots : (one other : ℕ → Bool) → one ≡ other → (items : Forest)
    → list_any (λ (procedure : PlainNode). one procedure.label.slot) (nodes (roomless items))
    ≡ list_any (λ (procedure : PlainNode). other procedure.label.slot) (nodes items)
told_of_slots one other same Forest.nil = refl
told_of_slots one other same (Forest.cons label inner rest) = λ i. same i label.slot || told_of_slots one other same rest i

module _ (room : ChecksIgnoreRoom) (before after : Forest) where
  other_roomless : (name : List ℕ) → is_item_other (roomless before) (roomless after) name ≡ is_item_other before after name
  other_roomless name =
      λ i slot.
      not (option_eq is_same_item (item_named name ((room before).items slot i)) (item_named name ((room after).items slot i)))

  declared_roomless : (name : List ℕ)
      → is_declared_otherwise (roomless before) (roomless after) name ≡ is_declared_otherwise before after name
  declared_roomless name =
      let bare : ℕ → Bool = is_item_other (roomless before) (roomless after) name in
      let full : ℕ → Bool = is_item_other before after name in
      list_any-append (λ (procedure : PlainNode). bare procedure.label.slot) (nodes (roomless before)) (nodes (roomless after))
      ∙ (λ i. told_of_slots bare full (other_roomless name) before i || told_of_slots bare full (other_roomless name) after i)
      ∙ sym (list_any-append (λ (procedure : PlainNode). full procedure.label.slot) (nodes before) (nodes after))

  headed_roomless : (name : List ℕ) → is_headed_otherwise (roomless before) (roomless after) name ≡ is_headed_otherwise before after name
  headed_roomless name = λ i. not (option_eq is_same_signature ((room before).headings name i) ((room after).headings name i))

  affected_roomless : (what : What) (slot : ℕ)
      → is_affected what slot (roomless before) (roomless after) ≡ is_affected what slot before after
  affected_roomless what slot =
      λ i name.
      list_any (bytes_eq name) (names_roomless what slot before i)
      || (list_any (bytes_eq name) (names_roomless what slot after i) || (declared_roomless name i || headed_roomless name i))

  due_roomless : (what : What) (slot : ℕ)
      → is_phrase_due what slot (roomless before) (roomless after) ≡ is_phrase_due what slot before after
  due_roomless what slot =
      λ i at phrase.
      is_one_of at (changed_roomless what slot after i)
      || (is_one_of at (lists_roomless what slot before after i) || list_any (affected_roomless what slot i) (mentioned phrase))

-- ---- how many they are

counted_roomless : (test : PhraseAt → PlainPhrase → Bool) (items : Forest) → due_phrases test (roomless items) ≡ due_phrases test items
counted_roomless test Forest.nil = refl
counted_roomless test (Forest.cons label inner rest) =
    λ i. due_parts test label.slot 0 label.parts + (counted_roomless test inner i + counted_roomless test rest i)

pub count_roomless : ChecksIgnoreRoom → (what : What) (slot : ℕ) (before after : Forest)
    → due_count what slot (roomless before) (roomless after) ≡ due_count what slot before after
count_roomless room what slot before after =
    ap (λ (test : PhraseAt → PlainPhrase → Bool). due_phrases test (roomless after)) (due_roomless room before after what slot)
    ∙ counted_roomless (is_phrase_due what slot before after) after
