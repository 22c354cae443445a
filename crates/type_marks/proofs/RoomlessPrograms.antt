-- Programs that are the same but for the room of their lists.
use Rattle.std.proofs.Common.{◌≡◌, ℕ, zero, suc, ◌+◌, Bool, true, false, List, [], ◌∷◌, ◌++◌, length, Option, Some, None, option_map, refl, ap, sym, ◌∙◌, arith}
use Rattle.std.specs.Prelude.{◌==◌, find, if◌then◌else◌, nat_lt}
use Rattle.std.specs.Option.{option_map_or, option_or}
use Rattle.plcs_base.specs.declared.place.PhraseAt.{PhraseAt}
use Rattle.plcs_grammar.specs.PlainPhrase.{PlainPhrase}
use Rattle.template_tree.specs.Checks.Environment.{procedure_at}
use Rattle.template_tree.specs.Edits.Edit.{procedure_of}
use Rattle.template_tree.specs.Programs.PlainTree.{Forest, Label, PlainNode, forest, nodes, roomless, roomless_node}
use Rattle.template_tree.specs.Programs.Slots.{times}
use Rattle.decl_table.specs.Due.{all_list_places, list_places, procedure_lists}
use Rattle.type_marks.proofs.FoundPhrases.{own_phrase, phrase_in}
use Rattle.type_marks.proofs.SlotNodes.{AtSlot}

times_roomless : (n : ℕ) (program : Forest) → times n (roomless program) ≡ times n program
times_roomless n Forest.nil = refl
times_roomless n (Forest.cons label inner rest) = omega (arith, times_roomless n inner, times_roomless n rest)

pub times_alike : (n : ℕ) (one other : Forest) → roomless one ≡ roomless other → times n one ≡ times n other
times_alike n one other same = sym (times_roomless n one) ∙ ap (times n) same ∙ times_roomless n other

phrase_roomless : (at : PhraseAt) (program : Forest) → phrase_in at (roomless program) ≡ phrase_in at program
phrase_roomless at Forest.nil = refl
phrase_roomless at (Forest.cons label inner rest) =
    (λ i. option_or (own_phrase at label) (option_or (phrase_roomless at inner i) (phrase_roomless at rest i)))

pub phrase_alike : (at : PhraseAt) (one other : Forest) → roomless one ≡ roomless other → phrase_in at one ≡ phrase_in at other
phrase_alike at one other same = sym (phrase_roomless at one) ∙ ap (phrase_in at) same ∙ phrase_roomless at other

-- ---- the lists of names of a procedure

lists_roomless : (program : Forest) → all_list_places (roomless program) ≡ all_list_places program
lists_roomless Forest.nil = refl
lists_roomless (Forest.cons label inner rest) = ap (λ (places : List PhraseAt). list_places label.slot 0 label.parts ++ places) (lists_roomless rest)

procedure_lists_roomless : (program : Forest) (slot : ℕ) → procedure_lists (roomless program) slot ≡ procedure_lists program slot
procedure_lists_roomless Forest.nil slot = refl
procedure_lists_roomless (Forest.cons label inner rest) slot = by (label.slot == slot) (procedure_lists_roomless rest slot)
  where
    by : (b : Bool) → procedure_lists (roomless rest) slot ≡ procedure_lists rest slot
        → option_map_or (λ (node : PlainNode). list_places node.label.slot 0 node.label.parts ++ all_list_places node.inner)
        (if b then Some (roomless_node (record { label = label; inner = inner })) else procedure_at (roomless rest) slot) []
        ≡ option_map_or (λ (node : PlainNode). list_places node.label.slot 0 node.label.parts ++ all_list_places node.inner)
        (if b then Some (record { label = label; inner = inner }) else procedure_at rest slot) []
    by true again = ap (λ (places : List PhraseAt). list_places label.slot 0 label.parts ++ places) (lists_roomless inner)
    by false again = again

pub procedure_lists_alike : (one other : Forest) (slot : ℕ) → roomless one ≡ roomless other → procedure_lists one slot ≡ procedure_lists other slot
procedure_lists_alike one other slot same =
    sym (procedure_lists_roomless one slot) ∙ ap (λ (f : Forest). procedure_lists f slot) same ∙ procedure_lists_roomless other slot

-- ---- the procedure in which a slot stands

procedure_of_roomless : (program : Forest) (slot : ℕ) → procedure_of (roomless program) slot ≡ procedure_of program slot
procedure_of_roomless Forest.nil slot = refl
procedure_of_roomless (Forest.cons label inner rest) slot =
    ap
    (λ (often : ℕ).
    option_map (λ (item : PlainNode). item.label.slot)
    (if nat_lt 0 often then Some (roomless_node (record { label = label; inner = inner }))
    else find (λ (item : PlainNode). nat_lt 0 (times slot (forest (item ∷ [])))) (nodes (roomless rest))))
    (times_roomless slot (Forest.cons label inner Forest.nil))
    ∙ by (nat_lt 0 (times slot (Forest.cons label inner Forest.nil))) (procedure_of_roomless rest slot)
  where
    by : (b : Bool) → procedure_of (roomless rest) slot ≡ procedure_of rest slot
        → option_map (λ (item : PlainNode). item.label.slot)
        (if b then Some (roomless_node (record { label = label; inner = inner }))
        else find (λ (item : PlainNode). nat_lt 0 (times slot (forest (item ∷ [])))) (nodes (roomless rest)))
        ≡ option_map (λ (item : PlainNode). item.label.slot)
        (if b then Some (record { label = label; inner = inner })
        else find (λ (item : PlainNode). nat_lt 0 (times slot (forest (item ∷ [])))) (nodes rest))
    by true again = refl
    by false again = again

pub procedure_of_alike : (one other : Forest) (slot : ℕ) → roomless one ≡ roomless other → procedure_of one slot ≡ procedure_of other slot
procedure_of_alike one other slot same =
    sym (procedure_of_roomless one slot) ∙ ap (λ (f : Forest). procedure_of f slot) same ∙ procedure_of_roomless other slot

-- ---- of the nodes in a slot

abbrev label_of : Label → Forest → Label
label_of none Forest.nil = none
label_of none (Forest.cons label inner rest) = label

abbrev inside_of : Forest → Forest
inside_of Forest.nil = Forest.nil
inside_of (Forest.cons label inner rest) = inner

abbrev behind_of : Forest → Forest
behind_of Forest.nil = Forest.nil
behind_of (Forest.cons label inner rest) = rest

pub at_alike : (slot : ℕ) (It To : PlainNode → Type 0)
    → ((node other : PlainNode) → roomless_node node ≡ roomless_node other → It node → To other) → (one other : Forest)
    → roomless one ≡ roomless other → AtSlot slot It one → AtSlot slot To other
at_alike slot It To follows Forest.nil Forest.nil same is = tt
at_alike slot It To follows Forest.nil (Forest.cons label inner rest) same is = absurd (differ (ap (λ (f : Forest). length (nodes f)) same))
  where
    differ : 0 ≡ suc (length (nodes (roomless rest))) → ⊥
    differ e = omega (arith, e)
at_alike slot It To follows (Forest.cons label inner rest) Forest.nil same is = absurd (differ (ap (λ (f : Forest). length (nodes f)) same))
  where
    differ : suc (length (nodes (roomless rest))) ≡ 0 → ⊥
    differ e = omega (arith, e)
at_alike slot It To follows (Forest.cons label inner rest) (Forest.cons tag inside behind) same is =
    let labels : record label { spare = 0 } ≡ record tag { spare = 0 } = ap (label_of label) same in
    let within : roomless inner ≡ roomless inside = ap inside_of same in
    let others : roomless rest ≡ roomless behind = ap behind_of same in (
      (λ here.
          follows (record { label = label; inner = inner }) (record { label = tag; inner = inside })
          (λ i. record { label = labels i; inner = within i }) (is.0 (ap (λ (l : Label). l.slot) labels ∙ here))),
      at_alike slot It To follows inner inside within is.1,
      at_alike slot It To follows rest behind others is.2,
    )
