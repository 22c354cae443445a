-- The marks that an edit inside main or a procedure leaves, where it changes no declaration: those of all other slots.
use Rattle.std.proofs.Common.{◌≡◌, ℕ, Bool, true, false, List, [], ◌∷◌, ◌++◌, refl, sym, ap, ◌∙◌, eqb-true, ne_eqb}
use Rattle.std.specs.Prelude.{◌==◌, if◌then◌else◌}
use Rattle.std.specs.FinMap.{find, get}
use Rattle.plcs_base.specs.Mark.{phrase_cmp}
use Rattle.plcs_base.specs.declared.place.PhraseAt.{PhraseAt}
use Rattle.template_tree.specs.Checks.Marks.{Marks, node_verdicts, part_verdicts, procedure_verdicts, surroundings}
use Rattle.template_tree.specs.Edits.Edit.{edit_slot}
use Rattle.template_tree.specs.Programs.PlainTree.{Forest, Label, PlainNode, forest, join}
use Rattle.template_tree.specs.Programs.Slots.{times}
use Rattle.code_patch.proofs.FoundVerdicts.{both_found, nodes_alike, nowhere, other_slot, own_alike, same_mark, verdicts_join}
use Rattle.code_patch.proofs.QuietEdits.{AtSlot, GivesQuietly, NoItem, surroundings_same}

module _ (s : ℕ) (change : PlainNode → List PlainNode) (at : PhraseAt) where
  -- as much is found at the place in a node as in what comes for it, where what is asked about the slot is the same
  abbrev pub FoundAlike : PlainNode → Type 0
  FoundAlike node =
      (one other : Forest) (first second : PlainNode) → surroundings one first at.slot.0 ≡ surroundings other second at.slot.0
      → find phrase_cmp at (node_verdicts one first (forest (node ∷ [])))
      ≡ find phrase_cmp at (node_verdicts other second (forest (change node)))

  -- and so in all nodes
  nodes_edited : (one other : Forest) (first second : PlainNode) → surroundings one first at.slot.0 ≡ surroundings other second at.slot.0
      → (nodes : Forest) → AtSlot s FoundAlike nodes
      → find phrase_cmp at (node_verdicts one first nodes) ≡ find phrase_cmp at (node_verdicts other second (edit_slot s change nodes))
  nodes_edited one other first second same Forest.nil alike = refl
  nodes_edited one other first second same (Forest.cons label inner rest) alike =
      by (label.slot == s) refl (nodes_edited one other first second same inner alike.1) (nodes_edited one other first second same rest alike.2)
    where
      by : (b : Bool) → (label.slot == s) ≡ b
          → find phrase_cmp at (node_verdicts one first inner) ≡ find phrase_cmp at (node_verdicts other second (edit_slot s change inner))
          → find phrase_cmp at (node_verdicts one first rest) ≡ find phrase_cmp at (node_verdicts other second (edit_slot s change rest))
          → find phrase_cmp at (node_verdicts one first (Forest.cons label inner rest))
          ≡ find phrase_cmp at
          (node_verdicts other second
          (if b then join (forest (change record { label = label; inner = inner })) (edit_slot s change rest)
          else Forest.cons label (edit_slot s change inner) (edit_slot s change rest)))
      by true e inside behind =
          let came = forest (change (record { label = label; inner = inner })) in
          ap (find phrase_cmp at) (verdicts_join one first (Forest.cons label inner Forest.nil) rest)
          ∙ both_found at (node_verdicts one first (Forest.cons label inner Forest.nil)) (node_verdicts one first rest)
          (node_verdicts other second came) (node_verdicts other second (edit_slot s change rest))
          (alike.0 (eqb-true label.slot s e) one other first second same) behind
          ∙ sym (ap (find phrase_cmp at) (verdicts_join other second came (edit_slot s change rest)))
      by false e inside behind =
          both_found at (part_verdicts (surroundings one first label.slot) label.slot 0 label.parts)
          (node_verdicts one first inner ++ node_verdicts one first rest)
          (part_verdicts (surroundings other second label.slot) label.slot 0 label.parts)
          (node_verdicts other second (edit_slot s change inner) ++ node_verdicts other second (edit_slot s change rest))
          (own_alike one other first second at same label.slot label.parts)
          (both_found at (node_verdicts one first inner) (node_verdicts one first rest)
          (node_verdicts other second (edit_slot s change inner)) (node_verdicts other second (edit_slot s change rest))
          inside behind)

  -- and in all procedures of a program that is edited so
  module _ (program : Forest) (quiet : AtSlot s (GivesQuietly s change) program) (none : NoItem s program) (apart : at.slot.0 ≡ s → ⊥) where
    items_edited : (items : Forest) → AtSlot s (GivesQuietly s change) items → NoItem s items → AtSlot s FoundAlike items
        → find phrase_cmp at (procedure_verdicts program items)
        ≡ find phrase_cmp at (procedure_verdicts (edit_slot s change program) (edit_slot s change items))
    items_edited Forest.nil calm others alike = refl
    items_edited (Forest.cons label inner rest) calm others alike =
        both_found at (node_verdicts program (record { label = label; inner = inner }) (Forest.cons label inner Forest.nil))
        (procedure_verdicts program rest)
        (node_verdicts (edit_slot s change program) (record { label = label; inner = edit_slot s change inner })
        (Forest.cons label (edit_slot s change inner) Forest.nil))
        (procedure_verdicts (edit_slot s change program) (edit_slot s change rest)) one
        (items_edited rest calm.2 others.1 alike.2)
        ∙ ap
        (λ (b : Bool).
        find phrase_cmp at
        (procedure_verdicts (edit_slot s change program)
        (if b then join (forest (change record { label = label; inner = inner })) (edit_slot s change rest)
        else Forest.cons label (edit_slot s change inner) (edit_slot s change rest))))
        (sym (ne_eqb label.slot s others.0))
      where
        same : surroundings program (record { label = label; inner = inner }) at.slot.0
            ≡ surroundings (edit_slot s change program) (record { label = label; inner = edit_slot s change inner }) at.slot.0
        same = surroundings_same s change program label inner at.slot.0 quiet none calm.1 apart

        one : find phrase_cmp at (node_verdicts program (record { label = label; inner = inner }) (Forest.cons label inner Forest.nil))
            ≡ find phrase_cmp at
            (node_verdicts (edit_slot s change program) (record { label = label; inner = edit_slot s change inner })
            (Forest.cons label (edit_slot s change inner) Forest.nil))
        one =
            both_found at
            (part_verdicts (surroundings program (record { label = label; inner = inner }) label.slot) label.slot 0 label.parts)
            (node_verdicts program (record { label = label; inner = inner }) inner ++ [])
            (part_verdicts (surroundings (edit_slot s change program) (record { label = label; inner = edit_slot s change inner }) label.slot)
            label.slot 0 label.parts)
            (node_verdicts (edit_slot s change program) (record { label = label; inner = edit_slot s change inner }) (edit_slot s change inner) ++ [])
            (own_alike program (edit_slot s change program) (record { label = label; inner = inner })
            (record { label = label; inner = edit_slot s change inner }) at same label.slot label.parts)
            (both_found at (node_verdicts program (record { label = label; inner = inner }) inner) []
            (node_verdicts (edit_slot s change program) (record { label = label; inner = edit_slot s change inner }) (edit_slot s change inner)) []
            (nodes_edited program (edit_slot s change program) (record { label = label; inner = inner })
            (record { label = label; inner = edit_slot s change inner }) same inner alike.1)
            refl)

    -- the mark at the place stays
    pub mark_stays : AtSlot s FoundAlike program → get (Marks program) at ≡ get (Marks (edit_slot s change program)) at
    mark_stays alike = same_mark program (edit_slot s change program) at (items_edited program quiet none alike)

-- ---- nodes in which as much is found

-- a node comes for another one, and the slot stands in neither
pub node_alike : (s : ℕ) (at : PhraseAt) (new node : PlainNode) → times at.slot.0 (forest (node ∷ [])) ≡ 0
    → times at.slot.0 (forest (new ∷ [])) ≡ 0 → FoundAlike s (λ _. new ∷ []) at node
node_alike s at new node out absent one other first second same =
    nowhere one first at (forest (node ∷ [])) out ∙ sym (nowhere other second at (forest (new ∷ [])) absent)

-- a node goes in which the slot doesn't stand
pub gone_alike : (s : ℕ) (at : PhraseAt) (node : PlainNode) → times at.slot.0 (forest (node ∷ [])) ≡ 0 → FoundAlike s (λ _. []) at node
gone_alike s at node out one other first second same = nowhere one first at (forest (node ∷ [])) out

-- a node with another label in the same slot, which isn't asked for
pub label_alike : (s : ℕ) (at : PhraseAt) (relabel : Label → Label) (node : PlainNode) → (at.slot.0 ≡ node.label.slot → ⊥)
    → (relabel node.label).slot ≡ node.label.slot
    → FoundAlike s (λ n. record { label = relabel n.label; inner = n.inner } ∷ []) at node
label_alike s at relabel node apart slot one other first second same =
    both_found at (part_verdicts (surroundings one first node.label.slot) node.label.slot 0 node.label.parts)
    (node_verdicts one first node.inner ++ [])
    (part_verdicts (surroundings other second (relabel node.label).slot) (relabel node.label).slot 0 (relabel node.label).parts)
    (node_verdicts other second node.inner ++ [])
    (other_slot (surroundings one first node.label.slot) at node.label.slot apart 0 node.label.parts
    ∙ sym
    (other_slot (surroundings other second (relabel node.label).slot) at (relabel node.label).slot (λ e. apart (e ∙ slot)) 0 (relabel node.label).parts))
    (both_found at (node_verdicts one first node.inner) [] (node_verdicts other second node.inner) []
    (nodes_alike one other first second at same node.inner) refl)
