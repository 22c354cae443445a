-- What stands at a stop, with and without the room of lists, and what is taken out there.
use Rattle.std.proofs.Common.{◌≡◌, ◌+◌, true, false, Option, Some, None, option_map, ℕ, is_some, option_and_then, refl, sym, ap, subst, ◌∙◌}
use Rattle.std.specs.Prelude.{IsSome, IsSomeAnd}
use Rattle.std.specs.Option.{option_map_or}
use Rattle.plcs_grammar.specs.PlainPhrase.{PlainPhrase}
use Rattle.plcs_grammar.specs.declared.node_kind.NodeKind.{NodeKind}
use Rattle.template_tree.specs.Edits.Hole.{hole_left}
use Rattle.template_tree.specs.Edits.EditAnswer.{MayTake}
use Rattle.template_tree.specs.declared.tree_fault.TreeFault.{TreeFault}
use Rattle.template_tree.specs.Positions.Path.{node_at}
use Rattle.template_tree.specs.Programs.PlainTree.{Forest, PlainNode, PlainTree, roomless, roomless_node}
use Rattle.template_tree.specs.Programs.Slots.{count}
use Rattle.template_tree.specs.Positions.Stop.{PlainStop}
use Rattle.template_tree.specs.Edits.Copy.{CopyRefused, IsCopy}
use Rattle.clip_store.specs.PlainFragment.{PlainFragment, roomless_fragment, slots_of, whole_fragment}
use Rattle.session_edit.specs.Here.{can_take, takes_at}
use Rattle.screen_window.specs.LowerRows.{cursor_part}
use Rattle.template_tree.specs.Programs.Part.{part_at}
use Rattle.synth_session.specs.ClipCommands.{fragment_there}
use Rattle.synth_session.specs.TypedLine.{cursor_phrase}

-- a node without room has as many slots
pub node_slots : ((items : Forest) → count (roomless items) ≡ count items) → (found : Option PlainNode)
    → option_map (λ node. count node.inner + 1) found ≡ option_map slots_of (option_map PlainFragment.node (option_map roomless_node found))
node_slots counts None = refl
node_slots counts (Some node) = ap (λ n. Some (n + 1)) (sym (counts node.inner))

-- what is there is some
hole_there : (hole : Option NodeKind) → is_some hole ≡ true → IsSome hole
hole_there None isnt = absurd (cc)
hole_there (Some kind) is = is

may_take : (found : Option PlainNode) → option_map_or (can_take None) (option_map roomless_node found) false ≡ true → IsSomeAnd found MayTake
may_take None isnt = absurd (cc)
may_take (Some node) is = hole_there (hole_left node.label.kind) is

-- a node that can be taken out is neither main nor a hole
pub takes_node : (tree : PlainTree) (found : Option PlainNode) (stop : PlainStop)
    → node_at tree.items stop.path ≡ option_map roomless_node found → stop.part ≡ None → takes_at tree stop ≡ true → IsSomeAnd found MayTake
unfolding takes_at
takes_node tree found stop there node takes =
    may_take found (sym (ap (λ part. option_map_or (can_take part) (option_map roomless_node found) false) node)
    ∙ sym (ap (λ found. option_map_or (can_take stop.part) found false) there) ∙ takes)

-- a copy of such a node is refused for want of memory alone
pub copy_wants : (found : Option PlainNode) (fault : TreeFault) → IsSomeAnd found MayTake → CopyRefused found fault
    → (fault ≡ TreeFault.OutOfMemory → ⊥) → ⊥
copy_wants found TreeFault.NotHere may refused other = refused may
copy_wants found TreeFault.TooDeep may refused other = absurd refused
copy_wants found TreeFault.TooLarge may refused other = absurd refused
copy_wants found TreeFault.SlotsUsedUp may refused other = absurd refused
copy_wants found TreeFault.OutOfMemory may refused other = other refl

-- a copy of the node that stands there is that node, whole and without room
pub copied_node : ((fragment : PlainFragment) → whole_fragment (roomless_fragment fragment) ≡ roomless_fragment (whole_fragment fragment))
    → (found : Option PlainNode) (copy : PlainNode) → IsSomeAnd found (λ node. IsCopy node copy)
    → Some (PlainFragment.node (roomless_node copy)) ≡ option_map whole_fragment (option_map PlainFragment.node (option_map roomless_node found))
copied_node whole None copy is = absurd is
copied_node whole (Some node) copy is = ap (λ f. Some f) (ap PlainFragment.node is ∙ sym (whole (PlainFragment.node node)))

-- what is whole stays so
pub whole_twice : ((fragment : PlainFragment) → whole_fragment (whole_fragment fragment) ≡ whole_fragment fragment)
    → (there : Option PlainFragment) → option_map whole_fragment (option_map whole_fragment there) ≡ option_map whole_fragment there
whole_twice once None = refl
whole_twice once (Some fragment) = ap (λ f. Some f) (once fragment)

-- what stands there is the node that was given out
pub fragment_given : (tree : PlainTree) (stop : PlainStop) (node : PlainNode) → stop.part ≡ None
    → Some node ≡ node_at tree.items stop.path → fragment_there tree stop stop.part ≡ Some (PlainFragment.node node)
fragment_given tree stop node is there =
    ap (fragment_there tree stop) is ∙ ap (option_map PlainFragment.node) (sym there)

-- a node that can be taken out stands there
pub node_there : (tree : PlainTree) (stop : PlainStop) → stop.part ≡ None → takes_at tree stop ≡ true → None ≡ node_at tree.items stop.path → ⊥
unfolding takes_at
node_there tree stop node takes none =
    absurd (let gone = ap (λ (found : Option PlainNode). option_map_or (can_take stop.part) found false) none ∙ takes in cc)

-- a phrase that can be taken out stands there
phrase_in : (part : ℕ) (found : Option PlainNode) → option_map_or (can_take (Some part)) found false ≡ true
    → None ≡ option_and_then (λ node. option_and_then (λ part. part_at node.label.parts part) (cursor_part node.label.kind (Some part))) found → ⊥
phrase_in part None takes none = absurd (cc)
phrase_in part (Some node) takes none = absurd (let gone = ap (λ (phrase : Option PlainPhrase). is_some phrase) none ∙ takes in cc)

phrase_at_part : (tree : PlainTree) (stop : PlainStop) (part : Option ℕ) → IsSome part
    → option_map_or (can_take part) (node_at tree.items stop.path) false ≡ true
    → None ≡ option_and_then (λ node. option_and_then (λ part. part_at node.label.parts part) (cursor_part node.label.kind part))
    (node_at tree.items stop.path) → ⊥
phrase_at_part tree stop None some takes none = absurd (let gone : false ≡ true = some in cc)
phrase_at_part tree stop (Some part) some takes none = phrase_in part (node_at tree.items stop.path) takes none

pub phrase_there : (tree : PlainTree) (stop : PlainStop) → IsSome stop.part → takes_at tree stop ≡ true
    → None ≡ cursor_phrase tree stop → ⊥
unfolding takes_at cursor_phrase
phrase_there tree stop some takes none = phrase_at_part tree stop stop.part some takes none

-- where a fragment is missing, so is its node or phrase
no_node : (found : Option PlainNode) → None ≡ option_map PlainFragment.node found → None ≡ found
no_node None missing = refl
no_node (Some node) missing = absurd (cc)

no_phrase : (found : Option PlainPhrase) → None ≡ option_map PlainFragment.phrase found → None ≡ found
no_phrase None missing = refl
no_phrase (Some phrase) missing = absurd (cc)

fragment_by : (tree : PlainTree) (stop : PlainStop) (part : Option ℕ) → stop.part ≡ part → takes_at tree stop ≡ true
    → None ≡ fragment_there tree stop part → ⊥
fragment_by tree stop None is takes none = node_there tree stop is takes (no_node (node_at tree.items stop.path) none)
fragment_by tree stop (Some part) is takes none =
    phrase_there tree stop (subst (λ (p : Option ℕ). IsSome p) (sym is) refl) takes (no_phrase (cursor_phrase tree stop) none)

-- a fragment that can be taken out stands there
pub fragment_stands : (tree : PlainTree) (stop : PlainStop) → takes_at tree stop ≡ true
    → None ≡ fragment_there tree stop stop.part → ⊥
fragment_stands tree stop takes none = fragment_by tree stop stop.part refl takes none
