-- Fragments as plain data.
use Rattle.std.specs.Prelude.{ℕ, ◌+◌}
use Rattle.plcs_grammar.specs.PlainPhrase.{PlainPhrase, category_of}
use Rattle.plcs_grammar.specs.PlainPhrase.{plain_phrase}
use Rattle.template_tree.specs.Programs.PlainTree.{PlainNode, roomless_node}
use Rattle.template_tree.specs.Edits.Copy.{whole_node}
use Rattle.template_tree.specs.Programs.Program.{IsPartPhrase, IsSubtree}
use Rattle.template_tree.specs.Programs.Slots.{count}
use Rattle.clip_store.specs.declared.fragment.Fragment.{Fragment}

-- a fragment: a node with what stands inside it, or a phrase
pub data PlainFragment : Type 0 where
  node : PlainNode → PlainFragment
  phrase : PlainPhrase → PlainFragment

-- the plain form of a fragment
abbrev pub plain_fragment : Fragment → PlainFragment
plain_fragment (Fragment.Node n) = PlainFragment.node n
plain_fragment (Fragment.Phrase p) = PlainFragment.phrase (plain_phrase p)

-- a fragment without the room of its lists
abbrev pub roomless_fragment : PlainFragment → PlainFragment
roomless_fragment (PlainFragment.node n) = PlainFragment.node (roomless_node n)
roomless_fragment (PlainFragment.phrase p) = PlainFragment.phrase p

-- a fragment in which nothing is elided; in a phrase nothing ever is
abbrev pub whole_fragment : PlainFragment → PlainFragment
whole_fragment (PlainFragment.node n) = PlainFragment.node (whole_node n)
whole_fragment (PlainFragment.phrase p) = PlainFragment.phrase p

-- a fragment as plain data, as a clip keeps it: without the room of its lists, and with nothing elided
abbrev pub kept_fragment : PlainFragment → PlainFragment
kept_fragment fragment = whole_fragment (roomless_fragment fragment)

-- how many slots a fragment as plain data counts as: those of its nodes, and one for a phrase
abbrev pub slots_of : PlainFragment → ℕ
slots_of (PlainFragment.node n) = count n.inner + 1
slots_of (PlainFragment.phrase p) = 1

-- a fragment that may come into a program: a part of one, or a phrase that may stand in a part of its category
abbrev pub IsFragment : PlainFragment → Type 0
IsFragment (PlainFragment.node n) = IsSubtree n
IsFragment (PlainFragment.phrase p) = IsPartPhrase (category_of p) p
