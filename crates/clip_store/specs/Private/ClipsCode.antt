-- How clips are told apart.
use Rattle.std.specs.Prelude.{◌≡◌, ◌⊎◌, ℕ, List, refl}
use Rattle.std.proofs.Common.{inl, inr}
use Rattle.std.specs.Coded.{Coded, code_by, coded×, coded⊎, coded_ℕ, coded_list}
use Rattle.plcs_grammar.specs.PlainPhrase.{PlainPhrase}
use Rattle.template_tree.specs.Programs.PlainTree.{PlainNode}
use Rattle.template_tree.specs.contracts.node.Node as node_row
use Rattle.plcs_grammar.specs.Private.PhraseCode.{phrase_code}
use Rattle.clip_store.specs.PlainFragment.{PlainFragment}
use Rattle.clip_store.specs.PlainClips.{Pair, PlainClips}

-- a fragment of clips that are told apart, as the one or the other of its two cases
abbrev pub case_of : PlainFragment → PlainNode ⊎ PlainPhrase
case_of (PlainFragment.node n) = inl n
case_of (PlainFragment.phrase p) = inr p

-- the fragment of clips that is told apart by this case, the one or the other of two
abbrev pub fragment_of : PlainNode ⊎ PlainPhrase → PlainFragment
fragment_of (inl n) = PlainFragment.node n
fragment_of (inr p) = PlainFragment.phrase p

-- a fragment of clips that are told apart is given back by its case
pub fragment_back : (fragment : PlainFragment) → fragment_of (case_of fragment) ≡ fragment
fragment_back (PlainFragment.node n) = refl
fragment_back (PlainFragment.phrase p) = refl

-- fragments of clips are told apart by their cases
abbrev pub fragment_code : Coded PlainFragment
fragment_code =
    code_by (PlainNode ⊎ PlainPhrase) (coded⊎ node_row.the_row.coded phrase_code) case_of fragment_of fragment_back

-- clips are told apart by their pairs and their room
abbrev pub clips_code : Coded PlainClips
clips_code =
    code_by (List Pair × ℕ) (coded× (coded_list (coded× (coded_list coded_ℕ) fragment_code)) coded_ℕ)
    (λ clips. (clips.pairs, clips.spare)) (λ t. record { pairs = t.0; spare = t.1 }) (λ _. refl)
