-- As many verdicts are made of a program as it has phrases, and room plays no part in that.
use Rattle.std.proofs.Common.{◌≡◌, ◌+◌, ℕ, suc, List, [], ◌∷◌, ◌++◌, length, Option, Some, None, refl, sym, ap, arith, subst, ◌∙◌}
use Rattle.std.proofs.lemmas.List.{length-append}
use Rattle.plcs_base.specs.PlainCounts.{ChecksAtMost, PlainCounts}
use Rattle.plcs_grammar.specs.PlainPhrase.{PlainPhrase}
use Rattle.template_tree.specs.Checks.Marks.{node_verdicts, part_verdicts, procedure_verdicts, surroundings}
use Rattle.template_tree.specs.Programs.PlainTree.{Forest, PlainNode, PlainTree, roomless, roomless_tree}
use Rattle.template_tree.specs.Checks.Verdict.{Surroundings}
use Rattle.synth_session.specs.CheckedPhrases.{filled_parts, phrase_count, phrases_in}

-- one more
one_more : (n : ℕ) → suc n ≡ 1 + n
one_more n = omega arith

-- a verdict for each part that is filled
part_verdicts_counted : (s : Surroundings) (slot part : ℕ) (parts : List (Option PlainPhrase))
    → length (part_verdicts s slot part parts) ≡ filled_parts parts
part_verdicts_counted s slot part [] = refl
part_verdicts_counted s slot part (None ∷ parts) = part_verdicts_counted s slot (part + 1) parts
part_verdicts_counted s slot part (Some phrase ∷ parts) =
    ap suc (part_verdicts_counted s slot (part + 1) parts) ∙ one_more (filled_parts parts)

-- so for nodes
node_verdicts_counted : (program : Forest) (procedure : PlainNode) (items : Forest)
    → length (node_verdicts program procedure items) ≡ phrases_in items
node_verdicts_counted program procedure Forest.nil = refl
node_verdicts_counted program procedure (Forest.cons label inner rest) =
    let s = surroundings program procedure label.slot in
    let own = part_verdicts s label.slot 0 label.parts in
    let inside = node_verdicts program procedure inner in
    let others = node_verdicts program procedure rest in
    length-append own (inside ++ others)
    ∙ ap (λ n. n + length (inside ++ others)) (part_verdicts_counted s label.slot 0 label.parts)
    ∙ ap (λ n. filled_parts label.parts + n)
    (length-append inside others
    ∙ ap (λ n. n + length others) (node_verdicts_counted program procedure inner)
    ∙ ap (λ n. phrases_in inner + n) (node_verdicts_counted program procedure rest))

-- the sum that a program's first item gives
joined : (own inside others : ℕ) → own + (inside + 0) + others ≡ own + (inside + others)
joined own inside others = omega arith

-- and for main and procedures
procedure_verdicts_counted : (program items : Forest) → length (procedure_verdicts program items) ≡ phrases_in items
procedure_verdicts_counted program Forest.nil = refl
procedure_verdicts_counted program (Forest.cons label inner rest) =
    let own = node_verdicts program record { label = label; inner = inner } (Forest.cons label inner Forest.nil) in
    length-append own (procedure_verdicts program rest)
    ∙ ap (λ n. n + length (procedure_verdicts program rest))
    (node_verdicts_counted program record { label = label; inner = inner } (Forest.cons label inner Forest.nil))
    ∙ ap (λ n. phrases_in (Forest.cons label inner Forest.nil) + n) (procedure_verdicts_counted program rest)
    ∙ joined (filled_parts label.parts) (phrases_in inner) (phrases_in rest)

-- as many phrases without room
roomless_phrases : (items : Forest) → phrases_in (roomless items) ≡ phrases_in items
roomless_phrases Forest.nil = refl
roomless_phrases (Forest.cons label inner rest) =
    ap (λ n. filled_parts label.parts + (n + phrases_in (roomless rest))) (roomless_phrases inner)
    ∙ ap (λ n. filled_parts label.parts + (phrases_in inner + n)) (roomless_phrases rest)

-- what checks each verdict once at most checks each phrase once at most
pub checks_phrases : (tree : PlainTree) (before now : PlainCounts)
    → ChecksAtMost (length (procedure_verdicts tree.items tree.items)) before now
    → ChecksAtMost (phrase_count (roomless_tree tree)) before now
unfolding phrase_count
checks_phrases tree before now checks =
    subst (λ n. ChecksAtMost n before now)
    (procedure_verdicts_counted tree.items tree.items ∙ sym (roomless_phrases tree.items)) checks
