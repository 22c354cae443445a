-- Whether an edit changed a declaration, by what it did.
use Rattle.std.proofs.Common.{◌≡◌, Bool, true, false, Option, refl, sym, ◌∙◌, true≢false}
use Rattle.std.specs.Prelude.{not, ◌&&◌, ◌||◌}
use Rattle.template_tree.specs.declared.change.What.{What}
use Rattle.template_tree.specs.Programs.PlainTree.{PlainNode}
use Rattle.code_patch.specs.CodeForest.{PlainCodeNode}
use Rattle.code_patch.specs.Private.KeptPaths.{changes_declaration, kept_declares, node_declares}
use Rattle.code_patch.specs.Private.NearCode.{is_added, is_dropped}

pub of_added : (what : What) (before : Option PlainCodeNode) (after : Option PlainNode) → is_added what ≡ true
    → changes_declaration what before after ≡ node_declares after
of_added What.Node before after is = absurd (true≢false (sym is))
of_added (What.Part part) before after is = absurd (true≢false (sym is))
of_added What.Added before after is = refl
of_added What.Dropped before after is = absurd (true≢false (sym is))

pub of_dropped : (what : What) (before : Option PlainCodeNode) (after : Option PlainNode) → is_dropped what ≡ true
    → changes_declaration what before after ≡ kept_declares before
of_dropped What.Node before after is = absurd (true≢false (sym is))
of_dropped (What.Part part) before after is = absurd (true≢false (sym is))
of_dropped What.Added before after is = absurd (true≢false (sym is))
of_dropped What.Dropped before after is = either (kept_declares before)
  where
    either : (b : Bool) → ((true && b) || (false && node_declares after)) ≡ b
    either true = refl
    either false = refl

pub of_kept : (what : What) (before : Option PlainCodeNode) (after : Option PlainNode) → is_added what ≡ false → kept_declares before ≡ true
    → changes_declaration what before after ≡ true
of_kept what before after other does = (λ i. (not (other i) && does i) || (not (is_dropped what) && node_declares after))

pub of_both : (what : What) (before : Option PlainCodeNode) (after : Option PlainNode) → is_dropped what ≡ false → kept_declares before ≡ false
    → changes_declaration what before after ≡ node_declares after
of_both what before after other none =
    (λ i. (not (is_added what) && none i) || (not (other i) && node_declares after)) ∙ nothing (not (is_added what))
  where
    nothing : (b : Bool) → ((b && false) || (true && node_declares after)) ≡ node_declares after
    nothing true = refl
    nothing false = refl
