-- `procedure_node`: main and the procedures, gone through one after the other.
use Rattle.std.specs.Prelude.{◌≡◌, ℕ, ◌+◌, ◌==◌, Bool, false, if◌then◌else◌, List, drop, slice_get, Option, Some, None}
use Rattle.std.proofs.Common.{ap, ◌∙◌}
use Rattle.std.proofs.lemmas.Bool.{eq-eqb}
use Rattle.plcs_base.specs.ListLeft.{left_from, none_left}
use Rattle.template_tree.specs.Checks.Environment.{procedure_at}
use Rattle.template_tree.specs.Programs.PlainTree.{Forest, PlainNode, forest, nodes}

next_procedure : (items : Forest) (k : ℕ) (node : PlainNode) (slot : ℕ) → slice_get (nodes items) k ≡ Some node
    → procedure_at (forest (drop k (nodes items))) slot
    ≡ (if node.label.slot == slot then Some node else procedure_at (forest (drop (k + 1) (nodes items))) slot)
next_procedure items k node slot there =
    ap (λ (rest : List PlainNode). procedure_at (forest rest) slot) (left_from (nodes items) k node there)

pub found_procedure : (items : Forest) (k : ℕ) (node : PlainNode) (slot : ℕ) → slice_get (nodes items) k ≡ Some node → node.label.slot ≡ slot
    → procedure_at (forest (drop k (nodes items))) slot ≡ Some node
found_procedure items k node slot there same =
    next_procedure items k node slot there
    ∙ ap (λ (b : Bool). let o : Option PlainNode = if b then Some node else procedure_at (forest (drop (k + 1) (nodes items))) slot in o)
    (eq-eqb node.label.slot slot same)

pub later_procedure : (items : Forest) (k : ℕ) (node : PlainNode) (slot : ℕ) → slice_get (nodes items) k ≡ Some node
    → (node.label.slot == slot) ≡ false
    → procedure_at (forest (drop k (nodes items))) slot ≡ procedure_at (forest (drop (k + 1) (nodes items))) slot
later_procedure items k node slot there other =
    next_procedure items k node slot there
    ∙ ap (λ (b : Bool). let o : Option PlainNode = if b then Some node else procedure_at (forest (drop (k + 1) (nodes items))) slot in o) other

pub no_procedure : (items : Forest) (k slot : ℕ) → slice_get (nodes items) k ≡ None → procedure_at (forest (drop k (nodes items))) slot ≡ None
no_procedure items k slot none =
    ap (λ (rest : List PlainNode). procedure_at (forest rest) slot) (none_left (nodes items) k none)
