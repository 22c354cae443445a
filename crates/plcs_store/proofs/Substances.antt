-- The substance of a program: what is read of its procedures and sites is read of that, since neither has room or
-- elision in it.
use Rattle.std.specs.Prelude.{◌≡◌, refl, ℕ, ◌==◌, Bool, true, false, if◌then◌else◌, List, [], ◌++◌, Option, Some, option_map}
use Rattle.std.proofs.Common.{ap, sym, ◌∙◌}
use Rattle.plcs_base.specs.declared.declared.Declared.{Declared}
use Rattle.template_tree.specs.Checks.Environment.{all_declared, declares, effective, items_inside, procedure_at}
use Rattle.template_tree.specs.Positions.Place.{PlainPlace, begin, begins_run, passes_in, place_at}
use Rattle.template_tree.specs.Programs.PlainTree.{Forest, PlainNode, roomless}
use Rattle.template_tree.specs.Programs.Program.{sort_of}
use Rattle.tree_steps.specs.EditStep.{substance}

pub substance_roomless : (items : Forest) → substance (roomless items) ≡ substance items
substance_roomless Forest.nil = refl
substance_roomless (Forest.cons label inner rest) =
    λ i. Forest.cons (record label { elided = false; spare = 0 }) (substance_roomless inner i) (substance_roomless rest i)

-- ---- what is declared, and where a run begins

declared_same : (items : Forest) → all_declared (substance items) ≡ all_declared items
declared_same Forest.nil = refl
declared_same (Forest.cons label inner rest) = ap (λ (z : List Declared). declares label ++ z) (declared_same rest)

pub inside_same : (inner : Forest) → items_inside (substance inner) ≡ items_inside inner
inside_same inner = ap (effective []) (declared_same inner)

pub begin_same : (items : Forest) (behind : PlainPlace) → begin (substance items) behind ≡ begin items behind
begin_same Forest.nil behind = refl
begin_same (Forest.cons label inner rest) behind =
    λ i. if begins_run (sort_of label.kind)
    then (if passes_in label.kind then begin_same inner behind i else place_at label.slot 0)
    else begin_same rest behind i

-- ---- procedures

abbrev pub node_substance : PlainNode → PlainNode
node_substance node = record { label = record node.label { elided = false; spare = 0 }; inner = substance node.inner }

found_if : (b : Bool) (node : PlainNode) (one other : Option PlainNode) → one ≡ option_map node_substance other
    → (if b then Some (node_substance node) else one) ≡ option_map node_substance (if b then Some node else other)
found_if true node one other same = refl
found_if false node one other same = same

procedure_same : (program : Forest) (slot : ℕ) → procedure_at (substance program) slot ≡ option_map node_substance (procedure_at program slot)
procedure_same Forest.nil slot = refl
procedure_same (Forest.cons label inner rest) slot =
    found_if (label.slot == slot) record { label = label; inner = inner } (procedure_at (substance rest) slot) (procedure_at rest slot)
    (procedure_same rest slot)

-- what is seen of a procedure's substance as of itself is seen alike in programs of the same substance
pub procedures_seen : {A : Type 0} (see : Option PlainNode → A)
    → ((found : Option PlainNode) → see (option_map node_substance found) ≡ see found)
    → (one other : Forest) → substance one ≡ substance other → (slot : ℕ) → see (procedure_at one slot) ≡ see (procedure_at other slot)
procedures_seen see same one other e slot =
    sym (same (procedure_at one slot))
    ∙ (ap see (sym (procedure_same one slot) ∙ (ap (λ (items : Forest). procedure_at items slot) e ∙ procedure_same other slot))
    ∙ same (procedure_at other slot))
