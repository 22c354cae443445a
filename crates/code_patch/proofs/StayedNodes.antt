-- The nodes that stay at an edit: all in which something stays, but for the node at the path of the edit.
use Rattle.std.proofs.Common.{◌≡◌, ℕ, zero, suc, ◌≤◌, List, [], ◌∷◌, Some, refl, subst, arith}
use Rattle.plcs_base.specs.Mark.{MarkMap}
use Rattle.plcs_base.specs.Scope.{ItemMap}
use Rattle.template_tree.specs.Edits.Edit.{edit_below, give_way}
use Rattle.template_tree.specs.Positions.Path.{node_at}
use Rattle.template_tree.specs.Programs.PlainTree.{Forest, Label, PlainNode}
use Rattle.template_tree.specs.Programs.Slots.{times}
use Rattle.code_patch.specs.Private.NearCode.{PlainPlan}
use Rattle.code_patch.proofs.NearPaths.{AllStay, LabelStays, StayAlong, StayBut}
use Rattle.code_patch.proofs.SlotNodes.{once_here}

module _ (plan : PlainPlan) (marks : MarkMap) (items : ItemMap) where
  -- labels whose slots stand among nodes stay
  abbrev pub LiveStay : Forest → Type 0
  LiveStay nodes = (label : Label) → 1 ≤ times label.slot nodes → LabelStays plan marks items plan.everywhere label

  pub all_from : (nodes : Forest) → LiveStay nodes → AllStay plan marks items plan.everywhere nodes
  all_from Forest.nil stay = tt
  all_from (Forest.cons label inner rest) stay = (
    stay label (omega (arith, once_here label.slot label.slot refl)),
    all_from inner (λ other live. stay other (omega (arith, live))),
    all_from rest (λ other live. stay other (omega (arith, live))),
  )

  -- all but the node at the path, where those whose slots stand without it do
  pub stays_but : (It : PlainNode → Type 0) (path : List ℕ) (k : ℕ) (program : Forest) (node : PlainNode)
      → node_at program (k ∷ path) ≡ Some node → It node
      → LiveStay (give_way (edit_below (λ other. []) path) k program)
      → StayBut plan marks items (StayAlong plan marks items It path) k program
  stays_but It path zero Forest.nil node there is stay = absurd (cc)
  stays_but It path (suc k) Forest.nil node there is stay = absurd (cc)
  stays_but It [] zero (Forest.cons label inner rest) node there is stay =
      let same : node ≡ record { label = label; inner = inner } = cc in
      (subst It same is, all_from rest stay)
  stays_but It (j ∷ path) zero (Forest.cons label inner rest) node there is stay =
      let inside : node_at inner (j ∷ path) ≡ Some node = there in (
        (
          stay label (omega (arith, once_here label.slot label.slot refl)),
          stays_but It path j inner node inside is (λ other live. stay other (omega (arith, live))),
        ),
        all_from rest (λ other live. stay other (omega (arith, live))),
      )
  stays_but It path (suc k) (Forest.cons label inner rest) node there is stay =
      let behind : node_at rest (k ∷ path) ≡ Some node = there in (
        stay label (omega (arith, once_here label.slot label.slot refl)),
        all_from inner (λ other live. stay other (omega (arith, live))),
        stays_but It path k rest node behind is (λ other live. stay other (omega (arith, live))),
      )
