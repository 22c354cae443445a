use Rattle.std.proofs.Common.{◌+◌, sym, subst, refl}
use Rattle.indexmap.specs.IndexMap.{set_value_at}
use Rattle.decl_table.specs.Private.UsesView.{IsSettling, RoomyUses}
use Rattle.decl_table.proofs.SettledUses.{settling_next, settling_past}
use Rattle.decl_table.proofs.uses.Uses.settle_at.Goals as goal
use Rattle.decl_table.proofs.uses.Uses.settle_at.Goals.{in-Some, in_default}

pub returns : goal.returns
returns c =
    let now = c.self.inside.places.entries in
    λ first settling.
    let was = subst (λ (all : RoomyUses). IsSettling c.args.k first all.uses) (sym c.self.view_is) settling in
    elim c.match-get_index_mut.branch [
      | in-Some w ↦ subst (λ a. IsSettling (c.args.k + 1) first a.places.entries) (sym w.self-inside-is)
          (settling_next c.args.k first now (set_value_at now c.args.k w.settle.new.self) w.in-Some.places.now w.settle.new.self
          (sym w.in-Some.ensures.value) w.settle.ensures refl was)
      | in_default w ↦ subst (λ a. IsSettling (c.args.k + 1) first a.places.entries) (sym w.self-inside-is)
          (settling_past c.args.k first now (sym w.in_default.ensures.value) was)
    ]
