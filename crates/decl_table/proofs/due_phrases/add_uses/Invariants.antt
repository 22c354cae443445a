use Rattle.std.specs.Prelude.{◌≡◌, ◌++◌, drop, flat_map}
use Rattle.decl_table.specs.Private.DuePlaces.{uses_now}
use Rattle.decl_table.proofs.due_phrases.add_uses.Given as goal

abbrev pub invariant-loop-name : goal.invariant-loop-name
invariant-loop-name l =
    l.places ++ flat_map (uses_now l.before.uses l.changed.uses) (drop l.name-index l.names)
    ≡ l.fn.places ++ flat_map (uses_now l.before.uses l.changed.uses) l.names
