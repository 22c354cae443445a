use Rattle.std.proofs.Common.{◌∙◌, option_map, slice_get, length, sym, ap, arith, true≢false}
use Rattle.std.specs.Map.{keys_of}
use Rattle.std.proofs.lemmas.Option.{slice_get-map}
use Rattle.decl_table.specs.Private.UsesView.{RoomyUses}
use Rattle.decl_table.proofs.uses.Uses.name.Goals as goal

pub unreachable-requires : goal.unreachable-requires
unreachable-requires c =
    true≢false (sym (c.in-None.ensures.found.1 (omega (arith, c.requires.there, ap (λ (all : RoomyUses). length all.uses) c.self.view_is))))

pub returns : goal.returns
returns c =
    ap (λ (all : RoomyUses). slice_get (keys_of all.uses) c.args.k) (sym c.self.view_is)
    ∙ slice_get-map (λ entry. entry.0) c.self.inside.places.entries c.args.k
    ∙ ap (option_map (λ entry. entry.0)) (sym c.in-Some.ensures.entry)
