use Rattle.std.specs.Prelude.{Option}
use Rattle.std.specs.Option.{option_and_then}
use Rattle.std.proofs.Common.{arith, ap, sym, ◌∙◌}
use Rattle.template_tree.specs.Positions.Place.{place_at}
use Rattle.code_patch.specs.Private.LocatedNode.{PlainLocated, own_address}
use Rattle.code_patch.proofs.KeptAddresses.{addresses_located}
use Rattle.code_patch.proofs.code_tree.CodeTreeCodeView.address.Goals as goal

pub address-requires : goal.address-requires
address-requires g c = omega (arith, c.in-Some.ensures.short)

pub returns-in-Some : goal.returns-in-Some
returns-in-Some g c =
    c.address.ensures
    ∙ ap (λ (o : Option PlainLocated). option_and_then (λ found. own_address found c.args.place.point.0) o) c.in-Some.ensures.found
    ∙ sym (addresses_located (place_at c.args.place.slot.0 c.args.place.point.0) c.args.self.now.items c.in-Some.ensures.sound)

pub returns-in-None : goal.returns-in-None
returns-in-None g c =
    ap (λ (o : Option PlainLocated). option_and_then (λ found. own_address found c.args.place.point.0) o) c.in-None.ensures.found
    ∙ sym (addresses_located (place_at c.args.place.slot.0 c.args.place.point.0) c.args.self.now.items c.in-None.ensures.sound)
