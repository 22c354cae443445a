use Rattle.std.specs.Prelude.{Bool, false, Option, option_map, unwrap_or}
use Rattle.std.proofs.Common.{ap, ◌∙◌}
use Rattle.unparse_layout.specs.Private.PlainNodeLayout.{PlainNodeLayout}
use Rattle.unparse_layout.proofs.node_layout.NodeLayout.is_led.Goals as goal

abbrev led_of : Option PlainNodeLayout → Bool
led_of o = unwrap_or (option_map (λ item. item.bone.led) o) false

pub returns-in_default : goal.returns-in_default
returns-in_default c = ap led_of c.in_default.ensures

pub returns : goal.returns
returns c = ap (λ (o : PlainNodeLayout). o.bone.led) c.node_layout.view_is ∙ ap led_of c.in-Some.ensures
