use Rattle.std.proofs.Common.{◌≡◌, subst}
use Rattle.std.specs.Prelude.{nat_eq}
use Rattle.std.specs.FinMap.{from_entries, insert, nat_cmp-IsAntisymmetric}
use Rattle.std.proofs.lemmas.Cmp.{nat_cmp_total}
use Rattle.plcs_code.specs.Gen.{SpanMap}
use Rattle.plcs_code.proofs.CodeMaps.{put}
use Rattle.plcs_code.proofs.KeyOrder.{nat_ties}
use Rattle.plcs_code.proofs.spans.Spans.put.Goals as goal

pub returns : goal.returns
returns c =
    subst (λ (m : SpanMap). from_entries c.insert.new.self.entries ≡ insert m c.args.slot.0 (c.args.start, c.args.length)) c.self.view_is
    (put nat_cmp_total nat_cmp-IsAntisymmetric nat_eq nat_ties c.args.slot.0 (c.args.start, c.args.length) c.self.inside.spans.entries
    c.insert.new.self.entries (λ q. c.in-Ok.ensures.updates.0 q))
