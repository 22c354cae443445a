use Rattle.code_patch.specs.Private.LocatedView.{plain_located}
use Rattle.code_patch.proofs.StepNumbers.{address_passed}
use Rattle.code_patch.proofs.located.Located.address.Goals as goal

pub returns-in-Some : goal.returns-in-Some
returns-in-Some g c = address_passed (plain_located c.args.self.now) c.args.point.0 c.in-Some.address c.in-Some.ensures
