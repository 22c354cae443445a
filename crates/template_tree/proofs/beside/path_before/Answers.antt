use Rattle.std.specs.Prelude.{◌≡◌, ◌-◌, ℕ, zero, suc, pred, refl}
use Rattle.std.proofs.Common.{arith, sym, ◌∙◌}
use Rattle.template_tree.proofs.Lists.BesidePaths.{other_last}
use Rattle.template_tree.proofs.beside.path_before.Goals as goal

less_one : (n : ℕ) → n - 1 ≡ pred n
less_one zero = refl
less_one (suc n) = omega arith

pub returns-in-Some : goal.returns-in-Some
returns-in-Some c =
    other_last pred c.pop.new.self.items c.args.path.now.items c.push.new.self.items c.in-Some.last _
    (sym c.copy_path-before.ensures ∙ c.in-Some.ensures.items) c.push.ensures.items (c.saturating_sub.ensures ∙ less_one c.in-Some.last)
