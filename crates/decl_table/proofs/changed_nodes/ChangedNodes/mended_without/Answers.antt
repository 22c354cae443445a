use Rattle.std.specs.Option.{option_copied}
use Rattle.std.specs.Prelude.{ℕ, List}
use Rattle.decl_table.specs.Private.UsesMended.{AreUsesMended}
use Rattle.decl_table.specs.Private.UsesView.{IsNameMended}
use Rattle.decl_table.proofs.OkAnswers.{ok_then}
use Rattle.decl_table.proofs.changed_nodes.ChangedNodes.mended_without.Goals as goal

pub mended-uses-requires-clause-went : goal.mended-uses-requires-clause-went
mended-uses-requires-clause-went c = λ name. (c.requires.went name).increasing

pub mended-uses-requires-clause-came : goal.mended-uses-requires-clause-came
mended-uses-requires-clause-came c = λ name. (c.in-Ok.ensures name).increasing

pub returns : goal.returns
returns c =
    let nodes = c.args.self.now in
    ok_then c.mended-uses.result
    (λ mended. (name : List ℕ) → IsNameMended c.args.before.now.uses c.args.went.now.uses c.in-Ok.came.uses mended.uses name)
    (λ mended. AreUsesMended nodes.part (option_copied nodes.old) (option_copied nodes.new) c.args.before.now.uses mended.uses)
    (λ mended each.
    record {
      gone = c.args.went.now.uses;
      came = c.in-Ok.came.uses;
      gone_is = c.requires.went;
      came_is = c.in-Ok.ensures;
      each = each;
    })
    c.mended-uses.ensures
