use Rattle.std.proofs.Common.{subst, sym, ◌∙◌}
use Rattle.template_tree.specs.Programs.PlainTree.{roomless_tree}
use Rattle.code_patch.specs.CodeEdit.{PlainCodeTree}
use Rattle.synth_session.specs.SessionView.{IsCodeFor}
use Rattle.synth_session.proofs.program.Dependents.commit.Goals as goal

pub commit-requires : goal.commit-requires
commit-requires g c = record { ready = c.requires.1.layout.ready }

pub commit-requires-2 : goal.commit-requires-2
commit-requires-2 g c = record { ready = c.requires.1.checks.decls_ready }

pub commit-requires-3 : goal.commit-requires-3
commit-requires-3 g c = record { room = c.requires.1.checks.marks_ready }

pub commit-requires-4 : goal.commit-requires-4
commit-requires-4 g c = record { ready = c.requires.1.code.ready }

pub returns-clause-depend : goal.returns-clause-depend
returns-clause-depend g c =
    λ tree can. record {
      layout = c.commit.ensures ∙ can.layout.becomes;
      decls =
          c.put_in_place_agrees.ensures c.args.decls c.args.self.now.decls c.commit-2.new.self tree.items can.checks.decls_become
          c.commit-2.ensures;
      marks = c.commit-3.ensures ∙ can.checks.marks_become;
    }

pub returns-clause-code : goal.returns-clause-code
returns-clause-code g c =
    λ tree can. subst (λ (x : PlainCodeTree). IsCodeFor x (roomless_tree tree)) (sym c.commit-4.ensures) can.code.becomes
