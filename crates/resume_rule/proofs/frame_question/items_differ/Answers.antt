use Rattle.std.proofs.Common.{sym, subst, length}
use Rattle.std.specs.Prelude.{◌≤◌, List}
use Rattle.plcs_base.specs.declared.declared.Declared.{Declared}
use Rattle.template_tree.specs.Programs.Limit.{most_cells}
use Rattle.resume_rule.proofs.FewItems.{few_items}
use Rattle.resume_rule.proofs.frame_question.items_differ.Goals as goal

pub has_items-requires : goal.has_items-requires
has_items-requires c =
    record {
      few =
          subst (λ (items : List Declared). length items ≤ most_cells) (sym (c.requires.decls.items_are c.args.frame.now.procedure.0))
          (few_items c.items_keep_limits.ensures c.args.tree.now.items c.args.frame.now.procedure.0);
    }
