-- What depends on a program is that of every program that differs from it in the room of lists alone, or in which
-- comments are elided; and room of its own plays no part in that.
use Rattle.std.proofs.Common.{◌≡◌, ap, sym, subst, ◌∙◌}
use Rattle.template_tree.specs.Checks.Marks.{Verdicts}
use Rattle.template_tree.specs.Laws.CheckLaws.{ChecksIgnoreRoom}
use Rattle.template_tree.specs.Programs.PlainTree.{Forest, PlainTree, roomless, roomless_tree}
use Rattle.decl_table.specs.Agreement.{IsDeclsOf}
use Rattle.decl_table.specs.DeclLaws.{TablesIgnoreProgramRoom, TablesIgnoreRoom}
use Rattle.decl_table.specs.PlainDecls.{PlainDecls, roomless_decls}
use Rattle.unparse_layout.specs.Agreement.{IsLayoutOf, LayoutsIgnoreRoom}
use Rattle.unparse_layout.specs.Bones.{PlainLayout}
use Rattle.synth_session.specs.declared.program.Dependents.{Dependents}
use Rattle.synth_session.specs.Private.PreparedProgram.{IsSameButRoom}
use Rattle.synth_session.specs.SessionView.{DependOn, IsCodeFor}

pub layout_stays : LayoutsIgnoreRoom → (layout : PlainLayout) (before now : PlainTree) → IsLayoutOf layout before
    → roomless_tree now ≡ roomless_tree before → IsLayoutOf layout now
layout_stays laws layout before now is same =
    (laws layout now).1 (subst (λ t. IsLayoutOf layout t) (sym same) ((laws layout before).0 is))

-- a table that got room is that of the same program
pub table_stays : TablesIgnoreRoom → (old new : PlainDecls) (items : Forest) → IsDeclsOf old items
    → roomless_decls new ≡ roomless_decls old → IsDeclsOf new items
table_stays laws old new items is alike =
    (laws new items).0 (subst (λ (d : PlainDecls). IsDeclsOf d items) (sym alike) ((laws old items).1 is))

-- programs that are the same without room
items_alike : (before now : PlainTree) → roomless_tree now ≡ roomless_tree before → roomless now.items ≡ roomless before.items
items_alike before now same = ap (λ (t : PlainTree). t.items) same

-- programs that are the same without room have the same table of declarations
decls_stay : TablesIgnoreProgramRoom → (decls : PlainDecls) (before now : PlainTree) → IsDeclsOf decls before.items
    → roomless_tree now ≡ roomless_tree before → IsDeclsOf decls now.items
decls_stay laws decls before now is same =
    (laws decls now.items).0
    (subst (λ (f : Forest). IsDeclsOf decls f) (sym (items_alike before now same)) ((laws decls before.items).1 is))

-- and the same verdicts
verdicts_stay : ChecksIgnoreRoom → (before now : PlainTree) → roomless_tree now ≡ roomless_tree before
    → Verdicts before.items ≡ Verdicts now.items
verdicts_stay laws before now same =
    sym (laws before.items).verdicts ∙ ap Verdicts (sym (items_alike before now same)) ∙ (laws now.items).verdicts

-- what depends on a tree is that of every tree that differs from it in room alone, and so where it got room itself
pub dependents_stay : {W : Type 0} → LayoutsIgnoreRoom → ChecksIgnoreRoom → TablesIgnoreRoom → TablesIgnoreProgramRoom
    → (old new : Dependents W) (before now : PlainTree) → DependOn old before → IsSameButRoom old new
    → roomless_tree now ≡ roomless_tree before → DependOn new now
dependents_stay layouts checks tables programs old new before now on alike same =
    record {
      layout =
          subst (λ (l : PlainLayout). IsLayoutOf l now) (sym alike.layout)
          (layout_stays layouts old.layout before now on.layout same);
      decls =
          table_stays tables old.decls new.decls now.items (decls_stay programs old.decls before now on.decls same)
          alike.decls;
      marks = alike.marks ∙ (on.marks ∙ verdicts_stay checks before now same);
    }

-- code that is the same but for room is that of every program that differs in room alone
pub code_stays : {W : Type 0} → (old new : Dependents W) (before now : PlainTree) → IsCodeFor old.code (roomless_tree before)
    → IsSameButRoom old new → roomless_tree now ≡ roomless_tree before → IsCodeFor new.code (roomless_tree now)
code_stays old new before now is alike same =
    subst (λ (t : PlainTree). IsCodeFor new.code t) (sym same)
    (record { keeps = alike.code ∙ is.keeps; tells = alike.told ∙ is.tells })
