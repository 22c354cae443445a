-- Making room changes nothing of what a table of declarations tells.
use Rattle.std.proofs.Common.{◌≡◌, ◌∙◌, ap, subst}
use Rattle.plcs_base.specs.Scope.{ItemMap}
use Rattle.template_tree.specs.Checks.Environment.{Sig}
use Rattle.template_tree.specs.Checks.Mention.{AreUses}
use Rattle.template_tree.specs.Checks.ProgramMaps.{ScopeTells}
use Rattle.template_tree.specs.Programs.PlainTree.{Forest}
use Rattle.std.specs.Prelude.{option_map}
use Rattle.decl_table.specs.DeclEdit.{IsDeclsAfter, PlainDeclEdit, heading_after, items_after, names_after, uses_after}
use Rattle.decl_table.specs.Names.{NameForest, names_of}
use Rattle.decl_table.specs.PlainDecls.{PlainDecls, PlainHeadings, PlainUses, no_room, roomless_decls}

-- a table of these
abbrev pub tabled : ItemMap → PlainHeadings → PlainUses → NameForest → PlainDecls
tabled items headings uses names = record { items = items; headings = headings; uses = uses; names = names; spare = no_room }

pub same_tables : (old own : PlainDecls) (items : ItemMap) (headings : PlainHeadings) (uses : PlainUses) → own ≡ old → items ≡ own.items
    → headings ≡ own.headings → uses ≡ own.uses → tabled items headings uses own.names ≡ roomless_decls old
same_tables old own items headings uses is same_items same_headings same_uses =
    ap (λ (m : ItemMap). tabled m headings uses own.names) same_items
    ∙ ap (λ (h : PlainHeadings). tabled own.items h uses own.names) same_headings
    ∙ ap (λ (u : PlainUses). tabled own.items own.headings u own.names) same_uses
    ∙ ap roomless_decls is

pub after_alike : (old new : PlainDecls) (edit : PlainDeclEdit) (program : Forest) → roomless_decls old ≡ roomless_decls new
    → IsDeclsAfter old edit program → IsDeclsAfter new edit program
after_alike old new edit program same is =
    record {
      items_are = subst (λ (d : PlainDecls). ScopeTells (items_after edit d.items) program) same is.items_are;
      headings_are =
          λ name.
          subst (λ (d : PlainDecls). heading_after edit d.headings name ≡ option_map (λ signature. signature.slot) (Sig program name)) same
          (is.headings_are name);
      uses_are = λ name. subst (λ (d : PlainDecls). AreUses name program (uses_after edit d.uses name)) same (is.uses_are name);
      names_are = subst (λ (d : PlainDecls). names_after edit d.names ≡ names_of program) same is.names_are;
    }
