-- What an edit in memory that was prepared for a table of declarations is seen as.
use Rattle.std.specs.Prelude.{ℕ, List, Option, refl}
use Rattle.std.specs.Coded.{Coded, code_by, coded×, coded_option, coded_ℕ}
use Rattle.plcs_base.specs.declared.declared.Declared.{Declared}
use Rattle.plcs_base.specs.declared.place.PhraseAt.{PhraseAt}
use Rattle.decl_table.specs.DeclEdit.{PlainDeclEdit, PlainNameEdit}
use Rattle.decl_table.specs.PlainDecls.{PlainDecls, PlainUses}
use Rattle.decl_table.specs.Private.DeclsView.{decls_code}
use Rattle.decl_table.specs.Private.HeadingChangesView.{heading_changes_code}
use Rattle.decl_table.specs.Private.ItemsView.{items_code}
use Rattle.decl_table.specs.Private.ItemChangeView.{plain_item_change}
use Rattle.decl_table.specs.Private.NamesCode.{name_edit_code}
use Rattle.decl_table.specs.Private.UsesView.{mention_list_code, uses_code}
use Rattle.decl_table.specs.declared.preparation.Pieces.{Pieces}

-- what becomes of the effective items of a procedure and of effective headings and uses, and of the names of nodes
abbrev pub Changes : Type 0
Changes =
    Option (ℕ × Option (List Declared)) × (List (List ℕ × Option ℕ) × (PlainUses × PlainNameEdit))

-- the code of what becomes of a table of declarations
abbrev pub changes_code : Coded Changes
changes_code =
    coded× (coded_option (coded× coded_ℕ (coded_option items_code)))
    (coded× heading_changes_code (coded× uses_code name_edit_code))

-- the code of an edit that was prepared for a table of declarations
abbrev pub decl_edit_code : Coded PlainDeclEdit
decl_edit_code =
    code_by (List PhraseAt × (List PhraseAt × (PlainDecls × Changes)))
    (coded× mention_list_code (coded× mention_list_code (coded× decls_code changes_code)))
    (λ e. (e.due, (e.gone, (e.decls, (e.items, (e.headings, (e.uses, e.names)))))))
    (λ t. record {
      due = t.0;
      gone = t.1.0;
      decls = t.1.1.0;
      items = t.1.1.1.0;
      headings = t.1.1.1.1.0;
      uses = t.1.1.1.1.1.0;
      names = t.1.1.1.1.1.1;
    })
    (λ _. refl)

-- the edit of the pieces that were found, with what becomes of the names of nodes
abbrev pub pieces_edit : Pieces → PlainNameEdit → PlainDeclEdit
pieces_edit pieces names = record {
  due = pieces.due;
  gone = pieces.gone;
  decls = pieces.table;
  items = plain_item_change pieces.items pieces.table.items;
  headings = pieces.headings;
  uses = pieces.uses.uses;
  names = names;
}
