-- Edits at the stop of the cursor as plain data.
use Rattle.std.specs.Prelude.{Some}
use Rattle.plcs_grammar.specs.PlainPhrase.{plain_phrase}
use Rattle.plcs_grammar.specs.PlainPhrase.{PlainPhrase}
use Rattle.plcs_grammar.specs.declared.template.Template.{Template}
use Rattle.template_tree.specs.declared.side.Side.{Side}
use Rattle.template_tree.specs.Programs.Part.{IsPhrasePlace}
use Rattle.clip_store.specs.PlainFragment.{PlainFragment, IsFragment, plain_fragment, roomless_fragment}
use Rattle.session_edit.specs.declared.edit.Edit.{Edit}

-- an edit: a template fills a hole, phrase text is entered, a fragment is inserted, what stands at the cursor is
-- deleted or taken out, or a hole comes beside the nearest list item
pub data PlainEdit : Type 0 where
  fill : Template → PlainEdit
  enter : PlainPhrase → PlainEdit
  insert : PlainFragment → PlainEdit
  delete : PlainEdit
  take : PlainEdit
  beside : Side → PlainEdit

-- the plain form of an edit, without the room of lists
abbrev pub plain_edit : Edit → PlainEdit
plain_edit (Edit.Fill template) = PlainEdit.fill template
plain_edit (Edit.Enter phrase) = PlainEdit.enter (plain_phrase phrase)
plain_edit (Edit.Insert fragment) = PlainEdit.insert (roomless_fragment (plain_fragment fragment))
plain_edit Edit.Delete = PlainEdit.delete
plain_edit Edit.Take = PlainEdit.take
plain_edit (Edit.Beside side) = PlainEdit.beside side

-- the phrase or fragment that an edit at the stop of the cursor brings may, as plain data, stand in a program
abbrev pub BringsWhatMayStand : Edit → Type 0
BringsWhatMayStand (Edit.Fill template) = Unit {0}
BringsWhatMayStand (Edit.Enter phrase) = IsPhrasePlace (Some (plain_phrase phrase))
BringsWhatMayStand (Edit.Insert fragment) = IsFragment (plain_fragment fragment)
BringsWhatMayStand Edit.Delete = Unit {0}
BringsWhatMayStand Edit.Take = Unit {0}
BringsWhatMayStand (Edit.Beside side) = Unit {0}
