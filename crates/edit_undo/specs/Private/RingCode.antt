-- How the edits of a ring are told apart.
use Rattle.std.specs.Prelude.{List}
use Rattle.std.specs.Coded.{Coded, coded_list}
use Rattle.edit_undo.specs.contracts.edit_record.EditRecord as record_row
use Rattle.edit_undo.specs.declared.edit_record.EditRecord.{EditRecord}

-- the edits of a ring are told apart one by one
abbrev pub ring_code : Coded (List EditRecord)
ring_code = coded_list record_row.the_row.coded
