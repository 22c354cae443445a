-- the items under a name, and one more of them: `Items::declare`
mod ItemLists
-- what is noted under names, one after the other: the calls of `Uses` that note
mod AddedUses
-- the places put in order, name after name: `Uses::settle`
mod SettledUses
-- what the maps find, and what comes into them: `Scopes` and `Headings`
mod TableMaps
-- what the table knows of the procedures that are taken: `Decls::new`
mod ReadProcedures
-- a value that is handed out once something is done with it: `pieces_with` and `affected` of Decls, `of` of NameNode
mod HandedOut
-- `NameEdit::of`: the node in the slot of an edit, and what becomes of the names that are kept there
pub mod SlotNodes
pub mod MendedNames
pub mod PreparedNames
-- `path_inside` of NameNode: the path of a slot among the names
pub mod FoundNames
-- `put_in_place` of NameNode: what becomes of a node, in the list in which it stands
pub mod OpenedNames
pub mod MendedNameLists
-- `of` and `label_of` of NameNode: the names that are kept of a node while they are gathered
pub mod MadeNames
-- `of` of NameList: the names of a phrase while they are gathered
pub mod GatheredNames
-- `without` and `with_more` of MentionList: places in order, without some and with others
pub mod MendedPlaces
-- `Decls::new`: the names that are kept of a program tell its mentions and places
pub mod KeptMentions
-- `mended` and `put_in_place` of Uses: what is left of the uses of names
pub mod MendedUses
-- `Decls::prepare`: nodes with a gap into which nodes come, and where names are mentioned before and after
pub mod Gaps
pub mod EditedUses
pub mod EditedNodes
pub mod EditedHeadings
pub mod EditedScopes
-- `note` of HeadingChanges: what the effective headings of names are
pub mod NotedHeadings
pub mod EditGaps
pub mod EditedItems
pub mod PreparedDecls
-- making room changes nothing of what a table tells: `Decls::prepare`
mod ReadyDecls
-- what an answer holds that is given where a call is Ok: `prepare`, `edit_of` and `due_of` of Decls
mod OkAnswers
-- `Decls::edit_of`: the pieces as its calls find them
pub mod EditPieces
-- which names an edit affects: `Decls::prepare`
mod AffectedHeadings
mod BoundNames
mod AffectedNames
-- the slot of a node at a path stands: `know_all`, `due` of `edit_of`
mod SitedNodes
-- names gathered: NameSet, `add_bound` of ChangedNodes
mod AddedNames
-- the tests of items and kinds by which names are gathered: `affected`
mod GatheredTests
mod ComparedItems
-- what is gathered that has to be known where phrases are checked: `know_all` of Knowledge
mod NotedItems
mod KnownTables
mod KeptOwn
mod KnownSources
mod CalledParameters
mod KnownStart
pub mod FoundSites
pub mod GatheredPlaces
-- `TablesIgnoreElision`: turning a comment changes no name that is kept
mod TurnedNames
-- `DueAreFew`: a phrase stands at each place that is due
mod FewDue
-- `DueIsOne`: lists in order that hold the same places are one
mod OneDue
-- `DueIgnoresRoom`: room plays no part in what an edit changed
mod RoomlessDue
-- `DueAreCounted`, `DueCountIgnoresRoom`: the tests by which phrases are counted as due
mod DueTests
mod CountedDue
mod RoomlessCounts
-- `due_of`: the places that are gathered as due for a check
mod GatheredDue
-- `due` of `edit_of`: what is gathered by what it is asked for
mod BoundSites
mod EditProcedures
mod TurnedHeadings
mod TopEdits
mod AffectedSites
mod DueEdits
-- `edit_of`: what its calls ask for and find
mod FoundEdits
-- `procedure_after`: the item in which something was changed
mod LeftItems
-- `changed_item` of DeclEdit: the items of a procedure after an edit
mod ChangedItems
