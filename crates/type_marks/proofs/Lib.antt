-- a slot to which a path leads is live: `check_phrase`
mod LiveSlots
-- what is found in chains of operators: `Chain::before`
mod FoundChains
-- what is found in arguments: `fit_arguments`, `exprs_offence`
mod FoundArguments
-- which item is the effective one of its name: `item_offence`
mod EffectiveItems
-- a phrase has one verdict where tables agree on its names: `checked`
mod KnownNames
-- the procedure that a name calls: `call_offence`
mod CalledProcedures
-- where declared lists stand: `check_phrase`, `Marks::note_node`
mod DeclaredLists
-- the verdict that is kept at a place: `check_phrase`
mod PlacedVerdicts
-- verdicts noted one after the other: `Marks::new`
mod NotedVerdicts
-- main and the procedures in order: `procedure_in`, `is_named_before`
mod ProcedureLists
-- the nodes of a procedure in order: `type_in`, `has_such_before`
mod ChildLists
-- main and the procedures of a program: `check_phrase`, `Marks::new`
mod Programs
-- where a phrase stands: `check_phrase`
mod CheckedPlaces
-- what a call comes to: `call_offence`
mod CallOffences
-- the items of a declared list: `declared_offence`
mod DeclaredOffences
-- a phrase that isn't due for a check after an edit keeps its verdict: `verdicts_stay_unless_due`, `Marks::prepare`
mod AgreedVerdicts
mod FoundPhrases
mod PhrasePlaces
mod SlotNodes
mod EditedHeadings
mod EditedDeclarations
mod RoomlessPrograms
mod StayingVerdicts
mod SparedPhrases
mod StableEquations
mod UndueVerdicts
-- the verdicts with a prepared edit: `Marks::prepare`
mod DuePhrases
mod GonePhrases
mod PreparedMarks
-- declared lists that are due: `due_verdict`
mod ListedVerdicts
-- phrases that are due, one after the other, and verdicts that come and go: `check_due`, `Marks::commit`
mod CheckedDue
-- the marks of an edited tree: `MarksAfter::mark`
mod AfterMarks
