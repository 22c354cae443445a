-- Where a phrase begins with a name that stands behind nothing, or has no tokens, the state is the one of its category.
use Rattle.phrase_parser.proofs.builder.state.start_state.Goals as goal

pub returns-in-Assignment : goal.returns-in-Assignment
returns-in-Assignment c = rw c.in-Assignment.is

pub returns-in-Variable : goal.returns-in-Variable
returns-in-Variable c = rw c.in-Variable.is

pub returns-in-CallRef : goal.returns-in-CallRef
returns-in-CallRef c = rw c.in-CallRef.is

pub returns-in-ProcedureName : goal.returns-in-ProcedureName
returns-in-ProcedureName c = rw c.in-ProcedureName.is

pub returns-in-Length : goal.returns-in-Length
returns-in-Length c = rw c.in-Length.is

pub returns-in-CommentText : goal.returns-in-CommentText
returns-in-CommentText c = rw c.in-CommentText.is
