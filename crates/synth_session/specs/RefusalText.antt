-- Which message is shown for each refusal of a key, and as which text.
use Rattle.std.specs.Prelude.{ℕ, List, [], Option, Some, None}
use Rattle.std.specs.Option.{option_map_or}
use Rattle.phrase_parser.specs.declared.fault.PhraseFault.{PhraseFault}
use Rattle.phrase_parser.specs.declared.fault.PhraseFault.TheVariants as fault
use Rattle.session_words.specs.declared.message.Message.{Message}
use Rattle.session_words.specs.declared.message.RefusalMessage.TheVariants as words
use Rattle.session_words.specs.Message.{message_text}
use Rattle.template_tree.specs.declared.tree_fault.TreeFault.{TreeFault}
use Rattle.plcs_store.specs.declared.refusal.ResumeRefusal.{ResumeRefusal}
use Rattle.file_store.specs.declared.refusal.FileRefusal.{FileRefusal}
use Rattle.synth_session.specs.declared.answer.ClipRefusal.{ClipRefusal}
use Rattle.synth_session.specs.declared.answer.Refusal.{Refusal}
use Rattle.synth_session.specs.declared.answer.Refusal.TheVariants as why

-- the message for phrase text that is refused; want of memory has none
abbrev pub phrase_message : PhraseFault → Option Message
phrase_message (fault.Syntax place) = Some (Message.Refusal (words.SyntaxAt place))
phrase_message (fault.NumberTooLarge place) = Some (Message.Refusal (words.NumberTooLargeAt place))
phrase_message (fault.TooDeep place) = Some (Message.Refusal (words.PhraseTooDeepAt place))
phrase_message fault.OutOfMemory = None

-- the message for a file that is refused; want of memory has none
abbrev pub file_message : FileRefusal → Option Message
file_message FileRefusal.NoFile = Some (Message.Refusal words.NoFile)
file_message FileRefusal.FileFault = Some (Message.Refusal words.FileFault)
file_message (FileRefusal.NotAListing line) = Some (Message.Refusal (words.NotAListing line))
file_message FileRefusal.TooDeep = Some (Message.Refusal words.FileTooDeep)
file_message FileRefusal.TooLarge = Some (Message.Refusal words.FileTooLarge)
file_message FileRefusal.TooLong = Some (Message.Refusal words.FileTooLong)
file_message FileRefusal.OutOfMemory = None

-- the message for an edit of the tree that is refused; want of memory has none
abbrev pub tree_message : TreeFault → Option Message
tree_message TreeFault.NotHere = Some (Message.Refusal words.NotHere)
tree_message TreeFault.TooDeep = Some (Message.Refusal words.TreeTooDeep)
tree_message TreeFault.TooLarge = Some (Message.Refusal words.TreeTooLarge)
tree_message TreeFault.SlotsUsedUp = Some (Message.Refusal words.SlotsUsedUp)
tree_message TreeFault.OutOfMemory = None

-- the message for a run that may not go on
abbrev pub resume_message : ResumeRefusal → Message
resume_message (ResumeRefusal.HeadingChanged slot) = Message.Refusal (words.HeadingChanged slot.0)
resume_message (ResumeRefusal.DeclarationChanged slot) = Message.Refusal (words.DeclarationChanged slot.0)
resume_message (ResumeRefusal.TemplateChanged slot) = Message.Refusal (words.TemplateChanged slot.0)

-- the message for a refusal; want of memory has none
abbrev pub refusal_message : Refusal → Option Message
refusal_message why.UnknownCommand = Some (Message.Refusal words.UnknownCommand)
refusal_message why.NotHere = Some (Message.Refusal words.NotHere)
refusal_message (why.Phrase fault) = phrase_message fault
refusal_message (why.Clip ClipRefusal.NoClip) = Some (Message.Refusal words.NoClip)
refusal_message (why.Clip ClipRefusal.Full) = Some (Message.Refusal words.ClipsFull)
refusal_message (why.File refusal) = file_message refusal
refusal_message why.NoRun = Some (Message.Refusal words.NoRun)
refusal_message why.RunEnded = Some (Message.Refusal words.RunEnded)
refusal_message why.NoHistory = Some (Message.Refusal words.NoHistory)
refusal_message (why.Resume refusal) = Some (resume_message refusal)
refusal_message (why.Tree fault) = tree_message fault
refusal_message why.WrongArgument = Some (Message.Refusal words.WrongArgument)
refusal_message why.PhraseFull = Some (Message.Refusal words.PhraseFull)
refusal_message why.FloatNotThere = Some (Message.Refusal words.FloatNotThere)
refusal_message why.AtEdge = Some (Message.Refusal words.AtEdge)
refusal_message why.NothingToUndo = Some (Message.Refusal words.NothingToUndo)

-- the text that is shown for the message of a refusal, or for another message, or nothing where there is none
abbrev pub shown_message : Option Message → List ℕ
shown_message message = option_map_or message_text message []

-- the text that is shown for a refusal
abbrev pub refusal_text : Refusal → List ℕ
refusal_text refusal = shown_message (refusal_message refusal)
