-- What loading a file does, before a session is opened.
use Rattle.std.specs.Prelude.{◌≡◌, ℕ, ◌≤◌, List, Option, Some, None, Vec, length}
use Rattle.std.specs.declared.alloc.Global.{Global}
use Rattle.plcs_base.specs.Count.{RoseBy}
use Rattle.synth_outside.specs.Files.{PlainFiles}
use Rattle.template_tree.specs.Programs.PlainTree.{PlainTree}
use Rattle.template_tree.specs.Programs.Tree.{IsTree}
use Rattle.file_store.specs.declared.refusal.FileRefusal.{FileRefusal}
use Rattle.file_store.specs.Limit.{longest_input}
use Rattle.synth_session.specs.KeyReply.{CanReply, Reply}
use Rattle.synth_top.specs.declared.loading.FileLoad.{FileLoad}
use Rattle.synth_top.specs.Loads.{CanLoad, InputReply, IsInputReply, PlainFirstLoads, input_failure, load_failures, program_request}
use Rattle.synth_top.specs.Options.{PlainOptions}
use Rattle.synth_top.specs.Turn.{failure}

-- ---- what the files did

-- loading a file only read the files, without want of memory, and so many calls on them failed
pub record OnlyRead (failures : ℕ) (before now : PlainFiles) : Type 0 where
  pub stored : now.stored ≡ before.stored
  pub later : before.faults ≤ now.faults
  pub faults : RoseBy failures before.faults now.faults
  pub wants : now.wants ≡ before.wants

-- loading the program, before a session is opened, did this with the files, and gave this reply
pub record ProgramLoads (name : Option (List ℕ)) (reply : Reply) (before now : PlainFiles) : Type 0 where
  pub can : CanReply before.stored (program_request name) reply
  pub read : OnlyRead (failure reply) before now

-- loading the input, before a session is opened, did this with the files, and gave this reply
pub record InputLoads (name : Option (List ℕ)) (reply : InputReply) (before now : PlainFiles) : Type 0 where
  pub can : IsInputReply before.stored name reply
  pub read : OnlyRead (input_failure reply) before now

-- loading both program and input, before a session is opened, did this with the files
pub record BothLoad (options : PlainOptions) (loads : PlainFirstLoads) (before now : PlainFiles) : Type 0 where
  pub can : CanLoad options before.stored loads
  pub read : OnlyRead (load_failures loads) before now

-- memory ran out in the loading of a file, before a session is opened: the map is as before, and the counts haven't
-- fallen
pub record LoadsNothing (before now : PlainFiles) : Type 0 where
  pub stored : now.stored ≡ before.stored
  pub faults : before.faults ≤ now.faults
  pub wants : before.wants ≤ now.wants

-- ---- what was loaded

-- what loading a file gave, before a session is opened: the content, if it was loaded
abbrev pub load_content : {T : Type 0} → FileLoad T → Option T
load_content (FileLoad.Loaded content) = Some content
load_content load = None

-- what loading a file answered, before a session is opened: why it was refused, if it was
abbrev pub load_refusal : {T : Type 0} → FileLoad T → Option FileRefusal
load_refusal (FileLoad.Refused refusal) = Some refusal
load_refusal load = None

-- what loading the file of the program gave, before a session is opened, is a tree
abbrev pub IsTreeIfLoaded : FileLoad PlainTree → Type 0
IsTreeIfLoaded (FileLoad.Loaded tree) = IsTree tree
IsTreeIfLoaded load = Unit {0}

-- what loading the file of the input gave, before a session is opened, is no longer than the input may be
abbrev pub IsInputIfLoaded : FileLoad (Vec ℕ Global) → Type 0
IsInputIfLoaded (FileLoad.Loaded bytes) = length bytes.items ≤ longest_input
IsInputIfLoaded load = Unit {0}
