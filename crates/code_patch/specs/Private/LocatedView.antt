-- What a located node in memory is seen as.
use Rattle.code_patch.specs.declared.located.Located.{Located}
use Rattle.code_patch.specs.Private.LocatedNode.{PlainLocated}

-- a located node in memory as plain data
abbrev pub plain_located : {W : Type 0} → Located W → PlainLocated
plain_located found = record { start = found.start; node = found.node.now }
