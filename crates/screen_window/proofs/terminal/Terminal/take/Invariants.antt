use Rattle.std.proofs.Common.{◌≡◌, take}
use Rattle.screen_window.specs.Terminal.{Term}
use Rattle.screen_window.proofs.terminal.Terminal.take.Given as goal

-- the bytes before this one were taken
abbrev pub invariant-loop-byte : goal.invariant-loop-byte
invariant-loop-byte l = l.self ≡ Term l.fn.self (take l.byte-index l.bytes)
