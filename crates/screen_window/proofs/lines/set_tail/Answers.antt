use Rattle.std.proofs.Common.{◌-◌, ◌++◌, length, take, replicate}
use Rattle.screen_window.proofs.ChangedLines.{changed_line}
use Rattle.screen_window.proofs.lines.set_tail.Goals as goal

pub returns : goal.returns
returns c =
    changed_line (λ line. line.items) c.args.lines.now.items c.args.row c.index_mut.result.now c.blank_tail.new.line
    (λ line. take c.args.col line ++ replicate (length line - c.args.col) 32) c.requires.row c.index_mut.ensures.value c.blank_tail.ensures
