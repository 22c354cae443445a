use Rattle.std.proofs.Common.{◌+◌, ◌++◌, arith, ap, ◌∙◌, sym}
use Rattle.terminal_keys.specs.Sequence.{bell, is_whole, passed_of_sequence}
use Rattle.terminal_keys.proofs.Cuts.{lacking_short, more_lacking, more_whole, nothing_lacks}
use Rattle.terminal_keys.proofs.cutting.Begun.go_on.Goals as goal

-- the sequence lacked bytes, so it is shorter than the longest
pub push-requires : goal.push-requires
push-requires c = let short = lacking_short c.args.self.now.bytes.items c.args.self.now.lacks in (omega arith, omega (arith, short))

-- no sequence has begun
pub invariant_of-self : goal.invariant_of-self
invariant_of-self c = record { lacks = ap is_whole c.clear.ensures ∙ nothing_lacks }

-- the sequence is whole with the byte
pub returns-then-is_whole-clause-passes : goal.returns-then-is_whole-clause-passes
returns-then-is_whole-clause-passes c = λ rest.
    rw c.clear.ensures
    (more_whole passed_of_sequence c.args.self.now.bytes.items c.args.byte c.args.passes.now.items c.give.new.passes.items
    c.args.self.now.lacks c.requires.follows
    (ap is_whole (sym (c.as_slice.ensures.value ∙ c.push.ensures.items)) ∙ sym c.is_whole.ensures ∙ c.if-is_whole.true)
    (c.give.ensures.passes ∙ ap (λ s. c.args.passes.now.items ++ passed_of_sequence s) (c.as_slice-then-is_whole.ensures.value ∙ c.push.ensures.items))
    rest)

pub returns-then-is_whole-clause-bells : goal.returns-then-is_whole-clause-bells
returns-then-is_whole-clause-bells c = λ rest.
    rw c.clear.ensures
    (more_whole bell c.args.self.now.bytes.items c.args.byte c.args.bells.now.items c.give.new.bells.items
    c.args.self.now.lacks c.requires.follows
    (ap is_whole (sym (c.as_slice.ensures.value ∙ c.push.ensures.items)) ∙ sym c.is_whole.ensures ∙ c.if-is_whole.true)
    (c.give.ensures.bells ∙ ap (λ s. c.args.bells.now.items ++ bell s) (c.as_slice-then-is_whole.ensures.value ∙ c.push.ensures.items))
    rest)

-- it still lacks bytes
pub returns-else-is_whole-clause-passes : goal.returns-else-is_whole-clause-passes
returns-else-is_whole-clause-passes c = λ rest.
    rw c.push.ensures.items
    (more_lacking passed_of_sequence c.args.self.now.bytes.items c.args.byte c.args.passes.now.items c.args.self.now.lacks c.requires.follows rest)

pub returns-else-is_whole-clause-bells : goal.returns-else-is_whole-clause-bells
returns-else-is_whole-clause-bells c = λ rest.
    rw c.push.ensures.items
    (more_lacking bell c.args.self.now.bytes.items c.args.byte c.args.bells.now.items c.args.self.now.lacks c.requires.follows rest)
