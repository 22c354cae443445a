use Rattle.std.proofs.Common.{◌+◌, [], ◌∷◌, ◌++◌, append-nil, ap, ◌∙◌, sym, subst}
use Rattle.terminal_keys.specs.Sequence.{bell, can_follow, passed_of_sequence}
use Rattle.terminal_keys.specs.Private.PassedSoFar.{GivesMore}
use Rattle.terminal_keys.proofs.Cuts.{any_begins, lacking_passes, more_broken}
use Rattle.terminal_keys.proofs.cutting.Begun.take.Goals.{then-not-can_follow, else-not-can_follow}
use Rattle.terminal_keys.proofs.cutting.Begun.take.Goals as goal

-- any byte follows where no sequence has begun
pub go_on-requires-clause-follows : goal.go_on-requires-clause-follows
go_on-requires-clause-follows c =
    elim c.if-not-can_follow.branch [
      | then-not-can_follow w ↦ ap (λ begun. can_follow begun.bytes.items c.args.byte) w.self-is ∙ ap (λ begun. can_follow begun c.args.byte) w.break_off.ensures.none ∙ any_begins c.args.byte
      | else-not-can_follow w ↦ ap (λ begun. can_follow begun.bytes.items c.args.byte) w.self-is ∙ ap (λ begun. can_follow begun c.args.byte) (sym c.as_slice.ensures.value) ∙ sym c.can_follow.ensures ∙ w.if-not-can_follow.false
    ]

-- where the byte can't follow, the begun sequence is broken off and gives what it gives
pub returns-clause-passes : goal.returns-clause-passes
returns-clause-passes c =
    elim c.if-not-can_follow.branch [
      | then-not-can_follow w ↦
          more_broken passed_of_sequence c.args.self.now.bytes.items c.args.byte
          c.args.passes.now.items c.args.passes.now.items c.go_on.new.passes.items c.go_on.new.self.bytes.items
          c.args.self.now.lacks (ap (λ begun. can_follow begun c.args.byte) (sym c.as_slice.ensures.value) ∙ sym c.can_follow.ensures ∙ w.if-not-can_follow.true)
          (sym (append-nil c.args.passes.now.items)
          ∙ ap (λ all. c.args.passes.now.items ++ all) (sym (lacking_passes c.args.self.now.bytes.items c.args.self.now.lacks)))
          (subst (λ begun. GivesMore passed_of_sequence begun (c.args.byte ∷ []) c.args.passes.now.items c.go_on.new.passes.items c.go_on.new.self.bytes.items)
          (ap (λ begun. begun.bytes.items) w.self-is ∙ w.break_off.ensures.none) c.go_on.ensures.passes)
      | else-not-can_follow w ↦
          subst (λ begun. GivesMore passed_of_sequence begun (c.args.byte ∷ []) c.args.passes.now.items c.go_on.new.passes.items c.go_on.new.self.bytes.items)
          (ap (λ begun. begun.bytes.items) w.self-is) c.go_on.ensures.passes
    ]

pub returns-clause-bells : goal.returns-clause-bells
returns-clause-bells c =
    elim c.if-not-can_follow.branch [
      | then-not-can_follow w ↦
          more_broken bell c.args.self.now.bytes.items c.args.byte
          c.args.bells.now.items c.if-not-can_follow.bells.items c.go_on.new.bells.items c.go_on.new.self.bytes.items
          c.args.self.now.lacks (ap (λ begun. can_follow begun c.args.byte) (sym c.as_slice.ensures.value) ∙ sym c.can_follow.ensures ∙ w.if-not-can_follow.true)
          (ap (λ bells. bells.items) w.bells-is ∙ w.break_off.ensures.bells)
          (subst (λ begun. GivesMore bell begun (c.args.byte ∷ []) c.if-not-can_follow.bells.items c.go_on.new.bells.items c.go_on.new.self.bytes.items)
          (ap (λ begun. begun.bytes.items) w.self-is ∙ w.break_off.ensures.none) c.go_on.ensures.bells)
      | else-not-can_follow w ↦
          subst (λ begun. GivesMore bell begun (c.args.byte ∷ []) c.args.bells.now.items c.go_on.new.bells.items c.go_on.new.self.bytes.items)
          (ap (λ begun. begun.bytes.items) w.self-is)
          (subst (λ bells. GivesMore bell c.if-not-can_follow.self.bytes.items (c.args.byte ∷ []) bells c.go_on.new.bells.items c.go_on.new.self.bytes.items)
          (ap (λ bells. bells.items) w.bells-is) c.go_on.ensures.bells)
    ]
