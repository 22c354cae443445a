use Rattle.std.proofs.Common.{◌∙◌, ◌+◌, if◌then◌else◌, ap, sym, subst, refl, Some, None}
use Rattle.file_store.specs.Private.Reading.{IsLineRefused, IsPast}
use Rattle.file_store.specs.Private.Views.{come_of, said_of, open_nodes_of}
use Rattle.file_store.proofs.ReadListings.{past_refused}
use Rattle.file_store.proofs.RefusedLines.{unread_refused, untaken_refused}
use Rattle.file_store.proofs.reader.Reader.taken.Goals as goal

pub returns-in-Err-clause-refused : goal.returns-in-Err-clause-refused
returns-in-Err-clause-refused c =
    subst (IsLineRefused c.args.line.now (come_of c.args.self)) (sym c.refused_in-in-Err.ensures)
    (unread_refused c.args.line.now (come_of c.args.self) c.in-Err.fault c.in-Err.ensures.says)

pub returns-in-Err-line_taken-clause-refused : goal.returns-in-Err-line_taken-clause-refused
returns-in-Err-line_taken-clause-refused c =
    subst (IsLineRefused c.args.line.now (come_of c.args.self)) (sym c.refused_in.ensures)
    (untaken_refused c.line_laws.ensures c.args.line.now (come_of c.args.self) (said_of c.in-Ok.said) c.in-Err-line_taken.fault
    c.in-Ok.ensures.says c.in-Err-line_taken.ensures)

pub returns-in-Some-clause-refused : goal.returns-in-Some-clause-refused
returns-in-Some-clause-refused c =
    past_refused c.args.line.now (come_of c.args.self) (said_of c.in-Ok.said) (open_nodes_of c.in-Ok-line_taken.stack) c.in-Some.refusal c.in-Ok.ensures.says c.in-Ok-line_taken.ensures
    (subst (λ b. IsPast b c.in-Ok.said.level c.args.self.opened (Some c.in-Some.refusal)) c.opens-opens.ensures c.in-Some.ensures)

pub returns-in-None-clause-taken : goal.returns-in-None-clause-taken
returns-in-None-clause-taken c =
    let past = subst (λ b. IsPast b c.in-Ok.said.level c.args.self.opened None) c.opens-opens.ensures c.in-None.ensures in (
      said_of c.in-Ok.said,
      record {
        says = c.in-Ok.ensures.says;
        steps = c.in-Ok-line_taken.ensures;
        may_open = record { shallow = past.0; few = past.1 };
        lines = refl;
        opened = c.counted.ensures ∙ ap (λ b. (if b then 1 else 0) + c.args.self.opened) c.opens-opens.ensures;
      },
    )
