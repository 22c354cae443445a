-- What the reader has taken so far is the front of a listing, and the loop keeps this. At the end no byte is left, or
-- what is left is no whole line, so the answer is that of the lines taken: their program, or the line after them.
use Rattle.std.proofs.Common.{arith, refl, subst, sym}
use Rattle.std.proofs.lemmas.Result.{err_from_is_err_and}
use Rattle.file_store.specs.Private.Views.{come_of}
use Rattle.file_store.specs.Loaded.{RefusalSays}
use Rattle.file_store.proofs.LoadedTrees.{fits, loaded}
use Rattle.file_store.proofs.ReadListings.{few_lines, line_left, line_refused, one_more, unended}
use Rattle.file_store.proofs.RefusedLines.{unfinished_refused}
use Rattle.file_store.proofs.reader.read_started.Goals as goal

pub taken-requires-clause-few : goal.taken-requires-clause-few
taken-requires-clause-few c =
    omega (
      arith,
      few_lines c.args.bytes.now c.loop-line.rest.now (come_of c.loop-line.reader) c.loop-line.invariant.0,
      line_left c.loop-line.rest.now c.in-Some.line.now c.in-Some.more.now c.in-Some.ensures.0,
      c.requires.short,
    )

pub returns-in_err-reader : goal.returns-in_err-reader
returns-in_err-reader c =
    let p = err_from_is_err_and c.from_residual.result c.from_residual.ensures.1 in
    rw (p.1, p.2)
    (line_refused c.line_laws.ensures c.args.bytes.now c.loop-line.rest.now c.in-Some.line.now c.in-Some.more.now (come_of c.loop-line.reader) _
    c.requires.short c.loop-line.invariant.0 c.in-Some.ensures.0 c.in-Some.ensures.1 c.in_err-reader.ensures.refused)

pub loop-line-preserved : goal.loop-line-preserved
loop-line-preserved c = (
  one_more c.args.bytes.now c.loop-line.rest.now c.in-Some.line.now c.in-Some.more.now (come_of c.loop-line.reader) (come_of c.in_ok-reader.reader)
      c.loop-line.invariant.0 c.in-Some.ensures.0 c.in_ok-reader.ensures.taken,
  c.in-Some.ensures.2,
)

pub overflow_add-number : goal.overflow_add-number
overflow_add-number c =
    omega (arith, few_lines c.args.bytes.now c.loop-line.rest.now (come_of c.loop-line.reader) c.loop-line.invariant.0, c.requires.short)

pub returns-then-is_left : goal.returns-then-is_left
returns-then-is_left c =
    unended c.line_laws.ensures c.args.bytes.now c.loop-line.rest.now (come_of c.loop-line.reader) _ c.requires.short
    c.loop-line.invariant.0 c.in_default.ensures (c.is_left.ensures.left c.if-is_left.true) refl

pub tree_of-requires-clause-program : goal.tree_of-requires-clause-program
tree_of-requires-clause-program c =
    (fits c.args.bytes.now c.loop-line.rest.now (come_of c.loop-line.reader) c.in-Ok.items c.loop-line.invariant.0 c.in-Ok.ensures).program

pub tree_of-requires-clause-shallow : goal.tree_of-requires-clause-shallow
tree_of-requires-clause-shallow c =
    (fits c.args.bytes.now c.loop-line.rest.now (come_of c.loop-line.reader) c.in-Ok.items c.loop-line.invariant.0 c.in-Ok.ensures).shallow

pub tree_of-requires-clause-few : goal.tree_of-requires-clause-few
tree_of-requires-clause-few c =
    (fits c.args.bytes.now c.loop-line.rest.now (come_of c.loop-line.reader) c.in-Ok.items c.loop-line.invariant.0 c.in-Ok.ensures).few

pub returns-in-Ok : goal.returns-in-Ok
returns-in-Ok c =
    loaded c.args.bytes.now c.loop-line.rest.now (come_of c.loop-line.reader) c.in-Ok.items c.tree_of.result
    c.loop-line.invariant.0 (c.is_left.ensures.none c.if-is_left.false) c.in-Ok.ensures c.tree_of.ensures.built c.tree_of.ensures.tree

pub returns-in-Err : goal.returns-in-Err
returns-in-Err c =
    subst (RefusalSays c.args.bytes.now) (sym c.refused_in.ensures)
    (unfinished_refused c.line_laws.ensures c.args.bytes.now c.loop-line.rest.now (come_of c.loop-line.reader) c.in-Err.fault
    c.requires.short c.loop-line.invariant.0 (c.is_left.ensures.none c.if-is_left.false) c.in-Err.ensures)
