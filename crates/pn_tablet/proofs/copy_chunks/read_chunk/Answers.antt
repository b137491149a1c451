-- One line more is read, until one is bad or the end.
use Rattle.std.proofs.Common.{arith}
use Rattle.pn_tablet.proofs.CopyChunkLaws.{none_read, one_read}
use Rattle.pn_tablet.proofs.copy_chunks.read_chunk.Goals as goal

pub lines-init : goal.lines-init
lines-init c = record {
  begins = none_read c.args.form c.args.text.now _ c.new-says.ensures.items;
  within = omega arith;
}

pub lines-preserved : goal.lines-preserved
lines-preserved c = record {
  begins = one_read c.args.form c.args.text.now c.lines.rest.now c.in-Some.line.now c.in-Some.after.now c.lines.says.items _ c.lines.invariant.begins c.in-Some.ensures.0 (c.push_line.ensures.added c.if-not-push_line.false);
  within = omega (arith, c.in-Some.ensures.1, c.lines.invariant.within);
}
