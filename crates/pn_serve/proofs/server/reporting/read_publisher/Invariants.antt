-- What was read so far is messages in step.
use Rattle.std.proofs.Common.{◌≡◌, ◌≤◌, max}
use Rattle.pn_serve.proofs.PublishersRead.{WasReadBy}
use Rattle.pn_serve.proofs.server.reporting.read_publisher.Given as goal

abbrev pub invariant-loop : goal.invariant-loop
invariant-loop g l = record {
  read : WasReadBy g.S.Source.left l.fn.input.before l.fn.input.reader l.input.before l.input.reader;
  last : l.fn.input.reader.position ≤ l.fn.input.last → l.input.last ≡ max l.fn.input.last l.input.reader.position;
  name : l.input.reader.name ≡ l.fn.input.reader.name;
}
