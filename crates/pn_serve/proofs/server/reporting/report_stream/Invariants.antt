-- The first publisher's input is read unless another publisher came.
use Rattle.std.proofs.Common.{◌≡◌}
use Rattle.pn_serve.specs.Server.Publishers.{IsOfPublisher}
use Rattle.pn_serve.proofs.server.reporting.report_stream.Given as goal

abbrev pub invariant-loop : goal.invariant-loop
invariant-loop g l = record {
  first : (g.O.Origin.may_go_on → ⊥) → l.input ≡ l.fn.input;
  sent : g.M.Sending.known → IsOfPublisher g.M.Sending.sends g.S.Source.left l.input.reader;
}
