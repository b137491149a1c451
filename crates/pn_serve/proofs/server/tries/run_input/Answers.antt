-- The round is of the input whose cells were finished.
use Rattle.std.proofs.Common.{sym, subst}
use Rattle.std.specs.List.{All}
use Rattle.pn_serve.specs.Server.Rounds.{RoundInputValue, Continues, RunsInput}
use Rattle.pn_serve.proofs.server.tries.run_input.Goals as goal

pub run_finished-requires-clause-continues : goal.run_finished-requires-clause-continues
run_finished-requires-clause-continues g c κs within =
    subst (λ (input : RoundInputValue). All (Continues c.args.live.now.marks) input.deliveries) (sym c.finish_cells.ensures) c.requires.continues

pub returns-clause-runs : goal.returns-clause-runs
returns-clause-runs g c =
    subst (λ (input : RoundInputValue). RunsInput c.args.at_fault input c.args.live.now c.run_finished.new.live c.run_finished.result) c.finish_cells.ensures c.run_finished.ensures.runs
