-- A join that is taken makes the state after it.
use Rattle.std.proofs.Common.{sym}
use Rattle.pn_live.proofs.Appending.{after_ok}
use Rattle.pn_live.proofs.live_tablet.state_draft.take_join.Goals as goal

pub returns-in-Ok : goal.returns-in-Ok
returns-in-Ok c = sym (after_ok c.args.state c.apply.new.self c.args.join.now c.in-Ok.ensures.ok)
