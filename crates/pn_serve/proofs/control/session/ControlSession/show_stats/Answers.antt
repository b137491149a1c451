-- The statistics are shown.
use Rattle.pn_serve.proofs.ControlSteps.{says_line, shows_done}
use Rattle.pn_serve.proofs.control.session.ControlSession.show_stats.Goals as goal

pub returns-in-Ok : goal.returns-in-Ok
returns-in-Ok g c = shows_done c.in-Ok.stats c.args.tablets _ c.in-Ok.ensures (says_line _ _ _ c.stats_reply.ensures c.answer_text.ensures)
