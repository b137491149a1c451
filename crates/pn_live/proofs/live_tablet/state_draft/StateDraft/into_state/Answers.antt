-- The state is caught up.
use Rattle.std.proofs.Common.{sym, ap, ◌∙◌}
use Rattle.pn_live.specs.Attempts.{caught_up}
use Rattle.pn_live.proofs.live_tablet.state_draft.StateDraft.into_state.Goals as goal

pub returns-in-None : goal.returns-in-None
returns-in-None c = sym (ap (caught_up c.self.inside.state) c.in-None.is) ∙ c.self.view_is

pub returns-in_ok-take_join-in-Some : goal.returns-in_ok-take_join-in-Some
returns-in_ok-take_join-in-Some c = c.in_ok-take_join-in-Some.ensures ∙ sym (ap (caught_up c.self.inside.state) c.in-Some.is) ∙ c.self.view_is
