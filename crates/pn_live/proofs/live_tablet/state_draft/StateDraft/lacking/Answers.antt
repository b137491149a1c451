-- The state takes the join.
use Rattle.pn_live.proofs.live_tablet.state_draft.StateDraft.lacking.Goals as goal

pub invariant_of-result : goal.invariant_of-result
invariant_of-result c = record { join = c.requires.join; positions = c.requires.positions }
