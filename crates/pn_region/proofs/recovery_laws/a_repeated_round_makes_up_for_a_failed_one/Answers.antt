-- The laws are lemmas.
use Rattle.pn_region.proofs.Repeats.{makes_up}
use Rattle.pn_region.proofs.Events.{new_region_rises, event_rises}
use Rattle.pn_region.proofs.recovery_laws.a_repeated_round_makes_up_for_a_failed_one.Goals as goal

pub returns-clause-makes_up : goal.returns-clause-makes_up
returns-clause-makes_up c = λ start failed later end deliveries events rise left are lead is. makes_up start failed later end deliveries events rise are lead is left

pub returns-clause-new : goal.returns-clause-new
returns-clause-new c = new_region_rises

pub returns-clause-kept : goal.returns-clause-kept
returns-clause-kept c = event_rises
