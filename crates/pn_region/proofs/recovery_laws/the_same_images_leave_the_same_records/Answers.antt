-- The laws are lemmas.
use Rattle.pn_region.specs.Events.{all_taken}
use Rattle.pn_region.proofs.EventImages.{taken_together, alike}
use Rattle.pn_region.proofs.recovery_laws.the_same_images_leave_the_same_records.Goals as goal

pub returns : goal.returns
returns c = λ broker bounds others events more one other lawful lead honest serve are lawful_too lead_too honest_too serve_too are_too same.
    alike one other (all_taken broker events) (all_taken broker more) (taken_together broker bounds events one lawful lead honest serve are)
    (taken_together broker others more other lawful_too lead_too honest_too serve_too are_too) same
