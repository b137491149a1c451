-- Fewer workers share what is left.
use Rattle.std.proofs.Common.{◌+◌, ◌*◌, ◌-◌}
use Rattle.pn_apply.proofs.working.+parts.Given as goal

abbrev pub decreases-work_span : goal.decreases-work_span
decreases-work_span g l = 4 * l.span.workers

abbrev pub decreases-work_parts : goal.decreases-work_parts
decreases-work_parts g l = 4 * (l.spans.0.workers + l.spans.1.workers) - 1

abbrev pub decreases-work_parts-front : goal.decreases-work_parts-front
decreases-work_parts-front g l = 4 * l.first.workers + 1

abbrev pub decreases-work_parts-back : goal.decreases-work_parts-back
decreases-work_parts-back g l = 4 * l.second.workers + 1
