-- The laws are lemmas.
use Rattle.pn_region.proofs.Untraced.{untraced}
use Rattle.pn_region.proofs.recovery_laws.a_recovery_leaves_no_trace.Goals as goal

pub returns : goal.returns
returns c = λ broker tablet after joins copy are faithful serves honest is. untraced broker tablet after joins copy are faithful serves honest is
