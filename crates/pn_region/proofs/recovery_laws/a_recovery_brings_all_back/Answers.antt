-- The laws are lemmas.
use Rattle.pn_region.proofs.Untraced.{whole, same_covers}
use Rattle.pn_region.proofs.recovery_laws.a_recovery_brings_all_back.Goals as goal

pub returns-clause-whole : goal.returns-clause-whole
returns-clause-whole c = λ broker tablet after joins copy are faithful serves honest is. whole broker tablet after joins copy are faithful serves honest is

pub returns-clause-covers : goal.returns-clause-covers
returns-clause-covers c = same_covers
