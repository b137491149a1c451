-- The laws are lemmas.
use Rattle.std.proofs.Common.{ap, ◌∙◌}
use Rattle.pn_region.proofs.Common.{RegionValue, all_cells}
use Rattle.pn_region.proofs.Relaying.{relays, same_records}
use Rattle.pn_region.proofs.laws.a_change_of_layout_keeps_all_records.Goals as goal

pub returns-clause-cells : goal.returns-clause-cells
returns-clause-cells c = λ old new bounds is lawful changed. ap (λ (r : RegionValue). all_cells r) (relays old new bounds changed).is ∙ same_records old bounds lawful is

pub returns-clause-served : goal.returns-clause-served
returns-clause-served c = λ old new bounds changed. (relays old new bounds changed).served

pub returns-clause-serve : goal.returns-clause-serve
returns-clause-serve c = λ old new bounds changed. (relays old new bounds changed).serve
