-- The tablet was found in its present state.
use Rattle.std.proofs.Common.{Some, refl}
use Rattle.pn_region.proofs.reads.RefRegionView.part.Goals as goal

pub returns-clause-look : goal.returns-clause-look
returns-clause-look c = (
  Some c.state.result.now,
  record {
    looked = (refl, record { stands = c.state.ensures.there; entered = refl });
    found = c.state.ensures.of;
    answers = c.part_of.ensures.answers;
  },
)
