-- The message that was read alone is a batch of one.
use Rattle.std.proofs.Common.{refl, sym}
use Rattle.pn_stream.proofs.Runs.{Batch-first}
use Rattle.pn_stream.proofs.first.first_message.Goals as goal

pub returns-clause-first : goal.returns-clause-first
returns-clause-first g c =
    let here = rw c.in-Some.is at c.in_ok-found.ensures.taken in record {
      batch = rw (sym c.in_ok-line.ensures.front)
          (Batch-first _ _ c.in-Some.first _ _ _ c.in_ok-images.ensures.image here.none here.in_range (rw c.in-Some.is at c.in_ok-found.ensures.next));
      one = rw c.in_ok-images.ensures.image refl;
      in_range = here.in_range;
      up_to = c.in_ok-check_no_gap.ensures.ok;
    }
