-- What the entry found extends what the reader knew.
use Rattle.std.proofs.Common.{List, refl, ap, ◌∙◌, subst}
use mathlib.Core.List.{IsPrefix}
use Rattle.pn_tablet.specs.declared.state.TabletOp.{TabletOp}
use Rattle.pn_live.specs.Attempts.{settled_of}
use Rattle.pn_live.specs.Orders.{list_of}
use Rattle.pn_live.proofs.tablet_reader.TabletReader.enter.Goals as goal

pub returns-in-Ok : goal.returns-in-Ok
returns-in-Ok c =
    let old = c.into_handle.ensures in
    let found = c.in-Ok.ensures.answer in
    let list : List TabletOp = list_of c.in-Ok.guard.found.value in record {
      same = λ i. record {
        book = (ap (λ s. s.seen.book) found.2 ∙ old.book) i;
        range = (found.3 ∙ old.range) i;
        seen = list;
        learnt = (ap (λ s. settled_of s.seen.log) found.2 ∙ old.learnt) i;
      };
      seen = subst (λ (l : List TabletOp). IsPrefix l list) old.seen found.0;
      learnt = subst (λ (l : List TabletOp). IsPrefix l list) old.learnt found.1;
      state = refl;
    }
